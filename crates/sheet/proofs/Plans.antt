-- A run of items in two passes, in either direction: the answer is found, then the bytes are written.
use Prim.Native.Nat.{ℕ, zero, suc, ◌+◌, ◌-◌, ◌<◌, ◌≤◌}
use native.Mathlib.Omega.{arith}
use native.Mathlib.Numerals.{add-one}
use native.Mathlib.Nat.{zero-add}
use mathlib.Core.Bool.{true}
use mathlib.Core.Path.{◌≡◌, refl, sym, ap, ◌∙◌}
use mathlib.Core.List.{List, [], ◌++◌}
use lib.ListN.{length, drop, length-append}
use lib.Dec.{leb, ltb}
use borrow.Author.Tests.{leb-true, ltb-true, ltb-false, lt-ltb, le-ltb, le-leb, lt-leb}
use Rattle.base.specs.Choice.{pick}
use Rattle.line_rows.specs.declared.Form.TheVariants.{Sheet}
use Rattle.line_rows.specs.Rows.{row_most, header}
use Rattle.printing.specs.Decimal.{Put}
use Rattle.std.specs.Prelude.{Option, Some, None, Result, Ok, Err, ok_or}
use Rattle.sheet.specs.declared.Refusal.{Refusal}
use Rattle.sheet.specs.declared.Refusal.TheVariants.{WrongForm}
use Rattle.sheet.specs.declared.Refused.{Refused}
use Rattle.sheet.specs.Rows.{starts_with}
use Rattle.sheet.specs.Sheets.{Item, item, wrong, Made, made, refused, before, goes_on_lem, each_by, each, row_item, import_of, no_room, answer, buffer}
use Rattle.sheet.specs.Code.{total_of, more_bytes, made_of}
use Rattle.base.proofs.Tests.{of-choice, by-test}
use Rattle.sheet.proofs.Cells.{starts-text}
use Rattle.sheet.proofs.Runs.{each-some}

-- ---- a total

pub over-all : (room k : ℕ) → room < k → None ≡ total_of room k
over-all room k h = rw (lt-ltb room k h) refl

pub in-room : (room k s : ℕ) → k ≤ room → s ≡ k → Some s ≡ total_of room k
in-room room k s h e = rw (e, le-ltb room k h) refl

total-over : (room k : ℕ) → None ≡ total_of room k → room < k
total-over room k e = by-test (ltb room k) (λ t. ltb-true room k t) (λ f. let x : None ≡ Some k = rw f at e in cc)

total-in : (room k n : ℕ) → Some n ≡ total_of room k → (k ≤ room) × (n ≡ k)
total-in room k n e =
    by-test (ltb room k)
    (λ t. let x : Some n ≡ None = rw t at e in cc)
    (λ f. let x : Some n ≡ Some k = rw f at e in (ltb-false room k f, cc))

pub total-more : (t : Option ℕ) (room k : ℕ) → t ≡ total_of room k → (size : ℕ) → more_bytes t size room ≡ total_of room (k + size)
total-more None room k e size = over-all room (k + size) (omega (arith, total-over room k e))
total-more (Some n) room k e size = ap (λ (m : ℕ). total_of room (m + size)) (total-in room k n e).1

-- what is counted is the answer
counted : (t : Option ℕ) (room k : ℕ) → t ≡ total_of room k → pick (leb (k + 0) room) (Ok (k + 0)) (Err no_room) ≡ ok_or t no_room
counted None room k e = rw (lt-leb (k + 0) room (omega (arith, total-over room k e))) refl
counted (Some n) room k e =
    let i = total-in room k n e in
    let z : k + 0 ≡ n = omega (arith, i.1) in
    rw (z, le-leb n room (omega (arith, i.0, i.1))) refl

-- ---- the answer

-- the answer where k bytes come before; of a refusal's row only `seen` is told
abbrev pub sized : (ℕ → ℕ) → ℕ → Made → ℕ → Result ℕ Refused
sized seen k (made t) room = pick (leb (k + length t) room) (Ok (k + length t)) (Err no_room)
sized seen k (refused why row) room = Err (record { why = why; row = seen row })

sized-one : (seen : ℕ → ℕ) (k row : ℕ) (p r : List ℕ) (m : Made) (room : ℕ) → sized seen k (before p m) room ≡ sized seen (k + length p) m room
sized-one seen k row p r (made t) room =
    let e : k + length (p ++ t) ≡ k + length p + length t = omega (arith, length-append p t) in rw e
sized-one seen k row p r (refused c n) room = refl

pub sized-plain : (m : Made) (room : ℕ) → answer m room ≡ sized (λ n. n) 0 m room
unfolding answer
sized-plain (made t) room = rw (zero-add (length t))
sized-plain (refused c n) room = refl

-- the answer, by what is left of the run; there is fuel enough for it
pub record Planned (f : List ℕ → Item) (seen : ℕ → ℕ) (whole : Result ℕ Refused) (room : ℕ) (total : Option ℕ) (left : List ℕ) (row : ℕ) : Type 0 where
  pub sum : ℕ
  pub fuel : ℕ
  pub holds : total ≡ total_of room sum
  pub enough : length left < fuel
  pub same : whole ≡ sized seen sum (each_by f fuel row left) room

module _ {f : List ℕ → Item} {seen : ℕ → ℕ} {whole : Result ℕ Refused} {room : ℕ} {total : Option ℕ} {left : List ℕ} {row : ℕ}
    (s : Planned f seen whole room total left row) where
  opens : (n : ℕ) → length left < n → 0 < length left → each_by f n row left ≡ goes_on_lem (f left) row (each_by f (n - 1) (suc row))
  opens zero l h = absurd (omega arith)
  opens (suc n) l h = let e : suc n - 1 ≡ n = omega arith in rw e (each-some f n row left h)

  pub plan-wrong : (why : Refusal) → 0 < length left → f left ≡ wrong why → whole ≡ Err (record { why = why; row = seen row })
  plan-wrong why h e = s.same ∙ rw (opens s.fuel s.enough h, e)

  pub plan-more : (p r : List ℕ) (t : Option ℕ) (next : ℕ) → 0 < length left → f left ≡ item p r → length r < length left
      → t ≡ total_of room (s.sum + length p) → next ≡ row + 1
      → Planned f seen whole room t r next
  plan-more p r t next h e l o n =
      record {
        sum = s.sum + length p;
        fuel = s.fuel - 1;
        holds = o;
        enough = omega (arith, s.enough);
        same = rw (n, add-one row)
            (s.same ∙ rw (opens s.fuel s.enough h, e) (sized-one seen s.sum row p r (each_by f (s.fuel - 1) (suc row) r) room));
      }

  ends : (n : ℕ) → left ≡ [] → length left < n → each_by f n row left ≡ made []
  unfolding each_by
  ends zero e l = absurd (omega arith)
  ends (suc n) e l = rw e

  pub plan-done : left ≡ [] → whole ≡ ok_or total no_room
  plan-done e = s.same ∙ rw (ends s.fuel e s.enough) (counted total room s.sum s.holds)

-- ---- into the buffer

written-made : (m : Made) (room n : ℕ) → answer m room ≡ Ok n → m ≡ made (made_of m)
unfolding answer
written-made (made t) room n e = refl
written-made (refused c r) room n e = cc

written-fits : (m : Made) (room n : ℕ) → answer m room ≡ Ok n → length (made_of m) ≤ room
unfolding answer
written-fits (made t) room n =
    of-choice (λ (a : Result ℕ Refused). a ≡ Ok n → length t ≤ room) (leb (length t) room) (λ b e. leb-true (length t) room b)
    (λ b e. cc)
written-fits (refused c r) room n = λ e. cc

-- what is written lies in the buffer
pub written-within : (m : Made) (room n : ℕ) → answer m room ≡ Ok n → n ≤ room
unfolding answer
written-within (made t) room n =
    of-choice (λ (a : Result ℕ Refused). a ≡ Ok n → n ≤ room) (leb (length t) room)
    (λ b e. let same : length t ≡ n = cc in omega (arith, leb-true (length t) room b))
    (λ b e. cc)
written-within (refused c r) room n = λ e. cc

-- what the plan promises where it is to be written
pub record Promised (m : Made) (room : ℕ) : Type 0 where
  pub all : m ≡ made (made_of m)
  pub fits : length (made_of m) ≤ room

pub promised : (m : Made) (room n : ℕ) (a : Result ℕ Refused) → a ≡ answer m room → a ≡ Ok n → Promised m room
promised m room n a e w = record { all = written-made m room n (sym e ∙ w); fits = written-fits m room n (sym e ∙ w) }

unwritten : (m : Made) (out : List ℕ) (r : Refused) → answer m (length out) ≡ Err r → out ≡ buffer m out
unfolding answer buffer
unwritten (made t) out r =
    by-test (leb (length t) (length out))
    (λ b e. let x : Ok (length t) ≡ Err r = rw b at e in cc)
    (λ b e. rw b)
unwritten (refused d n) out r = λ e. refl

pub kept : (m : Made) (out : List ℕ) (r : Refused) (a : Result ℕ Refused) → a ≡ answer m (length out) → a ≡ Err r → out ≡ buffer m out
kept m out r a e w = unwritten m out r (sym e ∙ w)

module _ (m : Made) (out ys : List ℕ) (q : ℕ) (p : Promised m (length out)) (o : Put out ys 0 (made_of m) q) where
  end_is : q ≡ length (made_of m)
  end_is = omega (arith, o.next)

  pub put-answer : Ok q ≡ answer m (length out)
  unfolding answer
  put-answer = rw (p.all, le-leb (length (made_of m)) (length out) p.fits) (ap Ok end_is)

  pub put-buffer : ys ≡ buffer m out
  unfolding buffer
  put-buffer = rw (p.all, le-leb (length (made_of m)) (length out) p.fits) (rw end_is at o.text)

-- ---- a text with its header

-- what an Option answers with a refusal for None
pub or-refused : (o : Option ℕ) (d r : Refused) → ok_or o d ≡ Err r → (o ≡ None) × (d ≡ r)
or-refused None d r e = (refl, cc)
or-refused (Some n) d r e = cc

pub or-some : (o : Option ℕ) (d : Refused) (n : ℕ) → ok_or o d ≡ Ok n → o ≡ Some n
or-some None d n e = cc
or-some (Some m) d n e = cc

starts-long : (e s : List ℕ) → starts_with e s ≡ true → length e ≤ length s
starts-long e s h = omega (arith, ap length (starts-text e s h), length-append e (drop (length e) s))

header-some : 2 ≤ length (header Sheet)
unfolding header
header-some = omega arith

pub header-fits : length (header Sheet) ≤ row_most
unfolding header
header-fits = omega arith

-- the index after the header, where it is there
module _ (text : List ℕ) (from : Option ℕ) (e : from ≡ pick (starts_with (header Sheet) text) (Some (length (header Sheet))) None) where
  pub no_header : from ≡ None → import_of text ≡ refused WrongForm 1
  unfolding import_of
  no_header z =
      by-test (starts_with (header Sheet) text)
      (λ t. let x : None ≡ Some (length (header Sheet)) = rw (z, t) at e in cc)
      (λ f. rw f)

  module _ (n : ℕ) (o : from ≡ Some n) where
    begins : (starts_with (header Sheet) text ≡ true) × (n ≡ length (header Sheet))
    begins =
        by-test (starts_with (header Sheet) text)
        (λ t. let x : Some n ≡ Some (length (header Sheet)) = rw (o, t) at e in (t, cc))
        (λ f. let x : Some n ≡ None = rw (o, f) at e in cc)

    pub after-header : import_of text ≡ each row_item 2 (drop n text)
    unfolding import_of
    after-header = rw (begins.0, begins.1)

    pub header-least : 2 ≤ n
    header-least = omega (arith, begins.1, header-some)

    pub header-inside : n ≤ length text
    header-inside = omega (arith, begins.1, starts-long (header Sheet) text begins.0)
