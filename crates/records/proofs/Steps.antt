-- Laws of one record and of the loop over records: what the code's parts make together.
-- Assumes nothing.
use Prim.Native.Nat.{ℕ, suc, ◌+◌, ◌-◌, ◌*◌, ◌/◌, ◌≤◌, ◌<◌}
use native.Mathlib.Omega.{arith}
use native.Mathlib.Nat.{add-zero}
use native.Mathlib.Numerals.{add-one}
use mathlib.Core.Path.{◌≡◌, refl, sym, ap, ◌∙◌}
use mathlib.Core.Bool.{Bool, true, false, ◌||◌}
use mathlib.Core.List.{List, [], ◌∷◌, ◌++◌, append-nil, append_assoc}
use lib.ListN.{length, get_or, take, drop, length-append, length-take}
use lib.Seq.{drop-drop, take_at, take-take, length-take-le}
use lib.Dec.{eqb}
use borrow.Author.Tests.{eqb-false}
use Rattle.base.proofs.Tests.{by-test, neither, no_bool}
use Rattle.printing.specs.Decimal.{Put}
use Rattle.printing.proofs.Puts.{none, put-length, and-then}
use Rattle.printing.proofs.Sayings.{text-at-start}
use Rattle.names.specs.Names.{kind_name}
use Rattle.account.specs.declared.Account.{Account}
use Rattle.account.specs.Range.{AccountInRange}
use Rattle.account.specs.Sorts.{sort_of}
use Rattle.account.specs.Judge.{record_row, values_of, Step, accepted, judge}
use Rattle.account.proofs.Sorts.{by-sort}
use Rattle.account.proofs.Clauses.{in-range-test}
use Rattle.account.proofs.Refusals.{judged-passes}
use Rattle.account.proofs.Details.{judge-accepted, judge-counts}
use Rattle.walk.specs.declared.Next.{Next}
use Rattle.walk.specs.Walk.{Entry, lines_of, lines_next, next_of, entry_of, entries_after}
use Rattle.walk.proofs.Walks.{stands, entries_next, entries-end}
use Rattle.retype.specs.declared.Retyped.{Retyped}
use Rattle.retype.specs.Typed.{values_typed, line_typed}
use Rattle.retype.specs.Book.{Retyping, nothing_yet_lem, and_then, typed_by, retyped_by, Retypes, Typable, line_most}
use Rattle.retype.proofs.Steps as typing
use Rattle.records.specs.declared.Accepted.{Accepted}
use Rattle.records.specs.Accepted.{Describes}
use Rattle.records.specs.Table.{group_text, typed_text, Row, row_text, row_with, own_row, after_subtotal, own_in, entry_rows, rows_from, text_of}
use Rattle.records.specs.Table.{with_text, rows_by, rows_most}

-- ---- texts

pub text-both : (xs ys : List Row) → text_of (xs ++ ys) ≡ text_of xs ++ text_of ys
unfolding text_of
text-both [] ys = refl
text-both (x ∷ xs) ys = rw (text-both xs ys) (sym (append_assoc (row_text x) (text_of xs) (text_of ys)))

-- what `retype` puts for a record, without its last byte
pub typed-cell : (r : List ℕ) {xs zs : List ℕ} {w : ℕ} → Put xs zs 0 (line_typed (record_row r) (values_of r)) w → take (w - 1) zs ≡ typed_text r
typed-cell r {xs} {zs} {w} p =
    let whole : line_typed (record_row r) (values_of r) ≡ typed_text r ++ (10 ∷ []) =
    sym (append_assoc (kind_name (record_row r)) (values_typed (record_row r) 0 (values_of r)) (10 ∷ [])) in
    let n : length (typed_text r) ≡ w - 1 = omega (arith, p.next, ap length whole, length-append (typed_text r) (10 ∷ [])) in
    sym (take-take (w - 1) w zs (omega arith)) ∙ ap (take (w - 1)) (text-at-start p ∙ whole) ∙ take_at (typed_text r) (10 ∷ []) (w - 1) n

-- it has that byte
pub cell-some : (r : List ℕ) {xs zs : List ℕ} {w : ℕ} → Put xs zs 0 (line_typed (record_row r) (values_of r)) w → 1 ≤ w
cell-some r p =
    let name = kind_name (record_row r) in
    let values = values_typed (record_row r) 0 (values_of r) in
    omega (arith, p.next, length-append name (values ++ (10 ∷ [])), length-append values (10 ∷ []))

-- a heading's own group stands in the account after it
pub group-own : (a : Account) (r line : List ℕ) → ((judge a r).account.stage ≡ 3 → ⊥)
    → group_text (record_row r) (judge a r).account.heading.group line ≡ group_text (record_row r) (get_or (values_of r) 0 0) line
unfolding accepted
group-own a r line h =
    let row = record_row r in
    rw (judge-accepted a r (judged-passes a r h))
    (by-sort (λ (j : Step). group_text row j.account.heading.group line ≡ group_text row (get_or (values_of r) 0 0) line) (sort_of row)
    (λ e. rw e refl) (λ e. rw e refl) (λ e. rw e refl) (λ e. rw e refl) (λ e. rw e refl))

-- ---- some records, and then others after them

-- none is asked for
pub none-asked : (a : Account) (at : ℕ) (book : List ℕ) → rows_by 0 a at book ≡ nothing_yet_lem a
unfolding rows_by rows_from text_of
none-asked a at book = ap (λ (x : Retyping). with_text x []) (typing.none-asked a (drop at book))

-- none is accepted
pub none-accepted : (n : ℕ) (a : Account) (at : ℕ) (book : List ℕ) → entries_after a (drop at book) ≡ []
    → rows_by (suc n) a at book ≡ record { account = (next_of a (drop at book)).account; taken = 0; text = []; more = false }
unfolding rows_by rows_from text_of
none-accepted n a at book e = rw e (ap (λ (x : Retyping). with_text x []) (typing.none-accepted n a (drop at book) e))

-- ---- the next record of the walk, where it is accepted

pub next-is : (a : Account) {rest xs : List ℕ} {t : Next} → rest ≡ xs → t ≡ next_of a rest → t ≡ next_of a xs
next-is a q e = e ∙ ap (next_of a) q

module _ (a : Account) (rest : List ℕ) (t : Next) (e : t ≡ next_of a rest) (h : eqb t.size 0 || eqb t.account.stage 3 ≡ false) where
  -- its bytes
  abbrev bytes : List ℕ
  bytes = take t.size rest

  pub some : t.size ≡ 0 → ⊥
  some = eqb-false _ _ (neither (eqb t.size 0) (eqb t.account.stage 3) h).0

  pub still : t.account.stage ≡ 3 → ⊥
  still = eqb-false _ _ (neither (eqb t.size 0) (eqb t.account.stage 3) h).1

  pub bytes-long : length bytes ≡ t.size
  bytes-long = length-take-le t.size rest (stands a rest t e some).inside

  pub size-inside : t.size ≤ length rest
  size-inside = (stands a rest t e some).inside

  pub size-least : 6 ≤ t.size
  size-least = (stands a rest t e some).least

  counted : t.account.records ≡ suc a.records
  counted =
      let s = stands a rest t e some in
      ap (λ (b : Account). b.records) s.account ∙ judge-counts a bytes (judged-passes a bytes (rw s.account at still)) ∙ add-one a.records

  pub bytes-typable : Typable bytes
  bytes-typable = typing.record-typable a rest t e h refl

  -- what `retype` puts for it
  typed-text : (typed_by 1 a rest).text ≡ line_typed (record_row bytes) (values_of bytes)
  typed-text =
      let line = line_typed (record_row bytes) (values_of bytes) in
      ap (λ (x : Retyping). x.text) (typing.first-typed a rest t e h 0)
      ∙ ap (λ (x : Retyping). line ++ x.text) (typing.none-asked t.account (drop t.size rest)) ∙ append-nil line

  module _ (v : AccountInRange a) {xs zs : List ℕ} {r : Retyped} (p : Retypes (retyped_by (length xs / line_most) a rest) xs zs 0 r)
      (n : length xs ≡ line_most) where
    typed-put : Put xs zs 0 (line_typed (record_row bytes) (values_of bytes)) r.written
    typed-put =
        let one : length xs / line_most ≡ 1 = omega arith in
        let q : (retyped_by (length xs / line_most) a rest).text ≡ (typed_by 1 a rest).text = rw (one, in-range-test a v) refl in
        rw (q ∙ typed-text) at p.put

    pub typed-some : 1 ≤ r.written
    typed-some = cell-some bytes typed-put

    pub cell_room : {cell : List ℕ} → cell ≡ take (r.written - 1) zs → length cell ≤ line_most
    cell_room q = omega (arith, ap length q, length-take (r.written - 1) zs, typed-put.room, n)

    pub typed-as : take (r.written - 1) zs ≡ typed_text bytes
    typed-as = typed-cell bytes typed-put

  -- its lines
  pub lines-as : {zs : List ℕ} (ys : List ℕ) → zs ≡ lines_next a rest ++ ys → take t.written zs ≡ lines_of a bytes
  lines-as {zs} ys q =
      let s = stands a rest t e some in
      ap (take t.written) (q ∙ ap (λ (l : List ℕ). l ++ ys) s.lines) ∙ take_at (lines_of a bytes) ys t.written (sym s.written)

  -- its rows, as the code knows them
  pub rows_as : (at : ℕ) {x : Accepted} (lines : List ℕ) {r typed : List ℕ} → r ≡ bytes → Describes a at r t.account x → typed ≡ typed_text bytes
      → text_of (after_subtotal lines (row_with x.number x.first x.last x.row x.group typed (own_in lines)))
      ≡ text_of (after_subtotal lines (own_row a.records at bytes (own_in lines)))
  rows_as at {x} lines {r} {typed} q d c =
      let s = stands a rest t e some in
      let line = own_in lines in
      let same : group_text x.row x.group line ≡ group_text (record_row bytes) (get_or (values_of bytes) 0 0) line =
      rw (d.row, q, d.group ∙ ap (λ (b : Account). b.heading.group) s.account) (group-own a bytes line (rw s.account at still)) in
      rw (same, d.number, d.first, d.last, d.row, q, c) refl

-- ---- its rows in a book

module _ (a : Account) (at : ℕ) (book : List ℕ) (t : Next) (e : t ≡ next_of a (drop at book)) where
  pub stops : eqb t.size 0 || eqb t.account.stage 3 ≡ true → (out : List ℕ) (end : ℕ) → end ≤ length out
      → Retypes (rows_by 1 a at book) out out end (record { account = t.account; taken = 0; written = end; more = false })
  stops h out end l =
      rw (none-accepted 0 a at book (entries-end a (drop at book) t e h))
      (record { account = ap (λ (x : Next). x.account) e; taken = refl; more = refl; put = none out end l })

  module _ (h : eqb t.size 0 || eqb t.account.stage 3 ≡ false) where
    abbrev rows : List Row
    rows = entry_rows a.records at (entry_of a (take t.size (drop at book)))

    abbrev one : Retyping
    one = record { account = t.account; taken = t.size; text = text_of rows; more = true }

    text-first : (n : ℕ) → text_of (rows_from a.records at (take (suc n) (entries_after a (drop at book))))
        ≡ text_of rows ++ text_of (rows_from t.account.records (at + t.size) (take n (entries_after t.account (drop (at + t.size) book))))
    unfolding rows_from
    text-first n =
        let es = entries_after t.account (drop t.size (drop at book)) in
        let r = take t.size (drop at book) in
        ap (λ (l : List Entry). text_of (rows_from a.records at (take (suc n) l)))
        (entries_next a (drop at book) t e (some a (drop at book) t e h) (still a (drop at book) t e h))
        ∙ text-both rows (rows_from (suc a.records) (at + length r) (take n es))
        ∙ ap (λ (m : ℕ). text_of rows ++ text_of (rows_from (suc a.records) (at + m) (take n es))) (bytes-long a (drop at book) t e h)
        ∙ ap (λ (m : ℕ). text_of rows ++ text_of (rows_from m (at + t.size) (take n es))) (sym (counted a (drop at book) t e h))
        ∙ ap (λ (l : List ℕ). text_of rows ++ text_of (rows_from t.account.records (at + t.size) (take n (entries_after t.account l))))
        (drop-drop t.size at book)

    pub first_rows : (n : ℕ) → rows_by (suc n) a at book ≡ and_then one (rows_by n t.account (at + t.size) book)
    unfolding rows_by
    first_rows n =
        let typed = rw (bytes-long a (drop at book) t e h, drop-drop t.size at book) at (typing.first-typed a (drop at book) t e h n) in
        ap (λ (x : Retyping). with_text x (text_of (rows_from a.records at (take (suc n) (entries_after a (drop at book)))))) typed
        ∙ ap (λ (s : List ℕ). with_text (and_then one (typed_by n t.account (drop (at + t.size) book))) s) (text-first n)

    pub one-is : rows_by 1 a at book ≡ one
    one-is =
        first_rows 0 ∙ ap (and_then one) (none-asked t.account (at + t.size) book) ∙ rw (add-zero, append-nil) refl

    pub puts : {rest out out' lines : List ℕ} {end last : ℕ} → rest ≡ drop at book → lines ≡ lines_of a (take t.size rest)
        → Put out out' end (text_of (after_subtotal lines (own_row a.records at (take t.size rest) (own_in lines)))) last
        → Retypes (rows_by 1 a at book) out out' end (record { account = t.account; taken = t.size; written = last; more = true })
    puts q l p = rw one-is (record { account = refl; taken = refl; more = refl; put = rw (l, q) at p })

-- ---- one record after the other

module _ (n : ℕ) (a : Account) (at : ℕ) (book : List ℕ) where
  abbrev next : Next
  next = next_of a (drop at book)

  abbrev ends : Bool
  ends = eqb next.size 0 || eqb next.account.stage 3

  one_none : ends ≡ true → (rows_by 1 a at book).more ≡ false
  one_none h = ap (λ (x : Retyping). x.more) (none-accepted 0 a at book (entries-end a (drop at book) next refl h))

  -- it is not accepted, and no other is
  pub one-stops : (rows_by 1 a at book).more ≡ false → rows_by (suc n) a at book ≡ rows_by 1 a at book
  one-stops m =
      by-test ends
      (λ h. let none = entries-end a (drop at book) next refl h in none-accepted n a at book none ∙ sym (none-accepted 0 a at book none))
      (λ h. no_bool (sym m ∙ ap (λ (x : Retyping). x.more) (one-is a at book next refl h)))

  pub one_more : (rows_by 1 a at book).more ≡ true
      → rows_by (suc n) a at book ≡ and_then (rows_by 1 a at book) (rows_by n (rows_by 1 a at book).account (at + (rows_by 1 a at book).taken) book)
  one_more m =
      by-test ends
      (λ h. no_bool (sym (one_none h) ∙ m))
      (λ h. rw (one-is a at book next refl h) (first_rows a at book next refl h n))

pub record Going (n : ℕ) (a₀ : Account) (at₀ : ℕ) (book out₀ out : List ℕ) (a : Account) (taken last left : ℕ) : Type 0 where
  pub so_far : List ℕ
  pub put : Put out₀ out 0 so_far last
  pub inside : at₀ + taken ≤ length book
  pub range : AccountInRange a
  pub room : last + rows_most * left ≤ length out
  pub same : length out ≡ length out₀
  pub is : rows_by n a₀ at₀ book ≡ and_then (record { account = a; taken = taken; text = so_far; more = true }) (rows_by left a (at₀ + taken) book)

pub going-none : (n : ℕ) (a : Account) (at : ℕ) (book out : List ℕ) → AccountInRange a → at ≤ length book → rows_most * n ≤ length out
    → Going n a at book out out a 0 0 (n - 0)
going-none n a at book out v i h =
    record {
      so_far = [];
      put = none out 0 (omega arith);
      inside = omega arith;
      range = v;
      room = omega arith;
      same = refl;
      is = let all : n - 0 ≡ n = omega arith in rw (all, add-zero at) (typing.as-it-is a (rows_by n a at book));
    }

module _ {n : ℕ} {a₀ : Account} {at₀ : ℕ} {book out₀ out : List ℕ} {a : Account} {taken last left : ℕ}
    (g : Going n a₀ at₀ book out₀ out a taken last left) where
  -- what was put before
  before : Retyping
  before = record { account = a; taken = taken; text = g.so_far; more = true }

  pub going_end : left ≡ 0 → Retypes (rows_by n a₀ at₀ book) out₀ out 0 (record { account = a; taken = taken; written = last; more = true })
  unfolding before
  going_end z =
      let i : rows_by left a (at₀ + taken) book ≡ nothing_yet_lem a = rw z (none-asked a (at₀ + taken) book) in
      rw (g.is ∙ ap (and_then before) i) (record { account = refl; taken = sym (add-zero taken); more = refl; put = rw append-nil g.put })

  module _ (h : 0 < left) {out' : List ℕ} {r : Retyped} (t : Retypes (rows_by 1 a (at₀ + taken) book) out out' last r) where
    less : left ≡ suc (left - 1)
    less = omega arith

    pub going-stop : r.more ≡ false
        → Retypes (rows_by n a₀ at₀ book) out₀ out' 0 (record { account = r.account; taken = taken + r.taken; written = r.written; more = false })
    unfolding before
    going-stop f =
        let q : (rows_by 1 a (at₀ + taken) book).more ≡ false = sym t.more ∙ f in
        let i : rows_by left a (at₀ + taken) book ≡ rows_by 1 a (at₀ + taken) book =
        ap (λ (m : ℕ). rows_by m a (at₀ + taken) book) less ∙ one-stops (left - 1) a (at₀ + taken) book q in
        rw (g.is ∙ ap (and_then before) i)
        (record { account = t.account; taken = ap (λ (m : ℕ). taken + m) t.taken; more = sym q; put = and-then g.put t.put })

    pub going_on : {next : ℕ} → next ≡ left - 1 → r.more ≡ true → r.written ≤ last + rows_most → at₀ + taken + r.taken ≤ length book
        → AccountInRange r.account → Going n a₀ at₀ book out₀ out' r.account (taken + r.taken) r.written next
    unfolding before
    going_on e f w k v =
        let q : (rows_by 1 a (at₀ + taken) book).more ≡ true = sym t.more ∙ f in
        let first = rows_by 1 a (at₀ + taken) book in
        let others = rows_by (left - 1) first.account (at₀ + taken + first.taken) book in
        let i : rows_by left a (at₀ + taken) book ≡ and_then first others =
        ap (λ (m : ℕ). rows_by m a (at₀ + taken) book) less ∙ one_more (left - 1) a (at₀ + taken) book q in
        let d : at₀ + taken + first.taken ≡ at₀ + (taken + first.taken) = omega arith in
        rw e (record {
          so_far = g.so_far ++ first.text;
          put = and-then g.put t.put;
          inside = omega (arith, k);
          range = v;
          room = omega (arith, g.room, put-length t.put);
          same = put-length t.put ∙ g.same;
          is = g.is ∙ ap (and_then before) i ∙ typing.grouped before first others ∙ rw (d, t.account, t.taken);
        })
