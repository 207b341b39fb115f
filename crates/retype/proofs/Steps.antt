-- Laws of one record and of the loop over records: what the code's parts make together.
-- Assumes nothing.
use Prim.Native.Nat.{ℕ, suc, ◌+◌, ◌-◌, ◌*◌, ◌≤◌, ◌<◌}
use native.Mathlib.Omega.{arith}
use native.Mathlib.Nat.{zero-add, add-zero}
use native.Mathlib.Numerals.{add-one}
use mathlib.Core.Path.{◌≡◌, refl, sym, ap, ◌∙◌}
use mathlib.Core.Bool.{Bool, true, false, ◌||◌, not}
use mathlib.Core.List.{List, [], ◌∷◌, ◌++◌, append-nil, append_assoc}
use lib.ListN.{length, get_or, take, drop, replicate, length-append, length-drop, drop_of_length-le}
use lib.Seq.{drop-drop, drop-cons, take_all, take_at, length-take-le}
use lib.Dec.{eqb, leb}
use borrow.Author.Tests.{eq-eqb, ne_eqb, eqb-true, eqb-false, le-leb, lt-leb, leb-true, leb-false, not-true, not-false}
use Rattle.base.proofs.Tests.{by-test, neither}
use Rattle.printing.specs.Decimal.{decimal, spaced, Put}
use Rattle.printing.specs.Decimal as printing
use Rattle.printing.specs.Said.{Said}
use Rattle.printing.specs.Says.{Says}
use Rattle.printing.specs.declared.text.Text.{Text}
use Rattle.printing.proofs.Puts.{none, put-length, and-then}
use Rattle.printing.specs.Ascii.{ascii}
use Rattle.names.specs.Names.{kind_name, value_text, sentence}
use Rattle.codec.specs.Table.{fields, size, length_of, last_row, is_row, Of}
use Rattle.codec.specs.Codec.{val_at, values_at, in_twelve, first_bad}
use Rattle.codec.proofs.Values.{values_length}
use Rattle.account.specs.declared.Account.{Account}
use Rattle.account.specs.Range.{AccountInRange}
use Rattle.account.specs.Line.{joined}
use Rattle.account.specs.Judge.{version_of, kind_byte, WholeRecord, record_row, values_of, judge}
use Rattle.codec.proofs.EachKind.{row-least, row-most, row-of-kind}
use Rattle.account.proofs.Refusals.{passed, judged-passes}
use Rattle.walk.specs.declared.Next.{Next}
use Rattle.walk.specs.Walk.{next_of, records_in, entry_of, entries_after}
use Rattle.book.proofs.RecordRuns.{record-whole}
use Rattle.walk.proofs.Walks.{stands, entries_next, entries-end}
use Rattle.retype.specs.declared.Retyped.{Retyped}
use Rattle.retype.specs.Typed.{values_typed, line_typed, text_typed, account_behind}
use Rattle.retype.proofs.Tables.{name-short, fields-few}
use Rattle.retype.proofs.Values.{ReadsBack}
use Rattle.retype.specs.Book.{Retyping, nothing_yet_lem, and_then, typed_by, Retypes, Typable, value_most, line_most, refused_text, end_text}

-- ---- what a record that is not refused is

pub typable : (a : Account) (r : List ℕ) → WholeRecord r → ((judge a r).account.stage ≡ 3 → ⊥) → Typable r
typable a r w h =
    let t = judged-passes a r h in
    let k = record_row r in
    let row : is_row k ≡ true = row-of-kind (version_of r) (kind_byte r) (not-false _ t.kind) in
    let long : val_at r 0 2 ≡ length_of k = eqb-true _ _ (not-false _ t.long) in
    record {
      least = row-least k row;
      most = row-most k row;
      long = w.long ∙ ap (λ (x : ℕ). x + 2) long;
      ranges = (passed a k (values_of r) t.values).ranges;
    }

pub typable-of : (r : List ℕ) → Typable r → Of (record_row r) (values_of r)
typable-of r t = record { least = t.least; most = t.most; count = values_length (fields (record_row r)) r 4 }

-- ---- some records, and then others after them

-- the record r, with the account after it
abbrev one : Account → List ℕ → Retyping
one after r = record { account = after; taken = length r; text = line_typed (record_row r) (values_of r); more = true }

-- none is asked for
pub none-asked : (a : Account) (xs : List ℕ) → typed_by 0 a xs ≡ nothing_yet_lem a
unfolding typed_by text_typed account_behind
none-asked a xs = rw (le-leb 0 (length (records_in (entries_after a xs))) (omega arith)) refl

-- none is accepted
pub none-accepted : (n : ℕ) (a : Account) (xs : List ℕ) → entries_after a xs ≡ []
    → typed_by (suc n) a xs ≡ record { account = (next_of a xs).account; taken = 0; text = []; more = false }
unfolding typed_by records_in text_typed account_behind
none-accepted n a xs e = let z : leb (suc n) (length (records_in [])) ≡ false = lt-leb (suc n) 0 (omega arith) in rw (e, z) refl

more_of : (n k : ℕ) → leb (suc n) (suc k) ≡ leb n k
more_of n k =
    by-test (leb n k)
    (λ t. rw t (le-leb (suc n) (suc k) (omega (arith, leb-true n k t))))
    (λ t. rw t (lt-leb (suc n) (suc k) (omega (arith, leb-false n k t))))

-- the first is accepted
first-accepted : (n : ℕ) (a : Account) (xs r : List ℕ) (k : ℕ) (after : Account) → r ≡ take k xs → k ≤ length xs → after ≡ (judge a r).account
    → entries_after a xs ≡ entry_of a r ∷ entries_after after (drop k xs)
    → typed_by (suc n) a xs ≡ and_then (one after r) (typed_by n after (drop k xs))
unfolding typed_by records_in text_typed account_behind
first-accepted n a xs r k after p h f e =
    let rs = take n (records_in (entries_after after (drop k xs))) in
    let l : length r ≡ k = ap length p ∙ length-take-le k xs h in
    let d : drop (length (joined rs)) (drop k xs) ≡ drop (length r + length (joined rs)) xs = rw l (drop-drop (length (joined rs)) k xs) in
    rw (e, length-append r (joined rs), ← f, d, more_of n (length (records_in (entries_after after (drop k xs))))) refl

-- ---- the next record

-- t is the next record of the walk
module _ (a : Account) (xs : List ℕ) (t : Next) (e : t ≡ next_of a xs) where
  pub stops : eqb t.size 0 || eqb t.account.stage 3 ≡ true → (out : List ℕ) (at : ℕ) → at ≤ length out
      → Retypes (typed_by 1 a xs) out out at (record { account = t.account; taken = 0; written = at; more = false })
  stops h out at l =
      rw (none-accepted 0 a xs (entries-end a xs t e h))
      (record { account = ap (λ (x : Next). x.account) e; taken = refl; more = refl; put = none out at l })

  module _ (h : eqb t.size 0 || eqb t.account.stage 3 ≡ false) where
    some : t.size ≡ 0 → ⊥
    some = eqb-false _ _ (neither (eqb t.size 0) (eqb t.account.stage 3) h).0

    still : t.account.stage ≡ 3 → ⊥
    still = eqb-false _ _ (neither (eqb t.size 0) (eqb t.account.stage 3) h).1

    pub record-typable : {r : List ℕ} → r ≡ take t.size xs → Typable r
    record-typable p =
        let s = stands a xs t e some in
        rw p (typable a (take t.size xs) (record-whole xs t.size s.front s.size) (rw s.account at still))

    pub first-typed : (n : ℕ) → typed_by (suc n) a xs ≡ and_then (one t.account (take t.size xs)) (typed_by n t.account (drop t.size xs))
    first-typed n =
        let s = stands a xs t e some in
        first-accepted n a xs (take t.size xs) t.size t.account refl s.inside s.account (entries_next a xs t e some still)

    pub types : (out out' : List ℕ) (at last : ℕ) {r : List ℕ} → r ≡ take t.size xs → Put out out' at (line_typed (record_row r) (values_of r)) last
        → Retypes (typed_by 1 a xs) out out' at (record { account = t.account; taken = t.size; written = last; more = true })
    types out out' at last p q =
        let s = stands a xs t e some in
        let l = length-take-le t.size xs s.inside in
        rw (first-typed 0, none-asked t.account (drop t.size xs))
        (record { account = refl; taken = omega (arith, l); more = refl; put = rw append-nil (rw p at q) })

-- ---- one record after the other

clash : true ≡ false → ⊥
clash e = let q : ◌≡◌ {A = ℕ} 0 1 = cc in omega (arith, q)

module _ (n : ℕ) (a : Account) (xs : List ℕ) where
  abbrev t : Next
  t = next_of a xs

  abbrev ends : Bool
  ends = eqb t.size 0 || eqb t.account.stage 3

  one_none : ends ≡ true → (typed_by 1 a xs).more ≡ false
  one_none h = ap (λ (x : Retyping). x.more) (none-accepted 0 a xs (entries-end a xs t refl h))

  pub one-is : ends ≡ false → typed_by 1 a xs ≡ one t.account (take t.size xs)
  one-is h =
      first-typed a xs t refl h 0 ∙ ap (and_then (one t.account (take t.size xs))) (none-asked t.account (drop t.size xs))
      ∙ rw (add-zero, append-nil) refl

  -- it is not accepted, and no other is
  pub one-stops : (typed_by 1 a xs).more ≡ false → typed_by (suc n) a xs ≡ typed_by 1 a xs
  one-stops m =
      by-test ends
      (λ h. none-accepted n a xs (entries-end a xs t refl h) ∙ sym (none-accepted 0 a xs (entries-end a xs t refl h)))
      (λ h. absurd (clash (sym (ap (λ (x : Retyping). x.more) (one-is h)) ∙ m)))

  pub one_more : (typed_by 1 a xs).more ≡ true
      → typed_by (suc n) a xs ≡ and_then (typed_by 1 a xs) (typed_by n (typed_by 1 a xs).account (drop (typed_by 1 a xs).taken xs))
  one_more m =
      by-test ends
      (λ h. absurd (clash (sym m ∙ one_none h)))
      (λ h. let s = stands a xs t refl (some a xs t refl h) in
      let l = length-take-le t.size xs s.inside in
      rw (one-is h, l) (rw l at (first-typed a xs t refl h n)))

pub record Going (n : ℕ) (a₀ : Account) (xs out₀ out : List ℕ) (a : Account) (at last left : ℕ) : Type 0 where
  pub so_far : List ℕ
  pub put : Put out₀ out 0 so_far last
  pub inside : at ≤ length xs
  pub range : AccountInRange a
  pub room : last + line_most * left ≤ length out
  pub same : length out ≡ length out₀
  pub is : typed_by n a₀ xs ≡ and_then (record { account = a; taken = at; text = so_far; more = true }) (typed_by left a (drop at xs))

pub as-it-is : (a : Account) (x : Retyping) → x ≡ and_then (nothing_yet_lem a) x
as-it-is a x = rw zero-add

pub going-none : (n : ℕ) (a : Account) (xs out : List ℕ) → AccountInRange a → line_most * n ≤ length out → Going n a xs out out a 0 0 (n - 0)
going-none n a xs out v h =
    record {
      so_far = [];
      put = none out 0 (omega arith);
      inside = omega arith;
      range = v;
      room = omega arith;
      same = refl;
      is = let all : n - 0 ≡ n = omega arith in rw all (as-it-is a (typed_by n a xs));
    }

pub grouped : (x y z : Retyping) → and_then x (and_then y z) ≡ and_then (and_then x y) z
grouped x y z =
    let e : x.taken + (y.taken + z.taken) ≡ x.taken + y.taken + z.taken = omega arith in
    rw (e, append_assoc x.text y.text z.text)

module _ {n : ℕ} {a₀ : Account} {xs out₀ out : List ℕ} {a : Account} {at last left : ℕ} (g : Going n a₀ xs out₀ out a at last left) where
  -- what was typed before
  before : Retyping
  before = record { account = a; taken = at; text = g.so_far; more = true }

  pub going_end : left ≡ 0 → Retypes (typed_by n a₀ xs) out₀ out 0 (record { account = a; taken = at; written = last; more = true })
  unfolding before
  going_end z =
      let i : typed_by left a (drop at xs) ≡ nothing_yet_lem a = rw z (none-asked a (drop at xs)) in
      rw (g.is ∙ ap (and_then before) i) (record { account = refl; taken = sym (add-zero at); more = refl; put = rw append-nil g.put })

  module _ (h : 0 < left) {rest out' : List ℕ} (p : rest ≡ drop at xs) {r : Retyped} (t : Retypes (typed_by 1 a rest) out out' last r) where
    less : left ≡ suc (left - 1)
    less = omega arith

    pub going-stop : r.more ≡ false
        → Retypes (typed_by n a₀ xs) out₀ out' 0 (record { account = r.account; taken = at + r.taken; written = r.written; more = false })
    unfolding before
    going-stop f =
        let q : (typed_by 1 a rest).more ≡ false = sym t.more ∙ f in
        let i : typed_by left a (drop at xs) ≡ typed_by 1 a rest =
        rw (← p) (ap (λ (m : ℕ). typed_by m a rest) less ∙ one-stops (left - 1) a rest q) in
        rw (g.is ∙ ap (and_then before) i)
        (record { account = t.account; taken = ap (λ (m : ℕ). at + m) t.taken; more = sym q; put = and-then g.put t.put })

    pub going_on : {next : ℕ} → next ≡ left - 1 → r.more ≡ true → r.written ≤ last + line_most → r.taken ≤ length rest → AccountInRange r.account
        → Going n a₀ xs out₀ out' r.account (at + r.taken) r.written next
    unfolding before
    going_on e f w k v =
        let q : (typed_by 1 a rest).more ≡ true = sym t.more ∙ f in
        let first = typed_by 1 a rest in
        let others = typed_by (left - 1) first.account (drop first.taken rest) in
        let i : typed_by left a (drop at xs) ≡ and_then first others =
        rw (← p) (ap (λ (m : ℕ). typed_by m a rest) less ∙ one_more (left - 1) a rest q) in
        let l = ap length p ∙ length-drop at xs in
        let d : drop first.taken rest ≡ drop (at + first.taken) xs = ap (drop first.taken) p ∙ drop-drop first.taken at xs in
        rw e (record {
          so_far = g.so_far ++ first.text;
          put = and-then g.put t.put;
          inside = omega (arith, l, g.inside);
          range = v;
          room = omega (arith, g.room, put-length t.put);
          same = put-length t.put ∙ g.same;
          is = g.is ∙ ap (and_then before) i ∙ grouped before first others ∙ rw (d, t.account, t.taken);
        })

-- ---- a record's values and its line

-- a text that fits is there whole
whole-put : {xs ys : List ℕ} {at : ℕ} (s : List ℕ) {r : ℕ} → at + length s ≤ length xs → Said xs ys at s r → Put xs ys at s r
whole-put {xs} {ys} {at} s h p = let l : length s ≤ length xs - at = omega arith in rw (take_all (length xs - at) s l) at p.put

-- the first i of the values vs are put
pub record Putting (row : ℕ) (vs out₀ out : List ℕ) (at last i : ℕ) : Type 0 where
  pub so_far : List ℕ
  pub put : Put out₀ out at so_far last
  pub inside : i ≤ length vs
  pub room : last ≤ at + value_most * i
  pub is : values_typed row 0 vs ≡ so_far ++ values_typed row i (drop i vs)

pub putting-none : (row : ℕ) (vs out : List ℕ) (at : ℕ) → at ≤ length out → Putting row vs out out at at 0
putting-none row vs out at h = record { so_far = []; put = none out at h; inside = omega arith; room = omega arith; is = refl }

one_value : (row i : ℕ) (vs : List ℕ) → i < length vs
    → values_typed row i (drop i vs) ≡ (32 ∷ value_text row i (get_or vs i 0)) ++ values_typed row (i + 1) (drop (i + 1) vs)
unfolding values_typed
one_value row i vs h = rw (add-one i, drop-cons vs i 0 h) refl

module _ {row : ℕ} {vs out₀ out : List ℕ} {at last i : ℕ} (g : Putting row vs out₀ out at last i) where
  -- there is room for what is left
  pub putting-fits : i < length vs → at + value_most * length vs ≤ length out₀ → last + value_most ≤ length out
  putting-fits h r = omega (arith, g.room, put-length g.put)

  pub putting-on : i < length vs → at + value_most * length vs ≤ length out₀ → ReadsBack row i (get_or vs i 0)
      → {o1 o2 : List ℕ} {a1 a2 : ℕ} → Put out o1 last (32 ∷ []) a1 → Said o1 o2 a1 (value_text row i (get_or vs i 0)) a2
      → Putting row vs out₀ o2 at a2 (i + 1)
  putting-on h r b q s =
      let w = value_text row i (get_or vs i 0) in
      let p = whole-put w (omega (arith, putting-fits h r, put-length q, q.next, b.short)) s in
      record {
        so_far = g.so_far ++ (32 ∷ w);
        put = and-then g.put (and-then q p);
        inside = omega arith;
        room = omega (arith, g.room, q.next, p.next, b.short);
        is =
            g.is ∙ ap (λ (l : List ℕ). g.so_far ++ l) (one_value row i vs h)
            ∙ sym (append_assoc g.so_far (32 ∷ w) (values_typed row (i + 1) (drop (i + 1) vs)));
      }

  pub putting-end : length vs ≤ i → Put out₀ out at (values_typed row 0 vs) last
  unfolding values_typed
  putting-end h = rw (g.is, drop_of_length-le vs h, append-nil) g.put

module _ (r : List ℕ) (t : Typable r) {kind : ℕ} (b : kind ≡ record_row r) where
  pub kind-byte : kind ≡ record_row r
  kind-byte = b

  -- its values are there
  pub values-there : (kind ≤ last_row) × (4 + size (fields kind) ≤ length r)
  values-there = rw b (t.most, omega (arith, t.long))

  -- its name is put whole
  pub name-put : {out out' : List ℕ} {at last : ℕ} → at + line_most ≤ length out → Said out out' at (kind_name kind) last
      → Put out out' at (kind_name (record_row r)) last
  name-put {out} {out'} {at} h s =
      whole-put (kind_name (record_row r)) (omega (arith, name-short (record_row r) t.least t.most)) (rw kind-byte at s)

  pub name-end : {out out' : List ℕ} {at last : ℕ} → Put out out' at (kind_name (record_row r)) last → last ≤ at + 7
  name-end p = omega (arith, p.next, name-short (record_row r) t.least t.most)

  module _ {n : ℕ} (c : n ≡ length (fields kind)) where
    pub count_most : n ≤ 12
    count_most = let m = fields-few (record_row r) t.least t.most in omega (arith, c ∙ ap (λ (i : ℕ). length (fields i)) kind-byte)

    pub values-first : {w : List ℕ} → w ≡ in_twelve (values_at (fields kind) r 4) → take n w ≡ values_of r
    values-first e =
        let l : length (values_of r) ≡ n = values_length (fields (record_row r)) r 4 ∙ ap (λ (i : ℕ). length (fields i)) (sym kind-byte) ∙ sym c in
        rw (e, b) (take_at (values_of r) (replicate (12 - length (values_of r)) 0) n l)

  -- v are the values that are read of it
  module _ {v : List ℕ} (e : v ≡ values_of r) where
    pub values-typable : Of kind v × (first_bad (fields kind) v 0 ≡ 0)
    values-typable = rw (e, kind-byte) (typable-of r t, t.ranges)

    pub values-few : length v ≤ 12
    values-few = let of = typable-of r t in omega (arith, ap length e ∙ of.count, fields-few (record_row r) of.least of.most)

    pub line-put : {out o1 o2 o3 : List ℕ} {at a1 a2 a3 : ℕ} → Put out o1 at (kind_name (record_row r)) a1
        → Put o1 o2 a1 (values_typed kind 0 v) a2 → Put o2 o3 a2 (10 ∷ []) a3
        → Put out o3 at (line_typed (record_row r) (values_of r)) a3
    line-put p q s = and-then p (and-then (rw (kind-byte, e) at q) s)

-- ---- the last word

three-is : (a b c : ℕ) → decimal a ++ (32 ∷ (decimal b ++ (32 ∷ decimal c))) ≡ printing.joined (a ∷ b ∷ c ∷ [])
unfolding printing.joined spaced
three-is a b c = rw (append-nil (decimal c))

pub three_said : {t u : Text} (a b c : ℕ) → Says t u (decimal a ++ (32 ∷ (decimal b ++ (32 ∷ decimal c))))
    → Says t u (printing.joined (a ∷ b ∷ c ∷ []))
three_said a b c e = rw (three-is a b c) at e

module _ (a : Account) (behind : Bool) where
  pub end_refused : a.stage ≡ 3 → end_text a behind ≡ refused_text a.refusal
  unfolding end_text
  end_refused e = rw (eq-eqb _ _ e)

  module _ (n : a.stage ≡ 3 → ⊥) where
    pub end-unfinished : (a.stage ≡ 2 → ⊥) → end_text a behind ≡ ascii "unfinished\n"
    unfolding end_text
    end-unfinished m = rw (ne_eqb _ _ n, ne_eqb _ _ m)

    pub end-closed : a.stage ≡ 2 → not behind ≡ true → end_text a behind ≡ []
    unfolding end_text
    end-closed e t = rw (ne_eqb _ _ n, eq-eqb _ _ e, not-true behind t)

    pub end-behind : a.stage ≡ 2 → not behind ≡ false → end_text a behind ≡ sentence 18 ++ ascii "\n"
    unfolding end_text
    end-behind e t = rw (ne_eqb _ _ n, eq-eqb _ _ e, not-false behind t)
