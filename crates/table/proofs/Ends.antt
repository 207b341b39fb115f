-- The walk to a book's end, record by record, and the total line of the account that it comes to.
-- Assumes nothing.
use Rattle.std.proofs.Common.{◌≡◌, ℕ, ◌+◌, ◌<◌, ◌≤◌, List, [], ◌++◌, length, get_or, drop, sym, refl, ap, ◌∙◌, ⊎_elim, append-nil, arith, length-drop}
use Rattle.std.proofs.Common.{drop_of_length-le, drop-drop}
use lib.Seq.{sets, sets-eq}
use Rattle.base.proofs.Tests.{lt-or-ge}
use Rattle.codec.specs.Codec.{be, bytes_of, values_at}
use Rattle.line_bytes.specs.Lines.{total_fields, total_size, total_bytes}
use Rattle.line_rows.specs.Rows.{line_numbers}
use Rattle.grams.specs.declared.units.Co2.{Co2}
use Rattle.account.specs.declared.Account.{Account}
use Rattle.account.specs.declared.Figures.{Figures}
use Rattle.account.specs.Range.{AccountInRange}
use Rattle.account.specs.Account.{no_record}
use Rattle.account.specs.Line.{total_with}
use Rattle.account.proofs.Told.{total-long}
use Rattle.account.proofs.Keeps.{in-range-none}
use Rattle.book.specs.Front.{Front, unfinished, bad_length, whole, front}
use Rattle.book.specs.Run.{Run, book, run}
use Rattle.book.proofs.Fronts.{front-none}
use Rattle.book.proofs.Runs.{book-ended, book-unfinished, book-bad, book-whole}
use Rattle.walk.specs.declared.Next.{Next}
use Rattle.walk.specs.Walk.{at_front, next_of}
use Rattle.walk.proofs.NextRecords.{next-ended, next-open}
use Rattle.walk.proofs.Walks.{stands}
use Rattle.table.specs.Seen.{end_of}

-- at bytes of the book xs are gone through, and a is the account after them: the rest comes to the same end
pub record Going (xs : List ℕ) (a : Account) (at : ℕ) : Type 0 where
  pub within : at ≤ length xs
  pub range : AccountInRange a
  pub same : end_of xs ≡ (book a (drop at xs)).state.account

pub going-none : (xs : List ℕ) → Going xs no_record 0
unfolding run
going-none xs = record { within = omega arith; range = in-range-none; same = refl }

-- no whole record stands at the front
end-at : (f : Front) (a : Account) (ys : List ℕ) → front ys ≡ f → a.stage < 2 → (at_front f a ys).size ≡ 0
    → (book a ys).state.account ≡ (at_front f a ys).account
end-at unfinished a ys e early z = rw (book-unfinished a ys early e) refl
end-at bad_length a ys e early z = rw (book-bad a ys early e) refl
end-at whole a ys e early z = absurd (omega arith)

pub end-next : (a : Account) (ys : List ℕ) → (next_of a ys).size ≡ 0 → (book a ys).state.account ≡ (next_of a ys).account
end-next a ys z =
    ⊎_elim
    (λ (h : a.stage < 2). let o = next-open a ys h in rw o (end-at (front ys) a ys refl h (rw o at z)))
    (λ (h : 2 ≤ a.stage). rw (next-ended a ys h, book-ended a ys h) refl)
    (lt-or-ge a.stage 2)

end-nil : (a : Account) → (book a []).state.account ≡ a
end-nil a =
    ⊎_elim (λ (h : a.stage < 2). rw (book-unfinished a [] h front-none) refl) (λ (h : 2 ≤ a.stage). rw (book-ended a [] h) refl)
    (lt-or-ge a.stage 2)

module _ {xs : List ℕ} {a : Account} {at : ℕ} (g : Going xs a at) where
  -- all bytes are gone through
  pub going-all : length xs ≤ at → a ≡ end_of xs
  going-all h = sym (g.same ∙ ap (λ (ys : List ℕ). (book a ys).state.account) (drop_of_length-le xs h) ∙ end-nil a)

  module _ {t : Next} (e : t ≡ next_of a (drop at xs)) where
    -- there is no further record
    pub going_end : t.size ≡ 0 → t.account ≡ end_of xs
    going_end z = sym (g.same ∙ end-next a (drop at xs) (rw e at z) ∙ ap (λ (n : Next). n.account) (sym e))

    -- there is one
    pub going_on : (t.size ≡ 0 → ⊥) → AccountInRange t.account → Going xs t.account (at + t.size)
    going_on n v =
        let ys = drop at xs in
        let s = stands a ys t e n in
        let b = rw (← s.size) at (book-whole a ys s.early s.front) in
        record {
          within = omega (arith, s.inside, length-drop at xs, g.within);
          range = v;
          same =
              g.same
              ∙ ap (λ (r : Run). r.state.account) b
              ∙ ap (λ (c : Account). (book c (drop t.size ys)).state.account) (sym s.account)
              ∙ ap (λ (zs : List ℕ). (book t.account zs).state.account) (drop-drop t.size at xs);
        }

    pub some_bytes : (t.size ≡ 0 → ⊥) → (6 ≤ t.size) × (at + t.size ≤ length xs)
    some_bytes n = let s = stands a (drop at xs) t e n in (s.least, omega (arith, s.inside, length-drop at xs, g.within))

-- ---- the total line

pub total-kind : (f : Figures) (c : Co2) → get_or (total_with f c) 3 0 ≡ 8
unfolding total_bytes total_fields bytes_of be
total-kind f c = refl

-- laid into a buffer of its size, and read
pub total-read : (f : Figures) (c : Co2) (zeros line : List ℕ) → length zeros ≡ total_size → line ≡ sets zeros 0 (total_with f c)
    → drop 2 (values_at total_fields line 0) ≡ line_numbers (total_with f c)
unfolding line_numbers
total-read f c zeros line z e =
    let l = total_with f c in
    let long = total-long f c in
    let short : length zeros ≤ 0 + length l = omega (arith, long, z) in
    let whole : line ≡ l =
    e ∙ sets-eq l zeros 0 (omega (arith, long, z)) ∙ ap (λ (r : List ℕ). l ++ r) (drop_of_length-le zeros short) ∙ append-nil l in
    rw (total-kind f c, whole) refl
