-- The next accepted record, as the code finds it.
-- Assumes nothing.
use Prim.Native.Nat.{ℕ}
use mathlib.Core.Path.{◌≡◌, refl, ap, subst}
use mathlib.Core.List.{List, ◌++◌}
use mathlib.Core.Bool.{true, false, ◌||◌}
use native.Mathlib.Omega.{arith}
use borrow.Author.Tests.{eqb-true, eqb-false, not-false}
use lib.ListN.{length, take, drop, length-append}
use lib.Dec.{eqb}
use lib.Seq.{take-append_seam}
use Rattle.base.proofs.Tests.{neither}
use Rattle.codec.specs.Table.{length_of, is_row}
use Rattle.codec.specs.Codec.{val_at}
use Rattle.codec.proofs.EachKind.{row-most, row-of-kind}
use Rattle.account.specs.declared.Account.{Account}
use Rattle.account.specs.Judge.{WholeRecord, version_of, kind_byte, record_row, judge}
use Rattle.account.specs.Range.{AccountInRange}
use Rattle.account.proofs.Refusals.{judged-passes}
use Rattle.walk.specs.declared.Next.{Next}
use Rattle.walk.specs.Walk.{lines_of, next_of, lines_next}
use Rattle.book.proofs.RecordRuns.{record-whole}
use Rattle.walk.proofs.Walks.{Stands, stands, entries_next, entries-end}
use Rattle.compare.specs.declared.places.Taken.{Taken}
use Rattle.compare.specs.Inner.{Turned, Written}
use Rattle.compare.specs.Records.{Readable}

-- what a record that is not refused is
readable : (a : Account) (r : List ℕ) → WholeRecord r → ((judge a r).account.stage ≡ 3 → ⊥) → Readable r
readable a r w h =
    let t = judged-passes a r h in
    let k = record_row r in
    let row : is_row k ≡ true = row-of-kind (version_of r) (kind_byte r) (not-false _ t.kind) in
    let long : val_at r 0 2 ≡ length_of k = eqb-true _ _ (not-false _ t.long) in
    record { most = row-most k row; long = omega (arith, w.long, long) }

-- nothing is taken
abbrev no_more : Account → Taken
no_more a = record { n = 0; written = 0; next = a }

pub none_written : (a : Account) (xs lines : List ℕ) → Written a xs lines (no_more a)
none_written a xs lines = record { inside = omega arith; none = λ z. refl; are = λ h. absurd (omega arith) }

-- t is the next record of the walk
module _ (a : Account) (xs : List ℕ) (t : Next) (e : t ≡ next_of a xs) (v : AccountInRange a) where
  -- there is none, or it is refused
  pub turned_none : eqb t.size 0 || eqb t.account.stage 3 ≡ true → Turned a xs (no_more a)
  turned_none h =
      record {
        inside = omega arith;
        some = λ k. absurd (omega arith);
        none = λ z. subst (λ (x : Next). eqb x.size 0 || eqb x.account.stage 3 ≡ true) e h;
        found = λ k. absurd (omega arith);
        size = λ k. absurd (omega arith);
        account = λ k. absurd (omega arith);
        ended = λ z. entries-end a xs t e h;
        goes = λ k. absurd (omega arith);
        readable = λ k. absurd (omega arith);
        range = v;
      }

  module _ (h : eqb t.size 0 || eqb t.account.stage 3 ≡ false) where
    some_bytes : t.size ≡ 0 → ⊥
    some_bytes = eqb-false _ _ (neither (eqb t.size 0) (eqb t.account.stage 3) h).0

    still : t.account.stage ≡ 3 → ⊥
    still = eqb-false _ _ (neither (eqb t.size 0) (eqb t.account.stage 3) h).1

    here : Stands a xs t
    here = stands a xs t e some_bytes

    pub turned_on : AccountInRange t.account → Turned a xs (record { n = t.size; written = t.written; next = t.account })
    turned_on w =
        record {
          inside = here.inside;
          some = λ k. here.least;
          none = λ z. absurd (some_bytes z);
          found = λ k. subst (λ (x : Next). eqb x.size 0 || eqb x.account.stage 3 ≡ false) e h;
          size = λ k. ap (λ (x : Next). x.size) e;
          account = λ k. ap (λ (x : Next). x.account) e;
          ended = λ z. absurd (some_bytes z);
          goes = λ k. entries_next a xs t e some_bytes still;
          readable = λ k. readable a (take t.size xs) (record-whole xs t.size here.front here.size) (rw here.account at still);
          range = w;
        }

    pub turned-lines : (before lines : List ℕ) → lines ≡ lines_next a xs ++ drop t.written before
        → Written a xs lines (record { n = t.size; written = t.written; next = t.account })
    turned-lines before lines b =
        let l : lines ≡ lines_of a (take t.size xs) ++ drop t.written before = rw (← here.lines) b in
        record {
          inside = omega (arith, here.written, ap length l, length-append (lines_of a (take t.size xs)) (drop t.written before));
          none = λ z. absurd (some_bytes z);
          are = λ k. rw (l, here.written) (take-append_seam (lines_of a (take t.size xs)) _);
        }
