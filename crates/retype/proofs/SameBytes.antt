-- Theorem: typing the typed lines of accepted records again gives the same bytes, and no line fails. A close waits until the end of the text.
-- Assumes nothing.
use Prim.Native.Nat.{ℕ, ◌+◌, ◌<◌}
use native.Mathlib.Omega.{arith}
use mathlib.Core.Path.{◌≡◌, refl, sym, ap, ◌∙◌}
use mathlib.Core.Bool.{Bool, true, false}
use mathlib.Core.List.{List, [], ◌∷◌, ◌++◌, map, append-nil, append_assoc}
use lib.Dec.{eqb, ltb}
use borrow.Author.Tests.{eqb-true}
use Rattle.base.specs.Choice.{pick, one_more_lem}
use Rattle.base.proofs.Tests.{and-false, by-test}
use Rattle.base.specs.Bytes.{index_of}
use Rattle.codec.specs.Table.{record_most}
use Rattle.text_lines.specs.Lines.{kept, lines_of, unmarked}
use Rattle.text_lines.specs.Parts.{Numbered, numbered}
use Rattle.text_lines.proofs.Pieces.{lines_cut}
use Rattle.typed_words.specs.Words.{nth_word, leading_of}
use Rattle.account.specs.declared.Account.{Account}
use Rattle.account.specs.Account.{no_record}
use Rattle.account.specs.Judge.{kind_byte, record_row, values_of, judge}
use Rattle.account.specs.Range.{AccountInRange}
use Rattle.account.proofs.Keeps.{in-range-none, in-range-judge}
use Rattle.book.specs.State.{holding, no_record_yet}
use Rattle.book.proofs.Ranges.{range-idle}
use Rattle.writer.specs.Line.{entry, line_said}
use Rattle.writer.specs.declared.Typist.{Typist}
use Rattle.writer.specs.declared.Fate.TheVariants.{Nothing}
use Rattle.writer.specs.Typist.{beginning, hears, waits, written_as, Turn, turn, closing_turn, end_turn}
use Rattle.writer.specs.Text.{line_turn}
use Rattle.writer.specs.Parts.{Output, output, whole}
use Rattle.std.specs.Prelude.{None, is_some}
use Rattle.writer.proofs.Remembered.{no_some, some_of, line-is}
use Rattle.writer.proofs.Fates.{end-closing, end-open}
use Rattle.retype.specs.Typed.{line_typed, text_typed, Accepted, AllAccepted, account_behind, typed_whole, SameBytes}
use Rattle.make_record.specs.Write.{Ready}
use Rattle.retype.proofs.Close.{close-ends}
use Rattle.retype.proofs.Record.{typed_line, Clean, clean-on, no_run, record-again, close-again, closed-again, line-whole, line-one}

-- ---- the lines of a text

-- from number n on
abbrev lines_from : ℕ → List ℕ → List Numbered
lines_from n text = numbered n (map kept (lines_of text))

-- what they give, and then the end of the text
abbrev from : Typist → ℕ → List ℕ → Output
from t n text = whole t (lines_from n text)

text-is : (k : ℕ) (v rest : List ℕ) → line_typed k v ++ rest ≡ typed_line k v ++ (10 ∷ rest)
text-is k v rest = simp append_assoc

first-line : (n : ℕ) (a text : List ℕ) (ls : List (List ℕ)) → lines_of text ≡ a ∷ ls
    → numbered n (map kept (lines_of text)) ≡ record { number = n; bytes = kept a } ∷ numbered (one_more_lem n) (map kept ls)
unfolding numbered
first-line n a text ls e = rw e

-- x is what becomes of the first line: its bytes come first, and the typist goes on from it
module _ (t : Typist) (l : Numbered) (ls : List Numbered) {x : Turn} (e : line_turn t l ≡ x) where
  first-bytes : (whole t (l ∷ ls)).bytes ≡ x.bytes ++ (whole x.typist ls).bytes
  unfolding output
  first-bytes =
      append_assoc (line_turn t l).bytes (output (line_turn t l).typist ls).bytes
      (end_turn true (output (line_turn t l).typist ls).typist record_most).bytes
      ∙ ap (λ (y : Turn). y.bytes ++ (whole y.typist ls).bytes) e

  first-typist : (whole t (l ∷ ls)).typist ≡ (whole x.typist ls).typist
  unfolding output
  first-typist = ap (λ (y : Turn). (whole y.typist ls).typist) e

-- after the last line feed there is an empty line, which says nothing; then comes the end
module _ (t : Typist) (n : ℕ) where
  end-bytes : (from t n []).bytes ≡ (end_turn true t record_most).bytes
  unfolding lines_of numbered output turn line_said nth_word leading_of unmarked index_of
  end-bytes = rw (and-false (eqb n 1)) refl

  end-typist : (from t n []).typist ≡ (end_turn true t record_most).typist
  unfolding lines_of numbered output turn line_said nth_word leading_of unmarked index_of
  end-typist = rw (and-false (eqb n 1)) refl

-- no close waits, or one does
none-waits : (t : Typist) → Clean t → end_turn true t record_most ≡ record { typist = t; fate = Nothing; bytes = [] }
none-waits t c =
    sym (end-open true t record_most (ap is_some c.close))
    ∙ ap (λ (x : Typist). record { typist = x; fate = Nothing; bytes = [] }) (no_run t c.run)

one-waits : (t : Typist) → (t.waiting.close ≡ None → ⊥) → t.waiting.run ≡ None → end_turn true t record_most ≡ closing_turn t record_most
one-waits t z r =
    sym (end-closing true t record_most (some_of _ z)) ∙ ap (λ (x : Typist). closing_turn x record_most) (no_run t r)

-- ---- one record after the other

-- the typist after the record r, with the account that it leaves
abbrev after : Typist → List ℕ → Account → Typist
after t r next = written_as (hears t (kind_byte r)) (entry (kind_byte r) (values_of r)) (holding next [])

-- line numbers are never 0
some_number : (n : ℕ) → 0 < n → 0 < one_more_lem n
some_number n h = by (ltb n 18446744073709551615)
  where
    by : (b : Bool) → 0 < pick b (n + 1) n
    by true = omega arith
    by false = h

module _ (a : Account) (f : AccountInRange a) (r : List ℕ) (q : Accepted a r)
    (t : Typist) (c : Clean t) (e : t.state ≡ holding a []) (n : ℕ) where
  state-ready : Ready (holding a [])
  state-ready = record { range = range-idle a f; early = q.early; none = refl }

  -- its line
  abbrev line : Numbered
  line = record { number = n; bytes = kept (typed_line (record_row r) (values_of r)) }

  lines_are : (rest : List ℕ) → lines_from n (line_typed (record_row r) (values_of r) ++ rest) ≡ line ∷ lines_from (one_more_lem n) rest
  lines_are rest =
      ap (lines_from n) (text-is (record_row r) (values_of r) rest)
      ∙ first-line n (typed_line (record_row r) (values_of r)) (typed_line (record_row r) (values_of r) ++ (10 ∷ rest)) (lines_of rest)
      (lines_cut (typed_line (record_row r) (values_of r)) (line-one (holding a []) state-ready r q.whole q.bytes q.taken) rest)

  line-turn : {x : Turn} → turn t n (typed_line (record_row r) (values_of r)) record_most ≡ x → line_turn t line ≡ x
  line-turn g =
      ap (λ (l : List ℕ). turn t n l record_most) (line-whole (holding a []) state-ready r q.whole q.bytes q.taken n) ∙ g

  -- any record but a close is written
  one_again : eqb (kind_byte r) 8 ≡ false → (rest : List ℕ) (rs : List (List ℕ))
      → SameBytes (judge a r).account rs (from (after t r (judge a r).account) (one_more_lem n) rest)
      → SameBytes a (r ∷ rs) (from t n (line_typed (record_row r) (values_of r) ++ rest))
  unfolding account_behind
  one_again k rest rs s =
      let ls = lines_from (one_more_lem n) rest in
      let turn_is = line-turn (record-again (holding a []) state-ready r q.whole q.bytes q.taken t e c n k) in
      let typist = first-typist t line ls turn_is in
      rw (lines_are rest) (record {
        bytes = first-bytes t line ls turn_is ∙ ap (λ (l : List ℕ). r ++ l) s.bytes;
        state = ap (λ (x : Typist). x.state) typist ∙ s.state;
        failed = ap (λ (x : Typist). x.failed) typist ∙ s.failed;
        told = ap (λ (x : Typist). x.counts.told) typist ∙ s.told;
      })

  -- a close waits, and the end of the text writes it
  close-last : kind_byte r ≡ 8 → 0 < n → SameBytes a (r ∷ []) (from t n (line_typed (record_row r) (values_of r) ++ []))
  unfolding account_behind
  close-last k h =
      let ls = lines_from (one_more_lem n) [] in
      let turn_is = line-turn (close-again (holding a []) state-ready r q.whole q.bytes q.taken t e c n k) in
      let waiting = waits (hears t (kind_byte r)) n in
      let some : waiting.waiting.close ≡ None → ⊥ = λ z. no_some (sym (line-is n h) ∙ z) in
      let closing =
      one-waits waiting some c.run ∙ closed-again (holding a []) state-ready r q.whole q.bytes q.taken waiting e k in
      let typist = first-typist t line ls turn_is ∙ end-typist waiting (one_more_lem n) ∙ ap (λ (x : Turn). x.typist) closing in
      rw (lines_are []) (record {
        bytes =
            first-bytes t line ls turn_is ∙ end-bytes waiting (one_more_lem n) ∙ ap (λ (x : Turn). x.bytes) closing ∙ sym (append-nil r);
        state = ap (λ (x : Typist). x.state) typist;
        failed = ap (λ (x : Typist). x.failed) typist ∙ c.failed;
        told = ap (λ (x : Typist). x.counts.told) typist ∙ c.told;
      })

none_left : (a : Account) (t : Typist) → Clean t → t.state ≡ holding a [] → (n : ℕ) → SameBytes a [] (from t n [])
unfolding account_behind
none_left a t c e n =
    let ends = none-waits t c in
    let typist = end-typist t n ∙ ap (λ (x : Turn). x.typist) ends in
    record {
      bytes = end-bytes t n ∙ ap (λ (x : Turn). x.bytes) ends;
      state = ap (λ (x : Typist). x.state) typist ∙ e;
      failed = ap (λ (x : Typist). x.failed) typist ∙ c.failed;
      told = ap (λ (x : Typist). x.counts.told) typist ∙ c.told;
    }

-- nothing is accepted after a close
last_one : (a : Account) (r : List ℕ) → Accepted a r → kind_byte r ≡ 8 → (rs : List (List ℕ)) → AllAccepted (judge a r).account rs → rs ≡ []
unfolding AllAccepted
last_one a r q k [] p = refl
last_one a r q k (x ∷ rs) p = absurd (omega (arith, close-ends a r q.taken k, p.0.early))

all-again : (a : Account) → AccountInRange a → (rs : List (List ℕ)) → AllAccepted a rs → (t : Typist) → Clean t → t.state ≡ holding a []
    → (n : ℕ) → 0 < n → SameBytes a rs (from t n (text_typed rs))
unfolding AllAccepted text_typed
all-again a f [] p t c e n h = none_left a t c e n
all-again a f (r ∷ rs) p t c e n h =
    let q = p.0 in
    let next = (judge a r).account in
    let fair : AccountInRange next = in-range-judge a r f q.early in
    by-test (eqb (kind_byte r) 8)
    (λ k. let eight = eqb-true _ _ k in rw (last_one a r q eight rs p.1) (close-last a f r q t c e n eight h))
    (λ k. one_again a f r q t c e n k (text_typed rs) rs
    (all-again next fair rs p.1 (after t r next) (clean-on t c (kind_byte r) (entry (kind_byte r) (values_of r)) (holding next [])) refl
    (one_more_lem n) (some_number n h)))

pub retyped : (rs : List (List ℕ)) → AllAccepted no_record rs → SameBytes no_record rs (typed_whole no_record_yet (text_typed rs))
retyped rs p =
    all-again no_record in-range-none rs p (beginning no_record_yet)
    (record { lost = refl; failed = refl; close = refl; run = refl; told = refl }) refl
    1 (omega arith)
