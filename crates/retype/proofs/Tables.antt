-- What the tables say of each row: antt computes it.
-- Assumes nothing.
use Prim.Native.Nat.{ℕ, zero, suc, ◌-◌, ◌≤◌, ◌<◌}
use native.Mathlib.Omega.{arith}
use mathlib.Core.Path.{◌≡◌, refl, sym, ap}
use mathlib.Core.Bool.{Bool, true, false, ◌&&◌, not, true≢false}
use mathlib.Core.Logic.{⊎_elim}
use mathlib.Core.List.{List, [], ◌∷◌}
use lib.ListN.{length}
use lib.Dec.{leb, ltb, eqb}
use borrow.Author.Tests.{leb-true, ltb-true, eqb-true}
use Rattle.base.specs.Choice.{pick}
use Rattle.base.proofs.Tests.{and_l, and_r, lt-or-ge, not-true}
use Rattle.base.specs.Bytes.{index_of, index_after}
use Rattle.std.specs.Prelude.{Option, Some, None, is_some}
use Rattle.typed_words.specs.Words.{nth_part, nth_word, leading_of, same_text_lem, lowered}
use Rattle.typed_words.specs.Amounts.{number_from, amount_of}
use Rattle.names.specs.Names.{kind_table, kind_name, choice_table, is_choice, choice_word, decimals_table, decimals_at}
use Rattle.codec.specs.Table.{table, fields, field_at, row_kind, last_row}
use Rattle.writer.specs.Line.{named_from, kind_of}
use Rattle.retype.proofs.Words.{Word}

-- each number from 1 to n passes the test
each : (ℕ → Bool) → ℕ → Bool
each p zero = true
each p (suc n) = p (suc n) && each p n

each_at : (p : ℕ → Bool) (n : ℕ) → each p n ≡ true → (k : ℕ) → 1 ≤ k → k ≤ n → p k ≡ true
unfolding each
each_at p zero e k l h = absurd (omega arith)
each_at p (suc n) e k l h =
    ⊎_elim
    (λ (g : k < suc n). each_at p n (and_r (p (suc n)) (each p n) e) k l (omega arith))
    (λ (g : suc n ≤ k). let z : k ≡ suc n = omega arith in rw z (and_l (p (suc n)) (each p n) e))
    (lt-or-ge k (suc n))

-- ---- the names

is_word_lem : List ℕ → Bool
is_word_lem [] = true
is_word_lem (b ∷ s) = (leb 45 b && leb b 122) && is_word_lem s

is_word : (s : List ℕ) → is_word_lem s ≡ true → Word s
unfolding is_word_lem
is_word [] e = tt
is_word (b ∷ s) e =
    let t = and_l (leb 45 b && leb b 122) (is_word_lem s) e in (
      (leb-true 45 b (and_l (leb 45 b) (leb b 122) t), leb-true b 122 (and_r (leb 45 b) (leb b 122) t)),
      is_word s (and_r (leb 45 b && leb b 122) (is_word_lem s) e),
    )

-- the name is a short word
word_test_lem : ℕ → Bool
word_test_lem k = is_word_lem (kind_name k) && (leb 1 (length (kind_name k)) && leb (length (kind_name k)) 7)

-- it is n
abbrev is_number : Option ℕ → ℕ → Bool
is_number None n = false
is_number (Some m) n = eqb m n

-- and the typist takes it for the kind of the row
kind_test : ℕ → Bool
kind_test k = is_number (kind_of (kind_name k)) (row_kind k)

words-computed : each word_test_lem last_row ≡ true
unfolding each is_word_lem word_test_lem kind_table nth_part index_of index_after
words-computed = refl

kinds-computed : each kind_test last_row ≡ true
unfolding each kind_test kind_table nth_part index_of index_after kind_of named_from lowered same_text_lem
kinds-computed = refl

-- ---- the fields

-- the word for v is short, and no number
abbrev choice_test_lem : ℕ → ℕ → ℕ → Bool
choice_test_lem k i v =
    is_word_lem (choice_word k i v)
    && ((leb 1 (length (choice_word k i v)) && leb (length (choice_word k i v)) 20) && not (is_some (amount_of (decimals_at k i) (choice_word k i v))))

-- each word of a choice is so; the numbers of any other field are below 10^15
abbrev value_test : ℕ → ℕ → Bool
value_test k i = pick (is_choice k i) (each (choice_test_lem k i) (field_at k i).2) (ltb (field_at k i).2 1000000000000000)

abbrev count_test : ℕ → Bool
count_test k = leb 1 (length (fields k)) && leb (length (fields k)) 12

-- fields are counted from 0
field_test : ℕ → Bool
field_test k = count_test k && each (λ (j : ℕ). value_test k (j - 1)) (length (fields k))

fields-computed : each field_test last_row ≡ true
unfolding each is_word_lem field_test table choice_table decimals_table amount_of number_from nth_part nth_word leading_of index_of index_after
fields-computed = refl

-- ---- a kind

module _ (k : ℕ) (least : 1 ≤ k) (most : k ≤ last_row) where
  word_test : is_word_lem (kind_name k) && (leb 1 (length (kind_name k)) && leb (length (kind_name k)) 7) ≡ true
  unfolding word_test_lem
  word_test = each_at word_test_lem last_row words-computed k least most

  pub name-word : Word (kind_name k)
  name-word = is_word (kind_name k) (and_l (is_word_lem (kind_name k)) (leb 1 (length (kind_name k)) && leb (length (kind_name k)) 7) word_test)

  name-length : leb 1 (length (kind_name k)) && leb (length (kind_name k)) 7 ≡ true
  name-length = and_r (is_word_lem (kind_name k)) (leb 1 (length (kind_name k)) && leb (length (kind_name k)) 7) word_test

  pub name-some : 0 < length (kind_name k)
  name-some = leb-true 1 (length (kind_name k)) (and_l (leb 1 (length (kind_name k))) (leb (length (kind_name k)) 7) name-length)

  pub name-short : length (kind_name k) ≤ 7
  name-short = leb-true (length (kind_name k)) 7 (and_r (leb 1 (length (kind_name k))) (leb (length (kind_name k)) 7) name-length)

  pub kind-back : kind_of (kind_name k) ≡ Some (row_kind k)
  unfolding kind_test
  kind-back =
      number_is (kind_of (kind_name k)) (each_at kind_test last_row kinds-computed k least most)
    where
      number_is : (w : Option ℕ) → is_number w (row_kind k) ≡ true → w ≡ Some (row_kind k)
      number_is None t = absurd (true≢false (sym t))
      number_is (Some m) t = ap (λ (x : ℕ). Some x) (eqb-true m (row_kind k) t)

  abbrev each-field : Bool
  each-field = each (λ (j : ℕ). value_test k (j - 1)) (length (fields k))

  field-test : count_test k && each-field ≡ true
  unfolding field_test
  field-test = each_at field_test last_row fields-computed k least most

  field-count : leb 1 (length (fields k)) && leb (length (fields k)) 12 ≡ true
  field-count = and_l (count_test k) each-field field-test

  pub fields-some : 1 ≤ length (fields k)
  fields-some = leb-true 1 (length (fields k)) (and_l (leb 1 (length (fields k))) (leb (length (fields k)) 12) field-count)

  pub fields-few : length (fields k) ≤ 12
  fields-few = leb-true (length (fields k)) 12 (and_r (leb 1 (length (fields k))) (leb (length (fields k)) 12) field-count)

  -- ---- a field

  module _ (i : ℕ) (h : i < length (fields k)) where
    value-test : value_test k i ≡ true
    value-test =
        let e : suc i - 1 ≡ i = omega arith in
        let all = and_r (count_test k) each-field field-test in
        rw e at (each_at (λ (j : ℕ). value_test k (j - 1)) (length (fields k)) all (suc i) (omega arith) h)

    pub number-most : is_choice k i ≡ false → (field_at k i).2 < 1000000000000000
    number-most f = ltb-true _ _ (rw f at value-test)

    module _ (c : is_choice k i ≡ true) (v : ℕ) (l : 1 ≤ v) (m : v ≤ (field_at k i).2) where
      choice_test : choice_test_lem k i v ≡ true
      choice_test = each_at (choice_test_lem k i) (field_at k i).2 (rw c at value-test) v l m

      abbrev word : List ℕ
      word = choice_word k i v

      abbrev long_enough : Bool
      long_enough = leb 1 (length word) && leb (length word) 20

      abbrev no_number_lem : Bool
      no_number_lem = not (is_some (amount_of (decimals_at k i) word))

      pub choice-word : Word (choice_word k i v)
      choice-word = is_word word (and_l (is_word_lem word) (long_enough && no_number_lem) choice_test)

      choice-rest : long_enough && no_number_lem ≡ true
      choice-rest = and_r (is_word_lem word) (long_enough && no_number_lem) choice_test

      pub choice-some : 0 < length (choice_word k i v)
      choice-some = leb-true 1 (length word) (and_l (leb 1 (length word)) (leb (length word) 20) (and_l long_enough no_number_lem choice-rest))

      pub choice-short : length (choice_word k i v) ≤ 20
      choice-short = leb-true (length word) 20 (and_r (leb 1 (length word)) (leb (length word) 20) (and_l long_enough no_number_lem choice-rest))

      pub choice-other : amount_of (decimals_at k i) (choice_word k i v) ≡ None
      choice-other = none-is (amount_of (decimals_at k i) word) (not-true _ (and_r long_enough no_number_lem choice-rest))
        where
          none-is : (n : Option ℕ) → is_some n ≡ false → n ≡ None
          none-is None e = refl
          none-is (Some m) e = absurd (true≢false e)
