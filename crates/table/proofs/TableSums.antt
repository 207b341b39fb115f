-- Theorem: the last row, which the program makes of running sums in words of 64 bits, has the whole-number sums over the closed books, each empty
-- where it does not fit eight bytes; so what is printed is the table.
-- Assumes nothing.
use Rattle.std.proofs.Common.{◌≡◌, ℕ, zero, suc, ◌+◌, ◌^◌, ◌<◌, ◌≤◌, true, false, List, [], ◌∷◌, ◌++◌, length, get_or, drop, replicate, sym, refl, ap}
use Rattle.std.proofs.Common.{◌∙◌, zero-add, add-one, arith, lt-ltb}
use Rattle.base.specs.Choice.{one_more_lem}
use Rattle.base.proofs.Tests.{by-test}
use Rattle.line_bytes.specs.Lines.{figure_count}
use Rattle.line_rows.specs.Rows.{is_signed}
use Rattle.printing.specs.Ascii.{ascii}
use Rattle.table.specs.declared.Seen.{Seen}
use Rattle.table.specs.declared.sums.Sum.{Sum}
use Rattle.table.specs.declared.sums.Totals.{Totals}
use Rattle.table.specs.Seen.{is_closed}
use Rattle.table.specs.Sums.{no_sum, sum_with, sums_with, no_totals, totals_with, fits}
use Rattle.table.specs.Rows.{header_text, cell_text, sums_text, last_text}
use Rattle.table.specs.Whole.{File, book, unreadable, seen_in, rows_of, closed_of, words_of, whole_sum, signed_sum, sum_text, whole_sums, all_text}
use Rattle.table.specs.Whole.{table_of, totals_over, printed}
use Rattle.table.proofs.Columns.{one-sum-cell, no-sum-cell}
use Rattle.table.proofs.Words.{sum_over, Words, all_words, all-signed, whole-text, signed-text}
use Rattle.table.proofs.TableRows.{numbers-small, zeros-small}

-- ---- a column

number_small : (f : File) (j : ℕ) → get_or (seen_in f).numbers j 0 < 2 ^ 64
number_small (book name bytes) j = numbers-small bytes j
number_small (unreadable name) j = zeros-small (3 + figure_count) j

words : (fs : List File) (j : ℕ) → Words (words_of j (closed_of fs))
unfolding closed_of words_of
words [] j = tt
words (f ∷ fs) j = by-test (is_closed (seen_in f)) (λ t. rw t (number_small f j, words fs j)) (λ t. rw t (words fs j))

few : (fs : List File) → length (closed_of fs) ≤ length fs
unfolding closed_of
few [] = omega arith
few (f ∷ fs) = by-test (is_closed (seen_in f)) (λ t. rw t (omega (arith, few fs))) (λ t. rw t (omega (arith, few fs)))

words-many : (j : ℕ) (ss : List Seen) → length (words_of j ss) ≡ length ss
unfolding words_of
words-many j [] = refl
words-many j (s ∷ ss) = ap suc (words-many j ss)

-- a cell of the last row
cell-is : (j : ℕ) (ws : List ℕ) → Words ws → length ws ≤ 18446744073709551615
    → cell_text (fits (is_signed j) (sum_over (is_signed j) no_sum ws)) j (sum_over (is_signed j) no_sum ws).low ≡ ascii "," ++ sum_text j ws
cell-is j ws o k =
    by-test (is_signed j)
    (λ t.
    rw t (ap (λ (l : List ℕ). ascii "," ++ l) (signed-text (sum_over true no_sum ws) (signed_sum ws) (all_words true ws o k).1 (all-signed ws o k))))
    (λ t.
    let a = all_words false ws o k in
    rw t (ap (λ (l : List ℕ). ascii "," ++ l) (whole-text (sum_over false no_sum ws) (whole_sum ws) a.1 a.0)))

-- ---- file after file

with-long : (k : ℕ) (ss : List Sum) (vs : List ℕ) → length (sums_with k ss vs) ≡ length ss
unfolding sums_with
with-long k [] vs = refl
with-long k (s ∷ ss) vs = ap suc (with-long (suc k) ss vs)

with_at : (k j : ℕ) (ss : List Sum) (vs : List ℕ) → j < length ss
    → get_or (sums_with k ss vs) j no_sum ≡ sum_with (is_signed (k + j)) (get_or ss j no_sum) (get_or vs (k + j) 0)
unfolding sums_with
with_at k j [] vs h = absurd (omega arith)
with_at k zero (s ∷ ss) vs h = let e : k + 0 ≡ k = omega arith in rw e refl
with_at k (suc j) (s ∷ ss) vs h = let e : k + suc j ≡ suc k + j = omega arith in rw e (with_at (suc k) j ss vs (omega arith))

-- one book more
module _ (t : Totals) (s : Seen) where
  with-closed : is_closed s ≡ true → totals_with t s ≡ record { closed = one_more_lem t.closed; sums = sums_with 0 t.sums s.numbers }
  unfolding totals_with
  with-closed c = rw c refl

  with-other : is_closed s ≡ false → totals_with t s ≡ t
  unfolding totals_with
  with-other c = rw c refl

  step-long : length (totals_with t s).sums ≡ length t.sums
  step-long =
      by-test (is_closed s)
      (λ c. ap (λ (u : Totals). length u.sums) (with-closed c) ∙ with-long 0 t.sums s.numbers)
      (λ c. ap (λ (u : Totals). length u.sums) (with-other c))

module _ (f : File) (fs : List File) where
  closed_on : is_closed (seen_in f) ≡ true → closed_of (f ∷ fs) ≡ seen_in f ∷ closed_of fs
  unfolding closed_of
  closed_on c = rw c refl

  closed-off : is_closed (seen_in f) ≡ false → closed_of (f ∷ fs) ≡ closed_of fs
  unfolding closed_of
  closed-off c = rw c refl

over-long : (fs : List File) (t : Totals) → length (totals_over t fs).sums ≡ length t.sums
unfolding totals_over
over-long [] t = refl
over-long (f ∷ fs) t = over-long fs (totals_with t (seen_in f)) ∙ step-long t (seen_in f)

over-at : (fs : List File) (t : Totals) (j : ℕ) → j < length t.sums
    → get_or (totals_over t fs).sums j no_sum ≡ sum_over (is_signed j) (get_or t.sums j no_sum) (words_of j (closed_of fs))
unfolding totals_over words_of sum_over closed_of
over-at [] t j h = refl
over-at (f ∷ fs) t j h =
    let s = seen_in f in
    let rest = over-at fs (totals_with t s) j (omega (arith, step-long t s, h)) in
    by-test (is_closed s)
    (λ c.
    rest
    ∙ ap (λ (u : Totals). sum_over (is_signed j) (get_or u.sums j no_sum) (words_of j (closed_of fs))) (with-closed t s c)
    ∙ ap (λ (x : Sum). sum_over (is_signed j) x (words_of j (closed_of fs))) (rw (zero-add j) at (with_at 0 j t.sums s.numbers h))
    ∙ ap (λ (ss : List Seen). sum_over (is_signed j) (get_or t.sums j no_sum) (words_of j ss)) (sym (closed_on f fs c)))
    (λ c.
    rest
    ∙ ap (λ (u : Totals). sum_over (is_signed j) (get_or u.sums j no_sum) (words_of j (closed_of fs))) (with-other t s c)
    ∙ ap (λ (ss : List Seen). sum_over (is_signed j) (get_or t.sums j no_sum) (words_of j ss)) (sym (closed-off f fs c)))

over_closed : (fs : List File) (t : Totals) → t.closed + length (closed_of fs) ≤ 18446744073709551615
    → (totals_over t fs).closed ≡ t.closed + length (closed_of fs)
unfolding totals_over closed_of
over_closed [] t h = omega arith
over_closed (f ∷ fs) t h =
    let s = seen_in f in
    by-test (is_closed s)
    (λ c.
    let long : length (closed_of (f ∷ fs)) ≡ suc (length (closed_of fs)) = ap (λ (ss : List Seen). length ss) (closed_on f fs c) in
    let one : (totals_with t s).closed ≡ t.closed + 1 =
    ap (λ (u : Totals). u.closed) (with-closed t s c) ∙ rw (lt-ltb t.closed 18446744073709551615 (omega (arith, long, h))) refl in
    let i = over_closed fs (totals_with t s) (omega (arith, one, long, h)) in
    omega (arith, i, one, long))
    (λ c.
    let long : length (closed_of (f ∷ fs)) ≡ length (closed_of fs) = ap (λ (ss : List Seen). length ss) (closed-off f fs c) in
    let same : (totals_with t s).closed ≡ t.closed = ap (λ (u : Totals). u.closed) (with-other t s c) in
    let i = over_closed fs (totals_with t s) (omega (arith, same, long, h)) in
    omega (arith, i, same, long))

-- ---- the last row

none-at : (n j : ℕ) → get_or (replicate n no_sum) j no_sum ≡ no_sum
none-at zero j = refl
none-at (suc n) zero = refl
none-at (suc n) (suc j) = none-at n j

sums-text : (n k : ℕ) (ss : List Sum) (closed : List Seen) → n + k ≡ length ss
    → ((j : ℕ) → j < length ss
    → cell_text (fits (is_signed j) (get_or ss j no_sum)) j (get_or ss j no_sum).low ≡ ascii "," ++ sum_text j (words_of j closed))
    → sums_text k (drop k ss) ≡ whole_sums n k closed
unfolding whole_sums
sums-text zero k ss closed e o = no-sum-cell ss k (omega arith)
sums-text (suc n) k ss closed e o =
    one-sum-cell ss k no_sum (omega arith)
    ∙ ap (λ (t : List ℕ). t ++ sums_text (k + 1) (drop (k + 1) ss)) (o k (omega arith))
    ∙ ap (λ (t : List ℕ). (ascii "," ++ sum_text k (words_of k closed)) ++ t)
    (sums-text n (k + 1) ss closed (omega arith) o ∙ ap (λ (m : ℕ). whole_sums n m closed) (add-one k))

-- The last row has the whole-number sums over the closed books' total lines.
pub table-sums : (fs : List File) → length fs < 2 ^ 64 → last_text (totals_over no_totals fs) ≡ all_text (closed_of fs)
unfolding last_text all_text
table-sums fs h =
    let long : length (totals_over no_totals fs).sums ≡ 3 + figure_count = over-long fs no_totals in
    let closed : (totals_over no_totals fs).closed ≡ length (closed_of fs) = over_closed fs no_totals (omega (arith, few fs)) ∙ omega arith in
    let each = sums-text (figure_count + 1) 2 (totals_over no_totals fs).sums (closed_of fs) (omega (arith, long))
    (λ j l.
    let at = over-at fs no_totals j (omega (arith, long, l))
    ∙ ap (λ (s : Sum). sum_over (is_signed j) s (words_of j (closed_of fs))) (none-at (3 + figure_count) j) in
    rw at (cell-is j (words_of j (closed_of fs)) (words fs j) (omega (arith, words-many j (closed_of fs), few fs)))) in
    rw (closed, each) refl

-- So what the program prints, file after file, is the table.
pub table-printed : (fs : List File) → length fs < 2 ^ 64 → printed fs ≡ table_of fs
table-printed fs h = ap (λ (t : List ℕ). header_text ++ (rows_of fs ++ t)) (table-sums fs h)
