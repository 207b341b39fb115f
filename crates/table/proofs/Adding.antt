-- One column's sum after the other.
-- Assumes nothing.
use Rattle.std.proofs.Common.{◌≡◌, ℕ, suc, ◌+◌, ◌<◌, ◌≤◌, List, [], ◌∷◌, ◌++◌, length, get_or, take, drop, set, ap, ◌∙◌, append_assoc, append-nil}
use Rattle.std.proofs.Common.{add-one, arith, drop_of_length-le, take_all, drop-cons, take-suc-set, drop-set-lt}
use Rattle.line_rows.specs.Rows.{is_signed}
use Rattle.table.specs.declared.sums.Sum.{Sum}
use Rattle.table.specs.Sums.{sum_with, sums_with}

module _ (vs : List ℕ) (ss : List Sum) (k : ℕ) where
  -- those before k are summed, the others not yet
  abbrev pub so_far : List Sum
  so_far = take k ss ++ sums_with k (drop k ss) vs

module _ (vs : List ℕ) (ss : List Sum) (k : ℕ) where
  pub one-sum : (d x : Sum) → k < length ss → x ≡ sum_with (is_signed k) (get_or ss k d) (get_or vs k 0)
      → so_far vs (set ss k x) (k + 1) ≡ so_far vs ss k
  unfolding sums_with
  one-sum d x h e =
      rw (add-one k, take-suc-set ss k x h, drop-set-lt (suc k) ss k x (omega arith), drop-cons ss k d h)
      (append_assoc (take k ss) (x ∷ []) (sums_with (suc k) (drop (suc k) ss) vs)
      ∙ ap (λ (y : Sum). take k ss ++ (y ∷ sums_with (suc k) (drop (suc k) ss) vs)) e)

  pub all-sums : length ss ≤ k → so_far vs ss k ≡ ss
  unfolding sums_with
  all-sums h = rw (drop_of_length-le ss h, take_all k ss h) (append-nil ss)
