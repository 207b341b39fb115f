-- A line that is written is a run of stores, and a run of stores is a part pasted in.
-- Assumes nothing.
use Prim.Native.Nat.{ℕ, ◌+◌, ◌≤◌}
use mathlib.Core.Path.{◌≡◌, sym, ap, ◌∙◌}
use mathlib.Core.List.{List, ◌++◌}
use native.Mathlib.Omega.{arith}
use borrow.Author.Tests.{ne_eqb}
use lib.ListN.{length, take}
use lib.Seq.{sets, sets-eq, paste, paste-zero, take_all}
use Rattle.codec.proofs.Stores.{sets-append}
use Rattle.line_bytes.specs.Lines.{line_size, total_size, lines_most}
use Rattle.account.specs.declared.Judged.{Judged}
use Rattle.account.specs.Line.{line_with, total_with, bytes_of}
use Rattle.account.proofs.Told.{line-long, total-long, both_long}

pasted : (bs out : List ℕ) (w n : ℕ) → length bs ≡ n → w + n ≤ length out → sets out w bs ≡ paste out w bs n
pasted bs out w n e h =
    let t : take n bs ≡ bs = take_all n bs (omega arith) in
    sets-eq bs out w (omega arith) ∙ rw (e, t)

-- the lines of a record: the first of them, and the total
abbrev pub leading : Judged → List ℕ
leading j = line_with j.line.kind j.line.group j.line.figures

abbrev pub total : Judged → List ℕ
total j = total_with j.account.sums j.line.co2e

module _ (out : List ℕ) (w : ℕ) (j : Judged) where
  pub none_written : j.line.given ≡ 0 → out ≡ paste out w (bytes_of j) j.line.given
  none_written e = rw e (paste-zero out w (bytes_of j))

  module _ (h : w + j.line.given ≤ length out) where
    pub line-written : j.line.given ≡ line_size → sets out w (leading j) ≡ paste out w (bytes_of j) j.line.given
    unfolding bytes_of
    line-written e = rw e (pasted (leading j) out w line_size (line-long _ _ _) (omega arith))

    pub total-written : j.line.given ≡ total_size → sets out w (total j) ≡ paste out w (bytes_of j) j.line.given
    unfolding bytes_of
    total-written e = rw e (pasted (total j) out w total_size (total-long _ _) (omega arith))

    module _ (zero : j.line.given ≡ 0 → ⊥) (other : j.line.given ≡ line_size → ⊥) (third : j.line.given ≡ total_size → ⊥)
        (long : length (bytes_of j) ≡ j.line.given) where
      are-both : bytes_of j ≡ leading j ++ total j
      unfolding bytes_of
      are-both = rw (ne_eqb _ 0 zero, ne_eqb _ line_size other, ne_eqb _ total_size third)

      pub both-are : j.line.given ≡ lines_most
      both-are = sym long ∙ ap length are-both ∙ both_long _ _ _ _ _

      -- one after the other
      pub both-written : sets (sets out w (leading j)) (w + line_size) (total j) ≡ paste out w (bytes_of j) j.line.given
      both-written =
          let l : length (leading j) ≡ line_size = line-long _ _ _ in
          let s : sets (sets out w (leading j)) (w + length (leading j)) (total j) ≡ sets out w (leading j ++ total j) =
          sym (sets-append (leading j) (total j) out w) in
          (rw l at s) ∙ rw (are-both, both-are) (pasted (leading j ++ total j) out w lines_most (both_long _ _ _ _ _) (omega (arith, both-are)))
