-- Laws of the last word, by the stage of the account.
use mathlib.Core.Path.{◌≡◌}
use mathlib.Core.List.{[], ◌∷◌, ◌++◌}
use borrow.Author.Tests.{eq-eqb, ne_eqb}
use Rattle.printing.specs.Decimal.{numbers_line}
use Rattle.account.specs.declared.Account.{Account}
use Rattle.last_word.specs.LastWord.{closed_word, unfinished_word, refused_word, end_text}

module _ (a : Account) where
  pub end-closed : a.stage ≡ 2 → end_text a ≡ closed_word
  unfolding end_text
  end-closed e = rw (eq-eqb _ _ e)

  module _ (other : a.stage ≡ 2 → ⊥) where
    pub end-unfinished : (a.stage ≡ 3 → ⊥) → end_text a ≡ unfinished_word
    unfolding end_text
    end-unfinished n = rw (ne_eqb _ _ other, ne_eqb _ _ n)

    pub end_refused : a.stage ≡ 3 → end_text a ≡ refused_word ++ numbers_line (a.refusal.code ∷ a.refusal.accepted ∷ a.refusal.field ∷ [])
    unfolding end_text
    end_refused e = rw (ne_eqb _ _ other, eq-eqb _ _ e)
