-- Hints: one answer (base, specs/Answers), worked inputs, and that the first 13 bytes of an input are enough. Assumes nothing.
use Prim.Native.Nat.{ℕ, zero, suc, ◌≤◌, ◌<◌}
use mathlib.Core.Path.{◌≡◌, refl, sym, ◌∙◌}
use mathlib.Core.List.{List, [], ◌∷◌}
use mathlib.Core.Bool.{false}
use native.Mathlib.Omega.{arith}
use borrow.Author.Tests.{ne_eqb}
use lib.Dec.{eqb}
use lib.ListN.{length, take}
use lib.Seq.{take-take}
use Rattle.base.specs.Answers.{AsksNothing, OneAnswer, OneAnswerWith}
use Rattle.printing.proofs.Examples.{one-put}
use Rattle.printing.proofs.Texts.{one-says}
use Rattle.printing.specs.Says.{left_by}
use Rattle.printing.specs.Ascii.{ascii}
use Rattle.typed_words.specs.Words.{same_text_lem}
use Rattle.names.specs.declared.hints.Given.TheVariants.{Book, Nothing, Typed, Sheet}
use Rattle.names.specs.Hints.{looks_like}
use Rattle.names.proofs.hints.look.Kinds as look
use Rattle.names.proofs.hints.look.Reads as look-contract
use Rattle.names.proofs.hints.say_hint.Kinds as hint
use Rattle.names.proofs.hints.say_hint.Reads as hint-contract
use Rattle.names.proofs.hints.say_hint_alone.Kinds as alone
use Rattle.names.proofs.hints.say_hint_alone.Reads as alone-contract

pub look-asks-nothing : AsksNothing look.ps look-contract.Asked
look-asks-nothing κs args = tt

-- What an input looks like.
pub one-look : OneAnswer look.ps look.r look-contract.Learnt
one-look κs args f g e e' p q = p ∙ sym q

pub say-hint-asks-nothing : AsksNothing hint.ps hint-contract.Asked
say-hint-asks-nothing κs args = tt

-- The hint: its end, and the buffer at the end.
pub one-say-hint : OneAnswerWith hint.ps hint.r hint-contract.Learnt (λ κs e. left_by e.0.now)
one-say-hint κs args f g e e' p q = (refl, one-says p q)

pub say-hint-alone-asks-nothing : AsksNothing alone.ps alone-contract.Asked
say-hint-alone-asks-nothing κs args = tt

-- The hint alone: its end, and the buffer at the end.
pub one-say-hint-alone : OneAnswerWith alone.ps alone.r alone-contract.Learnt (λ κs e. e.0.now)
one-say-hint-alone κs args f g e e' p q = one-put p.put q.put

some : (xs : List ℕ) → 0 < length xs → eqb (length xs) 0 ≡ false
some xs h = ne_eqb (length xs) 0 (λ e. omega arith)

-- Whoever looks at the first 13 bytes, or at more, sees what the whole looks like.
pub first-bytes : (n : ℕ) (xs : List ℕ) → 13 ≤ n → looks_like (take n xs) ≡ looks_like xs
unfolding looks_like
first-bytes zero xs h = absurd (omega arith)
first-bytes (suc zero) xs h = absurd (omega arith)
first-bytes (suc (suc n)) [] h = refl
first-bytes (suc (suc n)) (x ∷ []) h = refl
first-bytes (suc (suc n)) (x ∷ y ∷ xs) h =
    rw (
      some (x ∷ y ∷ take n xs) (omega arith),
      some (x ∷ y ∷ xs) (omega arith),
      take-take 10 (suc (suc n)) (x ∷ y ∷ xs) (omega arith),
      take-take 13 (suc (suc n)) (x ∷ y ∷ xs) (omega arith),
    )

-- a typed text, one with a byte order mark, a sheet, one with a byte order mark, no bytes, the beginning of a book, and a byte of either
inputs-seen : (looks_like (ascii "farm 7 2010 1") ≡ Typed)
    × (looks_like (239 ∷ 187 ∷ 191 ∷ ascii "farm 7 2010 1") ≡ Typed)
    × (looks_like (ascii "kind,group,ch4") ≡ Sheet)
    × (looks_like (239 ∷ 187 ∷ 191 ∷ ascii "kind,group,ch4") ≡ Sheet)
    × (looks_like [] ≡ Nothing)
    × (looks_like (0 ∷ 9 ∷ 1 ∷ 1 ∷ []) ≡ Book)
    × (looks_like (0 ∷ []) ≡ Book)
    × (looks_like (ascii "f") ≡ Book)
    × (looks_like (ascii "kind,grou") ≡ Typed)
unfolding looks_like same_text_lem
inputs-seen = (refl, refl, refl, refl, refl, refl, refl, refl, refl)
