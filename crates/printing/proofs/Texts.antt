-- Laws of `Says`: one text behind another, nothing said, and what a text from the start leaves in the lent buffer.
use Prim.Native.Nat.{ℕ}
use mathlib.Core.Path.{◌≡◌, ◌∙◌, refl}
use mathlib.Core.List.{List, [], ◌++◌}
use Rattle.printing.specs.Said.{Said}
use Rattle.printing.specs.Says.{Says, left_by}
use Rattle.printing.specs.declared.text.Text.{Text}
use Rattle.printing.proofs.Examples.{one-put}
use Rattle.printing.proofs.Sayings.{said-none}
use Rattle.printing.proofs.Sayings as sayings

infixr 40 ◌⟫◌
pub ◌⟫◌ : {t u v : Text} {a b : List ℕ} → Says t u a → Says u v b → Says t v (a ++ b)
p ⟫ q = record { same = q.same ∙ p.same; said = sayings.◌⟫◌ p.said q.said }

pub says-none : {t : Text} → Says t t []
says-none {t} = record { same = refl; said = said-none t.inside }

-- the lent buffer was xs, and is zs when the text is let go
pub said-behind : {t u : Text} {xs zs s : List ℕ} {at : ℕ} → Says t u s → t.buffer.now ≡ xs → t.len ≡ at → u.buffer.now ≡ zs → Said xs zs at s u.len
said-behind p a b e = rw (← a) (rw (← e) (rw b at p.said))

pub said-from-start : {t u : Text} {xs zs s : List ℕ} → Says t u s → t.buffer.now ≡ xs → t.len ≡ 0 → u.buffer.now ≡ zs → Said xs zs 0 s u.len
said-from-start = said-behind

-- two texts that meet one contract have the same bytes and the same length
pub one-says : {t u v : Text} {s : List ℕ} → Says t u s → Says t v s → left_by u ≡ left_by v
one-says p q = let both = one-put p.said.put q.said.put in cc (both.0, both.1)

-- texts are left the same where their bytes and their lengths are
pub same-left : (t u : Text) → t.buffer.now ≡ u.buffer.now → t.len ≡ u.len → left_by t ≡ left_by u
same-left t u a b = cc (a, b)
