-- Laws of `Said`: a text that fits, one that is cut off, and one text behind another.
use Prim.Native.Nat.{ℕ, zero, suc, ◌+◌, ◌-◌, ◌≤◌}
use native.Mathlib.Omega.{arith}
use mathlib.Core.Path.{◌≡◌, refl, ap, ◌∙◌}
use mathlib.Core.List.{List, [], ◌∷◌, ◌++◌}
use lib.ListN.{length, take, drop, length-take}
use lib.Seq.{take_all, take_at}
use Rattle.printing.specs.Decimal.{Put}
use Rattle.printing.specs.Said.{Said}
use Rattle.printing.proofs.Puts.{none, put-length, and-then}

pub said-whole : {xs zs : List ℕ} {at : ℕ} (s : List ℕ) {r : ℕ} → length s ≤ length xs - at → Put xs zs at s r → Said xs zs at s r
said-whole {xs} {zs} {at} s h p = record { put = rw (take_all (length xs - at) s h) p; long = put-length p }

pub said-cut : {xs zs : List ℕ} {at : ℕ} (s cut : List ℕ) {r : ℕ} → cut ≡ take (length xs - at) s → Put xs zs at cut r → Said xs zs at s r
said-cut {xs} {zs} {at} s cut e p = record { put = rw (← e) p; long = put-length p }

-- what is cut off of two texts together
cut-both : (n : ℕ) (s t : List ℕ) → take n (s ++ t) ≡ take n s ++ take (n - length (take n s)) t
cut-both zero s t = refl
cut-both (suc n) [] t = let e : suc n - 0 ≡ suc n = omega arith in rw e
cut-both (suc n) (a ∷ s) t =
    let e : suc n - suc (length (take n s)) ≡ n - length (take n s) = omega arith in
    rw e (ap (λ (l : List ℕ). a ∷ l) (cut-both n s t))

pub cut_fits : (s : List ℕ) (n at : ℕ) {cut : List ℕ} → cut ≡ take (n - at) s → at ≤ n → at + length cut ≤ n
cut_fits s n at e h = let l = ap length e ∙ length-take (n - at) s in omega (arith, l)

-- the text that stands at a buffer's start
pub text-at-start : {xs zs : List ℕ} {s : List ℕ} {r : ℕ} → Put xs zs 0 s r → take r zs ≡ s
text-at-start {xs} {zs} {s} {r} p = rw p.text (take_at s (drop r xs) r (omega (arith, p.next)))

infixr 40 ◌⟫◌
pub ◌⟫◌ : {xs ys zs : List ℕ} {at r q : ℕ} {s t : List ℕ} → Said xs ys at s r → Said ys zs r t q → Said xs zs at (s ++ t) q
◌⟫◌ {xs} {ys} {zs} {at} {r} {q} {s} {t} a b =
    let left : length ys - r ≡ length xs - at - length (take (length xs - at) s) = omega (arith, a.long, a.put.next) in
    record {
      put = rw (cut-both (length xs - at) s t) (rw left at (and-then a.put b.put));
      long = b.long ∙ a.long;
    }

-- nothing said
pub said-none : {xs : List ℕ} {at : ℕ} → at ≤ length xs → Said xs xs at [] at
said-none {xs} {at} h = record { put = rw (nothing-cut (length xs - at)) (none xs at h); long = refl }
  where
    nothing-cut : (n : ℕ) → take {A = ℕ} n [] ≡ []
    nothing-cut zero = refl
    nothing-cut (suc n) = refl
