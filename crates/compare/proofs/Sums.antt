-- The next group, its subtotal and the total, as the code finds them.
-- Assumes nothing.
use Prim.Native.Nat.{ℕ, ◌-◌, ◌≤◌, ◌<◌, min}
use mathlib.Core.Path.{◌≡◌, refl, sym}
use mathlib.Core.List.{List, [], ◌∷◌}
use mathlib.Core.Bool.{Bool, true, false, not}
use mathlib.Core.Logic.{⊎_elim}
use native.Mathlib.Omega.{arith}
use borrow.Author.Tests.{eq-eqb, ne_eqb}
use lib.ListN.{length, get_or, take, length-take}
use lib.Seq.{take_all, take-take}
use Rattle.base.proofs.Tests.{lt-or-ge, not-true, not-false}
use Rattle.line_bytes.specs.Lines.{line_size, total_size}
use Rattle.account.specs.declared.Account.{Account}
use Rattle.account.specs.Judge.{kind_byte}
use Rattle.walk.specs.Walk.{Entry, entries_after}
use Rattle.compare.specs.declared.places.Taken.{Taken}
use Rattle.compare.specs.Inner.{Turned, Written}
use Rattle.compare.specs.Records.{values_in}
use Rattle.compare.specs.Places.{no_group, group_at, subtotal_of, close_lines, last_line_lem}

-- ---- the next group

pub group-none : (es : List Entry) → es ≡ [] → no_group ≡ group_at es
group-none es e = rw e refl

pub group-other : (es : List Entry) (e : Entry) (l : List Entry) → es ≡ e ∷ l → (kind_byte e.bytes ≡ 2 → ⊥) → no_group ≡ group_at es
group-other es e l q h = rw (q, ne_eqb _ _ h) refl

pub group-some : (es : List Entry) (e : Entry) (l : List Entry) (v : List ℕ) → es ≡ e ∷ l → kind_byte e.bytes ≡ 2 → v ≡ values_in e.bytes
    → get_or v 0 0 ≡ group_at es
group-some es e l v q h f = rw (q, eq-eqb _ _ h, f) refl

-- ---- a subtotal

pub subtotal-none : (grouped : Bool) (es : List Entry) → not grouped ≡ true → [] ≡ subtotal_of grouped es
unfolding subtotal_of
subtotal-none grouped [] h = refl
subtotal-none grouped (e ∷ es) h = rw (not-true grouped h) refl

take-least : (w n : ℕ) (l : List ℕ) → take (min w n) l ≡ take n (take w l)
take-least w n l =
    ⊎_elim
    (λ (h : w < n).
    let m : min w n ≡ w = omega arith in
    rw m (sym (take_all n (take w l) (omega (arith, length-take w l)))))
    (λ (h : n ≤ w). let m : min w n ≡ n = omega arith in rw m (sym (take-take n w l h)))
    (lt-or-ge w n)

subtotal-empty : (grouped : Bool) (es : List Entry) → es ≡ [] → [] ≡ subtotal_of grouped es
unfolding subtotal_of
subtotal-empty grouped es e = rw e refl

subtotal-first : (grouped : Bool) (es : List Entry) (e : Entry) (l : List Entry) → es ≡ e ∷ l → not grouped ≡ false
    → take line_size e.lines ≡ subtotal_of grouped es
unfolding subtotal_of
subtotal-first grouped es e l q h = rw (q, not-false grouped h) refl

pub subtotal-is : (grouped : Bool) (a : Account) (xs lines : List ℕ) (t : Taken) (n : ℕ) → Turned a xs t → Written a xs lines t
    → not grouped ≡ false → n ≡ min t.written line_size → take n lines ≡ subtotal_of grouped (entries_after a xs)
subtotal-is grouped a xs lines t n u w h e =
    ⊎_elim
    (λ (z : t.n < 1).
    let none : t.n ≡ 0 = omega (arith, z) in
    let m : n ≡ 0 = omega (arith, e, w.none none) in
    rw m (subtotal-empty grouped (entries_after a xs) (u.ended none)))
    (λ (k : 1 ≤ t.n).
    rw (e, take-least t.written line_size lines, w.are k) (subtotal-first grouped (entries_after a xs) _ _ (u.goes k) h))
    (lt-or-ge t.n 1)

-- ---- the close

pub close-none : (es : List Entry) → es ≡ [] → [] ≡ close_lines es
unfolding close_lines
close-none es e = rw e refl

pub close_other : (es : List Entry) (e : Entry) (l : List Entry) → es ≡ e ∷ l → (kind_byte e.bytes ≡ 8 → ⊥) → [] ≡ close_lines es
unfolding close_lines
close_other es e l q h = rw (q, ne_eqb _ _ h) refl

pub close-is : (es : List Entry) (e : Entry) (l : List Entry) (x : List ℕ) → es ≡ e ∷ l → kind_byte e.bytes ≡ 8 → x ≡ e.lines → x ≡ close_lines es
unfolding close_lines
close-is es e l x q h f = rw (q, eq-eqb _ _ h) f

pub line-short : (l : List ℕ) → length l ≤ total_size → l ≡ last_line_lem l
line-short l h = let z : length l - total_size ≡ 0 = omega arith in rw z refl
