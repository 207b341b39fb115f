-- Laws of `shown`: its bytes, one more of them in a buffer, and all that there is room for.
use Prim.Native.Nat.{ℕ, zero, suc, ◌+◌, ◌-◌, ◌<◌, ◌≤◌, min}
use native.Mathlib.Omega.{arith}
use mathlib.Core.Path.{◌≡◌, refl, sym, ap, ◌∙◌}
use mathlib.Core.List.{List, [], ◌∷◌}
use lib.ListN.{length, get_or, set, take, length-take}
use lib.Seq.{take_all, get_or-take}
use lib.Dec.{leb}
use borrow.Author.Tests.{leb-true, leb-false}
use Rattle.base.proofs.Tests.{by-test}
use Rattle.printing.specs.Decimal.{Put}
use Rattle.printing.specs.Said.{Said}
use Rattle.printing.proofs.Puts.{put-more}
use Rattle.names.specs.Names.{printed_byte, all_printed, shown}

length-printed : (s : List ℕ) → length (all_printed s) ≡ length s
unfolding all_printed
length-printed [] = refl
length-printed (b ∷ s) = ap suc (length-printed s)

at-printed : (s : List ℕ) (i : ℕ) → i < length s → get_or (all_printed s) i 0 ≡ printed_byte (get_or s i 0)
unfolding all_printed
at-printed [] i h = absurd (omega arith)
at-printed (b ∷ s) zero h = refl
at-printed (b ∷ s) (suc i) h = at-printed s i (omega arith)

length-shown : (word : List ℕ) → length (shown word) ≡ min 24 (length word)
length-shown word = length-printed (take 24 word) ∙ length-take 24 word

at-shown : (word : List ℕ) (i : ℕ) → i < length word → i < 24 → get_or (shown word) i 0 ≡ printed_byte (get_or word i 0)
at-shown word i h k = at-printed (take 24 word) i (omega (arith, length-take 24 word)) ∙ ap printed_byte (get_or-take 24 word i 0 k)

-- b is the byte at i as it is shown
pub one_more : {xs zs : List ℕ} {at : ℕ} (word : List ℕ) (i b : ℕ) → b ≡ printed_byte (get_or word i 0) → i < length word → i < 24
    → Put xs zs at (take i (shown word)) (at + i) → at + i < length zs → Put xs (set zs (at + i) b) at (take (i + 1) (shown word)) (at + (i + 1))
one_more word i b e h k p m = rw (e ∙ sym (at-shown word i h k)) (put-more (shown word) i p (omega (arith, length-shown word)) m)

cut-same : (s : List ℕ) (room i : ℕ) → i ≡ min (length s) room → take i s ≡ take room s
cut-same s room i e =
    by-test (leb (length s) room)
    (λ t. let h : length s ≤ room = leb-true (length s) room t in take_all i s (omega arith) ∙ sym (take_all room s h))
    (λ t. let h : room < length s = leb-false (length s) room t in
    let same : i ≡ room = omega arith in rw same)

pub all_shown : {xs zs : List ℕ} {at : ℕ} (word : List ℕ) (i : ℕ) → i ≡ min (min (length word) 24) (length xs - at) → length zs ≡ length xs
    → Put xs zs at (take i (shown word)) (at + i) → Said xs zs at (shown word) (at + i)
all_shown {xs} {zs} {at} word i e l p =
    record { put = rw (cut-same (shown word) (length xs - at) i (omega (arith, length-shown word))) at p; long = l }
