-- A state and its image: there and back, each state has one image, and which bytes are an image.
-- Assumes nothing.
use Prim.Native.Nat.{ℕ, ◌<◌}
use mathlib.Core.Path.{◌≡◌, refl, ap, sym, ◌∙◌}
use mathlib.Core.List.{List, [], ◌++◌, append_assoc, append-nil}
use mathlib.Core.Bool.{true, false}
use native.Mathlib.Omega.{arith}
use borrow.Author.Tests.{eq-eqb, ne_eqb, eqb-true}
use lib.ListN.{length, take, drop, replicate, length-append, length-drop, take-append-drop}
use lib.Seq.{take_all, take_at, drop-drop}
use lib.Dec.{eqb}
use Rattle.base.proofs.Tests.{both, no_bool}
use Rattle.codec.specs.Table.{size}
use Rattle.codec.specs.Codec.{Bytes, bytes_hold, be, val_at, values_at, bytes_of}
use Rattle.codec.proofs.BigEndian.{be-length, be-val_at, val_at-be}
use Rattle.codec.proofs.Values.{values_length}
use Rattle.codec.proofs.Round.{values-back, values-fit, encode-decode}
use Rattle.account.specs.Account.{account_fields, numbers_of, account_of}
use Rattle.account.proofs.AsNumbers.{numbers_fit, numbers-count, account-back, numbers-back, co2-fits}
use Rattle.book.specs.declared.State.{State}
use Rattle.book.specs.State.{no_record_yet, InRange, in_range}
use Rattle.book.proofs.Ranges.{range-parts, range-test}
use Rattle.image.specs.Image.{image_size, image_of, state_in, Possible, is_image}
use Rattle.image.proofs.Stored.{image-length}

-- ---- state, image, state

-- the state comes back from its image
pub image-back : (s : State) → Possible s → state_in (image_of s) ≡ s
unfolding image_of state_in bytes_hold
image-back s p =
    let a = s.account in
    let bs : List ℕ = bytes_of account_fields (numbers_of a) 0 in
    let places = p.range.places in
    let fit = numbers_fit a p.range.account p.word in
    let few : s.count < bytes_hold 1 = omega (arith, p.range.count) in
    let front : length (s.held ++ be 1 s.count) ≡ 28 = rw (length-append, be-length, places) refl in
    let held : take 27 (s.held ++ (be 1 s.count ++ bs)) ≡ s.held = take_at s.held (be 1 s.count ++ bs) 27 places in
    let count : val_at (s.held ++ (be 1 s.count ++ bs)) 27 1 ≡ s.count = rw places at (val_at-be 1 s.count s.held bs few) in
    let values : values_at account_fields (s.held ++ (be 1 s.count ++ bs)) 28 ≡ numbers_of a =
    rw (append-nil, front, append_assoc) at (values-back account_fields (numbers_of a) (s.held ++ be 1 s.count) [] fit (numbers-count a)) in
    rw (held, count, values, account-back a fit) refl

-- ---- image, state, image

-- bytes of the one length come back from what they tell, whether that is in range or not
pub image-again : (image : List ℕ) → Bytes image → length image ≡ image_size → image_of (state_in image) ≡ image
unfolding image_of state_in
image-again image b l =
    let numbers : numbers_of (account_of (values_at account_fields image 28)) ≡ values_at account_fields image 28 =
    numbers-back (values_at account_fields image 28) (values-fit account_fields image b 28) (values_length account_fields image 28) in
    let rest : bytes_of account_fields (values_at account_fields image 28) 0 ≡ drop 28 image =
    encode-decode account_fields image b 28 (omega arith) ∙ take_all (size account_fields) (drop 28 image) (rw length-drop (omega arith)) in
    let count : be 1 (val_at image 27 1) ≡ take 1 (drop 27 image) = be-val_at image b 27 1 (omega arith) in
    rw (numbers, rest, count)
    (ap (λ (r : List ℕ). take 27 image ++ r)
    (ap (λ (r : List ℕ). take 1 (drop 27 image) ++ r) (sym (drop-drop 1 27 image)) ∙ take-append-drop 1 (drop 27 image))
    ∙ take-append-drop 27 image)

-- each state has one image: two images that tell one state are the same bytes
pub one-image : (i j : List ℕ) → Bytes i → Bytes j → length i ≡ image_size → length j ≡ image_size → state_in i ≡ state_in j → i ≡ j
one-image i j bi bj li lj e = sym (image-again i bi li) ∙ ap image_of e ∙ image-again j bj lj

-- ---- which bytes are an image

-- the image of a state is one
pub is-image : (s : State) → Possible s → is_image (image_of s) ≡ true
unfolding is_image
is-image s p = rw (eq-eqb _ _ (image-length s p.range.places), image-back s p, range-test s p.range)

-- and each image is of the one length, and tells a state in range
pub record Image (image : List ℕ) : Type 0 where
  pub long : length image ≡ image_size
  pub range : InRange (state_in image)

pub image-parts : (image : List ℕ) → is_image image ≡ true → Image image
unfolding is_image
image-parts image e =
    let t = both (eqb (length image) image_size) (in_range (state_in image)) e in
    record { long = eqb-true _ _ t.0; range = range-parts (state_in image) t.1 }

-- that there can be: each number that it tells fits its bytes
pub image-possible : (image : List ℕ) → Bytes image → is_image image ≡ true → Possible (state_in image)
unfolding state_in
image-possible image b e =
    record {
      range = (image-parts image e).range;
      word = co2-fits (values_at account_fields image 28) (values-fit account_fields image b 28);
    }

-- bytes that are none are no state's
pub no-state's : (image : List ℕ) → is_image image ≡ false → (s : State) → Possible s → image_of s ≡ image → ⊥
no-state's image n s p e = no_bool (sym n ∙ ap is_image (sym e) ∙ is-image s p)

pub other_length : (image : List ℕ) → (length image ≡ image_size → ⊥) → is_image image ≡ false
unfolding is_image
other_length image h = rw (ne_eqb _ _ h)

pub by-range : (image : List ℕ) → length image ≡ image_size → is_image image ≡ in_range (state_in image)
unfolding is_image
by-range image l = rw (eq-eqb _ _ l)

-- the state of no record is zeros
pub image-zero : image_of no_record_yet ≡ replicate image_size 0
unfolding image_of bytes_of be size account_fields
image-zero = refl
