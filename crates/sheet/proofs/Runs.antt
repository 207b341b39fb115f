-- Runs of items: if each item comes back from what it became, so does the run. One law for both directions.
use Prim.Native.Nat.{ℕ, zero, suc, ◌<◌}
use native.Mathlib.Omega.{arith}
use mathlib.Core.Path.{◌≡◌, refl, ap, ◌∙◌}
use mathlib.Core.List.{List, [], ◌∷◌, ◌++◌}
use lib.ListN.{length, length-append}
use Rattle.sheet.specs.declared.Refusal.{Refusal}
use Rattle.sheet.specs.Sheets.{Item, item, wrong, Made, made, refused, before, goes_on_lem, each_by}

-- nothing is both made and refused
pub not_made : {P : Type 0} {c : Refusal} {n : ℕ} {t : List ℕ} → refused c n ≡ made t → P
not_made e = cc

-- an item, and what is made of the rest, where all is made
pub record Goes (x : Item) (next : List ℕ → Made) (t : List ℕ) : Type 0 where
  pub piece : List ℕ
  pub rest : List ℕ
  pub others : List ℕ
  pub first : x ≡ item piece rest
  pub then-made : next rest ≡ made others
  pub whole : t ≡ piece ++ others

behind : (p r : List ℕ) (next : List ℕ → Made) (y : Made) (t : List ℕ) → next r ≡ y → before p y ≡ made t → Goes (item p r) next t
behind p r next (made u) t e h = record { piece = p; rest = r; others = u; first = refl; then-made = e; whole = cc }
behind p r next (refused c n) t e h = not_made h

pub goes : (x : Item) (row : ℕ) (next : List ℕ → Made) (t : List ℕ) → goes_on_lem x row next ≡ made t → Goes x next t
goes (item p r) row next t h = behind p r next (next r) t refl h
goes (wrong c) row next t h = not_made h

pub each-some : (f : List ℕ → Item) (n row : ℕ) (s : List ℕ) → 0 < length s → each_by f (suc n) row s ≡ goes_on_lem (f s) row (each_by f n (suc row))
unfolding each_by
each-some f n row [] h = absurd (omega arith)
each-some f n row (b ∷ s) h = refl

-- one item more
pub each-one : (f : List ℕ → Item) (n row : ℕ) (s p r t u : List ℕ) → 0 < length s → f s ≡ item p r → each_by f n (suc row) r ≡ made u → t ≡ p ++ u
    → each_by f (suc n) row s ≡ made t
each-one f n row s p r t u h i m w = each-some f n row s h ∙ rw (i, m, w)

-- the item that became t, with r behind it, comes back from t
pub record Back (g : List ℕ → Item) (s t r : List ℕ) : Type 0 where
  pub own : List ℕ
  pub front : s ≡ own ++ r
  pub some : 0 < length t
  pub again : (q : List ℕ) → g (t ++ q) ≡ item own q

module _ (f g : List ℕ → Item) (P : List ℕ → Type 0)
    (steps : (s t r : List ℕ) → P s → f s ≡ item t r → Back g s t r) (keeps : (s t r : List ℕ) → P s → f s ≡ item t r → P r) where
  pub run-back : (n m row row' : ℕ) (s t : List ℕ) → P s → each_by f n row s ≡ made t → length t < m → each_by g m row' t ≡ made s
  unfolding each_by
  run-back zero m row row' s t p e l = not_made e
  run-back (suc n) zero row row' s t p e l = absurd (omega arith)
  run-back (suc n) (suc m) row row' [] t p e l = let n : t ≡ [] = cc in rw n
  run-back (suc n) (suc m) row row' (b ∷ s) t p e l =
      let o = goes (f (b ∷ s)) row (each_by f n (suc row)) t e in
      let k = steps (b ∷ s) o.piece o.rest p o.first in
      let more = run-back n m (suc row) (suc row') o.rest o.others (keeps (b ∷ s) o.piece o.rest p o.first) o.then-made
      (omega (arith, length-append o.piece o.others, ap length o.whole, k.some)) in
      each-one g m row' t k.own o.others (b ∷ s) o.rest (omega (arith, length-append o.piece o.others, ap length o.whole, k.some))
      (ap g o.whole ∙ k.again o.others) more k.front
