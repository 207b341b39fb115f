-- Document 02, W13: "Refusals: 20, text not of this form, with the row, header 1; 21, a number outside its field; 23, bytes to export that are no
-- run of whole lines; 16, no room. Reading goes by row, 20 before 21, and 16 is last." What the promises say of a refusal.
use Rattle.std.specs.Prelude.{ℕ, zero, suc, ◌<◌, ◌≡◌, Bool, true, false, List, length}
use Rattle.sheet.specs.declared.Refusal.{Refusal}
use Rattle.sheet.specs.Sheets.{Item, item, wrong, Made, made}

abbrev pub is_right : Item → Bool
is_right (item p r) = true
is_right (wrong why) = false

-- what stands behind an item
abbrev pub past : Item → List ℕ → List ℕ
past (item p r) s = r
past (wrong why) s = s

-- the first k items of s are right
unfoldable pub Right : (List ℕ → Item) → ℕ → List ℕ → Type 0
Right f zero s = Unit {0}
Right f (suc k) s = (is_right (f s) ≡ true) × Right f k (past (f s) s)

-- what stands behind them
unfoldable pub behind : (List ℕ → Item) → ℕ → List ℕ → List ℕ
behind f zero s = s
behind f (suc k) s = behind f k (past (f s) s)

-- the first k items are right, and the one behind them has this refusal
pub record FirstWrong (f : List ℕ → Item) (s : List ℕ) (k : ℕ) (why : Refusal) : Type 0 where
  pub before : Right f k s
  pub some : 0 < length (behind f k s)
  pub there : f (behind f k s) ≡ wrong why

-- all is made, and there is no room for it
pub record NoRoom (m : Made) (room : ℕ) : Type 0 where
  pub text : List ℕ
  pub all : m ≡ made text
  pub less : room < length text
