-- Theorem: however a book is cut into parts and whatever room its lines have, what the calls print together is the listing of the whole book.
-- Assumes nothing.
use Prim.Native.Nat.{ℕ}
use mathlib.Core.Path.{◌≡◌, ap, ◌∙◌}
use mathlib.Core.List.{List, ◌++◌}
use Rattle.line_rows.specs.declared.Form.TheVariants.{Listing}
use Rattle.book.specs.declared.State.{State}
use Rattle.book.specs.State.{InRange, no_record_yet}
use Rattle.book.specs.Run.{run, Outcome}
use Rattle.book.specs.Way.{Part, way, Ended}
use Rattle.promises.proofs.RuleThree.{way-is-run}
use Rattle.promises.proofs.StaysInRange.{new-in-range}
use Rattle.last_word.specs.LastWord.{end_text}
use Rattle.lister.specs.Listing.{text_of, listing_from, listing_of, printed}
use Rattle.in_parts.proofs.Rows.{rows-in-parts}

-- A series of calls from a state in range that is at its end prints what is printed for the uncut run.
pub printed-in-parts : (s : State) (xs : List ℕ) (ps : List Part) → InRange s → Ended (way s xs ps) → printed s xs ps ≡ listing_from s xs
printed-in-parts s xs ps v e =
    ap (λ (t : List ℕ). t ++ end_text (way s xs ps).state.account) (rows-in-parts Listing s xs ps v e)
    ∙ ap (λ (o : Outcome). text_of Listing (run s xs).lines ++ end_text o.state.account) (way-is-run s xs ps v e)

-- However a book is cut, the parts put together print its listing.
pub listed-in-parts : (xs : List ℕ) (ps : List Part) → Ended (way no_record_yet xs ps) → printed no_record_yet xs ps ≡ listing_of xs
listed-in-parts xs ps e = printed-in-parts no_record_yet xs ps new-in-range e
