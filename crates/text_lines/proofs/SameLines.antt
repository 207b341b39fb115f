-- However a text is cut into parts, the cutter finds its lines.
-- Assumes nothing.
use Prim.Native.Nat.{ℕ, zero, suc, ◌+◌, ◌-◌, ◌≤◌, ◌<◌}
use native.Mathlib.Omega.{arith}
use mathlib.Core.Path.{◌≡◌, refl, sym, ap, ◌∙◌}
use mathlib.Core.Bool.{Bool, true, false}
use mathlib.Core.List.{List, [], ◌∷◌, ◌++◌, map, append_assoc}
use lib.ListN.{length, take, drop, length-append, length-take, length-drop}
use lib.Seq.{take_at, length-take-le}
use borrow.Author.Tests.{ltb-true}
use Rattle.base.specs.Choice.{pick, one_more_lem}
use Rattle.base.proofs.Tests.{by-test}
use Rattle.text_lines.specs.declared.Cut.{Cut}
use Rattle.text_lines.specs.Lines.{lines_of, has, uncommented, most, kept, keep_more, comment_after, first_cut}
use Rattle.text_lines.specs.Lines.{room, line_in, added, stored, cutting_of, cut_in}
use Rattle.text_lines.specs.Parts.{Numbered, numbered, Cutter, in_hand, Found, finishing, cut_once, next_line, cut_part, cut_all, together, all_found_lem}
use Rattle.text_lines.proofs.Bytes.{before-all, none_before, cut_at}
use Rattle.text_lines.proofs.Kept.{keeps_on, keeps-none}
use Rattle.text_lines.proofs.Pieces.{by_lines, in_front, lines-on, lines_cut}

-- ---- one part, cut once

-- a buffer that has room for a line
pub record Ready (c : Cutter) : Type 0 where
  pub size : most ≤ length c.line
  pub within : c.cut.len ≤ most

module _ (line : List ℕ) (from : Cut) (ys : List ℕ) (size : most ≤ length line) (within : from.len ≤ most) where
  room-left : room (length line) from.len ≡ most - length (take from.len line)
  room-left = omega (arith, length-take-le from.len line (omega arith))

  new-length : from.len + length (added (length line) from ys) ≤ most
  new-length = omega (arith, length-take (room (length line) from.len) (pick from.comment [] (uncommented ys)))

  stored-length : (new : List ℕ) → from.len + length new ≤ most → length (stored line from.len new) ≡ length line
  stored-length new h =
      omega (
        arith,
        length-append (take from.len line) (new ++ drop (from.len + length new) line),
        length-append new (drop (from.len + length new) line),
        length-drop (from.len + length new) line,
        length-take-le from.len line (omega arith),
      )

  stored-front : (new : List ℕ) → take (from.len + length new) (stored line from.len new) ≡ take from.len line ++ new
  stored-front new =
      rw (← append_assoc (take from.len line) new (drop (from.len + length new) line))
      (take_at (take from.len line ++ new) (drop (from.len + length new) line) (from.len + length new)
      (omega (arith, length-append (take from.len line) new, length-take-le from.len line (omega arith))))

  keeps-more : take (from.len + length (added (length line) from ys)) (stored line from.len (added (length line) from ys))
      ≡ keep_more (take from.len line) from.comment ys
  keeps-more = stored-front (added (length line) from ys) ∙ rw room-left

module _ (c : Cutter) (part : List ℕ) (ready : Ready c) where
  -- what is in hand, with what the part has of the line
  pub cut_keeps : (in_hand (cut_once c part)).bytes ≡ keep_more (in_hand c).bytes c.cut.comment (line_in part)
  unfolding cut_in cutting_of
  cut_keeps = keeps-more c.line c.cut (line_in part) ready.size ready.within

  pub cut-ready : Ready (cut_once c part)
  unfolding cut_in cutting_of
  cut-ready =
      let new = new-length c.line c.cut (line_in part) ready.size ready.within in
      let long = stored-length c.line c.cut (line_in part) ready.size ready.within (added (length c.line) c.cut (line_in part)) new in
      record {
        size = omega (arith, long);
        within = new;
      }

  pub next-ready : Ready (next_line (cut_once c part))
  next-ready = record { size = cut-ready.size; within = omega arith }

-- ---- the lines ahead

-- the lines, where the first goes on behind k and has the number n
abbrev pub lines_ahead : ℕ → List ℕ → Bool → List (List ℕ) → List Numbered
lines_ahead n k comment [] = []
lines_ahead n k comment (line ∷ lines) = record { number = n; bytes = keep_more k comment line } ∷ numbered (one_more_lem n) (map kept lines)

fresh : (n : ℕ) (lines : List (List ℕ)) → lines_ahead n [] false lines ≡ numbered n (map kept lines)
unfolding numbered
fresh n [] = refl
fresh n (line ∷ lines) = refl

module _ (n : ℕ) (k : List ℕ) (comment : Bool) (a : List ℕ) (none : has 10 a ≡ false) where
  ahead-cut : (rest : List ℕ) → lines_ahead n k comment (lines_of (a ++ (10 ∷ rest)))
      ≡ record { number = n; bytes = keep_more k comment a } ∷ lines_ahead (one_more_lem n) [] false (lines_of rest)
  ahead-cut rest = rw (lines_cut a none rest, fresh (one_more_lem n) (lines_of rest))

  ahead-on : (text : List ℕ) → lines_ahead n k comment (lines_of (a ++ text))
      ≡ lines_ahead n (keep_more k comment a) (comment_after comment a) (lines_of text)
  ahead-on text =
      rw (lines-on a none text)
      (by_lines (λ ls. lines_ahead n k comment (in_front a ls) ≡ lines_ahead n (keep_more k comment a) (comment_after comment a) ls)
      (λ l ls. rw (keeps_on k comment a l)) text)

-- what the cutter is to find in a text
abbrev pub ahead : Cutter → List ℕ → List Numbered
ahead c text = lines_ahead c.cut.number (in_hand c).bytes c.cut.comment (lines_of text)

-- ---- a part, line after line

module _ (n : ℕ) (c : Cutter) (part : List ℕ) where
  part-ends : has 10 part ≡ true
      → cut_part (suc n) c part ≡ finishing (in_hand (cut_once c part)) (cut_part n (next_line (cut_once c part)) (drop (length (line_in part) + 1) part))
  unfolding cut_part cutting_of
  part-ends t = rw t

  part-open : has 10 part ≡ false → cut_part (suc n) c part ≡ record { finished = []; last = cut_once c part }
  unfolding cut_part cutting_of
  part-open f = rw f

-- found is what the cutter has found in the text before what is left of it
pub record Right (c : Cutter) (text : List ℕ) (found : Found) (left : List ℕ) : Type 0 where
  pub same : ahead c text ≡ found.finished ++ ahead found.last left
  pub ready : Ready found.last

module _ (c : Cutter) (part left : List ℕ) (ready : Ready c) where
  right-open : has 10 part ≡ false → Right c (part ++ left) (record { finished = []; last = cut_once c part }) left
  unfolding cutting_of
  right-open f =
      let all : line_in part ≡ part = before-all 10 part f in
      let k : (in_hand (cut_once c part)).bytes ≡ keep_more (in_hand c).bytes c.cut.comment part = cut_keeps c part ready ∙ rw all in
      record {
        same = ahead-on c.cut.number (in_hand c).bytes c.cut.comment part f left ∙ rw (k, all);
        ready = cut-ready c part ready;
      }

  right-ended : has 10 part ≡ true → (found : Found) → Right (next_line (cut_once c part)) (drop (length (line_in part) + 1) part ++ left) found left
      → Right c (part ++ left) (finishing (in_hand (cut_once c part)) found) left
  unfolding cutting_of
  right-ended t found r =
      let rest = drop (length (line_in part) + 1) part in
      let whole : part ++ left ≡ line_in part ++ (10 ∷ (rest ++ left)) =
      ap (λ (l : List ℕ). l ++ left) (cut_at 10 part t) ∙ append_assoc (line_in part) (10 ∷ rest) left in
      record {
        same = ap (ahead c) whole
            ∙ ahead-cut c.cut.number (in_hand c).bytes c.cut.comment (line_in part) (none_before 10 part) (rest ++ left)
            ∙ rw (cut_keeps c part ready) (rw r.same);
        ready = r.ready;
      }

right-part : (n : ℕ) (c : Cutter) (part left : List ℕ) → length part < n → Ready c → Right c (part ++ left) (cut_part n c part) left
right-part zero c part left h ready = absurd (omega arith)
right-part (suc n) c part left h ready =
    by-test (has 10 part)
    (λ t. rw (part-ends n c part t)
    (right-ended c part left ready t (cut_part n (next_line (cut_once c part)) (drop (length (line_in part) + 1) part))
    (right-part n (next_line (cut_once c part)) (drop (length (line_in part) + 1) part) left
    (omega (arith, length-drop (length (line_in part) + 1) part, ltb-true (length (line_in part)) (length part) t))
    (next-ready c part ready))))
    (λ f. rw (part-open n c part f) (right-open c part left ready f))

-- ---- all parts

all_found : (c : Cutter) (parts : List (List ℕ)) → Ready c → ahead c (together parts) ≡ all_found_lem (cut_all c parts)
unfolding together cut_all lines_of numbered
all_found c [] ready = rw (keeps-none (in_hand c).bytes c.cut.comment)
all_found c (part ∷ parts) ready =
    let r = right-part (suc (length part)) c part (together parts) (omega arith) ready in
    let found = cut_part (suc (length part)) c part in
    let others = cut_all found.last parts in
    r.same ∙ rw (all_found found.last parts r.ready) (sym (append_assoc found.finished others.finished (in_hand others.last ∷ [])))

-- the theorem: the lines kept, with their numbers from 1 on, the last of them unfinished
pub same_lines : (line : List ℕ) → most ≤ length line → (parts : List (List ℕ))
    → all_found_lem (cut_all (record { line = line; cut = first_cut }) parts) ≡ numbered 1 (map kept (lines_of (together parts)))
same_lines line h parts =
    sym (all_found (record { line = line; cut = first_cut }) parts (record { size = h; within = omega arith }))
    ∙ fresh 1 (lines_of (together parts))
