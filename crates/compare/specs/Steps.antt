-- The comparison step by step, as a program prints it: a cursor says where it has come to in either book, and each step gives a piece of the text and
-- the next cursor. A record is a step of its own, so that no piece is long, and either book is walked once, a part of it a few times more.
-- Assumes nothing.
use Rattle.std.specs.Prelude.{ℕ, zero, suc, ◌-◌, ◌≡◌, List, [], ◌++◌, Bool, true, false, ◌&&◌, eqb, ltb}
use Rattle.base.specs.Choice.{pick}
use Rattle.printing.specs.Ascii.{ascii}
use Rattle.printing.specs.Said.{Said}
use Rattle.why.specs.Why.{why_of}
use Rattle.why.specs.Remarks.{machine_text}
use Rattle.compare.specs.declared.Cursor.{Cursor}
use Rattle.compare.specs.declared.Side.{Side}
use Rattle.compare.specs.declared.Stage.{Stage}
use Rattle.compare.specs.declared.Stage.TheVariants.{OldName, OldVerdict, NewName, NewVerdict, Before, Section, NextGroup, End}
use Rattle.compare.specs.declared.Step.{Step}
use Rattle.compare.specs.declared.places.Place.{Place}
use Rattle.compare.specs.Records.{same}
use Rattle.compare.specs.Places.{start, left_of, onward, stands_in, part_of, part_end_lem, no_group, group_at, first_bytes, subtotal_of}
use Rattle.compare.specs.Plans.{plan_of, old_told, new_told, moved_many}
use Rattle.compare.specs.Values.{first_alone, first_pair}
use Rattle.compare.specs.Sections.{moved_text, tail_text, silent, group_title, total_text, last_text, book_text}

-- a piece of the text, and the cursor after it
pub record Stepping : Type 0 where
  pub text : List ℕ
  pub cursor : Cursor

-- s is that, with the text at the start of a buffer
pub record Steps (x : Stepping) (out out' : List ℕ) (s : Step) : Type 0 where
  pub said : Said out out' 0 x.text s.written
  pub cursor : s.cursor ≡ x.cursor

-- ---- cursors

-- a book of which nothing is told at a place
abbrev pub idle : Place → Side
idle p = record { place = p; left = 0; end = p; grouped = false }

-- at two places, in a stage
abbrev pub at_places : Stage → Place → Place → Cursor
at_places stage p q = record { stage = stage; old = idle p; new = idle q; paired = false; moved = 0; others = 0 }

abbrev pub beginning : Cursor
beginning = at_places OldName start start

abbrev pub ended : Cursor
ended = at_places End start start

-- a group alone: its heading and its part
abbrev pub alone_side : List ℕ → Place → Side
alone_side xs p =
    let end = part_end_lem xs (onward 1 xs p) in
    record { place = p; left = end.number - p.number; end = end; grouped = true }

-- of the part after a place, whose first records are the same, so many are told
abbrev pub side_after : List ℕ → Place → ℕ → ℕ → Place → Bool → Side
side_after xs p front told end grouped = record { place = onward front xs p; left = told; end = end; grouped = grouped }

-- the parts after two places, compared
unfoldable pub opened : Bool → List ℕ → Place → List ℕ → Place → Cursor
opened grouped old p new q =
    let plan = plan_of (part_of (left_of old p)) (part_of (left_of new q)) in
    record {
      stage = Section;
      old = side_after old p plan.front (old_told plan) (part_end_lem old p) grouped;
      new = side_after new q plan.front (new_told plan) (part_end_lem new q) grouped;
      paired = plan.paired;
      moved = moved_many plan;
      others = plan.others;
    }

-- one record on
abbrev pub one_told : List ℕ → Side → Side
one_told xs s = record { place = onward 1 xs s.place; left = s.left - 1; end = s.end; grouped = s.grouped }

-- ---- the pieces

-- the sum of a section in one book
abbrev pub subtotal_at : List ℕ → Side → List ℕ
subtotal_at xs s = subtotal_of s.grouped (left_of xs s.end)

abbrev pub is_silent : Bool → List ℕ → List ℕ → Cursor → Bool
is_silent under old new c =
    silent under c.old.left c.new.left c.moved c.others (subtotal_at old c.old) (subtotal_at new c.new)

-- the beginning of a section
abbrev pub open_text : Bool → List ℕ → List ℕ → List ℕ → List ℕ → Cursor → List ℕ
open_text under title headings old new c =
    pick (is_silent under old new c) []
    (title ++ (headings ++ moved_text under c.old.place.number c.new.place.number c.moved))

unfoldable pub before_step : List ℕ → List ℕ → Cursor → Stepping
before_step old new c =
    let d = opened false old c.old.place new c.new.place in
    record { text = open_text true (ascii "before the groups:\n") [] old new d; cursor = d }

-- the next record, of the old book and of the new one; or of both
abbrev pub old_step : List ℕ → Cursor → Stepping
old_step old c =
    record {
      text = first_alone false c.old.place.number (left_of old c.old.place);
      cursor = record { stage = Section; old = one_told old c.old; new = c.new; paired = c.paired; moved = c.moved; others = c.others };
    }

abbrev pub new_step : List ℕ → Cursor → Stepping
new_step new c =
    record {
      text = first_alone true c.new.place.number (left_of new c.new.place);
      cursor = record { stage = Section; old = c.old; new = one_told new c.new; paired = c.paired; moved = c.moved; others = c.others };
    }

abbrev pub pair_step : List ℕ → List ℕ → Cursor → Stepping
pair_step old new c =
    record {
      text = first_pair c.old.place.number (left_of old c.old.place) c.new.place.number (left_of new c.new.place);
      cursor =
          record {
            stage = Section;
            old = one_told old c.old;
            new = one_told new c.new;
            paired = c.paired;
            moved = c.moved;
            others = c.others;
          };
    }

-- the end of a section
abbrev pub tail_step : List ℕ → List ℕ → Cursor → Stepping
tail_step old new c =
    record { text = tail_text c.others (subtotal_at old c.old) (subtotal_at new c.new); cursor = at_places NextGroup c.old.end c.new.end }

-- one by one, or those of the old book and then those of the new one, then the end
unfoldable pub section_step : List ℕ → List ℕ → Cursor → Stepping
section_step old new c =
    pick (eqb c.old.left 0) (pick (eqb c.new.left 0) (tail_step old new c) (new_step new c))
    (pick c.paired (pair_step old new c) (old_step old c))

-- the next group: only in the old book, only in the new one, or in both
abbrev pub removed_step : List ℕ → Place → Place → Stepping
removed_step old p q =
    record {
      text = group_title (group_at (left_of old p)) (ascii ", removed:\n");
      cursor = record { stage = Section; old = alone_side old p; new = idle q; paired = false; moved = 0; others = 0 };
    }

abbrev pub added_step : List ℕ → Place → Place → Stepping
added_step new p q =
    record {
      text = group_title (group_at (left_of new q)) (ascii ", added:\n");
      cursor = record { stage = Section; old = idle p; new = alone_side new q; paired = false; moved = 0; others = 0 };
    }

unfoldable pub both_step : List ℕ → List ℕ → Place → Place → Stepping
both_step old new p q =
    let es = left_of old p in
    let ns = left_of new q in
    let d = opened true old (onward 1 old p) new (onward 1 new q) in
    record {
      text =
          open_text (same (first_bytes es) (first_bytes ns)) (group_title (group_at es) (ascii ":\n")) (first_pair p.number es q.number ns) old new d;
      cursor = d;
    }

-- there is no group: the total, and the last word
abbrev pub last_step_lem : Bool → List ℕ → List ℕ → Place → Place → Stepping
last_step_lem alike old new p q = record { text = total_text (left_of old p) (left_of new q) ++ last_text alike old new; cursor = ended }

unfoldable pub group_step : Bool → List ℕ → List ℕ → Place → Place → Stepping
group_step alike old new p q =
    let g = group_at (left_of old p) in
    let h = group_at (left_of new q) in
    pick (ltb g h) (removed_step old p q)
    (pick (ltb h g) (added_step new p q) (pick (eqb g no_group) (last_step_lem alike old new p q) (both_step old new p q)))

-- a book's name, and its verdict; then the next stage
abbrev pub name_step : Bool → Stage → Stepping
name_step new next = record { text = book_text new; cursor = at_places next start start }

abbrev pub verdict_step : List ℕ → Stage → Stepping
verdict_step book next = record { text = machine_text (why_of book); cursor = at_places next start start }

-- the end
abbrev pub no_step : Stepping
no_step = record { text = []; cursor = ended }

-- ---- any step

abbrev pub step_in : Stage → Bool → List ℕ → List ℕ → Cursor → Stepping
step_in OldName alike old new c = name_step false OldVerdict
step_in OldVerdict alike old new c = verdict_step old NewName
step_in NewName alike old new c = name_step true NewVerdict
step_in NewVerdict alike old new c = verdict_step new Before
step_in Before alike old new c = before_step old new c
step_in Section alike old new c = section_step old new c
step_in NextGroup alike old new c = group_step alike old new c.old.place c.new.place
step_in End alike old new c = no_step

unfoldable pub stage_step : Bool → List ℕ → List ℕ → Cursor → Stepping
stage_step alike old new c = step_in c.stage alike old new c

-- the places of a cursor are those of the books
abbrev pub side_in : List ℕ → Side → Bool
side_in xs s = stands_in xs s.place && stands_in xs s.end

-- a cursor that is none of these books ends it
unfoldable pub step_of : Bool → List ℕ → List ℕ → Cursor → Stepping
step_of alike old new c = pick (side_in old c.old && side_in new c.new) (stage_step alike old new c) no_step

-- ---- all steps

-- the pieces of so many steps, one after the other
unfoldable pub text_in : ℕ → Bool → List ℕ → List ℕ → Cursor → List ℕ
text_in zero alike old new c = []
text_in (suc n) alike old new c = (step_of alike old new c).text ++ text_in n alike old new (step_of alike old new c).cursor

-- the cursor after them
unfoldable pub cursor_after : ℕ → Bool → List ℕ → List ℕ → Cursor → Cursor
cursor_after zero alike old new c = c
cursor_after (suc n) alike old new c = cursor_after n alike old new (step_of alike old new c).cursor
