-- Assumes nothing.
use native.Mathlib.Omega.{arith}
use Rattle.compare.proofs.Sides.{part-few, old-many, new-many, opened-is, opens}
use Rattle.compare.specs.Places.{left_of}
use Rattle.compare.proofs.sections.open.Goals as goal

pub end_of_part-s-requires : goal.end_of_part-s-requires
end_of_part-s-requires c = c.requires.0

pub end_of_part-t-requires : goal.end_of_part-t-requires
end_of_part-t-requires c = c.requires.1

pub planned-both-requires : goal.planned-both-requires
planned-both-requires c = let o = old-many c.args.grouped c.args.old.now c.args.new.now c.args.p c.args.q _ _ c.requires.0 c.requires.1
    c.end_of_part-s.ensures.value.0 c.end_of_part-s.ensures.value.1 c.end_of_part-s.ensures.number_value c.end_of_part-t.ensures.value.0
    c.end_of_part-t.ensures.value.1 c.end_of_part-t.ensures.number_value in
    let n = new-many c.args.grouped c.args.old.now c.args.new.now c.args.p c.args.q _ _ c.requires.0 c.requires.1 c.end_of_part-s.ensures.value.0
    c.end_of_part-s.ensures.value.1 c.end_of_part-s.ensures.number_value c.end_of_part-t.ensures.value.0 c.end_of_part-t.ensures.value.1
    c.end_of_part-t.ensures.number_value in
    record {
      valid = c.requires;
      n_in_bounds = (omega (arith, o, part-few (left_of c.args.old.now c.args.p)), omega (arith, n, part-few (left_of c.args.new.now c.args.q)));
    }

pub side-first-requires : goal.side-first-requires
side-first-requires c = (c.requires.0, c.end_of_part-s.ensures.value.1)

pub side-second-requires : goal.side-second-requires
side-second-requires c = (c.requires.1, c.end_of_part-t.ensures.value.1)

pub returns : goal.returns
returns c = let g = c.args.grouped in record {
  value = opened-is g c.args.old.now c.args.new.now c.args.p c.args.q _ _ c.requires.0 c.requires.1 c.end_of_part-s.ensures.value.0
      c.end_of_part-s.ensures.value.1 c.end_of_part-s.ensures.number_value c.end_of_part-t.ensures.value.0 c.end_of_part-t.ensures.value.1
      c.end_of_part-t.ensures.number_value _ c.planned-both.ensures _ c.moved_many-moved.ensures _ _ _ _ c.old_told.ensures c.new_told.ensures
      c.side-first.ensures.0 c.side-first.ensures.1 c.side-second.ensures.0 c.side-second.ensures.1;
  opens = opens g c.args.old.now c.args.new.now c.args.p c.args.q _ _ c.requires.0 c.requires.1 c.end_of_part-s.ensures.value.0
      c.end_of_part-s.ensures.value.1 c.end_of_part-s.ensures.number_value c.end_of_part-t.ensures.value.0 c.end_of_part-t.ensures.value.1
      c.end_of_part-t.ensures.number_value _ c.planned-both.ensures _ c.moved_many-moved.ensures _ _ _ _ c.old_told.ensures c.new_told.ensures
      c.side-first.ensures.0 c.side-first.ensures.1 c.side-second.ensures.0 c.side-second.ensures.1;
}
