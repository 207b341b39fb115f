-- Assumes nothing.
use mathlib.Core.Path.{sym}
use lib.ListN.{take}
use Rattle.compare.proofs.MovedRecords.{records-at, moved_none, moved-uneven, moved-some}
use lib.Seq.{length-take-le}
use Rattle.compare.specs.Places.{left_of}
use Rattle.compare.proofs.moved.moved.Goals as goal

pub returns-then-o-eq0 : goal.returns-then-o-eq0
returns-then-o-eq0 c = moved_none _ _ _ _ _ _ (sym (length-take-le _ _ c.requires.n_in_bounds.0)) c.between-o.ensures c.if-o-eq0.true

pub returns-then-n-m : goal.returns-then-n-m
returns-then-n-m c = let s = c in
    moved-uneven (take s.args.n (left_of s.args.old.now s.args.p)) (take s.args.m (left_of s.args.new.now s.args.q)) s.args.front s.args.back _ _ _ 0
    (sym (length-take-le _ _ s.requires.n_in_bounds.0)) c.between-o.ensures c.if-o-eq0.false
    (sym (length-take-le _ _ s.requires.n_in_bounds.1)) c.if-n-m.true

pub reach-c-requires : goal.reach-c-requires
reach-c-requires c = c.requires.valid.0

pub reach-d-requires : goal.reach-d-requires
reach-d-requires c = c.requires.valid.1

pub rest_of-requires : goal.rest_of-requires
rest_of-requires c = c.reach-c.ensures.1.inside

pub rest_of-requires-2 : goal.rest_of-requires-2
rest_of-requires-2 c = c.reach-d.ensures.1.inside

pub returns : goal.returns
returns c = let s = c in
    moved-some (take s.args.n (left_of s.args.old.now s.args.p)) (take s.args.m (left_of s.args.new.now s.args.q)) s.args.front s.args.back _ _ _ _
    (sym (length-take-le _ _ s.requires.n_in_bounds.0)) c.between-o.ensures c.if-o-eq0.false
    (sym (length-take-le _ _ s.requires.n_in_bounds.1)) _ _ _ c.if-n-m.false c.between.ensures
    (records-at _ _ s.args.p _ s.args.n _ s.args.back _ s.requires.valid.0 s.requires.n_in_bounds.0 c.reach-c.ensures.0 c.rest_of.ensures
    c.between-o.ensures)
    (records-at _ _ s.args.q _ s.args.m _ s.args.back _ s.requires.valid.1 s.requires.n_in_bounds.1 c.reach-d.ensures.0 c.rest_of-2.ensures
    c.between.ensures)
    c.same_details.ensures
