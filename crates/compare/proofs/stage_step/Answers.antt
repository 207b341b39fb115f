-- Assumes nothing.
use Rattle.compare.specs.Steps.{stage_step, before_step, section_step}
use Rattle.compare.proofs.stage_step.Goals as goal

pub returns-in-OldName : goal.returns-in-OldName
unfolding stage_step
returns-in-OldName c = rw c.in-OldName.is c.name_step.ensures

pub returns-in-OldVerdict : goal.returns-in-OldVerdict
unfolding stage_step
returns-in-OldVerdict c = rw c.in-OldVerdict.is c.verdict_step.ensures

pub returns-in-NewName : goal.returns-in-NewName
unfolding stage_step
returns-in-NewName c = rw c.in-NewName.is c.name_step-in-NewName.ensures

pub returns-in-NewVerdict : goal.returns-in-NewVerdict
unfolding stage_step
returns-in-NewVerdict c = rw c.in-NewVerdict.is c.verdict_step-in-NewVerdict.ensures

pub returns-in-Before : goal.returns-in-Before
unfolding stage_step before_step
returns-in-Before c = rw c.in-Before.is c.before_step.ensures

pub returns-in-Section : goal.returns-in-Section
unfolding stage_step section_step
returns-in-Section c = rw c.in-Section.is c.section_step.ensures

pub group_step-requires : goal.group_step-requires
group_step-requires c = (c.requires.0.place, c.requires.1.place)

pub returns-in-NextGroup : goal.returns-in-NextGroup
unfolding stage_step
returns-in-NextGroup c = rw c.in-NextGroup.is c.group_step.ensures

pub returns-in-End : goal.returns-in-End
unfolding stage_step
returns-in-End c = rw c.in-End.is c.end_step.ensures
