use Rattle.printing.proofs.Texts.{◌⟫◌}
use Rattle.salvage.proofs.remarks.tell_end.Goals as goal

pub returns-in-Ok : goal.returns-in-Ok
returns-in-Ok c = rw c.in-Ok.is (c.say_reading.ensures ⟫ (rw c.kept_in.ensures at
    c.say_saved.ensures))
