use Rattle.salvage.proofs.Endings.{end_is}
use Rattle.salvage.proofs.how_far.reading_end.Goals as goal

pub returns : goal.returns
returns c = end_is _ _ _ _ _ c.reach-r.ensures c.rest_of-rest.ensures
    c.close_bytes-close.ensures.value c.ending_at-why.ensures
