use native.Mathlib.Omega.{arith}
use Rattle.typed_words.proofs.Names.{no-others, behind-one}
use Rattle.typed_words.proofs.+part.Goals as goal

pub returns-then-n-eq0 : goal.returns-then-n-eq0
returns-then-n-eq0 t c =
    rw (c.first_of.ensures, c.find-p.ensures.value, no-others c.args.sep c.args.n c.args.s.now c.if-n-eq0.true)

pub returns : goal.returns
returns t c =
    let later = behind-one c.args.sep c.args.n c.args.s.now (omega arith) in
    rw (c.part.ensures, c.behind_point.ensures, c.find-p.ensures.value, later)
