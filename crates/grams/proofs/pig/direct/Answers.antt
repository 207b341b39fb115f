-- `grams::pig::direct` meets its contract. Assumes nothing.
use Rattle.std.proofs.Common.{◌≡◌, ℕ, ◌*◌, ap, ◌∙◌, arith, lit<}
use Rattle.grams.specs.Round.{round_div}
use Rattle.grams.proofs.Round.{round-scale}
use Rattle.grams.specs.Units.{grams_n2o, parts_n2o_n, as_n2o}
use Rattle.grams.specs.Pig.{direct_of}
use Rattle.grams.proofs.Bounds.{◌⊗◌, num, fits, gas}
use Rattle.grams.proofs.pig.Small.{pig-direct-most}
use Rattle.grams.proofs.pig.direct.Goals as goal

-- rounding from hundred-millionths of a gram is rounding from hundred-thousandths
scaled : (n ef : ℕ) → as_n2o (parts_n2o_n (n * ef * 1000)) ≡ direct_of n ef
scaled n ef =
    let e : n * ef * 1000 * 11 ≡ n * ef * 11 * 1000 = omega arith in
    ap grams_n2o (ap (λ (k : ℕ). round_div k 700000000) e ∙ round-scale (n * ef * 11) 700000 1000 (lit< tt) (lit< tt))

pub overflow_mul-n : goal.overflow_mul-n
overflow_mul-n c = let p = c.requires in fits (p.0 ⊗ p.1) tt

pub overflow_mul-n-2 : goal.overflow_mul-n-2
overflow_mul-n-2 c = let p = c.requires in fits (p.0 ⊗ p.1 ⊗ num _) tt

pub to_n2o-requires : goal.to_n2o-requires
to_n2o-requires c = let p = c.requires in rw c.of.ensures (omega (arith, p.0 ⊗ p.1))

pub returns : goal.returns
returns c = let s = c in
    gas (pig-direct-most s.requires.0 s.requires.1) (c.to_n2o.ensures ∙ ap as_n2o c.of.ensures ∙ scaled s.args.n s.args.ef)
