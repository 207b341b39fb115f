-- Its start, then its fields. Assumes nothing.
use mathlib.Core.Path.{◌≡◌, refl}
use Prim.Native.Nat.{◌-◌}
use native.Mathlib.Omega.{arith}
use Rattle.codec.specs.Table.{length_of}
use Rattle.codec.proofs.Stores.{record-stored}
use Rattle.by_row.proofs.write.Goals as goal

pub returns : goal.returns
returns c =
    let size : c.bytes_of.result - 2 ≡ length_of c.args.row = omega (arith, c.bytes_of.ensures) in
    rw (
      record-stored,
      c.put_fields.ensures,
      c.put_versioned.ensures,
      c.kind_of-kind.ensures,
      c.version_of-version.ensures,
      size,
    ) refl

pub put_fields-requires : goal.put_fields-requires
put_fields-requires c = (omega (arith, c.requires.0), c.requires.1)
