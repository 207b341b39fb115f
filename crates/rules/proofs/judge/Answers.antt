-- The version, the kind, the length, then what the kind's own function tells. Assumes nothing.
use mathlib.Core.Path.{refl, sym, ◌∙◌}
use Prim.Native.Nat.{◌≤◌}
use native.Mathlib.Omega.{arith}
use Rattle.codec.specs.Table.{last_kind}
use Rattle.codec.proofs.EachKind.{kind-most}
use Rattle.account.specs.Judge.{kind_byte}
use Rattle.account.specs.Told.{Kind}
use Rattle.account.proofs.Told.{wrong-kind, wrong-length}
use Rattle.rules.specs.Right.{Right}
use Rattle.rules.proofs.ByKind.{not_listed, listed}
use Rattle.rules.proofs.ByVersion.{first-version, own_row}
use Rattle.rules.proofs.judge.Goals as goal

-- not of one of the kinds
pub returns-then-kind : goal.returns-then-kind
returns-then-kind c = let r = c.args.r.now in
    let one = c.if-version-ne1.false in
    wrong-kind _ _ _ _ (first-version r one) (rw (not_listed (kind_byte r) c.if-kind.true) refl) c.wrong.ensures

-- as long as its kind, or not
pub returns-then-r-bytes_of : goal.returns-then-r-bytes_of
returns-then-r-bytes_of c = let e = c in
    let k = e in
    let start = k in
    let r = start.args.r.now in
    let one = k.if-version-ne1.false in
    let w : Kind (kind_byte r) r =
    record {
      whole = start.requires.2;
      version = first-version r one;
      listed = rw (listed (kind_byte r) k.if-kind.false) refl;
      kind = own_row r one;
    } in
    wrong-length _ _ _ _ w (omega (arith, e.bytes_of.ensures)) _ _ e.if-r-bytes_of.true c.wrong-then-r-bytes_of.ensures

pub by_kind-requires : goal.by_kind-requires
by_kind-requires c = let k = c in
    let start = k in
    let r = start.args.r.now in
    let p = start.requires in
    let one = k.if-version-ne1.false in
    let right : Right r =
    record {
      whole = p.2;
      version = one;
      kinds = rw (own_row r one) (listed (kind_byte r) k.if-kind.false);
      long = rw (own_row r one) (c.if-r-bytes_of.false ∙ c.bytes_of.ensures);
    } in
    (p.0, p.1, right, sym (own_row r one))

pub bounds-r-2 : goal.bounds-r-2
bounds-r-2 c = omega (arith, c.requires.2)

pub by_version-requires : goal.by_version-requires
by_version-requires c = let p = c.requires in (p.0, p.1, p.2, c.if-version-ne1.true)

pub returns-then-version-ne1 : goal.returns-then-version-ne1
returns-then-version-ne1 c = c.by_version.ensures

pub bounds-r-3 : goal.bounds-r-3
bounds-r-3 c = omega (arith, c.requires.2)

pub overflow_cast-row : goal.overflow_cast-row
overflow_cast-row c =
    let kind-small : kind_byte c.args.r.now ≤ last_kind = let k = kind_byte c.args.r.now in kind-most k (listed k c.if-kind.false) in
    omega (arith, kind-small)

pub bytes_of-requires : goal.bytes_of-requires
bytes_of-requires c =
    let kind-small : kind_byte c.args.r.now ≤ last_kind = let k = kind_byte c.args.r.now in kind-most k (listed k c.if-kind.false) in
    omega (arith, kind-small)

pub returns : goal.returns
returns c = c.by_kind.ensures
