use Prim.Native.Nat.{◌+◌, ◌≤◌}
use mathlib.Core.Path.{◌≡◌}
use lib.ListN.{drop}
use Rattle.sheet.specs.Remarks.{feeds}
use Rattle.sheet.proofs.remarks.count_feeds.Given as goal

-- n line feeds stand before the byte that comes next
abbrev pub invariant-loop-b : goal.invariant-loop-b
invariant-loop-b l = record { few : l.n ≤ l.b-index; so_far : l.n + feeds (drop l.b-index l.text) ≡ feeds l.text }
