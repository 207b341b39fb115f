-- Document 02, W9: "An adviser corrected one pen and the member asked whether the others were touched." Two runs of records compared: how many are
-- the same at the beginning and at the end, whether those between are the same in another order, and how many are the same and give other lines.
-- Assumes nothing.
use Rattle.std.specs.Prelude.{ℕ, ◌+◌, ◌-◌, min, List, [], ◌∷◌, Bool, ◌&&◌, not, length, take, drop, eqb}
use Rattle.base.specs.Choice.{pick}
use Rattle.compare.specs.declared.plans.Plan.{Plan}
use Rattle.compare.specs.declared.runs.Counts.{Counts}
use Rattle.walk.specs.Walk.{Entry, records_in}
use Rattle.compare.specs.Records.{same}
use Rattle.compare.specs.Moved.{same_details}

-- ---- pairs of records, one of either book

-- none yet
abbrev pub no_runs : Counts
no_runs = record { pairs = 0; leading = 0; trailing = 0; first = 0; last = 0; others = 0 }

-- one pair more: those at the beginning are the same as long as all before them are, at the end a pair that differs begins the count anew. Of each
-- sort, and of all pairs, those are counted that are the same record and give other lines
abbrev pub one_more_lem : Counts → Bool → Bool → Counts
one_more_lem u records lines =
    record {
      pairs = u.pairs + 1;
      leading = pick (records && eqb u.leading u.pairs) (u.leading + 1) u.leading;
      trailing = pick records (u.trailing + 1) 0;
      first = pick ((records && eqb u.leading u.pairs) && not lines) (u.first + 1) u.first;
      last = pick records (pick lines u.last (u.last + 1)) 0;
      others = pick (records && not lines) (u.others + 1) u.others;
    }

-- the pairs of es and ns, up to the end of either
unfoldable pub runs_from : Counts → List Entry → List Entry → Counts
runs_from u [] ns = u
runs_from u (e ∷ es) [] = u
runs_from u (e ∷ es) (n ∷ ns) = runs_from (one_more_lem u (same e.bytes n.bytes) (same e.lines n.lines)) es ns

abbrev pub runs_of : List Entry → List Entry → Counts
runs_of es ns = runs_from no_runs es ns

-- ---- two runs

-- how many records are the same at the beginning
abbrev pub front_of : List Entry → List Entry → ℕ
front_of es ns = (runs_of es ns).leading

-- how many of either are compared from the end: all but those of the beginning, of the shorter run
abbrev pub back_most : List Entry → List Entry → ℕ
back_most es ns = min (length es) (length ns) - front_of es ns

-- their pairs
abbrev pub back_runs : List Entry → List Entry → Counts
back_runs es ns = runs_of (drop (length es - back_most es ns) es) (drop (length ns - back_most es ns) ns)

-- how many are the same at the end
abbrev pub back_of : List Entry → List Entry → ℕ
back_of es ns = (back_runs es ns).trailing

-- the records between those that are the same at the beginning and at the end
abbrev pub between : ℕ → ℕ → List Entry → List (List ℕ)
between front back es = records_in (take (length es - front - back) (drop front es))

-- there are some, equally many in both, and they are the same details in another order
abbrev pub moved_of : ℕ → ℕ → List Entry → List Entry → Bool
moved_of front back es ns =
    not (eqb (length es - front - back) 0) && (eqb (length es) (length ns) && same_details (between front back es) (between front back ns))

-- those between go one by one: they are not in another order, and there are equally many
abbrev pub paired_of : Bool → List Entry → List Entry → Bool
paired_of moved es ns = not moved && eqb (length es) (length ns)

-- how many are the same and give other lines: of all pairs where they go one by one, else of those at the beginning and at the end
abbrev pub others_of : Bool → List Entry → List Entry → ℕ
others_of paired es ns = pick paired (runs_of es ns).others ((runs_of es ns).first + (back_runs es ns).last)

unfoldable pub plan_of : List Entry → List Entry → Plan
plan_of es ns =
    let moved = moved_of (front_of es ns) (back_of es ns) es ns in
    record {
      old = length es;
      new = length ns;
      front = front_of es ns;
      back = back_of es ns;
      moved = moved;
      paired = paired_of moved es ns;
      others = others_of (paired_of moved es ns) es ns;
    }

-- ---- what is told of them

-- how many stand between in the old book, and in the new one
abbrev pub old_between : Plan → ℕ
old_between p = p.old - p.front - p.back

abbrev pub new_between : Plan → ℕ
new_between p = p.new - p.front - p.back

-- how many are told: none that are only in another order
abbrev pub old_told : Plan → ℕ
old_told p = pick p.moved 0 (old_between p)

abbrev pub new_told : Plan → ℕ
new_told p = pick p.moved 0 (new_between p)

-- how many are in another order
abbrev pub moved_many : Plan → ℕ
moved_many p = pick p.moved (old_between p) 0
