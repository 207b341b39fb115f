-- What is printed of two books that are compared: the verdicts; the parts before the groups; the groups of both by rising number; the total; the last
-- word. Of a section in which nothing is to tell nothing is printed.
-- Assumes nothing.
use Rattle.std.specs.Prelude.{ℕ, zero, suc, ◌+◌, ◌-◌, List, [], ◌∷◌, ◌++◌, Bool, true, false, ◌&&◌, length, take, drop, eqb, ltb}
use Rattle.base.specs.Choice.{pick}
use Rattle.line_bytes.specs.Lines.{figure_count}
use Rattle.printing.specs.Ascii.{ascii}
use Rattle.printing.specs.Decimal.{decimal}
use Rattle.why.specs.Why.{why_of}
use Rattle.why.specs.Remarks.{machine_text}
use Rattle.walk.specs.Walk.{Entry, entries_of}
use Rattle.compare.specs.Records.{same}
use Rattle.compare.specs.Places.{part_of, after_part, no_group, group_at, group_size, after_group, first_bytes, subtotal_of, close_lines}
use Rattle.compare.specs.Places.{last_line_lem}
use Rattle.compare.specs.Plans.{plan_of, old_told, new_told, moved_many}
use Rattle.compare.specs.Figures.{sum_text}
use Rattle.compare.specs.Values.{word_of, alone_text, pair_text, first_pair}

-- ---- the records of a section that are told

-- each of the records es of a book alone, the first of them with the number i
unfoldable pub alones_text : Bool → ℕ → List Entry → List ℕ
alones_text new i [] = []
alones_text new i (e ∷ es) = alone_text new i e.bytes e.lines ++ alones_text new (i + 1) es

-- one by one
unfoldable pub pairs_text : ℕ → List Entry → ℕ → List Entry → List ℕ
pairs_text i [] j ns = []
pairs_text i (e ∷ es) j [] = []
pairs_text i (e ∷ es) j (n ∷ ns) = pair_text i e.bytes e.lines j n.bytes n.lines ++ pairs_text (i + 1) es (j + 1) ns

unfoldable pub told_text : Bool → ℕ → List Entry → ℕ → List Entry → List ℕ
told_text paired i es j ns = pick paired (pairs_text i es j ns) (alones_text false i es ++ alones_text true j ns)

-- many records, from i on in the old book and from j on in the new one, which are only in another order
abbrev pub span_text : List ℕ → ℕ → ℕ → List ℕ
span_text word i many = word ++ (decimal i ++ (ascii " to " ++ decimal (i + many - 1)))

-- their numbers in the new book, where they are others
abbrev pub moved_now : ℕ → ℕ → ℕ → List ℕ
moved_now i j many = pick (eqb i j) [] (span_text (ascii ", now ") j many)

-- their lines depend on their heading
abbrev pub moved_under : Bool → List ℕ
moved_under under = pick under (ascii ", with the same lines\n") (ascii ", under a changed heading\n")

unfoldable pub moved_text : Bool → ℕ → ℕ → ℕ → List ℕ
moved_text under i j many =
    pick (eqb many 0) []
    (span_text (ascii "records ") i many ++ (ascii " are the same in another order" ++ (moved_now i j many ++ moved_under under)))

-- ---- the end of a section

unfoldable pub others_text : ℕ → List ℕ
others_text n =
    pick (eqb n 0) []
    (pick (eqb n 1) (ascii "1 record is the same and gives another line\n") (decimal n ++ ascii " records are the same and give other lines\n"))

unfoldable pub tail_text : ℕ → List ℕ → List ℕ → List ℕ
tail_text others s t = others_text others ++ sum_text (ascii "subtotal") figure_count s t

-- ---- a section of both books

-- nothing is told of the records, and their sums are the same
abbrev pub silent : Bool → ℕ → ℕ → ℕ → ℕ → List ℕ → List ℕ → Bool
silent under o n moved others s t = under && ((eqb o 0 && (eqb n 0 && (eqb moved 0 && eqb others 0))) && same s t)

-- the part of the old book that es begins with, from number i on, and that of the new one; under is whether the headings are the same
unfoldable pub parts_text : List ℕ → List ℕ → Bool → Bool → ℕ → List Entry → ℕ → List Entry → List ℕ
parts_text title headings under grouped i es j ns =
    let p = plan_of (part_of es) (part_of ns) in
    let s = subtotal_of grouped (after_part es) in
    let t = subtotal_of grouped (after_part ns) in
    pick (silent under (old_told p) (new_told p) (moved_many p) p.others s t) []
    (title ++ (headings ++ moved_text under (i + p.front) (j + p.front) (moved_many p)))
    ++ (told_text p.paired (i + p.front) (take (old_told p) (drop p.front es)) (j + p.front) (take (new_told p) (drop p.front ns))
    ++ tail_text p.others s t)

abbrev pub group_title : ℕ → List ℕ → List ℕ
group_title g word = ascii "group " ++ (decimal g ++ word)

-- the group that both books have next
unfoldable pub both_groups_text : ℕ → List Entry → ℕ → List Entry → List ℕ
both_groups_text i es j ns =
    parts_text (group_title (group_at es) (ascii ":\n")) (first_pair i es j ns) (same (first_bytes es) (first_bytes ns)) true (i + 1) (drop 1 es)
    (j + 1)
    (drop 1 ns)

-- the group that only the old book has, and one that only the new one has
unfoldable pub removed_text : ℕ → List Entry → List ℕ
removed_text i es =
    group_title (group_at es) (ascii ", removed:\n")
    ++ (alones_text false i (take (group_size es) es) ++ tail_text 0 (subtotal_of true (after_group es)) [])

unfoldable pub added_text : ℕ → List Entry → List ℕ
added_text j ns =
    group_title (group_at ns) (ascii ", added:\n")
    ++ (alones_text true j (take (group_size ns) ns) ++ tail_text 0 [] (subtotal_of true (after_group ns)))

-- ---- all groups, and the total

unfoldable pub total_text : List Entry → List Entry → List ℕ
total_text es ns = sum_text (ascii "total") (figure_count + 1) (last_line_lem (close_lines es)) (last_line_lem (close_lines ns))

-- at most so many sections, then the total
unfoldable pub groups_from : ℕ → ℕ → List Entry → ℕ → List Entry → List ℕ
groups_from zero i es j ns = total_text es ns
groups_from (suc k) i es j ns =
    pick (ltb (group_at es) (group_at ns)) (removed_text i es ++ groups_from k (i + group_size es) (after_group es) j ns)
    (pick (ltb (group_at ns) (group_at es)) (added_text j ns ++ groups_from k i es (j + group_size ns) (after_group ns))
    (pick (eqb (group_at es) no_group) (total_text es ns)
    (both_groups_text i es j ns ++ groups_from k (i + group_size es) (after_group es) (j + group_size ns) (after_group ns))))

-- there are no more sections than records
abbrev pub groups_text : ℕ → List Entry → ℕ → List Entry → List ℕ
groups_text i es j ns = groups_from (length es + length ns) i es j ns

-- ---- the whole

-- the accepted records are the same, one for one
unfoldable pub same_each : List Entry → List Entry → Bool
same_each [] [] = true
same_each [] (n ∷ ns) = false
same_each (e ∷ es) [] = false
same_each (e ∷ es) (n ∷ ns) = same e.bytes n.bytes && same_each es ns

-- these bytes of both are the same, and alike is whether all others are
abbrev pub alike_on : Bool → List ℕ → List ℕ → Bool
alike_on alike xs ys = alike && same xs ys

-- the last word, where alike is whether the bytes after these are the same in both
unfoldable pub last_text : Bool → List ℕ → List ℕ → List ℕ
last_text alike old new =
    pick (alike_on alike old new) (ascii "nothing differs\n")
    (pick (same_each (entries_of old) (entries_of new)) (ascii "no accepted record differs\n") (ascii "all else is the same\n"))

-- which book, before its verdict
abbrev pub book_text : Bool → List ℕ
book_text new = word_of new ++ ascii ": "

-- what stands before the groups
unfoldable pub before_text : List Entry → List Entry → List ℕ
before_text es ns = parts_text (ascii "before the groups:\n") [] true false 0 es 0 ns

-- of the beginnings of two books; alike is whether the bytes after them are the same in both
unfoldable pub beginnings_text : Bool → List ℕ → List ℕ → List ℕ
beginnings_text alike old new =
    let es = entries_of old in
    let ns = entries_of new in
    book_text false
    ++ (machine_text (why_of old)
    ++ (book_text true
    ++ (machine_text (why_of new)
    ++ (before_text es ns ++ (groups_text (length (part_of es)) (after_part es) (length (part_of ns)) (after_part ns) ++ last_text alike old new)))))

-- of two books: no byte comes after them
abbrev pub compare_text : List ℕ → List ℕ → List ℕ
compare_text old new = beginnings_text true old new
