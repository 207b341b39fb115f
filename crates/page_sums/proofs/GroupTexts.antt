-- Theorem: the rows of the groups are those that the page prints, one after the other.
-- Assumes nothing.
use Prim.Native.Nat.{ℕ}
use mathlib.Core.Path.{◌≡◌, refl, sym, ap, ◌∙◌}
use mathlib.Core.List.{List, [], ◌∷◌, ◌++◌, append-nil, append_assoc}
use mathlib.Core.Bool.{Bool, true, false}
use Rattle.base.specs.Choice.{pick}
use Rattle.base.proofs.Tests.{by-test}
use Rattle.account.specs.declared.Account.{Account}
use Rattle.account.specs.Account.{no_record}
use Rattle.account.specs.Judge.{kind_byte, judge}
use Rattle.book.specs.WholeRecords.{records_of}
use Rattle.walk.specs.Walk.{accepts}
use Rattle.why.specs.Why.{why_of}
use Rattle.why.specs.Remarks.{people_text}
use Rattle.page.specs.declared.Group.{Group}
use Rattle.page.specs.declared.Scale.{Scale}
use Rattle.page.specs.Over.{over}
use Rattle.page.specs.Figures.{group_of, survey_of, group_scale}
use Rattle.page.specs.Parts.{group_text, top_text, rest_text, before_text, after_text}
use Rattle.page.specs.Page.{Rows, ends_group, row_by, next_rows, rows_of, is_refused, page_of}
use Rattle.page_sums.specs.Tables.{GroupRows, rows_ended, next_groups, no_groups, groups_of, group_texts}

texts-append : (sc : Scale) (gs hs : List Group) → group_texts sc (gs ++ hs) ≡ group_texts sc gs ++ group_texts sc hs
unfolding group_texts
texts-append sc [] hs = refl
texts-append sc (g ∷ gs) hs =
    ap (λ (u : List ℕ). group_text sc g ++ u) (texts-append sc gs hs) ∙ sym (append_assoc (group_text sc g) (group_texts sc gs) (group_texts sc hs))

-- a row, or none
one-text : (sc : Scale) (b : Bool) (g : Group) → pick b (group_text sc g) [] ≡ group_texts sc (pick b (g ∷ []) [])
unfolding group_texts
one-text sc true g = sym (append-nil (group_text sc g))
one-text sc false g = refl

-- the text of the rows so far
abbrev rows_text : Scale → GroupRows → Rows
rows_text sc x = record { from = x.from; grazed = x.grazed; text = group_texts sc x.rows }

text-next : (sc : Scale) (x : GroupRows) (a : Account) (r : List ℕ)
    → group_texts sc x.rows ++ row_by sc x.from x.grazed a (kind_byte r) ≡ group_texts sc (next_groups x a r).rows
text-next sc x a r =
    ap (λ (u : List ℕ). group_texts sc x.rows ++ u) (one-text sc (ends_group a (kind_byte r)) (group_of a x.from x.grazed))
    ∙ sym (texts-append sc x.rows (rows_ended x a (kind_byte r)))

texts-over : (sc : Scale) (x : GroupRows) (a : Account) (rs : List (List ℕ))
    → (over (next_rows sc) (rows_text sc x) a rs).text ≡ group_texts sc (over next_groups x a rs).rows
unfolding over
texts-over sc x a [] = refl
texts-over sc x a (r ∷ rs) =
    by-test (accepts a r)
    (λ t. rw t
    (ap (λ (u : List ℕ). (over (next_rows sc) (record { from = (next_groups x a r).from; grazed = (next_groups x a r).grazed; text = u })
    (judge a r).account rs).text) (text-next sc x a r) ∙ texts-over sc (next_groups x a r) (judge a r).account rs))
    (λ t. rw t refl)

pub page-rows-are-groups : (sc : Scale) (xs : List ℕ) → rows_of sc xs ≡ group_texts sc (groups_of xs)
unfolding groups_of group_texts
page-rows-are-groups sc xs = texts-over sc no_groups no_record (records_of xs)

-- The page of a closed book: its head, the rows of its groups, and the rest.
pub page-closed : (xs : List ℕ) → (survey_of xs).closed ≡ true
    → page_of xs ≡ top_text (survey_of xs) ++ (group_texts (group_scale (survey_of xs)) (groups_of xs) ++ rest_text (survey_of xs))
unfolding page_of
page-closed xs e =
    let s = survey_of xs in
    let v = why_of xs in
    ap
    (λ (b : Bool). pick b (top_text s) (before_text s (is_refused v))
    ++ (pick b (rows_of (group_scale s) xs) (people_text v) ++ pick b (rest_text s) (after_text s (is_refused v)))) e
    ∙ ap (λ (u : List ℕ). top_text s ++ (u ++ rest_text s)) (page-rows-are-groups (group_scale s) xs)
