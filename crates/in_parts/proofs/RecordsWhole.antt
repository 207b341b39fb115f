-- Theorems: the lines whose figures stand in the table of a book's records are, in order, those that rule 2 gives for the book, which the lister
-- prints; and the typed cells of the table, a line feed after each, are the text that retype prints.
-- Assumes nothing.
use Prim.Native.Nat.{ℕ, zero, suc, ◌+◌, ◌≤◌, ◌<◌, min}
use native.Mathlib.Omega.{arith}
use mathlib.Core.Path.{◌≡◌, refl, sym, ap, ◌∙◌}
use mathlib.Core.Bool.{Bool, true, ◌&&◌, ◌||◌}
use mathlib.Core.Logic.{⊎_elim}
use mathlib.Core.List.{List, [], ◌∷◌, ◌++◌, append-nil, append_assoc}
use borrow.Author.Tests.{ne_eqb, eqb-true, eqb-false, leb-true}
use lib.Dec.{eqb, leb}
use lib.ListN.{length, take, drop, length-append, length-drop, take-append-drop}
use Rattle.base.proofs.Tests.{by-test, lt-or-ge, and_l, and_r, neither}
use Rattle.base.specs.Bytes.{index_of, index_after}
use Rattle.typed_words.specs.Words.{nth_part}
use Rattle.names.specs.Names.{kind_table, no_row, kind_name}
use Rattle.account.specs.declared.Account.{Account}
use Rattle.account.specs.Account.{no_record}
use Rattle.account.specs.Range.{AccountInRange}
use Rattle.account.specs.Line.{joined}
use Rattle.account.specs.Judge.{record_row, values_of, judge}
use Rattle.account.proofs.Keeps.{in-range-none}
use Rattle.book.specs.Front.{Front, unfinished, bad_length, whole, need, front}
use Rattle.book.specs.State.{no_record_yet}
use Rattle.book.specs.Run.{book, run}
use Rattle.book.proofs.Runs.{book-ended, book-unfinished, book-bad, book-whole}
use Rattle.walk.specs.Walk.{Entry, record_at, lines_of, at_front, next_of, records_in, entries_after, entries_of}
use Rattle.walk.proofs.NextRecords.{next-open}
use Rattle.walk.proofs.Walks.{stands, entries-end, entries_next}
use Rattle.promises.proofs.Headings.{Grown, Stopped, judged}
use Rattle.why.proofs.Faults.{refused-is}
use Rattle.retype.specs.Typed.{values_typed, line_typed, text_typed}
use Rattle.retype.specs.Book.{accepted_in}
use Rattle.records.specs.Table.{subtotal_size, own_in, typed_text, Row, own_row, after_subtotal, entry_rows, rows_from, table_of, lines_in, typed_in}
use Rattle.in_parts.proofs.Cut.{ends, some, range-next}

-- ---- the lines of rows

-- the lines of entries
entry_lines : List Entry → List ℕ
entry_lines [] = []
entry_lines (e ∷ es) = e.lines ++ entry_lines es

lines-both : (xs ys : List Row) → lines_in (xs ++ ys) ≡ lines_in xs ++ lines_in ys
unfolding lines_in
lines-both [] ys = refl
lines-both (x ∷ xs) ys = rw (lines-both xs ys) (sym (append_assoc x.line (lines_in xs) (lines_in ys)))

after-lines : (lines : List ℕ) (x : Row) → x.line ≡ own_in lines → lines_in (after_subtotal lines x) ≡ lines
unfolding after_subtotal lines_in
after-lines lines x q =
    by-test (eqb (subtotal_size lines) 0)
    (λ t. rw (t, q, append-nil, eqb-true (subtotal_size lines) 0 t) refl)
    (λ t. rw (t, q, append-nil) (take-append-drop (subtotal_size lines) lines))

rows-lines : (number first : ℕ) (es : List Entry) → lines_in (rows_from number first es) ≡ entry_lines es
unfolding rows_from entry_lines lines_in
rows-lines number first [] = refl
rows-lines number first (e ∷ es) =
    let next = first + length e.bytes in
    lines-both (entry_rows number first e) (rows_from (suc number) next es)
    ∙ rw (after-lines e.lines (own_row number first e.bytes (own_in e.lines)) refl, rows-lines (suc number) next es) refl

-- ---- the lines of a run

joined-both : (ks ls : List (List ℕ)) → joined (ks ++ ls) ≡ joined ks ++ joined ls
joined-both [] ls = refl
joined-both (k ∷ ks) ls = rw (joined-both ks ls, append_assoc) refl

-- a record that is refused gives none
refused-lines : (a : Account) (r : List ℕ) → a.stage < 2 → AccountInRange a → (judge a r).account.stage ≡ 3 → (judge a r).lines ≡ []
refused-lines a r early v three =
    ⊎_elim
    (λ (s : Stopped a (judge a r)). s.none)
    (λ (g : Grown a r (judge a r)).
    let q = ap (λ (b : Account). b.records) (refused-is a r early three) in absurd (omega (arith, q, g.counted)))
    (judged a r v)

front-lines : (f : Front) (a : Account) (xs : List ℕ) → front xs ≡ f → a.stage < 2 → AccountInRange a
    → eqb (at_front f a xs).size 0 || eqb (at_front f a xs).account.stage 3 ≡ true → (book a xs).lines ≡ []
front-lines unfinished a xs e early v h = rw (book-unfinished a xs early e) refl
front-lines bad_length a xs e early v h = rw (book-bad a xs early e) refl
front-lines whole a xs e early v h =
    let next = (judge a (record_at xs)).account in
    let three : next.stage ≡ 3 = eqb-true _ _ (rw (ne_eqb (need xs) 0 (λ z. omega arith)) at h) in
    rw (book-whole a xs early e, book-ended next (drop (need xs) xs) (omega arith), refused-lines a (record_at xs) early v three) refl

end-lines : (a : Account) (xs : List ℕ) → AccountInRange a → ends a xs ≡ true → (book a xs).lines ≡ []
end-lines a xs v h =
    ⊎_elim
    (λ (early : a.stage < 2). front-lines (front xs) a xs refl early v (rw (next-open a xs early) at h))
    (λ (late : 2 ≤ a.stage). rw (book-ended a xs late) refl)
    (lt-or-ge a.stage 2)

run-lines : (k : ℕ) (a : Account) (xs : List ℕ) → length xs < k → AccountInRange a → entry_lines (entries_after a xs) ≡ joined (book a xs).lines
unfolding entry_lines
run-lines zero a xs l v = absurd (omega arith)
run-lines (suc k) a xs l v =
    let t = next_of a xs in
    by-test (ends a xs)
    (λ h. rw (entries-end a xs t refl h, end-lines a xs v h) refl)
    (λ h.
    let s = stands a xs t refl (some a xs h) in
    let still = eqb-false _ _ (neither (eqb t.size 0) (eqb t.account.stage 3) h).1 in
    let r = take t.size xs in
    let ys = drop t.size xs in
    let on = rw (← s.size, ← s.account) at (book-whole a xs s.early s.front) in
    let i = run-lines k t.account ys (omega (arith, l, length-drop t.size xs, s.least, s.inside)) (range-next a xs v) in
    rw (entries_next a xs t refl (some a xs h) still, on)
    (ap (λ (ls : List ℕ). lines_of a r ++ ls) i ∙ sym (joined-both (judge a r).lines (book t.account ys).lines)))

-- The theorem: the lines of the rows are those that rule 2 gives for the book.
pub records-lines : (xs : List ℕ) → lines_in (table_of xs) ≡ joined (run no_record_yet xs).lines
unfolding table_of run
records-lines xs = rows-lines 0 0 (entries_of xs) ∙ run-lines (suc (length xs)) no_record xs (omega arith) in-range-none

-- ---- the typed cells

-- each number up to n passes the test
every : (ℕ → Bool) → ℕ → Bool
every p zero = p 0
every p (suc n) = p (suc n) && every p n

every-at : (p : ℕ → Bool) (n : ℕ) → every p n ≡ true → (k : ℕ) → k ≤ n → p k ≡ true
unfolding every
every-at p zero e k h = let z : k ≡ 0 = omega arith in rw z e
every-at p (suc n) e k h =
    ⊎_elim
    (λ (g : k < suc n). every-at p n (and_r (p (suc n)) (every p n) e) k (omega arith))
    (λ (g : suc n ≤ k). let z : k ≡ suc n = omega arith in rw z (and_l (p (suc n)) (every p n) e))
    (lt-or-ge k (suc n))

has_name : ℕ → Bool
has_name k = leb 1 (length (nth_part 10 k kind_table))

names-computed : every has_name no_row ≡ true
unfolding every has_name kind_table nth_part index_of index_after
names-computed = refl

-- no name is empty
name-some : (k : ℕ) → 1 ≤ length (kind_name k)
unfolding has_name
name-some k = leb-true 1 (length (kind_name k)) (every-at has_name no_row names-computed (min k no_row) (omega arith))

typed-some : (r : List ℕ) → length (typed_text r) ≡ 0 → ⊥
typed-some r z =
    omega (arith, z, name-some (record_row r), length-append (kind_name (record_row r)) (values_typed (record_row r) 0 (values_of r)))

typed-both : (xs ys : List Row) → typed_in (xs ++ ys) ≡ typed_in xs ++ typed_in ys
unfolding typed_in
typed-both [] ys = refl
typed-both (x ∷ xs) ys =
    by-test (eqb (length x.typed) 0)
    (λ t. rw t (typed-both xs ys))
    (λ t. rw (t, typed-both xs ys) (sym (append_assoc x.typed (10 ∷ typed_in xs) (typed_in ys))))

after-typed : (lines : List ℕ) (x : Row) → (length x.typed ≡ 0 → ⊥) → typed_in (after_subtotal lines x) ≡ x.typed ++ (10 ∷ [])
unfolding after_subtotal typed_in
after-typed lines x n =
    by-test (eqb (subtotal_size lines) 0) (λ t. rw (t, ne_eqb _ _ n) refl) (λ t. rw (t, ne_eqb _ _ n) refl)

line-is : (r : List ℕ) → typed_text r ++ (10 ∷ []) ≡ line_typed (record_row r) (values_of r)
line-is r = append_assoc (kind_name (record_row r)) (values_typed (record_row r) 0 (values_of r)) (10 ∷ [])

rows-typed : (number first : ℕ) (es : List Entry) → typed_in (rows_from number first es) ≡ text_typed (records_in es)
unfolding rows_from typed_in text_typed records_in
rows-typed number first [] = refl
rows-typed number first (e ∷ es) =
    let next = first + length e.bytes in
    let own = own_row number first e.bytes (own_in e.lines) in
    typed-both (entry_rows number first e) (rows_from (suc number) next es)
    ∙ rw (after-typed e.lines own (typed-some e.bytes), line-is e.bytes, rows-typed (suc number) next es) refl

-- The theorem: the typed cells are the text of the book's accepted records.
pub records-typed : (xs : List ℕ) → typed_in (table_of xs) ≡ text_typed (accepted_in xs)
unfolding table_of
records-typed xs = rows-typed 0 0 (entries_of xs)
