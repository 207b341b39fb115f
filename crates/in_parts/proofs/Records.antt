-- Theorems: what the program prints call after call, whatever the sizes of its buffers, is what one call with room for all prints; where nothing more
-- may come these are the rows of the book's accepted records, and the account is rule 2's; and what stands after the first 114,716 bytes changes
-- nothing of it.
-- Assumes nothing.
use Prim.Native.Nat.{ℕ, zero, suc, ◌+◌, ◌*◌, ◌/◌, ◌≤◌, ◌<◌}
use native.Mathlib.Omega.{arith}
use native.Mathlib.Nat.{add-zero}
use mathlib.Core.Path.{◌≡◌, refl, sym, ap, ◌∙◌}
use mathlib.Core.Bool.{Bool, true, false, ◌&&◌}
use mathlib.Core.List.{List, [], ◌∷◌, ◌++◌, append-nil}
use borrow.Author.Tests.{le-leb, leb-false}
use lib.Dec.{leb}
use lib.ListN.{length, take, drop, length-drop}
use lib.Seq.{take_all}
use Rattle.base.specs.Choice.{pick}
use Rattle.base.proofs.Tests.{by-test, of-choice, no_bool, and_l}
use Rattle.account.specs.declared.Account.{Account}
use Rattle.account.specs.Account.{no_record}
use Rattle.account.specs.Range.{AccountInRange, account_in_range}
use Rattle.account.proofs.Clauses.{in-range-test}
use Rattle.account.proofs.Keeps.{in-range-none}
use Rattle.book.specs.State.{no_record_yet}
use Rattle.book.specs.Run.{run}
use Rattle.walk.specs.Walk.{Entry, next_of, records_in, entries_of}
use Rattle.walk.proofs.Walks.{stands, entries-end}
use Rattle.retype.specs.Book.{Retyping, nothing_yet_lem, and_then, accepted_in, typed_by, line_most}
use Rattle.retype.proofs.Steps.{as-it-is, grouped}
use Rattle.records.specs.Table.{text_of, rows_from, table_of, with_text, rows_by, rows_after, rows_most}
use Rattle.records.proofs.Steps.{none-asked, none-accepted, one-is, one-stops, one_more}
use Rattle.in_parts.specs.Retype.{retyped_in, lines_in}
use Rattle.in_parts.specs.Records.{rows_in, records_for}
use Rattle.in_parts.proofs.Cut.{ends, some, range-next, book-cut}
use Rattle.in_parts.proofs.Retype.{retyped-taken, retyped-ends, retyped-cut}
use Rattle.in_parts.proofs.Retype as typing
use Rattle.in_parts.proofs.RetypeEnd.{retyped-account}

-- ---- some records, and then n more

-- x begins at the byte at: its account is in its ranges, and it takes no more bytes than there are
record Fair (at : ℕ) (book : List ℕ) (x : Retyping) : Type 0 where
  range : AccountInRange x.account
  inside : at + x.taken ≤ length book

fair-one : (a : Account) (at : ℕ) (book : List ℕ) → AccountInRange a → at ≤ length book → Fair at book (rows_by 1 a at book)
fair-one a at book v h =
    let xs = drop at book in
    by-test (ends a xs)
    (λ t. rw (none-accepted 0 a at book (entries-end a xs (next_of a xs) refl t)) (record { range = range-next a xs v; inside = omega arith }))
    (λ t. rw (one-is a at book (next_of a xs) refl t)
    (record {
      range = range-next a xs v;
      inside = omega (arith, h, (stands a xs (next_of a xs) refl (some a xs t)).inside, length-drop at book);
    }))

fair : (m : ℕ) (a : Account) (at : ℕ) (book : List ℕ) → AccountInRange a → at ≤ length book → Fair at book (rows_by m a at book)
fair zero a at book v h = rw (none-asked a at book) (record { range = v; inside = omega arith })
fair (suc m) a at book v h =
    let x = rows_by 1 a at book in
    let f = fair-one a at book v h in
    by-test x.more
    (λ t.
    let g = fair m x.account (at + x.taken) book f.range f.inside in
    rw (one_more m a at book t) (record { range = g.range; inside = omega (arith, g.inside) }))
    (λ t. rw (one-stops m a at book t) f)

-- there are no more
rows_end : (n m : ℕ) (a : Account) (at : ℕ) (book : List ℕ) → (rows_by m a at book).more ≡ false → rows_by (m + n) a at book ≡ rows_by m a at book
rows_end n zero a at book f = no_bool (sym f ∙ ap (λ (x : Retyping). x.more) (none-asked a at book))
rows_end n (suc m) a at book f =
    let x = rows_by 1 a at book in
    let sum : suc m + n ≡ suc (m + n) = omega arith in
    by-test x.more
    (λ t.
    let first = one_more m a at book t in
    let others = rows_end n m x.account (at + x.taken) book (sym (ap (λ (y : Retyping). y.more) first) ∙ f) in
    rw sum (one_more (m + n) a at book t) ∙ ap (and_then x) others ∙ sym first)
    (λ t. rw sum (one-stops (m + n) a at book t) ∙ sym (one-stops m a at book t))

-- there may be more
rows_on : (n m : ℕ) (a : Account) (at : ℕ) (book : List ℕ) → (rows_by m a at book).more ≡ true
    → rows_by (m + n) a at book ≡ and_then (rows_by m a at book) (rows_by n (rows_by m a at book).account (at + (rows_by m a at book).taken) book)
rows_on n zero a at book f =
    let z : 0 + n ≡ n = omega arith in
    let y : at + 0 ≡ at = omega arith in
    rw (none-asked a at book, z, y) (as-it-is a (rows_by n a at book))
rows_on n (suc m) a at book f =
    let x = rows_by 1 a at book in
    let sum : suc m + n ≡ suc (m + n) = omega arith in
    by-test x.more
    (λ t.
    let first = one_more m a at book t in
    let y = rows_by m x.account (at + x.taken) book in
    let others = rows_on n m x.account (at + x.taken) book (sym (ap (λ (y : Retyping). y.more) first) ∙ f) in
    let place : at + x.taken + y.taken ≡ at + (x.taken + y.taken) = omega arith in
    let z = rows_by n y.account (at + (x.taken + y.taken)) book in
    let rest : rows_by (m + n) x.account (at + x.taken) book ≡ and_then y z = rw place at others in
    rw sum (one_more (m + n) a at book t) ∙ ap (and_then x) rest ∙ grouped x y z ∙ rw first refl)
    (λ t. no_bool (sym t ∙ sym (ap (λ (y : Retyping). y.more) (one-stops m a at book t)) ∙ f))

-- ---- a series of calls

-- a call that may be made
called : (n : ℕ) (a : Account) (at : ℕ) (book : List ℕ) → AccountInRange a → at ≤ length book → rows_after n a at book ≡ rows_by n a at book
called n a at book v h = rw (in-range-test a v, le-leb at (length book) h) refl

series-is : (rooms : List ℕ) (a : Account) (at : ℕ) (book : List ℕ) → AccountInRange a → at ≤ length book
    → rows_in rooms a at book ≡ rows_by (records_for rooms) a at book
unfolding rows_in records_for
series-is [] a at book v h = sym (none-asked a at book)
series-is (room ∷ rooms) a at book v h =
    let n = room / rows_most in
    let x = rows_by n a at book in
    let f = fair n a at book v h in
    let others = series-is rooms x.account (at + x.taken) book f.range f.inside in
    rw (called n a at book v h)
    (of-choice (λ (y : Retyping). y ≡ rows_by (n + records_for rooms) a at book) x.more
    (λ t. ap (and_then x) others ∙ sym (rows_on (records_for rooms) n a at book t))
    (λ t. sym (rows_end (records_for rooms) n a at book t)))

-- The theorem: from an account in its ranges the account, the bytes taken, the rows and whether there may be more are those of one call with room for
-- all of them.
pub records-in-parts : (rooms : List ℕ) (a : Account) (at : ℕ) (book : List ℕ) → AccountInRange a → at ≤ length book
    → rows_in rooms a at book ≡ rows_after (records_for rooms) a at book
records-in-parts rooms a at book v h = series-is rooms a at book v h ∙ sym (called (records_for rooms) a at book v h)

-- ---- one call more

-- each record that is taken has six bytes at least
pub rows_taken : (m : ℕ) (a : Account) (at : ℕ) (book : List ℕ) → (rows_after m a at book).more ≡ true → 6 * m ≤ (rows_after m a at book).taken
unfolding rows_by
rows_taken m a at book =
    of-choice (λ (x : Retyping). x.more ≡ true → 6 * m ≤ x.taken) (account_in_range a && leb at (length book))
    (λ t. rw (and_l (account_in_range a) (leb at (length book)) t) at (retyped-taken m a (drop at book)))
    (λ t f. no_bool f)

goes : (x y : Retyping) → x.more ≡ true → pick x.more (and_then x y) x ≡ and_then x y
goes x y t = of-choice (λ (z : Retyping). z ≡ and_then x y) x.more (λ f. refl) (λ f. no_bool (sym f ∙ t))

stops : (x y : Retyping) → x.more ≡ false → pick x.more (and_then x y) x ≡ x
stops x y t = of-choice (λ (z : Retyping). z ≡ x) x.more (λ f. no_bool (sym t ∙ f)) (λ f. refl)

nothing-after : (a : Account) (n : ℕ) (text : List ℕ) (b : Bool) → b ≡ true
    → and_then (record { account = a; taken = n; text = text; more = b }) (nothing_yet_lem a) ≡ record { account = a; taken = n; text = text; more = b }
nothing-after a n text b e = rw (e, add-zero, append-nil) refl

-- after a series that may go on
pub series-on : (rooms : List ℕ) (room : ℕ) (a : Account) (at : ℕ) (book : List ℕ) → (rows_in rooms a at book).more ≡ true
    → rows_in (rooms ++ (room ∷ [])) a at book
    ≡ and_then (rows_in rooms a at book) (rows_after (room / rows_most) (rows_in rooms a at book).account (at + (rows_in rooms a at book).taken) book)
unfolding rows_in
series-on [] room a at book e =
    let x = rows_after (room / rows_most) a at book in
    let z : at + 0 ≡ at = omega arith in
    rw z
    (of-choice (λ (y : Retyping). y ≡ and_then (nothing_yet_lem a) x) x.more
    (λ t. nothing-after x.account x.taken x.text x.more t ∙ as-it-is a x) (λ t. as-it-is a x))
series-on (n ∷ rooms) room a at book e =
    let x = rows_after (n / rows_most) a at book in
    let y = rows_in rooms x.account (at + x.taken) book in
    let more : Retyping → Bool = λ z. z.more in
    let one : Retyping → Retyping = λ z. rows_after (room / rows_most) z.account (at + z.taken) book in
    let place : at + x.taken + y.taken ≡ at + (x.taken + y.taken) = omega arith in
    by-test x.more
    (λ t.
    let others = rw place at (series-on rooms room x.account (at + x.taken) book (sym (ap more (goes x y t)) ∙ e)) in
    goes x (rows_in (rooms ++ (room ∷ [])) x.account (at + x.taken) book) t ∙ ap (and_then x) others ∙ grouped x y (one (and_then x y))
    ∙ ap (λ (z : Retyping). and_then z (one z)) (sym (goes x y t)))
    (λ t. no_bool (sym t ∙ sym (ap more (stops x y t)) ∙ e))

-- ---- a whole book

entries-count : (es : List Entry) → length (records_in es) ≡ length es
unfolding records_in
entries-count [] = refl
entries-count (e ∷ es) = ap suc (entries-count es)

-- what retype gives of the first n records, by a theorem over its series: one buffer with room for n lines
as-typed : (n : ℕ) (xs : List ℕ) → retyped_in ((n * line_most) ∷ []) no_record xs ≡ typed_by n no_record xs
unfolding lines_in
as-typed n xs =
    let z : n * line_most / line_most + 0 ≡ n = omega arith in
    typing.of-book ((n * line_most) ∷ []) xs ∙ ap (λ (m : ℕ). typed_by m no_record xs) z

lines-for : (n : ℕ) → lines_in ((n * line_most) ∷ []) ≡ n
unfolding lines_in
lines-for n = omega arith

module _ (rooms : List ℕ) (book : List ℕ) where
  of-book : rows_in rooms no_record 0 book ≡ rows_by (records_for rooms) no_record 0 book
  of-book = series-is rooms no_record 0 book in-range-none (omega arith)

  -- a book has at most 4,096 records: where one more has room, nothing more may come
  pub rows-ends : 4096 < records_for rooms → (rows_in rooms no_record 0 book).more ≡ false
  unfolding rows_by
  rows-ends h =
      let n = records_for rooms in
      rw (of-book, ← as-typed n book) (retyped-ends ((n * line_most) ∷ []) book (omega (arith, lines-for n)))

  module _ (e : (rows_in rooms no_record 0 book).more ≡ false) where
    all-taken : take (records_for rooms) (entries_of book) ≡ entries_of book
    unfolding rows_by typed_by
    all-taken =
        let n = records_for rooms in
        let t : leb n (length (accepted_in book)) ≡ false = rw of-book at e in
        take_all n (entries_of book) (omega (arith, leb-false n (length (accepted_in book)) t, entries-count (entries_of book)))

    -- the rows of its accepted records
    pub rows_whole : (rows_in rooms no_record 0 book).text ≡ text_of (table_of book)
    unfolding rows_by table_of
    rows_whole = rw of-book (ap (λ (es : List Entry). text_of (rows_from 0 0 es)) all-taken)

    -- and the account of rule 2, by which the last word and the status go
    pub rows-account : (rows_in rooms no_record 0 book).account ≡ (run no_record_yet book).state.account
    unfolding rows_by
    rows-account =
        let n = records_for rooms in
        rw of-book (rw (as-typed n book) at (retyped-account ((n * line_most) ∷ []) book (rw (of-book, ← as-typed n book) at e)))

-- ---- what stands after the bytes that decide

-- The theorem: the rows, the account, the bytes taken and whether there may be more are those of the whole input.
pub rows_cut : (rooms : List ℕ) (n : ℕ) (xs : List ℕ) → 114716 ≤ n → rows_in rooms no_record 0 (take n xs) ≡ rows_in rooms no_record 0 xs
unfolding rows_by
rows_cut rooms n xs h =
    let m = records_for rooms in
    let typed : typed_by m no_record (take n xs) ≡ typed_by m no_record xs =
    sym (as-typed m (take n xs)) ∙ retyped-cut ((m * line_most) ∷ []) n xs h ∙ as-typed m xs in
    of-book rooms (take n xs)
    ∙ ap (λ (x : Retyping). with_text x (text_of (rows_from 0 0 (take m (entries_of (take n xs)))))) typed
    ∙ ap (λ (es : List Entry). with_text (typed_by m no_record xs) (text_of (rows_from 0 0 (take m es)))) (book-cut n xs h)
    ∙ sym (of-book rooms xs)
