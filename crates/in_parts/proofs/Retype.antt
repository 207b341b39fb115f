-- Theorems: what the program prints call after call, whatever the sizes of its buffers, is what one call with room for all prints; where nothing more
-- may come these are the lines of the book's accepted records; and what stands after the first 114,716 bytes changes nothing of it.
-- Assumes nothing.
use Prim.Native.Nat.{ℕ, zero, suc, ◌+◌, ◌-◌, ◌*◌, ◌/◌, ◌≤◌, ◌<◌}
use native.Mathlib.Omega.{arith}
use native.Mathlib.Nat.{add-zero}
use mathlib.Core.Path.{◌≡◌, refl, sym, ap, ◌∙◌}
use mathlib.Core.Bool.{Bool, true, false}
use mathlib.Core.List.{List, [], ◌∷◌, ◌++◌, append-nil}
use borrow.Author.Tests.{lt-leb, leb-false}
use lib.Dec.{leb}
use lib.ListN.{length, take, drop, length-append}
use lib.Seq.{drop-drop, take_all}
use Rattle.base.specs.Choice.{pick}
use Rattle.base.proofs.Tests.{by-test, of-choice, no_bool}
use Rattle.codec.specs.Table.{record_most}
use Rattle.codec.specs.Codec.{Bytes}
use Rattle.account.specs.declared.Account.{Account}
use Rattle.account.specs.Account.{no_record}
use Rattle.account.specs.Range.{AccountInRange, account_in_range}
use Rattle.account.specs.Line.{joined}
use Rattle.account.proofs.Clauses.{in-range-test}
use Rattle.account.proofs.Keeps.{in-range-none}
use Rattle.book.specs.State.{no_record_yet}
use Rattle.walk.specs.Walk.{next_of, records_in, entries_after}
use Rattle.walk.proofs.Walks.{entries-end}
use Rattle.retype.specs.Typed.{text_typed, account_behind, typed_whole, SameBytes}
use Rattle.retype.specs.Book.{Retyping, nothing_yet_lem, and_then, accepted_in, typed_by, retyped_by, line_most, end_text, status_byte}
use Rattle.retype.proofs.Steps.{none-asked, none-accepted, one-is, one-stops, one_more, as-it-is, grouped}
use Rattle.retype.proofs.Book.{book-retyped, book-begins}
use Rattle.in_parts.specs.Cut.{deciding_bytes}
use Rattle.in_parts.specs.Retype.{retyped_in, lines_in, bytes_after}
use Rattle.in_parts.proofs.Cut.{drop-take, more_cut, next-cut, range-next, ends, size-least, size_in}
use Rattle.in_parts.proofs.Cut.{entries-cut, accepted-few, accepted-short}

-- ---- some records, and then n more

module _ (a : Account) (xs : List ℕ) where
  one-account : (typed_by 1 a xs).account ≡ (next_of a xs).account
  one-account =
      by-test (ends a xs)
      (λ h. ap (λ (x : Retyping). x.account) (none-accepted 0 a xs (entries-end a xs (next_of a xs) refl h)))
      (λ h. ap (λ (x : Retyping). x.account) (one-is 0 a xs h))

  one-taken : (typed_by 1 a xs).more ≡ true → 6 ≤ (typed_by 1 a xs).taken
  one-taken m =
      by-test (ends a xs)
      (λ h. no_bool (sym (ap (λ (x : Retyping). x.more) (none-accepted 0 a xs (entries-end a xs (next_of a xs) refl h))) ∙ m))
      (λ h. rw (one-is 0 a xs h) (omega (arith, size_in a xs h, size-least a xs h)))

  one-range : AccountInRange a → AccountInRange (typed_by 1 a xs).account
  one-range v = rw one-account (range-next a xs v)

typed-range : (m : ℕ) (a : Account) (xs : List ℕ) → AccountInRange a → AccountInRange (typed_by m a xs).account
typed-range zero a xs v = rw (none-asked a xs) v
typed-range (suc m) a xs v =
    let x = typed_by 1 a xs in
    by-test x.more
    (λ t. rw (one_more m a xs t) (typed-range m x.account (drop x.taken xs) (one-range a xs v)))
    (λ t. rw (one-stops m a xs t) (one-range a xs v))

-- each record that is taken has six bytes at least
typed-taken : (m : ℕ) (a : Account) (xs : List ℕ) → (typed_by m a xs).more ≡ true → 6 * m ≤ (typed_by m a xs).taken
typed-taken zero a xs f = omega arith
typed-taken (suc m) a xs f =
    let x = typed_by 1 a xs in
    by-test x.more
    (λ t.
    let first = one_more m a xs t in
    let i = typed-taken m x.account (drop x.taken xs) (sym (ap (λ (y : Retyping). y.more) first) ∙ f) in
    rw first (omega (arith, i, one-taken a xs t)))
    (λ t. no_bool (sym t ∙ sym (ap (λ (y : Retyping). y.more) (one-stops m a xs t)) ∙ f))

pub retyped-taken : (m : ℕ) (a : Account) (xs : List ℕ) → (retyped_by m a xs).more ≡ true → 6 * m ≤ (retyped_by m a xs).taken
retyped-taken m a xs =
    of-choice (λ (x : Retyping). x.more ≡ true → 6 * m ≤ x.taken) (account_in_range a) (λ t. typed-taken m a xs) (λ t f. no_bool f)

-- there are no more
typed-end : (n m : ℕ) (a : Account) (xs : List ℕ) → (typed_by m a xs).more ≡ false → typed_by (m + n) a xs ≡ typed_by m a xs
typed-end n zero a xs f = no_bool (sym f ∙ ap (λ (x : Retyping). x.more) (none-asked a xs))
typed-end n (suc m) a xs f =
    let x = typed_by 1 a xs in
    let sum : suc m + n ≡ suc (m + n) = omega arith in
    by-test x.more
    (λ t.
    let first = one_more m a xs t in
    let others = typed-end n m x.account (drop x.taken xs) (sym (ap (λ (y : Retyping). y.more) first) ∙ f) in
    rw sum (one_more (m + n) a xs t) ∙ ap (and_then x) others ∙ sym first)
    (λ t. rw sum (one-stops (m + n) a xs t) ∙ sym (one-stops m a xs t))

-- there may be more
typed-on : (n m : ℕ) (a : Account) (xs : List ℕ) → (typed_by m a xs).more ≡ true
    → typed_by (m + n) a xs ≡ and_then (typed_by m a xs) (typed_by n (typed_by m a xs).account (drop (typed_by m a xs).taken xs))
typed-on n zero a xs f = let z : 0 + n ≡ n = omega arith in rw (none-asked a xs, z) (as-it-is a (typed_by n a xs))
typed-on n (suc m) a xs f =
    let x = typed_by 1 a xs in
    let sum : suc m + n ≡ suc (m + n) = omega arith in
    by-test x.more
    (λ t.
    let first = one_more m a xs t in
    let y = typed_by m x.account (drop x.taken xs) in
    let others = typed-on n m x.account (drop x.taken xs) (sym (ap (λ (y : Retyping). y.more) first) ∙ f) in
    let z = typed_by n y.account (drop (x.taken + y.taken) xs) in
    let rest : typed_by (m + n) x.account (drop x.taken xs) ≡ and_then y z = rw drop-drop at others in
    rw sum (one_more (m + n) a xs t) ∙ ap (and_then x) rest ∙ grouped x y z ∙ rw first refl)
    (λ t. no_bool (sym t ∙ sym (ap (λ (y : Retyping). y.more) (one-stops m a xs t)) ∙ f))

-- ---- a series of calls

series-is : (rooms : List ℕ) (a : Account) (xs : List ℕ) → AccountInRange a → retyped_in rooms a xs ≡ typed_by (lines_in rooms) a xs
unfolding retyped_in lines_in
series-is [] a xs v = sym (none-asked a xs)
series-is (room ∷ rooms) a xs v =
    let n = room / line_most in
    let x = typed_by n a xs in
    let others = series-is rooms x.account (drop x.taken xs) (typed-range n a xs v) in
    rw (in-range-test a v)
    (of-choice (λ (y : Retyping). y ≡ typed_by (n + lines_in rooms) a xs) x.more
    (λ t. ap (and_then x) others ∙ sym (typed-on (lines_in rooms) n a xs t))
    (λ t. sym (typed-end (lines_in rooms) n a xs t)))

-- The theorem: from an account in its ranges the account, the bytes taken, the text and whether there may be more are those of one call with room for
-- all these lines.
pub retyped-in-parts : (rooms : List ℕ) (a : Account) (xs : List ℕ) → AccountInRange a → retyped_in rooms a xs ≡ retyped_by (lines_in rooms) a xs
retyped-in-parts rooms a xs v = rw (in-range-test a v) (series-is rooms a xs v)

-- ---- one call more

goes : (x y : Retyping) → x.more ≡ true → pick x.more (and_then x y) x ≡ and_then x y
goes x y t = of-choice (λ (z : Retyping). z ≡ and_then x y) x.more (λ f. refl) (λ f. no_bool (sym f ∙ t))

stops : (x y : Retyping) → x.more ≡ false → pick x.more (and_then x y) x ≡ x
stops x y t = of-choice (λ (z : Retyping). z ≡ x) x.more (λ f. no_bool (sym t ∙ f)) (λ f. refl)

nothing-after : (a : Account) (n : ℕ) (text : List ℕ) (b : Bool) → b ≡ true
    → and_then (record { account = a; taken = n; text = text; more = b }) (nothing_yet_lem a) ≡ record { account = a; taken = n; text = text; more = b }
nothing-after a n text b e = rw (e, add-zero, append-nil) refl

-- after a series that may go on
pub series-on : (rooms : List ℕ) (room : ℕ) (a : Account) (xs : List ℕ) → (retyped_in rooms a xs).more ≡ true
    → retyped_in (rooms ++ (room ∷ [])) a xs
    ≡ and_then (retyped_in rooms a xs) (retyped_by (room / line_most) (retyped_in rooms a xs).account (drop (retyped_in rooms a xs).taken xs))
unfolding retyped_in
series-on [] room a xs e =
    let x = retyped_by (room / line_most) a xs in
    of-choice (λ (y : Retyping). y ≡ and_then (nothing_yet_lem a) x) x.more
    (λ t. nothing-after x.account x.taken x.text x.more t ∙ as-it-is a x) (λ t. as-it-is a x)
series-on (n ∷ rooms) room a xs e =
    let x = retyped_by (n / line_most) a xs in
    let ys = drop x.taken xs in
    let y = retyped_in rooms x.account ys in
    let more : Retyping → Bool = λ z. z.more in
    let one : Retyping → Retyping = λ z. retyped_by (room / line_most) z.account (drop z.taken xs) in
    by-test x.more
    (λ t.
    let others = rw drop-drop at (series-on rooms room x.account ys (sym (ap more (goes x y t)) ∙ e)) in
    goes x (retyped_in (rooms ++ (room ∷ [])) x.account ys) t ∙ ap (and_then x) others ∙ grouped x y (one (and_then x y))
    ∙ ap (λ (z : Retyping). and_then z (one z)) (sym (goes x y t)))
    (λ t. no_bool (sym t ∙ sym (ap more (stops x y t)) ∙ e))

-- ---- a whole book

module _ (rooms : List ℕ) (xs : List ℕ) where
  pub of-book : retyped_in rooms no_record xs ≡ typed_by (lines_in rooms) no_record xs
  of-book = series-is rooms no_record xs in-range-none

  -- a book has at most 4,096 records: where one line more has room, nothing more may come
  pub retyped-ends : 4096 < lines_in rooms → (retyped_in rooms no_record xs).more ≡ false
  unfolding typed_by
  retyped-ends h = rw of-book (lt-leb (lines_in rooms) (length (accepted_in xs)) (omega (arith, accepted-few no_record xs in-range-none)))

  module _ (e : (retyped_in rooms no_record xs).more ≡ false) where
    all-taken : take (lines_in rooms) (accepted_in xs) ≡ accepted_in xs
    unfolding typed_by
    all-taken =
        let t : leb (lines_in rooms) (length (accepted_in xs)) ≡ false = rw of-book at e in
        take_all (lines_in rooms) (accepted_in xs) (omega (arith, leb-false (lines_in rooms) (length (accepted_in xs)) t))

    -- the lines of its accepted records
    pub retyped-whole : (retyped_in rooms no_record xs).text ≡ text_typed (accepted_in xs)
    unfolding typed_by
    retyped-whole = rw of-book (ap text_typed all-taken)

    -- and typed again they give the bytes of these records
    pub retyped-back : Bytes xs → SameBytes no_record (accepted_in xs) (typed_whole no_record_yet (retyped_in rooms no_record xs).text)
    retyped-back b = rw retyped-whole (book-retyped xs b)

    -- with which the book begins: those that were taken
    pub retyped-begins : Bytes xs → (typed_whole no_record_yet (retyped_in rooms no_record xs).text).bytes ≡ take (retyped_in rooms no_record xs).taken xs
    unfolding typed_by
    retyped-begins b = rw (retyped-whole, of-book, all-taken) (book-begins xs b)

-- ---- what stands after the bytes that decide

some-short : (k : ℕ) (rs : List (List ℕ)) → length (joined (take k rs)) ≤ length (joined rs)
some-short zero rs = omega arith
some-short (suc k) [] = omega arith
some-short (suc k) (r ∷ rs) =
    omega (arith, some-short k rs, length-append r (joined (take k rs)), length-append r (joined rs))

module _ (k : ℕ) (a : Account) (n : ℕ) (xs : List ℕ) (v : AccountInRange a) (q : deciding_bytes a ≤ n) where
  taken-short : length (joined (take k (records_in (entries_after a xs)))) + record_most ≤ n
  taken-short = omega (arith, some-short k (records_in (entries_after a xs)), accepted-short a xs v, q)

  typed-cut : typed_by k a (take n xs) ≡ typed_by k a xs
  unfolding typed_by
  typed-cut =
      let rs = take k (records_in (entries_after a xs)) in
      let l = length (joined rs) in
      rw (
        entries-cut a n xs v q,
        drop-take l n xs,
        next-cut (n - l) (drop l xs) (omega (arith, taken-short)) (account_behind a rs),
      ) refl

module _ (rooms : List ℕ) (n : ℕ) (xs : List ℕ) (h : 114716 ≤ n) where
  -- The theorem: the text, the account, the bytes taken and whether there may be more are those of the whole input.
  pub retyped-cut : retyped_in rooms no_record (take n xs) ≡ retyped_in rooms no_record xs
  retyped-cut = of-book rooms (take n xs) ∙ typed-cut (lines_in rooms) no_record n xs in-range-none (omega arith) ∙ sym (of-book rooms xs)

  -- And so is whether bytes stand after those taken,
  pub behind-cut : bytes_after (retyped_in rooms no_record (take n xs)) (take n xs) ≡ bytes_after (retyped_in rooms no_record xs) xs
  unfolding typed_by
  behind-cut =
      rw (retyped-cut, of-book rooms xs)
      (more_cut (length (joined (take (lines_in rooms) (accepted_in xs)))) n xs
      (omega (arith, taken-short (lines_in rooms) no_record n xs in-range-none (omega arith))))

  -- and with it the last word and the status.
  pub last-word-cut : end_text (retyped_in rooms no_record (take n xs)).account (bytes_after (retyped_in rooms no_record (take n xs)) (take n xs))
      ≡ end_text (retyped_in rooms no_record xs).account (bytes_after (retyped_in rooms no_record xs) xs)
  last-word-cut = rw (behind-cut, retyped-cut) refl

  pub status-cut : (read written : Bool)
      → status_byte (retyped_in rooms no_record (take n xs)).account (bytes_after (retyped_in rooms no_record (take n xs)) (take n xs)) read written
      ≡ status_byte (retyped_in rooms no_record xs).account (bytes_after (retyped_in rooms no_record xs) xs) read written
  status-cut read written = rw (behind-cut, retyped-cut) refl
