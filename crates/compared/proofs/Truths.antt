-- What is told of two books is true. The records called the same are the same; the entries of a book are its accepted records and their lines by
-- rule 2; and a detail record that is the same in both, under the same heading, is never listed.
-- Assumes nothing.
use Prim.Native.Nat.{ℕ, zero, suc, ◌+◌, ◌-◌, ◌≤◌, ◌<◌}
use mathlib.Core.Path.{◌≡◌, refl, sym, ap, ◌∙◌}
use mathlib.Core.List.{List, [], ◌∷◌, ◌++◌, append_assoc, append-nil, head-eq_of_cons-eq}
use mathlib.Core.Bool.{Bool, true, false, ◌&&◌}
use mathlib.Core.Logic.{inl, ⊎_elim}
use native.Mathlib.Omega.{arith}
use borrow.Author.Tests.{eq-eqb, ne_eqb}
use lib.ListN.{length, take, drop, length-drop}
use Rattle.base.specs.Choice.{pick}
use Rattle.base.proofs.Tests.{lt-or-ge}
use Rattle.account.specs.declared.Account.{Account}
use Rattle.account.specs.declared.Heading.{Heading}
use Rattle.account.specs.declared.sort.Sort.TheVariants.{OfGroup}
use Rattle.account.specs.Sorts.{sort_of}
use Rattle.account.specs.Line.{joined, line_of}
use Rattle.account.specs.Range.{AccountInRange}
use Rattle.account.specs.Account.{no_record}
use Rattle.account.specs.Judge.{record_row, values_of, judge}
use Rattle.account.proofs.Keeps.{in-range-none, in-range-judge}
use Rattle.book.specs.Front.{Front, unfinished, bad_length, whole, need, front}
use Rattle.book.specs.WholeRecords.{records_of}
use Rattle.book.specs.State.{no_record_yet}
use Rattle.book.specs.Run.{book, run}
use Rattle.book.proofs.Fronts.{meaning}
use Rattle.book.proofs.WholeRecords.{records-whole}
use Rattle.book.proofs.Runs.{book-ended, book-unfinished, book-bad, book-whole}
use Rattle.promises.specs.Headings.{accepted_records}
use Rattle.promises.specs.Subtotals.{heading_after}
use Rattle.promises.specs.WholeLines.{is_detail, last_heading}
use Rattle.promises.specs.SameLine.{heading_before, Accepts, line_under}
use Rattle.promises.proofs.Headings.{Grown, Stopped, judged}
use Rattle.promises.proofs.WholeLines.{shaped, book_records}
use Rattle.promises.proofs.SameLine.{heading-is, gives_line, same_line}
use Rattle.why.proofs.Faults.{refused-is}
use Rattle.compare.specs.declared.runs.Counts.{Counts}
use Rattle.walk.specs.Walk.{Entry, entry_of, records_in, entries_from, entries_after, entries_of}
use Rattle.compare.specs.Records.{same}
use Rattle.compare.specs.Plans.{no_runs, one_more_lem, runs_from, runs_of, front_of}
use Rattle.walk.proofs.Walks.{records-none, entries-ended, entries-first, entries-refused}
use Rattle.compare.proofs.SameBytes.{same_true}
use Rattle.compare.proofs.Pairs.{runs-most}

-- ---- the records at the beginning

-- how many are the same, pair by pair
unfoldable first_same : List Entry → List Entry → ℕ
first_same [] ns = 0
first_same (e ∷ es) [] = 0
first_same (e ∷ es) (n ∷ ns) = pick (same e.bytes n.bytes) (suc (first_same es ns)) 0

-- once a pair has differed the count stays
pub stays : (u : Counts) (es ns : List Entry) → u.leading < u.pairs → (runs_from u es ns).leading ≡ u.leading
unfolding runs_from
stays u [] ns h = refl
stays u (e ∷ es) [] h = refl
stays u (e ∷ es) (n ∷ ns) h =
    let b = same e.bytes n.bytes in
    let v = one_more_lem u b (same e.lines n.lines) in
    let l : v.leading ≡ u.leading = rw (ne_eqb u.leading u.pairs (λ z. omega arith)) (kept b) in
    stays v es ns (omega (arith, l)) ∙ l
  where
    kept : (b : Bool) → pick (b && false) (u.leading + 1) u.leading ≡ u.leading
    kept true = refl
    kept false = refl

grows : (u : Counts) (es ns : List Entry) → u.leading ≡ u.pairs → (runs_from u es ns).leading ≡ u.leading + first_same es ns
unfolding runs_from first_same
grows u [] ns h = omega arith
grows u (e ∷ es) [] h = omega arith
grows u (e ∷ es) (n ∷ ns) h = go (λ v k. grows v es ns k) (same e.bytes n.bytes) refl
  where
    go : ((v : Counts) → v.leading ≡ v.pairs → (runs_from v es ns).leading ≡ v.leading + first_same es ns)
        → (b : Bool) → same e.bytes n.bytes ≡ b
        → (runs_from (one_more_lem u (same e.bytes n.bytes) (same e.lines n.lines)) es ns).leading
        ≡ u.leading + pick (same e.bytes n.bytes) (suc (first_same es ns)) 0
    go ih true q =
        let v = one_more_lem u true (same e.lines n.lines) in
        let l : v.leading ≡ u.leading + 1 = rw (eq-eqb _ _ h) refl in
        rw q (let i = ih v (omega (arith, l)) in omega (arith, i, l))
    go ih false q =
        let v = one_more_lem u false (same e.lines n.lines) in
        rw q (let i = stays v es ns (omega arith) in omega (arith, i))

first-same : (es ns : List Entry) → take (first_same es ns) (records_in es) ≡ take (first_same es ns) (records_in ns)
unfolding first_same records_in
first-same [] ns = refl
first-same (e ∷ es) [] = refl
first-same (e ∷ es) (n ∷ ns) = go (first-same es ns) (same e.bytes n.bytes) refl
  where
    go : take (first_same es ns) (records_in es) ≡ take (first_same es ns) (records_in ns) → (b : Bool) → same e.bytes n.bytes ≡ b
        → take (pick b (suc (first_same es ns)) 0) (e.bytes ∷ records_in es) ≡ take (pick b (suc (first_same es ns)) 0)
        (n.bytes ∷ records_in ns)
    go ih true q = rw (same_true e.bytes n.bytes q, ih) refl
    go ih false q = refl

-- The records called the same at the beginning are the same.
pub front_same : (es ns : List Entry) → take (front_of es ns) (records_in es) ≡ take (front_of es ns) (records_in ns)
front_same es ns =
    let f : front_of es ns ≡ first_same es ns = let g = grows no_runs es ns refl in omega (arith, g) in
    rw f (first-same es ns)

-- ---- the records at the end

-- of lists equally long, the last t are the same; all of them where t is above their length
record LastSame (es ns : List Entry) (t : ℕ) : Type 0 where
  inside : t ≤ length es → drop (length es - t) (records_in es) ≡ drop (length es - t) (records_in ns)
  above : length es < t → records_in es ≡ records_in ns

last-same : (u : Counts) (es ns : List Entry) → length es ≡ length ns → LastSame es ns (runs_from u es ns).trailing
unfolding runs_from records_in
last-same u [] [] l = record { inside = λ h. refl; above = λ h. refl }
last-same u [] (n ∷ ns) l = absurd (omega arith)
last-same u (e ∷ es) [] l = absurd (omega arith)
last-same u (e ∷ es) (n ∷ ns) l = go (λ v. last-same v es ns (omega (arith, l))) (same e.bytes n.bytes) refl
  where
    go : ((v : Counts) → LastSame es ns (runs_from v es ns).trailing) → (b : Bool) → same e.bytes n.bytes ≡ b
        → LastSame (e ∷ es) (n ∷ ns) (runs_from (one_more_lem u (same e.bytes n.bytes) (same e.lines n.lines)) es ns
        ).trailing
    go ih true q =
        let v = one_more_lem u (same e.bytes n.bytes) (same e.lines n.lines) in
        let t = (runs_from v es ns).trailing in
        let i = ih v in
        let s = same_true e.bytes n.bytes q in
        record {
          inside = λ h.
              ⊎_elim
              (λ (k : length es < t). let z : suc (length es) - t ≡ 0 = omega arith in rw (z, s, i.above k) refl)
              (λ (k : t ≤ length es). let z : suc (length es) - t ≡ suc (length es - t) = omega arith in rw z (i.inside k))
              (lt-or-ge (length es) t);
          above = λ h. rw (s, i.above (omega (arith, h))) refl;
        }
    go ih false q =
        let v = one_more_lem u (same e.bytes n.bytes) (same e.lines n.lines) in
        let t = (runs_from v es ns).trailing in
        let i = ih v in
        let z : v.trailing ≡ 0 = rw q refl in
        let m : t ≤ length es = let g = (runs-most v es ns (length es) (inl (omega arith))).trailing in omega (arith, g, z) in
        record {
          inside = λ h. let y : suc (length es) - t ≡ suc (length es - t) = omega arith in rw y (i.inside m);
          above = λ h. absurd (omega (arith, h, m));
        }

-- The records called the same at the end are the same, but for the count of a close: of two runs of entries that are equally long.
pub back-same : (es ns : List Entry) → length es ≡ length ns
    → drop (length es - (runs_of es ns).trailing) (records_in es) ≡ drop (length es - (runs_of es ns).trailing) (records_in ns)
back-same es ns l = (last-same no_runs es ns l).inside (let g = (runs-most no_runs es ns (length es) (inl (omega arith))).trailing in
    omega (arith, g))

-- ---- entries and rule 2

-- the bytes of the lines of entries, one after the other
unfoldable pub lines_in : List Entry → List ℕ
lines_in [] = []
lines_in (e ∷ es) = e.lines ++ lines_in es

-- x is the first entry of xs after a, and l are the others: a whole record that is accepted, with the lines that the rules give
pub record First (a : Account) (xs : List ℕ) (x : Entry) (l : List Entry) : Type 0 where
  pub early : a.stage < 2
  pub front : front xs ≡ whole
  pub bytes : x.bytes ≡ take (need xs) xs
  pub lines : x.lines ≡ joined (judge a (take (need xs) xs)).lines
  pub counted : (judge a (take (need xs) xs)).account.records ≡ a.records + 1
  pub rest : l ≡ entries_after (judge a (take (need xs) xs)).account (drop (need xs) xs)

-- there is none, and rule 2 accepts none and closes nothing; or there is a first
pub data Cases (a : Account) (xs : List ℕ) : Type 0 where
  none : entries_after a xs ≡ [] → (book a xs).state.account.records ≡ a.records → (book a xs).lines ≡ []
      → ((book a xs).state.account.stage ≡ 2 → 2 ≤ a.stage) → Cases a xs
  some : (x : Entry) (l : List Entry) → entries_after a xs ≡ x ∷ l → First a xs x l → Cases a xs

module _ (a : Account) (xs : List ℕ) (v : AccountInRange a) (early : a.stage < 2) (e : front xs ≡ whole) where
  abbrev r : List ℕ
  r = take (need xs) xs

  stopped : Stopped a (judge a r) → Cases a xs
  stopped s =
      let b = book-whole a xs early e in
      let d = book-ended (judge a r).account (drop (need xs) xs) (omega (arith, s.stage)) in
      none (ap (entries_from a) (records-whole xs e) ∙ entries-refused a r (records_of (drop (need xs) xs)) early s.stage) (rw (b, d) s.counted)
      (rw (b, d, s.none) refl) (rw (b, d) (λ q. absurd (omega (arith, q, s.stage))))

  grown-entry : Grown a r (judge a r) → entries_after a xs ≡ entry_of a r ∷ entries_after (judge a r).account (drop (need xs) xs)
  grown-entry g =
      let z : (judge a r).account.stage ≡ 3 → ⊥ = λ s.
      let q = ap (λ (b : Account). b.records) (refused-is a r early s) in
      absurd (omega (arith, q, g.counted)) in
      ap (entries_from a) (records-whole xs e) ∙ entries-first a r (records_of (drop (need xs) xs)) early z

  grown : Grown a r (judge a r) → Cases a xs
  grown g = some _ _ (grown-entry g) (record { early = early; front = e; bytes = refl; lines = refl; counted = g.counted; rest = refl })

entries-less : (a : Account) (xs : List ℕ) → (front xs ≡ whole → ⊥) → entries_after a xs ≡ []
unfolding entries_from
entries-less a xs n = rw (records-none xs n) refl

cases-at : (a : Account) (xs : List ℕ) → AccountInRange a → a.stage < 2 → (f : Front) → front xs ≡ f → Cases a xs
cases-at a xs v k unfinished e =
    let b = book-unfinished a xs k e in
    none (entries-less a xs (λ z. let q : ◌≡◌ {A = ℕ} 0 1 = cc in absurd (omega arith))) (rw b refl) (rw b refl)
    (rw b (λ q. absurd (omega (arith, q, k))))
cases-at a xs v k bad_length e =
    let b = book-bad a xs k e in
    none (entries-less a xs (λ z. let q : ◌≡◌ {A = ℕ} 0 1 = cc in absurd (omega arith))) (rw b refl) (rw b refl)
    (rw b (λ q. absurd (omega (arith, q))))
cases-at a xs v k whole e = ⊎_elim (stopped a xs v k e) (grown a xs v k e) (judged a (take (need xs) xs) v)

pub cases : (a : Account) (xs : List ℕ) → AccountInRange a → Cases a xs
cases a xs v =
    ⊎_elim (λ (k : a.stage < 2). cases-at a xs v k (front xs) refl)
    (λ (k : 2 ≤ a.stage). none (entries-ended a (records_of xs) k) (rw (book-ended a xs k) refl) (rw (book-ended a xs k) refl) (λ q. k))
    (lt-or-ge a.stage 2)

-- the entries are the records that rule 2 accepts, with its lines
record AsRun (a : Account) (xs : List ℕ) : Type 0 where
  grows : a.records ≤ (book a xs).state.account.records
  records : records_in (entries_after a xs) ≡ book_records a xs
  lines : lines_in (entries_after a xs) ≡ joined (book a xs).lines

joined-both : (ks ls : List (List ℕ)) → joined (ks ++ ls) ≡ joined ks ++ joined ls
joined-both [] ls = refl
joined-both (k ∷ ks) ls = rw (joined-both ks ls, append_assoc) refl

as-run-one : (a : Account) (xs : List ℕ) (x : Entry) (l : List Entry) → entries_after a xs ≡ x ∷ l → First a xs x l
    → AsRun (judge a (take (need xs) xs)).account (drop (need xs) xs) → AsRun a xs
unfolding records_in lines_in
as-run-one a xs x l e f i =
    let j = judge a (take (need xs) xs) in
    let b = book j.account (drop (need xs) xs) in
    let w = book-whole a xs f.early f.front in
    let n : b.state.account.records - a.records ≡ suc (b.state.account.records - j.account.records) = omega (arith, f.counted, i.grows) in
    record {
      grows = rw w (omega (arith, f.counted, i.grows));
      records = rw (e, w, n, records-whole xs f.front, f.bytes, f.rest, i.records) refl;
      lines = rw (e, w, f.lines, f.rest, i.lines) (sym (joined-both j.lines b.lines));
    }

as-run-none : (a : Account) (xs : List ℕ) → entries_after a xs ≡ [] → (book a xs).state.account.records ≡ a.records → (book a xs).lines ≡ []
    → AsRun a xs
unfolding records_in lines_in
as-run-none a xs e q l =
    let z : (book a xs).state.account.records - a.records ≡ 0 = omega (arith, q) in
    record { grows = omega (arith, q); records = rw (e, z) refl; lines = rw (e, l) refl }

as-run-by : (a : Account) (xs : List ℕ) → AccountInRange a → ((b : Account) (zs : List ℕ) → length zs < length xs → AccountInRange b → AsRun b zs)
    → Cases a xs → AsRun a xs
as-run-by a xs v ih (none e q l z) = as-run-none a xs e q l
as-run-by a xs v ih (some x l e f) =
    let m = meaning xs whole f.front in
    let short : length (drop (need xs) xs) < length xs = rw length-drop (omega (arith, m.0, m.1, m.3)) in
    as-run-one a xs x l e f (ih (judge a (take (need xs) xs)).account (drop (need xs) xs) short (in-range-judge a (take (need xs) xs) v f.early))

as-run : (n : ℕ) (a : Account) (xs : List ℕ) → length xs < n → AccountInRange a → AsRun a xs
as-run zero a xs h v = absurd (omega arith)
as-run (suc n) a xs h v = as-run-by a xs v (λ b zs p w. as-run n b zs (omega (arith, h, p)) w) (cases a xs v)

-- The entries of a book are the records that it accepts,
pub entries-accepted : (xs : List ℕ) → records_in (entries_of xs) ≡ accepted_records no_record_yet xs
unfolding run
entries-accepted xs = (as-run (suc (length xs)) no_record xs (omega arith) in-range-none).records

-- and their lines, one after the other, are those that rule 2 gives for it.
pub entries-lines : (xs : List ℕ) → lines_in (entries_of xs) ≡ joined (run no_record_yet xs).lines
unfolding run
entries-lines xs = (as-run (suc (length xs)) no_record xs (omega arith) in-range-none).lines

-- ---- what is never listed

pub records-both : (es ns : List Entry) → records_in (es ++ ns) ≡ records_in es ++ records_in ns
unfolding records_in
records-both [] ns = refl
records-both (e ∷ es) ns = rw (records-both es ns) refl

first_of : (a : Account) (xs : List ℕ) (x : Entry) (l : List Entry) → AccountInRange a → entries_after a xs ≡ x ∷ l → First a xs x l
first_of a xs x l v q = go (cases a xs v)
  where
    go : Cases a xs → First a xs x l
    go (none e n m w) = let z = ap length (sym q ∙ e) in absurd (omega (arith, z))
    go (some y k e f) =
        let d : y ∷ k ≡ x ∷ l = sym e ∙ q in
        rw (← head-eq_of_cons-eq d, ← ap (λ (t : List Entry). drop 1 t) d) f

entry-line : (pre post : List Entry) (x : Entry) (a : Account) (xs : List ℕ) → AccountInRange a → is_detail x.bytes ≡ true
    → entries_after a xs ≡ pre ++ (x ∷ post)
    → x.lines ≡ line_of (last_heading a.heading (records_in pre)) (record_row x.bytes) (values_of x.bytes)
unfolding records_in last_heading
entry-line [] post x a xs v d q =
    let f = first_of a xs x post v q in
    let s = shaped a x.bytes (rw (← f.bytes) at f.counted) in
    f.lines ∙ ap (λ (r : List ℕ). joined (judge a r).lines) (sym f.bytes)
    ∙ rw (s.detail d) (append-nil (line_of a.heading (record_row x.bytes) (values_of x.bytes)))
entry-line (p ∷ pre) post x a xs v d q =
    let f = first_of a xs p (pre ++ (x ∷ post)) v q in
    let r = take (need xs) xs in
    let s = shaped a r f.counted in
    let i = entry-line pre post x (judge a r).account (drop (need xs) xs) (in-range-judge a r v f.early) d (sym f.rest) in
    i ∙ ap (λ (h : Heading). line_of (last_heading h (records_in pre)) (record_row x.bytes) (values_of x.bytes))
    (s.heading ∙ ap (heading_after a.heading) (sym f.bytes))

accepts-entry : (xs : List ℕ) (pre post : List Entry) (x : Entry) → entries_of xs ≡ pre ++ (x ∷ post) → Accepts xs (records_in pre) x.bytes
unfolding records_in
accepts-entry xs pre post x q = record { after = records_in post; records = sym (entries-accepted xs) ∙ rw q (records-both pre (x ∷ post)) }

own_line : (xs : List ℕ) (pre post : List Entry) (x : Entry) → entries_of xs ≡ pre ++ (x ∷ post) → is_detail x.bytes ≡ true
    → x.lines ≡ line_under (heading_before (records_in pre)) x.bytes
own_line xs pre post x q d =
    entry-line pre post x no_record xs in-range-none d q
    ∙ ap (λ (h : Heading). line_of h (record_row x.bytes) (values_of x.bytes)) (heading-is (records_in pre))

-- A detail record that is the same in both books, with the same heading record before it where it is a detail of the group, gives the same line in
-- both: it is never counted as one that gives other lines. By same_line.
pub unchanged-unlisted : (old new : List ℕ) (pre post pre' post' : List Entry) (e n : Entry)
    → entries_of old ≡ pre ++ (e ∷ post) → entries_of new ≡ pre' ++ (n ∷ post') → e.bytes ≡ n.bytes → is_detail e.bytes ≡ true
    → (sort_of (record_row e.bytes) ≡ OfGroup → heading_before (records_in pre) ≡ heading_before (records_in pre'))
    → e.lines ≡ n.lines
unchanged-unlisted old new pre post pre' post' e n p q r d h =
    let a = accepts-entry old pre post e p in
    let b : Accepts new (records_in pre') e.bytes = rw r (accepts-entry new pre' post' n q) in
    let l = own_line old pre post e p d in
    let m : n.lines ≡ line_under (heading_before (records_in pre')) e.bytes = rw r (own_line new pre' post' n q (rw r at d)) in
    let s =
    same_line old new (records_in pre) (records_in pre') e.bytes _ _ a b d h (gives_line old (records_in pre) e.bytes a d)
    (gives_line new (records_in pre') e.bytes b d) in
    l ∙ s ∙ sym m
