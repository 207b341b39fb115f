-- A run of whole records does what rule 2 gives for their bytes.
use Prim.Native.Nat.{ℕ, ◌+◌, ◌-◌, ◌≤◌, ◌<◌}
use mathlib.Core.Path.{◌≡◌, ap, sym, ◌∙◌}
use mathlib.Core.List.{List, [], ◌++◌, append-nil}
use mathlib.Core.Logic.{⊎_elim}
use native.Mathlib.Omega.{arith}
use lib.ListN.{length, take, drop, length-drop, drop_of_length-le}
use lib.Seq.{paste, length-take-le, take_all}
use Rattle.base.proofs.Tests.{lt-or-ge}
use Rattle.codec.specs.Codec.{val_at}
use Rattle.account.specs.declared.Account.{Account}
use Rattle.account.specs.declared.Judged.{Judged}
use Rattle.account.specs.Range.{AccountInRange}
use Rattle.account.specs.Judge.{WholeRecord, judge}
use Rattle.account.specs.Line.{joined, bytes_of}
use Rattle.account.specs.Told.{Tells, TellsIn}
use Rattle.account.proofs.Told.{tells-fit, account-kept, lines_long}
use Rattle.account.proofs.Keeps.{in-range-judge}
use Rattle.book.specs.Front.{whole, need, front}
use Rattle.book.specs.State.{holding}
use Rattle.book.specs.Run.{Outcome, outcome, book, run}
use Rattle.book.specs.WholeRecords.{Ready}
use Rattle.book.specs.Inner.{Reading, Ran}
use Rattle.book.proofs.Fronts.{meaning, is-whole, length-take-two}
use Rattle.book.proofs.Ranges.{range-idle}
use Rattle.book.proofs.Runs.{book-whole, book-none, run_none}
use Rattle.book.proofs.Readings.{reading-none, read-line}

-- ---- one record: the first n of xs

module _ (xs : List ℕ) (n : ℕ) (e : front xs ≡ whole) (k : n ≡ need xs) where
  pub record-in : n ≤ length xs
  record-in = let m = meaning xs whole e in omega arith

  record-long : length (take n xs) ≡ n
  record-long = length-take-le n xs record-in

  record-length : val_at (take n xs) 0 2 ≡ val_at xs 0 2
  record-length = length-take-two xs n (omega arith)

  pub record-whole : WholeRecord (take n xs)
  record-whole =
      let m = meaning xs whole e in
      record { long = rw (record-long, record-length) k; low = rw record-length m.1; high = rw record-length m.2 }

  record-front : front (take n xs) ≡ whole
  record-front = let m = meaning xs whole e in is-whole (take n xs) (rw (record-length, record-long) (omega arith, m.1, m.2, omega arith))

  pub book-one : (a : Account) → AccountInRange a → a.stage < 2
      → book a (take n xs) ≡ record { state = holding (judge a (take n xs)).account []; lines = (judge a (take n xs)).lines ++ []; left = [] }
  book-one a v early =
      let zs = take n xs in
      let d : drop (need zs) zs ≡ [] = drop_of_length-le zs {i = need zs} (omega (arith, record-length, record-long)) in
      book-whole a zs early record-front
      ∙ rw (take_all (need zs) zs (omega (arith, record-length, record-long)), d, book-none (judge a zs).account (in-range-judge a zs v early))

  pub outcome-one : (a : Account) (j : Judged) → AccountInRange a → a.stage < 2 → Tells (judge a (take n xs)) j
      → outcome (book a (take n xs)) ≡ record { state = holding j.account []; bytes = bytes_of j; left = [] }
  outcome-one a j v early t = rw (book-one a v early, append-nil, t.bytes, t.account)

-- ---- the records of src, one after the other

-- what a loop over them has done
pub record Running (a₀ : Account) (src out₀ out : List ℕ) (a : Account) (at w : ℕ) : Type 0 where
  pub reading : Reading src out₀ (holding a₀ []) out (holding a []) at w
  pub least : 0 < at → need src ≤ at

pub running_none : (a : Account) (src out : List ℕ) → AccountInRange a → Running a src out out a 0 0
running_none a src out v = record { reading = reading-none src out (holding a []) (range-idle a v); least = λ h. absurd (omega arith) }

-- with nothing read all is as it was
pub nothing_yet : {a₀ : Account} {src out₀ out : List ℕ} {a : Account} {at w : ℕ} → Reading src out₀ (holding a₀ []) out (holding a []) at w → at ≡ 0
    → (a₀ ≡ a) × (w ≡ 0)
nothing_yet {a₀} {src} {out₀} {out} {a} {at} {w} r z =
    let s : outcome (run (holding a₀ []) []) ≡ record { state = holding a []; bytes = take w out; left = [] } = rw z at r.so_far in
    let q : outcome (record { state = holding a₀ []; lines = []; left = [] }) ≡ record { state = holding a []; bytes = take w out; left = [] } =
    sym (ap outcome (run_none (holding a₀ []) r.first)) ∙ s in
    let l : 0 ≡ length (take w out) = ap (λ (o : Outcome). length o.bytes) q in
    (ap (λ (o : Outcome). o.state.account) q, omega (arith, l, length-take-le w out r.fits))

module _ {a₀ : Account} {src out₀ out : List ℕ} {a : Account} {at w : ℕ} (early : a₀.stage < 2) (r : Running a₀ src out₀ out a at w) where
  -- the book is closed or refused
  pub ran-ended : 2 ≤ a.stage → Ran a₀ src out₀ out a at w
  ran-ended h =
      record {
        reading = r.reading;
        least = r.least;
        none = λ z e. let q = ap (λ (b : Account). b.stage) (nothing_yet r.reading z).0 in absurd (omega arith);
      }

  -- all bytes are read
  pub ran-end : length src ≤ at → Ran a₀ src out₀ out a at w
  ran-end h = record { reading = r.reading; least = r.least; none = λ z e. let m = meaning src whole e in absurd (omega (arith, m.0)) }

  -- no whole record is there
  pub ran_out : {n : ℕ} → Ready (drop at src) n → n ≡ 0 → Ran a₀ src out₀ out a at w
  ran_out y k =
      record { reading = r.reading; least = r.least; none = λ z e. let f : front (drop at src) ≡ whole = rw z e in absurd (y.none k f) }

-- one more record lies at the front of what is left, and j tells what it does
pub record Next (a₀ : Account) (src out₀ out : List ℕ) (a : Account) (at w n : ℕ) (j : Judged) : Type 0 where
  pub running : Running a₀ src out₀ out a at w
  pub still : a.stage < 2
  pub ready : Ready (drop at src) n
  pub some : 0 < n
  pub tells : TellsIn (length out - w) a (judge a (take n (drop at src))) j

module _ {a₀ : Account} {src out₀ out : List ℕ} {a : Account} {at w n : ℕ} {j : Judged} (x : Next a₀ src out₀ out a at w n j) where
  reading : Reading src out₀ (holding a₀ []) out (holding a []) at w
  reading = x.running.reading

  is-record : (front (drop at src) ≡ whole) × (n ≡ need (drop at src))
  is-record = x.ready.some x.some

  pub record-inside : at + n ≤ length src
  record-inside = let i = record-in (drop at src) n is-record.0 is-record.1 in omega (arith, i, length-drop at src, reading.within)

  -- the first record is that at the front of src
  first-need : at ≡ 0 → n ≡ need src
  first-need z = let d : drop at src ≡ src = rw z in rw d at is-record.1

  -- its lines do not fit
  pub ran-full : length out - w < j.line.given → Ran a₀ src out₀ out j.account at w
  ran-full f =
      rw (account-kept x.tells f)
      (record {
        reading = reading;
        least = x.running.least;
        none = λ z e.
            let q = nothing_yet reading z in
            let c : judge a (take n (drop at src)) ≡ judge a₀ (take (need src) src) = rw (q.0, z, ← first-need z) in
            let g : length (joined (judge a₀ (take (need src) src)).lines) ≡ j.line.given = rw (← c) (lines_long x.tells) in
            omega (arith, g, q.1, f, reading.long);
      })

  -- its line is written
  pub running-on : {out' : List ℕ} → j.line.given ≤ length out - w → out' ≡ paste out w (bytes_of j) j.line.given
      → Running a₀ src out₀ out' j.account (at + n) (w + j.line.given)
  unfolding run
  running-on f p =
      let t = tells-fit x.tells f in
      let ranged = reading.range.account in
      record {
        reading =
            read-line reading (bytes_of j) j.line.given p (omega (arith, reading.fits, f)) t.long (holding j.account []) n record-inside
            (range-idle j.account (rw t.account (in-range-judge a (take n (drop at src)) ranged x.still)))
            (outcome-one (drop at src) n is-record.0 is-record.1 a j ranged x.still t);
        least = λ h.
            ⊎_elim (λ (g : 0 < at). let l = x.running.least g in omega arith)
            (λ (g : at ≤ 0). let m = first-need (omega arith) in omega arith)
            (lt-or-ge 0 at);
      }
