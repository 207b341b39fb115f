-- What a loop has read: where it begins, how a line and a turn take it on.
use Prim.Native.Nat.{ℕ, ◌+◌, ◌-◌, ◌≤◌, ◌<◌}
use mathlib.Core.Path.{◌≡◌, refl, ap, sym, ◌∙◌}
use mathlib.Core.List.{List, [], ◌++◌, append-nil}
use mathlib.Core.Bool.{true}
use native.Mathlib.Nat.{add-zero}
use native.Mathlib.Omega.{arith}
use borrow.Rule.Slice.PartMut.{put_mid}
use lib.ListN.{length, take, drop, length-append, length-drop, drop_of_length-le}
use lib.Seq.{paste, take-paste, drop-paste, length-paste, length-take-le, take-append-add, take-add, take_all, drop-drop, drop-append-add}
use Rattle.account.specs.Line.{joined}
use Rattle.book.specs.declared.State.{State}
use Rattle.book.specs.declared.turns.Turn.{Turn}
use Rattle.book.specs.Front.{unfinished, front}
use Rattle.book.specs.State.{held_of, holding, InRange}
use Rattle.book.specs.Run.{Outcome, outcome, run}
use Rattle.book.specs.Inner.{Reading, Turned}
use Rattle.book.proofs.Ranges.{range-holding}
use Rattle.book.proofs.Runs.{book-unfinished, run_none}
use Rattle.book.proofs.Outcomes.{outcome-append}

pub reading-none : (input out : List ℕ) (s : State) → InRange s → Reading input out s out s 0 0
reading-none input out s v =
    record { within = omega arith; fits = omega arith; long = refl; first = v; range = v; rest = refl; so_far = rw (run_none s v) }

-- k bytes more
pub reads_on : {input out₀ : List ℕ} {s₀ : State} {out : List ℕ} {s : State} {i w : ℕ} → Reading input out₀ s₀ out s i w → (k : ℕ) (o : Outcome)
    → outcome (run s (take k (drop i input))) ≡ o
    → outcome (run s₀ (take (i + k) input)) ≡ record { state = o.state; bytes = take w out ++ o.bytes; left = o.left }
reads_on {input} {out₀} {s₀} {out} {s} {i} {w} r k o e =
    rw (take-add i k input, ← e) (outcome-append s₀ (take i input) (take k (drop i input)) (record { state = s; bytes = take w out; left = [] })
    r.so_far)

-- so many bytes more are read, and the buffer goes on with the lines so far, those of these bytes, and what stood behind them
pub reading-on : {input out₀ : List ℕ} {s₀ : State} {out : List ℕ} {s : State} {i w : ℕ} → Reading input out₀ s₀ out s i w
    → {out' : List ℕ} (s' : State) (n len : ℕ) (bytes : List ℕ) → i + n ≤ length input → w + len ≤ length out → InRange s' → length out' ≡ length out
    → take (w + len) out' ≡ take w out ++ bytes → drop (w + len) out' ≡ drop len (drop w out)
    → outcome (run s (take n (drop i input))) ≡ record { state = s'; bytes = bytes; left = [] } → Reading input out₀ s₀ out' s' (i + n) (w + len)
reading-on {input} {out₀} {s₀} {out} {s} {i} {w} r {out'} s' n len bytes inside room v same front behind e =
    record {
      within = inside;
      fits = omega arith;
      long = same ∙ r.long;
      first = r.first;
      range = v;
      rest = behind ∙ ap (λ (l : List ℕ). drop len l) r.rest ∙ drop-drop len w out₀;
      so_far = rw front (reads_on r n (record { state = s'; bytes = bytes; left = [] }) e);
    }

-- a line of len bytes is put at w
pub read-line : {input out₀ : List ℕ} {s₀ : State} {out : List ℕ} {s : State} {i w : ℕ} → Reading input out₀ s₀ out s i w
    → (line : List ℕ) (len : ℕ) {out' : List ℕ} → out' ≡ paste out w line len → w + len ≤ length out → length line ≡ len
    → (s' : State) (n : ℕ) → i + n ≤ length input → InRange s'
    → outcome (run s (take n (drop i input))) ≡ record { state = s'; bytes = line; left = [] } → Reading input out₀ s₀ out' s' (i + n) (w + len)
read-line {out = out} {w = w} r line len put room full s' n inside v e =
    let taken : take (w + len) (paste out w line len) ≡ take w out ++ line =
    take-paste out w line len r.fits (omega arith) ∙ ap (λ (l : List ℕ). take w out ++ l) (take_all len line (omega arith)) in
    reading-on r s' n len line inside room v (rw put (length-paste out w line len room (omega arith))) (rw put taken)
    (rw put (drop-paste out w line len r.fits (omega arith) ∙ sym (drop-drop len w out))) e

-- all bytes from i on leave the record unfinished, and are held
pub read-rest : {input out₀ : List ℕ} {s₀ : State} {out : List ℕ} {s : State} {i w : ℕ} → Reading input out₀ s₀ out s i w
    → s.account.stage < 2 → front (held_of s ++ drop i input) ≡ unfinished
    → Reading input out₀ s₀ out (holding s.account (held_of s ++ drop i input)) (length input) w
unfolding run
read-rest {input} {out₀} {s₀} {out} {s} {i} {w} r early e =
    let xs = held_of s ++ drop i input in
    let s' = holding s.account xs in
    let n : i + (length input - i) ≡ length input = omega (arith, r.within) in
    let all : take (length input - i) (drop i input) ≡ drop i input = take_all (length input - i) (drop i input) (rw length-drop (omega arith)) in
    let q : Reading input out₀ s₀ out s' (i + (length input - i)) (w + 0) =
    reading-on r s' (length input - i) 0 [] (omega arith) (omega (arith, r.fits)) (range-holding s.account xs r.range.account early e) refl
    (rw (add-zero, append-nil)) (rw add-zero) (rw all (ap outcome (book-unfinished s.account xs early e))) in
    rw (n, add-zero) at q

-- ---- a turn, with its lines in the part of the buffer from w on, which is lent and given back

module _ {input out₀ : List ℕ} {s₀ : State} {out : List ℕ} {s : State} {i w : ℕ} (r : Reading input out₀ s₀ out s i w)
    {t : Turn} {sub : List ℕ} (lent : Turned (λ n. run s (take n (drop i input))) (length input - i) (take (length out - w) (drop w out)) sub t) where
  part : Turned (λ n. run s (take n (drop i input))) (length input - i) (drop w out) sub t
  part = let e : take (length out - w) (drop w out) ≡ drop w out = take_all (length out - w) (drop w out) (rw length-drop (omega arith)) in
      rw e at lent

  back : put_mid w (length out - w) out sub ≡ take w out ++ sub
  back =
      let f = r.fits in
      let e : drop (length out - w) (drop w out) ≡ [] = drop_of_length-le (drop w out) {i = length out - w} (rw length-drop (omega arith)) in
      rw (e, append-nil)

  lines-before : length (take w out) ≡ w
  lines-before = length-take-le w out r.fits

  pub taken-inside : i + t.taken ≤ length input
  taken-inside = omega (arith, part.within, r.within)

  pub written-inside : w + t.written ≤ length out
  written-inside = omega (arith, part.inside, length-drop w out, r.fits)

  pub read-turn : Reading input out₀ s₀ (put_mid w (length out - w) out sub) t.state (i + t.taken) (w + t.written)
  read-turn =
      reading-on r t.state t.taken t.written (take t.written sub) taken-inside written-inside part.range
      (rw back (omega (arith, length-append (take w out) sub, lines-before, part.long, length-drop w out, r.fits)))
      (rw back (rw lines-before at (take-append-add (take w out) sub t.written)))
      (rw back ((rw lines-before at (drop-append-add (take w out) sub t.written)) ∙ part.rest))
      part.is

  module _ (e : t.full ≡ true) where
    pub full-inside : i + t.taken < length input
    full-inside = let o = part.full e in omega (arith, o.0, r.within)

    pub full-more : length out₀ < length (joined (run s₀ (take (i + t.taken + 1) input)).lines)
    full-more =
        let o = part.full e in
        let q = run s (take (t.taken + 1) (drop i input)) in
        let k : i + (t.taken + 1) ≡ i + t.taken + 1 = omega arith in
        let b : joined (run s₀ (take (i + t.taken + 1) input)).lines ≡ take w out ++ joined q.lines =
        rw k at (ap (λ (o : Outcome). o.bytes) (reads_on r (t.taken + 1) (outcome q) refl)) in
        omega (arith, ap length b, length-append (take w out) (joined q.lines), lines-before, o.2, length-drop w out, r.long, r.fits)
