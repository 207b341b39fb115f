-- A turn does what rule 2 gives for the bytes that it takes.
use Prim.Native.Nat.{ℕ, ◌+◌, ◌-◌, ◌≤◌, ◌<◌}
use mathlib.Core.Path.{◌≡◌, refl, ap, sym, ◌∙◌}
use mathlib.Core.List.{List, [], ◌++◌, append-nil}
use mathlib.Core.Bool.{true, false}
use mathlib.Core.Logic.{⊎_elim}
use native.Mathlib.Omega.{arith}
use lib.ListN.{length, take, drop, length-append, length-drop, drop_of_length-le, take-append-drop}
use lib.Seq.{length-take-le, take-take, take-length, take-append-add}
use Rattle.base.proofs.Tests.{lt-or-ge, no_bool}
use Rattle.codec.specs.Codec.{val_at}
use Rattle.account.specs.declared.Account.{Account}
use Rattle.account.specs.Account.{refused}
use Rattle.account.specs.Judge.{judge}
use Rattle.account.specs.Line.{joined}
use Rattle.account.proofs.Keeps.{in-range-length}
use Rattle.book.specs.declared.State.{State}
use Rattle.book.specs.declared.turns.Turn.{Turn}
use Rattle.book.specs.Front.{Front, unfinished, bad_length, whole, need, bad, front}
use Rattle.book.specs.State.{held_of, holding}
use Rattle.book.specs.Run.{outcome, book, run}
use Rattle.book.specs.Inner.{Gathered, Ran, Offered, Begins, Turned, left_by}
use Rattle.book.proofs.MovedBytes.{gathered-held, gathered-more, gathered-all}
use Rattle.book.proofs.Fronts.{meaning, good_length, is-unfinished, is-bad, length-take-two, held-bad, held_whole}
use Rattle.book.proofs.Ranges.{held-length, range-holding, range-idle}
use Rattle.book.proofs.Runs.{book-unfinished, book-bad}
use Rattle.book.proofs.RecordRuns.{book-one, nothing_yet}

-- ---- a turn over bytes that begin with those held

-- the first n bytes behind those held
abbrev pub Does : State → List ℕ → List ℕ → List ℕ → Turn → Type 0
Does s src out out' t = Turned (λ n. book s.account (take (s.count + n) src)) (length src - s.count) out out' t

module _ {s : State} {src : List ℕ} (b : Begins s src) where
  parts : held_of s ++ drop s.count src ≡ src
  parts = rw (← b.held) (take-append-drop s.count src)

  up_to : (n : ℕ) → s.count ≤ n → book s.account (take (s.count + (n - s.count)) src) ≡ book s.account (take n src)
  up_to n h = let k : s.count + (n - s.count) ≡ n = omega arith in ap (λ (m : ℕ). book s.account (take m src)) k

  pub bad-count : front src ≡ bad_length → s.count < 2
  bad-count e =
      let l = held-length s b.range in
      let h = held-bad (held_of s) (drop s.count src) b.range.begun (rw parts e) in
      omega arith

  pub whole-count : s.count < need src
  whole-count =
      let l = held-length s b.range in
      let h = held_whole (held_of s) (drop s.count src) b.range.begun in
      let q = ap need parts in
      omega arith

  -- the length is in, and where it is not bad a whole record stands there
  pub has-length : 2 ≤ length src
  has-length =
      ⊎_elim
      (λ (k : length src < 2). absurd (b.finished (is-unfinished src (λ q. absurd (omega arith)))))
      (λ (k : 2 ≤ length src). k)
      (lt-or-ge (length src) 2)

  pub is-record : bad src ≡ false → front src ≡ whole
  is-record g = go (front src) refl
    where
      go : (f : Front) → front src ≡ f → f ≡ whole
      go unfinished e = absurd (b.finished e)
      go bad_length e = no_bool (sym g ∙ (meaning src bad_length e).1)
      go whole e = refl

  turned-bad : {out : List ℕ} → front src ≡ bad_length → Does s src out out (left_by true s.account s.count src)
  turned-bad e =
      let m = meaning src bad_length e in
      let c = bad-count e in
      let l : length (take 2 src) ≡ 2 = length-take-le 2 src m.0 in
      let q : val_at (take 2 src) 0 2 ≡ val_at src 0 2 = length-take-two src 2 (omega arith) in
      let f : front (take 2 src) ≡ bad_length = is-bad (take 2 src) (rw l (omega arith), rw q m.1) in
      let d : drop 2 (take 2 src) ≡ [] = drop_of_length-le (take 2 src) {i = 2} (omega (arith, l)) in
      let k : book s.account (take 2 src) ≡ record { state = holding (refused s.account 1 0) []; lines = []; left = [] } =
      rw d at (book-bad s.account (take 2 src) b.early f) in
      record {
        range = range-idle (refused s.account 1 0) (in-range-length s.account b.range.account);
        inside = omega arith;
        long = refl;
        rest = refl;
        within = omega (arith, m.0);
        is = ap outcome (up_to 2 (omega arith) ∙ k);
        some = λ g. omega arith;
        full = λ g. no_bool g;
      }

  module _ {out out' : List ℕ} {a : Account} {at w : ℕ} (r : Ran s.account src out out' a at w) where
    pub turned-told : {s' : State} → 0 < at → s' ≡ holding a []
        → Does s src out out' (record { state = s'; taken = at - s.count; written = w; full = false })
    unfolding run
    turned-told k h =
        let y = r.reading in
        let c = whole-count in
        let l = r.least k in
        rw h
        (record {
          range = y.range;
          inside = omega (arith, y.fits, y.long);
          long = y.long;
          rest = y.rest;
          within = omega (arith, y.within);
          is = ap outcome (up_to at (omega arith)) ∙ y.so_far;
          some = λ g. omega arith;
          full = λ g. no_bool g;
        })

    turned-full : at ≡ 0 → front src ≡ whole → Does s src out out' (left_by false s.account s.count src)
    turned-full z e =
        let y = r.reading in
        let m = val_at src 0 2 + 1 in
        let c = whole-count in
        let o = meaning src whole e in
        let l : length (take m src) ≡ m = length-take-le m src (omega arith) in
        let q : val_at (take m src) 0 2 ≡ val_at src 0 2 = length-take-two src m (omega arith) in
        let u : front (take m src) ≡ unfinished = is-unfinished (take m src) (λ p. rw (q, l) (o.1, o.2, omega arith)) in
        let d : drop 0 out' ≡ drop 0 out = rw (nothing_yet y z).1 at y.rest in
        let i : s.count + (m - s.count + 1) ≡ need src = omega arith in
        let t : joined (book s.account (take (s.count + (m - s.count + 1)) src)).lines ≡ joined
        (judge s.account (take (need src) src)).lines =
        rw (i, book-one src (need src) e refl s.account b.range.account b.early, append-nil) in
        record {
          range = range-holding s.account (take m src) b.range.account b.early u;
          inside = omega arith;
          long = y.long;
          rest = d;
          within = omega arith;
          is = ap outcome (up_to m (omega arith) ∙ book-unfinished s.account (take m src) b.early u);
          some = λ g. no_bool (sym g);
          full = λ g. (omega arith, refl, rw t (r.none z e));
        }

    -- no record was judged
    pub turned_left : {t : Turn} → at ≡ 0 → t ≡ left_by (bad src) a s.count src → Does s src out out' t
    turned_left {t} z h = rw (h, ← (nothing_yet r.reading z).0) (go (front src) refl)
      where
        same : out' ≡ out
        same = let d : drop 0 out' ≡ drop 0 out = rw (nothing_yet r.reading z).1 at r.reading.rest in d

        go : (f : Front) → front src ≡ f → Does s src out out' (left_by (bad src) s.account s.count src)
        go unfinished e = absurd (b.finished e)
        go bad_length e = rw ((meaning src bad_length e).1, same) (turned-bad e)
        go whole e = let m = meaning src whole e in rw (good_length src m.1 m.2) (turned-full z e)

-- ---- a turn over what is gathered is a turn over the next bytes

module _ (s : State) (xs src : List ℕ) (m : ℕ) (h : m ≤ length xs) (is : src ≡ held_of s ++ take m xs) (held : length (held_of s) ≡ s.count)
    {out out' : List ℕ} {t : Turn} (a : Does s src out out' t) where
  most : length src - s.count ≡ m
  most = omega (arith, ap length is, length-append (held_of s) (take m xs), length-take-le m xs h, held)

  same : (n : ℕ) → n ≤ m → book s.account (take (s.count + n) src) ≡ run s (take n xs)
  unfolding run
  same n k =
      let p : take (s.count + n) (held_of s ++ take m xs) ≡ held_of s ++ take n xs =
      ap (λ (q : ℕ). take (q + n) (held_of s ++ take m xs)) (sym held)
      ∙ take-append-add (held_of s) (take m xs) n
      ∙ ap (λ (l : List ℕ). held_of s ++ l) (take-take n m xs k) in
      ap (λ (l : List ℕ). book s.account (take (s.count + n) l)) is ∙ ap (λ (l : List ℕ). book s.account l) p

  pub turned-run : Turned (λ n. run s (take n xs)) (length xs) out out' t
  turned-run =
      let k : t.taken ≤ m = omega (arith, a.within, most) in
      record {
        range = a.range;
        inside = a.inside;
        long = a.long;
        rest = a.rest;
        within = omega arith;
        is = rw (← same t.taken k) a.is;
        some = a.some;
        full = λ f. let o = a.full f in (omega (arith, o.0, most), o.1, rw (← same (t.taken + 1) (omega (arith, o.0, most))) o.2);
      }

-- ---- what a turn of a call works on: the input from i on, or what is gathered of it

module _ {s : State} {input : List ℕ} {i : ℕ} (o : Offered s input i) {src : List ℕ} where
  pub begins-idle : s.count ≡ 0 → src ≡ drop i input → Begins s src
  begins-idle z e =
      record {
        range = o.range;
        early = o.early;
        held = rw z;
        more = omega (arith, ap length e, length-drop i input, o.more);
        finished = λ u. o.finished (rw z (rw e at u));
      }

  pub turned-idle : {out out' : List ℕ} {t : Turn} → s.count ≡ 0 → src ≡ drop i input → Does s src out out' t
      → Turned (λ n. run s (take n (drop i input))) (length input - i) out out' t
  turned-idle z e a =
      let xs = drop i input in
      let h : held_of s ≡ [] = rw z in
      let k : held_of s ++ take (length xs) xs ≡ xs = rw (h, take-length xs) in
      rw (length-drop i input) at (turned-run s xs src (length xs) (omega arith) (e ∙ sym k) (ap length h ∙ sym z) a)

  module _ {rest rec : List ℕ} {n : ℕ} (e : rest ≡ drop i input) (g : Gathered (held_of s) rest rec n) (h : src ≡ take n rec) where
    pub begins-gathered : Begins s src
    begins-gathered =
        let l = held-length s o.range in
        record {
          range = o.range;
          early = o.early;
          held = gathered-held (held_of s) rest rec src n s.count g h l;
          more = gathered-more (held_of s) rest rec src n s.count g h l;
          finished = λ u. o.finished (rw (← e, ← gathered-all (held_of s) rest rec src n s.count g h l u) u);
        }

    pub turned-gathered : {out out' : List ℕ} {t : Turn} → Does s src out out' t
        → Turned (λ n. run s (take n (drop i input))) (length input - i) out out' t
    turned-gathered a =
        let g2 : Gathered (held_of s) (drop i input) rec n = rw e at g in
        rw (length-drop i input) at (turned-run s (drop i input) src (n - length (held_of s)) g2.inside (h ∙ g2.bytes)
        (held-length s o.range) a)
