-- Laws of the bench's calls: where they begin, how one takes them on, and where they end.
-- Assumes nothing.
use Prim.Native.Nat.{ℕ, zero, suc, ◌+◌, ◌-◌, ◌*◌, ◌%◌, ◌≤◌, ◌<◌, min}
use mathlib.Core.Path.{◌≡◌, refl, ap, sym, subst, ◌∙◌}
use mathlib.Core.Bool.{Bool, true, false, ◌||◌, not}
use mathlib.Core.List.{List, [], ◌++◌, append_assoc, append-nil}
use mathlib.Core.Logic.{⊎_elim}
use native.Mathlib.Omega.{arith}
use borrow.Author.Tests.{eq-eqb, ne_eqb, eqb-true, eqb-false}
use borrow.Rule.Slice.PartMut.{put_mid}
use lib.ListN.{length, take, drop, length-append, length-drop, drop_of_length-le}
use lib.Seq.{take_all, drop-drop, take-append_seam, drop-append_seam}
use lib.Dec.{eqb}
use Rattle.base.specs.Choice.{pick}
use Rattle.base.proofs.Slices.{to_end}
use Rattle.base.proofs.Tests.{true-or-false, lt-or-ge}
use Rattle.book.specs.declared.State.{State}
use Rattle.book.specs.declared.Fed.{Fed}
use Rattle.book.specs.State.{no_record_yet}
use Rattle.book.specs.Call.{Call, call, fed_of, lines_laid}
use Rattle.benchdesk.specs.Bench.{bench_code, and_then, last, bench_by, benched, number_of, laid_by}

-- the first bytes, at most p of them
pub take-least : (p : ℕ) (xs : List ℕ) → take (min p (length xs)) xs ≡ take p xs
take-least p xs =
    ⊎_elim (λ (h : p < length xs). let e : min p (length xs) ≡ p = omega arith in rw e refl)
    (λ (h : length xs ≤ p). let e : min p (length xs) ≡ length xs = omega arith in
    rw e (take_all (length xs) xs (omega arith) ∙ sym (take_all p xs h)))
    (lt-or-ge p (length xs))

-- a call over them
pub fed-part : (s : State) (rest : List ℕ) (part n room : ℕ) (out : List ℕ) {f : Fed} {out' : List ℕ} → n ≡ min part (length rest)
    → f ≡ fed_of (call s (take n rest) room) → out' ≡ lines_laid (call s (take n rest) room) out
    → (f ≡ fed_of (call s (take part rest) room)) × (out' ≡ lines_laid (call s (take part rest) room) out)
fed-part s rest part n room out e p q =
    let d : take n rest ≡ take part rest = ap (λ (k : ℕ). take k rest) e ∙ take-least part rest in
    (p ∙ ap (λ (xs : List ℕ). fed_of (call s xs room)) d, q ∙ ap (λ (xs : List ℕ). lines_laid (call s xs room) out) d)

-- all is taken, by the bytes taken so far or by those left
all-taken : (i t n : ℕ) → i ≤ n → eqb (i + t) n ≡ eqb t (n - i)
all-taken i t n h =
    ⊎_elim (λ (e : eqb t (n - i) ≡ true). let d = eqb-true t (n - i) e in rw e (eq-eqb (i + t) n (omega arith)))
    (λ (e : eqb t (n - i) ≡ false). let d = eqb-false t (n - i) e in rw e (ne_eqb (i + t) n (λ q. d (omega arith))))
    (true-or-false (eqb t (n - i)))

-- the calls, by the first of them
by_first : (n : ℕ) (s : State) (xs : List ℕ) (part room : ℕ) (c : Call) → c ≡ call s (take part xs) room → 0 < n
    → bench_by n s xs part room
    ≡ pick (last c xs) (record { code = bench_code c.answer; bytes = c.bytes })
    (and_then c.bytes (bench_by (n - 1) c.state (drop c.taken xs) part (room - length c.bytes)))
unfolding bench_by
by_first zero s xs part room c e h = absurd (omega arith)
by_first (suc n) s xs part room c e h = let d : suc n - 1 ≡ n = omega arith in rw (d, e) refl

-- up to i bytes of the book are taken and w bytes written; n calls more make the whole
pub record Going (book lines₀ : List ℕ) (part : ℕ) (lines : List ℕ) (s : State) (i w n : ℕ) : Type 0 where
  pub inside : i ≤ length book
  pub fits : w ≤ length lines
  pub long : length lines ≡ length lines₀
  pub so : List ℕ
  pub wrote : length so ≡ w
  pub laid : lines ≡ so ++ drop w lines₀
  pub on : benched book part (length lines₀) ≡ and_then so (bench_by n s (drop i book) part (length lines₀ - w))

pub going-none : (book lines : List ℕ) (part : ℕ) (s : State) → s ≡ no_record_yet → Going book lines part lines s 0 0 (length book)
going-none book lines part s e =
    let r : length lines - 0 ≡ length lines = omega arith in
    record { inside = omega arith; fits = omega arith; long = refl; so = []; wrote = refl; laid = refl; on = rw (r, e) refl }

-- the calls that are left, in other words
pub next_call : {book lines₀ : List ℕ} {part : ℕ} {lines : List ℕ} {s : State} {i w m n : ℕ} → Going book lines₀ part lines s i w m → m ≡ n
    → Going book lines₀ part lines s i w n
next_call {book} {lines₀} {part} {lines} {s} {i} {w} g e = subst (λ k. Going book lines₀ part lines s i w k) e g

-- what the function gives: its number and its buffer
abbrev pub Gives : List ℕ → List ℕ → ℕ → List ℕ → ℕ → Type 0
Gives book lines₀ part lines r = (r ≡ number_of (benched book part (length lines₀))) × (lines ≡ laid_by (benched book part (length lines₀)) lines₀)

-- by the bench that it is
gives-by : (book lines₀ : List ℕ) (part : ℕ) (lines : List ℕ) (r code w : ℕ) (bytes : List ℕ)
    → benched book part (length lines₀) ≡ record { code = code; bytes = bytes }
    → length bytes ≡ w → lines ≡ bytes ++ drop w lines₀ → r ≡ code * 4294967296 + w % 4294967296 → Gives book lines₀ part lines r
gives-by book lines₀ part lines r code w bytes e l d m = rw (e, l) (m, d)

module _ {book lines₀ : List ℕ} {part : ℕ} {lines : List ℕ} {s : State} {i w n : ℕ} (g : Going book lines₀ part lines s i w n) where
  -- no call is left
  pub going-ends : n ≡ 0 → {r : ℕ} → r ≡ 17 * 4294967296 + w % 4294967296 → Gives book lines₀ part lines r
  unfolding bench_by
  going-ends z {r} m = gives-by book lines₀ part lines r 17 w g.so ((rw z at g.on) ∙ rw append-nil refl) g.wrote g.laid m

  take-so : take w lines ≡ g.so
  take-so = ap (λ (k : ℕ). take k lines) (sym g.wrote) ∙ ap (take (length g.so)) g.laid ∙ take-append_seam g.so (drop w lines₀)

  drop-so : drop w lines ≡ drop w lines₀
  drop-so = ap (λ (k : ℕ). drop k lines) (sym g.wrote) ∙ ap (drop (length g.so)) g.laid ∙ drop-append_seam g.so (drop w lines₀)

  same-room : length (take (length lines - w) (drop w lines)) ≡ length lines₀ - w
  same-room = ap length (to_end lines w) ∙ length-drop w lines ∙ ap (λ (k : ℕ). k - w) g.long

  -- one call, with its lines in the part of the buffer from w on, which is lent and given back
  module _ (more : 0 < n) {f : Fed} {sub : List ℕ}
      (ans : f ≡ fed_of (call s (take part (take (length book - i) (drop i book))) (length (take (length lines - w) (drop w lines)))))
      (buf : sub
      ≡ lines_laid (call s (take part (take (length book - i) (drop i book))) (length (take (length lines - w) (drop w lines))))
      (take (length lines - w) (drop w lines)))
      (counts : (f.taken ≤ length (take (length book - i) (drop i book))) × (f.written ≤ length (take (length lines - w) (drop w lines)))) where
    abbrev c : Call
    c = call s (take part (drop i book)) (length lines₀ - w)

    same-call : call s (take part (take (length book - i) (drop i book))) (length (take (length lines - w) (drop w lines))) ≡ c
    same-call =
        ap (λ (xs : List ℕ). call s (take part xs) (length (take (length lines - w) (drop w lines)))) (to_end book i)
        ∙ ap (λ (r : ℕ). call s (take part (drop i book)) r) same-room

    answer : f ≡ fed_of c
    answer = ans ∙ ap fed_of same-call

    lent : sub ≡ c.bytes ++ drop (length c.bytes) (drop w lines₀)
    lent =
        buf ∙ ap (λ (d : Call). lines_laid d (take (length lines - w) (drop w lines))) same-call
        ∙ ap (λ (l : List ℕ). c.bytes ++ drop (length c.bytes) l) (to_end lines w ∙ drop-so)

    back : put_mid w (length lines - w) lines sub ≡ take w lines ++ sub
    back =
        let h = g.fits in
        let e : drop (length lines - w) (drop w lines) ≡ [] =
        drop_of_length-le (drop w lines) {i = length lines - w} (rw length-drop (omega arith)) in
        rw (e, append-nil)

    taken_is : f.taken ≡ c.taken
    taken_is = ap (λ (d : Fed). d.taken) answer

    written_is : f.written ≡ length c.bytes
    written_is = ap (λ (d : Fed). d.written) answer

    pub taken-inside : i + f.taken ≤ length book
    taken-inside = let h = g.inside in omega (arith, counts.0, ap length (to_end book i), length-drop i book)

    pub written-inside : w + f.written ≤ length lines
    written-inside = let h = g.fits in omega (arith, counts.1, ap length (to_end lines w), length-drop w lines)

    wrote_on : length (g.so ++ c.bytes) ≡ w + f.written
    wrote_on = omega (arith, length-append g.so c.bytes, g.wrote, written_is)

    laid_on : put_mid w (length lines - w) lines sub ≡ (g.so ++ c.bytes) ++ drop (w + f.written) lines₀
    laid_on =
        back ∙ ap (λ (l : List ℕ). l ++ sub) take-so ∙ ap (λ (l : List ℕ). g.so ++ l) lent
        ∙ ap (λ (l : List ℕ). g.so ++ (c.bytes ++ l)) (drop-drop (length c.bytes) w lines₀)
        ∙ ap (λ (k : ℕ). g.so ++ (c.bytes ++ drop (w + k) lines₀)) (sym written_is)
        ∙ sym (append_assoc g.so c.bytes (drop (w + f.written) lines₀))

    pub long-on : length (put_mid w (length lines - w) lines sub) ≡ length lines₀
    long-on =
        let behind = length-drop (w + f.written) lines₀ in
        rw laid_on (omega (arith, length-append (g.so ++ c.bytes) (drop (w + f.written) lines₀), wrote_on, behind, g.long, written-inside))

    test-is : (code : ℕ) → code ≡ bench_code f.answer → not (eqb code 17) || eqb (i + f.taken) (length book) ≡ last c (drop i book)
    test-is code e =
        ap (λ (k : ℕ). not (eqb k 17) || eqb (i + f.taken) (length book)) (e ∙ ap (λ (d : Fed). bench_code d.answer) answer)
        ∙ ap (λ (b : Bool). not (eqb (bench_code c.answer) 17) || b)
        (all-taken i f.taken (length book) g.inside ∙ ap (λ (k : ℕ). eqb k (length book - i)) taken_is
        ∙ ap (λ (k : ℕ). eqb c.taken k) (sym (length-drop i book)))

    step : benched book part (length lines₀)
        ≡ and_then g.so (pick (last c (drop i book)) (record { code = bench_code c.answer; bytes = c.bytes })
        (and_then c.bytes (bench_by (n - 1) c.state (drop c.taken (drop i book)) part (length lines₀ - w - length c.bytes))))
    step = g.on ∙ ap (and_then g.so) (by_first n s (drop i book) part (length lines₀ - w) c refl more)

    -- it was the last
    pub going-stops : (code : ℕ) → code ≡ bench_code f.answer → not (eqb code 17) || eqb (i + f.taken) (length book) ≡ true
        → {r : ℕ} → r ≡ code * 4294967296 + (w + f.written) % 4294967296 → Gives book lines₀ part (put_mid w (length lines - w) lines sub) r
    going-stops code e t {r} m =
        let b : last c (drop i book) ≡ true = sym (test-is code e) ∙ t in
        let k : bench_code c.answer ≡ code = sym (e ∙ ap (λ (d : Fed). bench_code d.answer) answer) in
        gives-by book lines₀ part _ r code (w + f.written) (g.so ++ c.bytes) ((rw b at step) ∙ rw k refl) wrote_on laid_on m

    -- it was not
    pub going_on : (code : ℕ) → code ≡ bench_code f.answer → not (eqb code 17) || eqb (i + f.taken) (length book) ≡ false
        → Going book lines₀ part (put_mid w (length lines - w) lines sub) f.state (i + f.taken) (w + f.written) (n - 1)
    going_on code e t =
        let b : last c (drop i book) ≡ false = sym (test-is code e) ∙ t in
        let q : length lines₀ - w - length c.bytes ≡ length lines₀ - (w + f.written) = omega (arith, written_is) in
        let d : drop c.taken (drop i book) ≡ drop (i + f.taken) book =
        ap (λ (k : ℕ). drop k (drop i book)) (sym taken_is) ∙ drop-drop f.taken i book in
        let st : c.state ≡ f.state = sym (ap (λ (d : Fed). d.state) answer) in
        record {
          inside = taken-inside;
          fits = rw laid_on (omega (arith, length-append (g.so ++ c.bytes) (drop (w + f.written) lines₀), wrote_on));
          long = long-on;
          so = g.so ++ c.bytes;
          wrote = wrote_on;
          laid = laid_on;
          on = (rw (b, q, d, st) at step) ∙ rw append_assoc refl;
        }
