-- The lines of dropped records, some records at a time: laws of one record and of the loop over records.
-- Assumes nothing.
use Prim.Native.Nat.{ℕ, suc, ◌+◌, ◌-◌, ◌*◌, ◌^◌, ◌≤◌, ◌<◌}
use native.Mathlib.Omega.{arith}
use native.Mathlib.Nat.{zero-add, add-zero}
use mathlib.Core.Path.{◌≡◌, refl, sym, ap, ◌∙◌}
use mathlib.Core.Bool.{Bool, true, false, ◌&&◌}
use Rattle.std.specs.Prelude.{Option, Some, None}
use Rattle.base.specs.Choice.{pick}
use mathlib.Core.List.{List, [], ◌++◌, append-nil, append_assoc}
use lib.Dec.{ltb, eqb}
use lib.ListN.{length, get_or, drop, length-append, length-drop}
use lib.Seq.{drop-drop, take_all, get_or-take}
use borrow.Author.Tests.{le-ltb, lt-ltb, ltb-true, ltb-false}
use Rattle.base.proofs.Tests.{by-test, of-choice}
use Rattle.printing.specs.Ascii.{ascii}
use Rattle.printing.specs.Decimal.{decimal, Put}
use Rattle.printing.specs.Said.{Said}
use Rattle.printing.proofs.Puts.{none, put-length, and-then}
use Rattle.printing.proofs.Digits.{length-u64}
use Rattle.account.specs.Judge.{kind_byte}
use Rattle.account.specs.Sorts.{is_of_group}
use Rattle.book.specs.Front.{whole, need, front}
use Rattle.walk.specs.Walk.{record_at}
use Rattle.book.proofs.Fronts.{meaning}
use Rattle.salvage.specs.declared.Reading.{Reading}
use Rattle.salvage.specs.declared.turns.Turn.{Turn}
use Rattle.salvage.specs.declared.lines.Reported.{Reported}
use Rattle.salvage.specs.Salvage.{dropped_by, reading_after}
use Rattle.salvage.specs.HowFar.{goes_on_lem}
use Rattle.salvage.specs.Lines.{dropped_text, heading_text, words_for, line_for, line_of, Telling, stopped, behind, tell_by, Tells, line_most}
use Rattle.salvage.specs.Inner.{Open, as_told, line_told, Turned}
use Rattle.salvage.proofs.Fates.{dropped-most}
use Rattle.salvage.proofs.OneTurn.{goes-whole}
use Rattle.salvage.proofs.Sentences.{sentence-short}

-- ---- a line has at most 256 bytes

words-short : (s : Reading) (kind code : ℕ) → s.heading < 2 ^ 64 → length (words_for s kind code) ≤ 196
unfolding words_for heading_text
words-short s kind code h =
    of-choice (λ (t : List ℕ). length t ≤ 196) (s.lost && (is_of_group kind && eqb code 6))
    (λ e.
    let n = length-u64 s.heading h in
    omega (arith, n, length-append (decimal s.heading) (ascii ", was dropped")))
    (λ e. sentence-short code)

pub line-short : (s : Reading) (kind code : ℕ) → s.number < 2 ^ 64 → s.heading < 2 ^ 64 → code < 256 → length (line_for s kind code) ≤ line_most
unfolding line_for dropped_text
line-short s kind code h k c =
    of-choice (λ (t : List ℕ). length t ≤ 256) (eqb code 0) (λ e. omega arith)
    (λ e.
    let words = words_for s kind code in
    let n = length-u64 s.number h in
    let d = length-u64 code (omega arith) in
    let w = words-short s kind code k in
    let e1 = length-append (decimal s.number) (ascii ": dropped " ++ (decimal code ++ (ascii ": " ++ (words ++ ascii "\n")))) in
    let e2 = length-append (decimal code) (ascii ": " ++ (words ++ ascii "\n")) in
    let e3 = length-append words (ascii "\n") in
    omega (arith, n, d, w, e1, e2, e3))

-- the line, by what the code has of the number
line-is : (s : Reading) (kind : ℕ) (o : Option ℕ) (c : ℕ) → o ≡ as_told c → line_told s kind o ≡ line_for s kind c
unfolding line_for
line-is s kind o c e = rw e (go (eqb c 0))
  where
    go : (b : Bool) → line_told s kind (pick b None (Some c)) ≡ pick b [] (dropped_text s.number c (words_for s kind c))
    go true = refl
    go false = refl

-- a text that fits is there whole
whole-put : {xs ys : List ℕ} {at : ℕ} (s : List ℕ) {r : ℕ} → at + length s ≤ length xs → Said xs ys at s r → Put xs ys at s r
whole-put {xs} {ys} {at} s h p = let l : length s ≤ length xs - at = omega arith in rw (take_all (length xs - at) s l) at p.put

-- ---- one record

pub none-asked : (s : Reading) (xs : List ℕ) → tell_by 0 s xs ≡ record { reading = s; taken = 0; text = []; more = true }
unfolding tell_by
none-asked s xs = refl

pub stops-tell : (n : ℕ) (s : Reading) (xs : List ℕ) → goes_on_lem (front xs) s xs ≡ false → tell_by (suc n) s xs ≡ stopped s
unfolding tell_by
stops-tell n s xs h = rw h

pub goes-tell : (n : ℕ) (s : Reading) (xs : List ℕ) → goes_on_lem (front xs) s xs ≡ true
    → tell_by (suc n) s xs ≡ behind (need xs) (line_of s (record_at xs)) (tell_by n (reading_after s (record_at xs)) (drop (need xs) xs))
unfolding tell_by
goes-tell n s xs h = rw h

-- the first record alone
abbrev one : Reading → List ℕ → Telling
one s xs = record { reading = reading_after s (record_at xs); taken = need xs; text = line_of s (record_at xs); more = true }

one-is : (s : Reading) (xs : List ℕ) → goes_on_lem (front xs) s xs ≡ true → tell_by 1 s xs ≡ one s xs
one-is s xs h =
    goes-tell 0 s xs h
    ∙ ap (behind (need xs) (line_of s (record_at xs))) (none-asked (reading_after s (record_at xs)) (drop (need xs) xs))
    ∙ rw (add-zero, append-nil) refl

-- its kind byte stands in the bytes themselves
pub kind_at : (xs : List ℕ) → front xs ≡ whole → get_or xs 3 0 ≡ kind_byte (record_at xs)
kind_at xs e = let m = meaning xs whole e in sym (get_or-take (need xs) xs 3 0 (omega (arith, m.1)))

module _ {s : Reading} {xs : List ℕ} {t : Turn} (v : Turned s xs t) where
  pub tells_none : t.n ≡ 0 → (out : List ℕ) (at : ℕ) → at ≤ length out
      → Tells (tell_by 1 s xs) out out at (record { reading = s; taken = 0; written = at; more = false })
  tells_none z out at h =
      rw (stops-tell 0 s xs (v.stops z)) (record { reading = refl; taken = refl; more = refl; put = none out at h })

  module _ (h : 0 < t.n) where
    pub four : 4 ≤ length xs
    four = let m = meaning xs whole (goes-whole s xs (v.on h)).0 in omega (arith, m.1, m.3)

    pub tells-one : Open s → s.number < 2 ^ 64 → (out out' : List ℕ) (at last : ℕ) → at + line_most ≤ length out
        → Said out out' at (line_told s (get_or xs 3 0) t.code) last
        → Tells (tell_by 1 s xs) out out' at (record { reading = t.next; taken = t.n; written = last; more = true }) × (last ≤ at + line_most)
    tells-one o n out out' at last room p' =
        let code = dropped_by s (record_at xs) in
        let text = line_for s (get_or xs 3 0) code in
        let short = line-short s (get_or xs 3 0) code n (omega (arith, n, o.headed)) (omega (arith, dropped-most s (record_at xs))) in
        let p = rw (line-is s (get_or xs 3 0) t.code code (v.code_is h)) at p' in
        let put = whole-put text (omega (arith, short, room)) p in
        let k = kind_at xs (goes-whole s xs (v.on h)).0 in
        let line : text ≡ line_of s (record_at xs) = rw k in (
          rw (one-is s xs (v.on h)) (record { reading = v.next-is h; taken = v.size h; more = refl; put = rw line at put }),
          omega (arith, put.next, short),
        )

-- ---- one record after the other

clash : true ≡ false → ⊥
clash e = let q : ◌≡◌ {A = ℕ} 0 1 = cc in omega (arith, q)

module _ (n : ℕ) (s : Reading) (xs : List ℕ) where
  -- it is not there, and no other is
  pub one-stops : (tell_by 1 s xs).more ≡ false → tell_by (suc n) s xs ≡ tell_by 1 s xs
  one-stops m =
      by-test (goes_on_lem (front xs) s xs)
      (λ h. absurd (clash (sym (ap (λ (x : Telling). x.more) (one-is s xs h)) ∙ m)))
      (λ h. stops-tell n s xs h ∙ sym (stops-tell 0 s xs h))

  pub one_more : (tell_by 1 s xs).more ≡ true
      → tell_by (suc n) s xs
      ≡ behind (tell_by 1 s xs).taken (tell_by 1 s xs).text (tell_by n (tell_by 1 s xs).reading (drop (tell_by 1 s xs).taken xs))
  one_more m =
      by-test (goes_on_lem (front xs) s xs)
      (λ h. rw (one-is s xs h) (goes-tell n s xs h))
      (λ h. absurd (clash (sym m ∙ ap (λ (x : Telling). x.more) (stops-tell 0 s xs h))))

-- the lines of the records up to at are there; those left make the whole
pub record Going (n : ℕ) (s₀ : Reading) (xs out₀ out : List ℕ) (s : Reading) (at last left : ℕ) : Type 0 where
  pub so_far : List ℕ
  pub put : Put out₀ out 0 so_far last
  pub inside : at ≤ length xs
  pub opened : Open s
  pub numbered : s.number ≤ s₀.number + at
  pub room : last + line_most * left ≤ length out
  pub same : length out ≡ length out₀
  pub is : tell_by n s₀ xs ≡ behind at so_far (tell_by left s (drop at xs))

as-it-is : (x : Telling) → x ≡ behind 0 [] x
as-it-is x = rw zero-add

pub going-none : (n : ℕ) (s : Reading) (xs out : List ℕ) → Open s → line_most * n ≤ length out → Going n s xs out out s 0 0 n
going-none n s xs out o h =
    record {
      so_far = [];
      put = none out 0 (omega arith);
      inside = omega arith;
      opened = o;
      numbered = omega arith;
      room = omega arith;
      same = refl;
      is = as-it-is (tell_by n s xs);
    }

grouped : (a b : ℕ) (x y : List ℕ) (z : Telling) → behind a x (behind b y z) ≡ behind (a + b) (x ++ y) z
grouped a b x y z = let e : a + (b + z.taken) ≡ a + b + z.taken = omega arith in rw (e, append_assoc x y z.text)

module _ {n : ℕ} {s₀ : Reading} {xs out₀ out : List ℕ} {s : Reading} {at last left : ℕ} (g : Going n s₀ xs out₀ out s at last left) where
  pub going_end : left ≡ 0 → Tells (tell_by n s₀ xs) out₀ out 0 (record { reading = s; taken = at; written = last; more = true })
  going_end z =
      let i : tell_by left s (drop at xs) ≡ record { reading = s; taken = 0; text = []; more = true } = rw z (none-asked s (drop at xs)) in
      rw (g.is ∙ ap (behind at g.so_far) i) (record { reading = refl; taken = sym (add-zero at); more = refl; put = rw append-nil g.put })

  module _ (h : 0 < left) {rest out' : List ℕ} (p : rest ≡ drop at xs) {r : Reported} (t : Tells (tell_by 1 s rest) out out' last r) where
    less : left ≡ suc (left - 1)
    less = omega arith

    pub going-stop : r.more ≡ false
        → Tells (tell_by n s₀ xs) out₀ out' 0 (record { reading = r.reading; taken = at + r.taken; written = r.written; more = false })
    going-stop f =
        let q : (tell_by 1 s rest).more ≡ false = sym t.more ∙ f in
        let i : tell_by left s (drop at xs) ≡ tell_by 1 s rest =
        rw (← p) (ap (λ (m : ℕ). tell_by m s rest) less ∙ one-stops (left - 1) s rest q) in
        rw (g.is ∙ ap (behind at g.so_far) i)
        (record { reading = t.reading; taken = ap (λ (m : ℕ). at + m) t.taken; more = sym q; put = and-then g.put t.put })

    pub going_on : r.more ≡ true → r.written ≤ last + line_most → r.taken ≤ length rest → Open r.reading
        → r.reading.number ≤ s.number + r.taken
        → Going n s₀ xs out₀ out' r.reading (at + r.taken) r.written (left - 1)
    going_on f w k o m =
        let q : (tell_by 1 s rest).more ≡ true = sym t.more ∙ f in
        let first = tell_by 1 s rest in
        let others = tell_by (left - 1) first.reading (drop first.taken rest) in
        let i : tell_by left s (drop at xs) ≡ behind first.taken first.text others =
        rw (← p) (ap (λ (m : ℕ). tell_by m s rest) less ∙ one_more (left - 1) s rest q) in
        let l = ap length p ∙ length-drop at xs in
        let d : drop first.taken rest ≡ drop (at + first.taken) xs = ap (drop first.taken) p ∙ drop-drop first.taken at xs in
        record {
          so_far = g.so_far ++ first.text;
          put = and-then g.put t.put;
          inside = omega (arith, l, g.inside);
          opened = o;
          numbered = omega (arith, m, g.numbered);
          room = omega (arith, g.room, put-length t.put);
          same = put-length t.put ∙ g.same;
          is = g.is ∙ ap (behind at g.so_far) i ∙ grouped at first.taken g.so_far first.text others ∙ rw (d, t.reading, t.taken);
        }

-- ---- a reading that can be gone on from

-- the test of its number, as it is computed
pub numbers_fit : (n l : ℕ) → l ≤ 18446744073709551615 → ltb n (18446744073709551615 - l) ≡ ltb (n + l) 18446744073709551615
numbers_fit n l h =
    by-test (ltb n (18446744073709551615 - l))
    (λ e. e ∙ sym (lt-ltb (n + l) 18446744073709551615 (let z = ltb-true n (18446744073709551615 - l) e in omega arith)))
    (λ e. e ∙ sym (le-ltb (n + l) 18446744073709551615 (let z = ltb-false n (18446744073709551615 - l) e in omega arith)))
