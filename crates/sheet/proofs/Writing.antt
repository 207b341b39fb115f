-- Texts and bytes written piece by piece: of the whole, what is left still fits, and putting it makes the whole.
use Prim.Native.Nat.{ℕ, zero, suc, ◌+◌, ◌-◌, ◌<◌, ◌≤◌}
use native.Mathlib.Omega.{arith}
use mathlib.Core.Path.{◌≡◌, refl, sym, ap, ◌∙◌}
use mathlib.Core.List.{List, [], ◌++◌}
use lib.ListN.{length, length-append}
use Rattle.printing.specs.Decimal.{Put}
use Rattle.printing.proofs.Puts.{none, and-then, put-length}
use Rattle.sheet.specs.Sheets.{Item, made, each_by}
use Rattle.sheet.proofs.Runs.{not_made, Goes, goes, each-some}

pub record Writing (out₀ : List ℕ) (at : ℕ) (whole : List ℕ) (out : List ℕ) (end : ℕ) (left : List ℕ) : Type 0 where
  pub same : length out ≡ length out₀
  pub room : end + length left ≤ length out
  pub rest : (zs : List ℕ) (q : ℕ) → Put out zs end left q → Put out₀ zs at whole q

pub writes-all : (out : List ℕ) (at : ℕ) (whole : List ℕ) → at + length whole ≤ length out → Writing out at whole out at whole
writes-all out at whole h = record { same = refl; room = h; rest = λ zs q p. p }

module _ {out₀ out : List ℕ} {at end : ℕ} {whole left : List ℕ} (w : Writing out₀ at whole out end left) where
  pub writes-on : {ys : List ℕ} {q : ℕ} {p more : List ℕ} → Put out ys end p q → left ≡ p ++ more → Writing out₀ at whole ys q more
  writes-on {ys} {q} {p} {more} o e =
      record {
        same = put-length o ∙ w.same;
        room = omega (arith, w.room, ap length e, length-append p more, o.next, put-length o);
        rest = λ zs r s. w.rest zs r (rw e (and-then o s));
      }

  pub piece-room : (p more : List ℕ) → left ≡ p ++ more → end + length p ≤ length out
  piece-room p more e = omega (arith, w.room, ap length e, length-append p more)

  pub written : left ≡ [] → Put out₀ out at whole end
  written e = w.rest out end (rw e (none out end (omega (arith, w.room))))

-- ---- a run of items

pub record Run (f : List ℕ → Item) (out₀ : List ℕ) (at : ℕ) (whole : List ℕ) (out : List ℕ) (end : ℕ) (left : List ℕ) : Type 0 where
  pub fuel : ℕ
  pub row : ℕ
  pub others : List ℕ
  pub makes : each_by f fuel row left ≡ made others
  pub puts : Writing out₀ at whole out end others

module _ {f : List ℕ → Item} {out₀ out : List ℕ} {at end : ℕ} {whole left : List ℕ} (w : Run f out₀ at whole out end left) where
  opened : (n : ℕ) → each_by f n w.row left ≡ made w.others → 0 < length left → Goes (f left) (each_by f (n - 1) (suc w.row)) w.others
  unfolding each_by
  opened zero e h = not_made e
  opened (suc n) e h = let k : suc n - 1 ≡ n = omega arith in
      rw k (goes (f left) w.row (each_by f n (suc w.row)) w.others (sym (each-some f n w.row left h) ∙ e))

  -- the item that the run goes on with
  pub next-item : 0 < length left → Goes (f left) (each_by f (w.fuel - 1) (suc w.row)) w.others
  next-item h = opened w.fuel w.makes h

  pub run_room : (h : 0 < length left) (p : List ℕ) → p ≡ (next-item h).piece → end + length p ≤ length out
  run_room h p e = let o = next-item h in piece-room w.puts p o.others (rw e o.whole)

  pub run_on : (h : 0 < length left) {p r ys : List ℕ} {q : ℕ} → p ≡ (next-item h).piece → r ≡ (next-item h).rest → Put out ys end p q
      → Run f out₀ at whole ys q r
  run_on h e d o =
      let g = next-item h in
      record {
        fuel = w.fuel - 1;
        row = suc w.row;
        others = g.others;
        makes = rw d g.then-made;
        puts = writes-on w.puts o
            (rw e g.whole);
      }

  ended : (n : ℕ) → each_by f n w.row left ≡ made w.others → left ≡ [] → w.others ≡ []
  unfolding each_by
  ended zero e h = not_made e
  ended (suc n) e h = let x : made [] ≡ made w.others = rw h at e in cc

  pub run-done : left ≡ [] → Put out₀ out at whole end
  run-done h = written w.puts (ended w.fuel w.makes h)
