-- The three rules of the farm book, each as one theorem. What a rule says stands in a record, clause by clause; the theorem gives the record for
-- every input. Definitions: book specs/State, Run, Call, Way; account specs/Judge, Line, Figures; promises specs/Headings, Endings,
-- Subtotals, WholeNumbers.
-- Assumes nothing.
use Prim.Native.Nat.{ℕ, ◌-◌, ◌≤◌, ◌<◌}
use mathlib.Core.Path.{◌≡◌, refl, ap, ◌∙◌}
use mathlib.Core.List.{List, [], ◌∷◌, ◌++◌, map}
use mathlib.Core.Bool.{true, false}
use lib.ListN.{length, take, drop}
use lib.Seq.{take-append_seam, drop-append_seam}
use contract.Lifetimes.{Lfts}
use borrow.Fn.Kinds.{Dens, ended_of}
use denote.Triple.Clauses.{AtExit}
use lib.IntN.{◌+ℤ◌}
use Rattle.grams.specs.Units.{co2_grams}
use Rattle.account.specs.Account.{factors_of}
use Rattle.account.specs.Line.{line_of, total_of}
use Rattle.account.specs.Judge.{record_row, values_of}
use Rattle.book.specs.declared.State.{State}
use Rattle.book.specs.declared.Fed.{Fed}
use Rattle.book.specs.State.{InRange, in_range}
use Rattle.book.specs.Run.{Outcome, outcome, run}
use Rattle.book.specs.Call.{call, fed_of, outside}
use Rattle.book.specs.Way.{Part, way, Ended}
use Rattle.book.proofs.State.feed.Kinds as feed
use Rattle.book.proofs.State.feed.Reads as feed-contract
use Rattle.promises.specs.Headings.{accepted_records, marks_of, Bears}
use Rattle.promises.specs.Endings.{refusing, EndsBy}
use Rattle.promises.specs.Subtotals.{groups_of, farm_of, line_of_group, subtotal_lines}
use Rattle.promises.specs.Taken.{taken_by}
use Rattle.promises.specs.Totals.{last_of}
use Rattle.promises.specs.WholeLines.{is_detail, last_heading, Among}
use Rattle.promises.specs.WholeNumbers.{co2_sum, whole_co2e, last_signed}
use Rattle.promises.proofs.Endings.{refusal-keeps}
use Rattle.promises.proofs.RuleThree.{way-is-run, outside-ways}
use Rattle.promises.proofs.SoFar.{call-so-far, way-headings}
use Rattle.promises.proofs.StaysInRange.{stays-in-range, outside-answer}
use Rattle.promises.proofs.Subtotals.{subtotal-lines, sums-of-farm}
use Rattle.promises.proofs.Taken.{taken-by-rule-two}
use Rattle.promises.proofs.Totals.{ends-with-total}
use Rattle.promises.proofs.WholeLines.{line-of-record}
use Rattle.promises.proofs.WholeNumbers.{co2-in-whole-numbers, total-in-whole-numbers}

-- ---- Rule 1

-- "The program takes every byte string, every state and every line buffer without trap or wrap, and always ends. It checks its input itself. A
-- refusal bears its number, takes exactly the bytes stated, writes nothing for the refused record, and keeps every byte of the line buffer past the
-- lines already given." Of a call with the state s, the bytes xs and the buffer out, which answers f and leaves out':
pub record RuleOne (s : State) (xs out : List ℕ) (f : Fed) (out' : List ℕ) : Type 0 where
  -- the state is tested first: outside its ranges it is handed back with 13, nothing is taken or written
  pub checks : in_range s ≡ false → (f ≡ fed_of (outside s)) × (out' ≡ out)
  -- from a state in range it gives a state in range, and what rule 2 gives for the bytes taken, its lines at the buffer's start
  pub stays : InRange s → InRange f.state
  pub gives : InRange s → outcome (run s (take f.taken xs)) ≡ record { state = f.state; bytes = take f.written out'; left = [] }
  -- no more bytes are taken than there are, none written past the buffer, and those past the lines stay
  pub most : (f.taken ≤ length xs) × (f.written ≤ length out)
  pub past : drop f.written out' ≡ drop f.written out
  -- refused: the bytes taken end with the one that decides, with its number, and there is no line more
  pub refuses : InRange s → s.account.stage < 2 → f.state.account.stage ≡ 3 → EndsBy refusing s (take f.taken xs)

-- That feed is safe and ends the checker proves with its contract, which asks nothing of the caller (`feed-asks-nothing`).
pub rule-one : (κs : Lfts 2) (args : Dens κs feed.ps) (f : Fed) (e : AtExit (ended_of 2 feed.ps feed.r) κs) → feed-contract.Learnt κs args f e
    → RuleOne args.0 args.1.0.now args.1.1.0.now f e.1.1.0.now
rule-one κs args f e p =
    let s = args.0 in
    let xs = args.1.0.now in
    let out = args.1.1.0.now in
    let c = call s xs (length out) in
    let l = p.1.0 in
    let so_far = call-so-far s xs (length out) in
    record {
      checks = λ h. let o = (outside-answer s xs (length out) h).0 in (p.0 ∙ ap fed_of o, l ∙ rw o refl);
      stays = λ v. rw p.0 (stays-in-range s xs (length out) v);
      gives = λ v. rw (p.0, l, take-append_seam c.bytes (drop (length c.bytes) out)) (so_far v);
      most = p.1.1;
      past = rw (p.0, l) (drop-append_seam c.bytes (drop (length c.bytes) out));
      refuses = λ v early h.
          rw p.0
          (refusal-keeps s (take c.taken xs) v early
          (ap (λ (o : Outcome). o.state.account.stage) (so_far v) ∙ (rw p.0 at h)));
    }

-- ---- Rule 2

-- "Each line and total is the whole number of grams that document 01, as changed by document 02, works out, .., and a book is refused exactly under
-- the rules listed there." Of a run from a state in range:
pub record RuleTwo (s : State) (xs : List ℕ) : Type 0 where
  -- a detail's line is made of the last heading before it and its own values
  pub details : (before behind : List (List ℕ)) (r : List ℕ) → accepted_records s xs ≡ before ++ (r ∷ behind) → is_detail r ≡ true
      → Among (marks_of s.account.heading.group before) (line_of (last_heading s.account.heading before) (record_row r) (values_of r))
      (run s xs).lines
  -- the subtotals are those of the groups that end, the sums those of all details, and the last line of a closed book is their total
  pub subtotals : subtotal_lines (run s xs).lines
      ≡ map line_of_group (groups_of s.account.heading s.account.subtotal (accepted_records s xs))
  pub sums : (run s xs).state.account.sums ≡ farm_of s.account.heading s.account.sums (accepted_records s xs)
  pub total : s.account.stage < 2 → (run s xs).state.account.stage ≡ 2 → last_of (run s xs).lines ≡ total_of (run s xs).state.account
  -- in whole numbers: the sum of CO2, and CO2e in the last eight bytes of a closed book
  pub co2 : co2_grams (run s xs).state.account.sums.co2
      ≡ co2_grams s.account.sums.co2 +ℤ co2_sum s.account.heading (accepted_records s xs)
  pub co2e : s.account.stage < 2 → (run s xs).state.account.stage ≡ 2
      → last_signed (last_of (run s xs).lines)
      ≡ whole_co2e (factors_of (run s xs).state.account.farm)
      (co2_grams s.account.sums.co2 +ℤ co2_sum s.account.heading (accepted_records s xs))
      (farm_of s.account.heading s.account.sums (accepted_records s xs))
  -- refused: by the first of the listed tests that refuses the record, or by its length, at the byte that decides
  pub refuses : s.account.stage < 2 → (run s xs).state.account.stage ≡ 3 → EndsBy refusing s xs

pub rule-two : (s : State) (xs : List ℕ) → InRange s → RuleTwo s xs
rule-two s xs v =
    record {
      details = line-of-record s xs v;
      subtotals = subtotal-lines s xs v;
      sums = sums-of-farm s xs v;
      total = ends-with-total s xs v;
      co2 = co2-in-whole-numbers s xs v;
      co2e = total-in-whole-numbers s xs v;
      refuses = refusal-keeps s xs v;
    }

-- ---- Rule 3

-- "However a run of bytes is cut and whatever the line buffers' sizes, the ways that end have taken equally many bytes, given the same lines and
-- reached the same state: what rule 2 gives for the uncut run. Every ration and manure line bears the last group heading before it."
pub record RuleThree (s : State) (xs : List ℕ) (ps : List Part) : Type 0 where
  pub same : InRange s → Ended (way s xs ps) → way s xs ps ≡ outcome (run s xs)
  pub taken : InRange s → Ended (way s xs ps) → taken_by s xs ps ≡ length xs - length (run s xs).left
  pub bears : InRange s → Bears (marks_of s.account.heading.group (accepted_records s (take (taken_by s xs ps) xs))) (way s xs ps).bytes
  -- from a state outside the ranges every way leaves the state, gives nothing and keeps all bytes
  pub outside : in_range s ≡ false → way s xs ps ≡ record { state = s; bytes = []; left = xs }

pub rule-three : (s : State) (xs : List ℕ) (ps : List Part) → RuleThree s xs ps
rule-three s xs ps =
    record {
      same = way-is-run s xs ps;
      taken = taken-by-rule-two s xs ps;
      bears = way-headings s xs ps;
      outside = outside-ways s xs ps;
    }
