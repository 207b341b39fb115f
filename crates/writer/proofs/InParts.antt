-- However a typed text is cut into parts, the calls over them write and say what its lines do, one after the other.
-- Assumes nothing.
use Prim.Native.Nat.{ℕ, zero, suc, ◌≤◌}
use mathlib.Core.Path.{◌≡◌, refl, sym, ap, ◌∙◌}
use mathlib.Core.List.{List, [], ◌∷◌, ◌++◌, append_assoc, append-nil}
use mathlib.Core.Bool.{Bool, true, false}
use lib.ListN.{length, drop}
use Rattle.base.specs.Choice.{pick}
use Rattle.text_lines.specs.Lines.{most, first_cut, cutting_of, unmarked}
use Rattle.text_lines.specs.Parts.{Numbered, Cutter, Found, in_hand, finishing, cut_once, next_line, cut_part, cut_all, together, all_found_lem}
use Rattle.text_lines.proofs.SameLines.{same_lines}
use Rattle.codec.specs.Table.{record_most}
use Rattle.book.specs.declared.State.{State}
use Rattle.writer.specs.declared.Typist.{Typist}
use Rattle.writer.specs.Typist.{beginning}
use Rattle.writer.specs.Text.{text_lines, typed_by, bytes_typed}
use Rattle.writer.specs.Parts.{line_by, end_of, Output, behind, output, whole, Calls, one_call, and_then, calls_in, calls_over, with_last, with_end}
use Rattle.writer.proofs.Calls.{line-open, line-ended}

-- what the lines of a found text do, and the cutter behind them
abbrev by_found : Typist → Found → Calls
by_found t f = record { output = output t f.finished; cutter = f.last }

-- ---- lines behind lines

abbrev joined_to : Output → Output → Output
joined_to a b = record { typist = b.typist; bytes = a.bytes ++ b.bytes; said = a.said ++ b.said }

output-append : (xs ys : List Numbered) (t : Typist) → output t (xs ++ ys) ≡ joined_to (output t xs) (output (output t xs).typist ys)
unfolding output
output-append [] ys t = refl
output-append (x ∷ xs) ys t =
    let l = line_by t x.number (unmarked x.number x.bytes) record_most in
    ap (behind l) (output-append xs ys l.typist) ∙ simp append_assoc

-- ---- a part

-- what a call gives in which a line ends
abbrev ended_call : Typist → Cutter → List ℕ → Calls
ended_call t c part =
    let l = in_hand (cut_once c part) in
    let x = line_by t l.number (unmarked l.number l.bytes) 28 in
    record { output = record { typist = x.typist; bytes = x.bytes; said = x.remark }; cutter = next_line (cut_once c part) }

module _ (t : Typist) (c : Cutter) (part : List ℕ) where
  goes_on : (cutting_of (length c.line) c.cut part).ended ≡ false
      → one_call t c part ≡ record { output = record { typist = t; bytes = []; said = [] }; cutter = cut_once c part }
  goes_on e = rw (line-open (record { typist = t; cut = c.cut }) c.line part 28 refl e)

  ends : (cutting_of (length c.line) c.cut part).ended ≡ true → one_call t c part ≡ ended_call t c part
  ends e = rw (line-ended (record { typist = t; cut = c.cut }) c.line part 28 refl e)

part-calls : (n : ℕ) (t : Typist) (c : Cutter) (part : List ℕ) → calls_in n t c part ≡ by_found t (cut_part n c part)
unfolding calls_in cut_part output
part-calls zero t c part = refl
part-calls (suc n) t c part = go (λ u d rest. part-calls n u d rest) (cutting_of (length c.line) c.cut part).ended refl
  where
    taken : ℕ
    taken = (cutting_of (length c.line) c.cut part).taken

    go : ((u : Typist) (d : Cutter) (rest : List ℕ) → calls_in n u d rest ≡ by_found u (cut_part n d rest)) → (b : Bool)
        → (cutting_of (length c.line) c.cut part).ended ≡ b
        → pick b (and_then (one_call t c part) (calls_in n (one_call t c part).output.typist (one_call t c part).cutter (drop taken part)))
        (one_call t c part)
        ≡ by_found t (pick b (finishing (in_hand (cut_once c part)) (cut_part n (next_line (cut_once c part)) (drop taken part)))
        (record { finished = []; last = cut_once c part }))
    go again true e =
        ap (λ (o : Calls). and_then o (calls_in n o.output.typist o.cutter (drop taken part))) (ends t c part e)
        ∙ ap (λ (r : Calls). and_then (ended_call t c part) r) (again (ended_call t c part).output.typist (next_line (cut_once c part))
        (drop taken part))
    go again false e = goes_on t c part e

-- ---- all parts

all-calls : (parts : List (List ℕ)) (t : Typist) (c : Cutter) → calls_over t c parts ≡ by_found t (cut_all c parts)
unfolding calls_over cut_all output
all-calls [] t c = refl
all-calls (part ∷ parts) t c =
    let f = cut_part (suc (length part)) c part in
    let o = cut_all f.last parts in
    rw (part-calls (suc (length part)) t c part, all-calls parts (output t f.finished).typist f.last)
    (ap (λ (x : Output). record { output = x; cutter = o.last }) (sym (output-append f.finished o.finished t)))

with-last : (t : Typist) (f : Found) → with_last (by_found t f) ≡ output t (all_found_lem f)
unfolding output
with-last t f = sym (output-append f.finished (in_hand f.last ∷ []) t ∙ simp append-nil)

-- the theorem: the calls over the parts, and the unfinished line at the end, write and say what the lines of the whole text do
pub typed-in-parts : (line : List ℕ) → most ≤ length line → (s : State) (parts : List (List ℕ))
    → with_last (calls_over (beginning s) (record { line = line; cut = first_cut }) parts) ≡ output (beginning s) (text_lines (together parts))
typed-in-parts line h s parts =
    rw (all-calls parts (beginning s) (record { line = line; cut = first_cut }))
    (with-last (beginning s) (cut_all (record { line = line; cut = first_cut }) parts) ∙ ap (output (beginning s)) (same_lines line h parts))

-- and these are the bytes of the typed text
pub bytes-typed : (t : Typist) (ls : List Numbered) → (output t ls).bytes ≡ bytes_typed (typed_by t ls).turns
unfolding output typed_by bytes_typed
bytes-typed t [] = refl
bytes-typed t (l ∷ ls) = ap (λ (r : List ℕ). (line_by t l.number (unmarked l.number l.bytes) 28).bytes ++ r)
    (bytes-typed (line_by t l.number (unmarked l.number l.bytes) 28).typist ls)

-- and so with the end of the text
pub whole-in-parts : (line : List ℕ) → most ≤ length line → (s : State) (parts : List (List ℕ))
    → with_end (calls_over (beginning s) (record { line = line; cut = first_cut }) parts) ≡ whole (beginning s) (text_lines (together parts))
whole-in-parts line h s parts =
    ap
    (λ (o : Output).
    let x = end_of true o.typist record_most in
    record { typist = x.typist; bytes = o.bytes ++ x.bytes; said = o.said ++ x.remark }) (typed-in-parts line h s parts)

-- the typist after the lines
pub typist-typed : (t : Typist) (ls : List Numbered) → (output t ls).typist ≡ (typed_by t ls).typist
unfolding output typed_by
typist-typed t [] = refl
typist-typed t (l ∷ ls) = typist-typed (line_by t l.number (unmarked l.number l.bytes) 28).typist ls
