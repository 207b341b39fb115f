-- Laws of a call over a part: a line that is done, a line that goes on, a line that ends.
-- Assumes nothing.
use Prim.Native.Nat.{ℕ, ◌≤◌}
use native.Mathlib.Omega.{arith}
use mathlib.Core.Path.{◌≡◌, refl, ap, ◌∙◌}
use mathlib.Core.List.{List}
use mathlib.Core.Bool.{Bool, true, false}
use lib.ListN.{length, drop, length-append, length-drop}
use Rattle.printing.specs.Said.{Said}
use Rattle.printing.proofs.Sayings.{said-none}
use Rattle.text_lines.specs.declared.Cut.{Cut}
use Rattle.text_lines.specs.declared.Cutting.{Cutting}
use Rattle.text_lines.specs.Lines.{next_of, cutting_of, cut_in}
use Rattle.writer.specs.declared.Typist.{Typist}
use Rattle.writer.specs.declared.Typing.{Typing}
use Rattle.writer.specs.declared.Entered.{Entered}
use Rattle.writer.specs.declared.Lined.{Lined}
use Rattle.writer.specs.declared.typed_line.Line.{Line}
use Rattle.writer.specs.Line.{line_said}
use Rattle.writer.specs.Typist.{Turn, by_said, turn, end_turn, entered_of, turn_laid}
use Rattle.writer.specs.Remarks.{remark_text, end_remark}
use Rattle.writer.proofs.Fates.{said-turn}
use Rattle.writer.specs.Parts.{line_by, end_of, goes_on_lem, has_ended, in_buffer, by_cutting, call_of, laid_in}

-- ---- a call over a part

module _ (g : Typing) (line part : List ℕ) (room : ℕ) {c : Cutting} (e : c ≡ cutting_of (length line) g.cut part) where
  by-cutting : call_of g line part room ≡ by_cutting c g.typist (cut_in line g.cut part) room
  unfolding call_of
  by-cutting = rw (← e)

  -- no line ends in the part
  pub line-open : c.ended ≡ false → call_of g line part room ≡ goes_on_lem g.typist c
  line-open f = by-cutting ∙ rw f

  -- one ends
  pub line-ended : c.ended ≡ true
      → call_of g line part room ≡ has_ended (line_by g.typist c.cut.number (in_buffer (cut_in line g.cut part) c.cut) room) c
  line-ended f = by-cutting ∙ rw f

  -- all clauses of a call in which no line ends
  pub open-call : c.ended ≡ false → {line' : List ℕ} → line' ≡ cut_in line g.cut part → c.taken ≤ length part → (out before : List ℕ)
      → (record { typist = g.typist; cut = c.cut } ≡ (call_of g line part room).typing)
      × ((c.taken ≡ (call_of g line part room).taken)
      × ((0 ≡ length (call_of g line part room).bytes)
      × ((line' ≡ cut_in line g.cut part)
      × ((out ≡ laid_in (call_of g line part room).bytes out) × (Said before before 0 (call_of g line part room).remark 0 ×
      (c.taken ≤ length part))))))
  open-call f l h out before = rw (line-open f) (refl, (refl, (refl, (l, (refl, (said-none (omega arith), h))))))

  -- text is the line, r what it does, and next the line behind it
  pub ended-call : c.ended ≡ true → {line' : List ℕ} → line' ≡ cut_in line g.cut part → c.taken ≤ length part
      → {text : List ℕ} → text ≡ in_buffer line' c.cut → (r : Lined) (out : List ℕ) {out' before after : List ℕ}
      → (r.typist ≡ (line_by g.typist c.cut.number text room).typist)
      × ((r.written ≡ length (line_by g.typist c.cut.number text room).bytes)
      × ((out' ≡ laid_in (line_by g.typist c.cut.number text room).bytes out)
      × Said before after 0 (line_by g.typist c.cut.number text room).remark r.told))
      → {next : Cut} → next ≡ next_of c.cut
      → (record { typist = r.typist; cut = next } ≡ (call_of g line part room).typing)
      × ((c.taken ≡ (call_of g line part room).taken)
      × ((r.written ≡ length (call_of g line part room).bytes)
      × ((line' ≡ cut_in line g.cut part)
      × ((out' ≡ laid_in (call_of g line part room).bytes out)
      × (Said before after 0 (call_of g line part room).remark r.told × (c.taken ≤ length part))))))
  ended-call f l h w r out q n =
      let is = w ∙ ap (λ (x : List ℕ). in_buffer x c.cut) l in
      let p = rw is at q in
      rw (line-ended f) (rw (p.0, n), (refl, (p.1.0, (l, (p.1.1.0, (p.1.1.1, h))))))

-- ---- a line, and the end

module _ (t : Typist) (n : ℕ) (xs : List ℕ) (room : ℕ) (out : List ℕ) {out' before after : List ℕ} {told : ℕ} {e : Entered} {line : Line}
    (is : line ≡ line_said xs) where
  pub line-typed : e ≡ entered_of (by_said line.said t n line.entry room) → out' ≡ turn_laid (by_said line.said t n line.entry room) out
      → Said before after 0 (remark_text e.fate t n line.entry xs) told
      → (e.typist ≡ (line_by t n xs room).typist)
      × ((e.written ≡ length (line_by t n xs room).bytes)
      × ((out' ≡ laid_in (line_by t n xs room).bytes out) × Said before after 0 (line_by t n xs room).remark told))
  line-typed p q s =
      let x = turn t n xs room in
      let same = said-turn t n xs room is in
      let entered : e ≡ entered_of x = p ∙ ap entered_of same in (
        ap (λ (y : Entered). y.typist) entered,
        (
          ap (λ (y : Entered). y.written) entered,
          (
            q ∙ ap (λ (y : Turn). turn_laid y out) same,
            rw (is, ap (λ (y : Entered). y.fate) entered) at s,
          ),
        ),
      )

pub end-typed : (good : Bool) (t : Typist) (out : List ℕ) {out' before after : List ℕ} {told : ℕ} {e : Entered}
    → e ≡ entered_of (end_turn good t (length out)) → out' ≡ turn_laid (end_turn good t (length out)) out
    → Said before after 0 (end_remark e.fate t) told
    → (e.typist ≡ (end_of good t (length out)).typist)
    × ((e.written ≡ length (end_of good t (length out)).bytes)
    × ((out' ≡ laid_in (end_of good t (length out)).bytes out) × Said before after 0 (end_of good t (length out)).remark told))
end-typed good t out p q s =
    (ap (λ (y : Entered). y.typist) p, (ap (λ (y : Entered). y.written) p, (q, rw (ap (λ (y : Entered). y.fate) p) at s)))

-- what is laid at a buffer's start fits it
pub written-fits : (bytes out : List ℕ) {out' : List ℕ} → out' ≡ laid_in bytes out → length out' ≡ length out → length bytes ≤ length out
written-fits bytes out e l = omega (arith, l, ap length e, length-append bytes (drop (length bytes) out), length-drop (length bytes) out)
