-- Laws of what becomes of a line and of the end, by the tests that the code makes one after the other.
-- Assumes nothing.
use Prim.Native.Nat.{ℕ}
use mathlib.Core.Path.{◌≡◌, refl, sym, ap, ◌∙◌}
use mathlib.Core.List.{List, []}
use mathlib.Core.Bool.{Bool, true, false, ◌&&◌}
use Rattle.std.specs.Prelude.{is_some}
use lib.ListN.{length}
use lib.Dec.{eqb}
use Rattle.codec.specs.Table.{record_most}
use borrow.Author.Tests.{ne_eqb}
use Rattle.account.specs.Sorts.{is_of_group}
use Rattle.account.specs.declared.Refusal.{Refusal}
use Rattle.book.specs.declared.State.{State}
use Rattle.make_record.specs.Write.{Answer}
use Rattle.make_record.specs.declared.Written.{Written}
use Rattle.make_record.specs.Write as writer
use Rattle.std.specs.Prelude.{Ok, Err}
use Rattle.writer.specs.declared.typed_line.Entry.{Entry}
use Rattle.writer.specs.declared.typed_line.Line.{Line}
use Rattle.writer.specs.Line.{line_said, write_entry}
use Rattle.writer.specs.declared.Typist.{Typist}
use Rattle.writer.specs.declared.Fate.TheVariants.{Nothing, Withheld, Waits, Without, Refused, Wrote}
use Rattle.writer.specs.declared.Entered.{Entered}
use Rattle.writer.specs.Typist.{run_ended, withholding, waits, unheaded, refused_at, written_as, Turn, by_answer}
use Rattle.writer.specs.Typist.{by_write, close_by, withheld, headless, judged_turn, record_turn, by_said, turn, own_close, end_by, closing_turn}
use Rattle.writer.specs.Typist.{end_turn}
use Rattle.writer.specs.Typist.{entered_of, entered_by, turn_laid}

-- r and out' are what the turn x gives in the buffer out
abbrev pub Gives : Turn → List ℕ → Entered → List ℕ → Type 0
Gives x out r out' = (r ≡ entered_of x) × (out' ≡ turn_laid x out)

pub gives_same : (x y : Turn) (out : List ℕ) {r : Entered} {out' : List ℕ} → x ≡ y → Gives x out r out' → Gives y out r out'
gives_same x y out e g = (g.0 ∙ ap entered_of e, g.1 ∙ ap (λ (z : Turn). turn_laid z out) e)

-- ---- an entry

module _ (t : Typist) (n : ℕ) (e : Entry) (room : ℕ) where
  pub is-withheld : withheld t e ≡ true → record { typist = withholding t; fate = Withheld; bytes = [] } ≡ judged_turn t n e room
  unfolding judged_turn
  is-withheld h = rw h refl

  pub is-close : withheld t e ≡ false → e.kind ≡ 8 → close_by (write_entry t.state e record_most).answer t n e ≡ judged_turn t n e room
  unfolding judged_turn
  is-close h k = rw (h, k) refl

  pub is-judged : withheld t e ≡ false → eqb e.kind 8 ≡ false → by_write t n e (write_entry t.state e room) ≡ judged_turn t n e room
  unfolding judged_turn
  is-judged h k = rw (h, k) refl

  pub is-headless : headless t e ≡ true → record { typist = unheaded t n; fate = Without; bytes = [] } ≡ record_turn t n e room
  unfolding record_turn
  is-headless h = rw h refl

  pub not-headless : headless t e ≡ false → judged_turn (run_ended t) n e room ≡ record_turn t n e room
  unfolding record_turn
  not-headless h = rw h refl

-- a close writes nothing yet
pub close-waits : (a : Answer) (t : Typist) (n : ℕ) (e : Entry) (out : List ℕ) → out ≡ turn_laid (close_by a t n e) out
close-waits (Ok u) t n e out = refl
close-waits (Err r) t n e out = refl

by_count : (a : Answer) (t : Typist) (n : ℕ) (e : Entry) (s : State) (bytes : List ℕ)
    → entered_by a t n e s (length bytes) ≡ entered_of (by_answer a t n e s bytes)
by_count (Ok u) t n e s bytes = refl
by_count (Err r) t n e s bytes = refl

-- a refusal writes nothing
same_bytes : (s : State) (k row : ℕ) (v : List ℕ) (room : ℕ) (t : Typist) (n : ℕ) (e : Entry)
    → (by_write t n e (writer.write_row s k row v room)).bytes ≡ (writer.write_row s k row v room).bytes
unfolding writer.write_row
same_bytes s k row v room t n e = go (writer.answer_of (writer.refusals s k row v room))
  where
    go : (a : Answer) → (by_write t n e (writer.by_answer a s row v)).bytes ≡ (writer.by_answer a s row v).bytes
    go (Ok u) = refl
    go (Err r) = refl

-- w is what the writer hands back for the entry, and out' its buffer
pub judged : (t : Typist) (n : ℕ) (e : Entry) (out : List ℕ) {out' : List ℕ} {w : Written} {r : Entered}
    → w ≡ writer.written_of (write_entry t.state e (length out)) → out' ≡ writer.record_laid (write_entry t.state e (length out)) out
    → r ≡ entered_by w.answer t n e w.state w.written
    → Gives (by_write t n e (write_entry t.state e (length out))) out r out'
judged t n e out p q f =
    let x = write_entry t.state e (length out) in (
      f ∙ ap (λ (y : Written). entered_by y.answer t n e y.state y.written) p ∙ by_count x.answer t n e x.state x.bytes,
      q ∙ rw (same_bytes _ _ _ _ _ t n e) refl,
    )

-- ---- the end

end-bytes : (s : State) (k row : ℕ) (v : List ℕ) (room : ℕ) (t : Typist)
    → (end_by (writer.write_row s k row v room).answer t (writer.write_row s k row v room).state (writer.write_row s k row v room).bytes).bytes
    ≡ (writer.write_row s k row v room).bytes
unfolding writer.write_row
end-bytes s k row v room t = go (writer.answer_of (writer.refusals s k row v room))
  where
    go : (a : Answer) → (end_by (writer.by_answer a s row v).answer t (writer.by_answer a s row v).state (writer.by_answer a s row v).bytes).bytes
        ≡ (writer.by_answer a s row v).bytes
    go (Ok u) = refl
    go (Err r) = refl

-- w is what the writer hands back for the close at the end, and out' its buffer
module _ (t : Typist) (out : List ℕ) {out' : List ℕ} {w : Written} (p : w ≡ writer.written_of (write_entry t.state own_close (length out)))
    (q : out' ≡ writer.record_laid (write_entry t.state own_close (length out)) out) where
  buffer-closed : out' ≡ turn_laid (closing_turn t (length out)) out
  buffer-closed = q ∙ rw (end-bytes _ _ _ _ _ t) refl

  pub closes : w.answer ≡ Ok tt → {u : Typist} → u ≡ written_as t own_close w.state
      → Gives (closing_turn t (length out)) out (record { typist = u; fate = Wrote 8; written = w.written }) out'
  closes a g =
      let x = write_entry t.state own_close (length out) in
      let answer : x.answer ≡ Ok tt = ap (λ (y : Written). y.answer) (sym p) ∙ a in
      (rw (g, p, answer) refl, buffer-closed)

  pub stays_open : {f : Refusal} → w.answer ≡ Err f
      → Gives (closing_turn t (length out)) out (record { typist = t; fate = Nothing; written = 0 }) out'
  stays_open a =
      let x = write_entry t.state own_close (length out) in
      let answer = ap (λ (y : Written). y.answer) (sym p) ∙ a in
      (rw answer refl, buffer-closed)

module _ (good : Bool) (t : Typist) (room : ℕ) where
  pub end-closing : good && is_some t.waiting.close ≡ true → closing_turn (run_ended t) room ≡ end_turn good t room
  unfolding end_turn
  end-closing h = rw h refl

  pub end-open : good && is_some t.waiting.close ≡ false → record { typist = run_ended t; fate = Nothing; bytes = [] } ≡ end_turn good t room
  unfolding end_turn
  end-open h = rw h refl

-- ---- in the buffer, test by test

module _ (t : Typist) (n : ℕ) (e : Entry) (room : ℕ) where
  pub gives-withheld : withheld t e ≡ true → {x : Typist} → x ≡ withholding t → (out : List ℕ)
      → Gives (judged_turn t n e room) out (record { typist = x; fate = Withheld; written = 0 }) out
  gives-withheld h g out = gives_same _ _ out (is-withheld t n e room h) (rw g refl, refl)

  pub gives-close : withheld t e ≡ false → e.kind ≡ 8 → {r : Entered} → r ≡ entered_of (close_by (write_entry t.state e record_most).answer t n e)
      → (out : List ℕ) → Gives (judged_turn t n e room) out r out
  gives-close h k g out =
      gives_same _ _ out (is-close t n e room h k) (g, close-waits (write_entry t.state e record_most).answer t n e out)

  pub gives-headless : {b : Bool} → b ≡ is_of_group e.kind → b && is_some t.lost ≡ true → {x : Typist} → x ≡ unheaded t n → (out : List ℕ)
      → Gives (record_turn t n e room) out (record { typist = x; fate = Without; written = 0 }) out
  gives-headless i f g out = gives_same _ _ out (is-headless t n e room (rw i at f)) (rw g refl, refl)

  pub gives-on : {b : Bool} → b ≡ is_of_group e.kind → b && is_some t.lost ≡ false → {u : Typist} → u ≡ run_ended t → (out : List ℕ)
      {r : Entered} {out' : List ℕ} → Gives (judged_turn u n e room) out r out' → Gives (record_turn t n e room) out r out'
  gives-on i f g out p = gives_same _ _ out (not-headless t n e room (rw i at f)) (rw g at p)

pub gives-judged : (t : Typist) (n : ℕ) (e : Entry) (out : List ℕ) → withheld t e ≡ false → (e.kind ≡ 8 → ⊥)
    → {out' : List ℕ} {w : Written} {r : Entered}
    → w ≡ writer.written_of (write_entry t.state e (length out)) → out' ≡ writer.record_laid (write_entry t.state e (length out)) out
    → r ≡ entered_by w.answer t n e w.state w.written → Gives (judged_turn t n e (length out)) out r out'
gives-judged t n e out h k p q f = gives_same _ _ out (is-judged t n e (length out) h (ne_eqb _ _ k)) (judged t n e out p q f)

-- w is what the writer hands back for a close that is judged
module _ (t : Typist) (n : ℕ) (e : Entry) {w : Written} (p : w ≡ writer.written_of (write_entry t.state e record_most)) where
  pub close-right : w.answer ≡ Ok tt → {x : Typist} → x ≡ waits t n
      → record { typist = x; fate = Waits; written = 0 } ≡ entered_of (close_by (write_entry t.state e record_most).answer t n e)
  close-right a g = let answer = ap (λ (y : Written). y.answer) (sym p) ∙ a in rw (g, answer) refl

  pub close-refused : {f : Refusal} → w.answer ≡ Err f → {x : Typist} → x ≡ refused_at t n e.kind f.code
      → record { typist = x; fate = Refused e.kind f; written = 0 } ≡ entered_of (close_by (write_entry t.state e record_most).answer t n e)
  close-refused a g = let answer = ap (λ (y : Written). y.answer) (sym p) ∙ a in rw (g, answer) refl

-- the line's own words make the turn
pub said-turn : (t : Typist) (n : ℕ) (xs : List ℕ) (room : ℕ) {line : Line} → line ≡ line_said xs
    → by_said line.said t n line.entry room ≡ turn t n xs room
unfolding turn
said-turn t n xs room e = ap (λ (l : Line). by_said l.said t n l.entry room) e
