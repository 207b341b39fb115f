-- Laws of what is printed: the lines' room, what stands before the rows, and one call over a part.
use Prim.Native.Nat.{ℕ, ◌*◌, ◌≤◌, ◌<◌}
use mathlib.Core.Path.{◌≡◌, ap, subst}
use mathlib.Core.List.{List, []}
use native.Mathlib.Omega.{arith}
use borrow.Author.Tests.{ltb-true, ltb-false, le-leb, lt-leb}
use lib.ListN.{length, take, drop}
use lib.Seq.{take-append_seam}
use lib.Dec.{ltb}
use Rattle.base.proofs.Tests.{of-choice}
use Rattle.line_rows.specs.declared.Form.{Form}
use Rattle.line_rows.specs.declared.Form.TheVariants.{Listing, Sheet}
use Rattle.line_rows.specs.Rows.{row_most, rows_text, header}
use Rattle.book.specs.declared.State.{State}
use Rattle.book.specs.declared.Fed.{Fed}
use Rattle.book.specs.Call.{call, fed_of, lines_laid}
use Rattle.printing.specs.Decimal.{Put}
use Rattle.lister.specs.declared.Listed.{Listed}
use Rattle.lister.specs.Listing.{line_room, head_text, Lists}

-- ---- the lines' room

pub room_most : (n r : ℕ) → r ≡ line_room n → r ≤ 16384
room_most n r e = rw e (of-choice (λ (k : ℕ). k ≤ 16384) (ltb n 65536) (λ e. let h = ltb-true n 65536 e in omega arith) (λ e. omega arith))

pub room_fits : (n r k : ℕ) → r ≡ line_room n → k ≡ r → 4 * k ≤ n
room_fits n r k e d = rw (d, e) (of-choice (λ (k : ℕ). 4 * k ≤ n) (ltb n 65536) (λ e. omega arith) (λ e. let h = ltb-false n 65536 e in omega arith))

-- ---- what stands before the rows

-- any header is shorter than the longest row
header-fits : (form : Form) → length (header form) ≤ row_most
unfolding header
header-fits Listing = omega arith
header-fits Sheet = omega arith

module _ (form : Form) (room : ℕ) where
  pub head-room : row_most ≤ room → length (header form) ≤ room
  head-room h = omega (arith, header-fits form)

  pub head-some : row_most ≤ room → head_text form room ≡ header form
  head-some h = rw (le-leb row_most room h)

  pub head-none : room < row_most → head_text form room ≡ []
  head-none h = rw (lt-leb row_most room h)

-- ---- one call over a part

pub lists : (form : Form) (s : State) (part before : List ℕ) {out out' after : List ℕ} {f : Fed} {w room : ℕ} → length before ≡ room
    → f ≡ fed_of (call s part (length before))
    → after ≡ lines_laid (call s part (length before)) before → Put out out' 0 (rows_text form (take f.written after)) w
    → Lists form (call s part room) out out' (record { state = f.state; taken = f.taken; written = w })
lists form s part before {after = after} {f = f} l e d p =
    let c = call s part (length before) in
    let t : take f.written after ≡ c.bytes = rw (e, d) (take-append_seam c.bytes (drop (length c.bytes) before)) in
    rw (← l) (record { state = ap (λ (g : Fed). g.state) e; taken = ap (λ (g : Fed). g.taken) e; text = rw t at p })

-- with a line buffer of that length
pub lists_at : (form : Form) (s : State) (part : List ℕ) {out out' : List ℕ} {r : Listed} (k room : ℕ) → k ≡ room
    → Lists form (call s part k) out out' r → Lists form (call s part room) out out' r
lists_at form s part {out} {out'} {r} k room e l = subst (λ (n : ℕ). Lists form (call s part n) out out' r) e l
