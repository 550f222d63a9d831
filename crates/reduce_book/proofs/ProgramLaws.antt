-- Laws of the program: an input is refused, or held whole, as its last 16 bytes and its length say; what the rounds leave can be
-- printed. Assumes nothing.
use Prim.Native.Nat.{◌≤◌, ℕ}
use borrow.Author.Tests.{ne_eqb}
use lib.IntN.{ℤ}
use lib.ListN.{length, take}
use mathlib.Core.List.{List, [], ◌++◌}
use mathlib.Core.Path.{◌∙◌, ◌≡◌, ap, sym}
use native.Mathlib.Omega.{arith}
use Rattle.model.specs.Checks.{first}
use Rattle.model.proofs.CheckLaws.{first-stop}
use Rattle.book.specs.Answers.{refused, sizes_are}
use Rattle.book.specs.Book.{decode, model_in, rows, trailer_of, variables}
use Rattle.book.specs.BookChecks.{book_checks, book_fault, head_checks, model_number_checks}
use Rattle.little_endian.specs.Bytes.{Bytes}
use Rattle.intake.specs.Checks.{head_call}
use Rattle.intake.specs.Intake.{Held}
use Rattle.intake.proofs.CheckLaws.{accepted}
use Rattle.pages.specs.Page.{Paper}
use Rattle.pages.proofs.PageLaws.{paper-valid}
use Rattle.report.specs.Report.{Printable, refused_line}
use Rattle.streams.specs.Input.{RefusedSoFar}
use Rattle.model.specs.State.{state_of}
use Rattle.model.specs.Rows.{Rows, rows_of}
use Rattle.model.specs.Valid.{ValidState}
use Rattle.reduction.specs.Answers.{Sized}
use Rattle.reduction.specs.Output.{output_as}
use Rattle.reduction.specs.declared.Form.{Form}
use Rattle.reduction.proofs.ReductionLaws.{refused-fault}

-- a valid state can be printed, in either form; its kinds are not
pub left-prints : (n m : ℕ) (B : List ℤ) (A : Rows) (t : List ℕ) → ValidState (state_of n m B A t)
    → Printable (state_of n m B (rows_of A.coefs A.rhs []) t) × Paper n B
unfolding state_of
left-prints n m B A t v = let M = v.model in (
  record { few = M.few; few_rows = M.few_rows; box = M.box.len; coefs = M.coefs_len; rhs = M.rhs_len; table = v.table.len },
  paper-valid n B M.few M.box,
)

-- an input that is refused by its last 16 bytes and its length: so is the book
pub head-output : (form : Form) (limit : ℕ) (bs : List ℕ) (number : ℕ) → refused number ≡ head_call bs → refused_line number ≡ output_as form limit bs
unfolding head_call output_as book_fault book_checks
head-output form limit bs number e =
    let r = refused-fault (first (head_checks bs)) number _ _ e in
    let f : book_fault bs ≡ first (head_checks bs) = first-stop (head_checks bs) (model_number_checks (decode bs)) r.1 in
    rw (ne_eqb (book_fault bs) 0 (λ z. r.1 (sym f ∙ z))) (ap refused_line (r.0 ∙ sym f))

-- an input of which no more is read, for it is refused whatever follows: every book that starts so prints `refused 2`
pub too-long-output : {bs : List ℕ} → RefusedSoFar bs → (form : Form) (limit : ℕ) (more : List ℕ) → Bytes (bs ++ more) → refused_line 2 ≡ output_as form limit (bs ++ more)
too-long-output {bs} h form limit more b = head-output form limit (bs ++ more) 2 (sym (h.refusal more b))

sized-head : (bs : List ℕ) {n m : ℕ} → first (head_checks bs) ≡ 0 → variables (trailer_of bs) ≡ n → rows (trailer_of bs) ≡ m → Sized n m bs
unfolding decode model_in
sized-head bs z v w = record { head = z; variables = sym v; rows = sym w }

-- an accepted input that is held whole is a book that says n and m
pub held-sized : {bs start tail : List ℕ} {len n m : ℕ} → Held bs start tail len → len ≤ length start → sizes_are n m ≡ head_call bs → Sized n m (take len start)
unfolding head_call
held-sized {bs} {start} {tail} {len} h k e =
    let a = accepted (first (head_checks bs)) _ _ _ _ (sym e) in
    let w : take len start ≡ bs = ap (λ (r : ℕ). take r start) h.size ∙ h.whole (omega (arith, h.size)) in
    rw w (sized-head bs a.0 a.1 a.2)
