-- Laws of the reduction: with buffers as the book needs them, reading is refused by the book's own faults alone, and what is
-- read is the model that `output` starts from.
use Prim.Native.Nat.{◌*◌, ◌+◌, ◌-◌, ◌≤◌, ℕ}
use borrow.Author.Tests.{eq-eqb, ne_eqb}
use lib.IntN.{ℤ}
use lib.ListN.{length, length-replicate, replicate, replicate-append-replicate, take}
use lib.Seq.{length-take-le, take_at}
use mathlib.Core.List.{List, [], ◌++◌}
use mathlib.Core.Path.{◌∙◌, ◌≡◌, ap, refl, sym}
use native.Mathlib.Decide.{ℕ_discrete}
use native.Mathlib.Nat.{mul-le-mul_right}
use native.Mathlib.Omega.{arith}
use Rattle.model.specs.Checks.{first, length_checks}
use Rattle.model.specs.Limits.{max_rows, max_variables}
use Rattle.model.proofs.CheckLaws.{first-go, first-none, length-test}
use Rattle.book.specs.Answers.{bounds_read, coefs_read, kinds_read, read_call, read_fault, refused, rhs_read, sizes_are, unless}
use Rattle.book.specs.Book.{decode}
use Rattle.book.specs.BookChecks.{book_checks, book_fault, head_checks, model_number_checks, read_checks}
use Rattle.book.proofs.AcceptLaws.{head-numbered}
use Rattle.book.proofs.AnswerLaws.{accepted-by, becomes, refused-by}
use Rattle.intake.proofs.CheckLaws.{accepted}
use Rattle.report.specs.Report.{refused_line}
use Rattle.report.proofs.ReportLaws.{report-kindless}
use Rattle.model.specs.State.{State, state_of}
use Rattle.model.specs.Model.{model_of}
use Rattle.model.specs.Rows.{Rows, rows_of}
use Rattle.model.specs.Valid.{ValidState}
use Rattle.rounds.specs.Rounds.{run_rounds}
use Rattle.semantics.specs.Run.{run}
use Rattle.call_laws.proofs.Preserved.{run-preserves}
use Rattle.demands.proofs.Demand3.{handed-in-valid}
use Rattle.reduction.specs.Answers.{Answer, Leaves, Ready, Sized}
use Rattle.std.specs.Prelude.{Ok, Err, Some, None}
use Rattle.reduction.specs.Output.{left_text, output_as, rounds_text, state_read, zeros}
use Rattle.reduction.specs.declared.Form.{Form}
use Rattle.reduction.specs.declared.Form.TheVariants as forms
use Rattle.reduction.proofs.OutputLaws.{book-handed-in}

-- what is refused is refused by the fault
pub refused-fault : (fault number p q : ℕ) → refused number ≡ unless fault (sizes_are p q) → (number ≡ fault) × (fault ≡ 0 → ⊥)
refused-fault fault number p q e = go (ℕ_discrete fault 0)
  where
    go : Dec (fault ≡ 0) → (number ≡ fault) × (fault ≡ 0 → ⊥)
    go (yes z) =
        let h : refused number ≡ sizes_are p q = e ∙ sym (accepted-by z (sizes_are p q)) in
        let y : ◌≡◌ {A = ℕ} 0 1 = cc in
        absurd (let w : ⊥ = omega arith in w)
    go (no n) = let h : refused number ≡ refused fault = e ∙ sym (refused-by refl n (sizes_are p q)) in ((cc), n)

module _ {bs : List ℕ} {s : State} (h : Ready bs s) where
  abbrev B : List ℤ
  B = s.model.box

  abbrev A : Rows
  A = s.model.rows

  -- the lengths pass check 5
  lengths-pass : first (length_checks (model_of (decode bs).n (decode bs).m B A)) ≡ 0
  unfolding length_checks
  lengths-pass =
      let z = h.sized in
      let l = h.lengths in
      rw (← z.variables, ← z.rows) ((first-none (length_checks s.model) tt).1 ((length-test s.model).1 (l.box, l.coefs, l.rhs, h.kinds), tt))

  read-fault : read_fault bs B A ≡ book_fault bs
  unfolding read_fault book_fault read_checks book_checks length_checks
  read-fault =
      let head = h.sized.head in
      let lengths = length_checks (model_of (decode bs).n (decode bs).m B A) in
      let numbers = model_number_checks (decode bs) in
      first-go (head_checks bs) (lengths ++ numbers) (head-numbered bs) head
      ∙ first-go lengths numbers tt lengths-pass
      ∙ sym (first-go (head_checks bs) numbers (head-numbered bs) head)

  -- reading is refused: so is the book
  pub refused-output : (form : Form) (limit number : ℕ) → refused number ≡ read_call bs B A → refused_line number ≡ output_as form limit bs
  unfolding read_call output_as
  refused-output form limit number e =
      let r = refused-fault (read_fault bs B A) number _ _ e in
      let k : book_fault bs ≡ 0 → ⊥ = λ z. r.1 (read-fault ∙ z) in
      rw (ne_eqb (book_fault bs) 0 k) (ap refused_line (r.0 ∙ read-fault))

  -- reading is accepted: so is the book, and what is read is its model
  module _ (p q : ℕ) (e : sizes_are p q ≡ read_call bs B A) where
    passed : read_fault bs B A ≡ 0
    unfolding read_call
    passed = (accepted (read_fault bs B A) _ _ p q (sym e)).0

    pub accepted-output : (form : Form) (limit : ℕ) → output_as form limit bs ≡ rounds_text form limit (state_read bs)
    unfolding output_as
    accepted-output form limit = rw (eq-eqb (book_fault bs) 0 (sym read-fault ∙ passed))

    pub accepted-state : {B' C' R' : List ℤ} {K' : List ℕ}
        → B' ≡ bounds_read bs B A → C' ≡ coefs_read bs B A → R' ≡ rhs_read bs B A → K' ≡ kinds_read bs B A
        → state_of s.model.n s.model.m B' (rows_of C' R' K') s.table ≡ state_read bs
    unfolding state_read state_of bounds_read coefs_read rhs_read kinds_read
    accepted-state b c r k =
        let b' = b ∙ sym (becomes passed B (decode bs).box) in
        let c' = c ∙ sym (becomes passed A.coefs (decode bs).rows.coefs) in
        let r' = r ∙ sym (becomes passed A.rhs (decode bs).rows.rhs) in
        let k' = k ∙ sym (becomes passed A.kinds (decode bs).rows.kinds) in
        rw (b', c', r', k', h.table, h.sized.variables, h.sized.rows)

    -- the rounds leave it valid: so does every call
    pub accepted-valid : (limit : ℕ) → let read = state_read bs in ValidState (run read (run_rounds limit read).calls)
    accepted-valid limit =
        let read = state_read bs in
        (run-preserves read (run_rounds limit read).calls).valid (handed-in-valid read (book-handed-in bs (sym read-fault ∙ passed)))

-- a valid state is one that any answer may leave
pub leaves-valid : (a : Answer) {s : State} → ValidState s → Leaves a s
leaves-valid (Err r) v = tt
leaves-valid (Ok None) v = tt
leaves-valid (Ok (Some rounds)) v = v

-- no kind is printed, in either form: what is left without its kinds has the same text
pub left-kindless : (form : Form) (rounds n m : ℕ) (B : List ℤ) (A : Rows) (t : List ℕ)
    → left_text form rounds (state_of n m B (rows_of A.coefs A.rhs []) t) ≡ left_text form rounds (state_of n m B A t)
unfolding left_text state_of
left-kindless forms.Report rounds n m B A t = report-kindless rounds n m B A t
left-kindless forms.Paper rounds n m B A t = refl

-- ---- the buffers

pub length-zeros : (k : ℕ) → length (zeros k) ≡ k
unfolding zeros
length-zeros k = let z : ℕ = 0 in length-replicate k z

-- a part of a table all 0
pub take-zeros : (j k : ℕ) → j ≤ k → take j (zeros k) ≡ zeros j
unfolding zeros
take-zeros j k h =
    let z : ℕ = 0 in
    let e : k ≡ j + (k - j) = omega arith in
    ap (λ (r : ℕ). take j (replicate r z)) e
    ∙ ap (take j) (sym (replicate-append-replicate j (k - j) z))
    ∙ take_at (replicate j z) (replicate (k - j) z) j (length-replicate j z)

-- the parts of the largest buffers that n variables and m rows need
module _ {n m : ℕ} (few : n ≤ max_variables) (few_rows : m ≤ max_rows) where
  pub coefs-fit : m * n ≤ 15_360
  coefs-fit = omega (arith, mul-le-mul_right n few_rows)

  pub table_fits : 4 * (n * n) ≤ 65_536
  table_fits = omega (arith, mul-le-mul_right n few)

  pub parts-ready : {bs : List ℕ} (B C R : List ℤ) (K : List ℕ) {t : List ℕ} → Sized n m bs
      → 256 ≡ length B → 15_360 ≡ length C → 120 ≡ length R → 120 ≡ length K → t ≡ zeros 65_536
      → Ready bs (state_of n m (take (2 * n) B) (rows_of (take (m * n) C) (take m R) (take m K)) (take (4 * (n * n)) t))
  unfolding state_of
  parts-ready B C R K s b c r k e =
      let z : take (4 * (n * n)) _ ≡ zeros (4 * (n * n)) = ap (take (4 * (n * n))) e ∙ take-zeros (4 * (n * n)) 65_536 table_fits in
      record {
        sized = s;
        lengths = record {
          few = few;
          few_rows = few_rows;
          box = length-take-le _ _ (omega arith);
          coefs = length-take-le _ _ (omega (arith, coefs-fit));
          rhs = length-take-le _ _ (omega arith);
          table = ap length z ∙ length-zeros (4 * (n * n));
        };
        kinds = length-take-le _ _ (omega arith);
        table = z;
      }
