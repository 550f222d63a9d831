-- The last 16 bytes and the length tell what the first edition refuses (`head-refused`), and of what it does not refuse
-- so the whole input tells which edition it is; it is no longer than `start`, so it is held whole.
use Rattle.std.proofs.Common.{◌≡◌, ◌≤◌, ◌∙◌, ap, sym, refl, ℕ, List, length, arith}
use Rattle.std.proofs.Math.Seq.{length-take-le}
use Rattle.model.specs.Checks.{first}
use Rattle.book.specs.Answers.{sizes_answer}
use Rattle.book.specs.BookChecks.{head_checks}
use Rattle.sparse_layout.specs.SparseChecks.{sparse_fault}
use Rattle.convert.specs.Answers.{answer_bytes}
use Rattle.convert.specs.Output.{first_edition, sparse_edition}
use Rattle.convert.proofs.ConvertLaws.{accepted-input, first-framed, first-input, head_passed, head-refused, held_whole, not-sparse, other-edition, sparse-input}
use Rattle.model.specs.Refusals.{number_of}
use Rattle.convert.proofs.CheckedLaws.{passed-fault, unpassed-fault}
use Rattle.convert.proofs.conversion.convert.Goals as goal

pub returns-then-is_first-clause-bytes : goal.returns-then-is_first-clause-bytes
unfolding answer_bytes sizes_answer
returns-then-is_first-clause-bytes c = λ bs h.
    let r = head-refused bs (number_of c.in-Err.refusal) (c.in-Err.ensures.right bs h.size h.end) in
    r.2 ∙ sym (not-sparse bs r.1 (λ e. c.if-is_first.true (c.number.ensures ∙ r.0 ∙ e ∙ sym c.number-in-Err.ensures)))

pub first_edition-requires : goal.first_edition-requires
unfolding sizes_answer
first_edition-requires c =
    let h = c.requires.by_index in
    let r = head-refused h.0 (number_of c.in-Err.refusal) (c.in-Err.ensures.right h.0 h.1.size h.1.end) in
    let w = held_whole h.1 (omega arith) in
    (other-edition _ (ap (λ (bs : List ℕ). first (head_checks bs)) w ∙ sym r.0 ∙ sym c.number.ensures ∙ c.if-is_first.false ∙ c.number-in-Err.ensures), c.requires.max_sparse_value.1)

pub returns-in-Err-clause-bytes : goal.returns-in-Err-clause-bytes
unfolding sizes_answer
returns-in-Err-clause-bytes c = λ bs h.
    let r = head-refused bs (number_of c.in-Err.refusal) (c.in-Err.ensures.right bs h.size h.end) in
    c.first_edition.ensures.bytes
    ∙ ap first_edition (held_whole h (omega arith))
    ∙ sym (sparse-input bs (sym r.0 ∙ sym c.number.ensures ∙ c.if-is_first.false ∙ c.number-in-Err.ensures) (omega (arith, h.size)))

-- the sizes are accepted, so the input is as long as a book of the first edition
pub slice_bounds-book-end : goal.slice_bounds-book-end
unfolding sizes_answer
slice_bounds-book-end c =
    let s = c.in_default.ensures.sized c.in_default.field-0.n c.in_default.field-0.m refl in
    sym (length-take-le _ _ (omega (arith, s.short, c.requires.max_sparse_value.0)))

pub first_edition-requires-then-is_sparse : goal.first_edition-requires-then-is_sparse
unfolding sizes_answer
first_edition-requires-then-is_sparse c =
    let h = c.requires.by_index in
    let s = c.in_default.ensures.sized c.in_default.field-0.n c.in_default.field-0.m refl in
    let within : c.args.len ≤ length c.args.start.now = omega (arith, s.short, c.requires.max_sparse_value.0) in
    let passed = head_passed h.0 _ _ (c.in_default.ensures.right h.0 h.1.size h.1.end) in
    (rw (held_whole h.1 within) (first-framed h.0 passed), c.requires.max_sparse_value.1)

pub returns-then-is_sparse-clause-bytes : goal.returns-then-is_sparse-clause-bytes
unfolding sizes_answer
returns-then-is_sparse-clause-bytes c = λ bs h.
    let s = c.in_default.ensures.sized c.in_default.field-0.n c.in_default.field-0.m refl in
    let within : c.args.len ≤ length c.args.start.now = omega (arith, s.short, c.requires.max_sparse_value.0) in
    let w = held_whole h within in
    let accepted = ap sparse_fault (sym w) ∙ sym c.check_sparse.ensures ∙ passed-fault c.check_sparse.result (sym c.is_ok-is_sparse.ensures.value ∙ c.if-is_sparse.true) in
    c.first_edition-then-is_sparse.ensures.bytes
    ∙ ap first_edition w
    ∙ sym (accepted-input bs accepted (omega (arith, h.size, within, c.requires.max_sparse_value.0)))

pub returns-clause-bytes : goal.returns-clause-bytes
unfolding sizes_answer
returns-clause-bytes c = λ bs h.
    let s = c.in_default.ensures.sized c.in_default.field-0.n c.in_default.field-0.m refl in
    let within : c.args.len ≤ length c.args.start.now = omega (arith, s.short, c.requires.max_sparse_value.0) in
    let w = held_whole h within in
    let passed = head_passed bs _ _ (c.in_default.ensures.right bs h.size h.end) in
    let faulty = λ (z : sparse_fault bs ≡ 0). unpassed-fault c.check_sparse.result (sym c.is_ok-is_sparse.ensures.value ∙ c.if-is_sparse.false) (c.check_sparse.ensures ∙ ap sparse_fault w ∙ z) in
    c.sparse_edition.ensures.bytes
    ∙ ap sparse_edition w
    ∙ sym (first-input bs faulty (λ e. let z : ⊥ = omega (arith, passed, e) in z))
