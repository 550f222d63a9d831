-- `sparse_writing::sparse_length`: the rows' entries are those of the whole matrix (`length-flat`). Assumes nothing.
use Rattle.std.proofs.Common.{◌*◌, ◌≤◌, ℕ, ℤ, List, length, [], ◌∙◌, ◌≡◌, ap, sym, arith}
use native.Mathlib.Nat.{mul-le-mul}
use Rattle.model.specs.Box.{at}
use Rattle.model.specs.Model.{model_of}
use Rattle.model.specs.Rows.{rows_of}
use Rattle.sparse_layout.specs.SparseBook.{nonzeros}
use Rattle.sparse_layout.proofs.RowLaws.{nonzeros-le}
use Rattle.sparse_layout.proofs.WritingLaws.{length-flat}
use Rattle.sparse_writing.proofs.sparse_length.Goals as goal

-- there are no more of them than coefficients
few : {count : ℕ} (n m : ℕ) (C : List ℤ) → n ≤ 128 → m ≤ 120 → length C ≡ m * n → count ≡ nonzeros (length C) (at C) → count ≤ 15_360
few n m C h k e c =
    let l : m * n ≤ 120 * 128 = mul-le-mul k h in
    omega (arith, nonzeros-le (length C) (at C))

pub overflow_mul-result-3 : goal.overflow_mul-result-3
overflow_mul-result-3 c = omega (arith, few c.args.n c.args.m c.args.coefs.now c.requires.0 c.requires.1 c.requires.2 c.nonzeros.ensures)

pub overflow_add-result : goal.overflow_add-result
overflow_add-result c = omega (arith, few c.args.n c.args.m c.args.coefs.now c.requires.0 c.requires.1 c.requires.2 c.nonzeros.ensures)

pub overflow_add-result-2 : goal.overflow_add-result-2
overflow_add-result-2 c = omega (arith, few c.args.n c.args.m c.args.coefs.now c.requires.0 c.requires.1 c.requires.2 c.nonzeros.ensures)

pub overflow_add-result-3 : goal.overflow_add-result-3
overflow_add-result-3 c = omega (arith, few c.args.n c.args.m c.args.coefs.now c.requires.0 c.requires.1 c.requires.2 c.nonzeros.ensures)

pub returns : goal.returns
returns c =
    let a = c.args in
    let C = a.coefs.now in
    let e : c.nonzeros.result ≡ nonzeros (a.m * a.n) (at C) = c.nonzeros.ensures ∙ ap (λ (k : ℕ). nonzeros k (at C)) c.requires.2 in
    rw e (sym (length-flat (model_of a.n a.m [] (rows_of C [] []))))
