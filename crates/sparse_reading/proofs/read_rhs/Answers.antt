-- `sparse_reading::read_rhs`: row i lies within the book, and its right side overwrites place i. Assumes nothing.
use Rattle.std.proofs.Common.{ℕ, ℤ, length, List, [], ◌∷◌, ◌∙◌, ◌≡◌, ap, ap₂, sym, to_z-of_z, w32, SFits, arith}
use Rattle.little_endian.specs.Bytes.{integer_at}
use Rattle.little_endian.specs.Pieces.{overwrite}
use Rattle.little_endian.proofs.PieceLaws.{length-list_of, overwrite-all, overwrite-one, overwrite-start, overwrite-turn}
use Rattle.sparse_layout.specs.SparseBook.{row_start, sparse_rhs_of}
use Rattle.sparse_layout.proofs.CheckingLaws.{walk_inside, walk-next}
use Rattle.sparse_layout.proofs.SparseAcceptLaws.{length-sparse_rhs}
use Rattle.sparse_layout.proofs.SparseTripLaws.{start_first}
use Rattle.sparse_reading.proofs.read_rhs.Goals as goal

pub loop-b-init : goal.loop-b-init
unfolding sparse_rhs_of
loop-b-init c = (sym (start_first _ _), overwrite-start 0 _ _)

pub read_i32-requires : goal.read_i32-requires
read_i32-requires c = omega (arith, walk_inside c.requires c.loop-b.p c.loop-b.b-index c.loop-b.invariant.0 (omega arith))

pub row_count-requires : goal.row_count-requires
row_count-requires c = omega (arith, walk_inside c.requires c.loop-b.p c.loop-b.b-index c.loop-b.invariant.0 (omega arith))

pub overflow_add-p-in-loop-b : goal.overflow_add-p-in-loop-b
overflow_add-p-in-loop-b c = omega (arith, walk_inside c.requires c.loop-b.p c.loop-b.b-index c.loop-b.invariant.0 (omega arith), c.row_count.ensures)

pub loop-b-preserved : goal.loop-b-preserved
unfolding sparse_rhs_of
loop-b-preserved c =
    let a = c.args in
    let bs = a.book.now in
    let i = c.loop-b.b-index in
    let start = c.loop-b.invariant.0 in
    let f : ℕ → List ℤ = λ k. integer_at (row_start a.n bs k) bs ∷ [] in
    let fx : SFits w32 c.read_i32.result = record { sfits = c.read_i32.type_inv } in (
      walk-next a.n bs c.loop-b.p i _ start c.row_count.ensures,
      overwrite-one i _ c.loop-b.rhs (omega arith)
          ∙ ap₂ (λ (z : ℤ) (ys : List ℤ). overwrite i (z ∷ []) ys) (to_z-of_z fx ∙ c.read_i32.ensures ∙ ap (λ (q : ℕ). integer_at q bs) start) c.loop-b.invariant.1
          ∙ overwrite-turn 0 i i f a.rhs.now (omega (arith, length-list_of i (λ k. integer_at (row_start a.n bs k) bs))) (omega arith),
    )

pub returns : goal.returns
returns c =
    let a = c.args in
    let m = length a.rhs.now in
    let end : c.loop-b.b-index ≡ m = omega arith in
    rw end at c.loop-b.invariant.1 ∙ overwrite-all (sparse_rhs_of a.n m a.book.now) a.rhs.now (length-sparse_rhs a.n m a.book.now)
