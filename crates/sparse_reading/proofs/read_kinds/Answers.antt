-- `sparse_reading::read_kinds`: row i lies within the book, and its kind overwrites place i. Assumes nothing.
use Rattle.std.proofs.Common.{◌+◌, ℕ, get_or, length, List, [], ◌∷◌, ◌∙◌, ◌≡◌, ap, ap₂, sym, arith}
use Rattle.little_endian.specs.Pieces.{overwrite}
use Rattle.little_endian.proofs.ByteLaws.{number_at-byte}
use Rattle.little_endian.proofs.PieceLaws.{length-list_of, overwrite-all, overwrite-one, overwrite-start, overwrite-turn}
use Rattle.sparse_layout.specs.SparseBook.{kind_at, row_start, sparse_kinds_of}
use Rattle.sparse_layout.proofs.CheckingLaws.{walk_inside, walk-next}
use Rattle.sparse_layout.proofs.SparseAcceptLaws.{length-sparse_kinds}
use Rattle.sparse_layout.proofs.SparseTripLaws.{start_first}
use Rattle.sparse_reading.proofs.read_kinds.Goals as goal

pub loop-kind-init : goal.loop-kind-init
unfolding sparse_kinds_of
loop-kind-init c = (sym (start_first _ _), overwrite-start 0 _ _)

pub overflow_add-kind : goal.overflow_add-kind
overflow_add-kind c = omega (arith, walk_inside c.requires c.loop-kind.p c.loop-kind.kind-index c.loop-kind.invariant.0 (omega arith))

pub bounds-book-p : goal.bounds-book-p
bounds-book-p c = omega (arith, walk_inside c.requires c.loop-kind.p c.loop-kind.kind-index c.loop-kind.invariant.0 (omega arith))

pub row_count-requires : goal.row_count-requires
row_count-requires c = omega (arith, walk_inside c.requires c.loop-kind.p c.loop-kind.kind-index c.loop-kind.invariant.0 (omega arith))

pub overflow_add-p-in-loop-kind : goal.overflow_add-p-in-loop-kind
overflow_add-p-in-loop-kind c = omega (arith, walk_inside c.requires c.loop-kind.p c.loop-kind.kind-index c.loop-kind.invariant.0 (omega arith), c.row_count.ensures)

pub loop-kind-preserved : goal.loop-kind-preserved
unfolding sparse_kinds_of kind_at
loop-kind-preserved c =
    let a = c.args in
    let bs = a.book.now in
    let i = c.loop-kind.kind-index in
    let p = c.loop-kind.p in
    let start = c.loop-kind.invariant.0 in
    let g : ℕ → ℕ = λ k. kind_at (row_start a.n bs k) bs in
    let f : ℕ → List ℕ = λ k. g k ∷ [] in
    let inside = walk_inside c.requires c.loop-kind.p c.loop-kind.kind-index c.loop-kind.invariant.0 (omega arith) in
    let kind : get_or bs (p + 4) 0 ≡ g i = sym (number_at-byte (p + 4) bs (omega arith)) ∙ ap (λ (q : ℕ). kind_at q bs) start in (
      walk-next a.n bs p i _ start c.row_count.ensures,
      overwrite-one i _ c.loop-kind.kinds (omega arith)
          ∙ ap₂ (λ (z : ℕ) (ys : List ℕ). overwrite i (z ∷ []) ys) kind c.loop-kind.invariant.1
          ∙ overwrite-turn 0 i i f a.kinds.now (omega (arith, length-list_of i g)) (omega arith),
    )

pub returns : goal.returns
returns c =
    let a = c.args in
    let m = length a.kinds.now in
    let end : c.loop-kind.kind-index ≡ m = omega arith in
    rw end at c.loop-kind.invariant.1 ∙ overwrite-all (sparse_kinds_of a.n m a.book.now) a.kinds.now (length-sparse_kinds a.n m a.book.now)
