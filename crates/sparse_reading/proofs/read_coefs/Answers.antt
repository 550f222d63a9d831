-- `sparse_reading::read_coefs`: the place is where row i starts, and the coefficients of the first i rows are read.
-- Assumes nothing.
use Rattle.std.proofs.Common.{◌*◌, ◌+◌, ◌-◌, ◌≤◌, ℕ, ℤ, length, List, ◌∙◌, ◌≡◌, ap₂, sym, arith}
use Rattle.little_endian.specs.Pieces.{list_of, overwrite, part}
use Rattle.little_endian.proofs.PieceLaws.{length-joined, length-list_of, length_part, overwrite-all, overwrite-part, overwrite-start, overwrite-turn, piece-within}
use Rattle.model.specs.Checks.{first}
use Rattle.sparse_layout.specs.SparseBook.{count_at, dense_at, row_in, row_start, sparse_coefs_of}
use Rattle.sparse_layout.specs.SparseChecks.{row_entry_checks}
use Rattle.sparse_layout.proofs.CheckingLaws.{row-passed, walk_inside, walk-next}
use Rattle.sparse_layout.proofs.SparseAcceptLaws.{length-sparse_coefs}
use Rattle.sparse_layout.proofs.SparseTripLaws.{start_first}
use Rattle.sparse_reading.proofs.read_coefs.Goals as goal

-- the part lent is as long as a row
lent_length : (k n : ℕ) (xs : List ℤ) → k + n ≤ length xs → length (part k (k + n - k) xs) ≡ n
lent_length k n xs h = let e : k + n - k ≡ n = omega arith in rw e (length_part k n xs h)

pub loop-i-init : goal.loop-i-init
unfolding sparse_coefs_of
loop-i-init c = (sym (start_first _ _), overwrite-start 0 _ _)

pub read_row-requires : goal.read_row-requires
read_row-requires c =
    let a = c.args in
    let i = c.loop-i.i in
    let bs = a.book.now in
    let w = piece-within c.args.m c.args.n c.loop-i.i c.loop-i-test.true in
    let lent = lent_length (i * a.n) a.n c.loop-i.coefs (omega arith) in (
      walk_inside c.requires.0 c.loop-i.p c.loop-i.i c.loop-i.invariant.0 c.loop-i-test.true,
      ap₂ (λ (k q : ℕ). first (row_entry_checks k bs q)) lent c.loop-i.invariant.0 ∙ row-passed a.n a.m bs c.requires.1 i c.loop-i-test.true,
    )

pub row_count-requires : goal.row_count-requires
row_count-requires c = omega (arith, walk_inside c.requires.0 c.loop-i.p c.loop-i.i c.loop-i.invariant.0 c.loop-i-test.true)

pub overflow_add-p-in-loop-i : goal.overflow_add-p-in-loop-i
overflow_add-p-in-loop-i c = omega (arith, walk_inside c.requires.0 c.loop-i.p c.loop-i.i c.loop-i.invariant.0 c.loop-i-test.true, c.row_count.ensures)

pub loop-i-preserved : goal.loop-i-preserved
unfolding sparse_coefs_of
loop-i-preserved c =
    let a = c.args in
    let bs = a.book.now in
    let i = c.loop-i.i in
    let n = a.n in
    let f : ℕ → List ℤ = λ r. (row_in n bs (row_start n bs r)).coefs in
    let new = c.read_row.new.row in
    let start = c.loop-i.invariant.0 in
    let w = piece-within c.args.m c.args.n c.loop-i.i c.loop-i-test.true in
    let lent = lent_length (i * n) n c.loop-i.coefs (omega arith) in
    let e : i * n + n - i * n ≡ n = omega arith in
    let row : new ≡ f i = c.read_row.ensures ∙ ap₂ (λ (k q : ℕ). list_of k (dense_at q bs (count_at q bs))) lent start in
    let pieces = length-joined i n f (λ r _. length-list_of n _) in (
      walk-next n bs c.loop-i.p i _ start c.row_count.ensures,
      rw e (overwrite-part (i * n) n new c.loop-i.coefs (c.read_row.auto.row ∙ lent)
          ∙ ap₂ (overwrite (i * n)) row c.loop-i.invariant.1
          ∙ overwrite-turn 0 (i * n) i f a.coefs.now (omega (arith, pieces)) (omega (arith, length-list_of n (dense_at (row_start n bs i) bs (count_at (row_start n bs i) bs))))),
    )

pub returns : goal.returns
returns c =
    let a = c.args in
    let end : c.loop-i.i ≡ a.m = omega arith in
    rw end at c.loop-i.invariant.1
    ∙ overwrite-all (sparse_coefs_of a.n a.m a.book.now) a.coefs.now (omega (arith, length-sparse_coefs a.n a.m a.book.now))
