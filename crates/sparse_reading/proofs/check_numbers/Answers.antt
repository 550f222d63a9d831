-- `sparse_reading::check_numbers`: each flag is `all` of the tests of the rows so far; a row's coefficients are in range
-- exactly if those of its entries are (`dense-range`). Assumes nothing.
use Rattle.std.proofs.Common.{◌+◌, ℕ, ltb, get_or, Bool, ◌&&◌, List, [], ◌∷◌, ◌++◌, ◌∙◌, ◌≡◌, ap, refl, sym, arith}
use Rattle.std.proofs.lemmas.Result.{err_from_is_err_and}
use Rattle.integer.specs.Index.{all}
use Rattle.integer.proofs.Parts.{zarith}
use Rattle.model.specs.Checks.{Check, bits, box_checks, first, in_range, number_checks}
use Rattle.model.specs.Limits.{max_coef, max_rhs, min_coef, min_rhs}
use Rattle.model.proofs.CheckLaws.{accepts, ends, fails, flag-next, past, refuses}
use Rattle.little_endian.specs.Bytes.{integer_at, integers_at}
use Rattle.little_endian.proofs.ByteLaws.{number_at-byte}
use Rattle.book.specs.Book.{bounds_of}
use Rattle.book.proofs.DecodeLaws.{in_range-joined}
use Rattle.sparse_layout.specs.SparseBook.{count_at, kind_at, row_start, sparse_coefs_of, sparse_kinds_of, sparse_rhs_of, sparse_rows_of}
use Rattle.sparse_layout.proofs.CheckingLaws.{row-passed, walk_inside, walk-next}
use Rattle.sparse_layout.proofs.ReadingLaws.{bits-list_of, dense-range, one-integer}
use Rattle.sparse_layout.proofs.SparseAcceptLaws.{row-test}
use Rattle.sparse_layout.proofs.SparseTripLaws.{start_first, start-within}
use Rattle.sparse_reading.proofs.check_numbers.Invariants.{coefs-test, kind-test, rhs-test}
use Rattle.sparse_reading.proofs.check_numbers.Goals as goal

pub check_bounds-requires : goal.check_bounds-requires
check_bounds-requires c = (c.requires.0.few, omega (arith, c.requires.0.body, start-within c.args.n c.args.m c.args.book.now))

pub returns-in_err-check_bounds : goal.returns-in_err-check_bounds
unfolding number_checks
returns-in_err-check_bounds c =
    let p = err_from_is_err_and c.from_residual.result c.from_residual.ensures.1 in
    rw (p.1, p.2) (refuses _ _ _ c.in_err-check_bounds.ensures)

pub loop-i-init : goal.loop-i-init
unfolding all
loop-i-init c = record { starts = sym (start_first _ _); coefs_in = refl; rhs_in = refl; kinds_in = refl }

-- row i lies within the book
pub row_count-count-requires : goal.row_count-count-requires
row_count-count-requires c = omega (arith, walk_inside c.requires.0 c.loop-i.p c.loop-i.i c.loop-i.invariant.starts c.loop-i-test.true)

pub overflow_add-p : goal.overflow_add-p
overflow_add-p c = omega (arith, walk_inside c.requires.0 c.loop-i.p c.loop-i.i c.loop-i.invariant.starts c.loop-i-test.true, c.requires.0.short)

pub are_in_range-coefs-requires : goal.are_in_range-coefs-requires
are_in_range-coefs-requires c = λ e h. omega (arith, walk_inside c.requires.0 c.loop-i.p c.loop-i.i c.loop-i.invariant.starts c.loop-i-test.true, c.row_count-count.ensures)

pub are_in_range-rhs-requires : goal.are_in_range-rhs-requires
are_in_range-rhs-requires c = λ e h. omega (arith, walk_inside c.requires.0 c.loop-i.p c.loop-i.i c.loop-i.invariant.starts c.loop-i-test.true)

pub overflow_add-kinds : goal.overflow_add-kinds
overflow_add-kinds c = omega (arith, walk_inside c.requires.0 c.loop-i.p c.loop-i.i c.loop-i.invariant.starts c.loop-i-test.true)

pub bounds-book-p : goal.bounds-book-p
bounds-book-p c = omega (arith, walk_inside c.requires.0 c.loop-i.p c.loop-i.i c.loop-i.invariant.starts c.loop-i-test.true)

pub overflow_add-p-in-loop-i-2 : goal.overflow_add-p-in-loop-i-2
overflow_add-p-in-loop-i-2 c = omega (arith, walk_inside c.requires.0 c.loop-i.p c.loop-i.i c.loop-i.invariant.starts c.loop-i-test.true, c.row_count-count.ensures)

-- the tests of the code are those of row i
pub loop-i-preserved : goal.loop-i-preserved
unfolding kind_at
loop-i-preserved c =
    let a = c.args in
    let n = a.n in
    let i = c.loop-i.i in
    let p = c.loop-i.p in
    let bs = a.book.now in
    let q = row_start n bs i in
    let start = c.loop-i.invariant.starts in
    let inside = walk_inside c.requires.0 c.loop-i.p c.loop-i.i c.loop-i.invariant.starts c.loop-i-test.true in
    let coefs : c.are_in_range-coefs.result ≡ coefs-test n bs i =
    c.are_in_range-coefs.ensures
    ∙ ap (λ (k : ℕ). in_range min_coef max_coef (integers_at (p + 9) 6 k bs)) c.row_count-count.ensures
    ∙ ap (λ (p : ℕ). in_range min_coef max_coef (integers_at (p + 9) 6 (count_at p bs) bs)) start
    ∙ dense-range min_coef max_coef n q bs (count_at q bs) (omega zarith) (omega zarith)
    ((row-test n bs q).0 (row-passed n a.m bs c.requires.1 i c.loop-i-test.true)) in
    let rhs : c.are_in_range-rhs.result ≡ rhs-test n bs i =
    c.are_in_range-rhs.ensures
    ∙ ap (in_range min_rhs max_rhs) (one-integer p 4 bs)
    ∙ ap (λ (p : ℕ). in_range min_rhs max_rhs (integer_at p bs ∷ [])) start in
    let kind : ltb (get_or bs (p + 4) 0) 2 ≡ kind-test n bs i =
    ap (λ (x : ℕ). ltb x 2) (sym (number_at-byte (p + 4) bs (omega arith)) ∙ ap (λ (p : ℕ). kind_at p bs) start) in
    record {
      starts = walk-next n bs p i _ start c.row_count-count.ensures;
      coefs_in = ap (λ (b : Bool). c.loop-i.coefs && b) coefs ∙ flag-next (coefs-test n bs) i c.loop-i.invariant.coefs_in;
      rhs_in = ap (λ (b : Bool). c.loop-i.rhs && b) rhs ∙ flag-next (rhs-test n bs) i c.loop-i.invariant.rhs_in;
      kinds_in = ap (λ (b : Bool). c.loop-i.kinds && b) kind ∙ flag-next (kind-test n bs) i c.loop-i.invariant.kinds_in;
    }

-- past the checks of the box, what the later checks answer is the answer
past-box : {r : ℕ} (n : ℕ) (bs : List ℕ) (ys : List Check) → 0 ≡ first (box_checks n (bounds_of n bs)) → r ≡ first ys
    → r ≡ first (box_checks n (bounds_of n bs) ++ ys)
unfolding box_checks
past-box n bs ys e h = accepts (box_checks n (bounds_of n bs)) ys tt e h

-- after the last row the flags are the tests of checks 8, 9 and 16
flags : (n m : ℕ) (bs : List ℕ) (i : ℕ) (coefs rhs kinds : Bool) → i ≡ m → coefs ≡ all i (coefs-test n bs) → rhs ≡ all i (rhs-test n bs) → kinds ≡ all i (kind-test n bs)
    → let A = sparse_rows_of n m bs in (coefs ≡ in_range min_coef max_coef A.coefs) × (rhs ≡ in_range min_rhs max_rhs A.rhs) × (kinds ≡ bits A.kinds)
unfolding sparse_coefs_of sparse_rhs_of sparse_kinds_of
flags n m bs i coefs rhs kinds end c r k = (
  rw end at c ∙ sym (in_range-joined min_coef max_coef m _),
  rw end at r ∙ sym (in_range-joined min_rhs max_rhs m _),
  rw end at k ∙ sym (bits-list_of m _),
)

pub returns-then-not-coefs : goal.returns-then-not-coefs
unfolding number_checks
returns-then-not-coefs c =
    let a = c.args in
    let f = flags a.n a.m a.book.now c.loop-i.i c.loop-i.coefs c.loop-i.rhs c.loop-i.kinds (omega arith)
    c.loop-i.invariant.coefs_in c.loop-i.invariant.rhs_in c.loop-i.invariant.kinds_in in
    let box = c.in_ok-check_bounds.ensures in
    past-box a.n a.book.now _ box (fails _ 8 _ (sym f.0 ∙ c.if-not-coefs.true))

pub returns-then-not-rhs : goal.returns-then-not-rhs
unfolding number_checks
returns-then-not-rhs c =
    let a = c.args in
    let f = flags a.n a.m a.book.now c.loop-i.i c.loop-i.coefs c.loop-i.rhs c.loop-i.kinds (omega arith)
    c.loop-i.invariant.coefs_in c.loop-i.invariant.rhs_in c.loop-i.invariant.kinds_in in
    let box = c.in_ok-check_bounds.ensures in
    past-box a.n a.book.now _ box (past _ 8 _ (sym f.0 ∙ c.if-not-coefs.false) (fails _ 9 _ (sym f.1 ∙ c.if-not-rhs.true)))

pub returns-then-not-kinds : goal.returns-then-not-kinds
unfolding number_checks
returns-then-not-kinds c =
    let a = c.args in
    let f = flags a.n a.m a.book.now c.loop-i.i c.loop-i.coefs c.loop-i.rhs c.loop-i.kinds (omega arith)
    c.loop-i.invariant.coefs_in c.loop-i.invariant.rhs_in c.loop-i.invariant.kinds_in in
    let box = c.in_ok-check_bounds.ensures in
    past-box a.n a.book.now _ box
    (past _ 8 _ (sym f.0 ∙ c.if-not-coefs.false) (past _ 9 _ (sym f.1 ∙ c.if-not-rhs.false) (fails _ 16 _ (sym f.2 ∙ c.if-not-kinds.true))))

pub returns : goal.returns
unfolding number_checks
returns c =
    let a = c.args in
    let f = flags a.n a.m a.book.now c.loop-i.i c.loop-i.coefs c.loop-i.rhs c.loop-i.kinds (omega arith)
    c.loop-i.invariant.coefs_in c.loop-i.invariant.rhs_in c.loop-i.invariant.kinds_in in
    let box = c.in_ok-check_bounds.ensures in
    past-box a.n a.book.now _ box
    (past _ 8 _ (sym f.0 ∙ c.if-not-coefs.false) (past _ 9 _ (sym f.1 ∙ c.if-not-rhs.false) (past _ 16 _ (sym f.2 ∙ c.if-not-kinds.false) ends)))
