-- `sparse_checks::head::walk_ends`: a row starts where the one before it ends, and a walk beyond `end` never comes back.
-- Assumes nothing.
use Rattle.std.proofs.Common.{ℕ, ◌≡◌, ap, sym, eqb, arith}
use Rattle.sparse_layout.proofs.CheckingLaws.{walk-next, walk-short}
use Rattle.sparse_layout.proofs.SparseTripLaws.{start_first}
use Rattle.sparse_checks.proofs.head.walk_ends.Goals as goal

pub loop-i-init : goal.loop-i-init
loop-i-init c = (sym (start_first _ _), omega arith)

pub returns-then-end-p : goal.returns-then-end-p
returns-then-end-p c =
    let a = c.args in
    sym (walk-short a.n a.book.now a.m c.loop-i.i a.end c.loop-i-test.true (omega arith))

pub loop-i-preserved : goal.loop-i-preserved
loop-i-preserved c =
    (walk-next c.args.n c.args.book.now c.loop-i.p c.loop-i.i _ c.loop-i.invariant.0 c.row_count.ensures, omega arith)

pub returns : goal.returns
returns c =
    let a = c.args in
    let end : c.loop-i.i ≡ a.m = omega arith in
    ap (λ (q : ℕ). eqb q a.end) (rw end at c.loop-i.invariant.0)
