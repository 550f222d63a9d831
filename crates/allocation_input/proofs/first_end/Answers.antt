-- `allocation_input::first_end`: no place so far ends a book: the first that does is the lowest (`end-here`).
use Prim.Native.Nat.{◌+◌}
use lib.ListN.{length}
use lib.Seq.{length-take-le}
use mathlib.Core.Path.{◌≡◌, ◌∙◌, sym}
use native.Mathlib.Omega.{arith}
use Rattle.integer.specs.Index.{all}
use Rattle.allocation_input.specs.Input.{first_end, no_book}
use Rattle.allocation_input.proofs.InputLaws.{book-ends, end-further, end-here, end-nowhere, no-book-ends}
use Rattle.allocation_input.proofs.CheckedLaws.{passed-fault, unpassed-fault}
use Rattle.allocation_input.proofs.first_end.Goals as goal

pub loop-end-init : goal.loop-end-init
unfolding all
loop-end-init c = tt

pub slice_bounds-check_head-end : goal.slice_bounds-check_head-end
slice_bounds-check_head-end c = sym (length-take-le _ _ (omega arith))

pub returns-then-is_ok : goal.returns-then-is_ok
unfolding first_end
returns-then-is_ok c =
    let bs = c.args.input.now in
    end-here bs (no_book bs) c.loop-end.end (omega arith) c.loop-end.invariant (book-ends bs c.loop-end.end (sym c.check_head.ensures ∙ passed-fault c.check_head.result (sym c.is_ok.ensures.value ∙ c.if-is_ok.true)))

pub loop-end-preserved : goal.loop-end-preserved
loop-end-preserved c =
    let bs = c.args.input.now in
    end-further bs (no_book bs) c.loop-end.end c.loop-end.invariant (no-book-ends bs c.loop-end.end (λ z. unpassed-fault c.check_head.result (sym c.is_ok.ensures.value ∙ c.if-is_ok.false) (c.check_head.ensures ∙ z)))

pub returns : goal.returns
unfolding first_end
returns c =
    let bs = c.args.input.now in
    let e : c.loop-end.end ≡ length bs + 1 = omega arith in
    sym e ∙ end-nowhere bs (no_book bs) c.loop-end.end e c.loop-end.invariant
