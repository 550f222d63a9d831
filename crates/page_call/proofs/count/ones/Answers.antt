-- `page_call::count::ones`: a byte 1 is the first of those that are left, and any other is none of them (`ones-here`, `ones-not`).
-- Assumes nothing.
use Prim.Native.Nat.{ℕ}
use lib.ListN.{length}
use mathlib.Core.List.{List}
use mathlib.Core.Path.{ap}
use native.Mathlib.Omega.{arith}
use Rattle.pages.proofs.WritingLaws.{ones-end, ones-here, ones-length, ones-not}
use Rattle.page_call.proofs.count.ones.Goals as goal
use Rattle.page_call.proofs.count.ones.Goals.{then-part-q-eq1, else-part-q-eq1}

pub overflow_add-count : goal.overflow_add-count
overflow_add-count c =
    let l = c.loop-q in
    let part = c.args.part.now in
    let e = ap (λ (qs : List ℕ). length qs) (ones-here part l.q (omega arith) c.if-part-q-eq1.true) in
    omega (arith, e, l.invariant.counted, ones-length part 0)

pub loop-q-preserved : goal.loop-q-preserved
loop-q-preserved c =
    let l = c.loop-q in
    let part = c.args.part.now in
    record {
      counted = elim c.if-part-q-eq1.branch [
        | then-part-q-eq1 w ↦ let e = ap (λ (qs : List ℕ). length qs) (ones-here part l.q (omega arith) w.if-part-q-eq1.true) in omega (arith, w.count-is, e, l.invariant.counted)
        | else-part-q-eq1 w ↦ let e = ap (λ (qs : List ℕ). length qs) (ones-not part l.q (omega arith) w.if-part-q-eq1.false) in omega (arith, w.count-is, e, l.invariant.counted)
      ];
    }

pub returns : goal.returns
returns c =
    let l = c.loop-q in
    let part = c.args.part.now in
    let e = ap (λ (qs : List ℕ). length qs) (ones-end part l.q (omega arith)) in
    omega (arith, e, l.invariant.counted)
