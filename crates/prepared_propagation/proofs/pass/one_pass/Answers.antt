-- `pass::one_pass`: the invariant is `Passing`: the rows so far came to what `pass_to` says, where the workspace knows the box, and the
-- bounds moved are no more than the width that was lost in any case. Assumes nothing.
use mathlib.Core.Logic.{inl, inr}
use mathlib.Core.Path.{◌∙◌, ◌≡◌, refl}
use native.Mathlib.Omega.{arith}
use Rattle.call_laws.proofs.PropagateLaws.{moved-at-most}
use Rattle.prepared_propagation.proofs.PassLaws.{passing-all, passing-ended, passing-first, passing-lost, passing-next, passing-some, sum-small}
use Rattle.prepared_propagation.proofs.pass.one_pass.Goals as goal
use Rattle.prepared_propagation.proofs.pass.one_pass.Goals.{in-Tightened, in-Unchanged}

pub next_row-r-requires : goal.next_row-r-requires
next_row-r-requires c = let v = c.requires.0 in (omega arith, omega (arith, v.sized.few_rows), v.set)

pub loop-r-init : goal.loop-r-init
loop-r-init c =
    let t = c.next_row-r.ensures in
    passing-first c.requires.0 c.requires.1 _ t.1 t.2

pub propagate_row_prepared-requires : goal.propagate_row_prepared-requires
propagate_row_prepared-requires c = let i = c.loop-r.invariant in (i.looking, omega arith, i.lent)

pub overflow_cast-result : goal.overflow_cast-result
overflow_cast-result c = omega (arith, c.loop-r-test.true, c.requires.0.sized.few_rows)

pub returns-in-Infeasible : goal.returns-in-Infeasible
returns-in-Infeasible c =
    let v = c.propagate_row_prepared in
    let i = c.loop-r.invariant in
    record {
      told = passing-ended i c.loop-r-test.true _ v.new.bounds v.ensures.propagated _ v.ensures.calm v.ensures.reasons c.in-Infeasible.is;
      left = λ e. cc;
      few = moved-at-most _ _ _ i.looking.non_empty i.lost;
    }

pub overflow_add-moved : goal.overflow_add-moved
overflow_add-moved c =
    let v = c.propagate_row_prepared in
    let i = c.loop-r.invariant in
    let k = c.loop-r-test.true in
    let told = c.in-Tightened.is in
    omega (
      arith,
      sum-small _ v.new.bounds c.requires.0 (passing-lost i k _ v.new.bounds v.ensures.propagated (inl (told, refl)))
          (passing-some i k _ v.new.bounds v.ensures.propagated (inl (told, refl))),
    )

pub overflow_add-r : goal.overflow_add-r
overflow_add-r c = omega (arith, c.loop-r-test.true, c.requires.0.sized.few_rows)

pub next_row-r-requires-in-loop-r : goal.next_row-r-requires-in-loop-r
next_row-r-requires-in-loop-r c =
    (omega (arith, c.loop-r-test.true), omega (arith, c.requires.0.sized.few_rows), c.propagate_row_prepared.auto.dirty ∙ c.loop-r.invariant.looking.set)

pub loop-r-smaller : goal.loop-r-smaller
loop-r-smaller c =
    let t = c.next_row-r-in-loop-r.ensures in
    omega (arith, t.0, t.1, c.loop-r-test.true)

pub loop-r-preserved : goal.loop-r-preserved
loop-r-preserved c =
    let v = c.propagate_row_prepared in
    let t = c.next_row-r-in-loop-r.ensures in
    let k = c.loop-r-test.true in
    elim c.match-propagate_row_prepared.branch [
      | in-Tightened w ↦ passing-next c.loop-r.invariant k _ v.new.bounds v.ensures.propagated (inl (w.in-Tightened.is, w.moved-is)) v.new.seen v.new.dirty
          v.ensures.known v.ensures.calm v.ensures.reasons v.auto.bounds v.auto.seen v.auto.dirty v.auto.reasons _ t.0 t.1 t.2
      | in-Unchanged w ↦ passing-next c.loop-r.invariant k _ v.new.bounds v.ensures.propagated {k = 0} (inr (w.in-Unchanged.is, w.moved-is)) v.new.seen v.new.dirty
          v.ensures.known v.ensures.calm v.ensures.reasons v.auto.bounds v.auto.seen v.auto.dirty v.auto.reasons _ t.0 t.1 t.2
    ]

pub returns : goal.returns
returns c =
    let i = c.loop-r.invariant in
    let e : c.loop-r.r ≡ c.args.m = omega (arith, i.le) in
    record {
      told = λ t. passing-all i e t;
      left = λ _. record { looking = i.looking; width = i.lost };
      few = moved-at-most _ _ _ i.looking.non_empty i.lost;
    }
