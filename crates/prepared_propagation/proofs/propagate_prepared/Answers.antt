-- `prepared_propagation::propagate_prepared`: the invariant is `Passes`: the passes that are left from here, with the bounds moved so
-- far and the reasons told so far, give what the whole gives, where the workspace knows the box. Assumes nothing.
use Rattle.std.proofs.Common.{None, rules}
use mathlib.Core.Path.{◌∙◌, ◌≡◌}
use native.Mathlib.Omega.{arith}
use Rattle.propagation.specs.Results.{propagation_of}
use Rattle.semantics.specs.Propagate.{is_none}
use Rattle.prepared_propagation.proofs.PassesLaws.{all_small, converged-is, converged-told, ended_is, ended-told, known-now, made_all, made_told, passes-first, passes-next}
use Rattle.prepared_propagation.proofs.propagate_prepared.Goals as goal

pub loop-made-init : goal.loop-made-init
loop-made-init c = passes-first _ c.requires.0 c.requires.1

pub one_pass-p-requires : goal.one_pass-p-requires
one_pass-p-requires c = let i = c.loop-made.invariant in (i.looking, i.lent)

pub overflow_add-moved : goal.overflow_add-moved
overflow_add-moved c = omega (arith, all_small c.loop-made.invariant c.requires.0 c.one_pass-p.result.moved c.one_pass-p.ensures.few)

pub returns-in-Some : goal.returns-in-Some
unfolding propagation_of is_none
returns-in-Some c =
    let i = c.loop-made.invariant in
    let k = c.loop-made-test.true in
    let t = c.one_pass-p.ensures.told in
    let e = c.in-Some.is in
    record {
      answer = ended_is i k t e;
      calm = λ w. (t (known-now i w)).calm;
      left = λ z. absurd z;
      reasons = λ w. (ended-told i k t e w).0;
      row = λ w. (ended-told i k t e w).1;
    }

pub returns-then-p-eq0 : goal.returns-then-p-eq0
returns-then-p-eq0 c =
    let i = c.loop-made.invariant in
    let k = c.loop-made-test.true in
    let t = c.one_pass-p.ensures.told in
    let e : c.one_pass-p.result.infeasible ≡ None = search rules in
    let z = c.if-p-eq0.true in
    record {
      answer = converged-is i k t e z;
      calm = λ w. (t (known-now i w)).calm;
      left = λ _. (c.one_pass-p.ensures.left e).looking;
      reasons = λ w. (converged-told i k t e z w).0;
      row = λ w. (converged-told i k t e z w).1;
    }

pub loop-made-preserved : goal.loop-made-preserved
loop-made-preserved c =
    let p = c.one_pass-p in
    let e : c.one_pass-p.result.infeasible ≡ None = search rules in
    passes-next c.loop-made.invariant c.loop-made-test.true p.ensures.told e c.if-p-eq0.false (p.ensures.left e)
    p.auto.bounds p.auto.seen p.auto.dirty p.auto.reasons

pub last_look-requires : goal.last_look-requires
last_look-requires c = let v = c.loop-made.invariant.looking in (v.sized, v.non_empty, v.set)

pub returns : goal.returns
returns c =
    let i = c.loop-made.invariant in
    let end : c.loop-made.made ≡ c.args.budget = omega arith in
    record {
      answer = λ w. c.last_look.ensures (i.told w).1 ∙ (rw end at (made_all i (omega arith) w));
      calm = λ w. (i.told w).1;
      left = λ _. i.looking;
      reasons = λ w. (made_told i (omega arith) w).0;
      row = λ w. (made_told i (omega arith) w).1;
    }
