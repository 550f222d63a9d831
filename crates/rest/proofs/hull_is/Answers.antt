-- `rest::hull_is`: by `hull-test` the passed variables make the hull the box. Assumes nothing.
use Rattle.std.proofs.Common.{◌≡◌, ◌∙◌, ap, sym, arith, rules, below_more}
use mir.Syntax.{w32}
use mir.Val.{of_z}
use Rattle.integer.specs.Order.{max_z, min_z}
use Rattle.integer.proofs.Tests.{test-false, test-true}
use Rattle.model.specs.Box.{lower, upper}
use Rattle.rest.proofs.RestLaws.{hull-test}
use Rattle.rest.proofs.hull_is.Goals as goal

pub returns-then-lesser-bounds : goal.returns-then-lesser-bounds
returns-then-lesser-bounds c = λ n e.
    let a = c.args in
    let j = c.loop-j.j in
    let low-is : c.lesser.result ≡ min_z (lower a.zero.now j) (lower a.one.now j) = search rules in
    sym (test-false _ (hull-test n a.zero.now a.one.now a.bounds.now e) (λ f. c.if-lesser-bounds.true (ap (of_z w32) (low-is ∙ (f j (omega arith)).0))))

pub returns-then-greater-bounds : goal.returns-then-greater-bounds
returns-then-greater-bounds c = λ n e.
    let a = c.args in
    let j = c.loop-j.j in
    let high_is : c.greater.result ≡ max_z (upper a.zero.now j) (upper a.one.now j) = search rules in
    sym (test-false _ (hull-test n a.zero.now a.one.now a.bounds.now e) (λ f. c.if-greater-bounds.true (ap (of_z w32) (high_is ∙ (f j (omega arith)).1))))

pub loop-j-preserved : goal.loop-j-preserved
loop-j-preserved c =
    let a = c.args in
    let j = c.loop-j.j in
    let low-is : c.lesser.result ≡ min_z (lower a.zero.now j) (lower a.one.now j) = search rules in
    let low-same : c.lesser.result ≡ lower a.bounds.now j = search rules in
    let high_is : c.greater.result ≡ max_z (upper a.zero.now j) (upper a.one.now j) = search rules in
    let high-same : c.greater.result ≡ upper a.bounds.now j = search rules in
    below_more _ _ c.loop-j.invariant (sym low-is ∙ low-same, sym high_is ∙ high-same)

pub returns : goal.returns
returns c = λ n e.
    let a = c.args in
    sym (test-true _ (hull-test n a.zero.now a.one.now a.bounds.now e) (λ j k. c.loop-j.invariant j (omega arith)))
