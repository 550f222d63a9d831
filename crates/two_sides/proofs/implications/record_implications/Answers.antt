-- `two_sides::implications::record_implications`: a variable more is passed over (`turn-skips`) or recorded (`turn-records`). Assumes
-- nothing.
use Rattle.std.proofs.Common.{◌∙◌, ap, refl, sym, arith}
use borrow.Author.Tests.{eq-eqb, ne_eqb}
use Rattle.semantics.specs.Probe.{record_to}
use Rattle.two_sides.proofs.ImplicationLoops.{record_side-few, turn-records, turn-skips}
use Rattle.two_sides.proofs.implications.record_implications.Goals as goal

pub loop-j-init : goal.loop-j-init
unfolding record_to
loop-j-init c = (omega arith, refl, refl)

pub loop-j-preserved-then-j-k : goal.loop-j-preserved-then-j-k
loop-j-preserved-then-j-k c =
    let a = c.args in
    let i = c.loop-j.invariant in
    let r = turn-skips a.n a.k a.bounds.now a.zero.now a.one.now a.table.now c.loop-j.j (rw (eq-eqb c.loop-j.j a.k c.if-j-k.true) refl) in
    (omega arith, i.1 ∙ ap (λ r. r.bytes) (sym r), i.2 ∙ ap (λ r. r.added) (sym r))

pub loop-j-preserved-then-not-is_free : goal.loop-j-preserved-then-not-is_free
loop-j-preserved-then-not-is_free c =
    let a = c.args in
    let i = c.loop-j.invariant in
    let free = sym c.is_free.ensures ∙ c.if-not-is_free.true in
    let r = turn-skips a.n a.k a.bounds.now a.zero.now a.one.now a.table.now c.loop-j.j (rw (ne_eqb c.loop-j.j a.k c.if-j-k.false) free) in
    (omega arith, i.1 ∙ ap (λ r. r.bytes) (sym r), i.2 ∙ ap (λ r. r.added) (sym r))

pub overflow_add-added : goal.overflow_add-added
overflow_add-added c =
    let a = c.args in
    omega (arith, record_side-few a.n a.k 0 c.loop-j.j a.zero.now c.loop-j.table c.record_side-added.ensures.added, c.loop-j.invariant.0, c.requires.recordable.few)

pub overflow_add-added-in-loop-j : goal.overflow_add-added-in-loop-j
overflow_add-added-in-loop-j c =
    let a = c.args in
    omega (
      arith,
      record_side-few a.n a.k 0 c.loop-j.j a.zero.now c.loop-j.table c.record_side-added.ensures.added,
      record_side-few a.n a.k 1 c.loop-j.j a.one.now c.record_side-added.new.table c.record_side-added-in-loop-j.ensures.added,
      c.loop-j.invariant.0,
      c.requires.recordable.few,
    )

pub loop-j-preserved : goal.loop-j-preserved
loop-j-preserved c =
    let a = c.args in
    let i = c.loop-j.invariant in
    let zero = c.record_side-added.ensures in
    let one = c.record_side-added-in-loop-j.ensures in
    let free = sym c.is_free.ensures ∙ c.if-not-is_free.false in
    let e = turn-records a.n a.k a.bounds.now a.zero.now a.one.now a.table.now c.loop-j.j
    (rw (ne_eqb c.loop-j.j a.k c.if-j-k.false) free) (i.1, i.2) (zero.left, zero.added) (one.left, one.added) in
    let few0 = record_side-few a.n a.k 0 c.loop-j.j a.zero.now c.loop-j.table zero.added in
    let few1 = record_side-few a.n a.k 1 c.loop-j.j a.one.now c.record_side-added.new.table one.added in
    (omega (arith, few0, few1), e.0, e.1)
