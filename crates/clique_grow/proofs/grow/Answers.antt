-- `clique_grow::grow`: after the literals below i the row is that of the clique so far, and the flags are its candidates. Assumes nothing.
use Prim.Native.Nat.{◌*◌}
use mathlib.Core.Path.{◌∙◌, ◌≡◌}
use native.Mathlib.Omega.{arith}
use Rattle.row.proofs.RedundancyLaws.{length-zero_row}
use Rattle.cliques.specs.Cliques.{grow, value_of}
use Rattle.clique_grow.proofs.CandidateLaws.{grown-length, grown-most, grown-passes, grown-start, grown-takes, length-ones}
use Rattle.clique_grow.proofs.grow.Goals as goal
use Rattle.clique_grow.proofs.grow.Goals.{else-flags-i-eq1, then-flags-i-eq1}

pub take-requires : goal.take-requires
take-requires c =
    let q = c.requires in
    record {
      lent_table = (q.lent_table.0, rw q.lent_table.1 length-ones);
      q_bound = (q.p_bound.0, rw q.p_bound.1 (length-zero_row c.args.n));
    }

pub loop-i-init : goal.loop-i-init
unfolding value_of
loop-i-init c =
    let q = c.requires in
    let told = c.take.ensures in
    grown-start c.args.table.now c.args.p q.lent_table.0.most q.lent_table.1 q.p_bound.1 told.flags told.row

pub bounds-flags-i : goal.bounds-flags-i
bounds-flags-i c = let m = c.requires.lent_table.0.most in let e = c.loop-i.invariant.flags.len in omega arith

pub take-requires-then-flags-i-eq1 : goal.take-requires-then-flags-i-eq1
take-requires-then-flags-i-eq1 c =
    let v = c.loop-i.invariant in
    record {
      lent_table = (c.requires.lent_table.0, v.flags.len);
      q_bound = (omega arith, grown-length _ _ v);
    }

pub overflow_add-size : goal.overflow_add-size
overflow_add-size c =
    let m = (grown-most _ _ c.loop-i.invariant).0 in
    let k = c.requires.lent_table.0.most in omega arith

pub overflow_add-zeros : goal.overflow_add-zeros
overflow_add-zeros c =
    let m = (grown-most _ _ c.loop-i.invariant).1 in
    let k = c.requires.lent_table.0.most in omega arith

pub loop-i-preserved : goal.loop-i-preserved
unfolding value_of
loop-i-preserved c =
    let v = c.loop-i.invariant in
    let m = c.requires.lent_table.0.most in
    elim c.if-flags-i-eq1.branch [
      | then-flags-i-eq1 w ↦
          let told = w.take-then-flags-i-eq1.ensures in
          grown-takes _ _ v (omega arith) m w.if-flags-i-eq1.true (w.flags-is ∙ told.flags) (w.row-is ∙ told.row) w.size-is w.zeros-is
      | else-flags-i-eq1 w ↦ grown-passes _ _ v (omega arith) w.if-flags-i-eq1.false w.flags-is w.row-is w.size-is w.zeros-is
    ]

pub returns : goal.returns
unfolding grow
returns c =
    let l = c.loop-i in
    let end : l.i ≡ 2 * c.args.n = omega arith in
    let v = rw end at l.invariant in
    let m = grown-most _ _ l.invariant in
    let k = c.requires.lent_table.0.most in
    record { row = v.row; size = (v.size_is, omega arith); zeros = (v.zeros_is, omega arith) }
