-- `rounds_loop::make_rounds`: a round more ends the rounds or goes on with them. Assumes nothing.
use Rattle.std.proofs.Common.{◌≡◌, ◌∙◌, sym, arith}
use borrow.Author.Tests.{not-false, not-true}
use Rattle.model.specs.Rows.{rows_of}
use Rattle.model.specs.State.{state_of}
use Rattle.rounds.specs.Answers.{rounds_answer}
use Rattle.rounds.specs.Round.{round}
use Rattle.rounds.proofs.RoundLaws.{Leads, leads-valid}
use Rattle.rounds.proofs.RoundsLaws.{at-limit, ends-empty, ends_so, ends-unchanged, goes_on, no-round}
use Rattle.rounds_loop.proofs.make_rounds.Goals as goal

pub loop-before-init : goal.loop-before-init
loop-before-init c = no-round c.args.limit c.requires

pub round-last-requires : goal.round-last-requires
round-last-requires c = c.loop-before.invariant.valid

pub is_empty-requires : goal.is_empty-requires
unfolding state_of
is_empty-requires c =
    let a = c.args in
    let l = c.loop-before in
    let u = c.round-last.new in
    let old = state_of a.n a.m l.bounds (rows_of l.coefs l.rhs l.kinds) l.table in
    let new = state_of a.n a.m u.bounds (rows_of u.coefs u.rhs u.kinds) u.table in
    let p : Leads old (round old) new c.round-last.result.changed = record { left = c.round-last.ensures.left; changed = c.round-last.ensures.changed } in
    let v = (leads-valid p l.invariant.valid).model in
    omega (arith, v.some, v.box.len)

pub returns-then-is_empty : goal.returns-then-is_empty
unfolding rounds_answer state_of
returns-then-is_empty c =
    let a = c.args in
    let l = c.loop-before in
    let u = c.round-last.new in
    let old = state_of a.n a.m l.bounds (rows_of l.coefs l.rhs l.kinds) l.table in
    let new = state_of a.n a.m u.bounds (rows_of u.coefs u.rhs u.kinds) u.table in
    let p : Leads old (round old) new c.round-last.result.changed = record { left = c.round-last.ensures.left; changed = c.round-last.ensures.changed } in
    let v = (leads-valid p l.invariant.valid).model in
    let tested = sym (c.is_empty.ensures a.n v.some v.box) in
    let e = ends_so a.limit (state_of a.n a.m a.bounds.now (rows_of a.coefs.now a.rhs.now a.kinds.now) a.table.now)
    (ends-empty l.invariant c.loop-before-test.true p c.round-last.ensures.spent (tested ∙ c.if-is_empty.true)) in
    record { answer = e.0; left = e.1 }

pub returns-then-not-last : goal.returns-then-not-last
unfolding rounds_answer state_of
returns-then-not-last c =
    let a = c.args in
    let l = c.loop-before in
    let u = c.round-last.new in
    let old = state_of a.n a.m l.bounds (rows_of l.coefs l.rhs l.kinds) l.table in
    let new = state_of a.n a.m u.bounds (rows_of u.coefs u.rhs u.kinds) u.table in
    let p : Leads old (round old) new c.round-last.result.changed = record { left = c.round-last.ensures.left; changed = c.round-last.ensures.changed } in
    let v = (leads-valid p l.invariant.valid).model in
    let tested = sym (c.is_empty.ensures a.n v.some v.box) in
    let e = ends_so a.limit (state_of a.n a.m a.bounds.now (rows_of a.coefs.now a.rhs.now a.kinds.now) a.table.now)
    (ends-unchanged l.invariant c.loop-before-test.true p c.round-last.ensures.spent (tested ∙ c.if-is_empty.false) (not-true c.round-last.result.changed c.if-not-last.true)) in
    record { answer = e.0; left = e.1 }

pub loop-before-preserved : goal.loop-before-preserved
unfolding state_of
loop-before-preserved c =
    let a = c.args in
    let l = c.loop-before in
    let u = c.round-last.new in
    let old = state_of a.n a.m l.bounds (rows_of l.coefs l.rhs l.kinds) l.table in
    let new = state_of a.n a.m u.bounds (rows_of u.coefs u.rhs u.kinds) u.table in
    let p : Leads old (round old) new c.round-last.result.changed = record { left = c.round-last.ensures.left; changed = c.round-last.ensures.changed } in
    let v = (leads-valid p l.invariant.valid).model in
    let tested = sym (c.is_empty.ensures a.n v.some v.box) in
    goes_on l.invariant c.loop-before-test.true p c.round-last.ensures.spent (tested ∙ c.if-is_empty.false) (not-false c.round-last.result.changed c.if-not-last.false)

pub returns : goal.returns
unfolding rounds_answer
returns c =
    let a = c.args in
    let e : c.loop-before.before ≡ a.limit = omega (arith, c.loop-before.invariant.within) in
    let f = ends_so a.limit (state_of a.n a.m a.bounds.now (rows_of a.coefs.now a.rhs.now a.kinds.now) a.table.now) (rw e at (at-limit c.loop-before.invariant c.loop-before-test.false)) in
    record { answer = f.0; left = f.1 }
