-- `tie_call::can_tie`: each way out is a case of can_tie. Assumes nothing.
use lib.Dec.{eqb}
use lib.ListN.{get_or}
use mathlib.Core.Bool.{false}
use mathlib.Core.Path.{◌≡◌, refl, sym}
use Rattle.integer.proofs.Tests.{eqb-test, test-false, test-true}
use Rattle.model.specs.State.{state_of}
use Rattle.ties.specs.TieCall.{can_tie}
use Rattle.ties.specs.TiedRow.{rows_fit}
use Rattle.ties.specs.Ties.{tied_state_of}
use Rattle.tie_call.proofs.can_tie.Goals as goal

pub returns-then-k-j : goal.returns-then-k-j
unfolding can_tie tied_state_of state_of
returns-then-k-j c = let a = c.args in rw (test-true (eqb a.k a.j) (eqb-test a.k a.j) c.if-k-j.true) refl

pub returns-then-not-is_free : goal.returns-then-not-is_free
unfolding can_tie tied_state_of state_of
returns-then-not-is_free c =
    let a = c.args in
    let differ : eqb a.k a.j ≡ false = test-false (eqb a.k a.j) (eqb-test a.k a.j) c.if-k-j.false in
    rw (differ, sym c.if-not-is_free.ensures) refl

pub returns-then-not-is_free-2 : goal.returns-then-not-is_free-2
unfolding can_tie tied_state_of state_of
returns-then-not-is_free-2 c =
    let a = c.args in
    let differ : eqb a.k a.j ≡ false = test-false (eqb a.k a.j) (eqb-test a.k a.j) c.if-k-j.false in
    rw (differ, sym c.if-not-is_free.ensures, sym c.if-not-is_free-2.ensures) refl

pub returns-then-ties-k-ne0 : goal.returns-then-ties-k-ne0
unfolding can_tie tied_state_of state_of
returns-then-ties-k-ne0 c =
    let a = c.args in
    let differ : eqb a.k a.j ≡ false = test-false (eqb a.k a.j) (eqb-test a.k a.j) c.if-k-j.false in
    let p = get_or a.ties.now a.k 0 in
    rw (differ, sym c.if-not-is_free.ensures, sym c.if-not-is_free-2.ensures, test-false (eqb p 0) (eqb-test p 0) c.if-ties-k-ne0.true) refl

pub returns-then-ties-j-ne0 : goal.returns-then-ties-j-ne0
unfolding can_tie tied_state_of state_of
returns-then-ties-j-ne0 c =
    let a = c.args in
    let differ : eqb a.k a.j ≡ false = test-false (eqb a.k a.j) (eqb-test a.k a.j) c.if-k-j.false in
    let p = get_or a.ties.now a.k 0 in
    let q = get_or a.ties.now a.j 0 in
    rw (
      differ,
      sym c.if-not-is_free.ensures,
      sym c.if-not-is_free-2.ensures,
      test-true (eqb p 0) (eqb-test p 0) c.if-ties-k-ne0.false,
      test-false (eqb q 0) (eqb-test q 0) c.if-ties-j-ne0.true,
    )
    refl

pub returns : goal.returns
unfolding can_tie tied_state_of state_of rows_fit
returns c =
    let a = c.args in
    let differ : eqb a.k a.j ≡ false = test-false (eqb a.k a.j) (eqb-test a.k a.j) c.if-k-j.false in
    let p = get_or a.ties.now a.k 0 in
    let q = get_or a.ties.now a.j 0 in
    rw (
      differ,
      sym c.if-not-is_free.ensures,
      sym c.if-not-is_free-2.ensures,
      test-true (eqb p 0) (eqb-test p 0) c.if-ties-k-ne0.false,
      test-true (eqb q 0) (eqb-test q 0) c.if-ties-j-ne0.false,
    )
    c.rows_fit.ensures
