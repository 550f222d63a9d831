-- `search::first_moving`: where the rows that are not to be looked at are calm, the rows below the one that the loop stands at leave the
-- box. Assumes nothing.
use mathlib.Core.Path.{◌∙◌, ◌≡◌, sym}
use native.Mathlib.Omega.{arith}
use Rattle.integer.specs.Index.{all}
use Rattle.prepared_model.specs.Layout.{decode}
use Rattle.propagation.proofs.SearchLaws.{found, none_found}
use Rattle.prepared_propagation.proofs.SearchLaws.{calm-passed, calm-tested}
use Rattle.prepared_propagation.proofs.search.first_moving.Goals as goal

pub next_row-r-requires : goal.next_row-r-requires
next_row-r-requires c = (omega arith, omega (arith, c.requires.0.few_rows), c.requires.2)

pub loop-r-init : goal.loop-r-init
unfolding all
loop-r-init c =
    let e = c.next_row-r.ensures in
    (e.1, λ k. calm-passed _ _ (decode c.args.n c.args.m c.args.ws.now) _ _ c.requires.0.some c.requires.1 k 0 _ tt e.1 e.2)

pub row_moves_prepared-requires : goal.row_moves_prepared-requires
row_moves_prepared-requires c = (c.requires.0, c.loop-r-test.true)

pub returns-then-row_moves_prepared : goal.returns-then-row_moves_prepared
returns-then-row_moves_prepared c k =
    let h = c.loop-r in
    found _ (decode c.args.n c.args.m c.args.ws.now) _ c.requires.0.some c.requires.1 c.args.m h.r c.loop-r-test.true (h.invariant.1 k)
    (sym c.row_moves_prepared.ensures ∙ c.if-row_moves_prepared.true)

pub next_row-r-requires-in-loop-r : goal.next_row-r-requires-in-loop-r
next_row-r-requires-in-loop-r c = (omega (arith, c.loop-r-test.true), omega (arith, c.requires.0.few_rows), c.requires.2)

pub loop-r-smaller : goal.loop-r-smaller
loop-r-smaller c = let e = c.next_row-r-in-loop-r.ensures in omega (arith, c.loop-r-test.true)

pub loop-r-preserved : goal.loop-r-preserved
loop-r-preserved c =
    let h = c.loop-r in
    let e = c.next_row-r-in-loop-r.ensures in (
      e.1,
      λ k. calm-tested _ _ (decode c.args.n c.args.m c.args.ws.now) _ _ c.requires.0.some c.requires.1 k h.r _ (h.invariant.1 k) c.loop-r-test.true
          (sym c.row_moves_prepared.ensures ∙ c.if-row_moves_prepared.false) e.1 e.2,
    )

pub returns : goal.returns
returns c k =
    let e : c.loop-r.r ≡ c.args.m = omega (arith, c.loop-r.invariant.0) in
    none_found _ (decode c.args.n c.args.m c.args.ws.now) _ c.requires.0.some c.requires.1 c.args.m (rw e at (c.loop-r.invariant.1 k))
