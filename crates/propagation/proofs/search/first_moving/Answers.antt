-- `propagation::search::first_moving`: the rows below the one that the loop stands at leave the box: those that are clean, and those
-- whose test said so. Assumes nothing.
use Rattle.std.proofs.Common.{◌∙◌, sym, below_more, arith}
use Rattle.model.specs.Rows.{rows_of}
use Rattle.integer.proofs.IndexLaws.{all-i}
use Rattle.matrix_view.proofs.RowInLaws.{row_in, valid-row}
use Rattle.propagation.proofs.SearchLaws.{clean_stays, found, none_found, row_stays}
use Rattle.propagation.proofs.search.first_moving.Goals as goal

pub row_moves_at-requires : goal.row_moves_at-requires
row_moves_at-requires c =
    let v = c.requires.valid_model in
    (row_in v c.loop-r.r c.loop-r-test.true, valid-row v c.loop-r.r c.loop-r-test.true v.box)

pub returns-then-row_moves_at : goal.returns-then-row_moves_at
returns-then-row_moves_at c =
    let a = c.args in
    found a.n (rows_of a.coefs.now a.rhs.now a.kinds.now) a.bounds.now c.requires.valid_model.some c.requires.fact.0 a.m c.loop-r.r c.loop-r-test.true
    (all-i c.loop-r.r _ c.loop-r.invariant) (sym c.row_moves_at.ensures ∙ c.if-row_moves_at.true)

pub loop-r-preserved-then-is_clean : goal.loop-r-preserved-then-is_clean
loop-r-preserved-then-is_clean c =
    let a = c.args in
    below_more _ _ c.loop-r.invariant
    (clean_stays a.n (rows_of a.coefs.now a.rhs.now a.kinds.now) a.bounds.now c.requires.valid_model.some c.requires.fact.0 a.m c.requires.fact.1 c.loop-r.r c.loop-r-test.true c.if-is_clean.true)

pub loop-r-preserved : goal.loop-r-preserved
loop-r-preserved c =
    let a = c.args in
    below_more _ _ c.loop-r.invariant
    (row_stays a.n (rows_of a.coefs.now a.rhs.now a.kinds.now) a.bounds.now c.requires.valid_model.some c.requires.fact.0 c.loop-r.r (sym c.row_moves_at.ensures ∙ c.if-row_moves_at.false))

pub returns : goal.returns
returns c =
    let a = c.args in
    none_found a.n (rows_of a.coefs.now a.rhs.now a.kinds.now) a.bounds.now c.requires.valid_model.some c.requires.fact.0 a.m
    (all-i a.m _ (λ i k. c.loop-r.invariant i (omega arith)))
