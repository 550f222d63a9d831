-- No answer of the three calls on a row hides another: each of their meanings is injective.
use lib.IntN.{ℤ}
use mathlib.Core.List.{List}
use mathlib.Core.Path.{◌≡◌, ap, refl}
use Rattle.row.specs.Answers.{propagated_row_of, removal_outcome, tightening_outcome}
use Rattle.row.specs.Outcome.{changed, infeasible, unchanged}
use Rattle.row.specs.Propagation.{PropagatedRow}
use Rattle.row.specs.declared.propagation.RowPropagation.{RowPropagation}
use Rattle.row.specs.declared.propagation.RowPropagation.TheVariants as propagation
use Rattle.row.specs.declared.tightening.CoefficientTightening.{CoefficientTightening}
use Rattle.row.specs.declared.tightening.CoefficientTightening.TheVariants as tightening
use Rattle.row.specs.declared.redundancy.RowRemoval.{RowRemoval}
use Rattle.row.specs.declared.redundancy.RowRemoval.TheVariants as removal

pub propagated_row_of-injective : (r s : RowPropagation) (B : List ℤ) → propagated_row_of r B ≡ propagated_row_of s B → r ≡ s
unfolding propagated_row_of
propagated_row_of-injective propagation.Infeasible propagation.Infeasible B e = refl
propagated_row_of-injective propagation.Infeasible (propagation.Tightened k) B e = let o : infeasible ≡ changed = ap (λ (v : PropagatedRow). v.outcome) e in cc
propagated_row_of-injective propagation.Infeasible propagation.Unchanged B e = let o : infeasible ≡ unchanged = ap (λ (v : PropagatedRow). v.outcome) e in cc
propagated_row_of-injective (propagation.Tightened k) propagation.Infeasible B e = let o : changed ≡ infeasible = ap (λ (v : PropagatedRow). v.outcome) e in cc
propagated_row_of-injective (propagation.Tightened k) (propagation.Tightened i) B e = ap propagation.Tightened (ap (λ (v : PropagatedRow). v.moved) e)
propagated_row_of-injective (propagation.Tightened k) propagation.Unchanged B e = let o : changed ≡ unchanged = ap (λ (v : PropagatedRow). v.outcome) e in cc
propagated_row_of-injective propagation.Unchanged propagation.Infeasible B e = let o : unchanged ≡ infeasible = ap (λ (v : PropagatedRow). v.outcome) e in cc
propagated_row_of-injective propagation.Unchanged (propagation.Tightened k) B e = let o : unchanged ≡ changed = ap (λ (v : PropagatedRow). v.outcome) e in cc
propagated_row_of-injective propagation.Unchanged propagation.Unchanged B e = refl

pub tightening_outcome-injective : (r s : CoefficientTightening) → tightening_outcome r ≡ tightening_outcome s → r ≡ s
unfolding tightening_outcome
tightening_outcome-injective tightening.Infeasible tightening.Infeasible e = refl
tightening_outcome-injective tightening.Infeasible tightening.Tightened e = cc
tightening_outcome-injective tightening.Infeasible tightening.Unchanged e = cc
tightening_outcome-injective tightening.Tightened tightening.Infeasible e = cc
tightening_outcome-injective tightening.Tightened tightening.Tightened e = refl
tightening_outcome-injective tightening.Tightened tightening.Unchanged e = cc
tightening_outcome-injective tightening.Unchanged tightening.Infeasible e = cc
tightening_outcome-injective tightening.Unchanged tightening.Tightened e = cc
tightening_outcome-injective tightening.Unchanged tightening.Unchanged e = refl

pub removal_outcome-injective : (r s : RowRemoval) → removal_outcome r ≡ removal_outcome s → r ≡ s
unfolding removal_outcome
removal_outcome-injective removal.Infeasible removal.Infeasible e = refl
removal_outcome-injective removal.Infeasible removal.Removed e = cc
removal_outcome-injective removal.Infeasible removal.Unchanged e = cc
removal_outcome-injective removal.Removed removal.Infeasible e = cc
removal_outcome-injective removal.Removed removal.Removed e = refl
removal_outcome-injective removal.Removed removal.Unchanged e = cc
removal_outcome-injective removal.Unchanged removal.Infeasible e = cc
removal_outcome-injective removal.Unchanged removal.Removed e = cc
removal_outcome-injective removal.Unchanged removal.Unchanged e = refl

pub answers-injective : ((r s : RowPropagation) (B : List ℤ) → propagated_row_of r B ≡ propagated_row_of s B → r ≡ s)
    × ((r s : CoefficientTightening) → tightening_outcome r ≡ tightening_outcome s → r ≡ s)
    × ((r s : RowRemoval) → removal_outcome r ≡ removal_outcome s → r ≡ s)
answers-injective = (propagated_row_of-injective, tightening_outcome-injective, removal_outcome-injective)
