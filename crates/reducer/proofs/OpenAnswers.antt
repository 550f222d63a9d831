-- No answer of an open call hides another: each reading of the code's enums is injective.
use mathlib.Core.Path.{◌≡◌, ap, refl}
use Rattle.std.specs.Prelude.{Result, Ok, Err}
use Rattle.model.specs.declared.refusal.Refusal.{Refusal}
use Rattle.model.proofs.RefusalLaws.{number_of-injective}
use Rattle.two_sides.specs.declared.Probing.{Probing}
use Rattle.two_sides.specs.declared.Probing.TheVariants as probes
use Rattle.row.specs.declared.propagation.RowPropagation.{RowPropagation}
use Rattle.row.specs.declared.propagation.RowPropagation.TheVariants as row
use Rattle.row.specs.declared.redundancy.RowRemoval.{RowRemoval}
use Rattle.row.specs.declared.redundancy.RowRemoval.TheVariants as removes
use Rattle.row.specs.declared.tightening.CoefficientTightening.{CoefficientTightening}
use Rattle.row.specs.declared.tightening.CoefficientTightening.TheVariants as tightens
use Rattle.propagation.specs.declared.Propagation.{Propagation}
use Rattle.propagation.specs.declared.Propagation.TheVariants as rows
use Rattle.rest.specs.declared.Rest as rest_search
use Rattle.rest.specs.declared.Rest.TheVariants as rests
use Rattle.semantics.specs.Probe as semantic
use Rattle.reducer.specs.OpenCalls.{probe_answer, propagate_answer, remove_answer, rest_verdict, row_answer, tighten_answer}
use Rattle.two_sides.specs.Results.{report_of}
use Rattle.two_sides.specs.declared.Side.{Side}

row_answer-injective : (r s : Result RowPropagation Refusal) → row_answer r ≡ row_answer s → r ≡ s
unfolding row_answer
row_answer-injective (Err x) (Err y) e = ap Err (number_of-injective x y cc)
row_answer-injective (Err x) (Ok row.Infeasible) e = cc
row_answer-injective (Err x) (Ok (row.Tightened y)) e = cc
row_answer-injective (Err x) (Ok row.Unchanged) e = cc
row_answer-injective (Ok row.Infeasible) (Err y) e = cc
row_answer-injective (Ok row.Infeasible) (Ok row.Infeasible) e = refl
row_answer-injective (Ok row.Infeasible) (Ok (row.Tightened y)) e = cc
row_answer-injective (Ok row.Infeasible) (Ok row.Unchanged) e = cc
row_answer-injective (Ok (row.Tightened x)) (Err y) e = cc
row_answer-injective (Ok (row.Tightened x)) (Ok row.Infeasible) e = cc
row_answer-injective (Ok (row.Tightened x)) (Ok (row.Tightened y)) e = cc
row_answer-injective (Ok (row.Tightened x)) (Ok row.Unchanged) e = cc
row_answer-injective (Ok row.Unchanged) (Err y) e = cc
row_answer-injective (Ok row.Unchanged) (Ok row.Infeasible) e = cc
row_answer-injective (Ok row.Unchanged) (Ok (row.Tightened y)) e = cc
row_answer-injective (Ok row.Unchanged) (Ok row.Unchanged) e = refl

propagate_answer-injective : (r s : Result Propagation Refusal) → propagate_answer r ≡ propagate_answer s → r ≡ s
unfolding propagate_answer
propagate_answer-injective (Err x) (Err y) e = ap Err (number_of-injective x y cc)
propagate_answer-injective (Err x) (Ok (rows.Infeasible y k)) e = cc
propagate_answer-injective (Err x) (Ok (rows.Converged y k)) e = cc
propagate_answer-injective (Err x) (Ok (rows.BudgetSpent y k)) e = cc
propagate_answer-injective (Ok (rows.Infeasible x j)) (Err y) e = cc
propagate_answer-injective (Ok (rows.Infeasible x j)) (Ok (rows.Infeasible y k)) e = cc
propagate_answer-injective (Ok (rows.Infeasible x j)) (Ok (rows.Converged y k)) e = cc
propagate_answer-injective (Ok (rows.Infeasible x j)) (Ok (rows.BudgetSpent y k)) e = cc
propagate_answer-injective (Ok (rows.Converged x j)) (Err y) e = cc
propagate_answer-injective (Ok (rows.Converged x j)) (Ok (rows.Infeasible y k)) e = cc
propagate_answer-injective (Ok (rows.Converged x j)) (Ok (rows.Converged y k)) e = cc
propagate_answer-injective (Ok (rows.Converged x j)) (Ok (rows.BudgetSpent y k)) e = cc
propagate_answer-injective (Ok (rows.BudgetSpent x j)) (Err y) e = cc
propagate_answer-injective (Ok (rows.BudgetSpent x j)) (Ok (rows.Infeasible y k)) e = cc
propagate_answer-injective (Ok (rows.BudgetSpent x j)) (Ok (rows.Converged y k)) e = cc
propagate_answer-injective (Ok (rows.BudgetSpent x j)) (Ok (rows.BudgetSpent y k)) e = cc

report_of-injective : (x y : Side) → report_of x ≡ report_of y → x ≡ y
unfolding report_of
report_of-injective x y e = ap (λ (s : semantic.Side). let r : Side = record { passes = s.passes; spent = s.spent; moved = s.moved } in r) e

probe_answer-injective : (r s : Result Probing Refusal) → probe_answer r ≡ probe_answer s → r ≡ s
unfolding probe_answer
probe_answer-injective (Err x) (Err y) e = ap Err (number_of-injective x y cc)
probe_answer-injective (Err x) (Ok (probes.Infeasible y0 y1)) e = cc
probe_answer-injective (Err x) (Ok (probes.Fixed y0 y1 y2)) e = cc
probe_answer-injective (Err x) (Ok (probes.BothFeasible y0 y1 y2)) e = cc
probe_answer-injective (Ok (probes.Infeasible x0 x1)) (Err y) e = cc
probe_answer-injective (Ok (probes.Infeasible x0 x1)) (Ok (probes.Infeasible y0 y1)) e = cc (report_of-injective x0 y0 cc, report_of-injective x1 y1 cc)
probe_answer-injective (Ok (probes.Infeasible x0 x1)) (Ok (probes.Fixed y0 y1 y2)) e = cc
probe_answer-injective (Ok (probes.Infeasible x0 x1)) (Ok (probes.BothFeasible y0 y1 y2)) e = cc
probe_answer-injective (Ok (probes.Fixed x0 x1 x2)) (Err y) e = cc
probe_answer-injective (Ok (probes.Fixed x0 x1 x2)) (Ok (probes.Infeasible y0 y1)) e = cc
probe_answer-injective (Ok (probes.Fixed x0 x1 x2)) (Ok (probes.Fixed y0 y1 y2)) e = cc (report_of-injective x1 y1 cc, report_of-injective x2 y2 cc)
probe_answer-injective (Ok (probes.Fixed x0 x1 x2)) (Ok (probes.BothFeasible y0 y1 y2)) e = cc
probe_answer-injective (Ok (probes.BothFeasible x0 x1 x2)) (Err y) e = cc
probe_answer-injective (Ok (probes.BothFeasible x0 x1 x2)) (Ok (probes.Infeasible y0 y1)) e = cc
probe_answer-injective (Ok (probes.BothFeasible x0 x1 x2)) (Ok (probes.Fixed y0 y1 y2)) e = cc
probe_answer-injective (Ok (probes.BothFeasible x0 x1 x2)) (Ok (probes.BothFeasible y0 y1 y2)) e = cc (report_of-injective x1 y1 cc, report_of-injective x2 y2 cc)

tighten_answer-injective : (r s : Result CoefficientTightening Refusal) → tighten_answer r ≡ tighten_answer s → r ≡ s
unfolding tighten_answer
tighten_answer-injective (Err x) (Err y) e = ap Err (number_of-injective x y cc)
tighten_answer-injective (Err x) (Ok tightens.Infeasible) e = cc
tighten_answer-injective (Err x) (Ok tightens.Tightened) e = cc
tighten_answer-injective (Err x) (Ok tightens.Unchanged) e = cc
tighten_answer-injective (Ok tightens.Infeasible) (Err y) e = cc
tighten_answer-injective (Ok tightens.Infeasible) (Ok tightens.Infeasible) e = refl
tighten_answer-injective (Ok tightens.Infeasible) (Ok tightens.Tightened) e = cc
tighten_answer-injective (Ok tightens.Infeasible) (Ok tightens.Unchanged) e = cc
tighten_answer-injective (Ok tightens.Tightened) (Err y) e = cc
tighten_answer-injective (Ok tightens.Tightened) (Ok tightens.Infeasible) e = cc
tighten_answer-injective (Ok tightens.Tightened) (Ok tightens.Tightened) e = refl
tighten_answer-injective (Ok tightens.Tightened) (Ok tightens.Unchanged) e = cc
tighten_answer-injective (Ok tightens.Unchanged) (Err y) e = cc
tighten_answer-injective (Ok tightens.Unchanged) (Ok tightens.Infeasible) e = cc
tighten_answer-injective (Ok tightens.Unchanged) (Ok tightens.Tightened) e = cc
tighten_answer-injective (Ok tightens.Unchanged) (Ok tightens.Unchanged) e = refl

remove_answer-injective : (r s : Result RowRemoval Refusal) → remove_answer r ≡ remove_answer s → r ≡ s
unfolding remove_answer
remove_answer-injective (Err x) (Err y) e = ap Err (number_of-injective x y cc)
remove_answer-injective (Err x) (Ok removes.Infeasible) e = cc
remove_answer-injective (Err x) (Ok removes.Removed) e = cc
remove_answer-injective (Err x) (Ok removes.Unchanged) e = cc
remove_answer-injective (Ok removes.Infeasible) (Err y) e = cc
remove_answer-injective (Ok removes.Infeasible) (Ok removes.Infeasible) e = refl
remove_answer-injective (Ok removes.Infeasible) (Ok removes.Removed) e = cc
remove_answer-injective (Ok removes.Infeasible) (Ok removes.Unchanged) e = cc
remove_answer-injective (Ok removes.Removed) (Err y) e = cc
remove_answer-injective (Ok removes.Removed) (Ok removes.Infeasible) e = cc
remove_answer-injective (Ok removes.Removed) (Ok removes.Removed) e = refl
remove_answer-injective (Ok removes.Removed) (Ok removes.Unchanged) e = cc
remove_answer-injective (Ok removes.Unchanged) (Err y) e = cc
remove_answer-injective (Ok removes.Unchanged) (Ok removes.Infeasible) e = cc
remove_answer-injective (Ok removes.Unchanged) (Ok removes.Removed) e = cc
remove_answer-injective (Ok removes.Unchanged) (Ok removes.Unchanged) e = refl

rest_verdict-injective : (r s : Result rest_search.Rest Refusal) → rest_verdict r ≡ rest_verdict s → r ≡ s
unfolding rest_verdict
rest_verdict-injective (Err x) (Err y) e = ap Err (number_of-injective x y cc)
rest_verdict-injective (Err x) (Ok rests.AtRest) e = cc
rest_verdict-injective (Err x) (Ok (rests.ByRow y)) e = cc
rest_verdict-injective (Err x) (Ok (rests.ByVariable y)) e = cc
rest_verdict-injective (Ok rests.AtRest) (Err y) e = cc
rest_verdict-injective (Ok rests.AtRest) (Ok rests.AtRest) e = refl
rest_verdict-injective (Ok rests.AtRest) (Ok (rests.ByRow y)) e = cc
rest_verdict-injective (Ok rests.AtRest) (Ok (rests.ByVariable y)) e = cc
rest_verdict-injective (Ok (rests.ByRow x)) (Err y) e = cc
rest_verdict-injective (Ok (rests.ByRow x)) (Ok rests.AtRest) e = cc
rest_verdict-injective (Ok (rests.ByRow x)) (Ok (rests.ByRow y)) e = cc
rest_verdict-injective (Ok (rests.ByRow x)) (Ok (rests.ByVariable y)) e = cc
rest_verdict-injective (Ok (rests.ByVariable x)) (Err y) e = cc
rest_verdict-injective (Ok (rests.ByVariable x)) (Ok rests.AtRest) e = cc
rest_verdict-injective (Ok (rests.ByVariable x)) (Ok (rests.ByRow y)) e = cc
rest_verdict-injective (Ok (rests.ByVariable x)) (Ok (rests.ByVariable y)) e = cc

pub open-answers-injective :
    ((r s : Result RowPropagation Refusal) → row_answer r ≡ row_answer s → r ≡ s)
    × ((r s : Result Propagation Refusal) → propagate_answer r ≡ propagate_answer s → r ≡ s)
    × ((r s : Result Probing Refusal) → probe_answer r ≡ probe_answer s → r ≡ s)
    × ((r s : Result CoefficientTightening Refusal) → tighten_answer r ≡ tighten_answer s → r ≡ s)
    × ((r s : Result RowRemoval Refusal) → remove_answer r ≡ remove_answer s → r ≡ s)
    × ((r s : Result rest_search.Rest Refusal) → rest_verdict r ≡ rest_verdict s → r ≡ s)
open-answers-injective = (row_answer-injective, propagate_answer-injective, probe_answer-injective, tighten_answer-injective, remove_answer-injective, rest_verdict-injective)
