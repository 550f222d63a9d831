-- The corner cases of the largest quiet box hold: each line computes.
use mathlib.Core.Path.{refl}
use Rattle.integer.specs.Division.{ceil_div, floor_div}
use Rattle.integer.specs.Index.{all, sum}
use Rattle.integer.specs.Order.{eq_z, max_z, min_z}
use Rattle.model.specs.Box.{box_of, empty_box, is_empty, is_free, same_list, width}
use Rattle.model.specs.Checks.{bits, box_checks, first, in_range, length_checks, model_checks, model_fault, narrow, number_checks, ordered, size_checks, table_byte_checks, table_length_checks}
use Rattle.model.specs.Rows.{is_equality, row_of}
use Rattle.model.specs.State.{state_of, with_box}
use Rattle.row.specs.Activity.{min_activity, min_term}
use Rattle.row.specs.Kinds.{propagate_row_of}
use Rattle.row.specs.Moved.{differs, moved_bounds}
use Rattle.row.specs.Outcome.{is_changed, is_infeasible}
use Rattle.row.specs.Propagation.{implied_box, new_lower, new_upper, propagate_row, stays}
use Rattle.semantics.specs.Books.{AllHold, boxed, call_on, fresh, fresh_kinds, kept, probe_call, propagate_call}
use Rattle.semantics.specs.Call.{has_budget, has_row, has_table, has_variable, is_unknown, kind_of, lengths_of}
use Rattle.semantics.specs.CallChecks.{call_checks, call_fault, given_model, is_lent, lent_table, record_checks}
use Rattle.semantics.specs.Corners.{rest_in, spent_side, unspent}
use Rattle.semantics.specs.FixpointTest.{first_moving, is_fixpoint}
use Rattle.semantics.specs.Lowest.{lowest}
use Rattle.semantics.specs.Perform.{act, perform}
use Rattle.semantics.specs.Probe.{byte_of, fix, hull, implies, is_fixed, join_sides, literal, probe, put, record_side, record_to, side_of}
use Rattle.semantics.specs.Propagate.{is_none, is_spent, last_look, pass_row, pass_to, propagate, propagate_from}
use Rattle.semantics.specs.RestTest.{first_unspanned, is_probing_fixpoint, rest_fault, rest_of, sides_span}
use Rattle.semantics.specs.Run.{step}
use Rattle.demands.specs.Passes.{enough_budget, total_width}
use Rattle.demands.specs.RestCorners.{none, rest_corners, trap}
use Rattle.demands.specs.Unmoved.{any_spent, side_spent}

pub rest-corners-hold : AllHold rest_corners
unfolding ceil_div floor_div all sum eq_z max_z min_z box_of empty_box is_empty is_free same_list width bits box_checks first in_range length_checks model_checks model_fault narrow number_checks ordered size_checks table_byte_checks table_length_checks is_equality row_of state_of with_box min_activity min_term propagate_row_of differs moved_bounds is_changed is_infeasible implied_box new_lower new_upper propagate_row stays boxed call_on fresh fresh_kinds kept probe_call propagate_call has_budget has_row has_table has_variable is_unknown kind_of lengths_of call_checks call_fault given_model is_lent lent_table record_checks rest_in spent_side unspent first_moving is_fixpoint lowest enough_budget total_width act perform byte_of fix hull implies is_fixed join_sides literal probe put record_side record_to side_of is_none is_spent last_look pass_row pass_to propagate propagate_from none rest_corners trap first_unspanned is_probing_fixpoint rest_fault rest_of sides_span step any_spent side_spent
rest-corners-hold = (refl, (refl, (refl, (refl, (refl, (refl, (refl, (refl, (refl, tt)))))))))
