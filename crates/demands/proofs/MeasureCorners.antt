-- The corner cases of the measure hold: each line computes.
use mathlib.Core.Path.{refl}
use Rattle.integer.specs.Division.{ceil_div, floor_div}
use Rattle.integer.specs.Index.{all, sum}
use Rattle.integer.specs.Order.{eq_z, max_z, min_z}
use Rattle.model.specs.Box.{box_of, empty_box, is_empty, is_free, same_list, width}
use Rattle.model.specs.Checks.{bits, box_checks, first, in_range, length_checks, model_checks, model_fault, narrow, number_checks, ordered, size_checks, table_byte_checks, table_length_checks}
use Rattle.model.specs.Rows.{is_equality, row_of, set_row, splice}
use Rattle.model.specs.State.{state_of, with_box, with_row}
use Rattle.row.specs.Activity.{max_activity, max_term, min_activity, min_term}
use Rattle.row.specs.Kinds.{propagate_row_of}
use Rattle.row.specs.Moved.{differs, moved_bounds}
use Rattle.row.specs.Outcome.{is_changed, is_infeasible}
use Rattle.row.specs.Propagation.{implied_box, new_lower, new_upper, propagate_row, stays}
use Rattle.row.specs.KindChanges.{remove_row_of, tighten_row_of}
use Rattle.row.specs.Redundancy.{remove_redundant_row, zero_row}
use Rattle.row.specs.Tightening.{tighten_at, tighten_coefficient}
use Rattle.semantics.specs.Books.{AllHold, call_on, fresh, fresh_kinds, probe_call, propagate_call, remove_call, rowed, tighten_call}
use Rattle.semantics.specs.Call.{has_budget, has_row, has_table, has_variable, is_unknown, kind_of, lengths_of}
use Rattle.semantics.specs.CallChecks.{call_checks, call_fault, given_model, is_lent, lent_table, record_checks}
use Rattle.semantics.specs.Corners.{exact_pair, falling}
use Rattle.semantics.specs.Perform.{act, perform}
use Rattle.semantics.specs.Probe.{byte_of, fix, hull, implies, is_fixed, join_sides, literal, probe, put, record_side, record_to, side_of}
use Rattle.semantics.specs.Propagate.{is_none, is_spent, pass_row, pass_to, propagate, propagate_from}
use Rattle.semantics.specs.Run.{answers_none, class_of, is_refused, probe_infeasible, same_bytes, same_state, step}
use Rattle.semantics.specs.WorkedBooks.{binary2, pair, single}
use Rattle.demands.specs.Measure.{as_changed, changes_made, is_zero, magnitude, measure, numbers_weight, row_weight, rows_weight, total, zeros}
use Rattle.demands.specs.MeasureCorners.{measure_corners, raised}
use Rattle.demands.specs.Passes.{total_width}

pub measure-corners-hold : AllHold measure_corners
unfolding ceil_div floor_div all sum eq_z max_z min_z box_of empty_box is_empty is_free same_list width bits box_checks first in_range length_checks model_checks model_fault narrow number_checks ordered size_checks table_byte_checks table_length_checks is_equality row_of set_row splice state_of with_box with_row max_activity max_term min_activity min_term propagate_row_of differs moved_bounds is_changed is_infeasible implied_box new_lower new_upper propagate_row stays remove_row_of tighten_row_of remove_redundant_row zero_row tighten_at tighten_coefficient call_on fresh fresh_kinds probe_call propagate_call remove_call rowed tighten_call has_budget has_row has_table has_variable is_unknown kind_of lengths_of call_checks call_fault given_model is_lent lent_table record_checks exact_pair falling as_changed changes_made is_zero magnitude measure numbers_weight row_weight rows_weight total zeros measure_corners raised total_width act perform byte_of fix hull implies is_fixed join_sides literal probe put record_side record_to side_of is_none is_spent pass_row pass_to propagate propagate_from answers_none class_of is_refused probe_infeasible same_bytes same_state step binary2 pair single
measure-corners-hold = (refl, (refl, (refl, (refl, (refl, (refl, (refl, (refl, (refl, (refl, (refl, (refl, (refl, (refl, (refl, tt)))))))))))))))
