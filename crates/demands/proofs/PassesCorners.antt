-- The corner cases of the passes hold: each line computes.
use mathlib.Core.Path.{refl}
use Rattle.integer.specs.Division.{ceil_div, floor_div}
use Rattle.integer.specs.Index.{all, sum}
use Rattle.integer.specs.Order.{eq_z, max_z, min_z}
use Rattle.model.specs.Box.{box_of, empty_box, is_empty, is_free, same_list, width}
use Rattle.model.specs.Checks.{bits, box_checks, first, in_range, length_checks, model_checks, model_fault, narrow, number_checks, ordered, size_checks, table_byte_checks, table_length_checks}
use Rattle.model.specs.Rows.{is_equality, row_of}
use Rattle.model.specs.State.{state_of, with_box}
use Rattle.row.specs.Activity.{min_activity, min_term}
use Rattle.row.specs.Kinds.{propagate_row_of}
use Rattle.row.specs.Moved.{differs, moved_bounds}
use Rattle.row.specs.Outcome.{is_changed, is_infeasible}
use Rattle.row.specs.Propagation.{implied_box, new_lower, new_upper, propagate_row, stays}
use Rattle.semantics.specs.Books.{AllHold, fresh, fresh_kinds}
use Rattle.semantics.specs.Call.{has_budget, has_row, has_table, has_variable, is_retired, is_unknown, kind_of, lengths_of}
use Rattle.semantics.specs.CallChecks.{call_checks, call_fault, given_model, is_lent, lent_table, record_checks}
use Rattle.semantics.specs.CallList.{calls_made, list_checks, list_fault, record_at, records_from, records_of, unretired}
use Rattle.semantics.specs.Corners.{either, emptied, falling}
use Rattle.semantics.specs.Perform.{act, perform}
use Rattle.semantics.specs.Probe.{byte_of, fix, hull, implies, is_fixed, join_sides, literal, probe, put, record_side, record_to, side_of}
use Rattle.semantics.specs.Propagate.{is_none, is_spent, pass_row, pass_to, propagate, propagate_from}
use Rattle.semantics.specs.Run.{step}
use Rattle.semantics.specs.WorkedBooks.{binary2, empty2, single}
use Rattle.demands.specs.Passes.{call_limit, enough_budget, lesser, limit_to, pass_limit, passes_made, passes_of, total_width}
use Rattle.demands.specs.PassesCorners.{passes_corners}

pub passes-corners-hold : AllHold passes_corners
unfolding either emptied calls_made unretired is_retired list_checks list_fault record_at records_from records_of model_checks model_fault binary2 empty2 single fresh fresh_kinds call_checks call_fault given_model is_lent lent_table record_checks act perform byte_of fix hull implies is_fixed join_sides literal probe put record_side record_to side_of is_none is_spent pass_row pass_to propagate propagate_from step has_budget has_row has_table has_variable is_unknown kind_of lengths_of state_of with_box is_infeasible implied_box new_lower new_upper propagate_row stays min_activity min_term row_of bits first in_range length_checks box_checks narrow number_checks ordered size_checks table_byte_checks table_length_checks box_of empty_box is_empty is_free same_list eq_z max_z min_z all sum ceil_div floor_div falling differs moved_bounds is_equality propagate_row_of is_changed passes_corners call_limit enough_budget lesser limit_to pass_limit passes_made passes_of total_width width
passes-corners-hold = (refl, (refl, (refl, (refl, (refl, (refl, (refl, (refl, (refl, (refl, (refl, (refl, (refl, (refl, (refl, (refl, (refl, (refl, (refl, (refl, (refl, (refl, (refl, (refl, tt))))))))))))))))))))))))
