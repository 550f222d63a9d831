-- The corner cases hold: each line computes.
use mathlib.Core.Path.{refl}
use Rattle.integer.specs.Division.{ceil_div, floor_div}
use Rattle.integer.specs.Index.{all, sum}
use Rattle.integer.specs.Order.{eq_z, max_z, min_z}
use Rattle.model.specs.Box.{box_of, empty_box, is_empty, is_free, same_list}
use Rattle.model.specs.Checks.{bits, box_checks, first, in_range, length_checks, model_checks, model_fault, narrow, number_checks, ordered, size_checks, table_byte_checks, table_length_checks}
use Rattle.model.specs.Rows.{is_equality, negated, negated_coefs, row_of, set_row, splice}
use Rattle.model.specs.State.{state_of, with_box, with_row}
use Rattle.row.specs.Activity.{max_activity, max_term, min_activity, min_term}
use Rattle.row.specs.KindChanges.{remove_row_of, tighten_row_of}
use Rattle.row.specs.Kinds.{and_then, propagate_row_of}
use Rattle.row.specs.Moved.{differs, moved_bounds}
use Rattle.row.specs.Outcome.{is_changed, is_infeasible}
use Rattle.row.specs.Propagation.{implied_box, new_lower, new_upper, propagate_row, stays}
use Rattle.row.specs.Redundancy.{remove_redundant_row, zero_row}
use Rattle.row.specs.Tightening.{tighten_at, tighten_coefficient}
use Rattle.semantics.specs.Books.{AllHold, boxed, call_on, fresh, fresh_kinds, kept, probe_call as probe_call, propagate_call, propagate_row_call, remove_call, rowed, tighten_call}
use Rattle.semantics.specs.Call.{call_of, has_budget, has_row, has_table, has_variable, is_retired, is_unknown, kind_of, lengths_of}
use Rattle.semantics.specs.CallChecks.{call_checks, call_fault, given_model, is_lent, lent_table, listed_checks, listed_fault, record_checks}
use Rattle.semantics.specs.CallList.{calls_made, list_checks, list_fault, record_at, records_from, records_of, run_list, unretired}
use Rattle.semantics.specs.Corners.{alike, behind, corners, deep, doubled, doubled_forms, either, emptied, exact, exact_pair, falling, falling_behind, later, later_none, listed, neither, of_kind, rest_in, spent_side, twice, unlent, unspent, wide, with_lengths, with_sizes}
use Rattle.semantics.specs.FixpointTest.{first_moving, is_fixpoint}
use Rattle.semantics.specs.Lowest.{lowest}
use Rattle.semantics.specs.Perform.{act, perform, perform_listed}
use Rattle.semantics.specs.Probe.{byte_of, fix, hull, implies, is_fixed, join_sides, literal, probe, put, record_side, record_to, side_of}
use Rattle.semantics.specs.Propagate.{is_none, is_spent, last_look, pass_row, pass_to, propagate, propagate_from}
use Rattle.semantics.specs.RestTest.{first_unspanned, is_probing_fixpoint, rest_fault, rest_of, sides_span}
use Rattle.semantics.specs.Run.{answers_none, class_listed, class_of, count_call, is_refused, no_counts, probe_infeasible, refusal_of, run, run_listed, same_bytes, same_state, step, step_listed, tally}
use Rattle.semantics.specs.WorkedBooks.{binary2, chained, crossed, empty2, pair, single}

pub corners-hold : AllHold corners
unfolding corners behind last_look later rest_in rest_of first_moving first_unspanned lowest chained crossed alike deep doubled doubled_forms either emptied exact exact_pair listed neither of_kind spent_side unlent unspent wide calls_made list_checks list_fault record_at records_from records_of run_list run with_lengths with_sizes model_checks model_fault rest_fault answers_none class_of count_call is_refused no_counts probe_infeasible same_bytes same_state tally binary2 empty2 pair single boxed call_on remove_call kept fresh fresh_kinds probe_call rowed propagate_call tighten_call propagate_row_call call_checks call_fault given_model is_lent lent_table record_checks act perform byte_of fix hull implies is_fixed join_sides literal probe put record_side record_to side_of is_none is_spent pass_row pass_to propagate propagate_from is_fixpoint is_probing_fixpoint sides_span step has_budget has_row has_table has_variable is_unknown kind_of lengths_of state_of splice set_row with_box with_row is_infeasible implied_box new_lower new_upper propagate_row stays remove_redundant_row zero_row tighten_at tighten_coefficient max_activity max_term min_activity min_term row_of bits first in_range length_checks box_checks narrow number_checks ordered size_checks table_byte_checks table_length_checks box_of empty_box is_empty is_free same_list eq_z max_z min_z all sum ceil_div floor_div falling falling_behind later_none twice differs moved_bounds is_equality negated negated_coefs and_then propagate_row_of remove_row_of tighten_row_of is_changed run_listed step_listed unretired class_listed refusal_of listed_checks listed_fault perform_listed is_retired call_of
corners-hold = (refl, (refl, (refl, (refl, (refl, (refl, (refl, (refl, (refl, (refl, (refl, (refl, (refl, (refl, (refl, (refl, (refl, (refl, (refl, (refl, (refl, (refl, (refl, (refl, (refl, (refl, (refl, (refl, (refl, (refl, (refl, (refl, (refl, (refl, (refl, (refl, (refl, (refl, (refl, (refl, (refl, (refl, (refl, (refl, (refl, (refl, (refl, (refl, (refl, (refl, (refl, (refl, (refl, (refl, (refl, (refl, (refl, (refl, (refl, (refl, (refl, (refl, (refl, (refl, (refl, (refl, (refl, (refl, (refl, (refl, (refl, (refl, (refl, (refl, (refl, (refl, (refl, (refl, (refl, (refl, (refl, (refl, (refl, (refl, (refl, (refl, (refl, (refl, (refl, (refl, (refl, (refl, (refl, (refl, (refl, (refl, (refl, (refl, (refl, (refl, (refl, (refl, (refl, (refl, (refl, (refl, (refl, (refl, (refl, (refl, (refl, (refl, (refl, (refl, (refl, (refl, (refl, (refl, (refl, (refl, (refl, (refl, (refl, (refl, (refl, (refl, (refl, (refl, (refl, (refl, (refl, (refl, (refl, (refl, (refl, (refl, (refl, (refl, (refl, (refl, (refl, (refl, (refl, (refl, (refl, (refl, (refl, (refl, (refl, (refl, (refl, (refl, (refl, (refl, (refl, (refl, (refl, (refl, (refl, (refl, (refl, (refl, (refl, (refl, (refl, (refl, (refl, (refl, (refl, (refl, (refl, (refl, (refl, (refl, (refl, (refl, (refl, (refl, tt))))))))))))))))))))))))))))))))))))))))))))))))))))))))))))))))))))))))))))))))))))))))))))))))))))))))))))))))))))))))))))))))))))))))))))))))))))))))))))))))))))))))))))))))))
