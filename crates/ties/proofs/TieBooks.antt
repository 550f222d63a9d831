-- The worked books of the tie call hold: each line computes.
use mathlib.Core.Path.{refl}
use Rattle.integer.specs.Division.{ceil_div, floor_div}
use Rattle.integer.specs.Index.{all, sum}
use Rattle.integer.specs.Order.{eq_z, max_z, min_z}
use Rattle.model.specs.Box.{box_of, empty_box, hull, is_empty, is_free, same_list}
use Rattle.model.specs.Checks.{bits, box_checks, first, in_range, length_checks, model_checks, narrow, number_checks, ordered, size_checks, table_byte_checks, table_length_checks}
use Rattle.model.specs.Rows.{is_equality, negated, negated_coefs, row_of, splice}
use Rattle.model.specs.State.{state_of, with_box}
use Rattle.row.specs.Activity.{max_activity, max_term, min_activity, min_term}
use Rattle.row.specs.Kinds.{and_then, propagate_row_of}
use Rattle.row.specs.Moved.{differs, moved_bounds}
use Rattle.row.specs.Outcome.{is_changed, is_infeasible}
use Rattle.row.specs.Propagation.{implied_box, new_lower, new_upper, propagate_row, stays as row_stays}
use Rattle.semantics.specs.Books.{AllHold, call_on, fresh, fresh_kinds, probe_call}
use Rattle.semantics.specs.Call.{has_budget, has_row, has_table, has_variable, is_unknown, kind_of, lengths_of}
use Rattle.semantics.specs.CallChecks.{call_checks, call_fault, given_model, is_lent, lent_table, record_checks}
use Rattle.semantics.specs.FixpointTest.{first_moving, is_fixpoint}
use Rattle.semantics.specs.Lowest.{lowest}
use Rattle.semantics.specs.Perform.{act, perform}
use Rattle.semantics.specs.Probe.{byte_of, fix, implies, is_fixed, join_sides, literal, probe, put, record_side, record_to, side_of}
use Rattle.semantics.specs.Propagate.{is_none, is_spent, last_look, pass_row, pass_to, propagate, propagate_from}
use Rattle.semantics.specs.Run.{step}
use Rattle.ties.specs.TieBooks.{binary, equal, equal_probed, foreign, no_ties, opposed, opposite, opposite_probed, pair_of, rewritten, stays, tabled, three_of, tie_books, tie_of, with_places}
use Rattle.ties.specs.TieCall.{can_tie, given_model_tie, is_lent_tie, perform_tie, place_of, places_fit, says, says_byte, tie, tie_call_of, tie_checks, tie_fault, tie_own_checks, tie_state, tie_with}
use Rattle.ties.specs.TiedRow.{row_fits, rows_fit, tie_coefs_to, tie_rhs_to, tie_rows_to, tie_to, tied_coef, tied_coefs, tied_rhs}
use Rattle.ties.specs.TiedRun.{run_tied, step_tied}

pub tie-books-hold : AllHold tie_books
unfolding tie_books binary equal foreign no_ties equal_probed opposed opposite opposite_probed pair_of tabled three_of rewritten stays tie_of with_places can_tie given_model_tie is_lent_tie perform_tie place_of places_fit says says_byte tie tie_call_of tie_checks tie_fault tie_own_checks tie_state tie_with row_fits rows_fit tie_coefs_to tie_rhs_to tie_rows_to tie_to tied_coef tied_coefs tied_rhs run_tied step_tied call_on fresh fresh_kinds probe_call call_checks call_fault given_model is_lent lent_table record_checks first_moving is_fixpoint lowest act perform byte_of fix hull implies is_fixed join_sides literal probe put record_side record_to side_of is_none is_spent last_look pass_row pass_to propagate propagate_from step has_budget has_row has_table has_variable is_unknown kind_of lengths_of splice state_of with_box is_changed is_infeasible implied_box new_lower new_upper propagate_row row_stays and_then propagate_row_of differs moved_bounds is_equality negated negated_coefs max_activity max_term min_activity min_term row_of bits first in_range box_checks length_checks model_checks narrow number_checks ordered size_checks table_byte_checks table_length_checks box_of empty_box is_empty is_free same_list eq_z max_z min_z all sum ceil_div floor_div
tie-books-hold = (refl, (refl, (refl, (refl, (refl, (refl, (refl, (refl, (refl, (refl, (refl, (refl, (refl, (refl, (refl, (refl, (refl, (refl, (refl, (refl, tt))))))))))))))))))))
