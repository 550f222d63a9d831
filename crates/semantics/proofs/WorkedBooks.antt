-- The worked books hold: each line computes.
use mathlib.Core.Path.{refl}
use Rattle.integer.specs.Division.{ceil_div, floor_div}
use Rattle.integer.specs.Index.{all, sum}
use Rattle.integer.specs.Order.{eq_z, max_z, min_z}
use Rattle.model.specs.Box.{box_of, empty_box, is_empty, is_free, same_list}
use Rattle.model.specs.Checks.{bits, box_checks, first, in_range, length_checks, model_checks, narrow, number_checks, ordered, size_checks, table_byte_checks, table_length_checks}
use Rattle.model.specs.Rows.{is_equality, negated, negated_coefs, row_of, set_row, splice}
use Rattle.model.specs.State.{state_of, with_box, with_row}
use Rattle.row.specs.Activity.{max_activity, max_term, min_activity, min_term}
use Rattle.row.specs.KindChanges.{remove_row_of, tighten_row_of}
use Rattle.row.specs.Kinds.{and_then, propagate_row_of}
use Rattle.row.specs.Moved.{differs, moved_bounds}
use Rattle.row.specs.Outcome.{is_changed, is_infeasible}
use Rattle.row.specs.Propagation.{implied_box, new_lower, new_upper, propagate_row, stays}
use Rattle.row.specs.Redundancy.{remove_redundant_row, zero_row}
use Rattle.row.specs.Tightening.{tighten_at, tighten_coefficient}
use Rattle.semantics.specs.Books.{AllHold, boxed, call_on, fresh, fresh_kinds, kept, probe_call as probe_call, propagate_call, propagate_row_call, remove_call, rowed, tighten_call}
use Rattle.semantics.specs.Call.{has_budget, has_row, has_table, has_variable, is_unknown, kind_of, lengths_of}
use Rattle.semantics.specs.CallChecks.{call_checks, call_fault, given_model, is_lent, lent_table, record_checks}
use Rattle.semantics.specs.FixpointTest.{first_moving, is_fixpoint}
use Rattle.semantics.specs.Lowest.{lowest}
use Rattle.semantics.specs.Perform.{act, perform}
use Rattle.semantics.specs.Probe.{byte_of, fix, hull, implies, is_fixed, join_sides, literal, ones, probe, put, record_side, record_to, side_of}
use Rattle.semantics.specs.Propagate.{is_none, is_spent, last_look, pass_row, pass_to, propagate, propagate_from}
use Rattle.semantics.specs.RestTest.{is_probing_fixpoint, sides_span}
use Rattle.semantics.specs.Run.{run, step}
use Rattle.semantics.specs.WorkedBooks.{at_rest, binary2, box_after, chained, clique, crossed, empty2, pair, single, worked_books}

pub worked-books-hold : AllHold worked_books
unfolding worked_books last_look first_moving lowest at_rest binary2 box_after chained clique crossed empty2 pair single boxed call_on remove_call kept fresh fresh_kinds probe_call rowed propagate_call tighten_call propagate_row_call call_checks call_fault given_model is_lent lent_table record_checks ones act perform byte_of fix hull implies is_fixed join_sides literal probe put record_side record_to side_of is_none is_spent pass_row pass_to propagate propagate_from is_fixpoint is_probing_fixpoint sides_span run step has_budget has_row has_table has_variable is_unknown kind_of lengths_of state_of splice set_row with_box with_row is_infeasible implied_box new_lower new_upper propagate_row stays remove_redundant_row zero_row tighten_at tighten_coefficient max_activity max_term min_activity min_term row_of bits first in_range length_checks model_checks box_checks narrow number_checks ordered size_checks table_byte_checks table_length_checks box_of empty_box is_empty is_free same_list eq_z max_z min_z all sum ceil_div floor_div differs moved_bounds is_equality negated negated_coefs and_then propagate_row_of remove_row_of tighten_row_of is_changed
worked-books-hold = (refl, (refl, (refl, (refl, (refl, (refl, (refl, (refl, (refl, (refl, (refl, (refl, (refl, (refl, (refl, (refl, (refl, (refl, (refl, (refl, (refl, (refl, (refl, (refl, (refl, (refl, tt))))))))))))))))))))))))))
