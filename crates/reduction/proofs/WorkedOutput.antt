-- 01's example, whole: `output` of its book of 44 bytes is 01's text, byte for byte. Computed from the definitions. Assumes nothing.
use mathlib.Core.List.{List, [], ◌∷◌}
use mathlib.Core.Path.{◌≡◌, refl}
use Prim.Native.Nat.{ℕ}
use Rattle.integer.specs.Division.{ceil_div, floor_div}
use Rattle.integer.specs.Index.{all, sum}
use Rattle.integer.specs.Order.{eq_z, max_z, min_z}
use Rattle.model.specs.Box.{box_of, empty_box, is_empty, is_free, same_list}
use Rattle.model.specs.Checks.{bits, box_checks, first, in_range, length_checks, model_checks, model_fault, narrow, number_checks, ordered, size_checks, table_byte_checks, table_length_checks}
use Rattle.model.specs.Rows.{is_equality, negated, negated_coefs, row_of, set_row, splice}
use Rattle.row.specs.KindChanges.{remove_row_of, tighten_row_of}
use Rattle.row.specs.Kinds.{and_then as both_forms, propagate_row_of}
use Rattle.row.specs.Activity.{max_activity, max_term, min_activity, min_term}
use Rattle.row.specs.Moved.{differs, moved_bounds}
use Rattle.row.specs.Outcome.{is_changed, is_infeasible}
use Rattle.row.specs.Propagation.{implied_box, new_lower, new_upper, propagate_row, stays}
use Rattle.row.specs.Redundancy.{remove_redundant_row, zero_row}
use Rattle.row.specs.Tightening.{tighten_at, tighten_coefficient}
use Rattle.semantics.specs.CallChecks.{call_checks, call_fault, given_model, is_lent, lent_table, record_checks}
use Rattle.semantics.specs.Perform.{act, perform}
use Rattle.semantics.specs.Probe.{byte_of, fix, hull, implies, is_fixed, join_sides, literal, probe, put, record_side, record_to, side_of}
use Rattle.semantics.specs.Propagate.{is_none, is_spent, pass_row, pass_to, propagate, propagate_from}
use Rattle.semantics.specs.Run.{answers_none, class_of, is_refused, probe_infeasible, run, same_bytes, same_state, step}
use Rattle.semantics.specs.Call.{call_of, has_budget, has_row, has_table, has_variable, is_unknown, kind_of, lengths_of}
use Rattle.model.specs.State.{state_of, with_box, with_row}
use Rattle.book.specs.Book.{book_length, bounds_of, coefs_of, decode, kinds_of, model_in, rhs_of, row_place, trailer_of}
use Rattle.book.specs.BookChecks.{book_checks, book_fault, given_length_checks, head_checks, layout_checks, offset_checks}
use Rattle.little_endian.specs.Bytes.{integer_at, integers_at, number_at, number_of, signed_of}
use Rattle.little_endian.specs.Pieces.{joined}
use Rattle.rounds.specs.Round.{and_then, any_change, is_change, probe_call, probes, propagate_call, removals, remove_call, round, tighten_call, tighten_row, tightenings, unless_empty, upwards}
use Rattle.rounds.specs.Rounds.{after, rounds_fault, rounds_from, run_rounds}
use Rattle.text.specs.Fields.{field, fields}
use Rattle.report.specs.Report.{byte_line, implication_at, implication_line, is_zero_row, none_line, reduced_line, refused_line, report, row_line, row_text, variable_at, variable_line}
use Rattle.text.specs.Decimal.{decimal, digits, signed}
use Rattle.text.specs.Text.{texts}
use Rattle.reduction.specs.Output.{left_text, output, output_as, rounds_text, state_read, text_of, zeros}

-- "The book with bounds 0, 1, 0, 1 and the row 4, 3, 2 (trailer 0, 16, 2, 1, 44)"
book : List ℕ
book =
    0 ∷ 0 ∷ 0 ∷ 0 ∷ 1 ∷ 0 ∷ 0 ∷ 0 ∷ 0 ∷ 0 ∷ 0 ∷ 0 ∷ 1 ∷ 0 ∷ 0 ∷ 0
    ∷ 4 ∷ 0 ∷ 0 ∷ 0 ∷ 3 ∷ 0 ∷ 0 ∷ 0 ∷ 2 ∷ 0 ∷ 0 ∷ 0
    ∷ 0 ∷ 0 ∷ 0 ∷ 0 ∷ 16 ∷ 0 ∷ 0 ∷ 0 ∷ 2 ∷ 0 ∷ 1 ∷ 0 ∷ 44 ∷ 0 ∷ 0 ∷ 0
    ∷ []

example-output : output 8 book ≡
    -- reduced 2 1 2
    114 ∷ 101 ∷ 100 ∷ 117 ∷ 99 ∷ 101 ∷ 100 ∷ 32 ∷ 50 ∷ 32 ∷ 49 ∷ 32 ∷ 50 ∷ 10
    -- v 0 0 1, v 1 0 1
    ∷ 118 ∷ 32 ∷ 48 ∷ 32 ∷ 48 ∷ 32 ∷ 49 ∷ 10
    ∷ 118 ∷ 32 ∷ 49 ∷ 32 ∷ 48 ∷ 32 ∷ 49 ∷ 10
    -- r 0 1 1 1
    ∷ 114 ∷ 32 ∷ 48 ∷ 32 ∷ 49 ∷ 32 ∷ 49 ∷ 32 ∷ 49 ∷ 10
    -- i 0 1 1 0, i 1 1 0 0
    ∷ 105 ∷ 32 ∷ 48 ∷ 32 ∷ 49 ∷ 32 ∷ 49 ∷ 32 ∷ 48 ∷ 10
    ∷ 105 ∷ 32 ∷ 49 ∷ 32 ∷ 49 ∷ 32 ∷ 48 ∷ 32 ∷ 48 ∷ 10
    ∷ []
unfolding moved_bounds differs book output_as left_text rounds_text state_read text_of zeros floor_div ceil_div sum all min_z max_z eq_z box_of same_list empty_box is_empty is_free first in_range ordered bits size_checks length_checks table_length_checks box_checks narrow number_checks table_byte_checks model_checks model_fault row_of min_term max_term min_activity max_activity is_infeasible is_changed new_upper new_lower implied_box stays propagate_row zero_row remove_redundant_row tighten_at tighten_coefficient lent_table given_model is_lent record_checks call_checks call_fault act perform fix hull literal byte_of put implies is_fixed record_side record_to side_of join_sides probe pass_row pass_to propagate_from propagate is_none is_spent step run probe_infeasible answers_none is_refused same_bytes same_state class_of lengths_of kind_of has_row has_variable has_budget has_table is_unknown state_of call_of with_box splice with_row set_row book_length row_place trailer_of bounds_of rhs_of coefs_of model_in decode offset_checks layout_checks given_length_checks head_checks book_checks book_fault number_of signed_of number_at integer_at integers_at joined and_then upwards unless_empty probe_call probes round is_change any_change after rounds_from rounds_fault run_rounds field fields refused_line none_line reduced_line variable_line row_line implication_line variable_at is_zero_row row_text byte_line implication_at report digits decimal signed texts propagate_call remove_call tighten_call removals tighten_row tightenings is_equality negated negated_coefs both_forms propagate_row_of remove_row_of tighten_row_of kinds_of
example-output = refl
