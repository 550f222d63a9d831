-- The worked books of one row agree with the definitions: the test computes to true.
use lib.Dec.{T}
use Rattle.integer.specs.Division.{ceil_div, floor_div}
use Rattle.integer.specs.Index.{all, sum}
use Rattle.integer.specs.Order.{eq_z, max_z, min_z}
use Rattle.model.specs.Box.{box_of, empty_box, is_empty, same_list}
use Rattle.row.specs.Activity.{max_activity, max_term, min_activity, min_term}
use Rattle.row.specs.Moved.{differs, moved_bounds}
use Rattle.row.specs.Propagation.{implied_box, new_lower, new_upper, propagate_row, stays}
use Rattle.row.specs.Redundancy.{remove_redundant_row, zero_row}
use Rattle.row.specs.Tightening.{tighten_at, tighten_coefficient}
use Rattle.row.specs.WorkedBooks.{agrees, all_agree, binary2, same_outcome, same_propagated, same_row, worked_books}

pub worked-books-agree : T (all_agree worked_books)
unfolding moved_bounds differs worked_books all_agree agrees same_propagated same_row same_outcome binary2 propagate_row implied_box new_lower new_upper stays min_activity min_term max_activity max_term tighten_coefficient tighten_at remove_redundant_row zero_row same_list is_empty empty_box box_of sum all eq_z min_z max_z floor_div ceil_div
worked-books-agree = tt
