-- The corner cases hold: each line computes.
use mathlib.Core.Path.{refl}
use Rattle.integer.specs.Index.{all, sum}
use Rattle.integer.specs.Order.{eq_z}
use Rattle.model.specs.Box.{box_of, empty_box, is_empty, same_list}
use Rattle.model.specs.Checks.{bits, box_checks, first, in_range, length_checks, narrow, number_checks, ordered, size_checks}
use Rattle.model.specs.Point.{dot}
use Rattle.model.specs.Rows.{is_equality, row_of}
use Rattle.semantics.specs.Books.{AllHold}
use Rattle.semantics.specs.Lowest.{lowest}
use Rattle.proposals.specs.Call.{allocation_checks, allocation_fault, verdicts_left}
use Rattle.proposals.specs.Corners.{allocation_corners, bare, exact, fault_of, emptied}
use Rattle.proposals.specs.Proposals.{case_of, number_of, numbers}
use Rattle.proposals.specs.Verdict.{in_bounds, meets, row_met, verdict, verdict_by}

pub allocation-corners-hold : AllHold allocation_corners
unfolding allocation_corners bare exact fault_of emptied allocation_checks allocation_fault verdicts_left case_of number_of numbers in_bounds meets row_met verdict verdict_by lowest dot is_equality row_of bits box_checks first in_range length_checks narrow number_checks ordered size_checks box_of empty_box is_empty same_list eq_z all sum
allocation-corners-hold = (refl, (refl, (refl, (refl, (refl, (refl, (refl, (refl, (refl, (refl, (refl, (refl, (refl, (refl, (refl, (refl, (refl, (refl, (refl, tt)))))))))))))))))))
