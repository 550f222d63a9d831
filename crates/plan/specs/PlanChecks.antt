-- The checks of a call that is lent n, bounds and perhaps a list, and neither m nor a row.
use Rattle.std.specs.Prelude.{◌*◌, ◌%◌, ℕ, eqb, leb, ℤ, length, Bool, ◌&&◌, List, ◌++◌, ◌∷◌}
use Rattle.model.specs.Checks.{Check, box_checks, must, size_checks}

-- 3 of n alone: there is no m, and no rows are not too many. 5 of the bounds, and of whatever else is lent, which `fits` where it has
-- its length. Then 6, 7 and 23 of the box.
unfoldable pub bounds_checks : ℕ → List ℤ → (fits : Bool) → List Check
bounds_checks n B fits = size_checks n 0 ++ (must (eqb (length B) (2 * n)) 5 ∷ must fits 5 ∷ box_checks n B)

-- "Here a sheet of over 1,000,000 records is refused by check 5." (02, C-17)
abbrev pub max_records : ℕ
max_records = 1_000_000

-- a list of so many numbers: four to a record, as where it is run, and not too many
unfoldable pub list_fits : ℕ → Bool
list_fits len = eqb (len % 4) 0 && leb len (4 * max_records)
