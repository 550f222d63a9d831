-- What the turn of a sweep at variable j reads: the coefficient with the row's sign and the two bounds, as the machine holds them.
use Prim.Native.Nat.{◌*◌, ◌+◌, ℕ}
use lib.IntN.{◌*ℤ◌, ℤ}
use lib.ListN.{length}
use mathlib.Core.List.{List}
use mathlib.Core.Path.{◌≡◌}
use mir.Facts.{to_z-of_z}
use mir.Syntax.{w32}
use mir.Val.{of_z, to_z}
use Rattle.integer.specs.Range.{Within}
use Rattle.integer.proofs.RangeLaws.{within-fits}
use Rattle.model.specs.Box.{at, lower, upper}
use Rattle.row.specs.Kinds.{signed}
use Rattle.row.specs.ValidRow.{IsSign, ValidCoefs}
use Rattle.row.proofs.RowLoops.{bounds-small, coefs-small}
use Rattle.row.proofs.SignedLaws.{sign-bits, signed-bits, signed-coefs}

module _ {n : ℕ} {sign : ℤ} {C B : List ℤ} (v : ValidCoefs n C B) (g : IsSign sign) where
  -- the row with its sign
  abbrev pub row_read : List ℤ
  row_read = signed (to_z w32 (of_z w32 sign)) C

  pub coefs_read : ValidCoefs n row_read B
  coefs_read = signed-coefs (sign-bits g) v

  module _ (j : ℕ) where
    pub reads_small : Within 1_000_000 (at row_read j) × (Within 32_768 (lower B j) × Within 32_768 (upper B j))
    reads_small = (coefs-small coefs_read j, (bounds-small coefs_read (2 * j), bounds-small coefs_read (2 * j + 1)))

    pub coef_read : to_z w32 (of_z w32 (to_z w32 (of_z w32 sign) *ℤ to_z w32 (of_z w32 (at C j)))) ≡ at row_read j
    coef_read = signed-bits g C j (coefs-small v j)

    pub lower_read : to_z w32 (of_z w32 (lower B j)) ≡ lower B j
    lower_read = to_z-of_z {w = w32} (within-fits w32 tt reads_small.1.0)

    pub upper_read : to_z w32 (of_z w32 (upper B j)) ≡ upper B j
    upper_read = to_z-of_z {w = w32} (within-fits w32 tt reads_small.1.1)
