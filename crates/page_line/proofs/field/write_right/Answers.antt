-- `page_line::field::write_right`: the number is made with a space before it, which is the last of the spaces before it.
use Prim.Native.Nat.{◌-◌, ℕ}
use Rattle.page_line.proofs.MadeLaws.{made-end, right-made, spaces-length}
use Rattle.text.proofs.TextLaws.{wrote-length}
use Rattle.text.specs.Fields.{field}
use Rattle.text.specs.Text.{Wrote}
use lib.ListN.{length, take}
use lib.Seq.{length-take-le}
use mathlib.Core.List.{List}
use mathlib.Core.Path.{◌≡◌}
use mir.Facts.{to_z-of_z}
use native.Mathlib.Omega.{arith}
use Rattle.page_line.proofs.field.write_right.Goals as goal
use Rattle.page_line.proofs.field.write_right.Goals.{After-write_integer-end}

-- the number with its space, in an array of its own
made : (c : After-write_integer-end) → (z : List ℕ) × Wrote z 0 (field c.args.z) c.write_integer-end.result c.write_integer-end.new.buf
made c = let f = c.ranges.z in (_, simp to_z-of_z at c.write_integer-end.ensures.text)

all-taken : (c : After-write_integer-end) → length (take c.write_integer-end.result c.write_integer-end.new.buf) ≡ c.write_integer-end.result
all-taken c = let w = (made c).1 in length-take-le c.write_integer-end.result c.write_integer-end.new.buf (omega (arith, w.fits, wrote-length w))

pub overflow_sub-columns : goal.overflow_sub-columns
overflow_sub-columns c = omega (arith, made-end _ (made (goal.at.overflow_sub-columns c).After-write_integer-end).1, c.requires.z_len_bound)

pub write_text-requires : goal.write_text-requires
write_text-requires c =
    let s = c.write_spaces-start.ensures in
    omega (arith, all-taken (goal.at.write_text-requires c).After-write_integer-end, made-end _ (made (goal.at.write_text-requires c).After-write_integer-end).1, s.end, wrote-length s, spaces-length (c.args.columns - c.write_integer-end.result), c.requires.z_len_bound, c.requires.columns_in_bounds)

pub returns : goal.returns
returns c =
    right-made _ (made (goal.at.returns c).After-write_integer-end).1 c.requires.z_len_bound c.write_spaces-start.ensures c.write_text.ensures
