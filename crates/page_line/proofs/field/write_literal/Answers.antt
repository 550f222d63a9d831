-- `page_line::field::write_literal`: the number is made beside the buffer, with a space in whose place the sign is written.
use Prim.Native.Nat.{◌-◌, ◌/◌, ◌≤◌, ℕ}
use Rattle.page_line.proofs.MadeLaws.{literal-made, made-end, made-number, small-columns, small_signed}
use Rattle.text.proofs.TextLaws.{wrote-length}
use Rattle.text.specs.Decimal.{signed}
use Rattle.text.specs.Fields.{field}
use Rattle.text.specs.Text.{Wrote}
use lib.IntN.{pos}
use lib.ListN.{drop, length, take}
use mathlib.Core.List.{List}
use mathlib.Core.Path.{◌≡◌, ap}
use native.Mathlib.Omega.{arith}
use Rattle.page_line.proofs.field.write_literal.Goals as goal
use Rattle.page_line.proofs.field.write_literal.Goals.{After-write_integer-end}

-- the number with its space, in an array of its own; it has at most three digits
made : (c : After-write_integer-end) → (z : List ℕ) × Wrote z 0 (field (pos (c.args.q / 2))) c.write_integer-end.result c.write_integer-end.new.buf
made c =
    (_, rw (small_signed (c.args.q / 2) (omega (arith, c.requires.q_lt_max_literals))) at c.write_integer-end.ensures.text)

number-length : (c : After-write_integer-end) → length (take (c.write_integer-end.result - 1) (drop 1 c.write_integer-end.new.buf)) ≡ length (signed (pos (c.args.q / 2)))
number-length c = ap (λ (x : List ℕ). length x) (made-number _ (made c).1)

few : (c : After-write_integer-end) → length (signed (pos (c.args.q / 2))) ≤ 3
few c = small-columns (c.args.q / 2) (omega (arith, c.requires.q_lt_max_literals))

pub slice_bounds-write_text-count : goal.slice_bounds-write_text-count
slice_bounds-write_text-count c = omega (arith, made-end _ (made (goal.at.slice_bounds-write_text-count c).After-write_integer-end).1)

pub slice_bounds-write_text-start : goal.slice_bounds-write_text-start
slice_bounds-write_text-start c = omega (arith, made-end _ (made (goal.at.slice_bounds-write_text-start c).After-write_integer-end).1)

pub write_text-after-requires : goal.write_text-after-requires
write_text-after-requires c =
    let w = c.write_byte-digits.ensures in
    omega (arith, number-length (goal.at.write_text-after-requires c).After-write_integer-end, few (goal.at.write_text-after-requires c).After-write_integer-end, w.end, wrote-length w, c.requires.at_in_bounds)

pub overflow_sub-end : goal.overflow_sub-end
overflow_sub-end c =
    omega (arith, made-end _ (made (goal.at.overflow_sub-end c).After-write_integer-end).1, few (goal.at.overflow_sub-end c).After-write_integer-end)

pub write_spaces-requires : goal.write_spaces-requires
write_spaces-requires c =
    let v = c.write_text-after.ensures in
    let w = c.write_byte-digits.ensures in
    omega (arith, v.end, wrote-length v, number-length (goal.at.write_spaces-requires c).After-write_integer-end, made-end _ (made (goal.at.write_spaces-requires c).After-write_integer-end).1, few (goal.at.write_spaces-requires c).After-write_integer-end, w.end, wrote-length w, c.requires.at_in_bounds)

pub returns : goal.returns
returns c =
    literal-made c.args.q (made (goal.at.returns c).After-write_integer-end).1 c.sign.ensures c.write_byte-digits.ensures c.write_text-after.ensures c.write_spaces.ensures
