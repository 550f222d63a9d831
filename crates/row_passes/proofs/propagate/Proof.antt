-- `row_passes::propagate`: of arrays of zeros nothing is known, and `propagate_marked` does the rest. Assumes nothing.
use borrow.Author.Rules.{rules}
use lib.IntN.{ℤ}
use lib.ListN.{drop, length, take}
use mathlib.Core.List.{List, ◌++◌}
use mathlib.Core.Path.{◌∙◌, ◌≡◌, ap, sym}
use Rattle.marked_row.proofs.LocalBox.{blank, box-room, held, held_fits, held-length}
use Rattle.marked_row.proofs.LocalIndex.{watched-none}
use Rattle.row_passes.proofs.propagate.Statement.{statement}
use Rattle.row_passes.proofs.propagate.Tie as tie

array-borrow-prefix-seen : tie.Need-slice_bounds-seen-end
array-borrow-prefix-seen c = search rules

slice-aggregate-copy-box : tie.Need-slice_bounds-copy_box-end
slice-aggregate-copy-box c = sym (box-room c.requires)

copy-box-requires : tie.Need-copy_box-requires
copy-box-requires c κs = sym (box-room c.requires)

-- the array's front is the box
module _ (c : tie.After-copy_box) where
  abbrev s : tie.Start
  s = c.before.before.before

  abbrev B : List ℤ
  B = s.args.bounds.now

  abbrev P : List ℤ
  P = c.copy_box.new.to

  copied : P ≡ B
  copied = c.copy_box.ensures

  front : take (length B) (P ++ drop (length B) blank) ≡ B
  front = held P (length B) (ap length copied) ∙ copied

slice-aggregate-propagate-marked : tie.Need-slice_bounds-propagate_marked-end
slice-aggregate-propagate-marked c = search rules

slice-aggregate-propagate-marked-2 : tie.Need-slice_bounds-propagate_marked-end-2
slice-aggregate-propagate-marked-2 c = search rules

array-borrow-prefix-seen-2 : tie.Need-slice_bounds-seen-end-2
array-borrow-prefix-seen-2 c = let k = c.before.before.before.before in held_fits (P k) (length (B k)) (ap length (copied k))

slice-aggregate-propagate-marked-3 : tie.Need-slice_bounds-propagate_marked-end-3
slice-aggregate-propagate-marked-3 c = let k = c.before.before.before.before.before in sym (held-length (P k) (length (B k)) (ap length (copied k)))

slice-aggregate-propagate-marked-4 : tie.Need-slice_bounds-propagate_marked-end-4
slice-aggregate-propagate-marked-4 c = search rules

propagate-marked-requires : tie.Need-propagate_marked-requires
propagate-marked-requires c κs =
    let k = c.before.before.before.before.before.before in
    let v = (s k).requires in
    (v, (watched-none v (front k), v.few_rows))

same_length : tie.Need-shape_of-bounds
same_length c = search rules

returns : tie.Need-returns
returns c = c.propagate_marked.ensures.0

pub propagate_spec : {M : Type 1} → statement M
propagate_spec =
    tie.close
    (tie.spec
    array-borrow-prefix-seen
    slice-aggregate-copy-box
    copy-box-requires
    slice-aggregate-propagate-marked
    slice-aggregate-propagate-marked-2
    array-borrow-prefix-seen-2
    slice-aggregate-propagate-marked-3
    slice-aggregate-propagate-marked-4
    propagate-marked-requires
    same_length
    returns)
