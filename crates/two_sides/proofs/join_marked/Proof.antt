-- `two_sides::join_marked`: the copy of the box is what the marks belong to. Assumes nothing.
use borrow.Author.Rules.{rules}
use lib.IntN.{ℤ}
use lib.ListN.{drop, length, take}
use mathlib.Core.List.{List, ◌++◌}
use mathlib.Core.Path.{◌∙◌, ◌≡◌, ap, sym}
use native.Mathlib.Omega.{arith}
use Rattle.marked_row.proofs.LocalBox.{blank, held, held_fits, held-length}
use Rattle.probe_side.proofs.MarkedLaws.{front-room}
use Rattle.two_sides.proofs.JoinLaws.{marks-from}
use Rattle.two_sides.proofs.join_marked.Statement.{statement}
use Rattle.two_sides.proofs.join_marked.Tie as tie

small : (s : tie.Start) → length (take (length s.args.bounds.now) blank) ≡ length s.args.bounds.now
small s = let p = s.requires.0 in front-room s.args.bounds.now (omega (arith, p.few, p.box_len))

array-borrow-prefix-old : tie.Need-slice_bounds-old-end
array-borrow-prefix-old c = search rules

slice-aggregate-copy-box : tie.Need-slice_bounds-copy_box-end
slice-aggregate-copy-box c = sym (small c.before.before.before.before.before)

copy-box-requires : tie.Need-copy_box-requires
copy-box-requires c κs = sym (small c.before.before.before.before.before)

-- the array's front is the box
module _ (c : tie.After-copy_box) where
  abbrev s : tie.Start
  s = c.before.before.before.before.before.before

  abbrev B : List ℤ
  B = s.args.bounds.now

  abbrev P : List ℤ
  P = c.copy_box.new.to

  copied : P ≡ B
  copied = c.copy_box.ensures

  front : take (length B) (P ++ drop (length B) blank) ≡ B
  front = held P (length B) (ap length copied) ∙ copied

join-requires : tie.Need-join-answer-requires
join-requires c κs = search rules

array-borrow-prefix-old-2 : tie.Need-slice_bounds-old-end-2
array-borrow-prefix-old-2 c = let k = c.before.before.before.before.before.before.before.before in held_fits (P k) (length (B k)) (ap length (copied k))

slice-aggregate-remark-all : tie.Need-slice_bounds-remark_all-end
slice-aggregate-remark-all c = let k = c.before.before.before.before.before.before.before.before.before in sym (held-length (P k) (length (B k)) (ap length (copied k)))

remark-all-requires : tie.Need-remark_all-requires
remark-all-requires c κs =
    let k = c.before.before.before.before.before.before.before.before.before.before in
    let p = (s k).requires in
    let call = c.join-answer in
    (p.1.0, p.1.1, p.0.few, ap length (front k) ∙ p.0.box_len, call.auto.bounds ∙ p.0.box_len, p.1.2)

same_length : tie.Need-shape_of-bounds
same_length c = search rules

same-length-2 : tie.Need-shape_of-table
same-length-2 c = search rules

same-length-3 : tie.Need-shape_of-signs
same-length-3 c = search rules

same-length-4 : tie.Need-shape_of-marks
same-length-4 c = search rules

returns : tie.Need-returns
returns c =
    let k = c.before.before.before.before.before.before.before.before.before.before.before.before.before.before.before.before in
    let keep = c.remark_all in
    (c.join-answer.ensures, (marks-from (s k).args.marks.now keep.new.marks (front k) keep.ensures.1.0, keep.ensures.1.1))

pub join_marked_spec : {M : Type 1} → statement M
join_marked_spec =
    tie.close
    (tie.spec
    array-borrow-prefix-old
    slice-aggregate-copy-box
    copy-box-requires
    join-requires
    array-borrow-prefix-old-2
    slice-aggregate-remark-all
    remark-all-requires
    same_length
    same-length-2
    same-length-3
    same-length-4
    returns)
