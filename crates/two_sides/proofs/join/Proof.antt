-- `two_sides::join` is join_sides: each way out is one of its four cases (`joins-none`, `joins-one`, `joins-zero`,
-- `joins-both`). Assumes nothing.
use Prim.Native.Nat.{◌<◌, ℕ}
use borrow.Author.Rules.{rules}
use lib.IntN.{ℤ}
use lib.ListN.{length, take}
use lib.Seq.{length-take-le}
use mathlib.Core.Bool.{cond}
use mathlib.Core.List.{List}
use mathlib.Core.Path.{◌∙◌, ◌≡◌, ap, sym}
use native.Mathlib.Omega.{arith}
use Rattle.model.specs.Box.{is_empty}
use Rattle.model.specs.Valid.{ValidBox}
use Rattle.semantics.specs.Propagate.{is_none}
use Rattle.propagation.specs.Results.{propagation_of}
use Rattle.probe_side.proofs.SideLaws.{is-none, is_some}
use Rattle.two_sides.proofs.JoinLaws.{joins-both, joins-none, joins-one, joins-zero}
use Rattle.two_sides.proofs.join.Statement.{statement}
use Rattle.two_sides.proofs.join.Tie as tie

-- the two parts, as long as a box
module _ (s : tie.Start) where
  abbrev n : ℕ
  n = s.args.n

  abbrev len : ℕ
  len = length s.args.bounds.now

  abbrev zero : List ℤ
  zero = take len s.args.zero.now

  abbrev one : List ℤ
  one = take len s.args.one.now

  length-zero : length zero ≡ len
  length-zero = length-take-le len s.args.zero.now (omega (arith, s.requires))

  length-one : length one ≡ len
  length-one = length-take-le len s.args.one.now (omega (arith, s.requires))

  some : 0 < n
  some = omega (arith, s.requires.variable)

  valid : ValidBox n zero
  valid = rw s.requires.box_len s.requires.valid0

  empty-none : is_empty n zero ≡ is_none (propagation_of s.args.s0 zero).ending
  empty-none = rw s.requires.box_len (sym s.requires.none0)

side-of-requires : tie.Need-side_of-side0-requires
side-of-requires c κs = search rules

side-of-requires-2 : tie.Need-side_of-side1-requires
side-of-requires-2 c κs = search rules

enum_told : tie.Need-enum_told-1
enum_told c = search rules

enum-told-2 : tie.Need-enum_told-in_default
enum-told-2 c = search rules

slice-aggregate-record-implications : tie.Need-slice_bounds-record_implications-end
slice-aggregate-record-implications c = sym (length-zero c.before.before.before.before.before)

slice-aggregate-record-implications-2 : tie.Need-slice_bounds-record_implications-end-in_default-s1
slice-aggregate-record-implications-2 c = sym (length-one c.before.before.before.before.before)

record-implications-requires : tie.Need-record_implications-added-requires
record-implications-requires c κs =
    let s = c.before.before.before.before.before.before in
    let p = s.requires in
    (record { few = p.few; variable = p.variable; other = some s; len = p.table.len }, (p.box_len, (length-zero s ∙ p.box_len, length-one s ∙ p.box_len)))

slice-aggregate-hull : tie.Need-slice_bounds-hull-end
slice-aggregate-hull c = sym (length-zero c.before.before.before.before.before.before.before.before.before)

slice-aggregate-hull-2 : tie.Need-slice_bounds-hull-end-in_default-s1
slice-aggregate-hull-2 c = sym (length-one c.before.before.before.before.before.before.before.before.before)

hull-requires : tie.Need-hull-requires
hull-requires c κs =
    let s = c.before.before.before.before.before.before.before.before.before.before in
    (length-zero s, length-one s)

same_length : tie.Need-shape_of-bounds-in_default-s1
same_length c = search rules

same-length-2 : tie.Need-shape_of-table-in_default-s1
same-length-2 c = search rules

returns : tie.Need-returns-in_default-s1
returns c =
    let r = c.before.before.before.before.before in
    let m = r.before.before in
    let o = m.before.before in
    let s = o.before.before.before in
    let a = s.args in
    rw (← s.requires.box_len)
    (joins-both a.n a.k a.bounds.now a.table.now a.s0 a.s1 (zero s) (one s) _ _ o.side_of-side0.ensures o.side_of-side1.ensures
    (is_some a.s0 (zero s) m.in_default.in_default-own.keys2) (is_some a.s1 (one s) m.in_default-s1.in_default-s1-own.keys2)
    (c.hull.ensures a.n s.requires.box_len) r.record_implications-added.ensures)

-- the part that survivor returns, by which side is infeasible
survives-zero : (c : tie.After-survivor) → c.survivor.result.now ≡ zero c.before.before.before.before.before.before
survives-zero c =
    let s = c.before.before.before.before.before.before in
    c.survivor.ensures (n s) (some s) (valid s)
    ∙ ap (λ b. cond b (one s) (zero s)) (empty-none s ∙ is_some s.args.s0 (zero s) c.in_default.in_default-own.keys2)

survives-one : (c : tie.After-survivor-in_default-s1-2) → c.survivor-in_default-s1-2.result.now ≡ one c.before.before.before.before.before.before
survives-one c =
    let s = c.before.before.before.before.before.before in
    c.survivor-in_default-s1-2.ensures (n s) (some s) (valid s)
    ∙ ap (λ b. cond b (one s) (zero s)) (empty-none s ∙ is-none (zero s) c.in-Infeasible.is)

survivor-requires : tie.Need-survivor-requires
survivor-requires c κs = search rules

copy-box-requires : tie.Need-copy_box-requires
copy-box-requires c κs = ap length (survives-zero c.before) ∙ length-zero c.before.before.before.before.before.before.before

same-length-3 : tie.Need-shape_of-bounds-in_default
same-length-3 c = search rules

returns-2 : tie.Need-returns-in_default
returns-2 c =
    let v = c.before.before.before in
    let o = v.before.before.before in
    let s = o.before.before.before in
    let a = s.args in
    rw (← s.requires.box_len)
    (joins-zero a.n a.k a.bounds.now a.table.now a.s0 a.s1 (zero s) (one s) _ _ o.side_of-side0.ensures o.side_of-side1.ensures
    (is_some a.s0 (zero s) v.in_default.in_default-own.keys2) (is-none (one s) v.in-Infeasible-s1.is)
    (c.copy_box.ensures ∙ survives-zero v))

enum-told-3 : tie.Need-enum_told-in-Infeasible-s1-2
enum-told-3 c = search rules

survivor-requires-2 : tie.Need-survivor-requires-in_default-s1-2
survivor-requires-2 c κs = search rules

copy-box-requires-2 : tie.Need-copy_box-requires-in_default-s1-2
copy-box-requires-2 c κs = ap length (survives-one c.before) ∙ length-one c.before.before.before.before.before.before.before

same-length-4 : tie.Need-shape_of-bounds-in_default-s1-2
same-length-4 c = search rules

returns-3 : tie.Need-returns-in_default-s1-2
returns-3 c =
    let v = c.before.before.before in
    let o = v.before.before.before in
    let s = o.before.before.before in
    let a = s.args in
    rw (← s.requires.box_len)
    (joins-one a.n a.k a.bounds.now a.table.now a.s0 a.s1 (zero s) (one s) _ _ o.side_of-side0.ensures o.side_of-side1.ensures
    (is-none (zero s) v.in-Infeasible.is) (is_some a.s1 (one s) v.in_default-s1-2.in_default-s1-2-own.keys2)
    (c.copy_box-in_default-s1-2.ensures ∙ survives-one v))

make-empty-requires : tie.Need-make_empty-requires
make-empty-requires c κs = search rules

same-length-5 : tie.Need-shape_of-bounds
same-length-5 c = search rules

returns-4 : tie.Need-returns
returns-4 c =
    let v = c.before.before.before in
    let o = v.before.before in
    let s = o.before.before.before in
    let a = s.args in
    rw (← s.requires.box_len)
    (joins-none a.n a.k a.bounds.now a.table.now a.s0 a.s1 (zero s) (one s) _ _ o.side_of-side0.ensures o.side_of-side1.ensures
    (is-none (zero s) v.in-Infeasible.is) (is-none (one s) v.in-Infeasible-s1-2.is)
    (c.make_empty.ensures a.n s.requires.box_len))

pub join_spec : {M : Type 1} → statement M
join_spec =
    tie.close
    (tie.spec
    side-of-requires
    side-of-requires-2
    enum_told
    enum-told-2
    slice-aggregate-record-implications
    slice-aggregate-record-implications-2
    record-implications-requires
    slice-aggregate-hull
    slice-aggregate-hull-2
    hull-requires
    same_length
    same-length-2
    returns
    survivor-requires
    copy-box-requires
    same-length-3
    returns-2
    enum-told-3
    survivor-requires-2
    copy-box-requires-2
    same-length-4
    returns-3
    make-empty-requires
    same-length-5
    returns-4)
