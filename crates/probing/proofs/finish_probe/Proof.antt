-- `probing::finish_probe`: side 1 stands in the front of its array, as the propagated fix, and is joined with side 0; rows that read
-- no bound that moved stay clean. Assumes nothing.
use Prim.Native.Nat.{◌*◌}
use borrow.Author.Rules.{rules}
use lib.IntN.{ℤ}
use lib.ListN.{drop, length, take}
use lib.Seq.{length_front, take_at}
use mathlib.Core.Bool.{false}
use mathlib.Core.List.{List, ◌++◌}
use mathlib.Core.Logic.{inr}
use mathlib.Core.Path.{◌∙◌, ◌≡◌, ap, ap₂, refl, sym}
use native.Mathlib.Omega.{arith}
use Rattle.integer.proofs.Tests.{or_inr}
use Rattle.model.specs.Box.{NonEmpty, is_empty, is_free}
use Rattle.model.specs.Rows.{rows_of}
use Rattle.model.proofs.BoxLaws.{non_empty-isn't}
use Rattle.semantics.specs.Probe.{fix, join_sides, probe}
use Rattle.semantics.specs.Propagate.{propagate}
use Rattle.row_index.specs.Index.{Index}
use Rattle.propagation.specs.Results.{propagation_of}
use Rattle.marked_row.proofs.LocalBox.{blank, box-room}
use Rattle.probe_side.specs.Marked.{Marked}
use Rattle.two_sides.specs.Results.{probing_of}
use Rattle.probing.proofs.ProbingLaws.{marked-probed}
use Rattle.probe_side.proofs.SideLaws.{fix-model, free-non_empty, side-none, side-valid}
use Rattle.probing.proofs.finish_probe.Statement.{statement}
use Rattle.probing.proofs.finish_probe.Tie as tie

array-borrow-prefix-one : tie.Need-slice_bounds-one-end
array-borrow-prefix-one c = search rules

slice-aggregate-try-side : tie.Need-slice_bounds-try_side-end
slice-aggregate-try-side c = sym (box-room c.requires.0)

try-side-requires : tie.Need-try_side-s1-requires
try-side-requires c κs =
    let p = c.requires in
    (p.0, (p.1.1.0, (p.1.1.1.0, (inr refl, (box-room p.0, p.1.1.1.1.1)))))

-- side 1, in the front of its array
module _ (c : tie.After-try_side-s1) where
  abbrev s : tie.Start
  s = c.before.before.before.before.before.before.before.before.before

  non_empty : NonEmpty s.args.n s.args.bounds.now
  non_empty = free-non_empty s.args.k s.requires.1.1.1.0 s.requires.1.1.0 s.requires.0.box.shape

  some : is_empty s.args.n s.args.bounds.now ≡ false
  some = non_empty-isn't s.requires.0.some non_empty

  abbrev one : List ℤ
  one = c.try_side-s1.new.side

  abbrev one-array : List ℤ
  one-array = one ++ drop (length s.args.bounds.now) blank

  one-length : length one ≡ length (take (length s.args.bounds.now) blank)
  one-length = c.try_side-s1.auto.side

  one-whole : length one-array ≡ 256
  one-whole = length_front blank one (length s.args.bounds.now) one-length

  one-is : let a = s.args in propagation_of c.try_side-s1.result (take (2 * a.n) one-array)
      ≡ propagate a.budget a.n a.m (rows_of a.coefs.now a.rhs.now a.kinds.now) (fix a.n a.bounds.now a.k 1)
  one-is =
      ap (propagation_of c.try_side-s1.result) (take_at one _ (2 * s.args.n) (one-length ∙ box-room s.requires.0 ∙ s.requires.0.box.len))
      ∙ c.try_side-s1.ensures.0 1 refl

  abbrev marked : Marked s.args.n s.args.m s.args.bounds.now (rows_of s.args.coefs.now s.args.rhs.now s.args.kinds.now)
      c.try_side-s1.new.across c.try_side-s1.new.signs s.args.marks.now
  marked = let x = s.requires.1.1.1.1.1 in record { index = c.try_side-s1.ensures.1; clean = x.clean; len = x.len }

slice-aggregate-join-marked : tie.Need-slice_bounds-join_marked-end
slice-aggregate-join-marked c = sym (one-whole c.before.before.before.before.before.before)

join-marked-requires : tie.Need-join_marked-requires
join-marked-requires c κs =
    let t = c.before.before.before.before.before.before.before.before.before.before in
    let a = (s t).args in
    let p = (s t).requires in
    let f = fix-model a.k 0 p.0 p.1.1.0 p.1.1.1.0 (omega arith) in
    let zero = p.1.1.1.1.0 in (
      record {
        few = p.0.few;
        variable = p.1.1.1.0;
        box_len = p.0.box.len;
        room0 = omega (arith, p.0.few, zero.0);
        room1 = omega (arith, p.0.few, one-whole t);
        valid0 = side-valid a.budget a.m (rows_of a.coefs.now a.rhs.now a.kinds.now) p.0.some f.box a.s0 _ zero.1;
        none0 = side-none a.budget a.m (rows_of a.coefs.now a.rhs.now a.kinds.now) p.0.some f.box a.s0 _ zero.1;
        table = p.1.0;
      },
      (t.try_side-s1.ensures.1.columns, omega (arith, p.0.kinds_len), omega (arith, p.0.few_rows, (marked t).len)),
    )

same_length : tie.Need-shape_of-bounds
same_length c = search rules

same-length-2 : tie.Need-shape_of-table
same-length-2 c = search rules

same-length-3 : tie.Need-shape_of-across
same-length-3 c = search rules

same-length-4 : tie.Need-shape_of-signs
same-length-4 c = search rules

same-length-5 : tie.Need-shape_of-marks
same-length-5 c = search rules

-- what is left
module _ (j : tie.After-join_marked) where
  abbrev t : tie.After-try_side-s1
  t = j.before.before.before.before.before.before.before.before.before.before.before

  joined : let a = (s t).args in probing_of j.join_marked.result j.join_marked.new.bounds j.join_marked.new.table
      ≡ probe a.k a.budget a.n a.m (rows_of a.coefs.now a.rhs.now a.kinds.now) a.bounds.now a.table.now
  unfolding probe
  joined =
      let a = (s t).args in
      j.join_marked.ensures.0
      ∙ ap₂ (join_sides a.n a.k a.bounds.now a.table.now) (s t).requires.1.1.1.1.0.1 (one-is t)
      ∙ sym (rw (some t) refl)

returns : tie.Need-returns
returns c =
    let j = c.before.before.before.before.before.before.before in
    let a = (s (t j)).args in
    let p = (s (t j)).requires in
    let index : Index a.n a.m a.coefs.now (t j).try_side-s1.new.across j.join_marked.new.signs =
    record { rows = (t j).try_side-s1.ensures.1.rows; columns = j.join_marked.ensures.1.1 } in (
      joined j,
      marked-probed a.k a.budget a.table.now j.join_marked.new.table j.join_marked.result p.0 (non_empty (t j))
          (or_inr (is_empty a.n a.bounds.now) (is_free a.bounds.now a.k) p.1.1.0) (marked (t j)) index (joined j)
          j.join_marked.ensures.1.0 j.join_marked.auto.marks,
    )

pub finish_probe_spec : {M : Type 1} → statement M
finish_probe_spec =
    tie.close
    (tie.spec
    array-borrow-prefix-one
    slice-aggregate-try-side
    try-side-requires
    slice-aggregate-join-marked
    join-marked-requires
    same_length
    same-length-2
    same-length-3
    same-length-4
    same-length-5
    returns)
