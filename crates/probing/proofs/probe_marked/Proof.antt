-- `probing::probe_marked`: side 0 stands in the front of its array, as the propagated fix, and `finish_probe` does the rest; the
-- empty box is not probed. Assumes nothing.
use Prim.Native.Nat.{◌*◌, ℕ}
use borrow.Author.Rules.{rules}
use lib.Dec.{T}
use lib.IntN.{ℤ}
use lib.ListN.{drop, length, take}
use lib.Seq.{length_front, take_at}
use mathlib.Core.Bool.{false}
use mathlib.Core.List.{List, ◌++◌}
use mathlib.Core.Logic.{inl}
use mathlib.Core.Path.{◌∙◌, ◌≡◌, ap, refl, sym}
use native.Mathlib.Omega.{arith}
use Rattle.integer.proofs.Tests.{false→T, or_r}
use Rattle.model.specs.Box.{is_empty, is_free}
use Rattle.model.specs.Rows.{rows_of}
use Rattle.semantics.specs.Probe.{fix, probe}
use Rattle.semantics.specs.Propagate.{propagate}
use Rattle.row_index.specs.Index.{Index}
use Rattle.propagation.specs.Results.{propagation_of}
use Rattle.marked_row.proofs.LocalBox.{blank, box-room}
use Rattle.probe_side.specs.Marked.{Marked}
use Rattle.two_sides.specs.Results.{probing_of, report_of}
use Rattle.probing.proofs.probe_marked.Statement.{statement}
use Rattle.probing.proofs.probe_marked.Tie as tie

is-empty-requires : tie.Need-is_empty-requires
is-empty-requires c κs = search rules

untried-requires : tie.Need-untried-requires
untried-requires c κs = search rules

untried-requires-2 : tie.Need-untried-requires-then-is_empty
untried-requires-2 c κs = search rules

same_length : tie.Need-shape_of-bounds-then-is_empty
same_length c = search rules

returns : tie.Need-returns-then-is_empty
unfolding probe probing_of report_of
returns c =
    let s = c.before.before.before.before.before.before.before.before.before in
    let empty = sym (c.is_empty.ensures _ s.requires.0.some s.requires.0.box) ∙ c.if-is_empty.true in
    (rw (empty, c.untried.ensures, c.untried-then-is_empty.ensures) refl, s.requires.1.1.1.1)

-- the box is not empty, so k is free
module _ (c : tie.Else-is_empty) where
  abbrev start : tie.Start
  start = c.before.before.before.before.before.before.before

  some : is_empty start.args.n start.args.bounds.now ≡ false
  some = sym (c.is_empty.ensures _ start.requires.0.some start.requires.0.box) ∙ c.if-is_empty.false

  free : T (is_free start.args.bounds.now start.args.k)
  free =
      let a = start.args in
      let e = is_empty a.n a.bounds.now in
      or_r e (is_free a.bounds.now a.k) start.requires.1.1.0 (false→T e some)

find-clean-requires : tie.Need-find_clean-requires
find-clean-requires c κs =
    let p = (start c.before.before).requires in
    let x = p.1.1.1.1 in
    record { valid = p.0; steps = x.index.rows; clean = x.clean; room = omega (arith, p.0.few_rows, x.len) }

-- the marks of the box, with any index
module _ (c : tie.After-find_clean) where
  abbrev else1 : tie.Else-is_empty
  else1 = c.before.before.before

  abbrev marks : List ℕ
  marks = c.find_clean.new.marks

  found-index : let a = (start else1).args in Index a.n a.m a.coefs.now c.find_clean.new.across a.signs.now
  found-index = record { rows = c.find_clean.ensures.1; columns = (start else1).requires.1.1.1.1.index.columns }

  found : {across signs : List ℕ} → let a = (start else1).args in Index a.n a.m a.coefs.now across signs
      → Marked a.n a.m a.bounds.now (rows_of a.coefs.now a.rhs.now a.kinds.now) across signs marks
  found x = record { index = x; clean = c.find_clean.ensures.0; len = c.find_clean.auto.marks ∙ (start else1).requires.1.1.1.1.len }

array-borrow-prefix-zero : tie.Need-slice_bounds-zero-end
array-borrow-prefix-zero c = search rules

slice-aggregate-try-side : tie.Need-slice_bounds-try_side-end
slice-aggregate-try-side c = sym (box-room c.requires.0)

try-side-requires : tie.Need-try_side-s0-requires
try-side-requires c κs =
    let f = c.before.before.before.before.before.before.before in
    let p = (start (else1 f)).requires in
    (p.0, (free (else1 f), (p.1.1.1.0, (inl refl, (box-room p.0, found f (found-index f))))))

-- side 0, in the front of its array
module _ (c : tie.After-try_side-s0) where
  abbrev s0 : tie.Start
  s0 = c.before.before.before.before.before.before.before.before.before.before.before.before.before.before.before.before.before.before

  abbrev zero : List ℤ
  zero = c.try_side-s0.new.side

  abbrev zero-array : List ℤ
  zero-array = zero ++ drop (length s0.args.bounds.now) blank

  zero-length : length zero ≡ length (take (length s0.args.bounds.now) blank)
  zero-length = c.try_side-s0.auto.side

  zero-whole : length zero-array ≡ 256
  zero-whole = length_front blank zero (length s0.args.bounds.now) zero-length

  zero_is : let a = s0.args in propagation_of c.try_side-s0.result (take (2 * a.n) zero-array)
      ≡ propagate a.budget a.n a.m (rows_of a.coefs.now a.rhs.now a.kinds.now) (fix a.n a.bounds.now a.k 0)
  zero_is =
      ap (propagation_of c.try_side-s0.result) (take_at zero _ (2 * s0.args.n) (zero-length ∙ box-room s0.requires.0 ∙ s0.requires.0.box.len))
      ∙ c.try_side-s0.ensures.0 0 refl

slice-aggregate-finish-probe : tie.Need-slice_bounds-finish_probe-end
slice-aggregate-finish-probe c = sym (zero-whole c.before.before.before.before.before.before.before.before)

finish-probe-requires : tie.Need-finish_probe-requires
finish-probe-requires c κs =
    let t = c.before.before.before.before.before.before.before.before.before.before.before in
    let f = t.before.before.before.before.before.before.before.before in
    let p = (s0 t).requires in
    (p.0, (p.1.0, (free (else1 f), (p.1.1.1.0, ((zero-whole t, zero_is t), found f t.try_side-s0.ensures.1)))))

same-length-2 : tie.Need-shape_of-bounds
same-length-2 c = search rules

same-length-3 : tie.Need-shape_of-table
same-length-3 c = search rules

same-length-4 : tie.Need-shape_of-across
same-length-4 c =
    let j = c.before.before.before.before.before.before.before.before.before in
    let t = j.before.before.before.before.before.before.before.before.before.before.before.before in
    j.finish_probe.auto.across ∙ t.try_side-s0.auto.across ∙ t.find_clean.auto.across

same-length-5 : tie.Need-shape_of-signs
same-length-5 c = search rules

same-length-6 : tie.Need-shape_of-marks
same-length-6 c =
    let j = c.before.before.before.before.before.before.before.before.before in
    j.finish_probe.auto.marks ∙ j.find_clean.auto.marks

returns-2 : tie.Need-returns
returns-2 c = c.finish_probe.ensures

pub probe_marked_spec : {M : Type 1} → statement M
probe_marked_spec =
    tie.close
    (tie.spec
    is-empty-requires
    untried-requires
    untried-requires-2
    same_length
    returns
    find-clean-requires
    array-borrow-prefix-zero
    slice-aggregate-try-side
    try-side-requires
    slice-aggregate-finish-probe
    finish-probe-requires
    same-length-2
    same-length-3
    same-length-4
    same-length-5
    same-length-6
    returns-2)
