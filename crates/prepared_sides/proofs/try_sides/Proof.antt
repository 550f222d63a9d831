-- `prepared_probe::sides::try_sides`: the sides stand in the fronts of their arrays, as the propagated fixes, and are joined; what they
-- tell stands in the halves of the list (`halves`). Assumes nothing.
use Prim.Native.Nat.{◌*◌, ◌/◌, ℕ}
use borrow.Author.Rules.{rules}
use lib.IntN.{ℤ}
use lib.ListN.{drop, length, take}
use lib.Seq.{length_front, take_at}
use mathlib.Core.List.{List, ◌++◌}
use mathlib.Core.Logic.{inl, inr}
use mathlib.Core.Path.{◌∙◌, ◌≡◌, ap, ap₂, refl, sym}
use native.Mathlib.Omega.{arith}
use Rattle.marked_row.proofs.LocalBox.{blank}
use Rattle.model.specs.Rows.{Rows}
use Rattle.model.proofs.BoxLaws.{non_empty-isn't}
use Rattle.probe_side.proofs.MarkedLaws.{front-room}
use Rattle.prepared_model.specs.Prepared.{Prepared}
use Rattle.propagation.specs.Results.{propagation_of}
use Rattle.semantics.specs.Probe.{fix, join_sides, probe}
use Rattle.semantics.specs.Propagate.{propagate}
use Rattle.prepared_sides.specs.Sides.{SideLeft}
use Rattle.prepared_sides.proofs.HalfLaws.{first-length, first-lent, halves, second-length, second-lent, sides-told}
use Rattle.prepared_sides.proofs.SideLaws.{joined-range, probing-range}
use Rattle.prepared_sides.proofs.try_sides.Statement.{statement}
use Rattle.prepared_sides.proofs.try_sides.Tie as tie

room : (s : tie.Start) → length (take (length s.args.bounds.now) blank) ≡ length s.args.bounds.now
room s = let b = s.requires.0.0.sized in front-room s.args.bounds.now (omega (arith, b.few, b.box.len))

array-borrow-prefix-zero : tie.Need-slice_bounds-zero-end
array-borrow-prefix-zero c = search rules

slice-aggregate-try-side : tie.Need-slice_bounds-try_side-end
slice-aggregate-try-side c = sym (room c.before.before.before.before)

slice-relend-prefix-try-side : tie.Need-slice_bounds-try_side-end-2
slice-relend-prefix-try-side c = search rules

slice-aggregate-try-side-2 : tie.Need-slice_bounds-try_side-end-3
slice-aggregate-try-side-2 c = let s = c.before.before.before.before.before in sym (first-length s.args.n s.args.reasons.now s.requires.1.1)

try-side-requires : tie.Need-try_side-s0-requires
try-side-requires c κs =
    let s = c.before.before.before.before.before in
    (s.requires.0, (inl refl, (room s, first-lent s.args.n s.args.reasons.now s.requires.1.1)))

-- a side in the front of its array
module _ (s : tie.Start) (S : List ℤ) (l : length S ≡ length (take (length s.args.bounds.now) blank)) where
  abbrev array : List ℤ
  array = S ++ drop (length s.args.bounds.now) blank

  whole : length array ≡ 256
  whole = length_front blank S (length s.args.bounds.now) l

  front : take (2 * s.args.n) array ≡ S
  front = take_at S _ (2 * s.args.n) (l ∙ room s ∙ s.requires.0.0.sized.box.len)

module _ (c : tie.After-try_side-s0) where
  abbrev s0 : tie.Start
  s0 = c.before.before.before.before.before.before

  abbrev zero : List ℤ
  zero = c.try_side-s0.new.side

  zero-length : length zero ≡ length (take (length s0.args.bounds.now) blank)
  zero-length = c.try_side-s0.auto.side

  zero_left : SideLeft s0.args.n c.try_side-s0.result.end (take (2 * s0.args.n) (array s0 zero zero-length))
  zero_left = rw (front s0 zero zero-length) c.try_side-s0.ensures.1.1

  zero_is : (A : Rows) → Prepared s0.args.ws.now A → let a = s0.args in
      propagation_of c.try_side-s0.result.end (take (2 * a.n) (array s0 zero zero-length)) ≡ propagate a.budget a.n a.m A (fix a.n a.bounds.now a.k 0)
  zero_is A P = ap (propagation_of c.try_side-s0.result.end) (front s0 zero zero-length) ∙ c.try_side-s0.ensures.0 A P 0 refl

  -- what it told
  abbrev R : List ℕ
  R = s0.args.reasons.now

  abbrev S0 : List ℕ
  S0 = c.try_side-s0.new.reasons

  told-length : length S0 ≡ length (take (length R / 2) R)
  told-length = c.try_side-s0.auto.reasons

array-borrow-prefix-one : tie.Need-slice_bounds-one-end
array-borrow-prefix-one c = search rules

slice-aggregate-try-side-3 : tie.Need-slice_bounds-try_side-end-4
slice-aggregate-try-side-3 c = search rules

mul-try-side : tie.Need-offset_bounds-reasons-half
mul-try-side c = search rules

sub-try-side : tie.Need-slice_bounds-try_side-count
sub-try-side c = search rules

part-try-side-start : tie.Need-slice_bounds-try_side-start
part-try-side-start c = search rules

part-try-side-end : tie.Need-slice_bounds-try_side-end-5
part-try-side-end c = search rules

try-side-requires-2 : tie.Need-try_side-s1-requires
try-side-requires-2 c κs =
    let t = c.before.before.before.before.before in
    let s = s0 t in
    (s.requires.0, (inr refl, (room s, second-lent s.args.n (R t) s.requires.1.1 (S0 t) (told-length t))))

module _ (c : tie.After-try_side-s1) where
  abbrev t0 : tie.After-try_side-s0
  t0 = c.before.before.before.before.before.before

  abbrev s1 : tie.Start
  s1 = s0 t0

  abbrev one : List ℤ
  one = c.try_side-s1.new.side

  one-length : length one ≡ length (take (length s1.args.bounds.now) blank)
  one-length = c.try_side-s1.auto.side

  one_left : SideLeft s1.args.n c.try_side-s1.result.end (take (2 * s1.args.n) (array s1 one one-length))
  one_left = rw (front s1 one one-length) c.try_side-s1.ensures.1.1

  one-is : (A : Rows) → Prepared s1.args.ws.now A → let a = s1.args in
      propagation_of c.try_side-s1.result.end (take (2 * a.n) (array s1 one one-length)) ≡ propagate a.budget a.n a.m A (fix a.n a.bounds.now a.k 1)
  one-is A P = ap (propagation_of c.try_side-s1.result.end) (front s1 one one-length) ∙ c.try_side-s1.ensures.0 A P 1 refl

slice-aggregate-join : tie.Need-slice_bounds-join-end
slice-aggregate-join c = let t = c.before.before.before.before.before.before.before.before.before.before in sym (whole (s0 t) (zero t) (zero-length t))

slice-aggregate-join-2 : tie.Need-slice_bounds-join-end-2
slice-aggregate-join-2 c = let d = c.before.before.before.before.before in sym (whole (s1 d) (one d) (one-length d))

join-requires : tie.Need-join-requires
join-requires c κs =
    let d = c.before.before.before.before.before.before.before in
    let p = (s1 d).requires in
    let b = p.0.0.sized in
    record {
      few = b.few;
      variable = p.0.2;
      box_len = b.box.len;
      room0 = omega (arith, b.few, whole (s1 d) (zero (t0 d)) (zero-length (t0 d)));
      room1 = omega (arith, b.few, whole (s1 d) (one d) (one-length d));
      valid0 = (zero_left (t0 d)).valid;
      none0 = (zero_left (t0 d)).none;
      table = p.1.0;
    }

same_length : tie.Need-shape_of-bounds
same_length c = search rules

same-length-2 : tie.Need-shape_of-table
same-length-2 c = search rules

same-length-3 : tie.Need-shape_of-reasons
same-length-3 c = search rules

returns : tie.Need-returns
unfolding probe
returns c =
    let j = c.before.before.before in
    let d = j.before.before.before.before.before.before.before.before in
    let t = t0 d in
    let s = s1 d in
    let a = s.args in
    let some = non_empty-isn't s.requires.0.0.sized.some s.requires.0.0.non_empty in (
      (λ A P. j.join.ensures ∙ ap₂ (join_sides a.n a.k a.bounds.now a.table.now) (zero_is t A P) (one-is d A P) ∙ sym (rw some refl)),
      (
        (λ A P.
            let fit = s.requires.1.1 in
            let S1 = d.try_side-s1.new.reasons in
            sides-told a.n (R t) fit a.k a.budget a.m A a.bounds.now (S0 t) S1 _ t.try_side-s0.result.row d.try_side-s1.result.row _ _ some
            (first-length a.n (R t) fit) (second-length a.n (R t) fit (S0 t) (told-length t)) (t.try_side-s0.ensures.1.0 A P 0 refl) (d.try_side-s1.ensures.1.0 A P 1 refl)
            (halves a.n (R t) fit (S0 t) (told-length t) S1)),
        probing-range j.join.result j.join.new.bounds j.join.new.table j.join.ensures
            (joined-range a.n a.k a.bounds.now a.table.now (zero_left t) (one_left d)),
      ),
    )

pub try_sides_spec : {M : Type 1} → statement M
try_sides_spec =
    tie.close
    (tie.spec
    array-borrow-prefix-zero
    slice-aggregate-try-side
    slice-relend-prefix-try-side
    slice-aggregate-try-side-2
    try-side-requires
    array-borrow-prefix-one
    slice-aggregate-try-side-3
    mul-try-side
    sub-try-side
    part-try-side-start
    part-try-side-end
    try-side-requires-2
    slice-aggregate-join
    slice-aggregate-join-2
    join-requires
    same_length
    same-length-2
    same-length-3
    returns)
