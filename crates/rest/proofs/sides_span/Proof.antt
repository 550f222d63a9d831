-- `rest::sides_span`: each side's array holds what `propagate` makes of the side, and the three tests are the definition's.
-- Assumes nothing.
use Prim.Native.Nat.{ℕ}
use borrow.Author.Rules.{rules}
use lib.IntN.{ℤ}
use lib.ListN.{drop, length, take}
use mathlib.Core.List.{List, [], ◌++◌}
use mathlib.Core.Logic.{inl, inr}
use mathlib.Core.Path.{◌∙◌, ◌≡◌, ap₂, refl, sym}
use Rattle.model.specs.Box.{same_list}
use Rattle.model.specs.Rows.{rows_of}
use Rattle.semantics.specs.CallChecks.{max_budget}
use Rattle.semantics.specs.Probe.{fix, hull}
use Rattle.semantics.specs.Propagate.{Propagated, is_none, propagate}
use Rattle.semantics.specs.RestTest.{sides_span}
use Rattle.propagation.specs.Results.{propagation_of}
use Rattle.marked_row.proofs.LocalBox.{blank, box-room, held, held_fits, held-length}
use Rattle.rest.proofs.RestLaws.{answered}
use Rattle.rest.proofs.sides_span.Statement.{statement}
use Rattle.rest.proofs.sides_span.Tie as tie

-- side v of k, propagated
abbrev side : tie.Start → ℕ → Propagated
side s v = propagate max_budget s.args.n s.args.m (rows_of s.args.coefs.now s.args.rhs.now s.args.kinds.now) (fix s.args.n s.args.bounds.now s.args.k v)

array-borrow-prefix-zero : tie.Need-slice_bounds-zero-end
array-borrow-prefix-zero c = search rules

slice-aggregate-try-side : tie.Need-slice_bounds-try_side-end
slice-aggregate-try-side c = sym (box-room c.requires.0)

try-side-requires : tie.Need-try_side-s0-requires
try-side-requires c κs = let p = c.requires in (p.0, (p.1.0, (p.1.1.0, (inl refl, (box-room p.0, p.1.1.1)))))

-- side 0, in its array
module _ (c : tie.After-try_side-s0) where
  abbrev s0 : tie.Start
  s0 = c.before.before.before.before.before.before.before.before

  abbrev zero : List ℤ
  zero = c.try_side-s0.new.side

  zero-length : length zero ≡ length s0.args.bounds.now
  zero-length = c.try_side-s0.auto.side ∙ box-room s0.requires.0

  zero-told : (is_none (propagation_of c.try_side-s0.result []).ending ≡ is_none (side s0 0).ending) × (zero ≡ (side s0 0).box)
  zero-told = answered c.try_side-s0.result zero (c.try_side-s0.ensures.0 0 refl)

is-infeasible-requires : tie.Need-is_infeasible-requires
is-infeasible-requires c κs = search rules

none0 : (c : tie.After-is_infeasible) → c.is_infeasible.result ≡ is_none (side c.before.before.before.before.before.before.before.before.before.before.before.before.before.before 0).ending
none0 c = c.is_infeasible.ensures ∙ (zero-told c.before.before.before.before.before.before).0

same_length : tie.Need-shape_of-across-then-is_infeasible
same_length c = search rules

same-length-2 : tie.Need-shape_of-signs-then-is_infeasible
same-length-2 c = search rules

returns : tie.Need-returns-then-is_infeasible
unfolding sides_span
returns c = (rw (sym (none0 c.before) ∙ c.if-is_infeasible.true), c.try_side-s0.ensures.1)

array-borrow-prefix-one : tie.Need-slice_bounds-one-end
array-borrow-prefix-one c = search rules

slice-aggregate-try-side-2 : tie.Need-slice_bounds-try_side-end-2
slice-aggregate-try-side-2 c = sym (box-room c.requires.0)

try-side-requires-2 : tie.Need-try_side-s1-requires
try-side-requires-2 c κs =
    let p = c.requires in
    let x = p.1.1.1 in
    (p.0, (p.1.0, (p.1.1.0, (inr refl, (box-room p.0, record { index = c.try_side-s0.ensures.1; clean = x.clean; len = x.len })))))

-- side 1, in its array
module _ (c : tie.After-try_side-s1) where
  abbrev first : tie.After-is_infeasible
  first = c.before.before.before.before.before

  abbrev s : tie.Start
  s = c.before.before.before.before.before.before.before.before.before.before.before.before.before.before.before.before.before.before.before

  abbrev one : List ℤ
  one = c.try_side-s1.new.side

  one-length : length one ≡ length s.args.bounds.now
  one-length = c.try_side-s1.auto.side ∙ box-room s.requires.0

  one_told : (is_none (propagation_of c.try_side-s1.result []).ending ≡ is_none (side s 1).ending) × (one ≡ (side s 1).box)
  one_told = answered c.try_side-s1.result one (c.try_side-s1.ensures.0 1 refl)

is-infeasible-requires-2 : tie.Need-is_infeasible-requires-2
is-infeasible-requires-2 c κs = search rules

none1 : (c : tie.After-is_infeasible-2) → c.is_infeasible-2.result ≡ is_none (side c.before.before.before.before.before.before.before.before.before.before.before.before.before.before.before.before.before.before.before.before.before.before.before.before.before 1).ending
none1 c = c.is_infeasible-2.ensures ∙ (one_told c.before.before.before.before.before.before).0

same-length-3 : tie.Need-shape_of-across-then-is_infeasible-2
same-length-3 c = search rules

same-length-4 : tie.Need-shape_of-signs-then-is_infeasible-2
same-length-4 c = search rules

returns-2 : tie.Need-returns-then-is_infeasible-2
unfolding sides_span
returns-2 c =
    let d = c.before.before.before.before.before.before.before in
    (rw (sym (none0 (first d)) ∙ c.if-is_infeasible.false, sym (none1 c.before) ∙ c.if-is_infeasible-2.true), d.try_side-s1.ensures.1)

-- what is left of the two in the fronts of their arrays
module _ (c : tie.Else-is_infeasible-2) where
  abbrev both : tie.After-try_side-s1
  both = c.before.before.before.before.before.before.before

  abbrev tried : tie.After-try_side-s0
  tried = c.before.before.before.before.before.before.before.before.before.before.before.before.before.before.before.before.before.before

  abbrev B : List ℤ
  B = (s both).args.bounds.now

  abbrev front : List ℤ → List ℤ
  front P = take (length B) (P ++ drop (length B) blank)

  spans : (n : ℕ) → same_list (hull n (front (zero tried)) (front (one both))) B ≡ same_list (hull n (side (s both) 0).box (side (s both) 1).box) B
  spans n = ap₂ (λ (P Q : List ℤ). same_list (hull n P Q) B)
      (held (zero tried) (length B) (zero-length tried) ∙ (zero-told tried).1) (held (one both) (length B) (one-length both) ∙ (one_told both).1)

array-share-prefix-zero : tie.Need-slice_bounds-zero-end-2
array-share-prefix-zero c = let d = c in held_fits (zero (tried d)) (length (B d)) (zero-length (tried d))

slice-aggregate-hull-is : tie.Need-slice_bounds-hull_is-end
slice-aggregate-hull-is c = let d = c.before in sym (held-length (zero (tried d)) (length (B d)) (zero-length (tried d)))

array-share-prefix-one : tie.Need-slice_bounds-one-end-2
array-share-prefix-one c = let d = c.before in held_fits (one (both d)) (length (B d)) (one-length (both d))

slice-aggregate-hull-is-2 : tie.Need-slice_bounds-hull_is-end-2
slice-aggregate-hull-is-2 c = let d = c.before.before in sym (held-length (one (both d)) (length (B d)) (one-length (both d)))

hull-is-requires : tie.Need-hull_is-requires
hull-is-requires c κs =
    let d = c.before.before in
    (held-length (zero (tried d)) (length (B d)) (zero-length (tried d)), held-length (one (both d)) (length (B d)) (one-length (both d)))

same-length-5 : tie.Need-shape_of-across
same-length-5 c = search rules

same-length-6 : tie.Need-shape_of-signs
same-length-6 c = search rules

returns-3 : tie.Need-returns
unfolding sides_span
returns-3 c =
    let d = c.before.before.before in
    let e = both d in (
      rw (sym (none0 (first e)) ∙ c.if-is_infeasible.false, sym (none1 c.before.before.before.before) ∙ d.if-is_infeasible-2.false)
          (c.hull_is.ensures (s e).args.n (s e).requires.0.box.len ∙ spans d (s e).args.n),
      e.try_side-s1.ensures.1,
    )

pub sides_span_spec : {M : Type 1} → statement M
sides_span_spec =
    tie.close
    (tie.spec
    array-borrow-prefix-zero
    slice-aggregate-try-side
    try-side-requires
    is-infeasible-requires
    same_length
    same-length-2
    returns
    array-borrow-prefix-one
    slice-aggregate-try-side-2
    try-side-requires-2
    is-infeasible-requires-2
    same-length-3
    same-length-4
    returns-2
    array-share-prefix-zero
    slice-aggregate-hull-is
    array-share-prefix-one
    slice-aggregate-hull-is-2
    hull-is-requires
    same-length-5
    same-length-6
    returns-3)
