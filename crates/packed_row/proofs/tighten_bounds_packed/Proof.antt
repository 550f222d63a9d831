-- `packed_row::tighten_bounds_packed`: the invariant says that the sweep stands at a word that is read (`skip_at`), that the bounds of the
-- variables so far are the implied ones (`write_to`), and that `moved` tells how many of them differ (`moved_more`). Assumes nothing.
use Prim.Native.Nat.{◌+◌, ◌-◌, ◌%◌, ◌<◌, min, ℕ}
use lib.IntN.{◌*ℤ◌, ℤ}
use lib.ListN.{get_or, length}
use mathlib.Core.List.{List}
use mathlib.Core.Logic.{inl, inr, ⊎_elim}
use mathlib.Core.Path.{◌∙◌, ◌≡◌, ap, ap₂, refl, subst⁻¹, sym}
use mir.Facts.{to_z-of_z}
use mir.Syntax.{w32, w64}
use mir.Val.{SFits, of_z, to_z}
use native.Mathlib.Omega.{arith}
use Rattle.model.specs.Box.{at, lower, upper}
use Rattle.model.proofs.BoxLoops.{write_to}
use Rattle.row.specs.Kinds.{signed}
use Rattle.row.specs.Moved.{moved_bounds}
use Rattle.row.specs.Propagation.{implied_box}
use Rattle.row.specs.ValidRow.{ImpliesBox}
use Rattle.row.proofs.MovedLaws.{moved-le}
use Rattle.row.proofs.RowLoops.{implies-at, lower-there, moved_more, moved_to, tighten-all, tighten-more, tighten_to, upper-there}
use Rattle.row.proofs.SignedLaws.{sign-bits, sign-is, signed-bits, signed-fits, signed-implies}
use Rattle.sweep.specs.Steps.{Steps}
use Rattle.sweep.proofs.StepLaws.{signed_steps, step-box, step-moved}
use Rattle.packed_row.specs.Words.{coefs_from}
use Rattle.packed_row.proofs.PackedLaws.{coef-at, packed-steps, skip-next, skip-start, skip_at, step-at, steps_from}
use Rattle.packed_row.proofs.tighten_bounds_packed.Statement.{statement}
use Rattle.packed_row.proofs.tighten_bounds_packed.Tie as tie

abbrev invariant-loop : tie.invariant-loop-j
invariant-loop words sign b least bounds₀ moved₀ j₀ bounds moved j =
    (skip_at words 0 j ≡ 0)
    × (length bounds ≡ length bounds₀)
    × (bounds ≡ tighten_to (signed (to_z w32 sign) (coefs_from words 0)) (to_z w64 b) (to_z w64 least) bounds₀ (min j (length words)))
    × (moved ≡ moved_to (signed (to_z w32 sign) (coefs_from words 0)) (to_z w64 b) (to_z w64 least) bounds₀ (length words) (min j (length words)))

abbrev decreases-loop : tie.decreases-loop-j
decreases-loop words sign b least bounds₀ moved₀ j₀ bounds moved j = length words - j

loop-holds : tie.Need-loop-j-init invariant-loop decreases-loop
unfolding write_to moved_bounds
loop-holds c =
    let W = c.args.words.now in
    let z : min 0 (length W) ≡ 0 = omega arith in
    (skip-start W, refl, rw z refl, rw z refl)

mul-word : tie.Need-offset_bounds-words-j invariant-loop decreases-loop
mul-word c = omega arith

shared-slice-read-word : tie.Need-bounds-words-j invariant-loop decreases-loop
shared-slice-read-word c = omega arith

coef-requires : tie.Need-coef-requires invariant-loop decreases-loop
coef-requires c κs = tt

-- in a turn
module _ (h : tie.At-loop-j invariant-loop decreases-loop) where
  abbrev s : tie.Start invariant-loop decreases-loop
  s = h.before.before

  abbrev W : List ℕ
  W = s.args.words.now

  abbrev C : List ℤ
  C = coefs_from W 0

  abbrev A : List ℤ
  A = signed (to_z w32 (of_z w32 s.args.sign)) C

  abbrev B : List ℤ
  B = s.args.bounds.now

  abbrev b : ℤ
  b = to_z w64 (of_z w64 s.args.b)

  abbrev L : ℤ
  L = to_z w64 (of_z w64 s.args.least)

  abbrev j : ℕ
  j = h.loop-j.j

  v : ImpliesBox (length W) A s.args.b s.args.least B
  v = signed-implies (sign-bits s.requires.1) s.requires.0

  steps : Steps (length W) A (steps_from W 0)
  steps = signed_steps (to_z w32 (of_z w32 s.args.sign)) (packed-steps W refl)

  b-is : b ≡ s.args.b
  b-is = to_z-of_z {w = w64} s.ranges.b

  least-is : L ≡ s.args.least
  least-is = to_z-of_z {w = w64} s.ranges.least

  here : j < length W → min j (length W) ≡ j
  here k = omega arith

  there : j < length W → j + get_or (steps_from W 0) j 0 ≡ min (j + (1 + get_or W j 0 % 128)) (length W)
  there k = omega (arith, step-at W 0 j k h.loop-j.invariant.0)

  module _ (k : j < length W) where
    box-is : h.loop-j.bounds ≡ tighten_to A b L B j
    box-is = rw (here k) at h.loop-j.invariant.2

    moved-is : h.loop-j.moved ≡ moved_to A b L B (length W) j
    moved-is = rw (here k) at h.loop-j.invariant.3

    l-is : lower h.loop-j.bounds j ≡ lower B j
    l-is = ap (λ (P : List ℤ). lower P j) box-is ∙ lower-there A b L B j

    u-is : upper h.loop-j.bounds j ≡ upper B j
    u-is = ap (λ (P : List ℤ). upper P j) box-is ∙ upper-there A b L B j

-- with its coefficient
module _ (c : tie.After-coef invariant-loop decreases-loop) where
  abbrev head : tie.At-loop-j invariant-loop decreases-loop
  head = c.before.before.before

  within : j head < length (W head)
  within = omega arith

  coef-is : c.coef.result ≡ at (C head) (j head)
  coef-is = c.coef.ensures ∙ sym (coef-at (W head) 0 (j head) within head.loop-j.invariant.0)

  a-is : to_z w32 (of_z w32 (to_z w32 (of_z w32 (s head).args.sign) *ℤ to_z w32 (of_z w32 c.coef.result))) ≡ at (A head) (j head)
  a-is = ap (λ (z : ℤ). to_z w32 (of_z w32 (to_z w32 (of_z w32 (s head).args.sign) *ℤ to_z w32 (of_z w32 z)))) coef-is
      ∙ signed-bits (s head).requires.1 (C head) (j head) ((s head).requires.0.coefs (j head))

  a-fits : SFits w32 (to_z w32 (of_z w32 (s head).args.sign) *ℤ to_z w32 (of_z w32 c.coef.result))
  a-fits = subst⁻¹ (λ (z : ℤ). SFits w32 (to_z w32 (of_z w32 (s head).args.sign) *ℤ to_z w32 (of_z w32 z))) coef-is
      (signed-fits (s head).requires.1 (C head) (j head) ((s head).requires.0.coefs (j head)))

mul-tighten-bounds-at : tie.Need-overflow_mul-sign invariant-loop decreases-loop
mul-tighten-bounds-at c = a-fits c

tighten-bounds-at-requires : tie.Need-tighten_bounds_at-requires invariant-loop decreases-loop
tighten-bounds-at-requires c κs =
    let f = c.before in
    let h = head f in
    let k = within f in (
      rw (a-is f, b-is h, least-is h, l-is h k, u-is h k) (implies-at (A h) (s h).args.b (s h).args.least (B h) (v h) (j h)),
      omega (arith, (s h).requires.0.box_len, h.loop-j.invariant.1),
    )

add-moved : tie.Need-overflow_add-moved invariant-loop decreases-loop
add-moved c =
    let f = c.before.before.before.before in
    let h = head f in
    omega (arith, (s h).requires.0.few, moved-is h (within f), moved-le (j h) (B h) (implied_box (length (W h)) (A h) (b h) (L h) (B h)))

cast-j : tie.Need-overflow_cast-j invariant-loop decreases-loop
cast-j c = omega arith

add-j : tie.Need-overflow_add-j invariant-loop decreases-loop
add-j c = omega arith

add-j-2 : tie.Need-overflow_add-j-in-loop-j invariant-loop decreases-loop
add-j-2 c = omega (arith, (s (head c.before.before.before.before)).requires.0.few)

loop-less : tie.Need-loop-j-smaller invariant-loop decreases-loop
loop-less c = omega arith

loop-again : tie.Need-loop-j-preserved invariant-loop decreases-loop
loop-again c =
    let f = c.before.before.before.before in
    let h = head f in
    let call = c.tighten_bounds_at in
    let k = within f in
    let e = there h k in (
      skip-next (W h) 0 (j h) _ k h.loop-j.invariant.0 (omega arith),
      call.auto.bounds ∙ h.loop-j.invariant.1,
      tighten-more (A h) (b h) (L h) (B h) (j h) (a-is f) (box-is h k) call.ensures.0 ∙ step-box (steps h) k (b h) (L h) (B h)
          ∙ ap (tighten_to (A h) (b h) (L h) (B h)) e,
      moved_more (A h) (b h) (L h) (B h) (length (W h)) (j h) k (a-is f) (box-is h k) (moved-is h k) call.ensures.1
          (⊎_elim (λ w. inl (w.if-tighten_bounds_at.true, w.moved-is)) (λ w. inr (w.if-tighten_bounds_at.false, w.moved-is)) c.if-tighten_bounds_at.branch-raw)
          ∙ step-moved (steps h) k (b h) (L h) (B h)
          ∙ ap (moved_to (A h) (b h) (L h) (B h) (length (W h))) e,
    )

same_length : tie.Need-shape_of-bounds invariant-loop decreases-loop
same_length c = c.loop-j.invariant.1

returns : tie.Need-returns invariant-loop decreases-loop
returns c =
    let h = c.before in
    let n = length (W h) in
    let end : min h.loop-j.j n ≡ n = omega arith in
    let e = sign-is (s h).requires.1 in (
      h.loop-j.invariant.2
          ∙ ap₂ (λ (x y : ℤ). tighten_to (A h) x y (B h) (min (j h) n)) (b-is h) (least-is h)
          ∙ ap (tighten_to (A h) (s h).args.b (s h).args.least (B h)) end
          ∙ tighten-all (A h) (s h).args.b (s h).args.least (B h) n (s h).requires.0.box_len
          ∙ ap (λ (z : ℤ). implied_box n (signed z (C h)) (s h).args.b (s h).args.least (B h)) e,
      h.loop-j.invariant.3
          ∙ ap₂ (λ (x y : ℤ). moved_to (A h) x y (B h) n (min (j h) n)) (b-is h) (least-is h)
          ∙ ap (moved_to (A h) (s h).args.b (s h).args.least (B h) n) end
          ∙ ap (λ (z : ℤ). moved_bounds n (B h) (implied_box n (signed z (C h)) (s h).args.b (s h).args.least (B h))) e,
    )

pub tighten_bounds_packed_spec : {M : Type 1} → statement M
tighten_bounds_packed_spec =
    tie.close
    (tie.spec
    invariant-loop
    decreases-loop
    loop-holds
    mul-word
    shared-slice-read-word
    coef-requires
    mul-tighten-bounds-at
    tighten-bounds-at-requires
    add-moved
    cast-j
    add-j
    add-j-2
    loop-less
    loop-again
    same_length
    returns)
