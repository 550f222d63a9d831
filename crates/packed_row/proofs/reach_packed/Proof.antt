-- `packed_row::reach_packed`: the invariant says that the sweep stands at a word that is read (`skip_at`), and that the sum and the
-- greatest width are those of the terms so far; from word to word it passes only over terms that are 0. Assumes nothing.
use Prim.Native.Nat.{◌*◌, ◌+◌, ◌-◌, ◌%◌, ◌<◌, min, ℕ}
use lib.IntN.{◌*ℤ◌, ℤ}
use lib.ListN.{get_or, length}
use mathlib.Core.List.{List}
use mathlib.Core.Path.{◌∙◌, ◌≡◌, ap, refl, subst⁻¹, sym}
use mir.Facts.{to_z-of_z}
use mir.Syntax.{w32, w64}
use mir.Val.{SFits, of_z, to_z}
use native.Mathlib.Omega.{arith}
use Rattle.integer.specs.Index.{sum as total}
use Rattle.integer.specs.Order.{max_z}
use Rattle.integer.specs.Range.{Within}
use Rattle.integer.proofs.RangeLaws.{within-fits}
use Rattle.model.specs.Box.{at, lower, upper}
use Rattle.row.specs.Activity.{greatest, min_activity, widest_term}
use Rattle.row.specs.Kinds.{signed}
use Rattle.row.specs.ValidRow.{ValidCoefs}
use Rattle.row.proofs.ReachLaws.{greatest-more, min_term_at, term_width-within, width_at}
use Rattle.row.proofs.RowLoops.{bounds-small, coefs-small, min-terms, term-within, turn, turn-fits}
use Rattle.row.proofs.SignedLaws.{sign-bits, sign-is, signed-bits, signed-coefs, signed-fits}
use Rattle.sweep.specs.Steps.{Steps}
use Rattle.sweep.proofs.StepLaws.{signed_steps, step_sum, step-widest}
use Rattle.packed_row.specs.Words.{coefs_from}
use Rattle.packed_row.proofs.PackedLaws.{coef-at, packed-steps, skip-next, skip-start, skip_at, step-at, steps_from}
use Rattle.packed_row.proofs.TermLaws.{max_same}
use Rattle.packed_row.proofs.reach_packed.Statement.{statement}
use Rattle.packed_row.proofs.reach_packed.Tie as tie

abbrev invariant-loop : tie.invariant-loop-j
invariant-loop words sign bounds least₀ widest₀ j₀ least widest j =
    (skip_at words 0 j ≡ 0)
    × (to_z w64 least ≡ total (min j (length words)) (min_term_at (signed (to_z w32 sign) (coefs_from words 0)) bounds))
    × (to_z w64 widest ≡ greatest (min j (length words)) (width_at (signed (to_z w32 sign) (coefs_from words 0)) bounds))

abbrev decreases-loop : tie.decreases-loop-j
decreases-loop words sign bounds least₀ widest₀ j₀ least widest j = length words - j

loop-holds : tie.Need-loop-j-init invariant-loop decreases-loop
unfolding total greatest
loop-holds c =
    let W = c.args.words.now in
    let z : min 0 (length W) ≡ 0 = omega arith in
    (skip-start W, rw z refl, rw z refl)

mul-word : tie.Need-offset_bounds-words-j invariant-loop decreases-loop
mul-word c = omega arith

shared-slice-read-word : tie.Need-bounds-words-j invariant-loop decreases-loop
shared-slice-read-word c = omega arith

coef-requires : tie.Need-coef-requires invariant-loop decreases-loop
coef-requires c κs = tt

-- the row with its sign, and the variable that the turn comes to
module _ (h : tie.At-loop-j invariant-loop decreases-loop) where
  abbrev s : tie.Start invariant-loop decreases-loop
  s = h.before.before

  abbrev W : List ℕ
  W = s.args.words.now

  abbrev C : List ℤ
  C = coefs_from W 0

  abbrev A : List ℤ
  A = signed (to_z w32 (of_z w32 s.args.sign)) C

  abbrev B : List ℤ
  B = s.args.bounds.now

  abbrev j : ℕ
  j = h.loop-j.j

  v : ValidCoefs (length W) A B
  v = signed-coefs (sign-bits s.requires.1) s.requires.0

  steps : Steps (length W) A (steps_from W 0)
  steps = signed_steps (to_z w32 (of_z w32 s.args.sign)) (packed-steps W refl)

  small : Within 1_000_000 (at A j) × (Within 32_768 (lower B j) × Within 32_768 (upper B j))
  small = (coefs-small v j, (bounds-small v (2 * j), bounds-small v (2 * j + 1)))

  -- as far as it has come, and as far as it will
  here : j < length W → min j (length W) ≡ j
  here k = omega arith

  there : j < length W → j + get_or (steps_from W 0) j 0 ≡ min (j + (1 + get_or W j 0 % 128)) (length W)
  there k = omega (arith, step-at W 0 j k h.loop-j.invariant.0)

-- with its coefficient
module _ (c : tie.After-coef invariant-loop decreases-loop) where
  abbrev head : tie.At-loop-j invariant-loop decreases-loop
  head = c.before.before.before

  within : j head < length (W head)
  within = omega arith

  coef-is : c.coef.result ≡ at (C head) (j head)
  coef-is = c.coef.ensures ∙ sym (coef-at (W head) 0 (j head) within head.loop-j.invariant.0)

  a-is : to_z w32 (of_z w32 (to_z w32 (of_z w32 (s head).args.sign) *ℤ to_z w32 (of_z w32 c.coef.result))) ≡ at (A head) (j head)
  a-is = ap (λ (z : ℤ). to_z w32 (of_z w32 (to_z w32 (of_z w32 (s head).args.sign) *ℤ to_z w32 (of_z w32 z)))) coef-is
      ∙ signed-bits (s head).requires.1 (C head) (j head) (coefs-small (s head).requires.0 (j head))

  a-fits : SFits w32 (to_z w32 (of_z w32 (s head).args.sign) *ℤ to_z w32 (of_z w32 c.coef.result))
  a-fits = subst⁻¹ (λ (z : ℤ). SFits w32 (to_z w32 (of_z w32 (s head).args.sign) *ℤ to_z w32 (of_z w32 z))) coef-is
      (signed-fits (s head).requires.1 (C head) (j head) (coefs-small (s head).requires.0 (j head)))

mul-a : tie.Need-overflow_mul-a invariant-loop decreases-loop
mul-a c = a-fits c

term-reach-requires : tie.Need-term_reach-reach-requires invariant-loop decreases-loop
term-reach-requires c κs =
    let h = head c in
    (omega (arith, (s h).requires.0.few), omega (arith, (s h).requires.0.box.len), rw (a-is c) (small h).0, (small h).1.0, (small h).1.1)

-- what the turn adds
module _ (c : tie.After-term_reach-reach invariant-loop decreases-loop) where
  abbrev found : tie.After-coef invariant-loop decreases-loop
  found = c.before

  abbrev top : tie.At-loop-j invariant-loop decreases-loop
  top = head found

  found-least : c.term_reach-reach.result.least ≡ min_term_at (A top) (B top) (j top)
  found-least = rw (a-is found) at c.term_reach-reach.ensures.0

  next : to_z w64 (of_z w64 c.term_reach-reach.result.least) ≡ min_term_at (A top) (B top) (j top)
  next = ap (λ (z : ℤ). to_z w64 (of_z w64 z)) found-least
      ∙ to_z-of_z {w = w64} (within-fits w64 tt (term-within (small top).0 (small top).1.0 (small top).1.1))

  found-width : c.term_reach-reach.result.widest ≡ width_at (A top) (B top) (j top)
  found-width = rw (a-is found) at c.term_reach-reach.ensures.1

  width_is : to_z w64 (of_z w64 c.term_reach-reach.result.widest) ≡ width_at (A top) (B top) (j top)
  width_is = ap (λ (z : ℤ). to_z w64 (of_z w64 z)) found-width
      ∙ to_z-of_z {w = w64} (within-fits w64 tt (term_width-within (small top).0 (small top).1.0 (small top).1.1))

  so_far : to_z w64 top.loop-j.least-bits ≡ total (j top) (min_term_at (A top) (B top))
  so_far = rw (here top (within found)) at top.loop-j.invariant.1

add-least : tie.Need-overflow_add-least invariant-loop decreases-loop
add-least c =
    let t = c.before.before in
    let h = top t in
    turn-fits (min-terms (v h)) (j h) (so_far t) (next t) (within (found t))

greater-requires : tie.Need-max-widest-requires invariant-loop decreases-loop
greater-requires c κs = tt

cast-j : tie.Need-overflow_cast-j invariant-loop decreases-loop
cast-j c = omega arith

add-j : tie.Need-overflow_add-j invariant-loop decreases-loop
add-j c = omega arith

add-j-2 : tie.Need-overflow_add-j-in-loop-j invariant-loop decreases-loop
add-j-2 c = omega (arith, (s (top c.before.before.before.before)).requires.0.few)

loop-less : tie.Need-loop-j-smaller invariant-loop decreases-loop
loop-less c = omega arith

loop-again : tie.Need-loop-j-preserved invariant-loop decreases-loop
loop-again c =
    let t = c.before.before.before.before in
    let h = top t in
    let k = within (found t) in
    let e = there h k in (
      skip-next (W h) 0 (j h) _ k h.loop-j.invariant.0 (omega arith),
      to_z-of_z (add-least c.before.before) ∙ turn (min-terms (v h)) (j h) (so_far t) (next t) ∙ step_sum (steps h) k (B h)
          ∙ ap (λ (i : ℕ). total i (min_term_at (A h) (B h))) e,
      to_z-of_z {w = w64} (record { sfits = c.max-widest.type_inv })
          ∙ c.max-widest.ensures.0 ∙ max_same _ _
          ∙ ap (max_z (to_z w64 h.loop-j.widest-bits)) (width_is t)
          ∙ ap (λ (x : ℤ). max_z x (width_at (A h) (B h) (j h))) (rw (here h k) at h.loop-j.invariant.2)
          ∙ sym (greatest-more (width_at (A h) (B h)) (j h))
          ∙ step-widest (steps h) k (B h)
          ∙ ap (λ (i : ℕ). greatest i (width_at (A h) (B h))) e,
    )

returns : tie.Need-returns invariant-loop decreases-loop
unfolding min_activity widest_term
returns c =
    let h = c.before in
    let end : min h.loop-j.j (length (W h)) ≡ length (W h) = omega arith in
    let e = sign-is (s h).requires.1 in (
      h.loop-j.invariant.1 ∙ ap (λ (i : ℕ). total i (min_term_at (A h) (B h))) end
          ∙ ap (λ (z : ℤ). total (length (W h)) (min_term_at (signed z (C h)) (B h))) e,
      h.loop-j.invariant.2 ∙ ap (λ (i : ℕ). greatest i (width_at (A h) (B h))) end
          ∙ ap (λ (z : ℤ). greatest (length (W h)) (width_at (signed z (C h)) (B h))) e,
    )

pub reach_packed_spec : {M : Type 1} → statement M
reach_packed_spec =
    tie.close
    (tie.spec
    invariant-loop
    decreases-loop
    loop-holds
    mul-word
    shared-slice-read-word
    coef-requires
    mul-a
    term-reach-requires
    add-least
    greater-requires
    cast-j
    add-j
    add-j-2
    loop-less
    loop-again
    returns)
