-- Division of an integer by a positive one, rounded down and rounded up.
use mathlib.Core.Path.{◌≡◌, refl, ◌∙◌, ap}
use mathlib.Core.Logic.{◌↔◌}
use Prim.Native.Nat.{ℕ, zero, suc, ◌+◌, ◌*◌, ◌/◌, ◌≤◌, ◌<◌}
use native.Mathlib.Nat.{div-add-mod', mod-lt, div-le_self}
use native.Mathlib.Omega.{arith}
use lib.IntN.{ℤ, pos, negsuc, neg_ℤ, ◌+ℤ◌, ◌-ℤ◌, ◌*ℤ◌}
use lib.Signed.{◌≤ℤ◌, ◌<ℤ◌, quot_z}
use mir.Syntax.{Width}
use mir.Val.{SFits, of_z}
use Rattle.integer.specs.Division.{ceil_div, floor_div}
use Rattle.integer.proofs.Parts.{pp, np, fits, fit-in, zarith, zify, add_parts, sub_parts, neg-parts, mul_mono, mul-cancel-lt}

div-law : (p n : ℕ) → 0 < n → (p / n * n ≤ p) × (p < p / n * n + n)
div-law p n h = omega (arith, div-add-mod' p n, mod-lt p h)

-- the law: q is p / g rounded down exactly if q * g ≤ p < (q + 1) * g
pub floor-low : (p : ℤ) {g : ℤ} → pos 0 <ℤ g → (floor_div p g *ℤ g) ≤ℤ p
unfolding floor_div
floor-low (pos p) {g = pos n} h = simp zify (omega (arith, div-law p n (omega zarith)))
floor-low (negsuc p) {g = pos n} h = simp zify (omega (arith, div-law p n (omega zarith)))
floor-low (pos p) {g = negsuc n} h = absurd h.lt
floor-low (negsuc p) {g = negsuc n} h = absurd h.lt

pub floor-high : (p : ℤ) {g : ℤ} → pos 0 <ℤ g → p <ℤ ((floor_div p g +ℤ pos 1) *ℤ g)
unfolding floor_div
floor-high (pos p) {g = pos n} h = simp zify (omega (arith, div-law p n (omega zarith)))
floor-high (negsuc p) {g = pos n} h = simp zify (omega (arith, div-law p n (omega zarith)))
floor-high (pos p) {g = negsuc n} h = absurd h.lt
floor-high (negsuc p) {g = negsuc n} h = absurd h.lt

-- q ≤ floor (p / g) says q * g ≤ p
pub floor-le : (p q : ℤ) {g : ℤ} → pos 0 <ℤ g → (q ≤ℤ floor_div p g) ↔ ((q *ℤ g) ≤ℤ p)
floor-le p q {g} h =
    let z : pos 0 ≤ℤ g = omega zarith in (
      (λ k. omega (zarith, mul_mono g z k, floor-low p h)),
      (λ k. let l : (q *ℤ g) <ℤ ((floor_div p g +ℤ pos 1) *ℤ g) = omega (zarith, floor-high p h) in
          omega (zarith, mul-cancel-lt q (floor_div p g +ℤ pos 1) g z l, add_parts (floor_div p g) (pos 1))),
    )

pub floor-unique : (p q : ℤ) {g : ℤ} → pos 0 <ℤ g → (q *ℤ g) ≤ℤ p → p <ℤ ((q +ℤ pos 1) *ℤ g) → q ≡ floor_div p g
floor-unique p q {g} h a b =
    let z : pos 0 ≤ℤ g = omega zarith in
    let l : (floor_div p g *ℤ g) <ℤ ((q +ℤ pos 1) *ℤ g) = omega (zarith, floor-low p h) in
    omega (zarith, (floor-le p q h).1 a, mul-cancel-lt (floor_div p g) (q +ℤ pos 1) g z l, add_parts q (pos 1))

pub floor-mono : (p r : ℤ) {g : ℤ} → pos 0 <ℤ g → p ≤ℤ r → floor_div p g ≤ℤ floor_div r g
floor-mono p r {g} h k = (floor-le r (floor_div p g) h).1 (omega (zarith, floor-low p h))

-- ceil (p / g) ≤ q says p ≤ q * g
pub ceil-le : (p q : ℤ) {g : ℤ} → pos 0 <ℤ g → (ceil_div p g ≤ℤ q) ↔ (p ≤ℤ (q *ℤ g))
unfolding ceil_div
ceil-le p q {g} h =
    let f = floor-le (neg_ℤ p) (neg_ℤ q) h in (
      (λ k. let l : (neg_ℤ q *ℤ g) ≤ℤ neg_ℤ p = f.0 (omega (zarith, neg-parts q, neg-parts (floor_div (neg_ℤ p) g))) in
          simp zify (omega (zarith, simp zify at l))),
      (λ k. let l : (neg_ℤ q *ℤ g) ≤ℤ neg_ℤ p = simp zify (omega (zarith, simp zify at k)) in
          omega (zarith, f.1 l, neg-parts q, neg-parts (floor_div (neg_ℤ p) g))),
    )

-- ---- the machine's division, which rounds toward zero
pub quot-parts : (p : ℤ) {g : ℤ} → pos 0 <ℤ g → (pp (quot_z p g) ≤ pp p) × (np (quot_z p g) ≤ np p)
quot-parts (pos p) {g = pos n} h = omega (arith, div-le_self p n)
quot-parts (negsuc p) {g = pos n} h = omega (arith, neg-parts (pos (suc p / n)), div-le_self (suc p) n)
quot-parts (pos p) {g = negsuc n} h = absurd h.lt
quot-parts (negsuc p) {g = negsuc n} h = absurd h.lt

pub quot_fits : {w : Width} (p : ℤ) {g : ℤ} → pos 0 <ℤ g → SFits w p → SFits w (quot_z p g)
quot_fits {w} p {g} h k = fits w _ (omega (arith, quot-parts p h, fit-in k))

-- the bits of a positive divisor are no 0
pub of_z-pos : (w : Width) {g : ℤ} → pos 0 <ℤ g → 0 < of_z w g
of_z-pos w {g = pos n} h = omega zarith
of_z-pos w {g = negsuc n} h = absurd h.lt

pub quot-floor : {p g : ℤ} → pos 0 ≤ℤ p → pos 0 <ℤ g → quot_z p g ≡ floor_div p g
unfolding floor_div
quot-floor {p = pos p} {g = pos n} h k = refl
quot-floor {p = negsuc p} {g = pos n} h k = absurd h.le
quot-floor {p = pos p} {g = negsuc n} h k = absurd k.lt
quot-floor {p = negsuc p} {g = negsuc n} h k = absurd k.lt

quot-neg : (p n : ℕ) → 0 < n → quot_z (neg_ℤ (pos p)) (pos n) ≡ neg_ℤ (pos (p / n))
quot-neg zero n h = let e : 0 / n ≡ 0 = omega (arith, div-le_self 0 n) in rw e
quot-neg (suc p) n h = refl

pub quot-floor-neg : {p g : ℤ} → p <ℤ pos 0 → pos 0 <ℤ g → quot_z (p +ℤ pos 1) g -ℤ pos 1 ≡ floor_div p g
unfolding floor_div
quot-floor-neg {p = negsuc p} {g = pos n} h k =
    let e : negsuc p +ℤ pos 1 ≡ neg_ℤ (pos p) = simp zify (omega zarith) in
    let f : neg_ℤ (pos (p / n)) -ℤ pos 1 ≡ negsuc (p / n) = simp zify (omega zarith) in
    ap (λ (z : ℤ). quot_z z (pos n) -ℤ pos 1) e ∙ ap (λ (z : ℤ). z -ℤ pos 1) (quot-neg p n (omega zarith)) ∙ f
quot-floor-neg {p = pos p} {g = pos n} h k = let z : ⊥ = omega zarith in absurd z
quot-floor-neg {p = negsuc p} {g = negsuc n} h k = absurd k.lt
quot-floor-neg {p = pos p} {g = negsuc n} h k = absurd k.lt

pub quot-ceil : {p g : ℤ} → p ≤ℤ pos 0 → pos 0 <ℤ g → quot_z p g ≡ ceil_div p g
unfolding floor_div ceil_div
quot-ceil {p = pos zero} {g = pos n} h k = let e : 0 / n ≡ 0 = omega (arith, div-le_self 0 n) in rw e
quot-ceil {p = pos (suc p)} {g = pos n} h k = let z : ⊥ = omega zarith in absurd z
quot-ceil {p = negsuc p} {g = pos n} h k = refl
quot-ceil {p = pos p} {g = negsuc n} h k = absurd k.lt
quot-ceil {p = negsuc p} {g = negsuc n} h k = absurd k.lt

pub quot-ceil-pos : {p g : ℤ} → pos 0 <ℤ p → pos 0 <ℤ g → quot_z (p -ℤ pos 1) g +ℤ pos 1 ≡ ceil_div p g
unfolding floor_div ceil_div
quot-ceil-pos {p = pos zero} {g = pos n} h k = let z : ⊥ = omega zarith in absurd z
quot-ceil-pos {p = pos (suc p)} {g = pos n} h k =
    let e : pos (suc p) -ℤ pos 1 ≡ pos p = simp zify (omega zarith) in
    let f : pos (p / n) +ℤ pos 1 ≡ pos (suc (p / n)) = simp zify (omega zarith) in
    ap (λ (z : ℤ). quot_z z (pos n) +ℤ pos 1) e ∙ f
quot-ceil-pos {p = negsuc p} {g = pos n} h k = let z : ⊥ = omega zarith in absurd z
quot-ceil-pos {p = pos p} {g = negsuc n} h k = absurd k.lt
quot-ceil-pos {p = negsuc p} {g = negsuc n} h k = absurd k.lt

pub ceil-mono : (p r : ℤ) {g : ℤ} → pos 0 <ℤ g → p ≤ℤ r → ceil_div p g ≤ℤ ceil_div r g
ceil-mono p r {g} h k =
    let l : r ≤ℤ (ceil_div r g *ℤ g) = (ceil-le r (ceil_div r g) h).0 (omega zarith) in
    (ceil-le p (ceil_div r g) h).1 (omega zarith)

pub ceil-unique : (p q : ℤ) {g : ℤ} → pos 0 <ℤ g → p ≤ℤ (q *ℤ g) → ((q -ℤ pos 1) *ℤ g) <ℤ p → q ≡ ceil_div p g
ceil-unique p q {g} h a b =
    let z : pos 0 ≤ℤ g = omega zarith in
    let c : p ≤ℤ (ceil_div p g *ℤ g) = (ceil-le p (ceil_div p g) h).0 (omega zarith) in
    let l : ((q -ℤ pos 1) *ℤ g) <ℤ (ceil_div p g *ℤ g) = omega zarith in
    omega (zarith, (ceil-le p q h).1 a, mul-cancel-lt (q -ℤ pos 1) (ceil_div p g) g z l, sub_parts q (pos 1))
