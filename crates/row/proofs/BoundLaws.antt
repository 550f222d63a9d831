-- Laws of the bounds that a row implies for one variable: when a number lies within them, and what they leave alone.
use lib.Dec.{T}
use lib.IntN.{◌*ℤ◌, ◌+ℤ◌, ◌-ℤ◌, neg_ℤ, pos, ℤ}
use lib.Signed.{◌<ℤ◌, ◌≤ℤ◌, lt_z, lt_z_no, lt_z_yes, ≤ℤ_refl}
use mathlib.Core.Logic.{◌↔◌, ◌⊎◌, inl, inr, ⊎_elim}
use mathlib.Core.Path.{◌∙◌, ◌≡◌}
use Rattle.integer.specs.Division.{ceil_div, floor_div}
use Rattle.integer.specs.Order.{eq_z, max_z, min_z}
use Rattle.integer.proofs.DivisionLaws.{ceil-le, floor-le}
use Rattle.integer.proofs.Parts.{lt-isn't, zarith, zify}
use Rattle.integer.proofs.Tests.{and_i, and_l, and_r, cond_ind, eq_z→eq, eq→eq_z, lt-or-ge}
use Rattle.model.proofs.BoxLaws.{max-i, max-l, max-r, min-i, min-l, min-r, ≤ℤ-trans}
use Rattle.row.specs.Activity.{min_term}
use Rattle.row.specs.Propagation.{new_lower, new_upper, stays}
use Rattle.row.proofs.ActivityLaws.{min_term-ind, min_term-nonpos, min_term-pos}

module _ (a b L l u : ℤ) where
  pub new_upper-ind : (P : ℤ → Type 0) → (pos 0 <ℤ a → P (min_z u (floor_div (b -ℤ L +ℤ a *ℤ l) a))) → (a ≤ℤ pos 0 → P u)
      → P (new_upper a b L l u)
  unfolding new_upper
  new_upper-ind P f g = cond_ind (lt_z (pos 0) a) _ u P (λ t. f (lt_z_yes t)) (λ t. g (lt_z_no t))

  pub new_lower-ind : (P : ℤ → Type 0) → (a <ℤ pos 0 → P (max_z l (ceil_div (L +ℤ neg_ℤ a *ℤ u -ℤ b) (neg_ℤ a)))) → (pos 0 ≤ℤ a → P l)
      → P (new_lower a b L l u)
  unfolding new_lower
  new_lower-ind P f g = cond_ind (lt_z a (pos 0)) _ l P (λ t. f (lt_z_yes t)) (λ t. g (lt_z_no t))

  -- the bound that stays
  pub new_upper-nonpos : a ≤ℤ pos 0 → new_upper a b L l u ≡ u
  unfolding new_upper
  new_upper-nonpos s = rw (lt-isn't s)

  pub new_lower-nonneg : pos 0 ≤ℤ a → new_lower a b L l u ≡ l
  unfolding new_lower
  new_lower-nonneg s = rw (lt-isn't s)

  -- of the two, one stays
  pub one-stays : (new_lower a b L l u ≡ l) ⊎ (new_upper a b L l u ≡ u)
  one-stays = ⊎_elim (λ s. inl (new_lower-nonneg (omega zarith))) (λ s. inr (new_upper-nonpos s)) (lt-or-ge (pos 0) a)

  -- a number is within the new bound exactly if it is within the old one and the row allows it, the other terms at their least
  pub le-new_upper : (z : ℤ) → (z ≤ℤ new_upper a b L l u) ↔ ((z ≤ℤ u) × (pos 0 <ℤ a → (a *ℤ z +ℤ L) ≤ℤ (a *ℤ l +ℤ b)))
  le-new_upper z = new_upper-ind (λ y. (z ≤ℤ y) ↔ ((z ≤ℤ u) × (pos 0 <ℤ a → (a *ℤ z +ℤ L) ≤ℤ (a *ℤ l +ℤ b))))
      (λ s. (
        (λ h. let q = (floor-le (b -ℤ L +ℤ a *ℤ l) z s).0 (≤ℤ-trans h (min-r u _)) in
            (≤ℤ-trans h (min-l u _), λ _. simp zify (omega (zarith, simp zify at q)))),
        (λ h. min-i u _ z h.0 ((floor-le (b -ℤ L +ℤ a *ℤ l) z s).1 (let q = h.1 s in simp zify (omega (zarith, simp zify at q))))),
      ))
      (λ s. ((λ h. (h, λ t. absurd (let z : ⊥ = omega zarith in z))), (λ h. h.0)))

  pub new_lower-le : (z : ℤ) → (new_lower a b L l u ≤ℤ z) ↔ ((l ≤ℤ z) × (a <ℤ pos 0 → (a *ℤ z +ℤ L) ≤ℤ (a *ℤ u +ℤ b)))
  new_lower-le z = new_lower-ind (λ y. (y ≤ℤ z) ↔ ((l ≤ℤ z) × (a <ℤ pos 0 → (a *ℤ z +ℤ L) ≤ℤ (a *ℤ u +ℤ b))))
      (λ s. let g : pos 0 <ℤ neg_ℤ a = simp zify (omega zarith) in (
        (λ h. let q = (ceil-le (L +ℤ neg_ℤ a *ℤ u -ℤ b) z g).0 (≤ℤ-trans (max-r l _) h) in
            (≤ℤ-trans (max-l l _) h, λ _. simp zify (omega (zarith, simp zify at q)))),
        (λ h. max-i l _ z h.0 ((ceil-le (L +ℤ neg_ℤ a *ℤ u -ℤ b) z g).1 (let q = h.1 s in simp zify (omega (zarith, simp zify at q))))),
      ))
      (λ s. ((λ h. (h, λ t. absurd (let z : ⊥ = omega zarith in z))), (λ h. h.0)))

  pub new_upper-le-upper : new_upper a b L l u ≤ℤ u
  new_upper-le-upper = ((le-new_upper (new_upper a b L l u)).0 (≤ℤ_refl _)).0

  pub lower-le-new_lower : l ≤ℤ new_lower a b L l u
  lower-le-new_lower = ((new_lower-le (new_lower a b L l u)).0 (≤ℤ_refl _)).0

  -- whether neither bound moves
  pub stays→eq : T (stays a b L l u) → (new_lower a b L l u ≡ l) × (new_upper a b L l u ≡ u)
  unfolding stays
  stays→eq t =
      let low = eq_z (new_lower a b L l u) l in let high = eq_z (new_upper a b L l u) u in
      (eq_z→eq (new_lower a b L l u) l (and_l low high t), eq_z→eq (new_upper a b L l u) u (and_r low high t))

  pub eq→stays : new_lower a b L l u ≡ l → new_upper a b L l u ≡ u → T (stays a b L l u)
  unfolding stays
  eq→stays e f = and_i (eq_z (new_lower a b L l u) l) (eq_z (new_upper a b L l u) u) (eq→eq_z (new_lower a b L l u) l e) (eq→eq_z (new_upper a b L l u) u f)

-- ---- both bounds together

module _ (a b L l u : ℤ) where
  pub new_lower-le-new_upper : L ≤ℤ b → l ≤ℤ u → new_lower a b L l u ≤ℤ new_upper a b L l u
  new_lower-le-new_upper h k = cases (lt-or-ge (pos 0) a)
    where
      cases : (pos 0 <ℤ a) ⊎ (a ≤ℤ pos 0) → new_lower a b L l u ≤ℤ new_upper a b L l u
      cases (inl s) = rw (new_lower-nonneg a b L l u (omega zarith)) ((le-new_upper a b L l u l).1 (k, λ _. simp zify (omega zarith)))
      cases (inr s) = rw (new_upper-nonpos a b L l u s) ((new_lower-le a b L l u u).1 (k, λ _. simp zify (omega zarith)))

  -- the term of the minimum activity is left as it is
  pub min_term-new : min_term a (new_lower a b L l u) (new_upper a b L l u) ≡ min_term a l u
  min_term-new = min_term-ind a l u (λ z. min_term a (new_lower a b L l u) (new_upper a b L l u) ≡ z)
      (λ s. min_term-pos a _ _ s ∙ rw (new_lower-nonneg a b L l u (omega zarith)))
      (λ s. min_term-nonpos a _ _ s ∙ rw (new_upper-nonpos a b L l u s))

  -- so the new bounds imply no others
  pub le-new_upper-again : new_upper a b L l u ≤ℤ new_upper a b L (new_lower a b L l u) (new_upper a b L l u)
  le-new_upper-again = (le-new_upper a b L (new_lower a b L l u) (new_upper a b L l u) (new_upper a b L l u)).1
      (≤ℤ_refl _, λ s. rw (new_lower-nonneg a b L l u (omega zarith)) (((le-new_upper a b L l u (new_upper a b L l u)).0 (≤ℤ_refl _)).1 s))

  pub new_lower-again-le : new_lower a b L (new_lower a b L l u) (new_upper a b L l u) ≤ℤ new_lower a b L l u
  new_lower-again-le = (new_lower-le a b L (new_lower a b L l u) (new_upper a b L l u) (new_lower a b L l u)).1
      (≤ℤ_refl _, λ s. rw (new_upper-nonpos a b L l u (omega zarith)) (((new_lower-le a b L l u (new_lower a b L l u)).0 (≤ℤ_refl _)).1 s))

  -- the bounds l' and u' of a smaller interval, which its own row leaves alone, are within the new ones
  pub le-new_upper-mono : (L' l' u' : ℤ) → u' ≤ℤ u → (min_term a l' u' +ℤ L) ≤ℤ (min_term a l u +ℤ L')
      → u' ≤ℤ new_upper a b L' l' u' → u' ≤ℤ new_upper a b L l u
  le-new_upper-mono L' l' u' h g k = (le-new_upper a b L l u u').1 (
    h,
    λ s.
        let q = ((le-new_upper a b L' l' u' u').0 k).1 s in
        let g' = rw (min_term-pos a l' u' s, min_term-pos a l u s) at g in
        simp zify (omega (zarith, simp zify at q, simp zify at g')),
  )

  pub new_lower-le-mono : (L' l' u' : ℤ) → l ≤ℤ l' → (min_term a l' u' +ℤ L) ≤ℤ (min_term a l u +ℤ L')
      → new_lower a b L' l' u' ≤ℤ l' → new_lower a b L l u ≤ℤ l'
  new_lower-le-mono L' l' u' h g k = (new_lower-le a b L l u l').1 (
    h,
    λ s.
        let q = ((new_lower-le a b L' l' u' l').0 k).1 s in
        let g' = rw (min_term-nonpos a l' u' (omega zarith), min_term-nonpos a l u (omega zarith)) at g in
        simp zify (omega (zarith, simp zify at q, simp zify at g')),
  )

-- the interval of one number
module _ (a b L x : ℤ) (h : L ≤ℤ b) where
  pub le-new_upper-at : x ≤ℤ new_upper a b L x x
  le-new_upper-at = (le-new_upper a b L x x x).1 (≤ℤ_refl x, λ _. simp zify (omega zarith))

  pub new_lower-at-le : new_lower a b L x x ≤ℤ x
  new_lower-at-le = (new_lower-le a b L x x x).1 (≤ℤ_refl x, λ _. simp zify (omega zarith))
