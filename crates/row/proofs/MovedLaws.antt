-- Laws of the number of bounds in which two boxes differ: none where they are the same, at most two a variable, and no more than the
-- width that a smaller box lost.
use Prim.Native.Nat.{◌*◌, ◌+◌, ◌<◌, ◌≤◌, suc, zero, ℕ}
use lib.Dec.{T_not, not_T}
use lib.IntN.{◌+ℤ◌, ◌-ℤ◌, pos, ℤ}
use lib.Signed.{◌<ℤ◌, ◌≤ℤ◌}
use mathlib.Core.Bool.{cond}
use mathlib.Core.List.{List}
use mathlib.Core.Logic.{◌⊎◌, inl, inr}
use mathlib.Core.Path.{◌≡◌, refl, sym}
use native.Mathlib.Decide.{ℕ_discrete}
use native.Mathlib.Omega.{arith}
use Rattle.integer.specs.Index.{sum}
use Rattle.integer.specs.Order.{eq_z}
use Rattle.integer.proofs.Parts.{zarith, zify}
use Rattle.integer.proofs.Tests.{T→false, T→true, cond_ind, eq_z→eq, eq→eq_z, lt-or-ge}
use Rattle.model.specs.Box.{Inside, lower, upper, width}
use Rattle.row.specs.Moved.{differs, moved_bounds}

-- ---- one bound

pub differs-same : (a : ℤ) → differs a a ≡ 0
unfolding differs
differs-same a = rw (T→true (eq_z a a) (eq→eq_z a a refl))

pub differs-le : (a b : ℤ) → differs a b ≤ 1
unfolding differs
differs-le a b = cond_ind (eq_z a b) 0 1 (λ d. d ≤ 1) (λ _. omega arith) (λ _. omega arith)

pub differs-not : (a b : ℤ) → differs a b ≡ 0 → a ≡ b
unfolding differs
differs-not a b = cond_ind (eq_z a b) 0 1 (λ (d : ℕ). d ≡ 0 → a ≡ b) (λ t _. eq_z→eq a b t) (λ _ e. absurd (let z : ⊥ = omega arith in z))

-- ---- a box

pub moved-le : (n : ℕ) (B P : List ℤ) → moved_bounds n B P ≤ 2 * n
unfolding moved_bounds
moved-le zero B P = omega arith
moved-le (suc n) B P = omega (arith, moved-le n B P, differs-le (lower B n) (lower P n), differs-le (upper B n) (upper P n))

pub moved_same : (n : ℕ) (B : List ℤ) → moved_bounds n B B ≡ 0
unfolding moved_bounds
moved_same zero B = refl
moved_same (suc n) B = omega (arith, moved_same n B, differs-same (lower B n), differs-same (upper B n))

-- where none differs, the boxes are the same
pub moved_none : (n : ℕ) (B P : List ℤ) → moved_bounds n B P ≡ 0 → (j : ℕ) → j < n → (lower B j ≡ lower P j) × (upper B j ≡ upper P j)
unfolding moved_bounds
moved_none zero B P e j k = absurd (let z : ⊥ = omega arith in z)
moved_none (suc n) B P e j k = go (ℕ_discrete j n) (λ (h : j < n). moved_none n B P (omega arith) j h)
  where
    go : Dec (j ≡ n) → (j < n → (lower B j ≡ lower P j) × (upper B j ≡ upper P j)) → (lower B j ≡ lower P j) × (upper B j ≡ upper P j)
    go (yes q) r = rw q (differs-not (lower B n) (lower P n) (omega arith), differs-not (upper B n) (upper P n) (omega arith))
    go (no q) r = r (omega arith)

-- where of each variable one bound stays, n at most move
pub moved-half : (n : ℕ) (B P : List ℤ) → ((j : ℕ) → j < n → (lower P j ≡ lower B j) ⊎ (upper P j ≡ upper B j)) → moved_bounds n B P ≤ n
unfolding moved_bounds
moved-half zero B P f = omega arith
moved-half (suc n) B P f = one (f n (omega arith)) (moved-half n B P (λ j h. f j (omega arith)))
  where
    one : (lower P n ≡ lower B n) ⊎ (upper P n ≡ upper B n) → moved_bounds n B P ≤ n
        → moved_bounds n B P + (differs (lower B n) (lower P n) + differs (upper B n) (upper P n)) ≤ suc n
    one (inl e) h = rw (e, differs-same (lower B n)) (omega (arith, differs-le (upper B n) (upper P n)))
    one (inr e) h = rw (e, differs-same (upper B n)) (omega (arith, differs-le (lower B n) (lower P n)))

-- by two steps, of which for each bound one leaves it
differs-once : (a b c : ℤ) → (b ≡ a) ⊎ (c ≡ b) → differs a c ≡ differs a b + differs b c
differs-once a b c (inl e) = rw (e, differs-same a) (omega arith)
differs-once a b c (inr e) = rw (e, differs-same b) (omega arith)

pub moved-once : (n : ℕ) (B P Q : List ℤ)
    → ((j : ℕ) → j < n → (lower P j ≡ lower B j) ⊎ (lower Q j ≡ lower P j))
    → ((j : ℕ) → j < n → (upper P j ≡ upper B j) ⊎ (upper Q j ≡ upper P j))
    → moved_bounds n B Q ≡ moved_bounds n B P + moved_bounds n P Q
unfolding moved_bounds
moved-once zero B P Q f g = refl
moved-once (suc n) B P Q f g =
    let e = moved-once n B P Q (λ j h. f j (omega arith)) (λ j h. g j (omega arith)) in
    let l = differs-once (lower B n) (lower P n) (lower Q n) (f n (omega arith)) in
    let u = differs-once (upper B n) (upper P n) (upper Q n) (g n (omega arith)) in
    omega arith

-- ---- no more than the width that the box lost

gap : (a b : ℤ) → a ≤ℤ b → pos (differs a b) ≤ℤ (b -ℤ a)
unfolding differs
gap a b h = cond_ind (eq_z a b) 0 1 (λ d. pos d ≤ℤ (b -ℤ a))
    (λ t. let e = eq_z→eq a b t in simp zify (omega zarith))
    (λ t. let z : a ≡ b → ⊥ = (λ e. T_not (eq_z a b) t (eq→eq_z a b e)) in cases z (lt-or-ge a b))
  where
    cases : (a ≡ b → ⊥) → (a <ℤ b) ⊎ (b ≤ℤ a) → pos 1 ≤ℤ (b -ℤ a)
    cases z (inl l) = simp zify (omega zarith)
    cases z (inr l) = absurd (z (omega zarith))

pub differs-sym : (a b : ℤ) → differs a b ≡ differs b a
unfolding differs
differs-sym a b = cond_ind (eq_z a b) 0 1 (λ (d : ℕ). d ≡ cond (eq_z b a) 0 1)
    (λ t. rw (T→true (eq_z b a) (eq→eq_z b a (sym (eq_z→eq a b t)))))
    (λ t. rw (T→false (eq_z b a) (not_T (eq_z b a) (λ u. T_not (eq_z a b) t (eq→eq_z a b (sym (eq_z→eq b a u)))))))

add-up : (m dl du : ℕ) (w v l k u t : ℤ) → (pos m +ℤ w) ≤ℤ v → pos dl ≤ℤ (k -ℤ l) → pos du ≤ℤ (u -ℤ t)
    → (pos (m + (dl + du)) +ℤ (w +ℤ (t -ℤ k))) ≤ℤ (v +ℤ (u -ℤ l))
add-up m dl du w v l k u t e f g = simp zify (omega (zarith, simp zify at e, simp zify at f, simp zify at g))

pub moved-width : (n : ℕ) {B P : List ℤ} → Inside n P B → (pos (moved_bounds n B P) +ℤ width n P) ≤ℤ width n B
unfolding moved_bounds width sum
moved-width zero i = omega zarith
moved-width (suc n) {B} {P} i =
    let e = moved-width n {B = B} {P = P} (record { low = λ j h. i.low j (omega arith); high = λ j h. i.high j (omega arith) }) in
    let l = gap (lower B n) (lower P n) (i.low n (omega arith)) in
    let u = rw (differs-sym (upper P n) (upper B n)) at (gap (upper P n) (upper B n) (i.high n (omega arith))) in
    add-up (moved_bounds n B P) _ _ (width n P) (width n B) (lower B n) (lower P n) (upper B n) (upper P n) e l u
