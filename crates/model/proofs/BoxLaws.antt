-- Laws of boxes: what a box made of index functions has, equality by bounds, containment.
use Prim.Native.Nat.{◌%◌, ◌*◌, ◌+◌, ◌/◌, ◌<◌, suc, zero, ℕ}
use lib.Dec.{T, eqb, eqb→eq, not_T}
use lib.IntN.{pos, ℤ}
use lib.ListN.{get_or, length}
use lib.Seq.{ext_get_or}
use lib.Signed.{◌≤ℤ◌, lt_z, ≤ℤ_refl}
use mathlib.Core.Bool.{Bool, false, true}
use mathlib.Core.List.{List, [], ◌∷◌}
use mathlib.Core.Logic.{◌↔◌, ◌⊎◌, inl, inr}
use mathlib.Core.Path.{◌∙◌, ◌≡◌, ap, ap₂, refl, subst, sym}
use native.Mathlib.Nat.{le_of_suc-le-suc}
use native.Mathlib.Omega.{arith}
use Rattle.integer.specs.Order.{eq_z, max_z, min_z}
use Rattle.integer.proofs.Parts.{lt-isn't, zarith, zify}
use Rattle.integer.proofs.Tests.{T→false, T→true, and_i, and_l, and_r, eq_z→eq, eq→eq_z, true→T}
use Rattle.model.specs.Box.{Inside, NonEmpty, at, box_of, empty_box, hull, is_empty, is_free, lower, same_list, upper}

-- ---- order

pub ≤ℤ-trans : {a b c : ℤ} → a ≤ℤ b → b ≤ℤ c → a ≤ℤ c
≤ℤ-trans {a} {b} {c} h k = omega zarith

pub ≤ℤ-antisymm : {a b : ℤ} → a ≤ℤ b → b ≤ℤ a → a ≡ b
≤ℤ-antisymm {a} {b} h k = omega zarith

-- ---- min and max

pub min-l : (x y : ℤ) → min_z x y ≤ℤ x
min-l x y = simp zify (omega zarith)

pub min-r : (x y : ℤ) → min_z x y ≤ℤ y
min-r x y = simp zify (omega zarith)

pub min-i : (x y z : ℤ) → z ≤ℤ x → z ≤ℤ y → z ≤ℤ min_z x y
min-i x y z h k = simp zify (omega zarith)

pub max-l : (x y : ℤ) → x ≤ℤ max_z x y
max-l x y = simp zify (omega zarith)

pub max-r : (x y : ℤ) → y ≤ℤ max_z x y
max-r x y = simp zify (omega zarith)

pub max-i : (x y z : ℤ) → x ≤ℤ z → y ≤ℤ z → max_z x y ≤ℤ z
max-i x y z h k = simp zify (omega zarith)

-- ---- lists

pub same_list→eq : (a b : List ℤ) → T (same_list a b) → a ≡ b
unfolding same_list
same_list→eq [] [] t = refl
same_list→eq [] (y ∷ ys) t = absurd t
same_list→eq (x ∷ xs) [] t = absurd t
same_list→eq (x ∷ xs) (y ∷ ys) t = cc (eq_z→eq x y (and_l (eq_z x y) (same_list xs ys) t), same_list→eq xs ys (and_r (eq_z x y) (same_list xs ys) t))

pub same_list-refl : (a : List ℤ) → T (same_list a a)
unfolding same_list
same_list-refl [] = tt
same_list-refl (x ∷ xs) = and_i (eq_z x x) (same_list xs xs) (eq→eq_z x x refl) (same_list-refl xs)

pub same_numbers : (xs ys : List ℤ) → length xs ≡ length ys → T (same_list xs ys) ↔ ((i : ℕ) → i < length xs → at xs i ≡ at ys i)
same_numbers xs ys e = (
  (λ t i _. ap (λ (z : List ℤ). at z i) (same_list→eq xs ys t)),
  (λ h. rw (ext_get_or (pos 0) xs ys e h) (same_list-refl ys)),
)

-- ---- boxes

two-suc : (j : ℕ) → 2 * suc j ≡ suc (suc (2 * j))
two-suc j = omega arith

two-suc1 : (j : ℕ) → 2 * suc j + 1 ≡ suc (suc (2 * j + 1))
two-suc1 j = omega arith

pub lower-box_of : (n : ℕ) (f g : ℕ → ℤ) (j : ℕ) → j < n → lower (box_of n f g) j ≡ f j
unfolding box_of
lower-box_of zero f g j h = absurd (let z : ⊥ = omega arith in z)
lower-box_of (suc n) f g zero h = refl
lower-box_of (suc n) f g (suc j) h = rw (two-suc j) (lower-box_of n (λ i. f (suc i)) (λ i. g (suc i)) j (le_of_suc-le-suc h))

pub upper-box_of : (n : ℕ) (f g : ℕ → ℤ) (j : ℕ) → j < n → upper (box_of n f g) j ≡ g j
unfolding box_of
upper-box_of zero f g j h = absurd (let z : ⊥ = omega arith in z)
upper-box_of (suc n) f g zero h = refl
upper-box_of (suc n) f g (suc j) h = rw (two-suc1 j) (upper-box_of n (λ i. f (suc i)) (λ i. g (suc i)) j (le_of_suc-le-suc h))

pub length-box_of : (n : ℕ) (f g : ℕ → ℤ) → length (box_of n f g) ≡ 2 * n
unfolding box_of
length-box_of zero f g = refl
length-box_of (suc n) f g = omega (arith, length-box_of n (λ j. f (suc j)) (λ j. g (suc j)))

-- two boxes of one length are equal by their bounds
parity : (i : ℕ) → (i ≡ 2 * (i / 2)) ⊎ (i ≡ 2 * (i / 2) + 1)
parity i = go (eqb (i % 2) 0) refl
  where
    go : (c : Bool) → eqb (i % 2) 0 ≡ c → (i ≡ 2 * (i / 2)) ⊎ (i ≡ 2 * (i / 2) + 1)
    go true e = inl (omega (arith, eqb→eq (i % 2) 0 (rw e tt)))
    go false e = inr (let h : i % 2 ≡ 0 → ⊥ = λ h. absurd (subst T (sym (ap (λ (r : ℕ). eqb r 0) h) ∙ e) tt) in omega arith)

pub box-ext : (n : ℕ) (P Q : List ℤ) → length P ≡ 2 * n → length Q ≡ 2 * n
    → ((j : ℕ) → j < n → lower P j ≡ lower Q j) → ((j : ℕ) → j < n → upper P j ≡ upper Q j) → P ≡ Q
box-ext n P Q p q l h = ext_get_or (pos 0) P Q (cc) (λ i k. go i k (parity i))
  where
    go : (i : ℕ) → i < length P → (i ≡ 2 * (i / 2)) ⊎ (i ≡ 2 * (i / 2) + 1) → get_or P i (pos 0) ≡ get_or Q i (pos 0)
    go i k (inl e) = subst (λ (r : ℕ). get_or P r (pos 0) ≡ get_or Q r (pos 0)) (sym e) (l (i / 2) (omega arith))
    go i k (inr e) = subst (λ (r : ℕ). get_or P r (pos 0) ≡ get_or Q r (pos 0)) (sym e) (h (i / 2) (omega arith))

pub non_empty-box_of : (n : ℕ) (f g : ℕ → ℤ) → ((j : ℕ) → j < n → f j ≤ℤ g j) → NonEmpty n (box_of n f g)
non_empty-box_of n f g h = record { len = length-box_of n f g; order = λ j k. rw (lower-box_of n f g j k, upper-box_of n f g j k) (h j k) }

-- ---- containment

pub inside-refl : (n : ℕ) (Q : List ℤ) → Inside n Q Q
inside-refl n Q = record { low = λ j h. ≤ℤ_refl (lower Q j); high = λ j h. ≤ℤ_refl (upper Q j) }

pub inside-trans : {n : ℕ} {P Q B : List ℤ} → Inside n P Q → Inside n Q B → Inside n P B
inside-trans p q = record { low = λ j h. ≤ℤ-trans (q.low j h) (p.low j h); high = λ j h. ≤ℤ-trans (p.high j h) (q.high j h) }

pub inside-antisymm : {n : ℕ} {P Q : List ℤ} → NonEmpty n P → NonEmpty n Q → Inside n P Q → Inside n Q P → P ≡ Q
inside-antisymm {n} {P} {Q} p q h k =
    box-ext n P Q p.len q.len (λ j l. ≤ℤ-antisymm (k.low j l) (h.low j l)) (λ j l. ≤ℤ-antisymm (h.high j l) (k.high j l))

-- inside a box that is given by its bounds, and back
pub inside-box_of : (n : ℕ) (Q : List ℤ) (f g : ℕ → ℤ) → ((j : ℕ) → j < n → f j ≤ℤ lower Q j) → ((j : ℕ) → j < n → upper Q j ≤ℤ g j) → Inside n Q (box_of n f g)
inside-box_of n Q f g l h = record { low = λ j k. rw (lower-box_of n f g j k) (l j k); high = λ j k. rw (upper-box_of n f g j k) (h j k) }

pub box_of-inside : (n : ℕ) (Q : List ℤ) (f g : ℕ → ℤ) → Inside n Q (box_of n f g) → (j : ℕ) → j < n → (f j ≤ℤ lower Q j) × (upper Q j ≤ℤ g j)
box_of-inside n Q f g i j k = (rw (lower-box_of n f g j k) at (i.low j k), rw (upper-box_of n f g j k) at (i.high j k))

pub not-in-empty : (n : ℕ) (Q : List ℤ) → 0 < n → NonEmpty n Q → Inside n Q (empty_box n) → ⊥
unfolding empty_box
not-in-empty n Q h p i = let f = box_of-inside n Q (λ j. pos 1) (λ j. pos 0) i 0 h in let o = p.order 0 h in omega zarith

-- ---- the empty box

pub is_empty→eq : (n : ℕ) (B : List ℤ) → T (is_empty n B) → B ≡ empty_box n
unfolding is_empty
is_empty→eq n B t = same_list→eq B (empty_box n) t

pub is_empty_empty : (n : ℕ) → T (is_empty n (empty_box n))
unfolding is_empty
is_empty_empty n = same_list-refl (empty_box n)

pub empty-is : (n : ℕ) (B : List ℤ) → B ≡ empty_box n → is_empty n B ≡ true
empty-is n B e = rw e (T→true (is_empty n (empty_box n)) (is_empty_empty n))

pub non_empty-isn't : {n : ℕ} {B : List ℤ} → 0 < n → NonEmpty n B → is_empty n B ≡ false
non_empty-isn't {n} {B} h p =
    T→false (is_empty n B) (not_T (is_empty n B) (λ t. not-in-empty n B h p (subst (Inside n B) (is_empty→eq n B t) (inside-refl n B))))

-- a box is the empty one exactly if it has the length and every l = 1 and u = 0
pub is_empty-bounds : (n : ℕ) (B : List ℤ)
    → T (is_empty n B) ↔ ((length B ≡ 2 * n) × ((j : ℕ) → j < n → (lower B j ≡ pos 1) × (upper B j ≡ pos 0)))
unfolding empty_box
is_empty-bounds n B = (
  (λ t. rw (is_empty→eq n B t) (length-box_of n _ _, λ j h. (lower-box_of n _ _ j h, upper-box_of n _ _ j h))),
  (λ p. true→T (is_empty n B) (empty-is n B
      (box-ext n B (empty_box n) p.0 (length-box_of n _ _)
      (λ j h. (p.1 j h).0 ∙ sym (lower-box_of n _ _ j h))
      (λ j h. (p.1 j h).1 ∙ sym (upper-box_of n _ _ j h))))),
)

-- the first variable tells whether a box of a valid model is the empty one
pub empty-first : (n : ℕ) (B : List ℤ) → 0 < n → (B ≡ empty_box n) ⊎ NonEmpty n B → is_empty n B ≡ lt_z (upper B 0) (lower B 0)
unfolding empty_box
empty-first n B h (inl e) = rw e (T→true (is_empty n (empty_box n)) (is_empty_empty n) ∙ sym (ap₂ lt_z (upper-box_of n _ _ 0 h) (lower-box_of n _ _ 0 h)))
empty-first n B h (inr p) = non_empty-isn't h p ∙ sym (lt-isn't (p.order 0 h))

-- ---- the smallest box that contains two

pub in-hull-left : (P' : List ℤ) {n : ℕ} {P Q : List ℤ} → Inside n Q P → Inside n Q (hull n P P')
unfolding hull
in-hull-left P' {n} {P} {Q} i =
    inside-box_of n Q _ _ (λ j h. ≤ℤ-trans (min-l _ _) (i.low j h)) (λ j h. ≤ℤ-trans (i.high j h) (max-l _ _))

pub in-hull-right : (P : List ℤ) {n : ℕ} {P' Q : List ℤ} → Inside n Q P' → Inside n Q (hull n P P')
unfolding hull
in-hull-right P {n} {P'} {Q} i =
    inside-box_of n Q _ _ (λ j h. ≤ℤ-trans (min-r _ _) (i.low j h)) (λ j h. ≤ℤ-trans (i.high j h) (max-r _ _))

module _ {n : ℕ} {P P' : List ℤ} where
  pub hull-inside : {B : List ℤ} → Inside n P B → Inside n P' B → Inside n (hull n P P') B
  unfolding hull
  hull-inside i i' = record {
    low = λ j h. rw (lower-box_of n _ _ j h) (min-i _ _ _ (i.low j h) (i'.low j h));
    high = λ j h. rw (upper-box_of n _ _ j h) (max-i _ _ _ (i.high j h) (i'.high j h));
  }

  pub hull-non_empty : NonEmpty n P → NonEmpty n P' → NonEmpty n (hull n P P')
  unfolding hull
  hull-non_empty p q = non_empty-box_of n _ _ (λ j k. ≤ℤ-trans (min-l _ _) (≤ℤ-trans (p.order j k) (max-l _ _)))

-- ---- free binary variables

pub free-lower : (B : List ℤ) (k : ℕ) → T (is_free B k) → lower B k ≡ pos 0
unfolding is_free
free-lower B k t = eq_z→eq (lower B k) (pos 0) (and_l (eq_z (lower B k) (pos 0)) (eq_z (upper B k) (pos 1)) t)

pub free-upper : (B : List ℤ) (k : ℕ) → T (is_free B k) → upper B k ≡ pos 1
unfolding is_free
free-upper B k t = eq_z→eq (upper B k) (pos 1) (and_r (eq_z (lower B k) (pos 0)) (eq_z (upper B k) (pos 1)) t)

pub free-i : (B : List ℤ) (k : ℕ) → lower B k ≡ pos 0 → upper B k ≡ pos 1 → T (is_free B k)
unfolding is_free
free-i B k l h = and_i (eq_z (lower B k) (pos 0)) (eq_z (upper B k) (pos 1)) (eq→eq_z (lower B k) (pos 0) l) (eq→eq_z (upper B k) (pos 1) h)

-- ---- all numbers of a box

pub at-box_of : (P : ℤ → Type 0) (n : ℕ) (f g : ℕ → ℤ) → P (pos 0) → ((j : ℕ) → j < n → P (f j)) → ((j : ℕ) → j < n → P (g j))
    → (i : ℕ) → P (at (box_of n f g) i)
unfolding box_of
at-box_of P zero f g z l h i = z
at-box_of P (suc n) f g z l h zero = l 0 (omega arith)
at-box_of P (suc n) f g z l h (suc zero) = h 0 (omega arith)
at-box_of P (suc n) f g z l h (suc (suc i)) =
    at-box_of P n (λ j. f (suc j)) (λ j. g (suc j)) z (λ j k. l (suc j) (omega arith)) (λ j k. h (suc j) (omega arith)) i

-- ---- the test of the empty box

pub is_empty-test : (n : ℕ) (B : List ℤ) → T (is_empty n B) ↔ (B ≡ empty_box n)
is_empty-test n B = (is_empty→eq n B, (λ e. true→T (is_empty n B) (empty-is n B e)))
