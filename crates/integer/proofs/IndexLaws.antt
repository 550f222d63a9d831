-- Laws of sums and tests over an index.
use Prim.Native.Nat.{◌*◌, ◌+◌, ◌<◌, ◌≤◌, suc, zero, ℕ}
use lib.Dec.{T, not_T}
use lib.IntN.{◌*ℤ◌, ◌+ℤ◌, pos, zero-*ℤ, ℤ}
use lib.ListN.{get_or-eq_default, get_or, length, set}
use lib.Signed.{◌≤ℤ◌, ≤ℤ_refl}
use mathlib.Core.Bool.{Bool, ◌&&◌, false, not, true}
use mathlib.Core.List.{List, [], ◌∷◌}
use mathlib.Core.Logic.{◌↔◌, ◌≢◌, ⊎_elim}
use mathlib.Core.Path.{◌∙◌, ◌≡◌, refl, subst}
use native.Mathlib.Decide.{dec_lt, ℕ_discrete}
use native.Mathlib.Numerals.{add-one}
use native.Mathlib.Omega.{arith}
use Rattle.integer.specs.Index.{all, sum}
use Rattle.integer.specs.Range.{Within}
use Rattle.integer.proofs.Parts.{zarith, zify}
use Rattle.integer.proofs.RangeLaws.{within-add, within-le}
use Rattle.integer.proofs.Tests.{T→false, and_i, and_l, and_r, not-and}

-- ---- sums

-- one term more, as a loop adds it
pub sum_more : (f : ℕ → ℤ) (i : ℕ) → sum (i + 1) f ≡ sum i f +ℤ f i
unfolding sum
sum_more f i = rw add-one

pub sum_mono : (n : ℕ) (f g : ℕ → ℤ) → ((j : ℕ) → j < n → f j ≤ℤ g j) → sum n f ≤ℤ sum n g
unfolding sum
sum_mono zero f g h = ≤ℤ_refl (pos 0)
sum_mono (suc n) f g h =
    let i = sum_mono n f g (λ j k. h j (omega arith)) in
    let k = h n (omega arith) in
    simp zify (omega zarith)

pub sum-cong : (n : ℕ) (f g : ℕ → ℤ) → ((j : ℕ) → j < n → f j ≡ g j) → sum n f ≡ sum n g
unfolding sum
sum-cong zero f g h = refl
sum-cong (suc n) f g h = cc (sum-cong n f g (λ j k. h j (omega arith)), h n (omega arith))

pub sum-zero : (n : ℕ) (f : ℕ → ℤ) → ((j : ℕ) → j < n → f j ≡ pos 0) → sum n f ≡ pos 0
unfolding sum
sum-zero zero f h = refl
sum-zero (suc n) f h = rw (sum-zero n f (λ j k. h j (omega arith)), h n (omega arith))

pub sum_nonneg : (n : ℕ) (f : ℕ → ℤ) → ((j : ℕ) → j < n → pos 0 ≤ℤ f j) → pos 0 ≤ℤ sum n f
unfolding sum
sum_nonneg zero f h = ≤ℤ_refl (pos 0)
sum_nonneg (suc n) f h =
    let i = sum_nonneg n f (λ j k. h j (omega arith)) in
    let k = h n (omega arith) in
    simp zify (omega zarith)

pub sum_below : (m : ℕ) (f : ℕ → ℤ) → ((j : ℕ) → f j ≤ℤ pos m) → (n : ℕ) → sum n f ≤ℤ pos (n * m)
unfolding sum
sum_below m f h zero = omega zarith
sum_below m f h (suc n) =
    let i = sum_below m f h n in
    let k = h n in
    simp zify (omega zarith)

-- one term's gain is at most the whole sum's
pub sum-gap : (n : ℕ) (f g : ℕ → ℤ) → ((j : ℕ) → j < n → f j ≤ℤ g j) → (k : ℕ) → k < n → (g k +ℤ sum n f) ≤ℤ (f k +ℤ sum n g)
unfolding sum
sum-gap zero f g h k l = absurd (let z : ⊥ = omega arith in z)
sum-gap (suc n) f g h k l = go (ℕ_discrete k n) (λ (p : k < n). sum-gap n f g (λ j q. h j (omega arith)) k p)
  where
    go : Dec (k ≡ n) → (k < n → (g k +ℤ sum n f) ≤ℤ (f k +ℤ sum n g)) → (g k +ℤ (sum n f +ℤ f n)) ≤ℤ (f k +ℤ (sum n g +ℤ g n))
    go (yes e) r = let i = sum_mono n f g (λ j q. h j (omega arith)) in rw e (simp zify (omega zarith))
    go (no e) r =
        let i = r (omega arith) in
        let q = h n (omega arith) in
        simp zify (omega (zarith, simp zify at i))

-- a sum with one term changed
pub sum_one : (n : ℕ) (f g : ℕ → ℤ) (k : ℕ) → k < n → ((j : ℕ) → j < n → j ≢ k → f j ≡ g j) → g k +ℤ sum n f ≡ f k +ℤ sum n g
unfolding sum
sum_one zero f g k l h = absurd (let z : ⊥ = omega arith in z)
sum_one (suc n) f g k l h = go (ℕ_discrete k n) (λ (p : k < n). sum_one n f g k p (λ j q. h j (omega arith)))
  where
    go : Dec (k ≡ n) → (k < n → g k +ℤ sum n f ≡ f k +ℤ sum n g) → g k +ℤ (sum n f +ℤ f n) ≡ f k +ℤ (sum n g +ℤ g n)
    go (yes e) r = let i = sum-cong n f g (λ j q. h j (omega arith) (omega arith)) in rw (e, i) (simp zify (omega zarith))
    go (no e) r =
        let i = r (omega arith) in
        let q = h n (omega arith) (omega arith) in
        rw q (simp zify (omega (zarith, simp zify at i)))

pub sum-within : (m : ℕ) (f : ℕ → ℤ) → ((j : ℕ) → Within m (f j)) → (n : ℕ) → Within (n * m) (sum n f)
unfolding sum
sum-within m f h zero = record { abs = omega arith }
sum-within m f h (suc n) = within-le (omega arith) (within-add (sum-within m f h n) (h n))

-- ---- tests

-- one test more, as a loop makes it
pub all_more : (f : ℕ → Bool) (i : ℕ) → all (i + 1) f ≡ (all i f && f i)
unfolding all
all_more f i = rw add-one

pub all-at : (n : ℕ) (f : ℕ → Bool) → T (all n f) → (j : ℕ) → j < n → T (f j)
unfolding all
all-at zero f t j h = absurd (let z : ⊥ = omega arith in z)
all-at (suc n) f t j h = go (ℕ_discrete j n) (λ (k : j < n). all-at n f (and_l (all n f) (f n) t) j k)
  where
    go : Dec (j ≡ n) → (j < n → T (f j)) → T (f j)
    go (yes e) r = rw e (and_r (all n f) (f n) t)
    go (no e) r = r (omega arith)

pub all-i : (n : ℕ) (f : ℕ → Bool) → ((j : ℕ) → j < n → T (f j)) → T (all n f)
unfolding all
all-i zero f h = tt
all-i (suc n) f h = and_i (all n f) (f n) (all-i n f (λ j k. h j (omega arith))) (h n (omega arith))

-- every test below n is passed exactly if what each decides holds
pub all-test : (n : ℕ) (f : ℕ → Bool) {P : ℕ → Type 0} → ((j : ℕ) → T (f j) ↔ P j) → T (all n f) ↔ ((j : ℕ) → j < n → P j)
all-test n f d = ((λ t j h. (d j).0 (all-at n f t j h)), (λ p. all-i n f (λ j h. (d j).1 (p j h))))

-- the turn of a loop that goes on where test i is passed, and its early end where it is not
pub all-next : (f : ℕ → Bool) (i : ℕ) → all i f ≡ true → f i ≡ true → all (i + 1) f ≡ true
all-next f i h k = all_more f i ∙ rw (h, k)

pub all-false : (n : ℕ) (f : ℕ → Bool) (i : ℕ) → i < n → f i ≡ false → all n f ≡ false
all-false n f i h e = T→false (all n f) (not_T (all n f) (λ t. subst T e (all-at n f t i h)))

-- what holds of every element of a list and of the default holds at every index
pub get_d-all {ℓ} : {A : Type ℓ} (xs : List A) (d : A) (P : A → Type 0) → P d → ((i : ℕ) → i < length xs → P (get_or xs i d)) → (i : ℕ) → P (get_or xs i d)
get_d-all xs d P p h i = go (dec_lt i (length xs))
  where
    go : Dec (i < length xs) → P (get_or xs i d)
    go (yes k) = h i k
    go (no k) = let o : length xs ≤ i = omega arith in rw get_or-eq_default p

-- ---- a common factor

pub sum-mul : (n : ℕ) (f : ℕ → ℤ) (c : ℤ) → sum n f *ℤ c ≡ sum n (λ j. f j *ℤ c)
unfolding sum
sum-mul zero f c = zero-*ℤ c
sum-mul (suc n) f c = rw (← sum-mul n f c) (simp zify (omega zarith))

-- ---- one element changed

-- what holds of a and at every index holds at every index once a is put in
pub get_d-set-all {ℓ} : {A : Type ℓ} (xs : List A) (k : ℕ) (a d : A) (P : A → Type 0) → P a → ((i : ℕ) → P (get_or xs i d)) → (i : ℕ) → P (get_or (set xs k a) i d)
get_d-set-all [] k a d P p h i = h i
get_d-set-all (x ∷ xs) zero a d P p h zero = p
get_d-set-all (x ∷ xs) zero a d P p h (suc i) = h (suc i)
get_d-set-all (x ∷ xs) (suc k) a d P p h zero = h 0
get_d-set-all (x ∷ xs) (suc k) a d P p h (suc i) = get_d-set-all xs k a d P p (λ j. h (suc j)) i

-- where not every test below n is passed, there is one that fails
pub not-all : (n : ℕ) (f : ℕ → Bool) → T (not (all n f)) → (j : ℕ) × (j < n) × T (not (f j))
unfolding all
not-all zero f t = absurd t
not-all (suc n) f t = ⊎_elim (λ u. let r = not-all n f u in (r.0, omega arith, r.2)) (λ u. (n, omega arith, u)) (not-and (all n f) (f n) t)
