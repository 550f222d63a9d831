-- Laws of the search for the lowest index that fails a test: what it finds fails, what is lower passes, and it finds nothing where all
-- pass. A loop that stops at the first failure finds it.
use Prim.Native.Nat.{◌<◌, ◌≤◌, suc, zero, ℕ}
use lib.Dec.{T, T_not}
use mathlib.Core.Bool.{Bool, ◌&&◌, not}
use mathlib.Core.Logic.{◌↔◌, ⊎_elim}
use mathlib.Core.Path.{◌≡◌, refl, sym}
use native.Mathlib.Decide.{ℕ_discrete}
use native.Mathlib.Omega.{arith}
use Rattle.integer.specs.Index.{all}
use Rattle.integer.proofs.IndexLaws.{all-at}
use Rattle.integer.proofs.Tests.{and_i, and_l, and_r, cond_ind, decide}
use Rattle.semantics.specs.Lowest.{lowest}

module _ (f : ℕ → Bool) where
  -- the three cases of one index more
  lowest-ind : (m : ℕ) (P : ℕ → Type 0)
      → (T (all m f) → T (f m) → P (suc m)) → (T (all m f) → T (not (f m)) → P m) → (T (not (all m f)) → P (lowest m f))
      → P (lowest (suc m) f)
  unfolding lowest
  lowest-ind m P g h k = cond_ind (all m f) _ _ P (λ t. cond_ind (f m) _ _ P (g t) (h t)) k

  pub lowest-le : (m : ℕ) → lowest m f ≤ m
  unfolding lowest
  lowest-le zero = omega arith
  lowest-le (suc m) = lowest-ind m (λ i. i ≤ suc m) (λ _ _. omega arith) (λ _ _. omega arith) (λ _. let h = lowest-le m in omega arith)

  pub lowest-all : (m : ℕ) → T (all m f) → lowest m f ≡ m
  unfolding lowest all
  lowest-all zero t = refl
  lowest-all (suc m) t = lowest-ind m (λ i. i ≡ suc m) (λ _ _. refl)
      (λ _ u. absurd (T_not (f m) u (and_r (all m f) (f m) t))) (λ u. absurd (T_not (all m f) u (and_l (all m f) (f m) t)))

  -- one that fails, with all lower ones passed, is the lowest
  pub lowest-is : (m i : ℕ) → i < m → T (all i f) → T (not (f i)) → lowest m f ≡ i
  lowest-is zero i h t u = absurd (let z : ⊥ = omega arith in z)
  lowest-is (suc m) i h t u = go (ℕ_discrete i m) (λ (k : i < m). lowest-is m i k t u)
    where
      go : Dec (i ≡ m) → (i < m → lowest m f ≡ i) → lowest (suc m) f ≡ i
      go (yes e) r = lowest-ind m (λ j. j ≡ i)
          (λ _ v. absurd (T_not (f i) u (rw e v))) (λ _ _. sym e) (λ v. absurd (T_not (all m f) v (rw (← e) t)))
      go (no ne) r = lowest-ind m (λ j. j ≡ i)
          (λ v _. absurd (T_not (f i) u (all-at m f v i (omega arith)))) (λ v _. absurd (T_not (f i) u (all-at m f v i (omega arith))))
          (λ _. r (omega arith))

  -- what is found
  pub lowest-found : (m : ℕ) → T (not (all m f)) → (lowest m f < m) × T (not (f (lowest m f)))
  unfolding all
  lowest-found zero t = absurd t
  lowest-found (suc m) t = lowest-ind m (λ i. (i < suc m) × T (not (f i)))
      (λ u v. absurd (T_not (all m f && f m) t (and_i (all m f) (f m) u v))) (λ _ v. (omega arith, v))
      (λ u. let r = lowest-found m u in (omega arith, r.1))

  pub lowest-fails : (m : ℕ) → lowest m f < m → T (not (f (lowest m f)))
  lowest-fails m h = ⊎_elim (λ t. absurd (let e = lowest-all m t in let z : ⊥ = omega arith in z)) (λ u. (lowest-found m u).1) (decide (all m f))

  -- it is below m exactly where one fails
  pub lowest-none : (m : ℕ) → (m ≤ lowest m f) ↔ T (all m f)
  lowest-none m = (
    (λ h. ⊎_elim (λ t. t) (λ u. absurd (let r = lowest-found m u in let z : ⊥ = omega arith in z)) (decide (all m f))),
    (λ t. let e = lowest-all m t in omega arith),
  )

  -- what is lower
  pub lowest-below : (m i : ℕ) → i < lowest m f → T (f i)
  unfolding lowest all
  lowest-below zero i = λ h. absurd (let z : ⊥ = omega arith in z)
  lowest-below (suc m) i = lowest-ind m (λ j. i < j → T (f i))
      (λ t u h. all-at (suc m) f (and_i (all m f) (f m) t u) i h) (λ t _ h. all-at m f t i h) (λ _ h. lowest-below m i h)
