-- What words say, index by index: where a sweep comes to, the coefficients there, and the zeros that it passes over.
use Prim.Native.Nat.{◌+◌, ◌-◌, ◌/◌, ◌%◌, ◌<◌, ◌≤◌, min, suc, zero, ℕ}
use lib.Arith.{lt→nleb}
use lib.Dec.{le→leb, leb}
use lib.IntN.{◌-ℤ◌, pos, ℤ}
use lib.ListN.{get_or, length}
use mathlib.Core.List.{List, [], ◌∷◌}
use mathlib.Core.Path.{◌∙◌, ◌≡◌, ap, refl}
use native.Mathlib.Omega.{arith}
use Rattle.integer.proofs.Parts.{zarith, zify}
use Rattle.integer.proofs.Tests.{T→false, T→true, cond_ind, leb-test}
use Rattle.model.specs.Box.{at}
use Rattle.model.specs.Limits.{max_coef, max_rhs, min_coef, min_rhs}
use Rattle.model.specs.Valid.{Between, ValidBox}
use Rattle.row.specs.ValidRow.{ValidCoefs, ValidRow}
use Rattle.sweep.specs.Steps.{Steps}
use Rattle.packed_row.specs.Words.{Readable, coef_of, coefs_from, rhs_of}

-- ---- the row is valid

pub coef-in : (w : ℕ) → Between min_coef max_coef (coef_of w)
unfolding coef_of
coef-in w = cond_ind (leb (w / 128) 2_000_000) (pos (w / 128) -ℤ pos 1_000_000) (pos 0) (Between min_coef max_coef)
    (λ t. let h = (leb-test (w / 128) 2_000_000).0 t in record { above = simp zify (omega zarith); below = simp zify (omega zarith) })
    (λ _. record { above = omega zarith; below = omega zarith })

-- what the words hold, as the machine reads them
pub coef-outside : (w : ℕ) → 2_000_000 < w / 128 → coef_of w ≡ pos 0
unfolding coef_of
coef-outside w h = rw (T→false (leb (w / 128) 2_000_000) (lt→nleb (w / 128) 2_000_000 h))

pub coef-inside : (w : ℕ) → w / 128 ≤ 2_000_000 → coef_of w ≡ pos (w / 128) -ℤ pos 1_000_000
unfolding coef_of
coef-inside w h = rw (T→true (leb (w / 128) 2_000_000) (le→leb (w / 128) 2_000_000 h))

pub rhs-outside : (w : ℕ) → 2_000_000_000 < w / 2 → rhs_of w ≡ pos 0
unfolding rhs_of
rhs-outside w h = rw (T→false (leb (w / 2) 2_000_000_000) (lt→nleb (w / 2) 2_000_000_000 h))

pub rhs-inside : (w : ℕ) → w / 2 ≤ 2_000_000_000 → rhs_of w ≡ pos (w / 2) -ℤ pos 1_000_000_000
unfolding rhs_of
rhs-inside w h = rw (T→true (leb (w / 2) 2_000_000_000) (le→leb (w / 2) 2_000_000_000 h))

pub rhs-in : (w : ℕ) → Between min_rhs max_rhs (rhs_of w)
unfolding rhs_of
rhs-in w = cond_ind (leb (w / 2) 2_000_000_000) (pos (w / 2) -ℤ pos 1_000_000_000) (pos 0) (Between min_rhs max_rhs)
    (λ t. let h = (leb-test (w / 2) 2_000_000_000).0 t in record { above = simp zify (omega zarith); below = simp zify (omega zarith) })
    (λ _. record { above = omega zarith; below = omega zarith })

pub length-coefs : (ws : List ℕ) (k : ℕ) → length (coefs_from ws k) ≡ length ws
unfolding coefs_from
length-coefs [] k = refl
length-coefs (w ∷ ws) zero = ap suc (length-coefs ws (w % 128))
length-coefs (w ∷ ws) (suc k) = ap suc (length-coefs ws k)

zero_in : Between min_coef max_coef (pos 0)
zero_in = record { above = omega zarith; below = omega zarith }

pub coefs-in : (ws : List ℕ) (k j : ℕ) → Between min_coef max_coef (at (coefs_from ws k) j)
unfolding coefs_from
coefs-in [] k j = zero_in
coefs-in (w ∷ ws) zero zero = coef-in w
coefs-in (w ∷ ws) zero (suc j) = coefs-in ws (w % 128) j
coefs-in (w ∷ ws) (suc k) zero = zero_in
coefs-in (w ∷ ws) (suc k) (suc j) = coefs-in ws k j

pub packed-valid : {n : ℕ} (ws : List ℕ) {B : List ℤ} → 0 < n → n ≤ 128 → length ws ≡ n → ValidBox n B → ValidCoefs n (coefs_from ws 0) B
packed-valid ws some few len v = record { some = some; few = few; len = length-coefs ws 0 ∙ len; range = coefs-in ws 0; box = v }

pub readable_row : (ws : List ℕ) {B : List ℤ} (rhs_word : ℕ) → Readable ws B → ValidRow (length ws) (coefs_from ws 0) (rhs_of rhs_word) B
readable_row ws rhs_word v = record { coefs = packed-valid ws v.some v.few refl v.box; rhs = rhs-in rhs_word }

-- ---- the steps of a sweep

-- from each word to the next that is read, at most to the end; 1 where the word is not read
unfoldable pub steps_from : List ℕ → (k : ℕ) → List ℕ
steps_from [] k = []
steps_from (w ∷ ws) zero = (1 + min (w % 128) (length ws)) ∷ steps_from ws (w % 128)
steps_from (w ∷ ws) (suc k) = 1 ∷ steps_from ws k

-- how many words are still skipped at word j
unfoldable pub skip_at : List ℕ → (k j : ℕ) → ℕ
skip_at [] k j = k - j
skip_at (w ∷ ws) k zero = k
skip_at (w ∷ ws) zero (suc j) = skip_at ws (w % 128) j
skip_at (w ∷ ws) (suc k) (suc j) = skip_at ws k j

no_end : {A : Type 0} {j : ℕ} → j < 0 → A
no_end h = absurd (let z : ⊥ = omega arith in z)

-- a sweep begins at the first word
pub skip-start : (ws : List ℕ) → skip_at ws 0 0 ≡ 0
unfolding skip_at
skip-start [] = omega arith
skip-start (w ∷ ws) = refl

skip_all : (ws : List ℕ) (k : ℕ) → skip_at ws k k ≡ 0
unfolding skip_at
skip_all [] k = omega arith
skip_all (w ∷ ws) zero = refl
skip_all (w ∷ ws) (suc k) = skip_all ws k

-- and goes from one that is read to the next
pub skip-next : (ws : List ℕ) (k j i : ℕ) → j < length ws → skip_at ws k j ≡ 0 → i ≡ j + 1 + get_or ws j 0 % 128 → skip_at ws k i ≡ 0
unfolding skip_at
skip-next [] k j i h e q = no_end h
skip-next (w ∷ ws) k j zero h e q = absurd (let z : ⊥ = omega arith in z)
skip-next (w ∷ ws) zero zero (suc i) h e q = let z : i ≡ w % 128 = omega arith in rw z (skip_all ws (w % 128))
skip-next (w ∷ ws) (suc k) zero (suc i) h e q = absurd (let z : ⊥ = omega arith in z)
skip-next (w ∷ ws) zero (suc j) (suc i) h e q = skip-next ws (w % 128) j i (omega arith) e (omega arith)
skip-next (w ∷ ws) (suc k) (suc j) (suc i) h e q = skip-next ws k j i (omega arith) e (omega arith)

-- where a word is read, it says its coefficient and its step
pub coef-at : (ws : List ℕ) (k j : ℕ) → j < length ws → skip_at ws k j ≡ 0 → at (coefs_from ws k) j ≡ coef_of (get_or ws j 0)
unfolding skip_at coefs_from
coef-at [] k j h e = no_end h
coef-at (w ∷ ws) zero zero h e = refl
coef-at (w ∷ ws) (suc k) zero h e = absurd (let z : ⊥ = omega arith in z)
coef-at (w ∷ ws) zero (suc j) h e = coef-at ws (w % 128) j (omega arith) e
coef-at (w ∷ ws) (suc k) (suc j) h e = coef-at ws k j (omega arith) e

pub step-at : (ws : List ℕ) (k j : ℕ) → j < length ws → skip_at ws k j ≡ 0
    → j + get_or (steps_from ws k) j 0 ≡ min (j + 1 + get_or ws j 0 % 128) (length ws)
unfolding skip_at steps_from
step-at [] k j h e = no_end h
step-at (w ∷ ws) zero zero h e = omega arith
step-at (w ∷ ws) (suc k) zero h e = absurd (let z : ⊥ = omega arith in z)
step-at (w ∷ ws) zero (suc j) h e = omega (arith, step-at ws (w % 128) j (omega arith) e)
step-at (w ∷ ws) (suc k) (suc j) h e = omega (arith, step-at ws k j (omega arith) e)

skipped : (ws : List ℕ) (k j : ℕ) → j < k → at (coefs_from ws k) j ≡ pos 0
unfolding coefs_from
skipped [] k j h = refl
skipped (w ∷ ws) zero j h = no_end h
skipped (w ∷ ws) (suc k) zero h = refl
skipped (w ∷ ws) (suc k) (suc j) h = skipped ws k j (omega arith)

steps-len : (ws : List ℕ) (k : ℕ) → length (steps_from ws k) ≡ length ws
unfolding steps_from
steps-len [] k = refl
steps-len (w ∷ ws) zero = ap suc (steps-len ws (w % 128))
steps-len (w ∷ ws) (suc k) = ap suc (steps-len ws k)

steps_on : (ws : List ℕ) (k j : ℕ) → j < length ws → 0 < get_or (steps_from ws k) j 0
unfolding steps_from
steps_on [] k j h = no_end h
steps_on (w ∷ ws) zero zero h = omega arith
steps_on (w ∷ ws) (suc k) zero h = omega arith
steps_on (w ∷ ws) zero (suc j) h = steps_on ws (w % 128) j (omega arith)
steps_on (w ∷ ws) (suc k) (suc j) h = steps_on ws k j (omega arith)

steps-in : (ws : List ℕ) (k j : ℕ) → j < length ws → j + get_or (steps_from ws k) j 0 ≤ length ws
unfolding steps_from
steps-in [] k j h = no_end h
steps-in (w ∷ ws) zero zero h = omega arith
steps-in (w ∷ ws) (suc k) zero h = omega arith
steps-in (w ∷ ws) zero (suc j) h = omega (arith, steps-in ws (w % 128) j (omega arith))
steps-in (w ∷ ws) (suc k) (suc j) h = omega (arith, steps-in ws k j (omega arith))

steps-zeros : (ws : List ℕ) (k j i : ℕ) → j < length ws → j < i → i < j + get_or (steps_from ws k) j 0 → at (coefs_from ws k) i ≡ pos 0
unfolding steps_from coefs_from
steps-zeros [] k j i h a b = no_end h
steps-zeros (w ∷ ws) k j zero h a b = no_end a
steps-zeros (w ∷ ws) zero zero (suc i) h a b = skipped ws (w % 128) i (omega arith)
steps-zeros (w ∷ ws) (suc k) zero (suc i) h a b = absurd (let z : ⊥ = omega arith in z)
steps-zeros (w ∷ ws) zero (suc j) (suc i) h a b = steps-zeros ws (w % 128) j i (omega arith) (omega arith) (omega arith)
steps-zeros (w ∷ ws) (suc k) (suc j) (suc i) h a b = steps-zeros ws k j i (omega arith) (omega arith) (omega arith)

-- the row that words say has these steps
pub packed-steps : {n : ℕ} (ws : List ℕ) → length ws ≡ n → Steps n (coefs_from ws 0) (steps_from ws 0)
packed-steps ws e = record {
  len = steps-len ws 0 ∙ e;
  forward = λ j h. steps_on ws 0 j (omega arith);
  within = λ j h. omega (arith, steps-in ws 0 j (omega arith));
  zeros = λ j h i a b. steps-zeros ws 0 j i (omega arith) a b;
}
