-- Laws of the order of the checks: no two numbers have one place, and in a list of checks that stand in their places the first that
-- fails is the one with the least place.
use Prim.Native.Nat.{◌%◌, ◌*◌, ◌/◌, ◌<◌, ℕ}
use lib.Dec.{T, eqb, eqb→eq, leb, leb→le}
use mathlib.Core.Bool.{Bool, ◌&&◌, cond, false, true}
use mathlib.Core.List.{List, [], ◌∷◌}
use mathlib.Core.Path.{◌∙◌, ◌≡◌, ap, refl, sym}
use native.Mathlib.Omega.{arith}
use Rattle.integer.proofs.Tests.{and_l, and_r, cond_ind, neqb→ne}
use Rattle.model.specs.Checks.{Check, LentTable, box_checks, first, length_checks, model_checks, must, none, number_checks, size_checks, table, table_byte_checks, table_length_checks}
use Rattle.model.specs.Model.{Model}
use Rattle.model.specs.Places.{place}
use Rattle.model.proofs.CheckLaws.{Hold}

-- ---- one number, one place

-- the number whose place is p
unfoldable number_at : ℕ → ℕ
number_at p =
    cond (eqb (p % 10) 0) (p / 10)
    (cond (eqb p 41) 19 (cond (eqb p 42) 20 (cond (eqb p 49) 22 (cond (eqb p 71) 23
    (cond (eqb p 91) 16 (cond (eqb p 92) 17 (cond (eqb p 101) 21 18)))))))

number_at-tens : (N : ℕ) → number_at (10 * N) ≡ N
unfolding number_at
number_at-tens N =
    cond_ind (eqb (10 * N % 10) 0) _ _ (λ (r : ℕ). r ≡ N) (λ _. omega arith)
    (λ t. absurd (neqb→ne (10 * N % 10) 0 t (omega arith)))

number_at-place : (N : ℕ) → number_at (place N) ≡ N
unfolding place number_at
number_at-place N =
    let P : ℕ → Type 0 = λ p. number_at p ≡ N in
    cond_ind (eqb N 19) 41 _ P (λ t. sym (eqb→eq N 19 t)) (λ _.
    cond_ind (eqb N 20) 42 _ P (λ t. sym (eqb→eq N 20 t)) (λ _.
    cond_ind (eqb N 22) 49 _ P (λ t. sym (eqb→eq N 22 t)) (λ _.
    cond_ind (eqb N 23) 71 _ P (λ t. sym (eqb→eq N 23 t)) (λ _.
    cond_ind (eqb N 16) 91 _ P (λ t. sym (eqb→eq N 16 t)) (λ _.
    cond_ind (eqb N 17) 92 _ P (λ t. sym (eqb→eq N 17 t)) (λ _.
    cond_ind (eqb N 21) 101 _ P (λ t. sym (eqb→eq N 21 t)) (λ _.
    cond_ind (eqb N 18) 111 _ P (λ t. sym (eqb→eq N 18 t)) (λ _. number_at-tens N))))))))

pub place-injective : (M N : ℕ) → place M ≡ place N → M ≡ N
place-injective M N e = sym (number_at-place M) ∙ ap number_at e ∙ number_at-place N

-- ---- a list of checks in their places

-- the places of the numbers are low or more, and none is less than the one before it
abbrev pub placed_from : ℕ → List Check → Bool
placed_from low [] = true
placed_from low (must ok number ∷ checks) = leb low (place number) && placed_from (place number) checks

-- those of every model stand in their places
pub model-placed : (M : Model) (t : LentTable) (fits : Bool) → T (placed_from 0 (model_checks M t fits))
unfolding model_checks size_checks length_checks table_length_checks box_checks number_checks table_byte_checks place
model-placed M none fits = tt
model-placed M (table t) fits = tt

-- every test of number N holds
abbrev pub AllPass : ℕ → List Check → Type 0
AllPass N [] = Unit {0}
AllPass N (must ok number ∷ checks) = (N ≡ number → T ok) × AllPass N checks

pub hold-pass : (N : ℕ) (checks : List Check) → Hold checks → AllPass N checks
hold-pass N [] h = tt
hold-pass N (must ok number ∷ checks) h = ((λ _. h.0), hold-pass N checks h.1)

before-pass : (N low : ℕ) (checks : List Check) → T (placed_from low checks) → place N < low → AllPass N checks
before-pass N low [] t h = tt
before-pass N low (must ok number ∷ checks) t h =
    let p = place number in
    let l = leb→le low p (and_l (leb low p) (placed_from p checks) t) in (
      (λ e. absurd (let f = ap place e in let z : ⊥ = omega arith in z)),
      before-pass N p checks (and_r (leb low p) (placed_from p checks) t) (omega arith),
    )

-- before the first check that fails, all pass
pub first-before : (N low : ℕ) (checks : List Check) → T (placed_from low checks) → place N < place (first checks) → AllPass N checks
unfolding first
first-before N low [] t h = tt
first-before N low (must true number ∷ checks) t h =
    let p = place number in ((λ _. tt), first-before N p checks (and_r (leb low p) (placed_from p checks) t) h)
first-before N low (must false number ∷ checks) t h =
    let p = place number in (
      (λ e. absurd (let f = ap place e in let z : ⊥ = omega arith in z)),
      before-pass N p checks (and_r (leb low p) (placed_from p checks) t) h,
    )

-- at its number, not all pass
pub first-fails : (checks : List Check) → (first checks ≡ 0 → ⊥) → AllPass (first checks) checks → ⊥
unfolding first
first-fails [] n p = n refl
first-fails (must true number ∷ checks) n p = first-fails checks n p.1
first-fails (must false number ∷ checks) n p = p.0 refl
