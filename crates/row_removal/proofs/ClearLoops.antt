-- What the functions of this crate need of the definition: a row set to 0, one coefficient after the other.
use Prim.Native.Nat.{◌+◌, ◌<◌, ◌≤◌, suc, zero, ℕ}
use lib.IntN.{pos, ℤ}
use lib.ListN.{drop, length, replicate, set}
use lib.Seq.{set-get_or}
use mathlib.Core.Bool.{Bool, ◌&&◌, false, not, true}
use mathlib.Core.List.{List, [], ◌++◌, ◌∷◌}
use mathlib.Core.Logic.{◌⊎◌, inl, inr}
use mathlib.Core.Path.{◌∙◌, ◌≡◌, ap, ap₂, refl, sym}
use native.Mathlib.Nat.{le_of_suc-le-suc, not-suc-le-zero}
use native.Mathlib.Numerals.{add-one}
use Rattle.integer.specs.Order.{eq_z}
use Rattle.integer.proofs.Tests.{T→true}
use Rattle.model.specs.Box.{at, same_list}
use Rattle.model.proofs.BoxLaws.{same_list-refl}
use Rattle.row.specs.Redundancy.{zero_row}
use Rattle.row.proofs.RowLoops.{eq_z-no, eq_z-yes}

-- a flag that a turn sets where its test fails
join : (p q : Bool) {before now t : Bool} → before ≡ not p → t ≡ not q → ((t ≡ true) × (now ≡ true)) ⊎ ((t ≡ false) × (now ≡ before)) → now ≡ not (p && q)
join true q e f (inl w) = w.1 ∙ sym w.0 ∙ f
join true q e f (inr w) = w.1 ∙ e ∙ sym w.0 ∙ f
join false q e f (inl w) = w.1
join false q e f (inr w) = w.1 ∙ e

-- what such a flag says
pub flag-set : (p : Bool) {flag : Bool} → flag ≡ not p → flag ≡ true → p ≡ false
flag-set true e t = sym t ∙ e
flag-set false e t = refl

pub flag-clear : (p : Bool) {flag : Bool} → flag ≡ not p → flag ≡ false → p ≡ true
flag-clear true e t = refl
flag-clear false e t = sym t ∙ e

-- ---- a row set to 0, one coefficient after the other

abbrev pub clear_to : ℕ → List ℤ → List ℤ
clear_to i xs = replicate i (pos 0) ++ drop i xs

clear-suc : (i : ℕ) (xs : List ℤ) → i < length xs → set (clear_to i xs) i (pos 0) ≡ clear_to (suc i) xs
clear-suc i [] h = absurd (not-suc-le-zero h)
clear-suc zero (x ∷ xs) h = refl
clear-suc (suc i) (x ∷ xs) h = ap (λ (t : List ℤ). pos 0 ∷ t) (clear-suc i xs (le_of_suc-le-suc h))

clear-more : (i : ℕ) (xs : List ℤ) → i < length xs → set (clear_to i xs) i (pos 0) ≡ clear_to (i + 1) xs
clear-more i xs h = clear-suc i xs h ∙ ap (λ (k : ℕ). clear_to k xs) (sym (add-one i))

pub length-clear : (i : ℕ) (xs : List ℤ) → i ≤ length xs → length (clear_to i xs) ≡ length xs
length-clear zero xs h = refl
length-clear (suc i) [] h = absurd (not-suc-le-zero h)
length-clear (suc i) (x ∷ xs) h = ap suc (length-clear i xs (le_of_suc-le-suc h))

-- the coefficient that the loop comes to is the old one
clear-there : (i : ℕ) (xs : List ℤ) → i < length xs → at (clear_to i xs) i ≡ at xs i
clear-there i [] h = absurd (not-suc-le-zero h)
clear-there zero (x ∷ xs) h = refl
clear-there (suc i) (x ∷ xs) h = clear-there i xs (le_of_suc-le-suc h)

pub clear-all : (xs : List ℤ) → clear_to (length xs) xs ≡ zero_row (length xs)
unfolding zero_row
clear-all [] = refl
clear-all (x ∷ xs) = ap (λ (t : List ℤ). pos 0 ∷ t) (clear-all xs)

and-true : (p : Bool) → (p && true) ≡ p
and-true true = refl
and-true false = refl

and-swap : (p q r : Bool) → (p && (q && r)) ≡ ((p && q) && r)
and-swap true q r = refl
and-swap false q r = refl

-- whether it differs so far
same-suc : (i : ℕ) (xs : List ℤ) → i < length xs → same_list xs (clear_to (suc i) xs) ≡ (same_list xs (clear_to i xs) && eq_z (at xs i) (pos 0))
unfolding same_list
same-suc i [] h = absurd (not-suc-le-zero h)
same-suc zero (x ∷ xs) h = rw (eq_z-yes x x refl, T→true (same_list xs xs) (same_list-refl xs)) (and-true (eq_z x (pos 0)))
same-suc (suc i) (x ∷ xs) h = ap (λ (t : Bool). eq_z x (pos 0) && t) (same-suc i xs (le_of_suc-le-suc h)) ∙ and-swap (eq_z x (pos 0)) _ _

same_more : (i : ℕ) (xs : List ℤ) → i < length xs → same_list xs (clear_to (i + 1) xs) ≡ (same_list xs (clear_to i xs) && eq_z (at xs i) (pos 0))
same_more i xs h = ap (λ (k : ℕ). same_list xs (clear_to k xs)) (add-one i) ∙ same-suc i xs h

pub same_none : (xs : List ℤ) → false ≡ not (same_list xs (clear_to 0 xs))
same_none xs = ap not (sym (T→true (same_list xs xs) (same_list-refl xs)))

-- one turn: it writes 0 and sets the flag where the number is not 0
pub clear-turn : (i : ℕ) (xs : List ℤ) {P Q : List ℤ} {before now : Bool} → i < length xs → P ≡ clear_to i xs → before ≡ not (same_list xs (clear_to i xs))
    → ((at P i ≡ pos 0 → ⊥) × (Q ≡ set P i (pos 0)) × (now ≡ true)) ⊎ ((at P i ≡ pos 0) × (Q ≡ P) × (now ≡ before))
    → (Q ≡ clear_to (i + 1) xs) × (now ≡ not (same_list xs (clear_to (i + 1) xs)))
clear-turn i xs {P} h e f (inl w) =
    let there : at P i ≡ at xs i = ap (λ (R : List ℤ). at R i) e ∙ clear-there i xs h in
    let differs : not (eq_z (at xs i) (pos 0)) ≡ true = ap not (eq_z-no (at xs i) (pos 0) (λ g. w.0 (there ∙ g))) in (
      w.1 ∙ ap (λ (R : List ℤ). set R i (pos 0)) e ∙ clear-more i xs h,
      join (same_list xs (clear_to i xs)) (eq_z (at xs i) (pos 0)) f refl (inl (differs, w.2)) ∙ ap not (sym (same_more i xs h)),
    )
clear-turn i xs {P} h e f (inr w) =
    let there : at P i ≡ at xs i = ap (λ (R : List ℤ). at R i) e ∙ clear-there i xs h in
    let same : not (eq_z (at xs i) (pos 0)) ≡ false = ap not (eq_z-yes (at xs i) (pos 0) (sym there ∙ w.0)) in (
      w.1 ∙ sym (set-get_or P i (pos 0)) ∙ ap₂ (λ (R : List ℤ) (z : ℤ). set R i z) e w.0 ∙ clear-more i xs h,
      join (same_list xs (clear_to i xs)) (eq_z (at xs i) (pos 0)) f refl (inr (same, w.2)) ∙ ap not (sym (same_more i xs h)),
    )
