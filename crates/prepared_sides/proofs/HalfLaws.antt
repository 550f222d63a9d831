-- The two halves of the list of reasons: each is lent to a side, and what the sides leave in them stands one after the other.
use Prim.Native.Nat.{◌*◌, ◌-◌, ◌/◌, ℕ}
use lib.Dec.{T, eqb, eqb→eq}
use lib.IntN.{ℤ}
use lib.ListN.{drop, length, length-drop, take}
use lib.Seq.{drop-length, length_front, length-take-le, take_at}
use mathlib.Core.Bool.{false}
use mathlib.Core.List.{List, [], ◌++◌, append-nil}
use mathlib.Core.Logic.{◌⊎◌, inl, inr, ⊎_elim}
use mathlib.Core.Path.{◌∙◌, ◌≡◌, ap, ap₂}
use native.Mathlib.Omega.{arith}
use Rattle.integer.proofs.Tests.{or_cases}
use Rattle.model.specs.Box.{is_empty}
use Rattle.model.specs.Rows.{Rows}
use Rattle.prepared_checks.specs.Checks.{sides_fit}
use Rattle.prepared_model.specs.ProbeReasons.{both_reasons, probe_reasons, side_reasons}
use Rattle.prepared_model.specs.RowReasons.{Lent}

module _ (n : ℕ) (R : List ℕ) (fit : T (sides_fit n R)) where
  abbrev h : ℕ
  h = length R / 2

  lengths : (length R ≡ 0) ⊎ (length R ≡ 4 * n)
  unfolding sides_fit
  lengths = ⊎_elim (λ a. inl (eqb→eq (length R) 0 a)) (λ b. inr (eqb→eq (length R) (4 * n) b)) (or_cases (eqb (length R) 0) (eqb (length R) (4 * n)) fit)

  lent-half : {H : List ℕ} → length H ≡ h → Lent n H
  lent-half e = record { len = ⊎_elim (λ x. inl (omega (arith, e, x))) (λ x. inr (omega (arith, e, x))) lengths }

  other_half : length R - h ≡ h
  other_half = ⊎_elim (λ x. omega (arith, x)) (λ x. omega (arith, x)) lengths

  -- side 0's
  pub first-length : length (take h R) ≡ h
  first-length = length-take-le h R (omega arith)

  pub first-lent : Lent n (take h R)
  first-lent = lent-half first-length

  -- side 0 left S0 in its half
  module _ (S0 : List ℕ) (l : length S0 ≡ length (take h R)) where
    abbrev X : List ℕ
    X = S0 ++ drop h R

    whole : length X ≡ length R
    whole = length_front R S0 h l

    rest-length : length (drop h X) ≡ length X - h
    rest-length = length-drop h X

    pub second-length : length (take (length X - h) (drop h X)) ≡ h
    second-length = length-take-le (length X - h) (drop h X) (omega (arith, rest-length)) ∙ ap (λ (k : ℕ). k - h) whole ∙ other_half

    pub second-lent : Lent n (take (length X - h) (drop h X))
    second-lent = lent-half second-length

    -- and side 1 left S1 in the other
    pub halves : (S1 : List ℕ) → take h X ++ (S1 ++ drop (length X - h) (drop h X)) ≡ S0 ++ S1
    halves S1 =
        let none : drop (length X - h) (drop h X) ≡ [] = rw (← rest-length) (drop-length (drop h X)) in
        ap₂ ◌++◌ (take_at S0 (drop h R) h (l ∙ first-length)) (ap (λ (Y : List ℕ). S1 ++ Y) none ∙ append-nil S1)

  -- what the sides told is what a probe tells
  pub sides-told : (k budget m : ℕ) (A : Rows) (B : List ℤ) (S0 S1 M : List ℕ) (row0 row1 h0 h1 : ℕ) → is_empty n B ≡ false → h0 ≡ h → h1 ≡ h
      → record { movers = S0; infeasible = row0 } ≡ side_reasons k 0 budget n m A B h0
      → record { movers = S1; infeasible = row1 } ≡ side_reasons k 1 budget n m A B h1
      → M ≡ S0 ++ S1 → record { movers = M; row0 = row0; row1 = row1 } ≡ probe_reasons k budget n m A B (length R)
  unfolding probe_reasons both_reasons
  sides-told k budget m A B S0 S1 M row0 row1 h0 h1 e z0 z1 r0 r1 w = rw (e, w) (ap₂ both_reasons (rw z0 at r0) (rw z1 at r1))
