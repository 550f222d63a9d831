-- Which row moved a bound last: of one bound, of the list, and of a row that is infeasible, unchanged or moved bounds.
use Prim.Native.Nat.{◌*◌, ◌+◌, ◌/◌, ◌%◌, ◌<◌, ℕ}
use lib.Dec.{T, not_T}
use lib.IntN.{ℤ}
use lib.ListN.{get_or, length, set}
use lib.Seq.{ext_get_or, set-get_or}
use mathlib.Core.Bool.{cond, not}
use mathlib.Core.List.{List}
use mathlib.Core.Logic.{◌⊎◌, inl, inr}
use mathlib.Core.Path.{◌∙◌, ◌≡◌, ap, refl, sym}
use native.Mathlib.Decide.{ℕ_discrete}
use native.Mathlib.Omega.{arith}
use Rattle.integer.specs.Order.{eq_z}
use Rattle.integer.proofs.Tests.{T→false, T→true, eq_z→eq, eq→eq_z}
use Rattle.model.specs.Box.{at}
use Rattle.row.specs.Outcome.{is_infeasible}
use Rattle.row.specs.Propagation.{PropagatedRow}
use Rattle.prepared_model.specs.RowReasons.{blame, reason_at, row_reasons}
use Rattle.prepared_model.proofs.DecodeLaws.{length-list_to, list_to-at}

-- ---- one bound

module _ (r : ℕ) (B Q : List ℤ) (R : List ℕ) (i : ℕ) where
  pub reason-same : at Q i ≡ at B i → reason_at r B Q R i ≡ get_or R i 0
  unfolding reason_at
  reason-same e = rw (T→true (eq_z (at B i) (at Q i)) (eq→eq_z (at B i) (at Q i) (sym e)))

  pub reason-moved : (at B i ≡ at Q i → ⊥) → reason_at r B Q R i ≡ r
  unfolding reason_at
  reason-moved d = rw (T→false (eq_z (at B i) (at Q i)) (not_T (eq_z (at B i) (at Q i)) (λ t. d (eq_z→eq (at B i) (at Q i) t))))

  -- of the list it reads number i alone
  pub reason-read : (S : List ℕ) → get_or S i 0 ≡ get_or R i 0 → reason_at r B Q S i ≡ reason_at r B Q R i
  unfolding reason_at
  reason-read S e = ap (λ (x : ℕ). cond (eq_z (at B i) (at Q i)) x r) e

  -- where it is the old one, nothing is written
  pub kept-is : at Q i ≡ at B i → R ≡ set R i (reason_at r B Q R i)
  kept-is e = sym (ap (set R i) (reason-same e) ∙ set-get_or R i 0)

-- number i is of variable i / 2
pub half : (i : ℕ) → (i ≡ 2 * (i / 2)) ⊎ (i ≡ 2 * (i / 2) + 1)
half i = go (ℕ_discrete (i % 2) 0)
  where
    go : Dec (i % 2 ≡ 0) → (i ≡ 2 * (i / 2)) ⊎ (i ≡ 2 * (i / 2) + 1)
    go (yes e) = inl (omega arith)
    go (no d) = inr (omega arith)

-- ---- the list

module _ (r : ℕ) (B Q : List ℤ) (R : List ℕ) where
  pub length-blame : length (blame r B Q R) ≡ length R
  unfolding blame
  length-blame = length-list_to (length R) (reason_at r B Q R)

  pub blame-at : (i : ℕ) → i < length R → get_or (blame r B Q R) i 0 ≡ reason_at r B Q R i
  unfolding blame
  blame-at i h = list_to-at (length R) (reason_at r B Q R) 0 i h

  -- a list whose numbers are those
  pub blame-is : (S : List ℕ) → length S ≡ length R → ((i : ℕ) → i < length R → get_or S i 0 ≡ reason_at r B Q R i) → S ≡ blame r B Q R
  blame-is S l f = ext_get_or 0 S (blame r B Q R) (l ∙ sym length-blame) (λ i h. let k : i < length R = omega (arith, l) in f i k ∙ sym (blame-at i k))

  pub blame-none : length R ≡ 0 → R ≡ blame r B Q R
  blame-none z = blame-is R refl (λ i h. absurd (let y : ⊥ = omega arith in y))

pub blame-still : (r : ℕ) (B : List ℤ) (R : List ℕ) → R ≡ blame r B B R
blame-still r B R = blame-is r B B R R refl (λ i h. sym (reason-same r B B R i refl))

-- ---- a row: infeasible, unchanged, or one that moved bounds

module _ (r : ℕ) (B : List ℤ) (v : PropagatedRow) (R : List ℕ) where
  pub blames-none : T (is_infeasible v.outcome) → R ≡ row_reasons r B v R
  unfolding row_reasons
  blames-none t = rw (T→true (is_infeasible v.outcome) t)

  -- its numbers
  module _ (f : T (not (is_infeasible v.outcome))) where
    blames-is : row_reasons r B v R ≡ blame r B v.box R
    unfolding row_reasons
    blames-is = rw (T→false (is_infeasible v.outcome) f)

    pub length-blames : length (row_reasons r B v R) ≡ length R
    length-blames = ap length blames-is ∙ length-blame r B v.box R

    pub blames-at : (i : ℕ) → i < length R → get_or (row_reasons r B v R) i 0 ≡ reason_at r B v.box R i
    blames-at i h = ap (λ (S : List ℕ). get_or S i 0) blames-is ∙ blame-at r B v.box R i h

  module _ (f : T (not (is_infeasible v.outcome))) {Q : List ℤ} (q : Q ≡ v.box) where
    pub blames-moved : {S : List ℕ} (seen : List ℤ) → seen ≡ B → S ≡ blame r seen Q R → S ≡ row_reasons r B v R
    blames-moved seen e s = (rw (e, q) at s) ∙ sym (blames-is f)

    pub blames-still : Q ≡ B → R ≡ row_reasons r B v R
    blames-still e = blames-moved B refl (rw e (blame-still r B R))
