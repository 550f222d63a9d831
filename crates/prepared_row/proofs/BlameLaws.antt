-- What the loop that puts a row down for the bounds that it moved needs: one variable, and what the whole says of the list.
use Prim.Native.Nat.{◌*◌, ◌+◌, ◌/◌, ◌%◌, ◌<◌, ◌≤◌, ℕ}
use lib.IntN.{ℤ}
use lib.ListN.{get_or, length, set}
use lib.Seq.{get_or-set_other, get_or-set_same}
use mathlib.Core.List.{List}
use mathlib.Core.Logic.{⊎_elim}
use mathlib.Core.Path.{◌∙◌, ◌≡◌, refl, sym}
use native.Mathlib.Decide.{dec_lt, ℕ_discrete}
use native.Mathlib.Omega.{arith}
use Rattle.model.specs.Box.{at, lower, upper}
use Rattle.packed_row.proofs.PackedLaws.{packed-steps, skip-next, skip-start, skip_at, step-at}
use Rattle.prepared_model.specs.RowReasons.{Lent, blame, reason_at}
use Rattle.prepared_model.proofs.RowReasonLaws.{blame-is, half, reason-read, reason-same}
use Rattle.prepared_row.specs.Blaming.{Blaming}

-- ---- the loop: the numbers of variables below j are blamed, and the others are as they were

pub record Blamed (ws : List ℕ) (r : ℕ) (B Q : List ℤ) (R₀ R : List ℕ) (j : ℕ) : Type 0 where
  pub here : skip_at ws 0 j ≡ 0
  pub full : length R₀ ≡ 2 * length ws
  pub len : length R ≡ length R₀
  pub early : (i : ℕ) → i < 2 * j → i < length R₀ → get_or R i 0 ≡ reason_at r B Q R₀ i
  pub late : (i : ℕ) → 2 * j ≤ i → get_or R i 0 ≡ get_or R₀ i 0

pub blamed-first : (ws : List ℕ) (r : ℕ) (B Q : List ℤ) {R : List ℕ} → Lent (length ws) R → (length R ≡ 0 → ⊥) → Blamed ws r B Q R R 0
blamed-first ws r B Q v d = record {
  here = skip-start ws;
  full = ⊎_elim (λ e. absurd (d e)) (λ e. e) v.len;
  len = refl;
  early = λ i a b. absurd (let z : ⊥ = omega arith in z);
  late = λ i a. refl;
}

-- between two variables that are read the boxes are the same
module _ {ws : List ℕ} {B Q : List ℤ} {R₀ : List ℕ} (v : Blaming ws B Q R₀) {r : ℕ} {R : List ℕ} {j : ℕ} (i : Blamed ws r B Q R₀ R j) (h : j < length ws) where
  abbrev next : ℕ
  next = j + (1 + get_or ws j 0 % 128)

  between : (q : ℕ) → 2 * j + 2 ≤ q → q < 2 * next → q < length R₀ → at Q q ≡ at B q
  between q a b c = ⊎_elim (λ e. rw e var.0) (λ e. rw e var.1) (half q)
    where
      k : ℕ
      k = q / 2

      var : (lower Q k ≡ lower B k) × (upper Q k ≡ upper B k)
      var = v.elsewhere k (omega (arith, i.full)) ((packed-steps ws refl).zeros j h k (omega arith) (omega (arith, i.full, step-at ws 0 j h i.here)))

  -- both numbers of variable j are written
  module _ {R₁ R₂ : List ℕ} (e : R₁ ≡ set R (2 * j) (reason_at r B Q R (2 * j))) (f : R₂ ≡ set R₁ (2 * j + 1) (reason_at r B Q R₁ (2 * j + 1)))
      (l₁ : length R₁ ≡ length R) (l₂ : length R₂ ≡ length R₁) where
    other₂ : (q : ℕ) → (q ≡ 2 * j + 1 → ⊥) → get_or R₂ q 0 ≡ get_or R₁ q 0
    other₂ q d = rw f (get_or-set_other R₁ (2 * j + 1) q _ 0 d)

    other₁ : (q : ℕ) → (q ≡ 2 * j → ⊥) → get_or R₁ q 0 ≡ get_or R q 0
    other₁ q d = rw e (get_or-set_other R (2 * j) q _ 0 d)

    other : (q : ℕ) → (q ≡ 2 * j → ⊥) → (q ≡ 2 * j + 1 → ⊥) → get_or R₂ q 0 ≡ get_or R q 0
    other q d g = other₂ q g ∙ other₁ q d

    written₁ : get_or R₁ (2 * j) 0 ≡ reason_at r B Q R (2 * j)
    written₁ = rw e (get_or-set_same R (2 * j) _ 0 (omega (arith, i.full, i.len)))

    written₂ : get_or R₂ (2 * j + 1) 0 ≡ reason_at r B Q R₁ (2 * j + 1)
    written₂ = rw f (get_or-set_same R₁ (2 * j + 1) _ 0 (omega (arith, i.full, i.len, l₁)))

    low : get_or R₂ (2 * j) 0 ≡ reason_at r B Q R₀ (2 * j)
    low = other₂ (2 * j) (omega arith) ∙ written₁ ∙ reason-read r B Q R₀ (2 * j) R (i.late (2 * j) (omega arith))

    high : get_or R₂ (2 * j + 1) 0 ≡ reason_at r B Q R₀ (2 * j + 1)
    high = written₂ ∙ reason-read r B Q R₀ (2 * j + 1) R₁ (other₁ (2 * j + 1) (omega arith) ∙ i.late (2 * j + 1) (omega arith))

    early-next : (q : ℕ) → q < 2 * next → q < length R₀ → get_or R₂ q 0 ≡ reason_at r B Q R₀ q
    early-next q a b = go (dec_lt q (2 * j)) (ℕ_discrete q (2 * j)) (ℕ_discrete q (2 * j + 1))
      where
        go : Dec (q < 2 * j) → Dec (q ≡ 2 * j) → Dec (q ≡ 2 * j + 1) → get_or R₂ q 0 ≡ reason_at r B Q R₀ q
        go (yes c) x y = other q (omega arith) (omega arith) ∙ i.early q c b
        go (no c) (yes x) y = rw x low
        go (no c) (no x) (yes y) = rw y high
        go (no c) (no x) (no y) = other q x y ∙ i.late q (omega arith) ∙ sym (reason-same r B Q R₀ q (between q (omega arith) a b))

    pub blamed-next : Blamed ws r B Q R₀ R₂ next
    blamed-next = record {
      here = skip-next ws 0 j next h i.here (omega arith);
      full = i.full;
      len = l₂ ∙ l₁ ∙ i.len;
      early = early-next;
      late = λ q a. other q (omega arith) (omega arith) ∙ i.late q (omega arith);
    }

-- at the end
pub blamed-all : {ws : List ℕ} {r : ℕ} {B Q : List ℤ} {R₀ R : List ℕ} {j : ℕ} → Blamed ws r B Q R₀ R j → length ws ≤ j → R ≡ blame r B Q R₀
blamed-all {r = r} {B} {Q} {R₀} {R} i h = blame-is r B Q R₀ R i.len (λ q a. i.early q (omega (arith, i.full)) a)
