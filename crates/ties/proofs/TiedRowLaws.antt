-- Laws of one row with j put as k or as 1 − k: its left side less its right side stays at each point with the tie.
use Prim.Native.Nat.{◌-◌, ◌<◌, suc, zero, ℕ}
use lib.Dec.{T}
use lib.IntN.{+ℤ_comm, ◌*ℤ◌, ◌+ℤ◌, ◌-ℤ◌, pos, ℤ}
use lib.ListN.{length, length-set, set}
use lib.Seq.{get_or-set_other, get_or-set_same}
use lib.Signed.{le_z}
use mathlib.Core.Bool.{◌&&◌}
use mathlib.Core.List.{List}
use mathlib.Core.Logic.{◌↔◌, ◌≢◌}
use mathlib.Core.Path.{◌∙◌, ◌≡◌, ap}
use native.Mathlib.Omega.{arith}
use Rattle.integer.proofs.IndexLaws.{get_d-set-all, sum_one}
use Rattle.integer.proofs.Parts.{zarith, zify}
use Rattle.integer.proofs.Tests.{and_l, and_r}
use Rattle.model.specs.Box.{at}
use Rattle.model.specs.Limits.{max_coef, max_rhs, min_coef, min_rhs}
use Rattle.model.specs.Point.{MeetsOver, dot}
use Rattle.model.specs.Rows.{is_equality, row_with}
use Rattle.model.specs.Valid.{Between}
use Rattle.model.proofs.CheckLaws.{between-test}
use Rattle.row.specs.ValidRow.{ValidRow}
use Rattle.ties.specs.Ties.{linked}
use Rattle.ties.specs.TiedRow.{row_fits, tied_coef, tied_coefs, tied_rhs, tied_row}

-- ---- the left side

pub dot-set : (n : ℕ) (A x : List ℤ) (k : ℕ) (a : ℤ) → k < n → length A ≡ n → dot n (set A k a) x +ℤ at A k *ℤ at x k ≡ dot n A x +ℤ a *ℤ at x k
unfolding dot
dot-set n A x k a h l =
    let s = get_or-set_same A k a (pos 0) (omega arith) in
    let e = sum_one n (λ j. at (set A k a) j *ℤ at x j) (λ j. at A j *ℤ at x j) k h (λ j _ ne. rw (get_or-set_other A k j a (pos 0) ne)) in
    +ℤ_comm (dot n (set A k a) x) (at A k *ℤ at x k) ∙ (rw s at e) ∙ +ℤ_comm (a *ℤ at x k) (dot n A x)

-- D is the old left side, D₁ that with the new coefficient of k, D' the new one
plus : (D D₁ D' ak aj xk xj : ℤ) → D₁ +ℤ ak *ℤ xk ≡ D +ℤ (ak +ℤ aj) *ℤ xk → D' +ℤ aj *ℤ xj ≡ D₁ +ℤ pos 0 *ℤ xj → xj ≡ xk → D' ≡ D
plus D D₁ D' ak aj xk xj e f t =
    let e' = simp zify at e in let f' = simp zify at (rw t at f) in simp zify (omega zarith)

minus : (D D₁ D' ak aj xk xj d : ℤ) → D₁ +ℤ ak *ℤ xk ≡ D +ℤ (ak -ℤ aj) *ℤ xk → D' +ℤ aj *ℤ xj ≡ D₁ +ℤ pos 0 *ℤ xj → xj ≡ d -ℤ xk
    → D' +ℤ aj *ℤ d ≡ D
minus D D₁ D' ak aj xk xj d e f t =
    let e' = simp zify at e in let f' = simp zify at (rw t at f) in simp zify (omega zarith)

shift : (D D' a b d : ℤ) → D' +ℤ a *ℤ d ≡ D → D' +ℤ b *ℤ d ≡ D +ℤ (b -ℤ a) *ℤ d
shift D D' a b d e = let e' = simp zify at e in simp zify (omega zarith)

-- The equation, of which the rows of any kind follow: left side − right side × d is what it was.
module _ (n : ℕ) (A : List ℤ) (b : ℤ) (k j : ℕ) (kn : k < n) (jn : j < n) (ne : j ≢ k) (len : length A ≡ n) where
  pub length-tied : (w : ℕ) → length (tied_coefs k j w A) ≡ n
  unfolding tied_coefs
  length-tied w = length-set (set A k (tied_coef w (at A k) (at A j))) j (pos 0) ∙ length-set A k (tied_coef w (at A k) (at A j)) ∙ len

  step1 : (w : ℕ) (x : List ℤ)
      → dot n (set A k (tied_coef w (at A k) (at A j))) x +ℤ at A k *ℤ at x k ≡ dot n A x +ℤ tied_coef w (at A k) (at A j) *ℤ at x k
  step1 w x = dot-set n A x k (tied_coef w (at A k) (at A j)) kn len

  step2 : (w : ℕ) (x : List ℤ)
      → dot n (tied_coefs k j w A) x +ℤ at A j *ℤ at x j ≡ dot n (set A k (tied_coef w (at A k) (at A j))) x +ℤ pos 0 *ℤ at x j
  unfolding tied_coefs
  step2 w x =
      let c = tied_coef w (at A k) (at A j) in
      rw (get_or-set_other A k j c (pos 0) ne) at (dot-set n (set A k c) x j (pos 0) jn (length-set A k c ∙ len))

  pub dot-tied : (w : ℕ) → w < 2 → (x : List ℤ) (d : ℕ) → at x j ≡ linked k (1 - w) x d
      → dot n (tied_coefs k j w A) x +ℤ b *ℤ pos d ≡ dot n A x +ℤ tied_rhs j w A b *ℤ pos d
  unfolding linked tied_rhs tied_coef
  dot-tied zero h x d e =
      let D = dot n A x in let D₁ = dot n (set A k (tied_coef 0 (at A k) (at A j))) x in let D' = dot n (tied_coefs k j 0 A) x in
      let q : D' ≡ D = plus D D₁ D' (at A k) (at A j) (at x k) (at x j) (step1 0 x) (step2 0 x) e in
      ap (λ (z : ℤ). z +ℤ b *ℤ pos d) q
  dot-tied (suc zero) h x d e =
      let D = dot n A x in let D₁ = dot n (set A k (tied_coef 1 (at A k) (at A j))) x in let D' = dot n (tied_coefs k j 1 A) x in
      shift D D' (at A j) b (pos d) (minus D D₁ D' (at A k) (at A j) (at x k) (at x j) (pos d) (step1 1 x) (step2 1 x) e)
  dot-tied (suc (suc w)) h x d e = absurd (let z : ⊥ = omega arith in z)

  -- a row by its kind, over d
  pub tied-row : (kind w : ℕ) → w < 2 → (x : List ℤ) (d : ℕ) → at x j ≡ linked k (1 - w) x d
      → MeetsOver n (tied_row k j w (row_with A b kind)) x d ↔ MeetsOver n (row_with A b kind) x d
  unfolding is_equality
  tied-row kind w h x d e =
      let q = simp zify at (dot-tied w h x d e) in (
        (λ p. record {
          le = λ t. (let p' = simp zify at (p.le t) in simp zify (omega zarith));
          eq = λ t. (let p' = simp zify at (p.eq t) in simp zify (omega zarith));
        }),
        (λ p. record {
          le = λ t. (let p' = simp zify at (p.le t) in simp zify (omega zarith));
          eq = λ t. (let p' = simp zify at (p.eq t) in simp zify (omega zarith));
        }),
      )

-- ---- the limits

pub fits-coef : (k j w : ℕ) (A : List ℤ) (b : ℤ) → T (row_fits k j w A b) → Between min_coef max_coef (tied_coef w (at A k) (at A j))
unfolding row_fits
fits-coef k j w A b t = (between-test min_coef max_coef (tied_coef w (at A k) (at A j))).0
    (and_l (le_z min_coef (tied_coef w (at A k) (at A j)) && le_z (tied_coef w (at A k) (at A j)) max_coef)
    (le_z min_rhs (tied_rhs j w A b) && le_z (tied_rhs j w A b) max_rhs) t)

pub fits-rhs : (k j w : ℕ) (A : List ℤ) (b : ℤ) → T (row_fits k j w A b) → Between min_rhs max_rhs (tied_rhs j w A b)
unfolding row_fits
fits-rhs k j w A b t = (between-test min_rhs max_rhs (tied_rhs j w A b)).0
    (and_r (le_z min_coef (tied_coef w (at A k) (at A j)) && le_z (tied_coef w (at A k) (at A j)) max_coef)
    (le_z min_rhs (tied_rhs j w A b) && le_z (tied_rhs j w A b) max_rhs) t)

pub tied-valid : {n : ℕ} {A : List ℤ} {b : ℤ} {B : List ℤ} (k j w : ℕ) → ValidRow n A b B → T (row_fits k j w A b)
    → ValidRow n (tied_coefs k j w A) (tied_rhs j w A b) B
unfolding tied_coefs
tied-valid {n} {A} {b} {B} k j w v t =
    let c = tied_coef w (at A k) (at A j) in
    record {
      coefs = record {
        some = v.coefs.some;
        few = v.coefs.few;
        len = length-set (set A k c) j (pos 0) ∙ length-set A k c ∙ v.coefs.len;
        range = get_d-set-all (set A k c) j (pos 0) (pos 0) (Between min_coef max_coef) (record { above = omega zarith; below = omega zarith })
            (get_d-set-all A k c (pos 0) (Between min_coef max_coef) (fits-coef k j w A b t) v.coefs.range);
        box = v.coefs.box;
      };
      rhs = fits-rhs k j w A b t;
    }
