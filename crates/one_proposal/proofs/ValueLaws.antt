-- Laws of a row's value at a proposal: its terms are small, and a step passes only over terms that are 0.
use Prim.Native.Nat.{◌+◌, ◌<◌, ◌≤◌, ℕ}
use lib.IntN.{◌*ℤ◌, pos, ℤ}
use lib.ListN.{get_or}
use mathlib.Core.List.{List}
use mathlib.Core.Path.{◌∙◌, ◌≡◌, sym}
use native.Mathlib.Omega.{arith}
use Rattle.integer.specs.Index.{sum}
use Rattle.integer.proofs.IndexLaws.{sum-cong}
use Rattle.integer.proofs.RangeLaws.{within-mul}
use Rattle.integer.proofs.Tests.{cond_ind}
use Rattle.model.specs.Box.{at}
use Rattle.row.specs.Activity.{min_term}
use Rattle.row.proofs.PointBox.{box_at, lower-at, upper-at}
use Rattle.row.proofs.ReachLaws.{min_term_at}
use Rattle.row.proofs.RowLoops.{Terms}
use Rattle.sweep.specs.Steps.{Steps}
use Rattle.sweep.proofs.StepLaws.{step_sum}
use Rattle.proposals.specs.Holding.{Holdable}
use lib.Signed.{lt_z}
use mathlib.Core.Path.{refl}

abbrev pub term_at : List ℤ → List ℤ → ℕ → ℤ
term_at A x j = at A j *ℤ at x j

pub terms : {n : ℕ} {A x : List ℤ} → Holdable n A x → Terms n (term_at A x)
terms h = record { few = h.few; small = λ j. within-mul (h.coefs j) (h.numbers j) }

-- a × x is the least term in the box [x, x]
min_term-point : (a z : ℤ) → min_term a z z ≡ a *ℤ z
unfolding min_term
min_term-point a z = cond_ind (lt_z (pos 0) a) (a *ℤ z) (a *ℤ z) (λ t. t ≡ a *ℤ z) (λ _. refl) (λ _. refl)

in-point-box : (n : ℕ) (A x : List ℤ) (k : ℕ) → k ≤ n → sum k (min_term_at A (box_at n x)) ≡ sum k (term_at A x)
in-point-box n A x k h =
    sum-cong k _ _ (λ j l. rw (lower-at n x j (omega arith), upper-at n x j (omega arith)) (min_term-point (at A j) (at x j)))

pub step-dot : {n : ℕ} {A : List ℤ} {S : List ℕ} → Steps n A S → (x : List ℤ) {j : ℕ} → j < n
    → sum (j + 1) (term_at A x) ≡ sum (j + get_or S j 0) (term_at A x)
step-dot {n} {A} {S} v x {j} h =
    sym (in-point-box n A x (j + 1) (omega arith)) ∙ step_sum v h (box_at n x) ∙ in-point-box n A x (j + get_or S j 0) (v.within j h)
