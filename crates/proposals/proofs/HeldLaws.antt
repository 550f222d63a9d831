-- Laws of a verdict while it is found: by the box alone, by one row more, and how small the numbers of a proposal inside the box are.
use Prim.Native.Nat.{◌*◌, ◌+◌, ◌<◌, ◌≤◌, suc, ℕ}
use lib.IntN.{pos, ℤ}
use lib.ListN.{get_or-eq_default, length}
use mathlib.Core.Bool.{Bool, ◌&&◌, cond, false, true}
use mathlib.Core.List.{List}
use mathlib.Core.Path.{◌≡◌, refl}
use native.Mathlib.Decide.{dec_lt}
use native.Mathlib.Numerals.{add-one}
use native.Mathlib.Omega.{arith}
use Rattle.integer.specs.Index.{all}
use Rattle.integer.specs.Range.{Within}
use Rattle.integer.proofs.Parts.{zarith}
use Rattle.integer.proofs.RangeLaws.{within-lit}
use Rattle.integer.proofs.Tests.{T→true, cond_ind}
use Rattle.model.specs.Box.{at}
use Rattle.model.specs.Limits.{max_bound, min_bound}
use Rattle.model.specs.Model.{Model}
use Rattle.model.specs.Point.{InBox}
use Rattle.model.specs.Valid.{ValidBox}
use Rattle.row.proofs.RowLoops.{within-between}
use Rattle.semantics.specs.Lowest.{lowest}
use Rattle.call_laws.proofs.LowestLaws.{lowest-all, lowest-none}
use Rattle.proposals.specs.Proposals.{case_of}
use Rattle.proposals.specs.Verdict.{Verdict, breaks, in_bounds, inside, outside_at, row_met, verdict_by}
use Rattle.proposals.specs.Telling.{box_verdict, held}

-- ---- the box, then one row more

pub box-verdict : (M : Model) (x : List ℤ) → verdict_by 0 M x ≡ box_verdict M.n M.box x
unfolding verdict_by box_verdict all
box-verdict M x = refl

pub box-outside : (n : ℕ) (B x : List ℤ) → lowest n (in_bounds B x) < n → box_verdict n B x ≡ outside_at (lowest n (in_bounds B x))
unfolding box_verdict
box-outside n B x h =
    cond_ind (all n (in_bounds B x)) _ _ (λ v. v ≡ outside_at (lowest n (in_bounds B x)))
    (λ t. absurd (let e = lowest-all (in_bounds B x) n t in let z : ⊥ = omega arith in z)) (λ _. refl)

pub box-inside : (n : ℕ) (B x : List ℤ) → n ≤ lowest n (in_bounds B x) → box_verdict n B x ≡ inside
unfolding box_verdict
box-inside n B x h = rw (T→true (all n (in_bounds B x)) ((lowest-none (in_bounds B x) n).0 h)) refl

-- one that has its verdict keeps it; one that is still inside breaks the row or not
pub held-told : (k : ℕ) (met : Bool) (v : Verdict) → (case_of v ≡ 0 → ⊥) → held k met v ≡ v
unfolding held case_of
held-told k met inside h = absurd (h refl)
held-told k met (outside_at j) h = refl
held-told k met (breaks i) h = refl

pub held-broken : (k : ℕ) {met : Bool} {v : Verdict} → v ≡ inside → met ≡ false → held k met v ≡ breaks k
unfolding held
held-broken k e f = rw (e, f) refl

pub held-met : (k : ℕ) {met : Bool} {v : Verdict} → v ≡ inside → met ≡ true → held k met v ≡ v
unfolding held
held-met k e f = rw (e, f) refl

one_more : (box rows met : Bool) (p q k : ℕ)
    → cond box (cond (rows && met) inside (breaks (cond rows (cond met (suc k) k) q))) (outside_at p)
    ≡ held k met (cond box (cond rows inside (breaks q)) (outside_at p))
unfolding held
one_more false rows met p q k = refl
one_more true false met p q k = refl
one_more true true true p q k = refl
one_more true true false p q k = refl

pub held-verdict : (k : ℕ) (M : Model) (x : List ℤ) → verdict_by (k + 1) M x ≡ held k (row_met M x k) (verdict_by k M x)
unfolding verdict_by all lowest
held-verdict k M x =
    rw add-one
    (one_more (all M.n (in_bounds M.box x)) (all k (row_met M x)) (row_met M x k) (lowest M.n (in_bounds M.box x)) (lowest k (row_met M x)) k)

-- a proposal inside the box is as small as the bounds are
pub inside-small : {n : ℕ} {B x : List ℤ} → ValidBox n B → length x ≡ n → InBox n B x → (j : ℕ) → Within 32_768 (at x j)
inside-small {n} {B} {x} v l p j = go (dec_lt j n)
  where
    go : Dec (j < n) → Within 32_768 (at x j)
    go (yes h) =
        within-between {l = min_bound} {u = max_bound} (within-lit tt) (within-lit tt)
        (let a = p.low j h in let b = (v.range (2 * j)).above in omega zarith)
        (let a = p.high j h in let b = (v.range (2 * j + 1)).below in omega zarith)
    go (no h) = rw (get_or-eq_default x (pos 0) {n = j} (omega arith)) (within-lit tt)
