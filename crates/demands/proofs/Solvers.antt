-- Where nothing moves with enough budget the box is at rest: a settle that is never Spent says that it is quiet, two sides that are never
-- Spent that they span it. So two solvers agree, by demand 3.
use Prim.Native.Nat.{◌<◌, ◌≤◌, ℕ}
use lib.Dec.{T, T_not, not_T}
use lib.IntN.{pos, ℤ}
use lib.Signed.{◌<ℤ◌}
use mathlib.Core.List.{List}
use mathlib.Core.Logic.{inl, inr, ⊎_elim}
use mathlib.Core.Path.{◌∙◌, ◌≡◌, subst, sym}
use Rattle.integer.proofs.Parts.{zarith}
use Rattle.integer.proofs.Tests.{false→T}
use Rattle.model.specs.Box.{Inside, NonEmpty, empty_box, is_empty, is_free, width}
use Rattle.model.specs.Rows.{Rows}
use Rattle.model.proofs.BoxLaws.{inside-refl, non_empty-isn't, not-in-empty}
use Rattle.semantics.specs.Probe.{probe}
use Rattle.semantics.specs.Propagate.{is_none, propagate}
use Rattle.semantics.specs.Run.{run}
use Rattle.call_laws.specs.Convergence.{Ends, EnoughPasses}
use Rattle.call_laws.specs.Fixpoint.{Fixpoint, ProbingFixpoint, SidesSpan}
use Rattle.call_laws.proofs.Convergence.{propagate-ends, side-moves, span-iff}
use Rattle.call_laws.proofs.Preserved.{run-preserves}
use Rattle.call_laws.proofs.ProbeLaws.{probe-ind}
use Rattle.call_laws.proofs.PropagateLaws.{propagate-infeasible-box}
use Rattle.demands.specs.Passes.{enough_budget}
use Rattle.demands.specs.Solvers.{NothingLeftRests, SolversAgree}
use Rattle.demands.specs.TwoRuns.{Demand3}
use Rattle.demands.proofs.Demand3.{demand-3, handed-in-valid}
use Rattle.demands.proofs.Passes.{total-width-is}

module _ (n m : ℕ) (A : Rows) (B : List ℤ) (h : 0 < n) (p : NonEmpty n B) (budget : ℕ) (w : enough_budget n B ≤ budget) where
  enough : width n B <ℤ pos budget
  unfolding enough_budget
  enough = let t = total-width-is h p in omega zarith

  not-empty : B ≡ empty_box n → ⊥
  not-empty e = not-in-empty n B h p (subst (Inside n B) e (inside-refl n B))

  still-fixpoint : (propagate budget n m A B).box ≡ B → Fixpoint n m A B
  unfolding EnoughPasses
  still-fixpoint same =
      let r = propagate budget n m A B in
      let e : Ends n m A B r = propagate-ends budget n m A B h p enough in
      let t = not_T (is_none r.ending) (λ t. not-empty (sym same ∙ propagate-infeasible-box n m A budget B t)) in
      subst (Fixpoint n m A) same (e.greatest t).fixpoint

  still-spans : (k : ℕ) (t : List ℕ) → k < n → T (is_free B k) → (probe k budget n m A B t).box ≡ B → SidesSpan n m A B k
  still-spans k t kn f = probe-ind k budget n m A B t (λ r. r.box ≡ B → SidesSpan n m A B k)
      (λ e _. absurd (T_not (is_empty n B) (false→T (is_empty n B) (non_empty-isn't h p)) e))
      (λ _ _ _ e. absurd (not-empty (sym e)))
      (λ _ _ y e. absurd (side-moves n m A B k kn f budget 1 y e))
      (λ _ x _ e. absurd (side-moves n m A B k kn f budget 0 x e))
      (λ _ x y e. (span-iff budget n m A B h p enough k f).0 (x, y, e))

pub nothing-left-rests : NothingLeftRests
unfolding NothingLeftRests ProbingFixpoint
nothing-left-rests s v w = ⊎_elim
    (λ (e : s.model.box ≡ empty_box s.model.n). inl e)
    (λ p.
    let M = s.model in
    let q = w.propagates in
    inr (record {
      fixpoint = still-fixpoint M.n M.m M.rows M.box v.model.some p q.0 q.1 q.2;
      spans = λ k kn f. let r = w.probes k kn f in
          still-spans M.n M.m M.rows M.box v.model.some p r.0 r.1 k s.table kn f r.2;
    }))
    v.model.box.shape

pub solvers-agree : SolversAgree
unfolding SolversAgree Demand3 NothingLeftRests
solvers-agree s before one two g p1 p2 w1 w2 =
    let t = run s before in
    let v = (run-preserves s before).valid (handed-in-valid s g) in
    ((demand-3 s before one two g p1 p2).same_end (nothing-left-rests (run t one) ((run-preserves t one).valid v) w1)).1
    (nothing-left-rests (run t two) ((run-preserves t two).valid v) w2)
