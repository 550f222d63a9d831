-- What calls that change nothing say of the box (02, C-24: "a book whose last round changed nothing, without None and without a Spent
-- side in a probe of that round, ends at rest"): the part of it that is said of one settle and of one probe.
use Rattle.std.specs.Prelude.{◌<◌, ◌≤◌, ℕ, T, ℤ, Bool, ◌||◌, false, not, List, [], ◌∷◌, ◌≡◌}
use Rattle.model.specs.Box.{NonEmpty, is_free}
use Rattle.model.specs.Rows.{Rows}
use Rattle.model.specs.State.{State}
use Rattle.semantics.specs.Call.{Call}
use Rattle.semantics.specs.Perform.{Answer, perform, probed, propagated, propagated_row, refused, removed, tightened}
use Rattle.semantics.specs.Probe.{probe}
use Rattle.semantics.specs.Propagate.{is_none, propagate}
use Rattle.semantics.specs.Run.{probe_infeasible, step}
use Rattle.call_laws.specs.Fixpoint.{Fixpoint, SidesSpan}

-- "a Spent side in a probe": of an answer; a settle that is Spent is none
unfoldable pub side_spent : Answer → Bool
side_spent (refused number) = false
side_spent (propagated_row o moved) = false
side_spent (propagated e passes moved) = false
side_spent (probed e s0 s1) = s0.spent || s1.spent
side_spent (tightened o) = false
side_spent (removed o) = false

-- some call of the run from s has one
unfoldable pub any_spent : State → List Call → Bool
any_spent s [] = false
any_spent s (c ∷ cs) = side_spent (perform s c).answer || any_spent (step s c) cs

-- a settle of two passes or more that is not None and leaves the box: the box is quiet, Spent or not (`unmoved-fixpoint`)
unfoldable pub UnmovedFixpoint : Type 0
UnmovedFixpoint =
    (budget n m : ℕ) (A : Rows) (B : List ℤ) → 0 < n → NonEmpty n B → 2 ≤ budget → let r = propagate budget n m A B in
    T (not (is_none r.ending)) → r.box ≡ B → Fixpoint n m A B

-- a probe that is not None, has no Spent side and leaves the box: the two sides span it, whatever the budget (`unmoved-spans`)
unfoldable pub UnmovedSpans : Type 0
UnmovedSpans =
    (k budget n m : ℕ) (A : Rows) (B : List ℤ) (t : List ℕ) → k < n → NonEmpty n B → T (is_free B k) → let r = probe k budget n m A B t in
    T (not (probe_infeasible r.ending)) → T (not (r.side0.spent || r.side1.spent)) → r.box ≡ B → SidesSpan n m A B k
