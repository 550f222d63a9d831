-- What two sides come to, by which are infeasible; the box that they leave, and the marks that belong to the box before.
use Prim.Native.Nat.{◌<◌, ℕ}
use lib.IntN.{ℤ}
use lib.ListN.{get_or}
use mathlib.Core.Bool.{Bool, false, true}
use mathlib.Core.List.{List, []}
use mathlib.Core.Path.{◌≡◌, refl}
use Rattle.model.specs.Box.{empty_box}
use Rattle.semantics.specs.Probe as semantic
use Rattle.semantics.specs.Probe.{hull, join_sides, record_to, side_of}
use Rattle.semantics.specs.Propagate.{is_none}
use Rattle.two_sides.specs.Results.{probing_of, report_of}
use Rattle.propagation.specs.Results.{propagation_of}
use Rattle.two_sides.specs.declared.Probing.TheVariants as probing
use Rattle.two_sides.specs.declared.Side.{Side}
use Rattle.propagation.specs.declared.Propagation.{Propagation}
use Rattle.propagation.specs.declared.Propagation.TheVariants.{BudgetSpent, Converged, Infeasible}
use Rattle.row_marks.specs.Marks.{Unread}
use Rattle.two_sides.specs.declared.Probing.{Probing}
use Rattle.probe_side.proofs.SideLaws.{box-is}

-- ---- what two sides report

report-is : (s : Propagation) (S : List ℤ) → side_of (propagation_of s S) ≡ side_of (propagation_of s [])
unfolding propagation_of side_of
report-is (Infeasible p k) S = refl
report-is (Converged p k) S = refl
report-is (BudgetSpent p k) S = refl

-- ---- what two sides come to, by which are infeasible

module _ (n k : ℕ) (B : List ℤ) (t : List ℕ) (s0 s1 : Propagation) (S0 S1 : List ℤ) (r0 r1 : Side)
    (e0 : report_of r0 ≡ side_of (propagation_of s0 [])) (e1 : report_of r1 ≡ side_of (propagation_of s1 [])) where
  abbrev joined : semantic.Probed
  joined = join_sides n k B t (propagation_of s0 S0) (propagation_of s1 S1)

  abbrev none0 : Bool
  none0 = is_none (propagation_of s0 S0).ending

  abbrev none1 : Bool
  none1 = is_none (propagation_of s1 S1).ending

  pub joins-none : none0 ≡ true → none1 ≡ true → {P : List ℤ} → P ≡ empty_box n → probing_of (probing.Infeasible r0 r1) P t ≡ joined
  unfolding join_sides probing_of
  joins-none p q b = rw (p, q, e0, e1, report-is s0 S0, report-is s1 S1, b) refl

  pub joins-one : none0 ≡ true → none1 ≡ false → {P : List ℤ} → P ≡ S1 → probing_of (probing.Fixed 1 r0 r1) P t ≡ joined
  unfolding join_sides probing_of
  joins-one p q b = rw (p, q, e0, e1, report-is s0 S0, report-is s1 S1, box-is s1 S1, b) refl

  pub joins-zero : none0 ≡ false → none1 ≡ true → {P : List ℤ} → P ≡ S0 → probing_of (probing.Fixed 0 r0 r1) P t ≡ joined
  unfolding join_sides probing_of
  joins-zero p q b = rw (p, q, e0, e1, report-is s0 S0, report-is s1 S1, box-is s0 S0, b) refl

  pub joins-both : none0 ≡ false → none1 ≡ false → {P : List ℤ} {u : List ℕ} {a : ℕ} → P ≡ hull n S0 S1
      → (u ≡ (record_to n n k B S0 S1 t).bytes) × (a ≡ (record_to n n k B S0 S1 t).added) → probing_of (probing.BothFeasible a r0 r1) P u ≡ joined
  unfolding join_sides probing_of
  joins-both p q b r = rw (p, q, e0, e1, report-is s0 S0, report-is s1 S1, box-is s0 S0, box-is s1 S1, b, r.0, r.1) refl

-- ---- what they leave

pub probing-box : (r : Probing) (Q : List ℤ) (t : List ℕ) → (probing_of r Q t).box ≡ Q
unfolding probing_of
probing-box (probing.Infeasible s0 s1) Q t = refl
probing-box (probing.Fixed v s0 s1) Q t = refl
probing-box (probing.BothFeasible a s0 s1) Q t = refl

pub marks-from : {n m : ℕ} {C : List ℤ} {K : List ℕ} {X B Q : List ℤ} (marks marks' : List ℕ) → X ≡ B
    → ((r : ℕ) → r < m → get_or marks' r 0 ≡ 1 → (get_or marks r 0 ≡ 1) × ((j : ℕ) → j < n → Unread n C K r X Q j))
    → (r : ℕ) → r < m → get_or marks' r 0 ≡ 1 → (get_or marks r 0 ≡ 1) × ((j : ℕ) → j < n → Unread n C K r B Q j)
marks-from marks marks' e f = rw e at f
