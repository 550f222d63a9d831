-- What the two loops of `propagate` need: one row more of a pass, and one pass more.
use Prim.Native.Nat.{◌+◌, ◌-◌, ◌<◌, ◌^◌, ◌≤◌, suc, zero, ℕ}
use lib.IntN.{◌+ℤ◌, pos, ℤ}
use lib.ListN.{get_or}
use lib.Signed.{◌≤ℤ◌}
use mathlib.Core.Bool.{Bool, false, true}
use mathlib.Core.List.{List}
use mathlib.Core.Logic.{◌⊎◌, inl, inr}
use mathlib.Core.Path.{◌∙◌, ◌≡◌, refl, sym}
use native.Mathlib.Decide.{ℕ_discrete}
use native.Mathlib.Numerals.{add-one}
use native.Mathlib.Omega.{arith}
use Rattle.integer.proofs.Parts.{zarith}
use Rattle.model.specs.Box.{NonEmpty, width}
use Rattle.model.specs.Rows.{Rows, row_at}
use Rattle.model.specs.Valid.{ValidModel}
use Rattle.model.specs.Model.{model_of}
use Rattle.row.specs.Answers.{propagated_row_of}
use Rattle.row.specs.Outcome.{is_infeasible}
use Rattle.row.specs.Kinds.{propagate_row_of}
use Rattle.row.specs.declared.propagation.RowPropagation.{RowPropagation}
use Rattle.row.specs.declared.propagation.RowPropagation.TheVariants.{Infeasible, Tightened, Unchanged}
use Rattle.row_marks.specs.Marks.{Clean}
use Rattle.semantics.specs.Propagate.{Propagated, converged, infeasible, pass_to, propagate_from}
use Rattle.call_laws.specs.Convergence.{LargestBudget}
use Rattle.call_laws.proofs.Convergence.{width-limit}
use Rattle.call_laws.proofs.PropagateLaws.{moved-at-most, moved_then, pass-ended, pass-moved-width, pass-next, propagate-again, propagate-converged, propagate-none-now}

-- ---- one row more of the pass over the box B

-- rows 0 to r − 1 left the box P; `before` bounds moved before the pass, and with those that these rows moved they are `sum`
pub record PassIs (n r : ℕ) (A : Rows) (B : List ℤ) (before : ℕ) (over : Bool) (sum : ℕ) (P : List ℤ) : Type 0 where
  pub ended : (pass_to n r A B).ended ≡ over
  pub moved : before + (pass_to n r A B).moved ≡ sum
  pub box : (pass_to n r A B).box ≡ P

pub pass-begins : (n : ℕ) (A : Rows) (B : List ℤ) (before : ℕ) → PassIs n 0 A B before false before B
unfolding pass_to
pass-begins n A B before = record { ended = refl; moved = omega arith; box = refl }

-- and on it row r answered v and left Q
module _ (n r : ℕ) (A : Rows) (B : List ℤ) (before : ℕ) (v : RowPropagation) {sum : ℕ} {P : List ℤ} (Q : List ℤ) (i : PassIs n r A B before false sum P)
    (a : propagated_row_of v Q ≡ propagate_row_of n (row_at n A r) P) where
  row_more : pass_to n (r + 1) A B
      ≡ record { ended = is_infeasible (propagated_row_of v Q).outcome; moved = (pass_to n r A B).moved + (propagated_row_of v Q).moved; box = (propagated_row_of v Q).box }
  row_more = rw a (rw i.box at (pass-next n r A B (rw i.ended tt)))

  pub row-feasible : {k now : ℕ} → ((v ≡ Tightened k) × (now ≡ sum + k)) ⊎ ((v ≡ Unchanged) × (now ≡ sum)) → PassIs n (r + 1) A B before false now Q
  unfolding propagated_row_of is_infeasible
  row-feasible (inl w) = let e = rw w.0 at row_more in record { ended = rw e; moved = rw e (omega (arith, i.moved, w.1)); box = rw e }
  row-feasible (inr w) = let e = rw w.0 at row_more in record { ended = rw e; moved = rw e (omega (arith, i.moved, w.1)); box = rw e }

  -- no later row changes what an infeasible one left
  pub row-infeasible : (m : ℕ) → r < m → v ≡ Infeasible → PassIs n m A B before true sum Q
  unfolding propagated_row_of is_infeasible
  row-infeasible m h w =
      let e = rw w at row_more in
      let f = pass-ended n (r + 1) A B m (omega arith) (rw e tt) in
      record { ended = rw (f, e); moved = rw (f, e) (omega (arith, i.moved)); box = rw (f, e) }

-- clean rows are passed over
pub pass-over : {n m : ℕ} {A : Rows} (B : List ℤ) {before sum : ℕ} {P : List ℤ} {marks : List ℕ} (r s : ℕ)
    → PassIs n r A B before false sum P → NonEmpty n P → Clean n m A P marks
    → r ≤ s → s ≤ m → ((i : ℕ) → r ≤ i → i < s → get_or marks i 0 ≡ 1)
    → PassIs n s A B before false sum P
unfolding propagated_row_of
pass-over B r zero e p c h k f = let z : r ≡ 0 = omega arith in rw z at e
pass-over {n} {m} {A} B {before} {sum} {P} {marks} r (suc s) e p c h k f =
    go (ℕ_discrete r (suc s)) (λ d. pass-over B r s e p c d (omega arith) (λ i a b. f i a (omega arith)))
  where
    go : Dec (r ≡ suc s) → (r ≤ s → PassIs n s A B before false sum P) → PassIs n (suc s) A B before false sum P
    go (yes d) w = rw d at e
    go (no d) w =
        let v = c.same p s (omega arith) (f s (omega arith) (omega arith)) in
        rw (add-one s) at (row-feasible n s A B before Unchanged P (w (omega arith)) (sym v) {k = 0} (inr (refl, refl)))

-- ---- the bounds moved are no more than the width that was lost since the box B₀, so their number fits

module _ {n r : ℕ} {A : Rows} {B : List ℤ} {before sum : ℕ} {Q : List ℤ} (i : PassIs n r A B before false sum Q) (B₀ : List ℤ)
    (w : (pos before +ℤ width n B) ≤ℤ width n B₀) where
  pub pass-width : (pos sum +ℤ width n Q) ≤ℤ width n B₀
  pass-width = rw (i.moved, i.box) at (moved_then n before _ B₀ B _ w (pass-moved-width n A r B (rw i.ended tt)))

  pub sum_fits : {m : ℕ} → ValidModel (model_of n m B₀ A) → NonEmpty n Q → sum < 2 ^ 32
  unfolding LargestBudget
  sum_fits {m} v p = let a = moved-at-most n sum B₀ p pass-width in let b = (width-limit (model_of n m B₀ A) v).0 in omega zarith

-- ---- one pass more, after `made` of `budget` that moved `before` bounds; W is what the whole comes to

module _ (budget made before n m : ℕ) (A : Rows) (B : List ℤ) {W : Propagated} (h : made < budget)
    (w : propagate_from (budget - made) made before n m A B ≡ W) where
  left_one : propagate_from (suc (budget - (made + 1))) made before n m A B ≡ W
  left_one = let k : suc (budget - (made + 1)) ≡ budget - made = omega arith in rw k w

  pub pass-infeasible : {sum : ℕ} {Q : List ℤ} → PassIs n m A B before true sum Q
      → W ≡ record { ending = infeasible; passes = made + 1; moved = sum; box = Q }
  pass-infeasible i = sym left_one ∙ propagate-none-now (budget - (made + 1)) made before n m A B (rw i.ended tt) ∙ rw (i.moved, i.box, add-one)

  pub pass-converged : {Q : List ℤ} → PassIs n m A B before false before Q
      → W ≡ record { ending = converged; passes = made + 1; moved = before; box = Q }
  pass-converged i =
      let e : (pass_to n m A B).moved ≡ 0 = omega (arith, i.moved) in
      sym left_one ∙ propagate-converged (budget - (made + 1)) made before n m A B (rw i.ended tt) e ∙ rw (i.box, add-one)

  pub pass-moved : {sum : ℕ} {Q : List ℤ} → PassIs n m A B before false sum Q → (sum ≡ before → ⊥)
      → propagate_from (budget - (made + 1)) (made + 1) sum n m A Q ≡ W
  pass-moved i d =
      let e : 0 < (pass_to n m A B).moved = omega (arith, i.moved) in
      sym (sym left_one ∙ propagate-again (budget - (made + 1)) made before n m A B (rw i.ended tt) e ∙ rw (i.moved, i.box, add-one made))

pub passes-made : (budget made sum n m : ℕ) (A : Rows) (B : List ℤ) {W : Propagated} → budget ≤ made
    → propagate_from (budget - made) made sum n m A B ≡ W → W ≡ propagate_from 0 made sum n m A B
passes-made budget made sum n m A B h w =
    let k : budget - made ≡ 0 = omega arith in
    sym w ∙ rw k
