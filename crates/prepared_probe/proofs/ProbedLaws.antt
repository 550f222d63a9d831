-- What a probe of a prepared model needs of its sides: what the answer says of the box, and what is kept.
use Rattle.std.specs.Prelude.{◌≡◌, ℕ, ◌<◌, not, ◌||◌, T, List, [], ◌∷◌, ℤ}
use denote.Enum.Declared.{tag_of}
use lib.Dec.{T_not}
use mathlib.Core.Logic.{⊎_elim}
use mathlib.Core.Path.{◌∙◌, ap, refl, sym}
use native.Mathlib.Omega.{arith}
use types.Run.{OneOf}
use Rattle.model.specs.Box.{NonEmpty, is_empty, is_free}
use Rattle.model.specs.Rows.{Rows}
use Rattle.model.specs.Valid.{ValidBox}
use Rattle.prepared_model.specs.Layout.{box_in, dirty_of, rows_in, variables_of}
use Rattle.prepared_model.specs.Prepared.{Prepared}
use Rattle.prepared_model.specs.SameBut.{SameBut}
use Rattle.prepared_model.proofs.KeptLaws.{prepared-kept}
use Rattle.two_sides.specs.Results.{probing_of}
use Rattle.two_sides.specs.declared.Probing.{Probing}
use Rattle.two_sides.specs.declared.Probing.TheVariants as probing
use Rattle.two_sides.specs.declared.Side.{Side}
use Rattle.two_sides.proofs.JoinLaws.{probing-box}
use Rattle.two_sides.specs.contracts.Probing.{the_type}
use Rattle.reducer.specs.OpenCalls.{probing_answer}
use Rattle.row_set.specs.Readers.{Calm}
use Rattle.semantics.specs.Probe.{Probed, probe}
use Rattle.semantics.specs.Run.{answers_none, probe_infeasible}
use Rattle.call_laws.proofs.ProbeLaws.{probe-infeasible-iff, probe-valid}

-- ---- the answer: infeasible or not

pub probing-some : (p : Probing) → OneOf (1 ∷ 2 ∷ []) (tag_of the_type p) → T (not (answers_none (probing_answer p)))
unfolding probing_of answers_none probe_infeasible
probing-some (probing.Infeasible s0 s1) h =
    ⊎_elim (λ e. let z : ◌≡◌ {A = ℕ} 0 1 = e in absurd (omega arith)) (λ e. let z : ◌≡◌ {A = ℕ} 0 2 = e in absurd (omega arith)) h
probing-some (probing.Fixed v s0 s1) h = tt
probing-some (probing.BothFeasible a s0 s1) h = tt

pub probing-none : {p : Probing} {s0 s1 : Side} → p ≡ probing.Infeasible s0 s1 → T (answers_none (probing_answer p))
unfolding probing_of answers_none probe_infeasible
probing-none e = rw e tt

ending-is : (p : Probing) (Q : List ℤ) (t : List ℕ) → (probing_of p Q t).ending ≡ (probing_of p [] []).ending
unfolding probing_of
ending-is (probing.Infeasible s0 s1) Q t = refl
ending-is (probing.Fixed v s0 s1) Q t = refl
ending-is (probing.BothFeasible a s0 s1) Q t = refl

-- the box Q that a probe of B leaves
module _ (k budget m : ℕ) (A : Rows) (t t' : List ℕ) (p : Probing) {n : ℕ} {B Q : List ℤ} (h : 0 < n) (v : ValidBox n B)
    (f : T (is_empty n B || is_free B k)) (e : probing_of p Q t' ≡ probe k budget n m A B t) where
  box-probed : Q ≡ (probe k budget n m A B t).box
  box-probed = sym (probing-box p Q t') ∙ ap (λ (w : Probed). w.box) e

  pub probed-valid : ValidBox n Q
  probed-valid = rw box-probed (probe-valid k budget m A t f v)

  pub probed-non_empty : T (not (answers_none (probing_answer p))) → NonEmpty n Q
  unfolding answers_none
  probed-non_empty z = ⊎_elim
      (λ x. absurd (T_not (probe_infeasible (probing_of p [] []).ending) z
      (rw (← ending-is p Q t', e) ((probe-infeasible-iff k budget m A t f h v).1 (sym box-probed ∙ x)))))
      (λ q. q) probed-valid.shape

-- ---- what is kept

pub kept-prepared : {n : ℕ} {W X Y : List ℕ} {A : Rows} {B : List ℤ} {D : List ℕ} → Prepared W A → n ≡ variables_of W → SameBut 4 8 W X → SameBut 8 264 X Y
    → dirty_of X ≡ D → box_in n Y ≡ B → ValidBox n B → NonEmpty n B → Calm n (rows_in W) A B D → Prepared Y A
kept-prepared {D = D} P e s t d b v p c = prepared-kept {D = D} P s t d (rw e at b) (rw e at v) (rw e at p) (rw e at c)
