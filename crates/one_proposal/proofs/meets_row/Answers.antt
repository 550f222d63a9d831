-- `one_proposal::meets_row`: the row's value against its right side, as the kind says; both fit 64 bits.
use lib.Dec.{eqb}
use lib.IntN.{ℤ}
use mathlib.Core.Path.{◌∙◌, ◌≡◌, ap, ap₂, sym}
use mir.Facts.{to_z-of_z}
use mir.Syntax.{w32, w64}
use mir.Val.{SFits, of_z, to_z}
use lib.Signed.{le_z}
use Rattle.integer.specs.Order.{eq_z}
use Rattle.integer.proofs.Reading.{eq-read, read_wide, wide_fits}
use Rattle.integer.proofs.Tests.{bool-ext, eq_z→eq, eqb-test, eq→eq_z, test-false}
use Rattle.model.specs.Rows.{is_equality}
use Rattle.proposals.specs.Verdict.{meets}
use Rattle.one_proposal.proofs.meets_row.Goals as goal

-- two numbers that are compared by their bits
same : (v b : ℤ) → SFits w64 v → SFits w32 b → eqb (of_z w64 v) (of_z w64 (to_z w32 (of_z w32 b))) ≡ eq_z v b
same v b fv fb =
    bool-ext _ _
    (λ t. eq→eq_z v b (eq-read w64 fv (wide_fits fb) ((eqb-test _ _).0 t) ∙ to_z-of_z fb))
    (λ t. (eqb-test _ _).1 (ap (of_z w64) (eq_z→eq v b t ∙ sym (to_z-of_z fb))))

pub returns-then-kind-eq1 : goal.returns-then-kind-eq1
unfolding meets is_equality
returns-then-kind-eq1 c =
    let v = c.value_at-value in
    rw c.if-kind-eq1.true (same v.result c.args.b (record { sfits = v.type_inv }) c.ranges.b ∙ ap (λ (z : ℤ). eq_z z c.args.b) v.ensures)

pub returns : goal.returns
unfolding meets is_equality
returns c =
    let v = c.value_at-value in
    let fv : SFits w64 v.result = record { sfits = v.type_inv } in
    rw (test-false (eqb c.args.kind 1) (eqb-test c.args.kind 1) c.if-kind-eq1.false)
    (ap₂ le_z (to_z-of_z fv ∙ v.ensures) (read_wide c.ranges.b))
