-- `packed_row::propagate_forms` is propagate_row_of: the ≤ form's answer where the row is a ≤ row or the form is infeasible
-- (`le-answer`, `none-answer`), else what `both` makes of the two (`both-answer`). Assumes nothing.
use Prim.Native.Nat.{ℕ}
use borrow.Author.Rules.{rules}
use lib.IntN.{neg_ℤ, ℤ}
use lib.ListN.{length}
use mathlib.Core.List.{List}
use mathlib.Core.Logic.{inl, inr}
use mathlib.Core.Path.{◌∙◌, ◌≡◌, ap, refl, subst⁻¹}
use Rattle.model.specs.Rows.{negated_coefs}
use Rattle.row.specs.Answers.{propagated_row_of}
use Rattle.row.specs.Propagation.{propagate_row}
use Rattle.row.specs.ValidRow.{ValidRow}
use Rattle.row.proofs.KindMoves.{both-answer, both-few, first-box, le-answer, none-answer}
use Rattle.row.proofs.PropagationLaws.{propagate-row-valid_row}
use Rattle.row.proofs.SignedLaws.{negated-rhs, rhs-fits, rhs-negated, rhs-read, signed-negated, signed-one}
use Rattle.packed_row.specs.Words.{coefs_from}
use Rattle.packed_row.proofs.propagate_forms.Statement.{statement}
use Rattle.packed_row.proofs.propagate_forms.Tie as tie

propagate-form-packed-requires : tie.Need-propagate_form_packed-first-requires
propagate-form-packed-requires c κs = let v = c.requires in (rw (rhs-read v) v, inl refl)

-- what the ≤ form leaves
module _ (c : tie.After-propagate_form_packed-first) where
  abbrev s : tie.Start
  s = c.before.before.before

  abbrev A : List ℤ
  A = coefs_from s.args.words.now 0

  abbrev B : List ℤ
  B = s.args.bounds.now

  abbrev n : ℕ
  n = length s.args.words.now

  abbrev P : List ℤ
  P = c.propagate_form_packed-first.new.bounds

  told : propagated_row_of c.propagate_form_packed-first.result P ≡ propagate_row n A s.args.b B
  told = rw (rhs-read s.requires, signed-one A) at c.propagate_form_packed-first.ensures

  left-valid : ValidRow n A s.args.b P
  left-valid = subst⁻¹ (ValidRow n A s.args.b) (first-box n A s.args.b B _ P told) (propagate-row-valid_row s.requires)

same_length : tie.Need-shape_of-bounds-then-kind-ne1
same_length c = search rules

returns : tie.Need-returns-then-kind-ne1
returns c = let m = c.before.before in le-answer (n m) (A m) (s m).args.b (B m) _ (P m) (told m) (s m).args.kind c.if-kind-ne1.true

enum_told : tie.Need-enum_told-1
enum_told c = search rules

sub-propagate-form-packed : tie.Need-overflow_sub-b
sub-propagate-form-packed c = rhs-fits (s c.before.before.before).requires

propagate-form-packed-requires-2 : tie.Need-propagate_form_packed-requires
propagate-form-packed-requires-2 c κs =
    let m = c.before.before.before.before in
    (rw (rhs-negated (s m).requires) (negated-rhs (left-valid m)), inr refl)

-- and what the negated form leaves
module _ (c : tie.After-propagate_form_packed) where
  abbrev m : tie.After-propagate_form_packed-first
  m = c.before.before.before.before.before

  abbrev Q : List ℤ
  Q = c.propagate_form_packed.new.bounds

  told₂ : propagated_row_of c.propagate_form_packed.result Q ≡ propagate_row (n m) (negated_coefs (A m)) (neg_ℤ (s m).args.b) (P m)
  told₂ = rw (rhs-negated (s m).requires, signed-negated (A m)) at c.propagate_form_packed.ensures

both-requires : tie.Need-both-requires
both-requires c κs =
    let t = c.before in
    let f = m t in
    both-few (n f) (A f) (s f).args.b (B f) _ (P f) (told f) _ (Q t) (told₂ t) (s f).requires.coefs.few

same-length-2 : tie.Need-shape_of-bounds-in_default
same-length-2 c = search rules

returns-2 : tie.Need-returns-in_default
returns-2 c =
    let t = c.before.before in
    let f = m t in
    let k = t.before.before in
    ap (λ r. propagated_row_of r (Q t)) c.both.ensures
    ∙ both-answer (n f) (A f) (s f).args.b (B f) _ (P f) (told f) _ (Q t) (told₂ t) (s f).args.kind k.if-kind-ne1.false k.in_default.in_default-own.keys2

same-length-3 : tie.Need-shape_of-bounds
same-length-3 c = search rules

returns-3 : tie.Need-returns
returns-3 c =
    let f = c.before.before.before in
    none-answer (n f) (A f) (s f).args.b (B f) _ (P f) (told f) (s f).args.kind c.if-kind-ne1.false c.in-Infeasible.is

pub propagate_forms_spec : {M : Type 1} → statement M
propagate_forms_spec =
    tie.close
    (tie.spec
    propagate-form-packed-requires
    same_length
    returns
    enum_told
    sub-propagate-form-packed
    propagate-form-packed-requires-2
    both-requires
    same-length-2
    returns-2
    same-length-3
    returns-3)
