-- `packed_row::forms_move` is row_moves_of: the ≤ form decides where it moves anything, else the negated form in the same box
-- (`moves-first`, `moves-second`). Assumes nothing.
use lib.ListN.{length}
use mathlib.Core.Logic.{inl, inr}
use mathlib.Core.Path.{◌∙◌, ◌≡◌, refl, sym}
use Rattle.integer.proofs.Tests.{eqb-test}
use Rattle.model.specs.Rows.{is_equality, negated, row_with}
use Rattle.row.specs.Propagation.{row_moves}
use Rattle.row.proofs.KindLaws.{other-kind}
use Rattle.row.proofs.KindMoves.{moves-first, moves-le, moves-second}
use Rattle.row.proofs.SignedLaws.{negated-rhs, rhs-fits, rhs-negated, rhs-read, signed-negated, signed-one}
use Rattle.packed_row.specs.Words.{coefs_from}
use Rattle.packed_row.proofs.forms_move.Statement.{statement}
use Rattle.packed_row.proofs.forms_move.Tie as tie

form-moves-packed-requires : tie.Need-form_moves_packed-requires
form-moves-packed-requires c κs = let v = c.requires in (rw (rhs-read v) v, inl refl)

-- what the ≤ form says
first_says : (c : tie.After-form_moves_packed)
    → let s = c.before.before in c.form_moves_packed.result ≡ row_moves (length s.args.words.now) (coefs_from s.args.words.now 0) s.args.b s.args.bounds.now
first_says c = let s = c.before.before in rw (rhs-read s.requires, signed-one (coefs_from s.args.words.now 0)) at c.form_moves_packed.ensures

returns : tie.Need-returns-then-form_moves_packed
returns c = sym (moves-first _ (row_with _ _ c.args.kind) _ (sym (first_says c.before) ∙ c.if-form_moves_packed.true))

returns-2 : tie.Need-returns-then-kind-ne1
unfolding is_equality
returns-2 c =
    let m = c.before.before in
    let k = m.args.kind in
    sym (moves-le _ (row_with _ _ k) _ (other-kind k c.if-kind-ne1.true) ∙ sym (first_says m) ∙ c.if-form_moves_packed.false)

sub-form-moves-packed : tie.Need-overflow_sub-b
sub-form-moves-packed c = rhs-fits c.requires

form-moves-packed-requires-2 : tie.Need-form_moves_packed-requires-2
form-moves-packed-requires-2 c κs = let v = c.requires in (rw (rhs-negated v) (negated-rhs v), inr refl)

returns-3 : tie.Need-returns
unfolding is_equality negated
returns-3 c =
    let m = c.before.before.before in
    let s = m.before.before in
    let k = s.args.kind in
    let told = rw (rhs-negated s.requires, signed-negated (coefs_from s.args.words.now 0)) at c.form_moves_packed-2.ensures in
    told ∙ sym (moves-second _ (row_with _ _ k) _ s.requires.coefs.box.len ((eqb-test k 1).1 c.if-kind-ne1.false) (sym (first_says m) ∙ c.if-form_moves_packed.false))

pub forms_move_spec : {M : Type 1} → statement M
forms_move_spec =
    tie.close
    (tie.spec form-moves-packed-requires returns returns-2 sub-form-moves-packed form-moves-packed-requires-2 returns-3)
