-- What is copied is what `paste` has.
use Rattle.std.proofs.Common.{◌≡◌, ◌+◌, ◌-◌, length, arith, refl, ap, List, ℕ, take, ◌++◌}
use lib.Seq.{drop-drop}
use Rattle.std.proofs.lemmas.List.Edits.{paste_all}
use Rattle.intake.proofs.input.store.Goals as goal

pub returns : goal.returns
returns c =
    let k = length c.args.piece.now in
    let e : c.args.at + k - c.args.at ≡ k = omega arith in
    rw (e, c.copy_from_slice.ensures.after, paste_all c.args.start.now c.args.at c.args.piece.now k refl)
    (ap (λ (r : List ℕ). take c.args.at c.args.start.now ++ (c.args.piece.now ++ r)) (drop-drop k c.args.at c.args.start.now))
