-- `prepared_box::note_kept`: both bounds are noted, one after the other. Assumes nothing.
use Prim.Native.Nat.{◌*◌, ◌+◌}
use Rattle.std.proofs.Common.{rules}
use mathlib.Core.Path.{◌∙◌, sym}
use mir.Facts.{to_z-of_z}
use mir.Syntax.{w32}
use mir.Val.{SFits}
use native.Mathlib.Omega.{arith}
use Rattle.model.specs.Box.{lower, upper}
use Rattle.prepared_model.proofs.DecodeLaws.{box-at}
use Rattle.prepared_notes.proofs.HeardLaws.{deaf-read}
use Rattle.prepared_box.proofs.TakenLaws.{noted_one}
use Rattle.prepared_box.proofs.note_kept.Goals as goal

pub returns : goal.returns
returns c =
    let W = c.args.ws.now in
    let new = c.args.new.now in
    let j = c.args.j in
    let low_fits : SFits w32 (lower new j) = search rules in
    let high_fits : SFits w32 (upper new j) = search rules in
    let low = to_z-of_z {w = w32} (record { sfits = c.kept_bound.type_inv }) ∙ c.kept_bound.ensures ∙ sym (box-at 128 W (2 * j) (omega (arith, c.requires.1))) in
    let high = to_z-of_z {w = w32} (record { sfits = c.kept_bound-2.type_inv }) ∙ c.kept_bound-2.ensures ∙ sym (box-at 128 W (2 * j + 1) (omega (arith, c.requires.1))) in
    noted_one (c.note_bound-2.auto.dirty ∙ c.note_bound.auto.dirty)
    (λ r h e.
    let two = c.note_bound-2.ensures r h e in
    let one = c.note_bound.ensures r h two.0 in
    (one.0, record { low = deaf-read low (to_z-of_z low_fits) one.1; high = deaf-read high (to_z-of_z high_fits) two.1 }))
