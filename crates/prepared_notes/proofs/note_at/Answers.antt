-- `prepared_notes::note_at`: both bounds are noted, one after the other, and written. Assumes nothing.
use Prim.Native.Nat.{◌*◌, ◌+◌}
use lib.IntN.{ℤ}
use lib.ListN.{set}
use mathlib.Core.Path.{ap₂}
use mir.Facts.{to_z-of_z}
use mir.Syntax.{w32}
use mir.Val.{SFits}
use Rattle.std.proofs.Common.{rules}
use Rattle.model.specs.Box.{lower, upper, with_bounds}
use Rattle.prepared_notes.proofs.HeardLaws.{deaf-read}
use Rattle.prepared_notes.proofs.note_at.Goals as goal

pub returns : goal.returns
unfolding with_bounds
returns c =
    let j = c.args.j in
    let old = c.args.old.now in
    let new = c.args.new.now in
    let low : SFits w32 (lower new j) = search rules in
    let high : SFits w32 (upper new j) = search rules in
    let old_low : SFits w32 (lower old j) = search rules in
    let old_high : SFits w32 (upper old j) = search rules in
    record {
      left = ap₂ (λ (l u : ℤ). set (set old (2 * j) l) (2 * j + 1) u) (to_z-of_z low) (to_z-of_z high);
      dirty = λ r h e.
          let two = c.note_bound-2.ensures r h e in
          let one = c.note_bound.ensures r h two.0 in
          (one.0, record { low = deaf-read (to_z-of_z old_low) (to_z-of_z low) one.1; high = deaf-read (to_z-of_z old_high) (to_z-of_z high) two.1 });
    }
