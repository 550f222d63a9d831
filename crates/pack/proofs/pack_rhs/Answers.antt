-- `pack::pack_rhs`: so far the numbers say the right sides and the kinds, and nothing else was written. Assumes nothing.
use Prim.Native.Nat.{◌*◌, ◌+◌}
use borrow.Author.Count.{below_more, below_none}
use lib.ListN.{get_or, set}
use lib.Seq.{get_or-set_other, get_or-set_same}
use mathlib.Core.Path.{◌≡◌}
use mir.Facts.{to_z-of_z}
use mir.Syntax.{w32}
use native.Mathlib.Omega.{arith}
use Rattle.integer.proofs.Parts.{zarith}
use Rattle.integer.proofs.RangeLaws.{within-fits}
use Rattle.prepared_model.specs.Layout.{rhs_word_of}
use Rattle.prepared_model.proofs.KeptLaws.{same_more, same_none, same-wider}
use Rattle.pack.proofs.PackLaws.{rhs-packed, rhs-small, within-rhs}
use Rattle.pack.proofs.pack_rhs.Goals as goal

pub loop-r-init : goal.loop-r-init
loop-r-init c = (same_none 264 c.args.ws.now, below_none _)

pub raised-requires : goal.raised-requires
raised-requires c =
    let b = c.requires.2 c.loop-r.r in
    let f = within-fits w32 tt (within-rhs b) in
    simp to_z-of_z (omega (zarith, b), omega (zarith, b), omega zarith)

pub overflow_mul-ws : goal.overflow_mul-ws
overflow_mul-ws c =
    let b = c.requires.2 c.loop-r.r in
    let f = within-fits w32 tt (within-rhs b) in
    let small = rhs-small c.raised.result 0 _ b (simp to_z-of_z at c.raised.ensures) in
    omega arith

pub overflow_add-ws : goal.overflow_add-ws
overflow_add-ws c =
    let b = c.requires.2 c.loop-r.r in
    let f = within-fits w32 tt (within-rhs b) in
    let small = rhs-small c.raised.result 0 _ b (simp to_z-of_z at c.raised.ensures) in
    omega (arith, c.requires.4 c.loop-r.r, c.from.ensures)

pub bounds-ws-r : goal.bounds-ws-r
bounds-ws-r c = omega (arith, c.requires, c.loop-r.invariant.0.len)

pub loop-r-preserved : goal.loop-r-preserved
loop-r-preserved c =
    let r = c.loop-r.r in
    let ws = c.loop-r.ws in
    let b = c.requires.2 r in
    let f = within-fits w32 tt (within-rhs b) in
    let x = c.raised.result in
    let kind = get_or c.args.kinds.now r 0 in
    let w = x * 2 + kind in
    let e : rhs_word_of (set ws (264 + r) w) r ≡ w = get_or-set_same ws (264 + r) w 0 (omega (arith, c.requires, c.loop-r.invariant.0.len)) in
    rw c.from.ensures (
      same_more r c.loop-r.invariant.0 w,
      below_more _ r
          (λ q k. rw (get_or-set_other ws (264 + r) (264 + q) w 0 (omega arith)) (c.loop-r.invariant.1 q k))
          (rw e (rhs-packed x kind _ b (simp to_z-of_z at c.raised.ensures) (c.requires.4 r))),
    )

pub returns : goal.returns
returns c =
    record {
      rhs_packed = λ r k. c.loop-r.invariant.1 r (omega arith);
      others = same-wider (omega (arith, c.requires)) c.loop-r.invariant.0;
    }
