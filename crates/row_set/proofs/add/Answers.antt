-- `row_set::add`: the words so far are the unions, the others as they were (`bit-union`). Assumes nothing.
use Prim.Native.Nat.{◌+◌, ◌/◌, ◌<◌, ℕ}
use lib.Bits.{bit_or}
use lib.ListN.{get_or, length, set}
use lib.Seq.{get_or-set_other, get_or-set_same}
use mathlib.Core.List.{List}
use mathlib.Core.Path.{◌∙◌, ◌≡◌, ap}
use native.Mathlib.Decide.{ℕ_discrete}
use native.Mathlib.Omega.{arith}
use Rattle.row_set.proofs.BitLaws.{bit-union}
use Rattle.row_set.proofs.add.Goals as goal

-- one word more
word_more : (old more now : List ℕ) (i x : ℕ) → i < length now → x ≡ bit_or (get_or old i 0) (get_or more i 0)
    → ((q : ℕ) → q < i → get_or now q 0 ≡ bit_or (get_or old q 0) (get_or more q 0))
    → (q : ℕ) → q < i + 1 → get_or (set now i x) q 0 ≡ bit_or (get_or old q 0) (get_or more q 0)
word_more old more now i x h e f q k = go (ℕ_discrete q i)
  where
    go : Dec (q ≡ i) → get_or (set now i x) q 0 ≡ bit_or (get_or old q 0) (get_or more q 0)
    go (yes d) = rw d (get_or-set_same now i x 0 h ∙ e)
    go (no d) = get_or-set_other now i q x 0 d ∙ f q (omega arith)

pub loop-i-preserved : goal.loop-i-preserved
loop-i-preserved c =
    let set = c.loop-i.set in
    let i = c.loop-i.i in
    let inv = c.loop-i.invariant in
    let x = bit_or (get_or set i 0) (get_or c.args.more.now i 0) in (
      word_more c.args.set.now c.args.more.now set i x (omega arith)
          (ap (λ (y : ℕ). bit_or y (get_or c.args.more.now i 0)) (inv.1 i (omega arith))) inv.0,
      λ q k. get_or-set_other set i q x 0 (omega arith) ∙ inv.1 q (omega arith),
    )

pub returns : goal.returns
returns c r h =
    bit-union c.args.set.now c.args.more.now c.loop-i.set r (c.loop-i.invariant.0 (r / 32) (omega arith))
