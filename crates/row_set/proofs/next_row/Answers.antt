-- `row_set::next_row`: no row from r to the one that it stands at is in the set: a word's rest that is 0 has none (`none_rest`), and
-- in one that is not the trailing zeros pass over rows that are not in it (`next-rest`). Assumes nothing.
use Prim.Native.Nat.{◌/◌, ◌<◌, ◌≤◌, ℕ}
use mathlib.Core.List.{List}
use mathlib.Core.Path.{◌≡◌}
use native.Mathlib.Decide.{dec_lt}
use native.Mathlib.Omega.{arith}
use Rattle.row_set.specs.Bits.{bit_at}
use Rattle.row_set.proofs.BitLaws.{next-rest, none_rest}
use Rattle.row_set.proofs.next_row.Goals as goal

-- the rows from r to s, then those from s to t
and-on : (D : List ℕ) (r s t : ℕ) → ((i : ℕ) → r ≤ i → i < s → bit_at D i ≡ 0) → ((i : ℕ) → s ≤ i → i < t → bit_at D i ≡ 0)
    → (i : ℕ) → r ≤ i → i < t → bit_at D i ≡ 0
and-on D r s t f g i a b = go (dec_lt i s)
  where
    go : Dec (i < s) → bit_at D i ≡ 0
    go (yes h) = f i a h
    go (no h) = g i (omega arith) b

pub returns-then-x-ne0 : goal.returns-then-x-ne0
returns-then-x-ne0 c =
    let D = c.args.set.now in
    let s = c.loop-s.s in
    let e = c.min.ensures in
    let next = next-rest D s (omega (arith, c.type_inv.set (s / 32))) c.if-x-ne0.true in
    (omega (arith, c.loop-s.invariant.0), omega arith, λ i a b. and-on D _ s _ c.loop-s.invariant.1 next i a (omega arith))

pub loop-s-preserved : goal.loop-s-preserved
loop-s-preserved c =
    let D = c.args.set.now in
    let s = c.loop-s.s in
    (omega (arith, c.loop-s.invariant.0), and-on D _ s _ c.loop-s.invariant.1 (none_rest D s c.if-x-ne0.false))
