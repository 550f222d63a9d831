-- `allocation_input::check_proposals`: the two checks in their order.
use Prim.Native.Nat.{◌*◌, ◌+◌, ◌≤◌, ℕ}
use mathlib.Core.Path.{◌∙◌, ap, sym}
use native.Mathlib.Nat.{mul-le-mul}
use native.Mathlib.Omega.{arith}
use Rattle.allocation_input.proofs.InputLaws.{count-high, count_low, ended, not-ended}
use Rattle.allocation_input.proofs.check_proposals.Goals as goal

pub returns-then-count-lt1 : goal.returns-then-count-lt1
returns-then-count-lt1 c = count_low _ _ _ (omega (arith, c.count_behind-count.ensures))

pub returns-then-count-gt-MAX_PROPOSALS : goal.returns-then-count-gt-MAX_PROPOSALS
returns-then-count-gt-MAX_PROPOSALS c = count-high _ _ _ (omega (arith, c.count_behind-count.ensures))

-- the numbers of all proposals
product : (count n : ℕ) → count ≤ 64 → n ≤ 128 → count * n ≤ 64 * 128
product count n h k = mul-le-mul h k

pub overflow_mul-count : goal.overflow_mul-count
overflow_mul-count c = omega (arith, product c.count_behind-count.result c.args.n (omega arith) (omega arith))

pub overflow_mul-count-2 : goal.overflow_mul-count-2
overflow_mul-count-2 c = omega (arith, product c.count_behind-count.result c.args.n (omega arith) (omega arith))

pub overflow_add-end-2 : goal.overflow_add-end-2
overflow_add-end-2 c = omega (arith, product c.count_behind-count.result c.args.n (omega arith) (omega arith))

pub returns-then-input-end : goal.returns-then-input-end
returns-then-input-end c =
    let a = c.args in
    not-ended _ _ _ (omega (arith, c.count_behind-count.ensures)) (omega (arith, c.count_behind-count.ensures))
    (λ z. c.if-input-end.true (z ∙ ap (λ (k : ℕ). a.end + 4 + 4 * (k * a.n)) (sym c.count_behind-count.ensures)))

pub returns : goal.returns
returns c =
    let a = c.args in
    ended _ _ _ (omega (arith, c.count_behind-count.ensures)) (omega (arith, c.count_behind-count.ensures))
    (c.if-input-end.false ∙ ap (λ (k : ℕ). a.end + 4 + 4 * (k * a.n)) c.count_behind-count.ensures)
