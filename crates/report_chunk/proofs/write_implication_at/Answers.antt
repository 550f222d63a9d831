-- `report_chunk::write_implication_at`: byte i is the literals i / 2n and i % 2n, as the definition has it.
use Prim.Native.Nat.{◌*◌, ◌<◌, suc, zero, ℕ}
use borrow.Author.Tests.{eq-eqb, ne_eqb}
use native.Mathlib.Nat.{div-le_self, mod-lt, mul-le-mul_right}
use native.Mathlib.Omega.{arith}
use Rattle.report.specs.Report.{byte_line, implication_at}
use Rattle.text.proofs.TextLaws.{wrote_none}
use Rattle.report_chunk.proofs.write_implication_at.Goals as goal

-- a table with a byte has a variable
positive : (n i : ℕ) → i < 4 * (n * n) → 0 < n
positive zero i h = omega arith
positive (suc n) i h = omega arith

pub returns-then-table-i-ne1 : goal.returns-then-table-i-ne1
unfolding implication_at
returns-then-table-i-ne1 c = rw (ne_eqb _ _ c.if-table-i-ne1.true) (wrote_none _ _ (omega arith))

pub nonzero_div-p : goal.nonzero_div-p
nonzero_div-p c = omega (arith, positive c.args.n c.args.i (omega arith))

pub overflow_cast-p : goal.overflow_cast-p
overflow_cast-p c =
    omega (arith, div-le_self c.args.i (2 * c.args.n), mul-le-mul_right c.args.n c.requires.n_le_max_variables)

pub nonzero_rem-q : goal.nonzero_rem-q
nonzero_rem-q c = omega (arith, positive c.args.n c.args.i (omega arith))

pub overflow_cast-q : goal.overflow_cast-q
overflow_cast-q c =
    let h : 0 < 2 * c.args.n = omega (arith, positive c.args.n c.args.i (omega arith)) in
    omega (arith, mod-lt c.args.i h)

pub returns : goal.returns
unfolding implication_at byte_line
returns c = rw (eq-eqb _ _ c.if-table-i-ne1.false) c.write_implication.ensures.text
