-- `report_chunk::line_count`: the count fits, since n · n ≤ 128 n.
use mathlib.Core.Path.{refl}
use native.Mathlib.Nat.{mul-le-mul_right}
use native.Mathlib.Omega.{arith}
use Rattle.report.specs.Report.{line_count}
use Rattle.report_chunk.proofs.line_count.Goals as goal

pub overflow_mul-result : goal.overflow_mul-result
overflow_mul-result c = omega (arith, mul-le-mul_right c.args.n c.requires.n_le_max_variables)

pub overflow_mul-result-2 : goal.overflow_mul-result-2
overflow_mul-result-2 c = omega (arith, mul-le-mul_right c.args.n c.requires.n_le_max_variables)

pub overflow_add-result : goal.overflow_add-result
overflow_add-result c = omega (arith, mul-le-mul_right c.args.n c.requires.n_le_max_variables)

pub overflow_add-result-2 : goal.overflow_add-result-2
overflow_add-result-2 c = omega (arith, mul-le-mul_right c.args.n c.requires.n_le_max_variables)

pub overflow_add-result-3 : goal.overflow_add-result-3
overflow_add-result-3 c = omega (arith, mul-le-mul_right c.args.n c.requires.n_le_max_variables)

pub returns : goal.returns
unfolding line_count
returns c = refl
