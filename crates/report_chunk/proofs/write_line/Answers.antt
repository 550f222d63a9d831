-- `report_chunk::write_line`: the tests find the part of the report that line i is in (`line-header` to `line-implication`).
--
use Prim.Native.Nat.{◌+◌, ◌-◌, ◌<◌, ◌≤◌}
use borrow.Author.Rules.{rules}
use mir.Facts.{to_z-of_z}
use mir.Syntax.{w32}
use mir.Val.{SFits}
use native.Mathlib.Nat.{mul-le-mul_right}
use native.Mathlib.Omega.{arith}
use Rattle.model.specs.Box.{lower, upper}
use Rattle.model.specs.State.{state_of}
use Rattle.report.specs.Report.{line_count, variable_at}
use Rattle.report.proofs.ReportLaws.{line-header, line-implication, line_row, line-variable}
use Rattle.report_chunk.proofs.write_line.Goals as goal

pub returns-then-i-eq0 : goal.returns-then-i-eq0
returns-then-i-eq0 c =
    let h : c.args.i < 1 = omega arith in
    rw line-header c.write_reduced.ensures.text

pub returns-then-j-n : goal.returns-then-j-n
unfolding variable_at
returns-then-j-n c =
    let a = c.args in
    let h : 1 ≤ a.i = omega arith in
    let k : a.i - 1 < a.n = omega arith in
    let fl : SFits w32 (lower a.bounds.now (a.i - 1)) = search rules in
    let fu : SFits w32 (upper a.bounds.now (a.i - 1)) = search rules in
    rw line-variable (simp to_z-of_z at c.write_variable.ensures.text)

pub write_row_at-requires : goal.write_row_at-requires
unfolding state_of
write_row_at-requires c =
    let a = c.args in
    omega (arith, mul-le-mul_right {m = a.i - 1 - a.n + 1} {n = a.m} a.n (omega arith))

pub returns-then-r-m : goal.returns-then-r-m
returns-then-r-m c =
    let a = c.args in
    let h : 1 ≤ a.i = omega arith in
    let k : a.n ≤ a.i - 1 = omega arith in
    let l : a.i - 1 - a.n < a.m = omega arith in
    rw line_row c.write_row_at.ensures

pub write_implication_at-requires : goal.write_implication_at-requires
unfolding line_count state_of
write_implication_at-requires c = record { n_le_max_variables = c.requires.fact.few; table_len = c.requires.fact.table; i_in_bounds = omega (arith, c.requires.fact.table); max_short_line_in_bounds = omega arith }

pub returns : goal.returns
returns c =
    let a = c.args in
    let h : 1 ≤ a.i = omega arith in
    let k : a.n ≤ a.i - 1 = omega arith in
    let l : a.m ≤ a.i - 1 - a.n = omega arith in
    rw line-implication c.write_implication_at.ensures
