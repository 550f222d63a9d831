-- `rest::test_rest`: its tests are the definition's, in the same order. Assumes nothing.
use mathlib.Core.Bool.{false}
use mathlib.Core.Path.{◌∙◌, ◌≡◌, sym}
use native.Mathlib.Omega.{arith}
use borrow.Author.Rules.{rules}
use Rattle.integer.proofs.Tests.{false→T}
use Rattle.model.specs.Box.{is_empty}
use Rattle.model.specs.Rows.{Rows, rows_of}
use Rattle.row.proofs.ImpliedBoxLaws.{valid-non_empty}
use Rattle.rest.specs.Results.{rest_answer_of}
use Rattle.probe_side.proofs.MarkedLaws.{marked-none}
use Rattle.rest.proofs.RestLaws.{rest-by-row, rest-by-variable, rest-empty, rest-found-none}
use Rattle.rest.proofs.test_rest.Statement.{statement}
use Rattle.rest.proofs.test_rest.Tie as tie

abbrev rows : tie.Start → Rows
rows s = let a = s.args in rows_of a.coefs.now a.rhs.now a.kinds.now

-- the test of the empty box
module _ (c : tie.After-is_empty) where
  abbrev s : tie.Start
  s = c.before.before

  empty-is : c.is_empty.result ≡ is_empty s.args.n s.args.bounds.now
  empty-is = c.is_empty.ensures _ s.requires.some s.requires.box

some : (c : tie.Else-is_empty) → is_empty (s c.before).args.n (s c.before).args.bounds.now ≡ false
some c = sym (empty-is c.before) ∙ c.if-is_empty.false

is-empty-requires : tie.Need-is_empty-requires
is-empty-requires c κs = search rules

returns : tie.Need-returns-then-is_empty
unfolding rest_answer_of
returns c =
    let a = (s c.before).args in
    rest-empty a.n a.m (rows (s c.before)) a.bounds.now (sym (empty-is c.before) ∙ c.if-is_empty.true)

slice-aggregate-first-moving : tie.Need-slice_bounds-first_moving-end
slice-aggregate-first-moving c = search rules

first-moving-requires : tie.Need-first_moving-r-requires
first-moving-requires c κs =
    let p = (s c.before.before).requires in
    let k = marked-none p in
    (p, (valid-non_empty p.box (false→T _ (some c.before)), k.clean, omega (arith, p.few_rows, k.len)))

cast-t14 : tie.Need-overflow_cast-result
cast-t14 c = search rules

returns-2 : tie.Need-returns-then-r-m
unfolding rest_answer_of
returns-2 c =
    let o = c.before.before.before in
    let a = (s o.before).args in
    rest-by-row a.n a.m (rows (s o.before)) a.bounds.now (some o) c.first_moving-r.ensures c.if-r-m.true

first-unspanned-requires : tie.Need-first_unspanned-k-requires
first-unspanned-requires c κs =
    let o = c.before.before.before in
    let p = (s o.before).requires in
    let e = c.first_moving-r.ensures in
    (p, (valid-non_empty p.box (false→T _ (some o)), omega (arith, c.if-r-m.false)))

cast-t15 : tie.Need-overflow_cast-result-then-k-n
cast-t15 c = search rules

returns-3 : tie.Need-returns-then-k-n
unfolding rest_answer_of
returns-3 c =
    let o = c.before.before.before.before.before in
    let a = (s o.before).args in
    rest-by-variable a.n a.m (rows (s o.before)) a.bounds.now (some o) c.first_moving-r.ensures c.if-r-m.false
    c.first_unspanned-k.ensures c.if-k-n.true

returns-4 : tie.Need-returns
unfolding rest_answer_of
returns-4 c =
    let o = c.before.before.before.before.before in
    let a = (s o.before).args in
    rest-found-none a.n a.m (rows (s o.before)) a.bounds.now (some o) c.first_moving-r.ensures c.if-r-m.false
    c.first_unspanned-k.ensures c.if-k-n.false

pub test_rest_spec : {M : Type 1} → statement M
test_rest_spec =
    tie.close
    (tie.spec
    is-empty-requires
    returns
    slice-aggregate-first-moving
    first-moving-requires
    cast-t14
    returns-2
    first-unspanned-requires
    cast-t15
    returns-3
    returns-4)
