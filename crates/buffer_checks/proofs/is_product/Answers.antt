-- `buffer_checks::is_product`: len is a · b exactly if b divides it and the quotient is a; where b is 0 so is a · b.
-- Assumes nothing.
use Prim.Native.Nat.{◌%◌, ◌*◌, ◌/◌, ℕ}
use borrow.Author.Tests.{ne_eqb}
use lib.Dec.{eqb}
use mathlib.Core.Path.{◌∙◌, ◌≡◌, ap, sym}
use native.Mathlib.Nat.{div-add-mod', mul-div_left, mul-mod_left}
use native.Mathlib.Omega.{arith}
use Rattle.integer.proofs.Tests.{bool-ext, eqb-test}
use Rattle.buffer_checks.proofs.is_product.Goals as goal

pub returns-then-b-eq0 : goal.returns-then-b-eq0
returns-then-b-eq0 c =
    let len = c.args.len in
    let a = c.args.a in
    ap (eqb len) (rw c.if-b-eq0.true (omega arith))

pub returns-then-len-b-ne0 : goal.returns-then-len-b-ne0
returns-then-len-b-ne0 c =
    let a = c.args.a in
    let b = c.args.b in
    sym (ne_eqb _ (a * b) (λ e. c.if-len-b-ne0.true (ap (λ (x : ℕ). x % b) e ∙ mul-mod_left a b)))

pub returns : goal.returns
returns c =
    let len = c.args.len in
    let a = c.args.a in
    let b = c.args.b in
    let split = div-add-mod' len b in
    bool-ext (eqb (len / b) a) (eqb len (a * b))
    (λ t. (eqb-test len (a * b)).1 (let e : len / b * b ≡ a * b = ap (λ (x : ℕ). x * b) ((eqb-test (len / b) a).0 t) in omega arith))
    (λ t. (eqb-test (len / b) a).1 (ap (λ (x : ℕ). x / b) ((eqb-test len (a * b)).0 t) ∙ mul-div_left a (omega arith)))
