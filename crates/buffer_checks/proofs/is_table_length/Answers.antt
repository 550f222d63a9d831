-- `buffer_checks::is_table_length`: a length is 4 · n² exactly if 4 divides it and the quotient is n². Assumes nothing.
use Prim.Native.Nat.{◌%◌, ◌*◌, ◌/◌, ℕ}
use borrow.Author.Tests.{ne_eqb}
use lib.Dec.{eqb}
use mathlib.Core.Path.{◌∙◌, ◌≡◌, sym}
use native.Mathlib.Omega.{arith}
use Rattle.integer.proofs.Tests.{bool-ext, eqb-test}
use Rattle.buffer_checks.proofs.is_table_length.Goals as goal

pub returns-then-len-ne0 : goal.returns-then-len-ne0
returns-then-len-ne0 c = let a = c.args in sym (ne_eqb a.len (4 * (a.n * a.n)) (λ h. omega arith))

quarter : (len k : ℕ) → len % 4 ≡ 0 → eqb (len / 4) k ≡ eqb len (4 * k)
quarter len k e =
    bool-ext (eqb (len / 4) k) (eqb len (4 * k))
    (λ t. (eqb-test len (4 * k)).1 (let q = (eqb-test (len / 4) k).0 t in omega arith))
    (λ t. (eqb-test (len / 4) k).1 (let q = (eqb-test len (4 * k)).0 t in omega arith))

pub returns : goal.returns
returns c =
    let a = c.args in
    c.is_product.ensures ∙ quarter a.len (a.n * a.n) c.if-len-ne0.false
