-- `tie_call::says`: the two bytes lie in the table, and are read as they stand. Assumes nothing.
use Prim.Native.Nat.{◌*◌, ◌+◌, ◌-◌, ◌<◌, ℕ}
use lib.ListN.{length}
use mathlib.Core.Path.{◌≡◌, refl}
use native.Mathlib.Omega.{arith}
use Rattle.semantics.specs.Probe.{byte_of, literal}
use Rattle.call_laws.proofs.ImplicationLaws.{byte-lt}
use Rattle.ties.specs.TieCall.{says, says_byte}
use Prim.Native.Nat.{◌≤◌}
use mathlib.Core.List.{List}
use Rattle.model.specs.Limits.{max_variables}
use Rattle.model.specs.Valid.{ValidTable}
use Rattle.tie_call.proofs.says.Goals as goal

module _ {n k j w : ℕ} {t : List ℕ} (v : ValidTable n t × (n ≤ max_variables)) (b : (k < n) × (j < n) × (w < 2)) where
  no_more : 2 * k + 0 ≡ 2 * k
  no_more = omega arith

  low : 2 * k * (2 * n) + (2 * j + w) < length t
  unfolding byte_of literal
  low = rw (v.0.len, ← no_more) (byte-lt n k 0 j w b.0 (omega arith) b.1 b.2)

  high : (2 * k + 1) * (2 * n) + (2 * j + (1 - w)) < length t
  unfolding byte_of literal
  high = rw v.0.len (byte-lt n k 1 j (1 - w) b.0 (omega arith) b.1 (omega arith))

pub overflow_mul-at0-3 : goal.overflow_mul-at0-3
overflow_mul-at0-3 c = omega (arith, low c.requires.valid_table c.requires.k_lt_n)

pub overflow_add-at0-2 : goal.overflow_add-at0-2
overflow_add-at0-2 c = omega (arith, low c.requires.valid_table c.requires.k_lt_n)

pub overflow_mul-at1-3 : goal.overflow_mul-at1-3
overflow_mul-at1-3 c = omega (arith, high c.requires.valid_table c.requires.k_lt_n)

pub overflow_add-at1-3 : goal.overflow_add-at1-3
overflow_add-at1-3 c = omega (arith, high c.requires.valid_table c.requires.k_lt_n)

pub bounds-table-at0 : goal.bounds-table-at0
bounds-table-at0 c = low c.requires.valid_table c.requires.k_lt_n

pub bounds-table-at1 : goal.bounds-table-at1
bounds-table-at1 c = high c.requires.valid_table c.requires.k_lt_n

pub returns : goal.returns
unfolding says says_byte byte_of literal
returns c = rw (no_more c.requires.valid_table c.requires.k_lt_n) refl
