-- `clique_grow::is_joined`: the two bytes lie in the table, and are read as they stand. Assumes nothing.
use Prim.Native.Nat.{◌*◌, ◌+◌, ◌<◌}
use lib.ListN.{length}
use mathlib.Core.Path.{sym}
use native.Mathlib.Omega.{arith}
use Rattle.semantics.specs.Probe.{byte_of}
use Rattle.cliques.specs.Cliques.{opposite, says, variable_of}
use Rattle.clique_grow.proofs.CandidateLaws.{byte-lies, joined_bytes, joined-none, opposite-lt}
use Prim.Native.Nat.{ℕ}
use mathlib.Core.List.{List}
use Rattle.clique_grow.specs.Candidates.{LentTable}
use Rattle.clique_grow.proofs.is_joined.Goals as goal

module _ {n : ℕ} {t : List ℕ} (v : LentTable n t) {p q : ℕ} (h : p < 2 * n) (k : q < 2 * n) where
  lies : p * (2 * n) + opposite q < length t
  lies = byte-lies v p (opposite q) h (opposite-lt n q k)

pub returns-then-p-q : goal.returns-then-p-q
unfolding variable_of
returns-then-p-q c = sym (joined-none _ _ _ _ c.if-p-q.true)

pub overflow_mul-there-2 : goal.overflow_mul-there-2
overflow_mul-there-2 c = let q = c.requires in omega (arith, lies q.lent_table q.p_bound.0 q.p_bound.1)

pub overflow_add-there : goal.overflow_add-there
overflow_add-there c = let q = c.requires in rw c.opposite.ensures (omega (arith, lies q.lent_table q.p_bound.0 q.p_bound.1))

pub overflow_mul-back-2 : goal.overflow_mul-back-2
overflow_mul-back-2 c = let q = c.requires in omega (arith, lies q.lent_table q.p_bound.1 q.p_bound.0)

pub overflow_add-back : goal.overflow_add-back
overflow_add-back c = let q = c.requires in rw c.opposite-2.ensures (omega (arith, lies q.lent_table q.p_bound.1 q.p_bound.0))

pub bounds-table-there : goal.bounds-table-there
bounds-table-there c = let q = c.requires in rw c.opposite.ensures (lies q.lent_table q.p_bound.0 q.p_bound.1)

pub bounds-table-back : goal.bounds-table-back
bounds-table-back c = let q = c.requires in rw c.opposite-2.ensures (lies q.lent_table q.p_bound.1 q.p_bound.0)

pub returns : goal.returns
unfolding says byte_of variable_of
returns c =
    let a = c.args in
    rw (c.opposite.ensures, c.opposite-2.ensures) (sym (joined_bytes a.n a.table.now a.p a.q c.if-p-q.false))
