-- `clique_call::listing::add_clique`: the clique stands in the row after the last; it is kept where it is new, else the row is 0 again.
-- Assumes nothing.
use Prim.Native.Nat.{◌*◌, ◌+◌, ◌<◌, ◌≤◌, ℕ}
use lib.IntN.{ℤ}
use lib.ListN.{length}
use mathlib.Core.List.{List}
use mathlib.Core.Path.{◌∙◌, ◌≡◌, sym}
use native.Mathlib.Omega.{arith}
use Rattle.model.specs.Rows.{splice}
use Rattle.cliques.specs.Cliques.{clique_row, cliques_to, grow}
use Rattle.clique_call.proofs.ListLaws.{clique-cleared, clique-kept, grown-list-length, list-lengths, next-row-zero, row_lies, side-fits, side-is, test-is}
use Rattle.cliques.specs.Cliques.{rows_for}
use Rattle.clique_call.specs.CliqueAnswers.{list_of}
use Rattle.clique_call.proofs.listing.add_clique.Goals as goal

-- the list as it is lent, with a place for one more row
module _ (n p number : ℕ) (t : List ℕ) (C R : List ℤ) (below : p < 2 * n) (listed : list_of number C R ≡ rows_for n (cliques_to p n t)) where
  -- with the clique's row in it
  abbrev C' : List ℤ
  C' = splice C (clique_row n (grow n t p)) (number * n)

  lengths : (length C ≡ 2 * n * n) × (length R ≡ 2 * n) × (number < 2 * n)
  lengths = list-lengths n t p below listed

  lies : number * n + n ≤ length C'
  lies = row_lies n (2 * n) C' number (grown-list-length n t p below listed) lengths.2

pub grow_at-clique-requires : goal.grow_at-clique-requires
grow_at-clique-requires c =
    let a = c.args in
    let q = c.requires in
    let l = lengths a.n a.p a.number a.table.now a.coefs.now a.rhs.now q.lent_table.1 q.rhs_value in
    record {
      lent_table = q.lent_table;
      n_in_bounds =
          (row_lies a.n (2 * a.n) a.coefs.now a.number l.0 l.2, next-row-zero a.n a.table.now a.p q.lent_table.1 q.rhs_value);
    }

pub is_kept-requires : goal.is_kept-requires
is_kept-requires c =
    let a = c.args in
    let q = c.requires in
    rw c.grow_at-clique.ensures.row (lies a.n a.p a.number a.table.now a.coefs.now a.rhs.now q.lent_table.1 q.rhs_value)

pub overflow_sub-rhs : goal.overflow_sub-rhs
overflow_sub-rhs c = side-fits c.grow_at-clique.ensures.zeros.1

pub offset_bounds-rhs-number : goal.offset_bounds-rhs-number
offset_bounds-rhs-number c =
    let a = c.args in
    let q = c.requires in
    let l = lengths a.n a.p a.number a.table.now a.coefs.now a.rhs.now q.lent_table.1 q.rhs_value in
    omega (arith, q.lent_table.0.most, l.2)

pub bounds-rhs-number : goal.bounds-rhs-number
bounds-rhs-number c =
    let a = c.args in
    let q = c.requires in
    let l = lengths a.n a.p a.number a.table.now a.coefs.now a.rhs.now q.lent_table.1 q.rhs_value in
    omega (arith, l.1, l.2)

pub overflow_add-result : goal.overflow_add-result
overflow_add-result c =
    let a = c.args in
    let q = c.requires in
    let l = lengths a.n a.p a.number a.table.now a.coefs.now a.rhs.now q.lent_table.1 q.rhs_value in
    omega (arith, q.lent_table.0.most, l.2)

pub returns-then-is_kept : goal.returns-then-is_kept
returns-then-is_kept c =
    let a = c.args in
    let q = c.requires in
    let t = a.table.now in
    let told = c.grow_at-clique.ensures in
    let new_is = (rw (told.row, told.size.0) at c.is_kept.ensures) ∙ test-is a.n t a.p q.lent_table.1 q.rhs_value in
    rw told.row
    (clique-kept a.n t a.p q.lent_table.1 q.rhs_value (sym new_is ∙ c.if-is_kept.true) (side-is (grow a.n t a.p) told.zeros.1 told.zeros.0))

pub zero_at-requires : goal.zero_at-requires
zero_at-requires c =
    let a = c.args in
    let q = c.requires in
    rw c.grow_at-clique.ensures.row (lies a.n a.p a.number a.table.now a.coefs.now a.rhs.now q.lent_table.1 q.rhs_value)

pub returns : goal.returns
returns c =
    let a = c.args in
    let q = c.requires in
    let t = a.table.now in
    let grown = c.grow_at-clique.ensures in
    let new_is = (rw (grown.row, grown.size.0) at c.is_kept.ensures) ∙ test-is a.n t a.p q.lent_table.1 q.rhs_value in
    let told = rw grown.row at c.zero_at.ensures in
    rw told (clique-cleared a.n t a.p q.lent_table.1 q.rhs_value (sym new_is ∙ c.if-is_kept.false))
