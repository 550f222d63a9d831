-- What is claimed of cliques and of their rows.
use Rattle.std.specs.Prelude.{◌*◌, ◌<◌, ◌≤◌, ℕ, T, pos, ℤ, get_or, length, not, List, [], ◌∷◌, ◌↔◌, ◌≢◌, ◌⊎◌, ◌≡◌}
use Rattle.model.specs.Box.{at}
use Rattle.model.specs.Point.{RowHolds}
use Rattle.model.specs.Rows.{row_of}
use Rattle.row.specs.Redundancy.{zero_row}
use Rattle.call_laws.specs.Points.{Recorded, TableHolds}
use Rattle.ties.specs.TiedRun.{HandedInTied, TiedCall, run_tied}
use Rattle.ties.specs.Ties.{TiedPoint, TiedState}
use Rattle.cliques.specs.Cliques.{CliqueRows, clique_rhs, clique_row, clique_rows, cliques, grow, joined, joined_to_all, member, same_set, seen, variable_of}

-- ---- for any table

-- of the clique c that is grown from p
pub record Clique (n : ℕ) (t : List ℕ) (p : ℕ) (c : List ℕ) : Type 0 where
  pub start : T (member p c)
  pub known : (q : ℕ) → T (member q c) → q < 2 * n
  -- at any two places of c, joined literals, of different variables
  pub pairs : (i j : ℕ) → i < length c → j < length c → i ≢ j → T (joined n t (get_or c i 0) (get_or c j 0))
  pub variables : (i j : ℕ) → i < length c → j < length c → i ≢ j → variable_of (get_or c i 0) ≢ variable_of (get_or c j 0)
  -- "no literal could be added to a clique"
  pub full : (q : ℕ) → q < 2 * n → T (joined_to_all n t q c) → ⊥

-- (proved as `grown-clique`)
unfoldable pub GrownCliques : Type 0
GrownCliques = (n : ℕ) (t : List ℕ) (p : ℕ) → p < 2 * n → Clique n t p (grow n t p)

-- of the list of all cliques
pub record Listing (n : ℕ) (t : List ℕ) (ds : List (List ℕ)) : Type 0 where
  -- they fit the lent list
  pub few : length ds ≤ 2 * n
  -- each is grown from some literal, and has three or more
  pub grown : (i : ℕ) → i < length ds → (p : ℕ) × (p < 2 * n) × (get_or ds i [] ≡ grow n t p) × (3 ≤ length (grow n t p))
  -- "each set once"
  pub once : (i j : ℕ) → i < j → j < length ds → T (not (same_set (get_or ds j []) (get_or ds i [])))
  -- and all of them
  pub every : (p : ℕ) → p < 2 * n → 3 ≤ length (grow n t p) → T (seen (grow n t p) ds)

-- (proved as `all-cliques`)
unfoldable pub AllCliques : Type 0
AllCliques = (n : ℕ) (t : List ℕ) → Listing n t (cliques n t)

-- two cliques are one set exactly if their rows are one row, so the code compares rows (proved as `same_rows`)
unfoldable pub SameRows : Type 0
SameRows =
    (n : ℕ) (t : List ℕ) (p q : ℕ) → p < 2 * n → q < 2 * n
    → T (same_set (grow n t p) (grow n t q)) ↔ (clique_row n (grow n t p) ≡ clique_row n (grow n t q))

-- what the lent list holds: the rows of the cliques, and zeros
pub record Written (n : ℕ) (ds : List (List ℕ)) (r : CliqueRows) : Type 0 where
  pub number : r.number ≡ length ds
  pub coefs_len : length r.coefs ≡ 2 * n * n
  pub rhs_len : length r.rhs ≡ 2 * n
  pub rows : (i : ℕ) → i < length ds → (row_of n r.coefs i ≡ clique_row n (get_or ds i [])) × (at r.rhs i ≡ clique_rhs (get_or ds i []))
  pub rest : (i : ℕ) → length ds ≤ i → i < 2 * n → (row_of n r.coefs i ≡ zero_row n) × (at r.rhs i ≡ pos 0)

-- (proved as `rows_written`)
unfoldable pub RowsWritten : Type 0
RowsWritten = (n : ℕ) (t : List ℕ) → Written n (cliques n t) (clique_rows n t)

-- ---- where the table's implications hold

-- Every recorded implication is of two variables that are 0 or 1 at x. That it holds at x is not enough for a clique row: at
-- x = (2, 2, 2) "k is 1 implies j is 0" holds for all k and j, and x0 + x1 + x2 ≤ 1 does not (`foreign-row-fails`).
unfoldable pub ZeroOrOne : List ℤ → ℕ → Type 0
ZeroOrOne x k = (at x k ≡ pos 0) ⊎ (at x k ≡ pos 1)

pub record TableBinary (n : ℕ) (t : List ℕ) (x : List ℤ) : Type 0 where
  pub binary : (k v j w : ℕ) → k < n → v < 2 → j < n → w < 2 → Recorded n t k v j w → ZeroOrOne x k × ZeroOrOne x j

-- every row of ds holds at x
unfoldable pub AllMet : ℕ → List (List ℕ) → List ℤ → Type 0
AllMet n [] x = Unit {0}
AllMet n (c ∷ ds) x = RowHolds n (clique_row n c) (clique_rhs c) x × AllMet n ds x

-- (proved as `cliques-met`)
unfoldable pub CliquesMet : Type 0
CliquesMet = (n : ℕ) (t : List ℕ) (x : List ℤ) → TableHolds n t x → TableBinary n t x → AllMet n (cliques n t) x

-- ---- what is written, told of the answer and the lent list

pub record CliquesMean (n : ℕ) (t : List ℕ) (number : ℕ) (C R : List ℤ) : Type 0 where
  -- "For a table filled by calls on this model from an empty one, every integer point meets each row written": of the model handed in,
  -- s, and any calls on it, ties among them (02, C-19: "clique rows need both too"); its integer points are those at the end of the
  -- calls too (`filled-from-empty`)
  pub met : (s : TiedState) (cs : List TiedCall) → HandedInTied s → s.state.model.n ≡ n → (run_tied s cs).state.table ≡ t
      → (x : List ℤ) → TiedPoint s x → (i : ℕ) → i < number → RowHolds n (row_of n C i) (at R i) x
  -- "Tables not filled that way get the same listing without the first assurance.": each row is that of a clique of three or more, and
  -- "no literal could be added" to it
  pub full : (i : ℕ) → i < number
      → (p : ℕ) × Clique n t p (grow n t p) × (3 ≤ length (grow n t p)) × (row_of n C i ≡ clique_row n (grow n t p)) × (at R i ≡ clique_rhs (grow n t p))

-- (proved as `cliques-mean`)
unfoldable pub AnyCliquesMean : Type 0
AnyCliquesMean = (n : ℕ) (t : List ℕ) → let r = clique_rows n t in CliquesMean n t r.number r.coefs r.rhs
