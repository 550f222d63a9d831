-- Clique rows (02, C-12; 000, 2.2.2): from a table alone, rows over literals of which at most one can be true.
use Rattle.std.specs.Prelude.{◌%◌, ◌*◌, ◌+◌, ◌-◌, ◌/◌, suc, zero, ℕ, eqb, leb, ◌-ℤ◌, negsuc, pos, ℤ, get_or, length, set, Bool, ◌&&◌, ◌||◌, cond, false, not, true, List, [], ◌++◌, ◌∷◌}
use Rattle.row.specs.Redundancy.{zero_row}
use Rattle.semantics.specs.Probe.{byte_of, literal}

-- ---- literals that are joined

-- "A literal `variable k is v` has the number 2k + v": its k, its v, and the number of "variable k is 1 − v"
unfoldable pub variable_of : ℕ → ℕ
variable_of q = q / 2

unfoldable pub value_of : ℕ → ℕ
value_of q = q % 2

unfoldable pub opposite : ℕ → ℕ
opposite q = literal (variable_of q) (1 - value_of q)

-- the table says that literal p implies literal q
unfoldable pub says : ℕ → List ℕ → ℕ → ℕ → Bool
says n t p q = eqb (get_or t (byte_of n p q) 0) 1

-- "Two literals of different variables are joined when the table says that each implies the other's opposite."
unfoldable pub joined : ℕ → List ℕ → ℕ → ℕ → Bool
joined n t p q = not (eqb (variable_of p) (variable_of q)) && (says n t p (opposite q) && says n t q (opposite p))

unfoldable pub joined_to_all : ℕ → List ℕ → ℕ → List ℕ → Bool
joined_to_all n t q [] = true
joined_to_all n t q (p ∷ c) = joined n t q p && joined_to_all n t q c

-- ---- cliques, each a list of literals, the last taken first

-- "all literals are tried upwards from 0 and taken when joined to all taken so far": from the start p, after those below i were tried
unfoldable pub grow_to : ℕ → ℕ → List ℕ → ℕ → List ℕ
grow_to zero n t p = p ∷ []
grow_to (suc i) n t p = let c = grow_to i n t p in cond (joined_to_all n t i c) (i ∷ c) c

unfoldable pub grow : ℕ → List ℕ → ℕ → List ℕ
grow n t p = grow_to (2 * n) n t p

-- "each set once": two cliques are the same set
unfoldable pub member : ℕ → List ℕ → Bool
member q [] = false
member q (p ∷ c) = eqb q p || member q c

unfoldable pub subset : List ℕ → List ℕ → Bool
subset [] d = true
subset (q ∷ c) d = member q d && subset c d

unfoldable pub same_set : List ℕ → List ℕ → Bool
same_set c d = subset c d && subset d c

unfoldable pub seen : List ℕ → List (List ℕ) → Bool
seen c [] = false
seen c (d ∷ ds) = same_set c d || seen c ds

-- "Cliques of three or more are written .., each set once": whether c is written after ds
unfoldable pub is_new : List ℕ → List (List ℕ) → Bool
is_new c ds = leb 3 (length c) && not (seen c ds)

-- "From each literal, upwards, a clique is grown", and listed "in the order grown": those of the literals below p
unfoldable pub cliques_to : ℕ → ℕ → List ℕ → List (List ℕ)
cliques_to zero n t = []
cliques_to (suc p) n t = let ds = cliques_to p n t in let c = grow n t p in cond (is_new c ds) (ds ++ (c ∷ [])) ds

unfoldable pub cliques : ℕ → List ℕ → List (List ℕ)
cliques n t = cliques_to (2 * n) n t

-- ---- rows

-- "sum of the variables meant at 1, less the sum of those meant at 0"
unfoldable pub coef_of : ℕ → ℤ
coef_of q = cond (eqb (value_of q) 0) (negsuc 0) (pos 1)

unfoldable pub clique_row : ℕ → List ℕ → List ℤ
clique_row n [] = zero_row n
clique_row n (q ∷ c) = set (clique_row n c) (variable_of q) (coef_of q)

-- "≤ 1 − the number of the latter"
unfoldable pub meant_at_zero : List ℕ → ℕ
meant_at_zero [] = 0
meant_at_zero (q ∷ c) = meant_at_zero c + cond (eqb (value_of q) 0) 1 0

unfoldable pub clique_rhs : List ℕ → ℤ
clique_rhs c = pos 1 -ℤ pos (meant_at_zero c)

-- "into a lent list of 2n rows, their number in the answer and the rest of the list zero": `left` rows of the list, for ds
unfoldable pub coefs_of : ℕ → ℕ → List (List ℕ) → List ℤ
coefs_of zero n ds = []
coefs_of (suc left) n [] = zero_row n ++ coefs_of left n []
coefs_of (suc left) n (c ∷ ds) = clique_row n c ++ coefs_of left n ds

unfoldable pub sides_of : ℕ → List (List ℕ) → List ℤ
sides_of zero ds = []
sides_of (suc left) [] = pos 0 ∷ sides_of left []
sides_of (suc left) (c ∷ ds) = clique_rhs c ∷ sides_of left ds

pub record CliqueRows : Type 0 where
  pub number : ℕ
  pub coefs : List ℤ
  pub rhs : List ℤ

-- the lent list with the rows of ds in it
unfoldable pub rows_for : ℕ → List (List ℕ) → CliqueRows
rows_for n ds = record { number = length ds; coefs = coefs_of (2 * n) n ds; rhs = sides_of (2 * n) ds }

unfoldable pub clique_rows : ℕ → List ℕ → CliqueRows
clique_rows n t = rows_for n (cliques n t)
