-- The candidates of a clique while it grows, a flag for each literal.
use Rattle.std.specs.Prelude.{◌*◌, ◌<◌, ◌≤◌, suc, zero, ℕ, eqb, get_or, length, replicate, set, Bool, cond, List, ◌≡◌}
use Rattle.model.specs.Limits.{max_literals, max_variables}
use Rattle.cliques.specs.Cliques.{joined, joined_to_all}

-- a table that passed 3 and 5
pub record LentTable (n : ℕ) (t : List ℕ) : Type 0 where
  pub most : n ≤ max_variables
  pub len : length t ≡ 4 * (n * n)

-- before the first literal is taken all are candidates
unfoldable pub all_ones : List ℕ
all_ones = replicate max_literals 1

-- a flag stays 1 where the literal is joined to the one that is taken
unfoldable pub still : ℕ → Bool → ℕ
still flag b = cond (eqb flag 0) 0 (cond b 1 0)

-- literal q is taken: the flags below i are done
unfoldable pub kept_to : ℕ → ℕ → List ℕ → ℕ → List ℕ → List ℕ
kept_to zero n t q F = F
kept_to (suc i) n t q F = let G = kept_to i n t q F in set G i (still (get_or G i 0) (joined n t i q))

-- flag q is 1 just where q is joined to all of c
pub record Candidates (n : ℕ) (t c F : List ℕ) : Type 0 where
  pub len : length F ≡ max_literals
  pub flags : (q : ℕ) → q < 2 * n → get_or F q 0 ≡ cond (joined_to_all n t q c) 1 0
