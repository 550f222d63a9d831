-- Demand 1 for the call that writes the clique rows: which check refuses it, and that a refusal writes nothing.
use Rattle.std.specs.Prelude.{◌*◌, ◌<◌, ◌≤◌, ℕ, ℤ, get_or, length, List, ◌↔◌, ◌≡◌}
use Rattle.model.specs.Limits.{max_variables}
use Rattle.model.specs.Places.{place}
use Rattle.cliques.specs.CliqueCall.{perform_cliques, refused, written}
use Rattle.cliques.specs.Cliques.{clique_rows}

-- what check N says of n, the table t and the lent list C and R
pub record CliquePasses (N n : ℕ) (t : List ℕ) (C R : List ℤ) : Type 0 where
  pub check3 : N ≡ 3 → (1 ≤ n) × (n ≤ max_variables)
  pub check5 : N ≡ 5 → (length t ≡ 4 * (n * n)) × (length C ≡ 2 * n * n) × (length R ≡ 2 * n)
  pub check10 : N ≡ 10 → (i : ℕ) → i < length t → get_or t i 0 < 2

pub record CliqueRefusals (n : ℕ) (t : List ℕ) (C R : List ℤ) : Type 0 where
  -- refused by N: check N fails, and every one with an earlier place passes; and no lent number changes
  pub first : (N : ℕ) → ((perform_cliques n t C R).answer ≡ refused N)
      ↔ ((CliquePasses N n t C R → ⊥) × ((M : ℕ) → place M < place N → CliquePasses M n t C R))
  pub kept : (N : ℕ) → (perform_cliques n t C R).answer ≡ refused N → ((perform_cliques n t C R).coefs ≡ C) × ((perform_cliques n t C R).rhs ≡ R)
  -- accepted: every check passes
  pub accepted : ((N : ℕ) → CliquePasses N n t C R) → (perform_cliques n t C R).answer ≡ written (clique_rows n t).number

-- (proved as `demand-1-cliques`)
unfoldable pub Demand1Cliques : Type 0
Demand1Cliques = (n : ℕ) (t : List ℕ) (C R : List ℤ) → CliqueRefusals n t C R
