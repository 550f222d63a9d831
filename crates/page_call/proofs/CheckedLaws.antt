-- What the checks of the two calls say, and what follows where none fails. By the laws of checks in turn.
use Prim.Native.Nat.{◌*◌, ◌<◌, ◌≤◌, ℕ}
use lib.Dec.{T}
use lib.IntN.{ℤ}
use lib.ListN.{length}
use mathlib.Core.List.{List}
use mathlib.Core.Path.{◌≡◌}
use Rattle.integer.proofs.Parts.{zarith}
use Rattle.integer.proofs.Tests.{eqb-test}
use Rattle.model.specs.Checks.{box_checks, first, size_checks, table, table_byte_checks, table_length_checks}
use Rattle.model.specs.Limits.{max_bound, max_variables, min_bound}
use Rattle.model.specs.Places.{place}
use Rattle.model.proofs.PlaceLaws.{placed_from}
use Rattle.model.proofs.CheckLaws.{first-zero-append, first-none, in_range-all, size-test}
use Rattle.pages.specs.Page.{Paper, page_count}
use Rattle.pages.specs.PageChecks.{count_checks, lent_checks, page_checks}

-- they stand in the order of the places, as those of a model do
pub count-placed : (n : ℕ) (t : List ℕ) → T (placed_from 0 (count_checks n t))
unfolding count_checks lent_checks size_checks table_length_checks table_byte_checks place
count-placed n t = tt

pub pages-placed : (n : ℕ) (B : List ℤ) (t : List ℕ) (room : ℕ) → T (placed_from 0 (page_checks n B t room))
unfolding page_checks lent_checks size_checks table_length_checks table_byte_checks box_checks place
pages-placed n B t room = tt

-- n and a table of its length
pub record Lent (n : ℕ) (t : List ℕ) : Type 0 where
  pub some : 0 < n
  pub few : n ≤ max_variables
  pub table : length t ≡ 4 * (n * n)

pub lent-passed : (n : ℕ) (t : List ℕ) → first (lent_checks n t) ≡ 0 → Lent n t
unfolding lent_checks size_checks table_length_checks
lent-passed n t e =
    let h = (first-none (lent_checks n t) tt).0 e in
    let s = (size-test n 0).0 h.0 in
    record { some = s.0; few = s.1; table = (eqb-test (length t) (4 * (n * n))).0 h.1.0 }

pub count-passed : (n : ℕ) (t : List ℕ) → first (count_checks n t) ≡ 0 → Lent n t
unfolding count_checks lent_checks size_checks table_length_checks
count-passed n t e = lent-passed n t ((first-zero-append (lent_checks n t) (table_byte_checks (table t)) tt).0 e).0

-- what the pages are made of, and room for them
pub record Ready (n : ℕ) (B : List ℤ) (t : List ℕ) (bytes : ℕ) : Type 0 where
  pub paper : Paper n B
  pub table : length t ≡ 4 * (n * n)
  pub room : bytes ≡ page_count n t * 4_860

pub pages-passed : (n : ℕ) (B : List ℤ) (t : List ℕ) (bytes : ℕ) → first (page_checks n B t bytes) ≡ 0 → Ready n B t bytes
unfolding page_checks lent_checks size_checks table_length_checks box_checks table_byte_checks
pages-passed n B t bytes e =
    let h = (first-none (page_checks n B t bytes) tt).0 e in
    let s = (size-test n 0).0 h.0 in
    record {
      paper =
          record {
            few = s.1;
            len = (eqb-test (length B) (2 * n)).0 h.1.1.0;
            range = (in_range-all min_bound max_bound B (omega zarith) (omega zarith)).0 h.1.1.1.1.0;
          };
      table = (eqb-test (length t) (4 * (n * n))).0 h.1.0;
      room = (eqb-test bytes (page_count n t * 4_860)).0 h.1.1.1.0;
    }

pub size-passed : (n : ℕ) → first (size_checks n 0) ≡ 0 → n ≤ 128
unfolding size_checks
size-passed n e = ((size-test n 0).0 ((first-none (size_checks n 0) tt).0 e).0).1
