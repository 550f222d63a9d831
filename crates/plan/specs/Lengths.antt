-- "From a trailer: the length of each buffer that n and m fix." (02, C-17)
use Rattle.std.specs.Prelude.{◌*◌, ℕ}
use Rattle.book.specs.Book.{book_length}
use Rattle.plan.specs.declared.BufferLengths as code

-- n, m, and the lengths in elements
pub record Lengths : Type 0 where
  pub n : ℕ
  pub m : ℕ
  pub bounds : ℕ
  pub coefs : ℕ
  pub rhs : ℕ
  pub kinds : ℕ
  pub table : ℕ
  pub ties : ℕ
  pub clique_coefs : ℕ
  pub clique_rhs : ℕ
  pub book : ℕ

-- those of the model's buffers and of the table are what check 5 asks for (`lengths-fit`)
unfoldable pub lengths_for : ℕ → ℕ → Lengths
lengths_for n m =
    record {
      n = n;
      m = m;
      -- l and u of each variable
      bounds = 2 * n;
      -- "then for each row b and n coefficients" (01)
      coefs = m * n;
      rhs = m;
      -- "Each row gets a kind byte" (02, C-14)
      kinds = m;
      -- "The implication table has 4n² bytes" (01)
      table = 4 * (n * n);
      -- "The list has a place of 16 bits for each variable" (02, C-19)
      ties = n;
      -- "a lent list of 2n rows" (02, C-12), each of n coefficients and a right side
      clique_coefs = 2 * n * n;
      clique_rhs = 2 * n;
      -- a first-edition book, in bytes
      book = book_length n m;
    }

-- what the code's struct stands for
unfoldable pub lengths_of : code.BufferLengths → Lengths
lengths_of l =
    record {
      n = l.n;
      m = l.m;
      bounds = l.bounds;
      coefs = l.coefs;
      rhs = l.rhs;
      kinds = l.kinds;
      table = l.table;
      ties = l.ties;
      clique_coefs = l.clique_coefs;
      clique_rhs = l.clique_rhs;
      book = l.book;
    }
