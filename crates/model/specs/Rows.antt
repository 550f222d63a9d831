-- The rows of a model as one thing, and one row of them (02, C-14: "Each row gets a kind byte, lent with the right sides: 0 for ≤, 1
-- for =.").
use Rattle.std.specs.Prelude.{◌*◌, ◌+◌, ℕ, eqb, neg_ℤ, ℤ, drop, get_or, length, set, take, Bool, List, [], ◌++◌, ◌∷◌}
use Rattle.model.specs.Box.{at}

-- one row (01: "sum of coefficient × variable ≤ right side b"; 02: or = b, by its kind)
pub record Row : Type 0 where
  pub coefs : List ℤ
  pub rhs : ℤ
  pub kind : ℕ

-- all rows: the matrix, whose rows stand one after the other, the right sides and the kind bytes
pub record Rows : Type 0 where
  pub coefs : List ℤ
  pub rhs : List ℤ
  pub kinds : List ℕ

abbrev pub rows_of : List ℤ → List ℤ → List ℕ → Rows
rows_of C R K = record { coefs = C; rhs = R; kinds = K }

-- the coefficients of row i of the matrix C of n columns
unfoldable pub row_of : ℕ → List ℤ → ℕ → List ℤ
row_of n C i = take n (drop (i * n) C)

-- row i: the one definition that opens it
abbrev pub row_at : ℕ → Rows → ℕ → Row
row_at n A i = record { coefs = row_of n A.coefs i; rhs = at A.rhs i; kind = get_or A.kinds i 0 }

-- a row of its numbers
abbrev pub row_with : List ℤ → ℤ → ℕ → Row
row_with A b kind = record { coefs = A; rhs = b; kind = kind }

-- an = row
unfoldable pub is_equality : Row → Bool
is_equality r = eqb r.kind 1

-- −a of each coefficient a
unfoldable pub negated_coefs : List ℤ → List ℤ
negated_coefs [] = []
negated_coefs (a ∷ A) = neg_ℤ a ∷ negated_coefs A

-- "its negated form": the ≤ row (−a, −b). An = row holds where its ≤ form and its negated form do (`meets-forms`).
unfoldable pub negated : Row → Row
negated r = record { coefs = negated_coefs r.coefs; rhs = neg_ℤ r.rhs; kind = 0 }

-- the numbers A in place of those of C from p on
unfoldable pub splice : List ℤ → List ℤ → ℕ → List ℤ
splice C A p = take p C ++ (A ++ drop (p + length A) C)

-- the rows A with r for row i
unfoldable pub set_row : ℕ → Rows → ℕ → Row → Rows
set_row n A i r =
    record { coefs = splice A.coefs r.coefs (i * n); rhs = set A.rhs i r.rhs; kinds = set A.kinds i r.kind }
