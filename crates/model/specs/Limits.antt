-- The limits of a model (01, "The model"; the width: 02, C-22).
use Rattle.std.specs.Prelude.{ℕ, ℤ, neg_ℤ, pos}

-- n is 1 to 128, m is 0 to 120
abbrev pub max_variables : ℕ
max_variables = 128

abbrev pub max_rows : ℕ
max_rows = 120

-- so a box has at most 2n = 256 numbers, a matrix at most m · n coefficients, and a table a byte for each two of at most 2n literals
abbrev pub max_box : ℕ
max_box = 256

abbrev pub max_matrix : ℕ
max_matrix = 15_360

abbrev pub max_literals : ℕ
max_literals = 256

abbrev pub max_table : ℕ
max_table = 65_536

-- bounds lie between −32,768 and 32,767
abbrev pub min_bound : ℤ
min_bound = neg_ℤ (pos 32_768)

abbrev pub max_bound : ℤ
max_bound = pos 32_767

-- "A variable whose u − l is over 4,096 is refused" (02, C-22)
abbrev pub max_width : ℤ
max_width = pos 4_096

-- coefficients between −1,000,000 and 1,000,000
abbrev pub min_coef : ℤ
min_coef = neg_ℤ (pos 1_000_000)

abbrev pub max_coef : ℤ
max_coef = pos 1_000_000

-- right sides between −1,000,000,000 and 1,000,000,000
abbrev pub min_rhs : ℤ
min_rhs = neg_ℤ (pos 1_000_000_000)

abbrev pub max_rhs : ℤ
max_rhs = pos 1_000_000_000

-- the largest magnitude of a bound, of a coefficient and of a right side
abbrev pub bound_size : ℕ
bound_size = 32_768

-- so many bounds there are
abbrev pub bound_count : ℕ
bound_count = 65_536

abbrev pub coef_size : ℕ
coef_size = 1_000_000

abbrev pub rhs_size : ℕ
rhs_size = 1_000_000_000
