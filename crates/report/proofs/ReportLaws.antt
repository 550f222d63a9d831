-- The report is its lines, and what its chunks come to; and byte (2k + v) · 2n + 2j + w of the table says k, v, j, w.
use Prim.Native.Nat.{◌%◌, ◌*◌, ◌+◌, ◌-◌, ◌/◌, ◌<◌, ◌≤◌, ℕ}
use borrow.Author.Tests.{ne_eqb}
use lib.Dec.{T}
use lib.IntN.{pos, ℤ}
use lib.ListN.{get_or, length}
use mathlib.Core.List.{List, [], append_assoc}
use mathlib.Core.Logic.{◌↔◌}
use mathlib.Core.Path.{◌∙◌, ◌≡◌, refl}
use native.Mathlib.Nat.{div-eq_of_lt, mod-eq_of_lt, mul-add-div_right, mul-add-mod_self_right}
use native.Mathlib.Omega.{arith}
use Rattle.integer.specs.Index.{all}
use Rattle.integer.specs.Order.{eq_z}
use Rattle.integer.proofs.IndexLaws.{all-test}
use Rattle.integer.proofs.Tests.{both, eq_z→eq, eq→eq_z}
use Rattle.model.specs.Box.{at}
use Rattle.model.specs.Rows.{Row, Rows, row_at, rows_of}
use Rattle.model.specs.State.{State, state_of}
use Rattle.report.specs.Report.{byte_line, implication_at, implication_line, is_zero_row, line_at, line_count, reduced_line, report, row_text, variable_at}
use Rattle.text.specs.Text.{chunk, texts, then}
use Rattle.text.proofs.TextLaws.{chunk_whole, texts-then, then-first, then-later}

pub report-lines : (rounds : ℕ) (s : State) → texts (line_count s.model.n s.model.m) (line_at rounds s) ≡ report rounds s
unfolding line_count line_at report texts
report-lines rounds s =
    let M = s.model in
    let n = M.n in
    let row_texts : ℕ → List ℕ = λ r. row_text r (row_at n M.rows r) in
    let table = implication_at n s.table in
    let rows = texts-then M.m (4 * (n * n)) row_texts table in
    let variables = texts-then n (M.m + 4 * (n * n)) (variable_at M.box) (then M.m row_texts table) in
    texts-then 1 (n + (M.m + 4 * (n * n))) (λ i. reduced_line n M.m rounds) (then n (variable_at M.box) (then M.m row_texts table))
    ∙ rw (variables, rows) (simp append_assoc)

-- ---- what line i is

module _ (rounds n m : ℕ) (B : List ℤ) (A : Rows) (t : List ℕ) (i : ℕ) where
  pub line-header : i < 1 → line_at rounds (state_of n m B A t) i ≡ reduced_line n m rounds
  unfolding line_at state_of
  line-header h = rw then-first

  pub line-variable : 1 ≤ i → i - 1 < n → line_at rounds (state_of n m B A t) i ≡ variable_at B (i - 1)
  unfolding line_at state_of
  line-variable h k = rw (then-later, then-first)

  pub line_row : 1 ≤ i → n ≤ i - 1 → i - 1 - n < m → line_at rounds (state_of n m B A t) i ≡ row_text (i - 1 - n) (row_at n A (i - 1 - n))
  unfolding line_at state_of
  line_row h k l = rw (then-later, then-later, then-first)

  pub line-implication : 1 ≤ i → n ≤ i - 1 → m ≤ i - 1 - n → line_at rounds (state_of n m B A t) i ≡ implication_at n t (i - 1 - n - m)
  unfolding line_at state_of
  line-implication h k l = rw (then-later, then-later, then-later)

  -- a byte that is not 1 has no text
  pub line-silent : 1 + (n + m) ≤ i → (get_or t (i - (1 + (n + m))) 0 ≡ 1 → ⊥) → line_at rounds (state_of n m B A t) i ≡ []
  unfolding implication_at
  line-silent h k =
      let e : i - 1 - n - m ≡ i - (1 + (n + m)) = omega arith in
      line-implication (omega arith) (omega arith) (omega arith) ∙ rw (e, ne_eqb _ 1 k)

-- no kind is printed: the rows without their kinds have the same report
pub report-kindless : (rounds n m : ℕ) (B : List ℤ) (A : Rows) (t : List ℕ)
    → report rounds (state_of n m B (rows_of A.coefs A.rhs []) t) ≡ report rounds (state_of n m B A t)
unfolding report row_text is_zero_row state_of
report-kindless rounds n m B A t = refl

-- ---- the byte of an implication, and a zero row

pub implication-byte : (n k v j w : ℕ) → v < 2 → j < n → w < 2 → byte_line n ((2 * k + v) * (2 * n) + (2 * j + w)) ≡ implication_line k v j w
unfolding byte_line
implication-byte n k v j w hv hj hw =
    let p = 2 * k + v in
    let q = 2 * j + w in
    let small : q / (2 * n) ≡ 0 = div-eq_of_lt (omega arith) in
    let hi : (p * (2 * n) + q) / (2 * n) ≡ p = mul-add-div_right (omega arith) p q ∙ omega arith in
    let lo : (p * (2 * n) + q) % (2 * n) ≡ q = mul-add-mod_self_right p (2 * n) q ∙ mod-eq_of_lt (omega arith) in
    let pk : p / 2 ≡ k = omega arith in
    let pv : p % 2 ≡ v = omega arith in
    let qj : q / 2 ≡ j = omega arith in
    let qw : q % 2 ≡ w = omega arith in
    rw (hi, lo, pk, pv, qj, qw)

-- a row is all zero where b and every coefficient are 0
pub zero_row : (r : Row) → T (is_zero_row r) ↔ ((r.rhs ≡ pos 0) × ((j : ℕ) → j < length r.coefs → at r.coefs j ≡ pos 0))
unfolding is_zero_row
zero_row r =
    let b = r.rhs in
    let A = r.coefs in
    both (eq_z b (pos 0)) (all (length A) (λ j. eq_z (at A j) (pos 0))) (eq_z→eq b (pos 0), eq→eq_z b (pos 0))
    (all-test (length A) _ (λ j. (eq_z→eq (at A j) (pos 0), eq→eq_z (at A j) (pos 0))))

-- ---- chunks

-- what the chunks of a report come to: one after the other they are one chunk (`chunk-chunk`), and from the first line to the last
-- they are the report
pub report-chunks : (rounds : ℕ) (s : State) → chunk (line_at rounds s) 0 (line_count s.model.n s.model.m) ≡ report rounds s
report-chunks rounds s = chunk_whole (line_at rounds s) (line_count s.model.n s.model.m) ∙ report-lines rounds s
