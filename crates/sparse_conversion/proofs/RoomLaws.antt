-- The local buffers of a conversion, all 0: a front of as many numbers as a model needs.
use Prim.Native.Nat.{◌*◌, ◌<◌, ◌≤◌, ℕ}
use lib.IntN.{pos, ℤ}
use lib.ListN.{get_or-replicate, length, length-replicate, replicate, take}
use lib.Seq.{ext_get_or, get_or-take, length-take-le}
use mathlib.Core.List.{List}
use mathlib.Core.Path.{◌∙◌, ◌≡◌, sym}
use native.Mathlib.Nat.{mul-le-mul}
use native.Mathlib.Omega.{arith}
use Rattle.model.specs.Checks.{first}
use Rattle.book.specs.Book.{kinds_of, rows, trailer_of, variables}
use Rattle.book.specs.BookChecks.{head_checks}
use Rattle.book.proofs.AcceptLaws.{head-test}
use Rattle.sparse_layout.specs.SparseChecks.{sparse_layout_checks}
use Rattle.sparse_layout.proofs.SparseAcceptLaws.{sparse-layout-test}

abbrev pub bounds-zeros : List ℤ
bounds-zeros = replicate 256 (pos 0)

abbrev pub coefs-zeros : List ℤ
coefs-zeros = replicate 15_360 (pos 0)

abbrev pub rhs-zeros : List ℤ
rhs-zeros = replicate 120 (pos 0)

abbrev pub kinds-zeros : List ℕ
kinds-zeros = replicate 120 0

pub bounds-room : {n : ℕ} → n ≤ 128 → length (take (2 * n) bounds-zeros) ≡ 2 * n
bounds-room {n} h = length-take-le (2 * n) bounds-zeros (rw (length-replicate 256 (pos 0)) (omega arith))

pub coefs-room : {k : ℕ} → k ≤ 15_360 → length (take k coefs-zeros) ≡ k
coefs-room {k} h = length-take-le k coefs-zeros (rw (length-replicate 15_360 (pos 0)) h)

pub rhs-room : {m : ℕ} → m ≤ 120 → length (take m rhs-zeros) ≡ m
rhs-room {m} h = length-take-le m rhs-zeros (rw (length-replicate 120 (pos 0)) h)

pub kinds-room : {m : ℕ} → m ≤ 120 → length (take m kinds-zeros) ≡ m
kinds-room {m} h = length-take-le m kinds-zeros (rw (length-replicate {A = ℕ} 120 0) h)

-- the front of zeros is the kinds of a first-edition book
pub kinds-front : {m : ℕ} → m ≤ 120 → take m kinds-zeros ≡ kinds_of m
unfolding kinds_of
kinds-front {m} h =
    ext_get_or 0 (take m kinds-zeros) (replicate m 0) (kinds-room h ∙ sym (length-replicate {A = ℕ} m 0))
    (λ i k. let l : i < m = omega (arith, kinds-room h) in
    get_or-take m kinds-zeros i 0 l ∙ get_or-replicate 120 i 0 0 (omega arith) ∙ sym (get_or-replicate m i 0 0 l))

-- n and m of a book that has a head, as they are read: the local buffers have room for its model
limits : {n m a b : ℕ} → n ≡ a → m ≡ b → a ≤ 128 → b ≤ 120 → (n ≤ 128) × (m ≤ 120) × (m * n ≤ 15_360)
limits {n} {m} e d h k =
    let f : n ≤ 128 = rw e h in
    let g : m ≤ 120 = rw d k in
    (f, g, mul-le-mul g f)

pub head-limits : {n m : ℕ} (bs : List ℕ) → 0 ≡ first (head_checks bs) → n ≡ variables (trailer_of bs) → m ≡ rows (trailer_of bs)
    → (n ≤ 128) × (m ≤ 120) × (m * n ≤ 15_360)
head-limits bs e n m = let h = (head-test bs).0 (sym e) in limits n m h.layout.few h.layout.few_rows

pub layout-limits : {n m : ℕ} (bs : List ℕ) → 0 ≡ first (sparse_layout_checks bs) → n ≡ variables (trailer_of bs) → m ≡ rows (trailer_of bs)
    → (n ≤ 128) × (m ≤ 120) × (m * n ≤ 15_360)
layout-limits bs e n m = let h = (sparse-layout-test bs).0 (sym e) in limits n m h.head.few h.head.few_rows
