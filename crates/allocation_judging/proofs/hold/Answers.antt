-- `allocation_judging::hold`: the parts of the buffers have the lengths that n, m and the count give, and lie within them.
use Prim.Native.Nat.{◌*◌, ◌≤◌, ℕ}
use lib.Seq.{length-take-le}
use mathlib.Core.Path.{◌∙◌, ◌≡◌, ap, ap₂, sym}
use native.Mathlib.Nat.{mul-le-mul}
use native.Mathlib.Omega.{arith}
use Rattle.book.specs.Book.{decode, model_in, rows, trailer_of, variables}
use Rattle.allocation_input.specs.Judging.{Holdable}
use mathlib.Core.List.{List}
use Rattle.allocation_input.proofs.InputLaws.{head}
use Rattle.allocation_judging.proofs.hold.Goals as goal

-- what a book says of its sizes, within their limits
record Sizes (book : List ℕ) (count n m : ℕ) : Type 0 where
  pub n_is : n ≡ (decode book).n
  pub m_is : m ≡ (decode book).m
  pub few : n ≤ 128
  pub few_rows : m ≤ 120
  pub cells : m * n ≤ 120 * 128
  pub numbers : count * n ≤ 64 * 128

sizes : {book behind Y : List ℕ} {count : ℕ} (n m : ℕ) → Holdable book behind count Y → n ≡ variables (trailer_of book) → m ≡ rows (trailer_of book)
    → Sizes book count n m
unfolding decode model_in
sizes {book} {behind} {Y} {count} n m h a b =
    let l = (head book behind count Y h).layout in
    let few : n ≤ 128 = omega (arith, l.few) in
    let few_rows : m ≤ 120 = omega (arith, l.few_rows) in
    record { n_is = a; m_is = b; few = few; few_rows = few_rows; cells = mul-le-mul few_rows few; numbers = mul-le-mul h.few few }

pub trailer_u16-n-requires : goal.trailer_u16-n-requires
trailer_u16-n-requires c = ((head _ _ _ _ c.requires).long, omega arith)

pub trailer_u16-m-requires : goal.trailer_u16-m-requires
trailer_u16-m-requires c = ((head _ _ _ _ c.requires).long, omega arith)

pub overflow_mul-ends : goal.overflow_mul-ends
overflow_mul-ends c =
    let s = sizes c.trailer_u16-n.result c.trailer_u16-m.result c.requires c.trailer_u16-n.ensures c.trailer_u16-m.ensures in
    omega arith

pub overflow_mul-cells : goal.overflow_mul-cells
overflow_mul-cells c =
    let s = sizes c.trailer_u16-n.result c.trailer_u16-m.result c.requires c.trailer_u16-n.ensures c.trailer_u16-m.ensures in
    omega arith

pub overflow_mul-numbers : goal.overflow_mul-numbers
overflow_mul-numbers c =
    let s = sizes c.trailer_u16-n.result c.trailer_u16-m.result c.requires c.trailer_u16-n.ensures c.trailer_u16-m.ensures in
    omega arith

pub slice_bounds-bounds-end : goal.slice_bounds-bounds-end
slice_bounds-bounds-end c =
    let s = sizes c.trailer_u16-n.result c.trailer_u16-m.result c.requires c.trailer_u16-n.ensures c.trailer_u16-m.ensures in
    omega arith

pub slice_bounds-hold_in-end : goal.slice_bounds-hold_in-end
slice_bounds-hold_in-end c =
    let s = sizes c.trailer_u16-n.result c.trailer_u16-m.result c.requires c.trailer_u16-n.ensures c.trailer_u16-m.ensures in
    sym (length-take-le _ _ (omega arith))

pub slice_bounds-coefs-end : goal.slice_bounds-coefs-end
slice_bounds-coefs-end c =
    let s = sizes c.trailer_u16-n.result c.trailer_u16-m.result c.requires c.trailer_u16-n.ensures c.trailer_u16-m.ensures in
    omega arith

pub slice_bounds-hold_in-end-2 : goal.slice_bounds-hold_in-end-2
slice_bounds-hold_in-end-2 c =
    let s = sizes c.trailer_u16-n.result c.trailer_u16-m.result c.requires c.trailer_u16-n.ensures c.trailer_u16-m.ensures in
    sym (length-take-le _ _ (omega arith))

pub slice_bounds-rhs-end : goal.slice_bounds-rhs-end
slice_bounds-rhs-end c =
    let s = sizes c.trailer_u16-n.result c.trailer_u16-m.result c.requires c.trailer_u16-n.ensures c.trailer_u16-m.ensures in
    omega arith

pub slice_bounds-hold_in-end-3 : goal.slice_bounds-hold_in-end-3
slice_bounds-hold_in-end-3 c =
    let s = sizes c.trailer_u16-n.result c.trailer_u16-m.result c.requires c.trailer_u16-n.ensures c.trailer_u16-m.ensures in
    sym (length-take-le _ _ (omega arith))

pub slice_bounds-kinds-end : goal.slice_bounds-kinds-end
slice_bounds-kinds-end c =
    let s = sizes c.trailer_u16-n.result c.trailer_u16-m.result c.requires c.trailer_u16-n.ensures c.trailer_u16-m.ensures in
    omega arith

pub slice_bounds-hold_in-end-4 : goal.slice_bounds-hold_in-end-4
slice_bounds-hold_in-end-4 c =
    let s = sizes c.trailer_u16-n.result c.trailer_u16-m.result c.requires c.trailer_u16-n.ensures c.trailer_u16-m.ensures in
    sym (length-take-le _ _ (omega arith))

pub slice_bounds-proposals-end : goal.slice_bounds-proposals-end
slice_bounds-proposals-end c =
    let s = sizes c.trailer_u16-n.result c.trailer_u16-m.result c.requires c.trailer_u16-n.ensures c.trailer_u16-m.ensures in
    omega arith

pub slice_bounds-hold_in-end-5 : goal.slice_bounds-hold_in-end-5
slice_bounds-hold_in-end-5 c =
    let s = sizes c.trailer_u16-n.result c.trailer_u16-m.result c.requires c.trailer_u16-n.ensures c.trailer_u16-m.ensures in
    sym (length-take-le _ _ (omega arith))

pub hold_in-requires : goal.hold_in-requires
hold_in-requires c =
    let n = c.trailer_u16-n.result in
    let m = c.trailer_u16-m.result in
    let s = sizes c.trailer_u16-n.result c.trailer_u16-m.result c.requires c.trailer_u16-n.ensures c.trailer_u16-m.ensures in
    record {
      holdable = c.requires;
      fact = record {
        box = length-take-le (2 * n) _ (omega arith) ∙ ap (λ (k : ℕ). 2 * k) s.n_is;
        coefs = length-take-le (m * n) _ (omega arith) ∙ ap₂ ◌*◌ s.m_is s.n_is;
        rhs = length-take-le m _ (omega arith) ∙ s.m_is;
        kinds = length-take-le m _ (omega arith) ∙ s.m_is;
        numbers = length-take-le (c.args.count * n) _ (omega arith) ∙ ap (λ (k : ℕ). c.args.count * k) s.n_is;
      };
    }
