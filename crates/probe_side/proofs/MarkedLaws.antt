-- What the marks of a box say of its sides.
use Prim.Native.Nat.{◌<◌, ◌≤◌, ℕ}
use lib.Dec.{T}
use lib.IntN.{pos, ℤ}
use lib.ListN.{get_or, length, length-replicate, replicate, take}
use lib.Seq.{length-take-le}
use mathlib.Core.List.{List}
use mathlib.Core.Path.{◌∙◌, ◌≡◌, ap₂, subst, sym}
use native.Mathlib.Omega.{arith}
use Rattle.model.specs.Box.{NonEmpty, is_free, lower, upper, with_bounds}
use Rattle.model.specs.Valid.{ValidModel}
use Rattle.model.proofs.BoxLoops.{lower-with_bounds, upper-with_bounds}
use Rattle.model.specs.Rows.{Rows, row_at}
use Rattle.model.specs.Model.{model_of}
use Rattle.row_index.specs.Index.{ColumnSigns}
use Rattle.semantics.specs.Probe.{fix}
use Rattle.call_laws.proofs.ProbeLaws.{fix-inside}
use Rattle.row_marks.specs.Marks.{Unread, Watched}
use Rattle.row_marks.proofs.MarkLaws.{clean-remarked, unread-at}
use Rattle.marked_row.proofs.LocalBox.{blank}
use Rattle.marked_row.proofs.LocalIndex.{clean-none, index-none}
use Rattle.row.proofs.KindLaws.{kinded-stays}
use Rattle.semantics.specs.FixpointTest.{is_fixpoint}
use Rattle.call_laws.proofs.Convergence.{fixpoint-test}
use Rattle.probe_side.specs.Marked.{Marked, SideReady}
use Rattle.probe_side.proofs.SideLaws.{fix-model, fix-stores, free-non_empty}

-- ---- a side

module _ {n m : ℕ} {B : List ℤ} {A : Rows} {k : ℕ} {across signs : List ℕ} {seen : List ℤ} {marks : List ℕ} {side : List ℤ}
    (g : SideReady n m B A k across signs seen marks side) where
  unread-side : {r : ℕ} → Unread n A.coefs A.kinds r B side k → (j : ℕ) → Unread n A.coefs A.kinds r B side j
  unread-side {r} w j = subst (λ (X : List ℤ). Unread n A.coefs A.kinds r B X j) (sym g.elsewhere)
      (unread-at k (lower side k) (upper side k) (subst (λ (X : List ℤ). Unread n A.coefs A.kinds r B X k) g.elsewhere w) j)

  pub side-watched : {P seen' : List ℤ} {signs' : List ℕ} (marks' : List ℕ) → P ≡ B → seen' ≡ with_bounds P k (lower side k) (upper side k)
      → ((r : ℕ) → r < m → get_or marks' r 0 ≡ 1 → (get_or marks r 0 ≡ 1) × Unread n A.coefs A.kinds r P side k)
      → ColumnSigns n m A.coefs signs' → Watched n m A side across signs' seen' marks'
  side-watched marks' p e f x = record {
    index = record { rows = g.index.rows; columns = x };
    copied = λ _. (rw p at e) ∙ sym g.elsewhere;
    clean = clean-remarked g.valid.some g.non_empty g.inside g.clean
        (λ r h t. let w = (rw p at f) r h t in (w.0, λ j _. unread-side w.1 j));
  }

module _ {n m : ℕ} {B : List ℤ} {A : Rows} {across signs clean : List ℕ} (p : ValidModel (model_of n m B A)) (k w : ℕ) (f : T (is_free B k)) (h : k < n) (b : w < 2)
    (x : Marked n m B A across signs clean) where
  fix-low : lower (fix n B k w) k ≡ pos w
  fix-low = rw (← fix-stores n B k w p.box.len h) (lower-with_bounds B k (pos w) (pos w) (omega (arith, p.box.len)))

  fix-high : upper (fix n B k w) k ≡ pos w
  fix-high = rw (← fix-stores n B k w p.box.len h) (upper-with_bounds B k (pos w) (pos w) (omega (arith, p.box.len)))

  fixed-ready : (seen : List ℤ) {marks : List ℕ} → length B ≡ length seen → marks ≡ clean → SideReady n m B A k across signs seen marks (fix n B k w)
  fixed-ready seen l e = record {
    valid = fix-model k w p f h b;
    non_empty = free-non_empty k h f p.box.shape;
    variable = h;
    inside = fix-inside k w f b;
    elsewhere = sym (ap₂ (λ (y z : ℤ). with_bounds B k y z) fix-low fix-high ∙ fix-stores n B k w p.box.len h);
    seen_len = l;
    index = x.index;
    clean = rw e x.clean;
    room = rw e (omega (arith, x.len, p.few_rows));
  }

  pub side-ready : (seen : List ℤ) {marks : List ℕ} {side : List ℤ} → length B ≡ length seen → marks ≡ clean → side ≡ fix n B k w
      → SideReady n m B A k across signs seen marks side
  side-ready seen {marks} l e d = subst (λ (X : List ℤ). SideReady n m B A k across signs seen marks X) (sym d) (fixed-ready seen l e)

-- ---- local arrays

pub front-room : (B : List ℤ) → length B ≤ 256 → length (take (length B) blank) ≡ length B
front-room B h = length-take-le (length B) blank (rw length-replicate h)

-- nothing is known yet
pub marked-none : {n m : ℕ} {B : List ℤ} {A : Rows} → ValidModel (model_of n m B A) → Marked n m B A (replicate 15360 0) (replicate 15360 0) (replicate 120 0)
marked-none v = record { index = index-none v; clean = clean-none 120; len = length-replicate {A = ℕ} 120 0 }

-- every row of a propagation fixpoint is clean
pub marked_all : {n m : ℕ} {B : List ℤ} {A : Rows} → ValidModel (model_of n m B A) → NonEmpty n B → T (is_fixpoint n m A B)
    → Marked n m B A (replicate 15360 0) (replicate 15360 0) (replicate 120 1)
marked_all {n} {m} {B} {A} v p t = record {
  index = index-none v;
  clean = record { same = λ _ r h _. kinded-stays (row_at n A r) v.some p (((fixpoint-test n m A B p).0 t).same r h) };
  len = length-replicate {A = ℕ} 120 1;
}
