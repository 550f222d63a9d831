-- What the marks of a box say of the box that a probe leaves.
use Prim.Native.Nat.{◌<◌, ℕ}
use lib.Dec.{T}
use lib.IntN.{ℤ}
use lib.ListN.{get_or, length}
use mathlib.Core.Bool.{◌||◌}
use mathlib.Core.List.{List}
use mathlib.Core.Path.{◌∙◌, ◌≡◌, ap, sym}
use Rattle.model.specs.Box.{NonEmpty, is_empty, is_free}
use Rattle.model.specs.Valid.{ValidModel}
use Rattle.model.specs.Rows.{Rows}
use Rattle.model.specs.Model.{model_of}
use Rattle.semantics.specs.Probe.{Probed, probe}
use Rattle.call_laws.proofs.ProbeLaws.{probe-narrower}
use Rattle.row_index.specs.Index.{Index}
use Rattle.row_marks.specs.Marks.{Unread}
use Rattle.row_marks.proofs.MarkLaws.{clean-narrower}
use Rattle.probe_side.specs.Marked.{Marked}
use Rattle.two_sides.specs.Results.{probing_of}
use Rattle.two_sides.specs.declared.Probing.{Probing}
use Rattle.two_sides.proofs.JoinLaws.{probing-box}

pub marked-probed : {n m : ℕ} {B : List ℤ} {A : Rows} {across signs marks : List ℕ} (k budget : ℕ) (t t' : List ℕ) (r : Probing) {Q : List ℤ} {marks' : List ℕ}
    → ValidModel (model_of n m B A) → NonEmpty n B → T (is_empty n B || is_free B k) → Marked n m B A across signs marks
    → {across' signs' : List ℕ} → Index n m A.coefs across' signs' → probing_of r Q t' ≡ probe k budget n m A B t
    → ((i : ℕ) → i < m → get_or marks' i 0 ≡ 1 → (get_or marks i 0 ≡ 1) × ((j : ℕ) → j < n → Unread n A.coefs A.kinds i B Q j))
    → length marks' ≡ length marks → Marked n m Q A across' signs' marks'
marked-probed {n} {m} {B} {A} {across} {signs} {marks} k budget t t' r {Q} {marks'} v p f x y e u l =
    let q : Q ≡ (probe k budget n m A B t).box = sym (probing-box r Q t') ∙ ap (λ (w : Probed). w.box) e in
    record {
      index = y;
      clean = clean-narrower v.some p (rw q (probe-narrower k budget m A t f p)) x.clean u;
      len = l ∙ x.len;
    }
