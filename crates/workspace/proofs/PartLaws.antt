-- A part of a list that is written: the numbers stand there, and all else stays.
use Prim.Native.Nat.{◌+◌, ◌-◌, ◌<◌, ◌≤◌, ℕ}
use borrow.Rule.Slice.PartMut.{post_of, put_mid}
use lib.ListN.{drop, get_or, length, take}
use lib.Seq.{drop-append_seam, get_or-drop, get_or-take, length-take-le, take-append_seam}
use mathlib.Core.List.{List, ◌++◌}
use mathlib.Core.Path.{◌∙◌, ◌≡◌, ap, sym}
use native.Mathlib.Omega.{arith}
use Rattle.std.proofs.Common.{rules}
use Rattle.std.proofs.lemmas.Slice.{drop-put_mid, overwrites, take-put_mid_below}
use Rattle.prepared_model.specs.SameBut.{SameBut}

module _ (W N : List ℕ) (p k q : ℕ) (room : q ≤ length W) (e : p + k ≡ q) (l : length N ≡ k) where
  pub part-same : SameBut p q W (put_mid p k W N)
  part-same = record {
    len = search (rules, overwrites);
    before = λ i h. sym (get_or-take p (put_mid p k W N) i 0 h) ∙ ap (λ X. get_or X i 0) (take-put_mid_below p k W N p (omega arith) (omega arith)) ∙ get_or-take p W i 0 h;
    after = λ i h.
        let d : q + (i - q) ≡ i = omega arith in
        let z = sym (get_or-drop q (put_mid p k W N) (i - q) 0) ∙ ap (λ X. get_or X (i - q) 0) (drop-put_mid p k W N q (omega arith) (omega arith) l) ∙ get_or-drop q W (i - q) 0 in
        rw d at z;
  }

  pub part-written : take k (drop p (put_mid p k W N)) ≡ N
  part-written =
      let r : length (take p W) ≡ p = length-take-le p W (omega arith) in
      ap (take k) (rw r at (drop-append_seam (take p W) (N ++ post_of p k W))) ∙ (rw l at (take-append_seam N (post_of p k W)))

  -- a number of the part
  pub part-at : (i : ℕ) → p ≤ i → i < q → get_or (put_mid p k W N) i 0 ≡ get_or N (i - p) 0
  part-at i h g =
      let d : p + (i - p) ≡ i = omega arith in
      let z = sym (get_or-drop p (put_mid p k W N) (i - p) 0) ∙ sym (get_or-take k (drop p (put_mid p k W N)) (i - p) 0 (omega arith)) ∙ ap (λ L. get_or L (i - p) 0) part-written in
      rw d at z
