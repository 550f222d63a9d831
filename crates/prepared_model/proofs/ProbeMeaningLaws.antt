-- What the reasons of a probe mean: each side is told as its propagation (`reasons-mean`), and lies inside the box that is left, which lies
-- inside the lent one; so a bound that stayed in a side stayed.
use Prim.Native.Nat.{◌*◌, ◌/◌, ◌<◌, ◌≤◌, ℕ}
use borrow.Author.Tests.{ne_eqb}
use lib.Dec.{T, T_not}
use lib.IntN.{ℤ, ℤ_discrete}
use lib.ListN.{get_or}
use lib.Signed.{le_z}
use mathlib.Core.Bool.{not}
use mathlib.Core.List.{List}
use mathlib.Core.Logic.{◌↔◌, ⊎_elim}
use mathlib.Core.Path.{◌∙◌, ◌≡◌, refl, subst, sym}
use native.Mathlib.Decide.{ℕ_discrete}
use native.Mathlib.Omega.{arith}
use Rattle.integer.specs.Order.{max_z, min_z}
use Rattle.integer.proofs.Tests.{cond_ind}
use Rattle.model.specs.Box.{Inside, NonEmpty, at, hull, is_free, lower, upper}
use Rattle.model.specs.Rows.{Rows}
use Rattle.model.proofs.BoxLaws.{hull-inside, in-hull-left, in-hull-right, inside-refl, lower-box_of, non_empty-isn't, upper-box_of}
use Rattle.semantics.specs.Probe.{Probed, fix, probe}
use Rattle.semantics.specs.Propagate.{is_none}
use Rattle.semantics.specs.Run.{probe_infeasible}
use Rattle.call_laws.proofs.ProbeLaws.{fix-non_empty, of-fix-free, probe-ind}
use Rattle.call_laws.proofs.PropagateLaws.{propagate-shrinks}
use Rattle.prepared_model.specs.Meaning.{ReasonsMean}
use Rattle.prepared_model.specs.ProbeMeaning.{MovedIn, ProbeReasonsMean, side_of}
use Rattle.prepared_model.specs.ProbeReasons.{both_reasons, probe_reasons, side_reasons}
use Rattle.prepared_model.specs.Reasons.{no_row}
use Rattle.prepared_model.proofs.MeaningLaws.{moved_on, reasons-mean}
use Rattle.prepared_model.proofs.RowReasonLaws.{half}

-- a side differs from the box only in k's bounds
fix-else : (n : ℕ) (B : List ℤ) (k v i : ℕ) → i < 2 * n → (i / 2 ≡ k → ⊥) → at (fix n B k v) i ≡ at B i
unfolding fix
fix-else n B k v i h d =
    let e = ne_eqb (i / 2) k d in
    let j : i / 2 < n = omega arith in
    ⊎_elim
    (λ z. let g : lower (fix n B k v) (i / 2) ≡ lower B (i / 2) = lower-box_of n _ _ (i / 2) j ∙ rw e refl in rw z g)
    (λ z. let g : upper (fix n B k v) (i / 2) ≡ upper B (i / 2) = upper-box_of n _ _ (i / 2) j ∙ rw e refl in rw z g)
    (half i)

-- the smallest box that contains two has no bound that neither has
module _ (n : ℕ) (P Q : List ℤ) (x : ℤ) where
  hull-lower : (j : ℕ) → j < n → (lower P j ≡ x → ⊥) → (lower Q j ≡ x → ⊥) → lower (hull n P Q) j ≡ x → ⊥
  unfolding hull min_z
  hull-lower j h p q = rw (lower-box_of n _ _ j h) (cond_ind (le_z (lower P j) (lower Q j)) _ _ (λ (y : ℤ). y ≡ x → ⊥) (λ _. p) (λ _. q))

  hull-upper : (j : ℕ) → j < n → (upper P j ≡ x → ⊥) → (upper Q j ≡ x → ⊥) → upper (hull n P Q) j ≡ x → ⊥
  unfolding hull max_z
  hull-upper j h p q = rw (upper-box_of n _ _ j h) (cond_ind (le_z (upper P j) (upper Q j)) _ _ (λ (y : ℤ). y ≡ x → ⊥) (λ _. q) (λ _. p))

  hull-else : (i : ℕ) → i < 2 * n → (at P i ≡ x → ⊥) → (at Q i ≡ x → ⊥) → at (hull n P Q) i ≡ x → ⊥
  hull-else i h p q =
      ⊎_elim
      (λ z. subst (λ (y : ℕ). at (hull n P Q) y ≡ x → ⊥) (sym z)
      (hull-lower (i / 2) (omega arith) (subst (λ (y : ℕ). at P y ≡ x → ⊥) z p) (subst (λ (y : ℕ). at Q y ≡ x → ⊥) z q)))
      (λ z. subst (λ (y : ℕ). at (hull n P Q) y ≡ x → ⊥) (sym z)
      (hull-upper (i / 2) (omega arith) (subst (λ (y : ℕ). at P y ≡ x → ⊥) z p) (subst (λ (y : ℕ). at Q y ≡ x → ⊥) z q)))
      (half i)

-- a bound between two that are one is that one
between : {n : ℕ} {B P Q : List ℤ} → Inside n P B → Inside n Q P → (i : ℕ) → i < 2 * n → at Q i ≡ at B i → at P i ≡ at B i
between {n} {B} {P} {Q} a b i h e = go (ℤ_discrete (at P i) (at Q i))
  where
    go : Dec (at P i ≡ at Q i) → at P i ≡ at B i
    go (yes d) = d ∙ e
    go (no d) = absurd (moved_on a b i h d e)

module _ (k budget n m : ℕ) (A : Rows) (B : List ℤ) (t : List ℕ) (some : 0 < n) (few : m ≤ 120) (p : NonEmpty n B) (f : T (is_free B k)) where
  mean : (v : ℕ) → ReasonsMean budget n m A (fix n B k v)
  mean v = reasons-mean budget n m A (fix n B k v) some few (fix-non_empty k v p)

  abbrev Feasible : ℕ → Type 0
  Feasible v = T (not (is_none (side_of k v budget n m A B).ending))

  abbrev Q : ℕ → List ℤ
  Q v = (side_of k v budget n m A B).box

  inside : (v : ℕ) → v < 2 → Feasible v → Inside n (Q v) B
  inside v b x = of-fix-free k v f b (propagate-shrinks n m A budget (fix n B k v) x)

  -- the box r that the probe leaves lies between each feasible side and B; and it has no bound that no feasible side has
  record Left (r : Probed) : Type 0 where
    below : Inside n r.box B
    above0 : Feasible 0 → Inside n (Q 0) r.box
    above1 : Feasible 1 → Inside n (Q 1) r.box
    either : (i : ℕ) (x : ℤ) → i < 2 * n → (Feasible 0 → at (Q 0) i ≡ x → ⊥) → (Feasible 1 → at (Q 1) i ≡ x → ⊥) → at r.box i ≡ x → ⊥

  left : T (not (probe_infeasible (probe k budget n m A B t).ending)) → Left (probe k budget n m A B t)
  unfolding probe_infeasible
  left = probe-ind k budget n m A B t (λ r. T (not (probe_infeasible r.ending)) → Left r)
      (λ _ z. absurd z)
      (λ _ _ _ z. absurd z)
      (λ _ x y _. record {
        below = inside 1 (omega arith) y;
        above0 = λ z. absurd (T_not (is_none (side_of k 0 budget n m A B).ending) z x);
        above1 = λ _. inside-refl n (Q 1);
        either = λ i w h a b. b y;
      })
      (λ _ x y _. record {
        below = inside 0 (omega arith) x;
        above0 = λ _. inside-refl n (Q 0);
        above1 = λ z. absurd (T_not (is_none (side_of k 1 budget n m A B).ending) z y);
        either = λ i w h a b. a x;
      })
      (λ _ x y _. record {
        below = hull-inside (inside 0 (omega arith) x) (inside 1 (omega arith) y);
        above0 = λ _. in-hull-left (Q 1) (inside-refl n (Q 0));
        above1 = λ _. in-hull-right (Q 0) (inside-refl n (Q 1));
        either = λ i w h a b. hull-else n (Q 0) (Q 1) w i h (a x) (b y);
      })

  module _ (i : ℕ) (h : i < 2 * n) (d : i / 2 ≡ k → ⊥) where
    -- a feasible side tells a row for the bound exactly if the bound is another one
    told : (v : ℕ) → Feasible v → (get_or (side_reasons k v budget n m A B (2 * n)).movers i 0 < m) ↔ (at (Q v) i ≡ at B i → ⊥)
    unfolding side_reasons
    told v x = (
      (λ r e. (((mean v).bounds x i h).moved (λ z. let y : ⊥ = omega (arith, z, r) in y)).1 (e ∙ sym (fix-else n B k v i h d))),
      go (ℕ_discrete (get_or (side_reasons k v budget n m A B (2 * n)).movers i 0) no_row),
    )
      where
        go : Dec (get_or (side_reasons k v budget n m A B (2 * n)).movers i 0 ≡ no_row) → (at (Q v) i ≡ at B i → ⊥)
            → get_or (side_reasons k v budget n m A B (2 * n)).movers i 0 < m
        go (yes z) e = absurd (e (((mean v).bounds x i h).still z ∙ fix-else n B k v i h d))
        go (no z) e = (((mean v).bounds x i h).moved z).0

    moved-both : Left (probe k budget n m A B t)
        → (at (probe k budget n m A B t).box i ≡ at B i → ⊥) ↔ (MovedIn k 0 budget n m A B i × MovedIn k 1 budget n m A B i)
    moved-both w = (
      (λ g. ((λ x. (told 0 x).1 (λ e. g (between w.below (w.above0 x) i h e))), (λ x. (told 1 x).1 (λ e. g (between w.below (w.above1 x) i h e))))),
      (λ g. w.either i (at B i) h (λ x. (told 0 x).0 (g.0 x)) (λ x. (told 1 x).0 (g.1 x))),
    )

  both : probe_reasons k budget n m A B (4 * n) ≡ both_reasons (side_reasons k 0 budget n m A B (2 * n)) (side_reasons k 1 budget n m A B (2 * n))
  unfolding probe_reasons
  both = let z : 4 * n / 2 ≡ 2 * n = omega arith in rw (non_empty-isn't some p, z) refl

  pub probe-reasons-mean : ProbeReasonsMean k budget n m A B t
  unfolding both_reasons side_reasons
  probe-reasons-mean = record {
    halves = rw both refl;
    side0 = mean 0;
    side1 = mean 1;
    row0 = λ x. rw both ((mean 0).row x);
    row1 = λ x. rw both ((mean 1).row x);
    moved = λ z i h d. moved-both i h d (left z);
  }
