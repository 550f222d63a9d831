-- What the loop of `remark` needs: a variable more has its new bounds, and the rows still marked read none that moved.
use Prim.Native.Nat.{◌*◌, ◌+◌, ◌<◌, ◌≤◌, ℕ}
use lib.IntN.{pos, ℤ}
use lib.ListN.{get_or, get_or-replicate, length, length-replicate, replicate}
use lib.Seq.{set-get_or}
use mathlib.Core.List.{List}
use mathlib.Core.Path.{◌∙◌, ◌≡◌, refl, sym}
use native.Mathlib.Decide.{dec_lt, ℕ_discrete}
use native.Mathlib.Omega.{arith}
use Rattle.model.specs.Box.{at, lower, upper, with_bounds}
use Rattle.model.proofs.BoxLoops.{lower-with_bounds, upper-with_bounds, with_bounds-other}
use Rattle.row_index.specs.Index.{ColumnSigns}
use Rattle.row_marks.specs.Marks.{Remarks, Unread}

-- variables below j have the new bounds and the others the old ones; a row still marked was marked and reads none that moved so far
pub record Remarked (n m : ℕ) (C : List ℤ) (K : List ℕ) (signs₀ : List ℕ) (old₀ new : List ℤ) (marks₀ signs : List ℕ) (old : List ℤ) (marks : List ℕ) (j : ℕ) : Type 0 where
  pub le : j ≤ n
  pub signs_len : length signs ≡ length signs₀
  pub columns : ColumnSigns n m C signs
  pub old_len : length old ≡ length old₀
  pub marks_len : length marks ≡ length marks₀
  pub early : (k : ℕ) → k < j → (lower old k ≡ lower new k) × (upper old k ≡ upper new k)
  pub late : (k : ℕ) → j ≤ k → (lower old k ≡ lower old₀ k) × (upper old k ≡ upper old₀ k)
  pub read : (r : ℕ) → r < m → get_or marks r 0 ≡ 1 → (get_or marks₀ r 0 ≡ 1) × ((k : ℕ) → k < j → Unread n C K r old₀ new k)

module _ {n m : ℕ} {C : List ℤ} {signs₀ steps : List ℕ} {start : ℕ} {old₀ new : List ℤ} {marks₀ : List ℕ} (v : Remarks n m C signs₀ steps start old₀ new marks₀)
    {K : List ℕ} {signs : List ℕ} {old : List ℤ} {marks : List ℕ} {j : ℕ} (i : Remarked n m C K signs₀ old₀ new marks₀ signs old marks j) (h : j < n)
    {signs' : List ℕ} {old' : List ℤ} (marks' : List ℕ) (e : old' ≡ with_bounds old j (lower new j) (upper new j)) (s : length signs' ≡ length signs)
    (l : length old' ≡ length old) (t : length marks' ≡ length marks) (x : ColumnSigns n m C signs')
    (f : (r : ℕ) → r < m → get_or marks' r 0 ≡ 1 → (get_or marks r 0 ≡ 1) × Unread n C K r old new j)
  where
    at_other : (q : ℕ) → (q ≡ 2 * j → ⊥) → (q ≡ 2 * j + 1 → ⊥) → at old' q ≡ at old q
    at_other q a b = rw e (with_bounds-other old j (lower new j) (upper new j) q a b)

    here : (lower old' j ≡ lower new j) × (upper old' j ≡ upper new j)
    here =
        let k : 2 * j + 1 < length old = omega (arith, i.old_len, v.old_len) in
        rw e (lower-with_bounds old j (lower new j) (upper new j) k, upper-with_bounds old j (lower new j) (upper new j) k)

    unread-here : (r : ℕ) → r < m → get_or marks' r 0 ≡ 1 → Unread n C K r old₀ new j
    unread-here r k g =
        let w = (f r k g).1 in
        let o = i.late j (omega arith) in
        record { low = λ z. w.low z ∙ o.0; high = λ z. w.high z ∙ o.1 }

    abbrev next : ℕ
    next = j + get_or steps (start + j) 0

    early-next : (k : ℕ) → k < next → (lower old' k ≡ lower new k) × (upper old' k ≡ upper new k)
    early-next k a = go (dec_lt k j) (ℕ_discrete k j)
      where
        go : Dec (k < j) → Dec (k ≡ j) → (lower old' k ≡ lower new k) × (upper old' k ≡ upper new k)
        go (yes b) d =
            let o = i.early k b in
            (at_other (2 * k) (omega arith) (omega arith) ∙ o.0, at_other (2 * k + 1) (omega arith) (omega arith) ∙ o.1)
        go (no b) (yes d) = rw d here
        go (no b) (no d) =
            let o = i.late k (omega arith) in
            let w = v.between j h k (omega arith) a in
            (at_other (2 * k) (omega arith) (omega arith) ∙ o.0 ∙ sym w.0, at_other (2 * k + 1) (omega arith) (omega arith) ∙ o.1 ∙ sym w.1)

    read_next : (r : ℕ) → r < m → get_or marks' r 0 ≡ 1 → (k : ℕ) → k < next → Unread n C K r old₀ new k
    read_next r p g k a = go (dec_lt k j) (ℕ_discrete k j)
      where
        go : Dec (k < j) → Dec (k ≡ j) → Unread n C K r old₀ new k
        go (yes b) d = (i.read r p (f r p g).0).1 k b
        go (no b) (yes d) = rw d (unread-here r p g)
        go (no b) (no d) = let w = v.between j h k (omega arith) a in record { low = λ _. w.0; high = λ _. w.1 }

    pub remark-turn : Remarked n m C K signs₀ old₀ new marks₀ signs' old' marks' next
    remark-turn = record {
      le = v.within j h;
      signs_len = s ∙ i.signs_len;
      columns = x;
      old_len = l ∙ i.old_len;
      marks_len = t ∙ i.marks_len;
      early = early-next;
      late = λ k a. let z = v.forward j h in let o = i.late k (omega arith) in
          (at_other (2 * k) (omega arith) (omega arith) ∙ o.0, at_other (2 * k + 1) (omega arith) (omega arith) ∙ o.1);
      read = λ r p g. ((i.read r p (f r p g).0).0, read_next r p g);
    }

-- a variable whose bounds did not move has them already
still : (old new : List ℤ) (j : ℕ) → lower new j ≡ lower old j → upper new j ≡ upper old j → old ≡ with_bounds old j (lower new j) (upper new j)
unfolding with_bounds
still old new j a b = sym (rw (a, b, set-get_or old (2 * j) (pos 0)) (set-get_or old (2 * j + 1) (pos 0)))

pub remark-still : {n m : ℕ} {C : List ℤ} {signs₀ steps : List ℕ} {start : ℕ} {old₀ new : List ℤ} {marks₀ : List ℕ} → Remarks n m C signs₀ steps start old₀ new marks₀
    → {K signs : List ℕ} {old : List ℤ} {marks : List ℕ} {j : ℕ} → Remarked n m C K signs₀ old₀ new marks₀ signs old marks j → j < n
    → (lower new j ≡ lower old j) × (upper new j ≡ upper old j) → Remarked n m C K signs₀ old₀ new marks₀ signs old marks (j + get_or steps (start + j) 0)
remark-still {new = new} v {old = old} {marks} {j} i h w =
    remark-turn v i h marks (still old new j w.0 w.1) refl refl refl i.columns (λ r p g. (g, record { low = λ _. w.0; high = λ _. w.1 }))

-- ---- the steps of a row without zeros

one_at : (j : ℕ) → j < 128 → get_or {A = ℕ} (replicate 128 1) (0 + j) 0 ≡ 1
one_at j h = get_or-replicate {A = ℕ} 128 (0 + j) 1 0 (omega arith)

pub every-variable : {n m : ℕ} {C : List ℤ} {signs : List ℕ} (old new : List ℤ) (marks : List ℕ) → ColumnSigns n m C signs → n ≤ 128
    → length old ≡ 2 * n → length new ≡ 2 * n → m ≤ length marks → Remarks n m C signs (replicate 128 1) 0 old new marks
every-variable old new marks x few o l k = record {
  columns = x;
  old_len = o;
  new_len = l;
  marks_len = k;
  steps_len = rw (length-replicate {A = ℕ} 128 1) (omega arith);
  forward = λ j h. omega (arith, one_at j (omega arith));
  within = λ j h. omega (arith, one_at j (omega arith));
  between = λ j h i a b. absurd (let z : ⊥ = omega (arith, one_at j (omega arith)) in z);
}
