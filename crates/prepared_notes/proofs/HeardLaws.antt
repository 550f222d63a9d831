-- What the loops that note which bounds moved need: one bound, one variable, and what the whole says of the rows.
use Prim.Native.Nat.{◌*◌, ◌+◌, ◌-◌, ◌%◌, ◌<◌, ◌≤◌, max, ℕ}
use lib.IntN.{pos, ℤ}
use lib.ListN.{drop, get_or, length, take}
use lib.Seq.{set-get_or}
use lib.Signed.{◌<ℤ◌, ◌≤ℤ◌, ≤ℤ_refl}
use mathlib.Core.List.{List}
use mathlib.Core.Path.{◌∙◌, ◌≡◌, refl, sym}
use native.Mathlib.Decide.{dec_lt, ℕ_discrete}
use native.Mathlib.Omega.{arith}
use Rattle.integer.proofs.Parts.{zarith}
use Rattle.model.specs.Box.{at, lower, upper, with_bounds}
use Rattle.model.specs.Rows.{Rows, row_at}
use Rattle.model.proofs.BoxLaws.{box-ext}
use Rattle.model.proofs.BoxLoops.{lower-with_bounds, upper-with_bounds, with_bounds-other}
use Rattle.packed_row.proofs.PackedLaws.{packed-steps, skip-next, skip-start, skip_at, step-at}
use Rattle.prepared_model.specs.Layout.{fall_of, rise_of}
use Rattle.row_set.specs.Bits.{bit_at}
use Rattle.row_set.specs.Readers.{Hearers, Unheard}
use Rattle.prepared_notes.specs.Heard.{Deaf, Missed, Noting}

-- ---- one bound: a row that is still not in the set was not, and is not among those that hear

module _ (W : List ℕ) (j r : ℕ) (D D' : List ℕ) {old new : ℤ} (z : bit_at D' r ≡ 0) where
  pub deaf-rise : bit_at D' r ≡ max (bit_at D r) (bit_at (take (384 + 8 * j + 4 - (384 + 8 * j)) (drop (384 + 8 * j) W)) r) → old <ℤ new
      → (bit_at D r ≡ 0) × Deaf (rise_of W j) (fall_of W j) r old new
  unfolding rise_of
  deaf-rise e h =
      let k : 384 + 8 * j + 4 - (384 + 8 * j) ≡ 4 = omega arith in
      let t = rw k at e in
      (omega arith, record { up = λ b. absurd (let y : ⊥ = omega arith in y); down = λ _. omega zarith })

  pub deaf-fall : bit_at D' r ≡ max (bit_at D r) (bit_at (take (384 + 8 * j + 8 - (384 + 8 * j + 4)) (drop (384 + 8 * j + 4) W)) r) → new <ℤ old
      → (bit_at D r ≡ 0) × Deaf (rise_of W j) (fall_of W j) r old new
  unfolding fall_of
  deaf-fall e h =
      let k : 384 + 8 * j + 8 - (384 + 8 * j + 4) ≡ 4 = omega arith in
      let i : 384 + 8 * j + 4 ≡ 388 + 8 * j = omega arith in
      let t = rw (k, i) at e in
      (omega arith, record { up = λ _. omega zarith; down = λ b. absurd (let y : ⊥ = omega arith in y) })

pub deaf-same : (W : List ℕ) (j r : ℕ) {old new : ℤ} → new ≤ℤ old → old ≤ℤ new → Deaf (rise_of W j) (fall_of W j) r old new
deaf-same W j r a b = record { up = λ _. a; down = λ _. b }

pub deaf-read : {rise fall : List ℕ} {r : ℕ} {x y old new : ℤ} → x ≡ old → y ≡ new → Deaf rise fall r x y → Deaf rise fall r old new
deaf-read e f d = rw (← e, ← f) d

-- ---- the loop: variables below j have the new bounds and the others the old ones; a row that is still not in the set was not, and
-- hears nothing of those so far

pub record Noted (ws W : List ℕ) (old₀ new : List ℤ) (D₀ : List ℕ) (old : List ℤ) (D : List ℕ) (j : ℕ) : Type 0 where
  pub here : skip_at ws 0 j ≡ 0
  pub old_len : length old ≡ length old₀
  pub set_len : length D ≡ length D₀
  pub early : (k : ℕ) → k < j → k < length ws → (lower old k ≡ lower new k) × (upper old k ≡ upper new k)
  pub late : (k : ℕ) → j ≤ k → (lower old k ≡ lower old₀ k) × (upper old k ≡ upper old₀ k)
  pub heard : (r : ℕ) → r < 128 → bit_at D r ≡ 0 → (bit_at D₀ r ≡ 0) × ((k : ℕ) → k < j → k < length ws → Missed W r old₀ new k)

pub missed-same : (W : List ℕ) (r : ℕ) {P Q : List ℤ} {j : ℕ} → lower Q j ≡ lower P j → upper Q j ≡ upper P j → Missed W r P Q j
missed-same W r {P} {Q} {j} e f = record {
  low = deaf-same W j r (rw e (≤ℤ_refl (lower P j))) (rw e (≤ℤ_refl (lower P j)));
  high = deaf-same W j r (rw f (≤ℤ_refl (upper P j))) (rw f (≤ℤ_refl (upper P j)));
}

pub noted-first : (ws W : List ℕ) (old new : List ℤ) (D : List ℕ) → Noted ws W old new D old D 0
noted-first ws W old new D = record {
  here = skip-start ws;
  old_len = refl;
  set_len = refl;
  early = λ k a b. absurd (let z : ⊥ = omega arith in z);
  late = λ k a. (refl, refl);
  heard = λ r a e. (e, λ k b c. absurd (let z : ⊥ = omega arith in z));
}

module _ {ws W : List ℕ} {old₀ new : List ℤ} {D₀ : List ℕ} (v : Noting ws W old₀ new D₀) {old : List ℤ} {D : List ℕ} {j : ℕ}
    (i : Noted ws W old₀ new D₀ old D j) (h : j < length ws) {old' : List ℤ} (D' : List ℕ)
    (e : old' ≡ with_bounds old j (lower new j) (upper new j)) (l : length old' ≡ length old) (t : length D' ≡ length D)
    (f : (r : ℕ) → r < 128 → bit_at D' r ≡ 0 → (bit_at D r ≡ 0) × Missed W r old new j)
  where
    abbrev next : ℕ
    next = j + (1 + get_or ws j 0 % 128)

    at_other : (q : ℕ) → (q ≡ 2 * j → ⊥) → (q ≡ 2 * j + 1 → ⊥) → at old' q ≡ at old q
    at_other q a b = rw e (with_bounds-other old j (lower new j) (upper new j) q a b)

    written : (lower old' j ≡ lower new j) × (upper old' j ≡ upper new j)
    written =
        let k : 2 * j + 1 < length old = omega (arith, i.old_len, v.old_len) in
        rw e (lower-with_bounds old j (lower new j) (upper new j) k, upper-with_bounds old j (lower new j) (upper new j) k)

    -- between this variable and the next the boxes are the same
    between : (k : ℕ) → j < k → k < next → k < length ws → (lower new k ≡ lower old₀ k) × (upper new k ≡ upper old₀ k)
    between k a b c = v.elsewhere k c ((packed-steps ws refl).zeros j h k a (omega (arith, step-at ws 0 j h i.here)))

    missed_here : (r : ℕ) → Missed W r old new j → Missed W r old₀ new j
    missed_here r w = let o = i.late j (omega arith) in record { low = deaf-read o.0 refl w.low; high = deaf-read o.1 refl w.high }

    early-next : (k : ℕ) → k < next → k < length ws → (lower old' k ≡ lower new k) × (upper old' k ≡ upper new k)
    early-next k a b = go (dec_lt k j) (ℕ_discrete k j)
      where
        go : Dec (k < j) → Dec (k ≡ j) → (lower old' k ≡ lower new k) × (upper old' k ≡ upper new k)
        go (yes c) d =
            let o = i.early k c b in
            (at_other (2 * k) (omega arith) (omega arith) ∙ o.0, at_other (2 * k + 1) (omega arith) (omega arith) ∙ o.1)
        go (no c) (yes d) = rw d written
        go (no c) (no d) =
            let o = i.late k (omega arith) in
            let w = between k (omega arith) a b in
            (at_other (2 * k) (omega arith) (omega arith) ∙ o.0 ∙ sym w.0, at_other (2 * k + 1) (omega arith) (omega arith) ∙ o.1 ∙ sym w.1)

    heard-next : (r : ℕ) → r < 128 → bit_at D' r ≡ 0 → (k : ℕ) → k < next → k < length ws → Missed W r old₀ new k
    heard-next r p g k a b = go (dec_lt k j) (ℕ_discrete k j)
      where
        go : Dec (k < j) → Dec (k ≡ j) → Missed W r old₀ new k
        go (yes c) d = (i.heard r p (f r p g).0).1 k c b
        go (no c) (yes d) = rw d (missed_here r (f r p g).1)
        go (no c) (no d) = let w = between k (omega arith) a b in missed-same W r w.0 w.1

    pub noted-next : Noted ws W old₀ new D₀ old' D' next
    noted-next = record {
      here = skip-next ws 0 j next h i.here (omega arith);
      old_len = l ∙ i.old_len;
      set_len = t ∙ i.set_len;
      early = early-next;
      late = λ k a. let o = i.late k (omega arith) in
          (at_other (2 * k) (omega arith) (omega arith) ∙ o.0, at_other (2 * k + 1) (omega arith) (omega arith) ∙ o.1);
      heard = λ r p g. ((i.heard r p (f r p g).0).0, heard-next r p g);
    }

still : (old new : List ℤ) (j : ℕ) → lower new j ≡ lower old j → upper new j ≡ upper old j → old ≡ with_bounds old j (lower new j) (upper new j)
unfolding with_bounds
still old new j a b = sym (rw (a, b, set-get_or old (2 * j) (pos 0)) (set-get_or old (2 * j + 1) (pos 0)))

-- where a variable has its new bounds already
pub noted-still : {ws W : List ℕ} {old₀ new : List ℤ} {D₀ : List ℕ} → Noting ws W old₀ new D₀ → {old : List ℤ} {D : List ℕ} {j : ℕ}
    → Noted ws W old₀ new D₀ old D j → j < length ws → (lower new j ≡ lower old j) × (upper new j ≡ upper old j)
    → Noted ws W old₀ new D₀ old D (j + (1 + get_or ws j 0 % 128))
noted-still {W = W} {new = new} v {old} {D} {j} i h w =
    noted-next v i h D (still old new j w.0 w.1) refl refl (λ r p g. (g, missed-same W r w.0 w.1))

-- at the end
pub noted-all : {ws W : List ℕ} {old₀ new : List ℤ} {D₀ : List ℕ} → Noting ws W old₀ new D₀ → {old : List ℤ} {D : List ℕ} {j : ℕ}
    → Noted ws W old₀ new D₀ old D j → length ws ≤ j → old ≡ new
noted-all {ws} {new = new} v {old} i h = box-ext (length ws) old new (i.old_len ∙ v.old_len) v.new_len
    (λ k a. (i.early k (omega arith) a).0) (λ k a. (i.early k (omega arith) a).1)

-- ---- a prepared model

-- where the sets are those of the rows that hear, a row that misses a variable's moves hears nothing of it
pub unheard : {n m : ℕ} {A : Rows} (W : List ℕ) {P Q : List ℤ} {r j : ℕ} → Hearers n m A (rise_of W) (fall_of W) → r < m → j < n → Missed W r P Q j
    → Unheard (row_at n A r) P Q j
unheard W {r = r} {j} h k l w = record {
  rise = λ e. let b = h.rising j l r k e in (w.low.up b, w.high.up b);
  fall = λ e. let b = h.falling j l r k e in (w.low.down b, w.high.down b);
}
