-- What the functions that write the implication table need of the definitions: where a byte lies, a count that goes on, and one
-- turn of the loop over the variables.
use Prim.Native.Nat.{◌*◌, ◌+◌, ◌-◌, ◌<◌, ◌≤◌, ℕ}
use lib.Dec.{eqb}
use lib.IntN.{ℤ}
use lib.ListN.{get_or, length, set}
use mathlib.Core.Bool.{Bool, ◌&&◌, cond, false, not, true}
use mathlib.Core.List.{List}
use mathlib.Core.Path.{◌∙◌, ◌≡◌, ap, refl, sym}
use native.Mathlib.Numerals.{add-one}
use native.Mathlib.Omega.{arith}
use Rattle.model.specs.Box.{is_free}
use Rattle.semantics.specs.Probe.{Table, byte_of, implies, is_fixed, literal, put, record_side, record_to}
use Rattle.call_laws.proofs.ImplicationLaws.{byte-lt}
use Rattle.two_sides.specs.Results.{Recordable, table_of}

-- the byte of an implication, as the code computes its index
pub byte-in : {n k j : ℕ} {t : List ℕ} → Recordable n k j t → (v w : ℕ) → v < 2 → w < 2 → (2 * k + v) * (2 * n) + (2 * j + w) < length t
unfolding byte_of literal
byte-in {n} {k} {j} r v w a b = omega (arith, r.len, byte-lt n k v j w r.variable a r.other b)

-- the same two variables, exchanged
pub back : {n k j : ℕ} {t : List ℕ} → Recordable n k j t → Recordable n j k t
back r = record { few = r.few; variable = r.other; other = r.variable; len = r.len }

-- the same variables in a table as long
pub in_table : {n k j : ℕ} {t u : List ℕ} → length u ≡ length t → Recordable n k j t → Recordable n k j u
in_table e r = record { few = r.few; variable = r.variable; other = r.other; len = e ∙ r.len }

-- ---- counts

flag-few : (b : Bool) → cond b 1 0 ≤ 1
flag-few true = omega arith
flag-few false = omega arith

-- r comes of t as s comes of t's bytes with nothing counted: the bytes are the same, and s's count, which is at most 2, is added
pub record Adds (t r s : Table) : Type 0 where
  pub bytes : r.bytes ≡ s.bytes
  pub added : r.added ≡ t.added + s.added
  pub few : s.added ≤ 2

pub put-adds : (i : ℕ) (t : Table) → Adds t (put t i) (put (table_of t.bytes 0) i)
unfolding put table_of
put-adds i t = record { bytes = refl; added = omega arith; few = omega (arith, flag-few (eqb (get_or t.bytes i 0) 0)) }

implies-adds : (n k v j w : ℕ) (t : Table) → Adds t (implies n k v j w t) (implies n k v j w (table_of t.bytes 0))
unfolding implies put table_of
implies-adds n k v j w t =
    let i = byte_of n (literal k v) (literal j w) in
    let l = byte_of n (literal j (1 - w)) (literal k (1 - v)) in
    record {
      bytes = refl;
      added = omega arith;
      few = omega (arith, flag-few (eqb (get_or t.bytes i 0) 0), flag-few (eqb (get_or (set t.bytes i 1) l 0) 0));
    }

pub record_side-adds : (n k v j : ℕ) (S : List ℤ) (t : Table) → Adds t (record_side n k v j S t) (record_side n k v j S (table_of t.bytes 0))
unfolding record_side table_of
record_side-adds n k v j S t = go (is_fixed S j 0) (is_fixed S j 1)
  where
    go : (a b : Bool) → Adds t (cond a (implies n k v j 0 t) (cond b (implies n k v j 1 t) t))
        (cond a (implies n k v j 0 (table_of t.bytes 0)) (cond b (implies n k v j 1 (table_of t.bytes 0)) (table_of t.bytes 0)))
    go true b = implies-adds n k v j 0 t
    go false true = implies-adds n k v j 1 t
    go false false = record { bytes = refl; added = omega arith; few = omega arith }

pub record_side-few : (n k v j : ℕ) (S : List ℤ) (t : List ℕ) {b : ℕ} → b ≡ (record_side n k v j S (table_of t 0)).added → b ≤ 2
unfolding table_of
record_side-few n k v j S t e = omega (arith, e, (record_side-adds n k v j S (table_of t 0)).few)

-- after r, whose bytes are p and whose count is a, a call of F on p with nothing counted leaves q and answers b
pub goes_on : (F : Table → Table) → ((t : Table) → Adds t (F t) (F (table_of t.bytes 0))) → (r : Table) {p q : List ℕ} {a b : ℕ}
    → (p ≡ r.bytes) × (a ≡ r.added) → (q ≡ (F (table_of p 0)).bytes) × (b ≡ (F (table_of p 0)).added) → (q ≡ (F r).bytes) × (a + b ≡ (F r).added)
goes_on F f r x y =
    let g = f r in (
      y.0 ∙ ap (λ (t : List ℕ). (F (table_of t 0)).bytes) x.0 ∙ sym g.bytes,
      omega (arith, x.1, y.1 ∙ ap (λ (t : List ℕ). (F (table_of t 0)).added) x.0, g.added),
    )

-- ---- a turn of the loop: variable j

module _ (n k : ℕ) (B S0 S1 : List ℤ) (t : List ℕ) (j : ℕ) where
  abbrev so_far : Table
  so_far = record_to j n k B S0 S1 t

  pub turn-skips : (not (eqb j k) && is_free B j) ≡ false → record_to (j + 1) n k B S0 S1 t ≡ so_far
  unfolding record_to
  turn-skips e = rw (add-one, e)

  -- the bytes and counts after the first side's call and after the second's
  pub turn-records : (not (eqb j k) && is_free B j) ≡ true → {p q u : List ℕ} {a b d : ℕ}
      → (p ≡ so_far.bytes) × (a ≡ so_far.added)
      → (q ≡ (record_side n k 0 j S0 (table_of p 0)).bytes) × (b ≡ (record_side n k 0 j S0 (table_of p 0)).added)
      → (u ≡ (record_side n k 1 j S1 (table_of q 0)).bytes) × (d ≡ (record_side n k 1 j S1 (table_of q 0)).added)
      → (u ≡ (record_to (j + 1) n k B S0 S1 t).bytes) × (a + b + d ≡ (record_to (j + 1) n k B S0 S1 t).added)
  unfolding record_to
  turn-records e x y z =
      rw (add-one, e)
      (goes_on (record_side n k 1 j S1) (record_side-adds n k 1 j S1) _ (goes_on (record_side n k 0 j S0) (record_side-adds n k 0 j S0) so_far x y) z)
