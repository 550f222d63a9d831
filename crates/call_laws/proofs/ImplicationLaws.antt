-- Laws of the implication table: what a probe records holds at each integer point, keeps the table valid, and is counted.
use Prim.Native.Nat.{◌*◌, ◌+◌, ◌-◌, ◌<◌, ◌≤◌, suc, zero, ℕ}
use lib.Dec.{T, T_not, eqb}
use lib.IntN.{negsuc, pos, ℤ}
use lib.ListN.{get_or, length, length-set, replicate, set}
use lib.Seq.{get_or-set_other, set-get_or}
use lib.Signed.{◌≤ℤ◌}
use mathlib.Core.Bool.{Bool, ◌&&◌, cond, false, not, true}
use mathlib.Core.List.{List, [], ◌∷◌}
use mathlib.Core.Logic.{◌≢◌, ◌⊎◌, inl, inr}
use mathlib.Core.Path.{◌∙◌, ◌≡◌, ap, refl, sym}
use native.Mathlib.Decide.{dec_lt, ℕ_discrete}
use native.Mathlib.Omega.{arith}
use Rattle.integer.specs.Order.{eq_z}
use Rattle.integer.proofs.IndexLaws.{get_d-set-all}
use Rattle.integer.proofs.Parts.{zarith}
use Rattle.integer.proofs.Tests.{and_l, and_r, cond_ind, decide, eq_z→eq, eq→eq_z}
use Rattle.model.specs.Box.{at, is_free, lower, upper}
use Rattle.model.specs.Point.{InBox}
use Rattle.model.specs.Valid.{ValidTable}
use Rattle.model.proofs.RowsLaws.{index-lt}
use Rattle.semantics.specs.Probe.{Table, byte_of, implies, is_fixed, literal, ones, put, record_side, record_to}
use Rattle.call_laws.specs.Points.{ImplicationHolds, LiteralTrue, Recorded, TableHolds}

-- ---- the bytes of different implications are different

index_same : (d p q p' q' : ℕ) → q < d → q' < d → p * d + q ≡ p' * d + q' → (p ≡ p') × (q ≡ q')
index_same d p q p' q' a b e = cases (dec_lt p p') (dec_lt p' p)
  where
    cases : Dec (p < p') → Dec (p' < p) → (p ≡ p') × (q ≡ q')
    cases (yes l) r = absurd (let f = index-lt d p q p' q' a l in let z : ⊥ = omega arith in z)
    cases (no l) (yes r) = absurd (let f = index-lt d p' q' p q b r in let z : ⊥ = omega arith in z)
    cases (no l) (no r) = let g : p ≡ p' = omega arith in let f : p * d ≡ p' * d = ap (λ (i : ℕ). i * d) g in (g, omega arith)

pub record SameImplication (k v j w k' v' j' w' : ℕ) : Type 0 where
  pub variable : k ≡ k'
  pub value : v ≡ v'
  pub implied : j ≡ j'
  pub implied_value : w ≡ w'

pub byte-same : (n k v j w k' v' j' w' : ℕ) → v < 2 → j < n → w < 2 → v' < 2 → j' < n → w' < 2
    → byte_of n (literal k v) (literal j w) ≡ byte_of n (literal k' v') (literal j' w') → SameImplication k v j w k' v' j' w'
unfolding byte_of literal
byte-same n k v j w k' v' j' w' a b c d f g e =
    let i = index_same (2 * n) (2 * k + v) (2 * j + w) (2 * k' + v') (2 * j' + w') (omega arith) (omega arith) e in
    record { variable = omega arith; value = omega arith; implied = omega arith; implied_value = omega arith }

pub byte-lt : (n k v j w : ℕ) → k < n → v < 2 → j < n → w < 2 → byte_of n (literal k v) (literal j w) < 4 * (n * n)
unfolding byte_of literal
byte-lt n k v j w a b c d =
    let l = index-lt (2 * n) (2 * k + v) (2 * j + w) (2 * n) 0 (omega arith) (omega arith) in omega arith

-- ---- to record an implication that holds

pub put_holds : (n k v j w : ℕ) (x : List ℤ) (t : Table) → v < 2 → j < n → w < 2 → ImplicationHolds k v j w x
    → TableHolds n t.bytes x → TableHolds n (put t (byte_of n (literal k v) (literal j w))).bytes x
unfolding put Recorded
put_holds n k v j w x t v2 jn w2 f i = record {
  holds = λ k' v' j' w' kn' v2' jn' w2' e.
      cases k' v' j' w' kn' v2' jn' w2' (ℕ_discrete (byte_of n (literal k' v') (literal j' w')) (byte_of n (literal k v) (literal j w))) e;
}
  where
    cases : (k' v' j' w' : ℕ) → k' < n → v' < 2 → j' < n → w' < 2 → Dec (byte_of n (literal k' v') (literal j' w') ≡ byte_of n (literal k v) (literal j w))
        → get_or (set t.bytes (byte_of n (literal k v) (literal j w)) 1) (byte_of n (literal k' v') (literal j' w')) 0 ≡ 1 → ImplicationHolds k' v' j' w' x
    cases k' v' j' w' kn' v2' jn' w2' (yes e) _ =
        let s = byte-same n k' v' j' w' k v j w v2' jn' w2' v2 jn w2 e in
        rw (s.variable, s.value, s.implied, s.implied_value) f
    cases k' v' j' w' kn' v2' jn' w2' (no e) g =
        i.holds k' v' j' w' kn' v2' jn' w2'
        (sym (get_or-set_other t.bytes (byte_of n (literal k v) (literal j w)) (byte_of n (literal k' v') (literal j' w')) 1 0 e) ∙ g)

-- a variable that is 0 or 1, and not v, is 1 − v
flip : (v : ℕ) (z : ℤ) → v < 2 → pos 0 ≤ℤ z → z ≤ℤ pos 1 → z ≢ pos v → z ≡ pos (1 - v)
flip zero (pos zero) v2 a b ne = absurd (ne refl)
flip (suc v) (pos zero) v2 a b ne = omega zarith
flip zero (pos (suc z)) v2 a b ne = omega zarith
flip (suc v) (pos (suc z)) v2 a b ne = absurd (ne (omega zarith))
flip v (negsuc z) v2 a b ne = absurd a.le

-- from an implication, the other that is recorded with it
pub contrapositive : (k v j w : ℕ) (x : List ℤ) → v < 2 → w < 2 → pos 0 ≤ℤ at x k → at x k ≤ℤ pos 1
    → ImplicationHolds k v j w x → ImplicationHolds j (1 - w) k (1 - v) x
unfolding ImplicationHolds LiteralTrue
contrapositive k v j w x v2 w2 a b (inl e) = inr (λ g. let q : pos w ≡ pos (1 - w) = sym e ∙ g in let z : ⊥ = omega zarith in z)
contrapositive k v j w x v2 w2 a b (inr ne) = inl (flip v (at x k) v2 a b ne)

pub literal-decides : (k v : ℕ) (x : List ℤ) → LiteralTrue k v x ⊎ (LiteralTrue k v x → ⊥)
unfolding LiteralTrue
literal-decides k v x = cases (decide (eq_z (at x k) (pos v)))
  where
    cases : T (eq_z (at x k) (pos v)) ⊎ T (not (eq_z (at x k) (pos v))) → (at x k ≡ pos v) ⊎ (at x k ≡ pos v → ⊥)
    cases (inl t) = inl (eq_z→eq (at x k) (pos v) t)
    cases (inr t) = inr (λ e. T_not (eq_z (at x k) (pos v)) t (eq→eq_z (at x k) (pos v) e))

-- ---- what is recorded of one variable

-- ---- what one implication, and with it all that are recorded, keeps

module _ (n k : ℕ) (P : Table → Type 0) where
  pub record_side-ind : (v j : ℕ) (S : List ℤ) (t : Table) → ((w : ℕ) → w < 2 → T (is_fixed S j w) → P (implies n k v j w t)) → P t → P (record_side n k v j S t)
  unfolding record_side
  record_side-ind v j S t f p =
      cond_ind (is_fixed S j 0) _ _ P (f 0 (omega arith)) (λ _. cond_ind (is_fixed S j 1) _ _ P (f 1 (omega arith)) (λ _. p))

  pub record_to-ind : (B S0 S1 : List ℤ) (t : List ℕ)
      → ((j w : ℕ) (r : Table) → j < n → w < 2 → T (is_fixed S0 j w) → P r → P (implies n k 0 j w r))
      → ((j w : ℕ) (r : Table) → j < n → w < 2 → T (is_fixed S1 j w) → P r → P (implies n k 1 j w r))
      → P (record { bytes = t; added = 0 }) → (j : ℕ) → j ≤ n → P (record_to j n k B S0 S1 t)
  unfolding record_to
  record_to-ind B S0 S1 t f g p zero h = p
  record_to-ind B S0 S1 t f g p (suc j) h =
      let r = record_to-ind B S0 S1 t f g p j (omega arith) in
      cond_ind (not (eqb j k) && is_free B j) _ _ P
      (λ _. let r0 = record_side-ind 0 j S0 _ (λ w w2 q. f j w _ h w2 q r) r in record_side-ind 1 j S1 _ (λ w w2 q. g j w _ h w2 q r0) r0)
      (λ _. r)

-- ---- at a point that lies in the sides

module _ (n k : ℕ) (x : List ℤ) (kn : k < n) (k0 : pos 0 ≤ℤ at x k) (k1 : at x k ≤ℤ pos 1) where
  pub implies-holds : (v j w : ℕ) (t : Table) → v < 2 → j < n → w < 2 → ImplicationHolds k v j w x
      → TableHolds n t.bytes x → TableHolds n (implies n k v j w t).bytes x
  unfolding implies
  implies-holds v j w t v2 jn w2 f i =
      put_holds n j (1 - w) k (1 - v) x _ (omega arith) kn (omega arith) (contrapositive k v j w x v2 w2 k0 k1 f) (put_holds n k v j w x t v2 jn w2 f i)

  -- side v of k fixes j at w
  fixed-holds : (S : List ℤ) (v j w : ℕ) → j < n → T (is_fixed S j w) → (LiteralTrue k v x → InBox n S x) → ImplicationHolds k v j w x
  unfolding is_fixed ImplicationHolds LiteralTrue
  fixed-holds S v j w jn t f = cases (literal-decides k v x)
    where
      cases : (at x k ≡ pos v) ⊎ (at x k ≡ pos v → ⊥) → (at x j ≡ pos w) ⊎ (at x k ≡ pos v → ⊥)
      cases (inl e) =
          let l = eq_z→eq (lower S j) (pos w) (and_l (eq_z (lower S j) (pos w)) (eq_z (upper S j) (pos w)) t) in
          let u = eq_z→eq (upper S j) (pos w) (and_r (eq_z (lower S j) (pos w)) (eq_z (upper S j) (pos w)) t) in
          let a = (f e).low j jn in
          let b = (f e).high j jn in
          inl (omega zarith)
      cases (inr ne) = inr ne

  pub record_to-holds : (B S0 S1 : List ℤ) (t : List ℕ) → (LiteralTrue k 0 x → InBox n S0 x) → (LiteralTrue k 1 x → InBox n S1 x)
      → TableHolds n t x → TableHolds n (record_to n n k B S0 S1 t).bytes x
  record_to-holds B S0 S1 t f g i =
      record_to-ind n k (λ r. TableHolds n r.bytes x) B S0 S1 t
      (λ j w r h w2 q. implies-holds 0 j w r (omega arith) h w2 (fixed-holds S0 0 j w h q f))
      (λ j w r h w2 q. implies-holds 1 j w r (omega arith) h w2 (fixed-holds S1 1 j w h q g))
      i n (omega arith)

-- ---- the table stays valid, and the bytes that become 1 are counted

one_more : (b : Bool) (x y d : ℕ) → x ≡ y + d → cond b (suc x) x ≡ cond b (suc y) y + d
one_more true x y d e = omega arith
one_more false x y d e = e

ones-set : (t : List ℕ) (i : ℕ) → i < length t → get_or t i 0 < 2 → ones (set t i 1) ≡ ones t + cond (eqb (get_or t i 0) 0) 1 0
unfolding ones
ones-set [] i h b = let z : ⊥ = omega arith in absurd z
ones-set (zero ∷ t) zero h b = omega arith
ones-set (suc zero ∷ t) zero h b = omega arith
ones-set (suc (suc x) ∷ t) zero h b = let z : ⊥ = omega arith in absurd z
ones-set (x ∷ t) (suc i) h b = one_more (eqb x 1) (ones (set t i 1)) (ones t) _ (ones-set t i (omega arith) b)

-- where none is counted, byte i was 1 and stays
put-none : (t : List ℕ) (i : ℕ) → get_or t i 0 < 2 → ◌≡◌ {A = ℕ} (cond (eqb (get_or t i 0) 0) 1 0) 0 → set t i 1 ≡ t
put-none t i h e = let f = byte_one (get_or t i 0) h e in ap (set t i) (sym f) ∙ set-get_or t i 0
  where
    byte_one : (b : ℕ) → b < 2 → ◌≡◌ {A = ℕ} (cond (eqb b 0) 1 0) 0 → b ≡ 1
    byte_one zero h e = let z : ⊥ = omega arith in absurd z
    byte_one (suc b) h e = omega arith

-- r is a valid table that has come of t, with its bytes that became 1 counted
pub record Grown (n : ℕ) (t : List ℕ) (r : Table) : Type 0 where
  pub valid : ValidTable n r.bytes
  pub count : ones r.bytes ≡ ones t + r.added
  pub same : r.added ≡ 0 → r.bytes ≡ t

pub put-grown : {n : ℕ} {t : List ℕ} {r : Table} (i : ℕ) → i < 4 * (n * n) → Grown n t r → Grown n t (put r i)
unfolding put
put-grown {n} {t} {r} i h g = record {
  valid = record { len = length-set r.bytes i 1 ∙ g.valid.len; bits = get_d-set-all r.bytes i 1 0 (λ b. b < 2) (omega arith) g.valid.bits };
  count = let e = ones-set r.bytes i (omega (arith, g.valid.len)) (g.valid.bits i) in omega (arith, g.count);
  same = λ e. put-none r.bytes i (g.valid.bits i) (omega arith) ∙ g.same (omega arith);
}

pub implies-grown : {n : ℕ} {t : List ℕ} {r : Table} (k v j w : ℕ) → k < n → v < 2 → j < n → w < 2 → Grown n t r → Grown n t (implies n k v j w r)
unfolding implies
implies-grown {n} k v j w kn v2 jn w2 g =
    put-grown _ (byte-lt n j (1 - w) k (1 - v) jn (omega arith) kn (omega arith)) (put-grown _ (byte-lt n k v j w kn v2 jn w2) g)

module _ (n k : ℕ) (B S0 S1 : List ℤ) (t : List ℕ) (kn : k < n) (v : ValidTable n t) where
  pub record_to-grown : (j : ℕ) → j ≤ n → Grown n t (record_to j n k B S0 S1 t)
  record_to-grown =
      record_to-ind n k (Grown n t) B S0 S1 t
      (λ j w r h w2 q. implies-grown k 0 j w kn (omega arith) h w2)
      (λ j w r h w2 q. implies-grown k 1 j w kn (omega arith) h w2)
      (record { valid = v; count = omega arith; same = λ _. refl })

  pub record_to-valid : ValidTable n (record_to n n k B S0 S1 t).bytes
  record_to-valid = (record_to-grown n (omega arith)).valid

  pub record_to-added : ones (record_to n n k B S0 S1 t).bytes ≡ ones t + (record_to n n k B S0 S1 t).added
  record_to-added = (record_to-grown n (omega arith)).count

  pub record_to-same : (record_to n n k B S0 S1 t).added ≡ 0 → (record_to n n k B S0 S1 t).bytes ≡ t
  record_to-same = (record_to-grown n (omega arith)).same

-- ---- the table all 0

pub get_d-zeros : (m i : ℕ) → ◌≡◌ {A = ℕ} (get_or (replicate m 0) i 0) 0
get_d-zeros zero i = refl
get_d-zeros (suc m) zero = refl
get_d-zeros (suc m) (suc i) = get_d-zeros m i

pub zeros-hold : (n m : ℕ) (x : List ℤ) → TableHolds n (replicate m 0) x
unfolding Recorded
zeros-hold n m x = record {
  holds = λ k v j w _ _ _ _ e. let q = get_d-zeros m (byte_of n (literal k v) (literal j w)) in absurd (let z : ⊥ = omega arith in z);
}
