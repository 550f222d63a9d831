-- Laws of the tie call: no point is added; where what the table says holds, none is lost; the state stays valid.
use Prim.Native.Nat.{◌%◌, ◌*◌, ◌+◌, ◌-◌, ◌/◌, ◌<◌, ◌≤◌, suc, zero, ℕ}
use lib.Dec.{T, eqb, eqb→eq}
use lib.IntN.{negsuc, pos, ℤ}
use lib.ListN.{get_or, length, length-set, set}
use lib.Seq.{get_or-set_other, get_or-set_same}
use lib.Signed.{◌≤ℤ◌}
use mathlib.Core.Bool.{◌&&◌, not}
use mathlib.Core.List.{List}
use mathlib.Core.Logic.{◌↔◌, ◌≢◌, ◌⊎◌, inl, inr}
use mathlib.Core.Path.{◌∙◌, ◌≡◌, refl, sym}
use native.Mathlib.Decide.{ℕ_discrete}
use native.Mathlib.Omega.{arith}
use Rattle.integer.proofs.IndexLaws.{get_d-set-all}
use Rattle.integer.proofs.Parts.{zarith}
use Rattle.integer.proofs.Tests.{and_l, and_r, cond_ind, neqb→ne}
use Rattle.model.specs.Box.{at, is_free}
use Rattle.model.proofs.BoxLaws.{free-lower, free-upper}
use Rattle.model.proofs.PointLaws.{integer-fractional}
use Rattle.semantics.specs.Probe.{byte_of, literal}
use Rattle.call_laws.specs.Points.{ImplicationHolds, LiteralTrue, Recorded, TableHolds}
use Rattle.ties.specs.TieCall.{TiePerformed, can_tie, place_of, says, says_byte, tie, tie_state, tie_with}
use Rattle.ties.specs.TiedRow.{rows_fit, tie_to}
use Rattle.ties.specs.Ties.{TieHoldsOver, TiedFractional, TiedPoint, TiedState, TiesHoldOver, ValidTiedState, linked}
use Rattle.ties.proofs.TiedRowsLaws.{rows-points, tie_to-valid}

-- ---- integer points are fractional points over 1

pub tied-fractional : (s : TiedState) (x : List ℤ) → TiedPoint s x ↔ TiedFractional s x 1
tied-fractional s x =
    let d = integer-fractional s.state.model x in
    ((λ p. record { point = d.0 p.point; ties = p.ties }), (λ p. record { point = d.1 p.point; ties = p.ties }))

-- ---- a place

place-means : (k j w : ℕ) (x : List ℤ) (d : ℕ) → w < 2 → TieHoldsOver (place_of k w) j x d ↔ (at x j ≡ linked k (1 - w) x d)
unfolding place_of TieHoldsOver literal
place-means k j w x d h =
    let e : (2 * k + (1 - w)) / 2 ≡ k = omega arith in
    let f : (2 * k + (1 - w)) % 2 ≡ 1 - w = omega arith in
    rw (e, f) ((λ p. p), (λ p. p))

-- ---- the list with one place set

module _ (n : ℕ) (ties : List ℕ) (j p : ℕ) (x : List ℤ) (d : ℕ) (jl : j < length ties) where
  ties-set : TiesHoldOver n ties x d → TieHoldsOver p j x d → TiesHoldOver n (set ties j p) x d
  ties-set t q = record { holds = λ i h. go i (ℕ_discrete i j) (t.holds i h) }
    where
      go : (i : ℕ) → Dec (i ≡ j) → TieHoldsOver (get_or ties i 0) i x d → TieHoldsOver (get_or (set ties j p) i 0) i x d
      go i (yes e) o = rw (e, get_or-set_same ties j p 0 jl) q
      go i (no e) o = rw (get_or-set_other ties j i p 0 e) o

  ties-unset : get_or ties j 0 ≡ 0 → TiesHoldOver n (set ties j p) x d → TiesHoldOver n ties x d
  unfolding TieHoldsOver
  ties-unset z t = record { holds = λ i h. go i (ℕ_discrete i j) (t.holds i h) }
    where
      go : (i : ℕ) → Dec (i ≡ j) → TieHoldsOver (get_or (set ties j p) i 0) i x d → TieHoldsOver (get_or ties i 0) i x d
      go i (yes e) o = rw (e, z) tt
      go i (no e) o = rw (get_or-set_other ties j i p 0 e) at o

  ties-at : j < n → TiesHoldOver n (set ties j p) x d → TieHoldsOver p j x d
  ties-at h t = rw (get_or-set_same ties j p 0 jl) at (t.holds j h)

-- ---- what the tests of the call come to

pub record CanTie (s : TiedState) (k j w : ℕ) : Type 0 where
  pub differ : j ≢ k
  pub free_k : T (is_free s.state.model.box k)
  pub free_j : T (is_free s.state.model.box j)
  pub k_is_open : get_or s.ties k 0 ≡ 0
  pub j_is_open : get_or s.ties j 0 ≡ 0
  pub fit : T (rows_fit k j w s.state.model)

pub can-tie : (s : TiedState) (k j w : ℕ) → T (can_tie s k j w) → CanTie s k j w
unfolding can_tie
can-tie s k j w t =
    let B = s.state.model.box in
    let a = not (eqb k j) in let b = is_free B k in let c = is_free B j in
    let f = eqb (get_or s.ties k 0) 0 in let g = eqb (get_or s.ties j 0) 0 in let h = rows_fit k j w s.state.model in
    let l = and_l (a && (b && c)) ((f && g) && h) t in let r = and_r (a && (b && c)) ((f && g) && h) t in
    let q = and_r a (b && c) l in let p = and_l (f && g) h r in
    record {
      differ = λ e. neqb→ne k j (and_l a (b && c) l) (sym e);
      free_k = and_l b c q;
      free_j = and_r b c q;
      k_is_open = eqb→eq (get_or s.ties k 0) 0 (and_l f g p);
      j_is_open = eqb→eq (get_or s.ties j 0) 0 (and_r f g p);
      fit = and_r (f && g) h r;
    }

-- the call leaves s, or s with the tie that the table says
pub tie-ind : (s : TiedState) (k j : ℕ) (P : TiedState → Type 0)
    → P s → ((w : ℕ) → w < 2 → T (says s.state.model.n s.state.table k j w) → CanTie s k j w → P (tie_state s k j w)) → P (tie s k j).state
unfolding tie tie_with
tie-ind s k j P p f =
    cond_ind (says s.state.model.n s.state.table k j 0) _ _ (λ (r : TiePerformed). P r.state)
    (λ t. cond_ind (can_tie s k j 0) _ _ (λ (r : TiePerformed). P r.state) (λ c. f 0 (omega arith) t (can-tie s k j 0 c)) (λ _. p))
    (λ _. cond_ind (says s.state.model.n s.state.table k j 1) _ _ (λ (r : TiePerformed). P r.state)
    (λ t. cond_ind (can_tie s k j 1) _ _ (λ (r : TiePerformed). P r.state) (λ c. f 1 (omega arith) t (can-tie s k j 1 c)) (λ _. p))
    (λ _. p))

-- ---- one tie

module _ (s : TiedState) (k j w : ℕ) (v : ValidTiedState s) (kn : k < s.state.model.n) (jn : j < s.state.model.n) (w2 : w < 2) (c : CanTie s k j w) where
  jl : j < length s.ties
  jl = omega (arith, v.ties.len)

  -- no point is added, whatever the table
  pub tie-adds-none : (x : List ℤ) (d : ℕ) → TiedFractional (tie_state s k j w) x d → TiedFractional s x d
  unfolding tie_state tie_to
  tie-adds-none x d p =
      let e = (place-means k j w x d w2).0 (ties-at s.state.model.n s.ties j (place_of k w) x d jl jn p.ties) in
      record {
        point = (rows-points s.state k j w v.state.model c.fit kn jn c.differ w2 x d e).0 p.point;
        ties = ties-unset s.state.model.n s.ties j (place_of k w) x d jl c.j_is_open p.ties;
      }

  -- none is lost that has the tie
  pub tie-keeps : (x : List ℤ) (d : ℕ) → at x j ≡ linked k (1 - w) x d → TiedFractional s x d → TiedFractional (tie_state s k j w) x d
  unfolding tie_state tie_to
  tie-keeps x d e p = record {
    point = (rows-points s.state k j w v.state.model c.fit kn jn c.differ w2 x d e).1 p.point;
    ties = ties-set s.state.model.n s.ties j (place_of k w) x d jl p.ties ((place-means k j w x d w2).1 e);
  }

  pub tie-valid : ValidTiedState (tie_state s k j w)
  unfolding tie_state tie_to place_of literal
  tie-valid = record {
    state = record { model = tie_to-valid s.state k j w v.state.model c.fit s.state.model.m (omega arith); table = v.state.table };
    ties = record {
      len = length-set s.ties j (place_of k w) ∙ v.ties.len;
      places = get_d-set-all s.ties j (place_of k w) 0 (λ p. p ≤ 2 * s.state.model.n) (omega arith) v.ties.places;
    };
  }

-- ---- what the table says is so, where each recorded implication holds

says-recorded : (n : ℕ) (t : List ℕ) (k j w : ℕ) → T (says n t k j w) → Recorded n t k 0 j w × Recorded n t k 1 j (1 - w)
unfolding says says_byte Recorded
says-recorded n t k j w q =
    let a = eqb (get_or t (byte_of n (literal k 0) (literal j w)) 0) 1 in
    let b = eqb (get_or t (byte_of n (literal k 1) (literal j (1 - w))) 0) 1 in
    (eqb→eq _ 1 (and_l a b q), eqb→eq _ 1 (and_r a b q))

zero-or-one : (x : ℤ) → pos 0 ≤ℤ x → x ≤ℤ pos 1 → (x ≡ pos 0) ⊎ (x ≡ pos 1)
zero-or-one (pos zero) a b = inl refl
zero-or-one (pos (suc x)) a b = inr (omega zarith)
zero-or-one (negsuc x) a b = absurd a.le

holds_then : (k v j w : ℕ) (x : List ℤ) → at x k ≡ pos v → ImplicationHolds k v j w x → at x j ≡ pos w
unfolding ImplicationHolds LiteralTrue
holds_then k v j w x e (inl h) = h
holds_then k v j w x e (inr h) = absurd (h e)

-- j is w where k is 0, and 1 − w where k is 1
link : (k j w : ℕ) (x : List ℤ) → w < 2 → (at x k ≡ pos 0) ⊎ (at x k ≡ pos 1)
    → (at x k ≡ pos 0 → at x j ≡ pos w) → (at x k ≡ pos 1 → at x j ≡ pos (1 - w)) → at x j ≡ linked k (1 - w) x 1
unfolding linked
link k j zero x h (inl e) f g = f e ∙ sym e
link k j zero x h (inr e) f g = g e ∙ sym e
link k j (suc zero) x h (inl e) f g = rw (f e, e)
link k j (suc zero) x h (inr e) f g = rw (g e, e)
link k j (suc (suc w)) x h e f g = absurd (let z : ⊥ = omega arith in z)

pub said-link : (s : TiedState) (k j w : ℕ) (x : List ℤ) → k < s.state.model.n → j < s.state.model.n → w < 2 → CanTie s k j w
    → T (says s.state.model.n s.state.table k j w) → TiedPoint s x → TableHolds s.state.model.n s.state.table x → at x j ≡ linked k (1 - w) x 1
said-link s k j w x kn jn w2 c t p i =
    let B = s.state.model.box in
    let r = says-recorded s.state.model.n s.state.table k j w t in
    let l = p.point.inside.low k kn in let h = p.point.inside.high k kn in
    let l' = free-lower B k c.free_k in let h' = free-upper B k c.free_k in
    link k j w x w2 (zero-or-one (at x k) (omega zarith) (omega zarith))
    (λ e. holds_then k 0 j w x e (i.holds k 0 j w kn (omega arith) jn w2 r.0))
    (λ e. holds_then k 1 j (1 - w) x e (i.holds k 1 j (1 - w) kn (omega arith) jn (omega arith) r.1))

-- The same integer points exactly, of a tie that the table says, where at each of the points before each recorded implication holds.
pub tie-same-points : (s : TiedState) (k j w : ℕ) → ValidTiedState s → k < s.state.model.n → j < s.state.model.n → w < 2 → CanTie s k j w
    → T (says s.state.model.n s.state.table k j w) → (x : List ℤ) → (TiedPoint s x → TableHolds s.state.model.n s.state.table x)
    → TiedPoint (tie_state s k j w) x ↔ TiedPoint s x
tie-same-points s k j w v kn jn w2 c t x i = (
  (λ p. (tied-fractional s x).1 (tie-adds-none s k j w v kn jn w2 c x 1 ((tied-fractional (tie_state s k j w) x).0 p))),
  (λ p. (tied-fractional (tie_state s k j w) x).1
      (tie-keeps s k j w v kn jn w2 c x 1 (said-link s k j w x kn jn w2 c t p (i p)) ((tied-fractional s x).0 p))),
)
