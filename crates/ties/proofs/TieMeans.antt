-- The tie call's meaning: its tests in words, its two answers, each number that it writes.
use Prim.Native.Nat.{◌*◌, ◌+◌, ◌-◌, ◌<◌, ℕ}
use lib.Dec.{T, T_not, eqb, eqb→eq, not_T}
use lib.IntN.{pos, ℤ}
use lib.ListN.{get_or, length, length-set, set}
use lib.Seq.{get_or-set_other, get_or-set_same}
use lib.Signed.{◌≤ℤ◌, le_z}
use mathlib.Core.Bool.{◌&&◌, not}
use mathlib.Core.List.{List}
use mathlib.Core.Logic.{◌↔◌, ◌≢◌, ◌⊎◌, inl, inr, ⊎_elim}
use mathlib.Core.Path.{◌∙◌, ◌≡◌, ap, refl, subst, sym}
use native.Mathlib.Omega.{arith}
use Rattle.integer.proofs.IndexLaws.{all-test}
use Rattle.integer.proofs.Parts.{zarith}
use Rattle.integer.proofs.Tests.{and_i, both, cond_ind, eqb-test}
use Rattle.model.specs.Box.{at, empty_box, is_free, lower}
use Rattle.model.specs.Limits.{max_coef, max_rhs, min_coef, min_rhs}
use Rattle.model.specs.Model.{Model}
use Rattle.model.specs.Rows.{Row, row_of}
use Rattle.model.specs.Valid.{Between}
use Rattle.model.proofs.BoxLaws.{free-lower, is_empty-bounds, is_empty-test}
use Rattle.model.proofs.CheckLaws.{between-test}
use Rattle.model.proofs.RowsLaws.{at-row_of, length-row_of}
use Rattle.semantics.specs.Probe.{byte_of, literal}
use Rattle.call_laws.specs.Points.{Recorded}
use Rattle.ties.specs.TieCall.{TieAnswer, TieCall, TiePerformed, can_tie, perform_tie, place_of, refused, same, says, says_byte, tie, tie_state, tie_with, tied}
use Rattle.ties.specs.TieMeans.{Demand2Tie, Says, Tied, TieMeans, Ties, new_coef, new_rhs}
use Rattle.ties.specs.TiedRow.{row_fits, rows_fit, tie_rows_to, tie_to, tied_coef, tied_coefs, tied_rhs}
use Rattle.ties.specs.Ties.{TiedState, ValidTiedState}
use Rattle.ties.proofs.TieAccepted.{tie-accepted}
use Rattle.ties.proofs.TieLaws.{CanTie, can-tie, tie-adds-none, tie-same-points, tie-valid, tied-fractional}
use Rattle.ties.proofs.TiedRowsLaws.{tied-done}

-- ---- the tests

says-test : (s : TiedState) (k j w : ℕ) → T (says s.state.model.n s.state.table k j w) ↔ Says s k j w
unfolding says says_byte Says Recorded
says-test s k j w =
    let n = s.state.model.n in let t = s.state.table in
    let a = get_or t (byte_of n (literal k 0) (literal j w)) 0 in let b = get_or t (byte_of n (literal k 1) (literal j (1 - w))) 0 in
    both (eqb a 1) (eqb b 1) (eqb-test a 1) (eqb-test b 1)

fits-test : (M : Model) (k j w : ℕ) → k < M.n → j < M.n
    → T (rows_fit k j w M) ↔ ((i : ℕ) → i < M.m → Between min_coef max_coef (new_coef M k j w i) × Between min_rhs max_rhs (new_rhs M j w i))
unfolding rows_fit row_fits new_coef new_rhs
fits-test M k j w kn jn = all-test M.m _ (λ i.
    rw (← at-row_of M.n M.rows.coefs i k kn, ← at-row_of M.n M.rows.coefs i j jn)
    (let A = row_of M.n M.rows.coefs i in let a = tied_coef w (at A k) (at A j) in let b = tied_rhs j w A (at M.rows.rhs i) in
    both (le_z min_coef a && le_z a max_coef) (le_z min_rhs b && le_z b max_rhs) (between-test min_coef max_coef a) (between-test min_rhs max_rhs b)))

can-tie-i : (s : TiedState) (k j w : ℕ) → CanTie s k j w → T (can_tie s k j w)
unfolding can_tie
can-tie-i s k j w c =
    let B = s.state.model.box in
    let a = not (eqb k j) in let b = is_free B k in let d = is_free B j in
    let f = eqb (get_or s.ties k 0) 0 in let g = eqb (get_or s.ties j 0) 0 in let h = rows_fit k j w s.state.model in
    and_i (a && (b && d)) ((f && g) && h)
    (and_i a (b && d) (not_T (eqb k j) (λ t. c.differ (sym (eqb→eq k j t)))) (and_i b d c.free_k c.free_j))
    (and_i (f && g) h (and_i f g ((eqb-test (get_or s.ties k 0) 0).1 c.k_is_open) ((eqb-test (get_or s.ties j 0) 0).1 c.j_is_open)) c.fit)

module _ (s : TiedState) (k j : ℕ) (kn : k < s.state.model.n) (jn : j < s.state.model.n) where
  pub ties-can : (w : ℕ) → Ties s k j w → CanTie s k j w
  ties-can w t = record {
    differ = t.differ;
    free_k = t.free.0;
    free_j = t.free.1;
    k_is_open = t.untied.0;
    j_is_open = t.untied.1;
    fit = (fits-test s.state.model k j w kn jn).1 t.fits;
  }

  can-ties : (w : ℕ) → (w ≡ 0) ⊎ ((w ≡ 1) × (Says s k j 0 → ⊥)) → Says s k j w → CanTie s k j w → Ties s k j w
  can-ties w e y c = record {
    value = e;
    says = y;
    differ = c.differ;
    free = (c.free_k, c.free_j);
    untied = (c.k_is_open, c.j_is_open);
    fits = (fits-test s.state.model k j w kn jn).0 c.fit;
  }

  -- there is one w at most
  pub ties-one : (w u : ℕ) → Ties s k j w → Ties s k j u → w ≡ u
  ties-one w u t q = go t.value q.value
    where
      go : (w ≡ 0) ⊎ ((w ≡ 1) × (Says s k j 0 → ⊥)) → (u ≡ 0) ⊎ ((u ≡ 1) × (Says s k j 0 → ⊥)) → w ≡ u
      go (inl e) (inl f) = e ∙ sym f
      go (inr e) (inr f) = e.0 ∙ sym f.0
      go (inl e) (inr f) = absurd (f.1 (subst (Says s k j) e t.says))
      go (inr e) (inl f) = absurd (e.1 (subst (Says s k j) f q.says))

  -- the two answers
  pub tie-cases : (P : TiePerformed → Type 0) → ((w : ℕ) → w < 2 → Ties s k j w → P (record { answer = tied; state = tie_state s k j w }))
      → (((w : ℕ) → Ties s k j w → ⊥) → P (record { answer = same; state = s })) → P (tie s k j)
  unfolding tie tie_with
  tie-cases P f g =
      let n = s.state.model.n in let t = s.state.table in
      cond_ind (says n t k j 0) _ _ P
      (λ y. cond_ind (can_tie s k j 0) _ _ P
      (λ c. f 0 (omega arith) (can-ties 0 (inl refl) ((says-test s k j 0).0 y) (can-tie s k j 0 c)))
      (λ c. g (λ w q. no0 c y w q q.value)))
      (λ y. cond_ind (says n t k j 1) _ _ P
      (λ z. cond_ind (can_tie s k j 1) _ _ P
      (λ c. f 1 (omega arith) (can-ties 1 (inr (refl, λ u. T_not (says n t k j 0) y ((says-test s k j 0).1 u))) ((says-test s k j 1).0 z) (can-tie s k j 1 c)))
      (λ c. g (λ w q. no1 y (λ q₁. T_not (can_tie s k j 1) c (can-tie-i s k j 1 (ties-can 1 q₁))) w q q.value)))
      (λ z. g (λ w q. no1 y (λ q₁. T_not (says n t k j 1) z ((says-test s k j 1).1 q₁.says)) w q q.value)))
    where
      no0 : T (not (can_tie s k j 0)) → T (says s.state.model.n s.state.table k j 0) → (w : ℕ) → Ties s k j w → (w ≡ 0) ⊎ ((w ≡ 1) × (Says s k j 0 → ⊥)) → ⊥
      no0 c y w q (inl e) = T_not (can_tie s k j 0) c (can-tie-i s k j 0 (ties-can 0 (subst (Ties s k j) e q)))
      no0 c y w q (inr e) = e.1 ((says-test s k j 0).0 y)

      no1 : T (not (says s.state.model.n s.state.table k j 0)) → (Ties s k j 1 → ⊥) → (w : ℕ) → Ties s k j w → (w ≡ 0) ⊎ ((w ≡ 1) × (Says s k j 0 → ⊥)) → ⊥
      no1 y f w q (inl e) = T_not (says s.state.model.n s.state.table k j 0) y ((says-test s k j 0).1 (subst (Says s k j) e q.says))
      no1 y f w q (inr e) = f (subst (Ties s k j) e.0 q)

-- ---- each number written

module _ (A : List ℤ) (n k j w : ℕ) (kn : k < n) (jn : j < n) (ne : j ≢ k) (len : length A ≡ n) where
  abbrev a : ℤ
  a = tied_coef w (at A k) (at A j)

  pub tied-at-k : at (tied_coefs k j w A) k ≡ a
  unfolding tied_coefs
  tied-at-k = get_or-set_other (set A k a) j k (pos 0) (pos 0) (λ e. ne (sym e)) ∙ get_or-set_same A k a (pos 0) (omega arith)

  pub tied-at-j : at (tied_coefs k j w A) j ≡ pos 0
  unfolding tied_coefs
  tied-at-j = get_or-set_same (set A k a) j (pos 0) (pos 0) (omega (arith, length-set A k a))

  pub tied-at-other : (c : ℕ) → c ≢ k → c ≢ j → at (tied_coefs k j w A) c ≡ at A c
  unfolding tied_coefs
  tied-at-other c p q = get_or-set_other (set A k a) j c (pos 0) (pos 0) q ∙ get_or-set_other A k c a (pos 0) p

module _ (s : TiedState) (k j w : ℕ) (v : ValidTiedState s) (kn : k < s.state.model.n) (jn : j < s.state.model.n) (w2 : w < 2) (c : CanTie s k j w) where
  -- a coefficient of the new row i is that of its row
  new-at : (i q : ℕ) → i < s.state.model.m → q < s.state.model.n
      → at (tie_state s k j w).state.model.rows.coefs (i * s.state.model.n + q) ≡ at (tied_coefs k j w (row_of s.state.model.n s.state.model.rows.coefs i)) q
  unfolding tie_state tie_to
  new-at i q h qn =
      let z = (tie_state s k j w).state in
      sym (at-row_of s.state.model.n z.model.rows.coefs i q qn)
      ∙ ap (λ (r : Row). at r.coefs q) (tied-done s.state k j w v.state.model c.fit i h)

  pub tie-written : Tied s (tie_state s k j w) k j w
  unfolding tie_state tie_to new_coef new_rhs
  tie-written =
      let n = s.state.model.n in let C = s.state.model.rows.coefs in
      let len : (i : ℕ) → i < s.state.model.m → length (row_of n C i) ≡ n = (λ i h. length-row_of n s.state.model.m C i v.state.model.coefs_len h) in
      record {
        coef_k = λ i h. new-at i k h kn ∙ tied-at-k (row_of n C i) n k j w kn jn c.differ (len i h)
            ∙ rw (at-row_of n C i k kn, at-row_of n C i j jn);
        coef_j = λ i h. new-at i j h jn ∙ tied-at-j (row_of n C i) n k j w kn jn c.differ (len i h);
        coefs = λ i q h qn p r. new-at i q h qn ∙ tied-at-other (row_of n C i) n k j w kn jn c.differ (len i h) q p r ∙ at-row_of n C i q qn;
        rhs = λ i h. ap (λ (r : Row). r.rhs) (tied-done s.state k j w v.state.model c.fit i h);
        place = get_or-set_same s.ties j (place_of k w) 0 (omega (arith, v.ties.len));
        places = λ q ne. get_or-set_other s.ties j q (place_of k w) 0 ne;
      }

-- ---- the claim

not-both : same ≡ tied → ⊥
not-both e = subst told e tt
  where
    told : TieAnswer → Type 0
    told (refused N) = Unit {0}
    told tied = ⊥
    told same = Unit {0}

tied-means : (s : TiedState) (c : TieCall) (w : ℕ) → ValidTiedState s → c.k < s.state.model.n → c.j < s.state.model.n → w < 2 → Ties s c.k c.j w
    → T (says s.state.model.n s.state.table c.k c.j w) → TieMeans s c (record { answer = tied; state = tie_state s c.k c.j w })
unfolding tie_state tie_to tie_rows_to
tied-means s c w v kn jn w2 t y =
    let k = c.k in let j = c.j in
    let can = ties-can s k j kn jn w t in
    record {
      is_tied = ((λ _. (w, t)), (λ _. refl));
      written = λ u q. subst (Tied s (tie_state s k j w) k j) (ties-one s k j kn jn w u t q) (tie-written s k j w v kn jn w2 can);
      answers = inl refl;
      is_same = λ e. absurd (not-both (sym e));
      sizes = (refl, refl);
      untouched = (refl, refl);
      kinds = refl;
      valid = tie-valid s k j w v kn jn w2 can;
      adds = λ x p. (tied-fractional s x).1 (tie-adds-none s k j w v kn jn w2 can x 1 ((tied-fractional (tie_state s k j w) x).0 p));
      fractional = λ x d p. tie-adds-none s k j w v kn jn w2 can x d p;
      points = λ i x. tie-same-points s k j w v kn jn w2 can y x (i x);
    }

same-means : (s : TiedState) (c : TieCall) → ValidTiedState s → ((w : ℕ) → Ties s c.k c.j w → ⊥) → TieMeans s c (record { answer = same; state = s })
same-means s c v f = record {
  is_tied = ((λ e. absurd (not-both e)), (λ p. absurd (f p.0 p.1)));
  written = λ w t. absurd (f w t);
  answers = inr refl;
  is_same = λ _. refl;
  sizes = (refl, refl);
  untouched = (refl, refl);
  kinds = refl;
  valid = v;
  adds = λ x p. p;
  fractional = λ x d p. p;
  points = λ _ x. ((λ p. p), (λ p. p));
}

pub demand-2-tie : Demand2Tie
unfolding Demand2Tie perform_tie
demand-2-tie s c e =
    let a = tie-accepted s c e in
    rw e (tie-cases s c.k c.j a.k a.j (TieMeans s c)
    (λ w w2 t. tied-means s c w a.valid a.k a.j w2 t ((says-test s c.k c.j w).1 t.says))
    (same-means s c a.valid))

-- ---- more of the same

-- "if k or j is not free 0-1": so always on the empty box
pub tie-empty : (s : TiedState) (k j : ℕ) → k < s.state.model.n → j < s.state.model.n → s.state.model.box ≡ empty_box s.state.model.n → tie s k j ≡ record { answer = same; state = s }
tie-empty s k j kn jn e = tie-cases s k j kn jn (λ r. r ≡ record { answer = same; state = s })
    (λ w _ t. absurd (none (free-lower s.state.model.box k t.free.0) (((is_empty-bounds s.state.model.n s.state.model.box).0 ((is_empty-test s.state.model.n s.state.model.box).1 e)).1 k kn).0))
    (λ _. refl)
  where
    none : lower s.state.model.box k ≡ pos 0 → lower s.state.model.box k ≡ pos 1 → ⊥
    none a b = let z : pos 1 ≤ℤ pos 0 = omega zarith in absurd z.le

-- once j has a place it is never tied again, nor is anything tied to it
pub tied-once : (s : TiedState) (k j : ℕ) → k < s.state.model.n → j < s.state.model.n → (get_or s.ties k 0 ≢ 0) ⊎ (get_or s.ties j 0 ≢ 0)
    → tie s k j ≡ record { answer = same; state = s }
tied-once s k j kn jn h = tie-cases s k j kn jn (λ r. r ≡ record { answer = same; state = s })
    (λ w _ t. absurd (⊎_elim (λ n. n t.untied.0) (λ n. n t.untied.1) h)) (λ _. refl)

-- and a tie gives it one: Tied always changes the list
pub tied-moves : {s r : TiedState} {k j w : ℕ} → Ties s k j w → Tied s r k j w → get_or r.ties j 0 ≢ get_or s.ties j 0
unfolding place_of
tied-moves t d e = let p = d.place in let q = t.untied.1 in let z : ⊥ = omega arith in z
