-- Cliques: what is grown is a clique to which nothing can be added, and its row holds where the table does, over variables that are
-- 0 or 1 there. Of the literals of a clique at most one is true: `truths` counts them by the row's left side.
use Prim.Native.Nat.{◌*◌, ◌+◌, ◌-◌, ◌<◌, ◌≤◌, suc, zero, ℕ}
use lib.Dec.{T, eqb, eqb_refl, eqb→eq, leb}
use lib.IntN.{◌*ℤ◌, ◌+ℤ◌, negsuc, pos, zero-*ℤ, ℤ}
use lib.ListN.{get_or, length, length-set, set}
use lib.Seq.{get_or-set_other}
use lib.Signed.{◌≤ℤ◌}
use mathlib.Core.Bool.{◌&&◌, cond, false, not}
use mathlib.Core.List.{List, [], ◌++◌, ◌∷◌}
use mathlib.Core.Logic.{◌≢◌, ◌⊎◌, inl, inr, ⊎_elim}
use mathlib.Core.Path.{◌∙◌, ◌≡◌, refl, sym}
use native.Mathlib.Decide.{dec_lt, ℕ_discrete}
use native.Mathlib.Omega.{arith}
use Rattle.integer.proofs.Parts.{zarith, zify}
use Rattle.integer.proofs.Tests.{T→true, and_i, and_l, and_r, cond_ind, decide, leb-test, neqb→ne, or_cases, or_inl, or_inr}
use Rattle.model.specs.Box.{at}
use Rattle.model.specs.Point.{RowHolds, dot}
use Rattle.row.proofs.RedundancyLaws.{at-zero_row, dot-zero_row, length-zero_row}
use Rattle.semantics.specs.Probe.{byte_of, literal}
use Rattle.call_laws.specs.Points.{ImplicationHolds, LiteralTrue, Recorded, TableHolds}
use Rattle.ties.proofs.TiedRowLaws.{dot-set}
use Rattle.cliques.specs.CliqueClaims.{AllMet, CliquesMet, GrownCliques, TableBinary, ZeroOrOne}
use Rattle.cliques.specs.Cliques.{clique_rhs, clique_row, cliques, cliques_to, coef_of, grow, grow_to, is_new, joined, joined_to_all, meant_at_zero, member, opposite, says, seen, value_of, variable_of}

-- ---- literals

pub literal-parts : (q : ℕ) → literal (variable_of q) (value_of q) ≡ q
unfolding literal variable_of value_of
literal-parts q = omega arith

pub variable-lt : (n q : ℕ) → q < 2 * n → variable_of q < n
unfolding variable_of
variable-lt n q h = omega arith

pub value-lt : (q : ℕ) → value_of q < 2
unfolding value_of
value-lt q = omega arith

-- ---- joined literals

module _ (n : ℕ) (t : List ℕ) where
  pub joined-apart : (p q : ℕ) → T (joined n t p q) → variable_of p ≢ variable_of q
  unfolding joined
  joined-apart p q h e = neqb→ne (variable_of p) (variable_of q) (and_l (not (eqb (variable_of p) (variable_of q))) _ h) e

  pub joined-recorded : (p q : ℕ) → T (joined n t p q) → Recorded n t (variable_of p) (value_of p) (variable_of q) (1 - value_of q)
  unfolding joined says opposite Recorded
  joined-recorded p q h =
      let a = not (eqb (variable_of p) (variable_of q)) in
      let b = eqb (get_or t (byte_of n p (literal (variable_of q) (1 - value_of q))) 0) 1 in
      let d = eqb (get_or t (byte_of n q (literal (variable_of p) (1 - value_of p))) 0) 1 in
      rw (literal-parts p) (eqb→eq _ 1 (and_l b d (and_r a (b && d) h)))

  pub joined-sym : (p q : ℕ) → T (joined n t p q) → T (joined n t q p)
  unfolding joined
  joined-sym p q h =
      let a = not (eqb (variable_of p) (variable_of q)) in
      let b = says n t p (opposite q) in
      let d = says n t q (opposite p) in
      and_i (not (eqb (variable_of q) (variable_of p))) (d && b)
      (not_eqb (variable_of q) (variable_of p) (λ e. neqb→ne (variable_of p) (variable_of q) (and_l a (b && d) h) (sym e)))
      (and_i d b (and_r b d (and_r a (b && d) h)) (and_l b d (and_r a (b && d) h)))
    where
      not_eqb : (x y : ℕ) → (x ≡ y → ⊥) → T (not (eqb x y))
      not_eqb x y f = ⊎_elim (λ (u : T (eqb x y)). absurd (f (eqb→eq x y u))) (λ u. u) (decide (eqb x y))

  pub not-joined-self : (q : ℕ) → T (joined n t q q) → ⊥
  not-joined-self q h = joined-apart q q h refl

  pub all-joined-at : (q : ℕ) (c : List ℕ) → T (joined_to_all n t q c) → (j : ℕ) → j < length c → T (joined n t q (get_or c j 0))
  unfolding joined_to_all
  all-joined-at q [] h j l = absurd (let z : ⊥ = omega arith in z)
  all-joined-at q (p ∷ c) h zero l = and_l (joined n t q p) (joined_to_all n t q c) h
  all-joined-at q (p ∷ c) h (suc j) l = all-joined-at q c (and_r (joined n t q p) (joined_to_all n t q c) h) j (omega arith)

  -- ---- growing

  -- each member is joined to all that were taken before it
  unfoldable pub AllJoined : List ℕ → Type 0
  AllJoined [] = Unit {0}
  AllJoined (q ∷ c) = T (joined_to_all n t q c) × AllJoined c

  unfoldable pub Known : List ℕ → Type 0
  Known [] = Unit {0}
  Known (q ∷ c) = (q < 2 * n) × Known c

  module _ (p : ℕ) where
    grow-ind : (i : ℕ) (P : List ℕ → Type 0) → (T (joined_to_all n t i (grow_to i n t p)) → P (i ∷ grow_to i n t p)) → P (grow_to i n t p) → P (grow_to (suc i) n t p)
    unfolding grow_to
    grow-ind i P f g = cond_ind (joined_to_all n t i (grow_to i n t p)) _ _ P f (λ _. g)

    pub grow-joined : (i : ℕ) → AllJoined (grow_to i n t p)
    unfolding AllJoined grow_to joined_to_all
    grow-joined zero = (tt, tt)
    grow-joined (suc i) = grow-ind i AllJoined (λ h. (h, grow-joined i)) (grow-joined i)

    pub grow-known : (i : ℕ) → i ≤ 2 * n → p < 2 * n → Known (grow_to i n t p)
    unfolding Known grow_to
    grow-known zero h k = (k, tt)
    grow-known (suc i) h k = grow-ind i Known (λ _. (h, grow-known i (omega arith) k)) (grow-known i (omega arith) k)

    grow-start : (i : ℕ) → T (member p (grow_to i n t p))
    unfolding member grow_to
    grow-start zero = or_inl (eqb p p) false (eqb_refl p)
    grow-start (suc i) = grow-ind i (λ c. T (member p c)) (λ _. or_inr (eqb p i) (member p (grow_to i n t p)) (grow-start i)) (grow-start i)

    -- what is joined to all in the end was joined to all before
    grow-less : (q j : ℕ) → T (joined_to_all n t q (grow_to (suc j) n t p)) → T (joined_to_all n t q (grow_to j n t p))
    unfolding joined_to_all
    grow-less q j h = grow-ind j (λ c. T (joined_to_all n t q c) → T (joined_to_all n t q (grow_to j n t p)))
        (λ _ u. and_r (joined n t q j) (joined_to_all n t q (grow_to j n t p)) u) (λ u. u) h

    grow-before : (q i j : ℕ) → i ≤ j → T (joined_to_all n t q (grow_to j n t p)) → T (joined_to_all n t q (grow_to i n t p))
    grow-before q i zero l h = let e : i ≡ 0 = omega arith in rw e h
    grow-before q i (suc j) l h = cases (ℕ_discrete i (suc j)) (λ (k : i ≤ j). grow-before q i j k (grow-less q j h))
      where
        cases : Dec (i ≡ suc j) → (i ≤ j → T (joined_to_all n t q (grow_to i n t p))) → T (joined_to_all n t q (grow_to i n t p))
        cases (yes e) r = rw e h
        cases (no e) r = r (omega arith)

    -- one that is joined to all when its turn comes is taken
    grow-taken : (q : ℕ) → T (joined_to_all n t q (grow_to q n t p)) → T (joined_to_all n t q (grow_to (suc q) n t p)) → ⊥
    unfolding grow_to joined_to_all
    grow-taken q h k =
        not-joined-self q (and_l (joined n t q q) (joined_to_all n t q (grow_to q n t p)) (rw (T→true (joined_to_all n t q (grow_to q n t p)) h) at k))

    grow-full : (q : ℕ) → q < 2 * n → T (joined_to_all n t q (grow_to (2 * n) n t p)) → ⊥
    grow-full q h k =
        let a = grow-before q (suc q) (2 * n) h k in
        grow-taken q (grow-less q q a) a

  -- by places
  joined-pairs : (c : List ℕ) → AllJoined c → (i j : ℕ) → i < j → j < length c → T (joined n t (get_or c i 0) (get_or c j 0))
  unfolding AllJoined
  joined-pairs [] a i j h l = absurd (let z : ⊥ = omega arith in z)
  joined-pairs (q ∷ c) a i zero h l = absurd (let z : ⊥ = omega arith in z)
  joined-pairs (q ∷ c) a zero (suc j) h l = all-joined-at q c a.0 j (omega arith)
  joined-pairs (q ∷ c) a (suc i) (suc j) h l = joined-pairs c a.1 i j (omega arith) (omega arith)

  pub known_member : (c : List ℕ) → Known c → (q : ℕ) → T (member q c) → q < 2 * n
  unfolding Known member
  known_member [] k q h = absurd h
  known_member (p ∷ c) k q h =
      ⊎_elim (λ u. let e = eqb→eq q p u in let l = k.0 in omega arith) (λ u. known_member c k.1 q u) (or_cases (eqb q p) (member q c) h)

any-pair : (n : ℕ) (t : List ℕ) (c : List ℕ) → AllJoined n t c → (i j : ℕ) → i < length c → j < length c → i ≢ j → T (joined n t (get_or c i 0) (get_or c j 0))
any-pair n t c a i j h k ne = cases (dec_lt i j)
  where
    cases : Dec (i < j) → T (joined n t (get_or c i 0) (get_or c j 0))
    cases (yes l) = joined-pairs n t c a i j l k
    cases (no l) = joined-sym n t (get_or c j 0) (get_or c i 0) (joined-pairs n t c a j i (omega arith) h)

pub grown-clique : GrownCliques
unfolding GrownCliques grow
grown-clique n t p h = let c = grow_to (2 * n) n t p in let a = any-pair n t c (grow-joined n t p (2 * n)) in record {
  start = grow-start n t p (2 * n);
  known = known_member n t c (grow-known n t p (2 * n) (omega arith) h);
  pairs = a;
  variables = λ i j k l ne. joined-apart n t (get_or c i 0) (get_or c j 0) (a i j k l ne);
  full = grow-full n t p;
}

-- ---- rows

pub length-clique_row : (n : ℕ) (c : List ℕ) → length (clique_row n c) ≡ n
unfolding clique_row
length-clique_row n [] = length-zero_row n
length-clique_row n (q ∷ c) = length-set (clique_row n c) (variable_of q) (coef_of q) ∙ length-clique_row n c

-- how many literals of c are true at x, for values 0 and 1
truths : ℕ → List ℤ → List ℕ → ℤ
truths n x c = dot n (clique_row n c) x +ℤ pos (meant_at_zero c)

-- D is the left side without literal q, v the value that q means, z the value of its variable, m the number meant at 0
false-step : (v : ℕ) (D z : ℤ) (m : ℕ) → v < 2 → z ≡ pos (1 - v)
    → (D +ℤ cond (eqb v 0) (negsuc 0) (pos 1) *ℤ z) +ℤ pos (m + cond (eqb v 0) 1 0) ≡ D +ℤ pos m
false-step zero D z m h e = rw e (simp zify (omega zarith))
false-step (suc zero) D z m h e = rw e (simp zify (omega zarith))
false-step (suc (suc v)) D z m h e = absurd (let y : ⊥ = omega arith in y)

true-step : (v : ℕ) (D z : ℤ) (m : ℕ) → v < 2 → z ≡ pos v
    → (D +ℤ cond (eqb v 0) (negsuc 0) (pos 1) *ℤ z) +ℤ pos (m + cond (eqb v 0) 1 0) ≡ (D +ℤ pos m) +ℤ pos 1
true-step zero D z m h e = rw e (simp zify (omega zarith))
true-step (suc zero) D z m h e = rw e (simp zify (omega zarith))
true-step (suc (suc v)) D z m h e = absurd (let y : ⊥ = omega arith in y)

two : (z : ℤ) (v : ℕ) → v < 2 → (z ≡ pos 0) ⊎ (z ≡ pos 1) → (z ≡ pos v) ⊎ (z ≡ pos (1 - v))
two z zero h (inl e) = inl e
two z zero h (inr e) = inr e
two z (suc zero) h (inl e) = inr e
two z (suc zero) h (inr e) = inl e
two z (suc (suc v)) h e = absurd (let y : ⊥ = omega arith in y)

module _ (n : ℕ) (t : List ℕ) (x : List ℤ) where
  -- the variable of a literal that is joined to all is not in the row
  row_other : (q : ℕ) (c : List ℕ) → T (joined_to_all n t q c) → at (clique_row n c) (variable_of q) ≡ pos 0
  unfolding clique_row joined_to_all
  row_other q [] h = at-zero_row n (variable_of q)
  row_other q (p ∷ c) h =
      get_or-set_other (clique_row n c) (variable_of p) (variable_of q) (coef_of p) (pos 0) (joined-apart n t q p (and_l (joined n t q p) (joined_to_all n t q c) h))
      ∙ row_other q c (and_r (joined n t q p) (joined_to_all n t q c) h)

  dot-row : (q : ℕ) (c : List ℕ) → q < 2 * n → T (joined_to_all n t q c)
      → dot n (clique_row n (q ∷ c)) x ≡ dot n (clique_row n c) x +ℤ coef_of q *ℤ at x (variable_of q)
  unfolding clique_row
  dot-row q c k h =
      let e = dot-set n (clique_row n c) x (variable_of q) (coef_of q) (variable-lt n q k) (length-clique_row n c) in
      let f = rw (row_other q c h, zero-*ℤ (at x (variable_of q))) at e in
      plus-zero (dot n (set (clique_row n c) (variable_of q) (coef_of q)) x) ∙ f
    where
      plus-zero : (z : ℤ) → z ≡ z +ℤ pos 0
      plus-zero z = simp zify (omega zarith)

  truths-false : (q : ℕ) (c : List ℕ) → q < 2 * n → T (joined_to_all n t q c) → at x (variable_of q) ≡ pos (1 - value_of q) → truths n x (q ∷ c) ≡ truths n x c
  unfolding truths coef_of meant_at_zero
  truths-false q c k h e =
      rw (dot-row q c k h) (false-step (value_of q) (dot n (clique_row n c) x) (at x (variable_of q)) (meant_at_zero c) (value-lt q) e)

  truths-true : (q : ℕ) (c : List ℕ) → q < 2 * n → T (joined_to_all n t q c) → at x (variable_of q) ≡ pos (value_of q) → truths n x (q ∷ c) ≡ truths n x c +ℤ pos 1
  unfolding truths coef_of meant_at_zero
  truths-true q c k h e =
      rw (dot-row q c k h) (true-step (value_of q) (dot n (clique_row n c) x) (at x (variable_of q)) (meant_at_zero c) (value-lt q) e)

  no-truths : truths n x [] ≡ pos 0
  unfolding truths clique_row meant_at_zero
  no-truths = rw (dot-zero_row n x)

  module _ (holds : TableHolds n t x) where
    -- beside a literal that is true, one that is joined to it is false
    joined-false : (q p : ℕ) → q < 2 * n → p < 2 * n → at x (variable_of q) ≡ pos (value_of q) → T (joined n t q p) → at x (variable_of p) ≡ pos (1 - value_of p)
    unfolding ImplicationHolds LiteralTrue
    joined-false q p k l e h = ⊎_elim (λ f. f) (λ f. absurd (f e))
        (holds.holds (variable_of q) (value_of q) (variable_of p) (1 - value_of p) (variable-lt n q k) (value-lt q) (variable-lt n p l) (omega arith)
        (joined-recorded n t q p h))

    none_true : (q : ℕ) (c : List ℕ) → q < 2 * n → at x (variable_of q) ≡ pos (value_of q) → T (joined_to_all n t q c) → AllJoined n t c → Known n t c
        → truths n x c ≡ pos 0
    unfolding AllJoined Known joined_to_all
    none_true q [] k e h a w = no-truths
    none_true q (p ∷ c) k e h a w =
        truths-false p c w.0 a.0 (joined-false q p k w.0 e (and_l (joined n t q p) (joined_to_all n t q c) h))
        ∙ none_true q c k e (and_r (joined n t q p) (joined_to_all n t q c) h) a.1 w.1

    -- every member's variable is 0 or 1
    Binaries : List ℕ → Type 0
    Binaries [] = Unit {0}
    Binaries (q ∷ c) = ZeroOrOne x (variable_of q) × Binaries c

    value-cases : (q : ℕ) → ZeroOrOne x (variable_of q) → (at x (variable_of q) ≡ pos (value_of q)) ⊎ (at x (variable_of q) ≡ pos (1 - value_of q))
    unfolding ZeroOrOne
    value-cases q b = two (at x (variable_of q)) (value_of q) (value-lt q) b

    one-true : (c : List ℕ) → AllJoined n t c → Known n t c → Binaries c → truths n x c ≤ℤ pos 1
    unfolding AllJoined Known Binaries
    one-true [] a w b = rw no-truths (omega zarith)
    one-true (q ∷ c) a w b = ⊎_elim
        (λ e. rw (truths-true q c w.0 a.0 e, none_true q c w.0 e a.0 a.1 w.1) (omega zarith))
        (λ e. rw (truths-false q c w.0 a.0 e) (one-true c a.1 w.1 b.1))
        (value-cases q b.0)

    module _ (binary : TableBinary n t x) where
      pair-binary : (q p : ℕ) → q < 2 * n → p < 2 * n → T (joined n t q p) → ZeroOrOne x (variable_of q) × ZeroOrOne x (variable_of p)
      pair-binary q p k l h = binary.binary (variable_of q) (value_of q) (variable_of p) (1 - value_of p) (variable-lt n q k) (value-lt q) (variable-lt n p l) (omega arith)
          (joined-recorded n t q p h)

      all-binary : (q : ℕ) (c : List ℕ) → q < 2 * n → T (joined_to_all n t q c) → Known n t c → Binaries c
      unfolding Binaries Known joined_to_all
      all-binary q [] k h w = tt
      all-binary q (p ∷ c) k h w =
          ((pair-binary q p k w.0 (and_l (joined n t q p) (joined_to_all n t q c) h)).1, all-binary q c k (and_r (joined n t q p) (joined_to_all n t q c) h) w.1)

      clique-binary : (c : List ℕ) → AllJoined n t c → Known n t c → 2 ≤ length c → Binaries c
      unfolding AllJoined Known Binaries joined_to_all
      clique-binary [] a w h = tt
      clique-binary (q ∷ []) a w h = absurd (let z : ⊥ = omega arith in z)
      clique-binary (q ∷ p ∷ c) a w h =
          ((pair-binary q p w.0 w.1.0 (and_l (joined n t q p) (joined_to_all n t q c) a.0)).0, all-binary q (p ∷ c) w.0 a.0 w.1)

      pub clique-met : (c : List ℕ) → AllJoined n t c → Known n t c → 2 ≤ length c → RowHolds n (clique_row n c) (clique_rhs c) x
      unfolding truths clique_rhs
      clique-met c a w h =
          let l = one-true c a w (clique-binary c a w h) in record { le = simp zify (omega (zarith, simp zify at l)) }

-- ---- all cliques

-- every clique of ds is one, of three literals or more
Listed : ℕ → List ℕ → List (List ℕ) → Type 0
Listed n t [] = Unit {0}
Listed n t (c ∷ ds) = (AllJoined n t c × Known n t c × (3 ≤ length c)) × Listed n t ds

listed-append : (n : ℕ) (t : List ℕ) (ds : List (List ℕ)) (c : List ℕ) → Listed n t ds → AllJoined n t c × Known n t c × (3 ≤ length c) → Listed n t (ds ++ (c ∷ []))
unfolding Listed
listed-append n t [] c l h = (h, tt)
listed-append n t (d ∷ ds) c l h = (l.0, listed-append n t ds c l.1 h)

listed : (n : ℕ) (t : List ℕ) (p : ℕ) → p ≤ 2 * n → Listed n t (cliques_to p n t)
unfolding cliques_to is_new Listed grow
listed n t zero h = tt
listed n t (suc p) h =
    let ds = cliques_to p n t in let c = grow_to (2 * n) n t p in
    let i = listed n t p (omega arith) in
    cond_ind (leb 3 (length c) && not (seen c ds)) (ds ++ (c ∷ [])) ds (Listed n t)
    (λ u. listed-append n t ds c i (
      grow-joined n t p (2 * n),
      grow-known n t p (2 * n) (omega arith) h,
      (leb-test 3 (length c)).0 (and_l (leb 3 (length c)) (not (seen c ds)) u),
    ))
    (λ _. i)

listed-met : (n : ℕ) (t : List ℕ) (x : List ℤ) → TableHolds n t x → TableBinary n t x → (ds : List (List ℕ)) → Listed n t ds → AllMet n ds x
unfolding Listed AllMet
listed-met n t x h b [] l = tt
listed-met n t x h b (c ∷ ds) l =
    let k = l.0.2 in (clique-met n t x h b c l.0.0 l.0.1 (omega arith), listed-met n t x h b ds l.1)

pub cliques-met : CliquesMet
unfolding CliquesMet cliques
cliques-met n t x h b = listed-met n t x h b (cliques_to (2 * n) n t) (listed n t (2 * n) (omega arith))
