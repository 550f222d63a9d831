-- The list of all cliques, each set once, and the rows that are written of it. One set has one row, so that sets are compared as rows.
use Prim.Native.Nat.{◌*◌, ◌+◌, ◌<◌, ◌≤◌, suc, zero, ℕ}
use lib.Dec.{T, T_not, eqb, eqb_refl, eqb→eq, leb}
use lib.IntN.{negsuc, pos, ℤ}
use lib.ListN.{get_or-append, get_or-eq_default, get_or, length, length-append, set}
use lib.Seq.{ext_get_or, get_or-append-add, get_or-set_other, get_or-set_same}
use mathlib.Core.Bool.{Bool, ◌&&◌, ◌||◌, cond, false, not, true}
use mathlib.Core.List.{List, [], ◌++◌, ◌∷◌}
use mathlib.Core.Logic.{◌⊎◌, inl, inr, ⊎_elim}
use mathlib.Core.Path.{◌∙◌, ◌≡◌, ap, ap₂, refl, subst, sym}
use native.Mathlib.Decide.{dec_lt, ℕ_discrete}
use native.Mathlib.Omega.{arith}
use Rattle.integer.proofs.Parts.{zarith}
use Rattle.integer.proofs.Tests.{and_i, and_l, and_r, cond_ind, decide, eqb-test, leb-test, not-and, not-not, not-or-l, not-or-r, or_cases, or_inl, or_inr}
use Rattle.model.specs.Box.{at}
use Rattle.model.specs.Rows.{row_of}
use Rattle.model.proofs.RowsLaws.{at-row_of, length-row_of}
use Rattle.row.specs.Redundancy.{zero_row}
use Rattle.row.proofs.RedundancyLaws.{at-zero_row, length-zero_row}
use Rattle.semantics.specs.Probe.{literal}
use Rattle.cliques.specs.CliqueClaims.{AllCliques, RowsWritten, SameRows}
use Rattle.cliques.specs.Cliques.{clique_rhs, clique_row, clique_rows, cliques, cliques_to, coef_of, coefs_of, grow, grow_to, is_new, joined, joined_to_all, member, rows_for, same_set, seen, sides_of, subset, value_of, variable_of}
use Rattle.cliques.proofs.CliqueLaws.{AllJoined, Known, grow-joined, grow-known, joined-apart, length-clique_row, literal-parts, value-lt, variable-lt}

-- ---- sets

subset-at : (c d : List ℕ) → T (subset c d) → (q : ℕ) → T (member q c) → T (member q d)
unfolding subset member
subset-at [] d h q m = absurd m
subset-at (p ∷ c) d h q m = ⊎_elim
    (λ u. subst (λ (z : ℕ). T (member z d)) (sym (eqb→eq q p u)) (and_l (member p d) (subset c d) h))
    (λ u. subset-at c d (and_r (member p d) (subset c d) h) q u)
    (or_cases (eqb q p) (member q c) m)

subset-i : (c d : List ℕ) → ((q : ℕ) → T (member q c) → T (member q d)) → T (subset c d)
unfolding subset member
subset-i [] d f = tt
subset-i (p ∷ c) d f =
    and_i (member p d) (subset c d) (f p (or_inl (eqb p p) (member p c) (eqb_refl p))) (subset-i c d (λ q m. f q (or_inr (eqb q p) (member q c) m)))

same_set-refl : (c : List ℕ) → T (same_set c c)
unfolding same_set
same_set-refl c = let h = subset-i c c (λ _ m. m) in and_i (subset c c) (subset c c) h h

-- ---- the list

seen-append : (c : List ℕ) (ds es : List (List ℕ)) → T (seen c ds) → T (seen c (ds ++ es))
unfolding seen
seen-append c [] es h = absurd h
seen-append c (d ∷ ds) es h =
    ⊎_elim (λ u. or_inl (same_set c d) (seen c (ds ++ es)) u) (λ u. or_inr (same_set c d) (seen c (ds ++ es)) (seen-append c ds es u)) (or_cases (same_set c d) (seen c ds) h)

seen_last : (c : List ℕ) (ds : List (List ℕ)) → T (seen c (ds ++ (c ∷ [])))
unfolding seen
seen_last c [] = or_inl (same_set c c) false (same_set-refl c)
seen_last c (d ∷ ds) = or_inr (same_set c d) (seen c (ds ++ (c ∷ []))) (seen_last c ds)

pub not-seen-at : (c : List ℕ) (ds : List (List ℕ)) → T (not (seen c ds)) → (i : ℕ) → i < length ds → T (not (same_set c (get_or ds i [])))
unfolding seen
not-seen-at c [] h i l = absurd (let z : ⊥ = omega arith in z)
not-seen-at c (d ∷ ds) h zero l = not-or-l (same_set c d) (seen c ds) h
not-seen-at c (d ∷ ds) h (suc i) l = not-seen-at c ds (not-or-r (same_set c d) (seen c ds) h) i (omega arith)

pub not-seen-i : (c : List ℕ) (ds : List (List ℕ)) → ((i : ℕ) → i < length ds → T (not (same_set c (get_or ds i [])))) → T (not (seen c ds))
unfolding seen
not-seen-i c [] f = tt
not-seen-i c (d ∷ ds) f = not-or (same_set c d) (seen c ds) (f 0 (omega arith)) (not-seen-i c ds (λ i l. f (suc i) (omega arith)))
  where
    not-or : (a b : Bool) → T (not a) → T (not b) → T (not (a || b))
    not-or true b u v = u
    not-or false b u v = v

pub get_d-last : (ds : List (List ℕ)) (c : List ℕ) → get_or (ds ++ (c ∷ [])) (length ds) [] ≡ c
get_d-last [] c = refl
get_d-last (d ∷ ds) c = get_d-last ds c

-- of the cliques grown from literals below p
pub record ListingTo (p n : ℕ) (t : List ℕ) (ds : List (List ℕ)) : Type 0 where
  pub few : length ds ≤ p
  pub grown : (i : ℕ) → i < length ds → (q : ℕ) × (q < p) × (get_or ds i [] ≡ grow n t q) × (3 ≤ length (grow n t q))
  pub once : (i j : ℕ) → i < j → j < length ds → T (not (same_set (get_or ds j []) (get_or ds i [])))
  pub every : (q : ℕ) → q < p → 3 ≤ length (grow n t q) → T (seen (grow n t q) ds)

module _ (n : ℕ) (t : List ℕ) (p : ℕ) {ds : List (List ℕ)} (w : ListingTo p n t ds) where
  add-clique : 3 ≤ length (grow n t p) → T (not (seen (grow n t p) ds)) → ListingTo (suc p) n t (ds ++ (grow n t p ∷ []))
  add-clique h u = let c = grow n t p in let len = length-append ds (c ∷ []) in let few = w.few in record {
    few = omega arith;
    grown = λ i l. grown i (dec_lt i (length ds)) (omega arith);
    once = λ i j k l. once i j k (dec_lt j (length ds)) (omega arith);
    every = λ q l k. every q (ℕ_discrete q p) l k;
  }
    where
      last : get_or (ds ++ (grow n t p ∷ [])) (length ds) [] ≡ grow n t p
      last = get_d-last ds (grow n t p)

      grown : (i : ℕ) → Dec (i < length ds) → i < length ds + 1
          → (q : ℕ) × (q < suc p) × (get_or (ds ++ (grow n t p ∷ [])) i [] ≡ grow n t q) × (3 ≤ length (grow n t q))
      grown i (yes l) b =
          let g = w.grown i l in let k = g.1 in
          (g.0, omega arith, get_or-append ds (grow n t p ∷ []) [] i l ∙ g.2, g.3)
      grown i (no l) b = let e : i ≡ length ds = omega arith in (p, omega arith, rw e last, h)

      once : (i j : ℕ) → i < j → Dec (j < length ds) → j < length ds + 1
          → T (not (same_set (get_or (ds ++ (grow n t p ∷ [])) j []) (get_or (ds ++ (grow n t p ∷ [])) i [])))
      once i j k (yes l) b =
          rw (get_or-append ds (grow n t p ∷ []) [] j l, get_or-append ds (grow n t p ∷ []) [] i (omega arith)) (w.once i j k l)
      once i j k (no l) b =
          let e : j ≡ length ds = omega arith in
          rw (e, last, get_or-append ds (grow n t p ∷ []) [] i (omega arith)) (not-seen-at (grow n t p) ds u i (omega arith))

      every : (q : ℕ) → Dec (q ≡ p) → q < suc p → 3 ≤ length (grow n t q) → T (seen (grow n t q) (ds ++ (grow n t p ∷ [])))
      every q (yes e) l k = rw e (seen_last (grow n t p) ds)
      every q (no e) l k = seen-append (grow n t q) ds (grow n t p ∷ []) (w.every q (omega arith) k)

  -- too small, or seen before
  skip-clique : T (not (leb 3 (length (grow n t p)) && not (seen (grow n t p) ds))) → ListingTo (suc p) n t ds
  skip-clique u = let few = w.few in record {
    few = omega arith;
    grown = λ i l. let g = w.grown i l in let k = g.1 in (g.0, omega arith, g.2, g.3);
    once = w.once;
    every = λ q l k. every q (ℕ_discrete q p) l k;
  }
    where
      every : (q : ℕ) → Dec (q ≡ p) → q < suc p → 3 ≤ length (grow n t q) → T (seen (grow n t q) ds)
      every q (yes e) l k = ⊎_elim
          (λ v. absurd (T_not (leb 3 (length (grow n t p))) v ((leb-test 3 (length (grow n t p))).1 (rw e at k))))
          (λ v. rw e (not-not (seen (grow n t p) ds) v))
          (not-and (leb 3 (length (grow n t p))) (not (seen (grow n t p) ds)) u)
      every q (no e) l k = w.every q (omega arith) k

pub listing-to : (n : ℕ) (t : List ℕ) (p : ℕ) → ListingTo p n t (cliques_to p n t)
unfolding cliques_to is_new
listing-to n t zero = record {
  few = omega arith;
  grown = λ i l. absurd (let z : ⊥ = omega arith in z);
  once = λ i j k l. absurd (let z : ⊥ = omega arith in z);
  every = λ q l k. absurd (let z : ⊥ = omega arith in z);
}
listing-to n t (suc p) =
    let ds = cliques_to p n t in let c = grow n t p in let w = listing-to n t p in
    cond_ind (leb 3 (length c) && not (seen c ds)) (ds ++ (c ∷ [])) ds (ListingTo (suc p) n t)
    (λ u. add-clique n t p w ((leb-test 3 (length c)).0 (and_l (leb 3 (length c)) (not (seen c ds)) u)) (and_r (leb 3 (length c)) (not (seen c ds)) u))
    (λ u. skip-clique n t p w u)

pub all-cliques : AllCliques
unfolding AllCliques cliques
all-cliques n t = let w = listing-to n t (2 * n) in record { few = w.few; grown = w.grown; once = w.once; every = w.every }

-- ---- one set, one row

-- the coefficient of a literal tells what it means
coef-value : (q p : ℕ) → variable_of q ≡ variable_of p → coef_of q ≡ coef_of p → q ≡ p
unfolding coef_of
coef-value q p e f =
    let v = two (value_of q) (value_of p) (value-lt q) (value-lt p) f in sym (literal-parts q) ∙ ap₂ literal e v ∙ literal-parts p
  where
    two : (v w : ℕ) → v < 2 → w < 2 → ◌≡◌ {A = ℤ} (cond (eqb v 0) (negsuc 0) (pos 1)) (cond (eqb w 0) (negsuc 0) (pos 1)) → v ≡ w
    two zero zero a b e = refl
    two zero (suc zero) a b e = absurd (let z : ⊥ = omega zarith in z)
    two (suc zero) zero a b e = absurd (let z : ⊥ = omega zarith in z)
    two (suc zero) (suc zero) a b e = refl
    two zero (suc (suc w)) a b e = absurd (let z : ⊥ = omega arith in z)
    two (suc zero) (suc (suc w)) a b e = absurd (let z : ⊥ = omega arith in z)
    two (suc (suc v)) w a b e = absurd (let z : ⊥ = omega arith in z)

variable-literal : (k v : ℕ) → v < 2 → variable_of (literal k v) ≡ k
unfolding variable_of literal
variable-literal k v h = omega arith

literal-cases : (q k : ℕ) → variable_of q ≡ k → (q ≡ literal k 0) ⊎ (q ≡ literal k 1)
literal-cases q k e = ⊎_elim (λ f. inl (sym (literal-parts q) ∙ ap₂ literal e f)) (λ f. inr (sym (literal-parts q) ∙ ap₂ literal e f)) (bit (value_of q) (value-lt q))
  where
    bit : (v : ℕ) → v < 2 → (v ≡ 0) ⊎ (v ≡ 1)
    bit zero h = inl refl
    bit (suc zero) h = inr refl
    bit (suc (suc v)) h = absurd (let z : ⊥ = omega arith in z)

-- neither literal of variable k is a member
neither-member : (c : List ℕ) (k : ℕ) → T (not (member (literal k 0) c)) → T (not (member (literal k 1) c)) → (q : ℕ) → variable_of q ≡ k → T (member q c) → ⊥
neither-member c k u v q e m = ⊎_elim
    (λ f. T_not (member (literal k 0) c) u (subst (λ (z : ℕ). T (member z c)) f m))
    (λ f. T_not (member (literal k 1) c) v (subst (λ (z : ℕ). T (member z c)) f m))
    (literal-cases q k e)

coef-some : (q : ℕ) → pos 0 ≡ coef_of q → ⊥
unfolding coef_of
coef-some q = cond_ind (eqb (value_of q) 0) (negsuc 0) (pos 1) (λ (z : ℤ). pos 0 ≡ z → ⊥)
    (λ _ e. let z : ⊥ = omega zarith in z) (λ _ e. let z : ⊥ = omega zarith in z)

module _ (n : ℕ) (t : List ℕ) where
  joined-member : (q : ℕ) (c : List ℕ) → T (joined_to_all n t q c) → (p : ℕ) → T (member p c) → T (joined n t q p)
  unfolding joined_to_all member
  joined-member q [] h p m = absurd m
  joined-member q (r ∷ c) h p m = ⊎_elim
      (λ u. subst (λ (z : ℕ). T (joined n t q z)) (sym (eqb→eq p r u)) (and_l (joined n t q r) (joined_to_all n t q c) h))
      (λ u. joined-member q c (and_r (joined n t q r) (joined_to_all n t q c) h) p u)
      (or_cases (eqb p r) (member p c) m)

  member-coef : (c : List ℕ) → AllJoined n t c → Known n t c → (q : ℕ) → T (member q c) → at (clique_row n c) (variable_of q) ≡ coef_of q
  unfolding AllJoined Known member clique_row
  member-coef [] a w q m = absurd m
  member-coef (p ∷ c) a w q m = ⊎_elim
      (λ u. let e = eqb→eq q p u in
      rw e (get_or-set_same (clique_row n c) (variable_of p) (coef_of p) (pos 0) (let l = variable-lt n p w.0 in let g = length-clique_row n c in omega arith)))
      (λ u. get_or-set_other (clique_row n c) (variable_of p) (variable_of q) (coef_of p) (pos 0)
      (λ e. joined-apart n t p q (joined-member p c a.0 q u) (sym e)) ∙ member-coef c a.1 w.1 q u)
      (or_cases (eqb q p) (member q c) m)

  coef-member : (c : List ℕ) → Known n t c → (q : ℕ) → at (clique_row n c) (variable_of q) ≡ coef_of q → T (member q c)
  unfolding Known member clique_row
  coef-member [] w q e = absurd (coef-some q (sym (at-zero_row n (variable_of q)) ∙ e))
  coef-member (p ∷ c) w q e = cases (ℕ_discrete (variable_of q) (variable_of p)) (λ f. coef-member c w.1 q f)
    where
      cases : Dec (variable_of q ≡ variable_of p) → (at (clique_row n c) (variable_of q) ≡ coef_of q → T (member q c)) → T (eqb q p || member q c)
      cases (yes v) r =
          let s = get_or-set_same (clique_row n c) (variable_of p) (coef_of p) (pos 0) (let l = variable-lt n p w.0 in let g = length-clique_row n c in omega arith) in
          let f = sym e ∙ ap (at (set (clique_row n c) (variable_of p) (coef_of p))) v ∙ s in
          or_inl (eqb q p) (member q c) ((eqb-test q p).1 (coef-value q p v f))
      cases (no v) r =
          or_inr (eqb q p) (member q c) (r (sym (get_or-set_other (clique_row n c) (variable_of p) (variable_of q) (coef_of p) (pos 0) v) ∙ e))

  -- a coefficient that is not 0 is that of a member
  coef-zero : (c : List ℕ) (k : ℕ) → ((q : ℕ) → variable_of q ≡ k → T (member q c) → ⊥) → at (clique_row n c) k ≡ pos 0
  unfolding clique_row member
  coef-zero [] k f = at-zero_row n k
  coef-zero (p ∷ c) k f =
      get_or-set_other (clique_row n c) (variable_of p) k (coef_of p) (pos 0) (λ e. f p (sym e) (or_inl (eqb p p) (member p c) (eqb_refl p)))
      ∙ coef-zero c k (λ q e m. f q e (or_inr (eqb q p) (member q c) m))

  module _ (c d : List ℕ) (ac : AllJoined n t c) (ad : AllJoined n t d) (kc : Known n t c) (kd : Known n t d) where
    same→row : T (same_set c d) → clique_row n c ≡ clique_row n d
    unfolding same_set
    same→row h = ext_get_or (pos 0) (clique_row n c) (clique_row n d) (length-clique_row n c ∙ sym (length-clique_row n d)) (λ k _. place k)
      where
        to : (q : ℕ) → T (member q c) → T (member q d)
        to = subset-at c d (and_l (subset c d) (subset d c) h)

        back : (q : ℕ) → T (member q d) → T (member q c)
        back = subset-at d c (and_r (subset c d) (subset d c) h)

        -- by the literal of variable k that is a member, or by none
        found : (k q : ℕ) → variable_of q ≡ k → T (member q c) → at (clique_row n c) k ≡ at (clique_row n d) k
        found k q e m = subst (λ (j : ℕ). at (clique_row n c) j ≡ at (clique_row n d) j) e (member-coef c ac kc q m ∙ sym (member-coef d ad kd q (to q m)))

        none : (k : ℕ) → T (not (member (literal k 0) c)) → T (not (member (literal k 1) c)) → at (clique_row n c) k ≡ at (clique_row n d) k
        none k u v = coef-zero c k (neither-member c k u v) ∙ sym (coef-zero d k (λ q e m. neither-member c k u v q e (back q m)))

        place : (k : ℕ) → at (clique_row n c) k ≡ at (clique_row n d) k
        place k = ⊎_elim (λ m. found k (literal k 0) (variable-literal k 0 (omega arith)) m)
            (λ u. ⊎_elim (λ m. found k (literal k 1) (variable-literal k 1 (omega arith)) m) (λ v. none k u v) (decide (member (literal k 1) c)))
            (decide (member (literal k 0) c))

    row→same : clique_row n c ≡ clique_row n d → T (same_set c d)
    unfolding same_set
    row→same e = and_i (subset c d) (subset d c)
        (subset-i c d (λ q m. coef-member d kd q (ap (λ (A : List ℤ). at A (variable_of q)) (sym e) ∙ member-coef c ac kc q m)))
        (subset-i d c (λ q m. coef-member c kc q (ap (λ (A : List ℤ). at A (variable_of q)) e ∙ member-coef d ad kd q m)))

pub same_rows : SameRows
unfolding SameRows grow
same_rows n t p q h k =
    let c = grow_to (2 * n) n t p in let d = grow_to (2 * n) n t q in
    let a = grow-joined n t p (2 * n) in let b = grow-joined n t q (2 * n) in
    let f = grow-known n t p (2 * n) (omega arith) h in let g = grow-known n t q (2 * n) (omega arith) k in
    (same→row n t c d a b f g, row→same n t c d a b f g)

-- ---- the lent list

-- a matrix whose first row is A, over D
module _ (n left : ℕ) (A D : List ℤ) (a : length A ≡ n) (d : length D ≡ left * n) where
  over-length : length (A ++ D) ≡ suc left * n
  over-length = let e = length-append A D in omega arith

  row-head : row_of n (A ++ D) 0 ≡ A
  row-head =
      let l = length-row_of n (suc left) (A ++ D) 0 over-length (omega arith) in
      ext_get_or (pos 0) (row_of n (A ++ D) 0) A (l ∙ sym a) (λ j h.
      let e : 0 * n + j ≡ j = omega arith in
      at-row_of n (A ++ D) 0 j (omega arith) ∙ ap (at (A ++ D)) e ∙ get_or-append A D (pos 0) j (omega arith))

  row-tail : (i : ℕ) → i < left → row_of n (A ++ D) (suc i) ≡ row_of n D i
  row-tail i h =
      let l = length-row_of n (suc left) (A ++ D) (suc i) over-length (omega arith) in
      let m = length-row_of n left D i d h in
      ext_get_or (pos 0) (row_of n (A ++ D) (suc i)) (row_of n D i) (l ∙ sym m) (λ j k.
      let e : suc i * n + j ≡ length A + (i * n + j) = omega arith in
      at-row_of n (A ++ D) (suc i) j (omega arith) ∙ ap (at (A ++ D)) e ∙ get_or-append-add A D (i * n + j) (pos 0) ∙ sym (at-row_of n D i j (omega arith)))

pub length-coefs_of : (left n : ℕ) (ds : List (List ℕ)) → length (coefs_of left n ds) ≡ left * n
unfolding coefs_of
length-coefs_of zero n ds = omega arith
length-coefs_of (suc left) n [] = over-length n left (zero_row n) (coefs_of left n []) (length-zero_row n) (length-coefs_of left n [])
length-coefs_of (suc left) n (c ∷ ds) = over-length n left (clique_row n c) (coefs_of left n ds) (length-clique_row n c) (length-coefs_of left n ds)

pub length-sides_of : (left : ℕ) (ds : List (List ℕ)) → length (sides_of left ds) ≡ left
unfolding sides_of
length-sides_of zero ds = refl
length-sides_of (suc left) [] = let r = length-sides_of left [] in omega arith
length-sides_of (suc left) (c ∷ ds) = let r = length-sides_of left ds in omega arith

-- past the last clique there is the empty one, whose row is zero
pub coefs-row : (left n : ℕ) (ds : List (List ℕ)) (i : ℕ) → i < left → row_of n (coefs_of left n ds) i ≡ clique_row n (get_or ds i [])
unfolding coefs_of clique_row
coefs-row zero n ds i h = absurd (let z : ⊥ = omega arith in z)
coefs-row (suc left) n [] zero h = row-head n left (zero_row n) (coefs_of left n []) (length-zero_row n) (length-coefs_of left n [])
coefs-row (suc left) n [] (suc i) h =
    row-tail n left (zero_row n) (coefs_of left n []) (length-zero_row n) (length-coefs_of left n []) i (omega arith) ∙ coefs-row left n [] i (omega arith)
coefs-row (suc left) n (c ∷ ds) zero h = row-head n left (clique_row n c) (coefs_of left n ds) (length-clique_row n c) (length-coefs_of left n ds)
coefs-row (suc left) n (c ∷ ds) (suc i) h =
    row-tail n left (clique_row n c) (coefs_of left n ds) (length-clique_row n c) (length-coefs_of left n ds) i (omega arith) ∙ coefs-row left n ds i (omega arith)

sides-some : (left : ℕ) (ds : List (List ℕ)) (i : ℕ) → i < left → i < length ds → at (sides_of left ds) i ≡ clique_rhs (get_or ds i [])
unfolding sides_of
sides-some zero ds i h l = absurd (let z : ⊥ = omega arith in z)
sides-some (suc left) [] i h l = absurd (let z : ⊥ = omega arith in z)
sides-some (suc left) (c ∷ ds) zero h l = refl
sides-some (suc left) (c ∷ ds) (suc i) h l = sides-some left ds i (omega arith) (omega arith)

sides-none : (left : ℕ) (ds : List (List ℕ)) (i : ℕ) → i < left → length ds ≤ i → at (sides_of left ds) i ≡ pos 0
unfolding sides_of
sides-none zero ds i h l = absurd (let z : ⊥ = omega arith in z)
sides-none (suc left) [] zero h l = refl
sides-none (suc left) [] (suc i) h l = sides-none left [] i (omega arith) (omega arith)
sides-none (suc left) (c ∷ ds) zero h l = absurd (let z : ⊥ = omega arith in z)
sides-none (suc left) (c ∷ ds) (suc i) h l = sides-none left ds i (omega arith) (omega arith)

pub rows_written : RowsWritten
unfolding RowsWritten clique_rows rows_for AllCliques clique_row
rows_written n t = let ds = cliques n t in let few = (all-cliques n t).few in record {
  number = refl;
  coefs_len = length-coefs_of (2 * n) n ds;
  rhs_len = length-sides_of (2 * n) ds;
  rows = λ i l. (coefs-row (2 * n) n ds i (omega arith), sides-some (2 * n) ds i (omega arith) l);
  rest = λ i l h. (coefs-row (2 * n) n ds i h ∙ ap (clique_row n) (get_or-eq_default ds [] l), sides-none (2 * n) ds i h l);
}
