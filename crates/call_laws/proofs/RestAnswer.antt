-- What the rest call answers (02, C-13): the meanings of its answers exclude one another, and the one that the search gives holds; so an
-- answer is given exactly where what it says is so.
use Prim.Native.Nat.{◌<◌, ℕ}
use lib.Dec.{T, T_not, ltb, ltb→lt, nltb→le}
use lib.IntN.{ℤ}
use mathlib.Core.Bool.{Bool, ◌&&◌, ◌||◌, not}
use mathlib.Core.List.{List}
use mathlib.Core.Logic.{◌↔◌, ◌⊎◌, inl, ⊎_elim}
use mathlib.Core.Path.{◌≡◌, ap, refl, subst}
use native.Mathlib.Decide.{dec_lt}
use native.Mathlib.Omega.{arith}
use Rattle.integer.specs.Index.{all}
use Rattle.integer.proofs.Tests.{and_i, and_l, and_r, cond_ind, not-not, not-or-l, not-or-r, or_inl, or_inr, or_r}
use Rattle.model.specs.Box.{NonEmpty, empty_box, is_empty, is_free, same_list}
use Rattle.model.specs.Rows.{Rows, row_at}
use Rattle.model.specs.State.{State}
use Rattle.model.specs.Valid.{ValidModel}
use Rattle.model.proofs.BoxLaws.{inside-refl, is_empty→eq, not-in-empty, same_list-refl, same_list→eq}
use Rattle.row.specs.Kinds.{propagate_row_of}
use Rattle.row.proofs.ImpliedBoxLaws.{valid-non_empty}
use Rattle.semantics.specs.FixpointTest.{first_moving, is_fixpoint, row_leaves}
use Rattle.semantics.specs.Lowest.{lowest}
use Rattle.semantics.specs.RestTest.{Rest, at_rest, by_row, by_variable, first_unspanned, is_probing_fixpoint, rest_of, sides_span, spans_at}
use Rattle.call_laws.specs.Convergence.{LargestBudget, MovedByRow, MovedByVariable, ProbeMoves, RestAnswered, RestIsTested, RestMeans}
use Rattle.call_laws.specs.Fixpoint.{ProbingFixpoint, SidesSpan}
use Rattle.call_laws.specs.Points.{AtRest}
use Rattle.call_laws.proofs.Convergence.{fixpoint-test, implies-test, probe-moves, rest-test, span-test, width-limit}
use Rattle.call_laws.proofs.LowestLaws.{lowest-below, lowest-fails, lowest-none}

-- the four cases of the search
pub rest-ind : (n m : ℕ) (A : Rows) (B : List ℤ) (P : Rest → Type 0)
    → (T (is_empty n B) → P at_rest)
    → (T (not (is_empty n B)) → first_moving n m A B < m → P (by_row (first_moving n m A B)))
    → (T (not (is_empty n B)) → T (is_fixpoint n m A B) → first_unspanned n m A B < n → P (by_variable (first_unspanned n m A B)))
    → (T (not (is_empty n B)) → T (is_fixpoint n m A B) → T (all n (spans_at n m A B)) → P at_rest)
    → P (rest_of n m A B)
unfolding rest_of first_moving first_unspanned is_fixpoint
rest-ind n m A B P e r k y = cond_ind (is_empty n B) _ _ P e
    (λ t. cond_ind (ltb (first_moving n m A B) m) _ _ P (λ u. r t (ltb→lt (first_moving n m A B) m u))
    (λ u. let q = (lowest-none (row_leaves n A B) m).0 (nltb→le (first_moving n m A B) m u) in
    cond_ind (ltb (first_unspanned n m A B) n) _ _ P (λ x. k t q (ltb→lt (first_unspanned n m A B) n x))
    (λ x. y t q ((lowest-none (spans_at n m A B) n).0 (nltb→le (first_unspanned n m A B) n x)))))

module _ (s : State) (v : ValidModel s.model) where
  abbrev n : ℕ
  n = s.model.n

  abbrev m : ℕ
  m = s.model.m

  abbrev A : Rows
  A = s.model.rows

  abbrev B : List ℤ
  B = s.model.box

  by_row_lem : T (not (is_empty n B)) → first_moving n m A B < m → MovedByRow s (first_moving n m A B)
  unfolding first_moving
  by_row_lem t h = record {
    non_empty = valid-non_empty v.box t;
    row = h;
    changes = λ e. T_not (row_leaves n A B (first_moving n m A B)) (lowest-fails (row_leaves n A B) m h) (rw e (same_list-refl B));
    lower = λ i k. same_list→eq (propagate_row_of n (row_at n A i) B).box B (lowest-below (row_leaves n A B) m i k);
  }

  spans : T (not (is_empty n B)) → (k : ℕ) → T (is_free B k) → T (sides_span n m A B k) ↔ SidesSpan n m A B k
  unfolding LargestBudget
  spans t = span-test n m A B v.some (valid-non_empty v.box t) (width-limit s.model v).1

  by-variable : T (not (is_empty n B)) → T (is_fixpoint n m A B) → first_unspanned n m A B < n → MovedByVariable s (first_unspanned n m A B)
  unfolding first_unspanned
  by-variable t q h =
      let k = first_unspanned n m A B in
      let u = lowest-fails (spans_at n m A B) n h in
      let f = not-not (is_free B k) (not-or-l (not (is_free B k)) (sides_span n m A B k) u) in
      record {
        fixpoint = (fixpoint-test n m A B (valid-non_empty v.box t)).0 q;
        variable = h;
        free = f;
        fails = λ z. T_not (sides_span n m A B k) (not-or-r (not (is_free B k)) (sides_span n m A B k) u) ((spans t k f).1 z);
        lower = λ j l. (implies-test (is_free B j) (sides_span n m A B j) (spans t j)).0 (lowest-below (spans_at n m A B) n j l);
      }

  -- the answer that the search gives says what is so
  pub rest-means : RestMeans s (rest_of n m A B)
  unfolding RestMeans RestIsTested ProbingFixpoint is_probing_fixpoint
  rest-means = rest-ind n m A B (RestMeans s)
      (λ t. inl (is_empty→eq n B t)) by_row_lem by-variable
      (λ _ q a. (rest-test s v).0 (or_inr (is_empty n B) (is_fixpoint n m A B && all n (spans_at n m A B)) (and_i (is_fixpoint n m A B) (all n (spans_at n m A B)) q a)))

  -- ---- the answers exclude one another

  not-empty : NonEmpty n B → B ≡ empty_box n → ⊥
  not-empty p e = not-in-empty n B v.some p (rw (← e) (inside-refl n B))

  at-rest-row : AtRest s → (r : ℕ) → MovedByRow s r → ⊥
  unfolding ProbingFixpoint
  at-rest-row a r q = ⊎_elim (not-empty q.non_empty) (λ f. q.changes (f.fixpoint.same r q.row)) a

  at-rest-variable : AtRest s → (k : ℕ) → MovedByVariable s k → ⊥
  unfolding ProbingFixpoint
  at-rest-variable a k q = ⊎_elim (not-empty q.fixpoint.non_empty) (λ f. q.fails (f.spans k q.variable q.free)) a

  one-row : (r i : ℕ) → MovedByRow s r → MovedByRow s i → r ≡ i
  one-row r i p q = go (dec_lt r i) (dec_lt i r)
    where
      go : Dec (r < i) → Dec (i < r) → r ≡ i
      go (yes h) k = absurd (p.changes (q.lower r h))
      go (no h) (yes k) = absurd (q.changes (p.lower i k))
      go (no h) (no k) = omega arith

  one-variable : (k j : ℕ) → MovedByVariable s k → MovedByVariable s j → k ≡ j
  one-variable k j p q = go (dec_lt k j) (dec_lt j k)
    where
      go : Dec (k < j) → Dec (j < k) → k ≡ j
      go (yes h) l = absurd (p.fails (q.lower k h p.free))
      go (no h) (yes l) = absurd (q.fails (p.lower j l q.free))
      go (no h) (no l) = omega arith

  one_answer : (a b : Rest) → RestMeans s a → RestMeans s b → a ≡ b
  unfolding RestMeans
  one_answer at_rest at_rest p q = refl
  one_answer at_rest (by_row r) p q = absurd (at-rest-row p r q)
  one_answer at_rest (by_variable k) p q = absurd (at-rest-variable p k q)
  one_answer (by_row r) at_rest p q = absurd (at-rest-row q r p)
  one_answer (by_row r) (by_row i) p q = ap by_row (one-row r i p q)
  one_answer (by_row r) (by_variable k) p q = absurd (p.changes (q.fixpoint.same r p.row))
  one_answer (by_variable k) at_rest p q = absurd (at-rest-variable q k p)
  one_answer (by_variable k) (by_row r) p q = absurd (q.changes (p.fixpoint.same r q.row))
  one_answer (by_variable k) (by_variable j) p q = ap by_variable (one-variable k j p q)

pub rest-answer : RestAnswered
unfolding RestAnswered
rest-answer s v a = (
  (λ e. subst (RestMeans s) e (rest-means s v)),
  (λ p. one_answer s v (rest_of s.model.n s.model.m s.model.rows s.model.box) a (rest-means s v) p),
)

pub rest-probe-moves : ProbeMoves
unfolding ProbeMoves LargestBudget
rest-probe-moves s v k q =
    probe-moves s.model.n s.model.m s.model.rows s.model.box v.some q.fixpoint.non_empty (width-limit s.model v).1 k s.table q.variable q.free q.fails

-- ---- the yes or no

abbrev IsNo : Rest → Type 0
IsNo at_rest = ⊥
IsNo (by_row r) = Unit {0}
IsNo (by_variable k) = Unit {0}

-- yes exactly where the test says yes
pub rest-yes : (n m : ℕ) (A : Rows) (B : List ℤ) → T (is_probing_fixpoint n m A B) ↔ (rest_of n m A B ≡ at_rest)
unfolding is_probing_fixpoint is_fixpoint first_moving first_unspanned
rest-yes n m A B = rest-ind n m A B (λ (a : Rest). T (is_probing_fixpoint n m A B) ↔ (a ≡ at_rest))
    (λ t. ((λ _. refl), (λ _. or_inl E (F && S) t)))
    (λ t h. (row t h, (λ e. absurd (subst IsNo e tt))))
    (λ t _ h. (variable t h, (λ e. absurd (subst IsNo e tt))))
    (λ _ q a. ((λ _. refl), (λ _. or_inr E (F && S) (and_i F S q a))))
  where
    E : Bool
    E = is_empty n B

    F : Bool
    F = is_fixpoint n m A B

    S : Bool
    S = all n (spans_at n m A B)

    row : {a : Rest} → T (not E) → lowest m (row_leaves n A B) < m → T (E || (F && S)) → a ≡ at_rest
    row t h y = absurd (let g = (lowest-none (row_leaves n A B) m).1 (and_l F S (or_r E (F && S) y t)) in let z : ⊥ = omega arith in z)

    variable : {a : Rest} → T (not E) → lowest n (spans_at n m A B) < n → T (E || (F && S)) → a ≡ at_rest
    variable t h y = absurd (let g = (lowest-none (spans_at n m A B) n).1 (and_r F S (or_r E (F && S) y t)) in let z : ⊥ = omega arith in z)
