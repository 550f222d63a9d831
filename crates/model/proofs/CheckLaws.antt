-- Laws of the checks: what each test says, which check fails first, and what a model that passes them all is.
use Prim.Native.Nat.{◌*◌, ◌+◌, ◌/◌, ◌<◌, ◌≤◌, ℕ}
use lib.Dec.{T, eqb, eqb→eq, leb, ltb, ltb→lt}
use lib.IntN.{◌-ℤ◌, pos, ℤ}
use lib.ListN.{get_or-eq_default, get_or, length}
use lib.Signed.{◌≤ℤ◌, le_z}
use mathlib.Core.Bool.{Bool, ◌&&◌, ◌||◌, cond, false, true}
use mathlib.Core.List.{List, [], ◌++◌, ◌∷◌}
use mathlib.Core.Logic.{◌↔◌, ◌⊎◌, inl, inr, ⊎_elim}
use mathlib.Core.Path.{◌∙◌, ◌≡◌, ap, refl, sym}
use native.Mathlib.Decide.{dec_lt, ℕ_discrete}
use native.Mathlib.Omega.{arith}
use Rattle.integer.specs.Index.{all}
use Rattle.integer.proofs.IndexLaws.{all_more, all-test, get_d-all, sum_below}
use Rattle.integer.proofs.Parts.{zarith}
use Rattle.integer.proofs.Tests.{all_three, and_l, and_r, both, cond_ind, eqb-test, le_test, leb-test, ltb-test, neqb→ne, or_cases, or_inl, or_inr, true→T}
use Rattle.model.specs.Box.{NonEmpty, at, empty_box, is_empty, lower, upper, width}
use Rattle.model.specs.Checks.{Check, bits, box_checks, first, in_range, length_checks, model_checks, model_fault, must, narrow, none, number_checks, ordered, size_checks, table, table_byte_checks, table_length_checks}
use Rattle.model.specs.Limits.{max_bound, max_coef, max_rhs, max_rows, max_variables, max_width, min_bound, min_coef, min_rhs}
use Rattle.model.specs.Model.{Model}
use Rattle.model.specs.declared.refusal.Refusal.{Refusal}
use Rattle.model.specs.Refusals.{number_of}
use Rattle.model.proofs.RefusalLaws.{number_of-ne0}
use Rattle.model.specs.Valid.{Between, ValidBox, ValidModel, ValidTable}
use Rattle.model.proofs.BoxLaws.{empty-is, is_empty→eq}

-- ---- the first check that fails

-- an answer that is found check by check
pub fails : (ok : Bool) (number : ℕ) (checks : List Check) → ok ≡ false → number ≡ first (must ok number ∷ checks)
unfolding first
fails ok number checks e = rw e

pub past : {r : ℕ} (ok : Bool) (number : ℕ) (checks : List Check) → ok ≡ true → r ≡ first checks → r ≡ first (must ok number ∷ checks)
unfolding first
past ok number checks e h = rw e h

pub ends : 0 ≡ first []
unfolding first
ends = refl

-- every check has a number above 0, so that 0 says that none fails
abbrev pub numbered : List Check → Bool
numbered [] = true
numbered (must ok number ∷ checks) = ltb 0 number && numbered checks

-- every test holds
abbrev pub Hold : List Check → Type 0
Hold [] = Unit
Hold (must ok number ∷ checks) = T ok × Hold checks

-- 0 is the answer exactly if every test holds
pub first-none : (checks : List Check) → T (numbered checks) → (first checks ≡ 0) ↔ Hold checks
unfolding first
first-none [] t = ((λ e. tt), (λ h. refl))
first-none (must true number ∷ checks) t =
    let r = first-none checks (and_r (ltb 0 number) (numbered checks) t) in
    ((λ e. (tt, r.0 e)), (λ h. r.1 h.1))
first-none (must false number ∷ checks) t =
    let p = ltb→lt 0 number (and_l (ltb 0 number) (numbered checks) t) in
    ((λ e. absurd (let z : ⊥ = omega arith in z)), (λ h. absurd h.0))

-- of two lists in turn: the first one's number where it has one, else the second's
pub first-go : (xs ys : List Check) → T (numbered xs) → first xs ≡ 0 → first (xs ++ ys) ≡ first ys
unfolding first
first-go [] ys t e = refl
first-go (must true number ∷ xs) ys t e = first-go xs ys (and_r (ltb 0 number) (numbered xs) t) e
first-go (must false number ∷ xs) ys t e =
    let p = ltb→lt 0 number (and_l (ltb 0 number) (numbered xs) t) in
    absurd (let z : ⊥ = omega arith in z)

pub first-stop : (xs ys : List Check) → (first xs ≡ 0 → ⊥) → first (xs ++ ys) ≡ first xs
unfolding first
first-stop [] ys n = absurd (n refl)
first-stop (must true number ∷ xs) ys n = first-stop xs ys n
first-stop (must false number ∷ xs) ys n = refl

-- an answer that is found list by list
pub stops : {r : ℕ} (xs ys : List Check) → r ≡ first xs → (r ≡ 0 → ⊥) → r ≡ first (xs ++ ys)
stops xs ys e n = e ∙ sym (first-stop xs ys (λ z. n (e ∙ z)))

pub goes : {r s : ℕ} (xs ys : List Check) → T (numbered xs) → r ≡ first xs → r ≡ 0 → s ≡ first ys → s ≡ first (xs ++ ys)
goes xs ys t e z h = h ∙ sym (first-go xs ys t (sym e ∙ z))

pub first-append : (xs ys : List Check) → T (numbered xs) → first (xs ++ ys) ≡ cond (eqb (first xs) 0) (first ys) (first xs)
first-append xs ys t =
    cond_ind (eqb (first xs) 0) (first ys) (first xs) (λ (r : ℕ). first (xs ++ ys) ≡ r)
    (λ e. first-go xs ys t (eqb→eq (first xs) 0 e)) (λ n. first-stop xs ys (neqb→ne (first xs) 0 n))

pub first-zero-append : (xs ys : List Check) → T (numbered xs) → (first (xs ++ ys) ≡ 0) ↔ ((first xs ≡ 0) × (first ys ≡ 0))
first-zero-append xs ys t = (there (ℕ_discrete (first xs) 0), (λ h. first-go xs ys t h.0 ∙ h.1))
  where
    there : Dec (first xs ≡ 0) → first (xs ++ ys) ≡ 0 → (first xs ≡ 0) × (first ys ≡ 0)
    there (yes e) h = (e, sym (first-go xs ys t e) ∙ h)
    there (no n) h = absurd (n (sym (first-stop xs ys n) ∙ h))

-- ---- a flag that is kept over a buffer

-- the turn of a loop whose flag says that every test so far is passed
pub flag-next : (f : ℕ → Bool) (i : ℕ) {ok : Bool} → ok ≡ all i f → (ok && f i) ≡ all (i + 1) f
flag-next f i e = rw e (sym (all_more f i))

-- ---- what each test says

pub size-test : (n m : ℕ) → T (leb 1 n && leb n max_variables && leb m max_rows) ↔ ((0 < n) × (n ≤ max_variables) × (m ≤ max_rows))
size-test n m = all_three (leb 1 n) (leb n max_variables) (leb m max_rows) (leb-test 1 n) (leb-test n max_variables) (leb-test m max_rows)

-- every buffer of the model has its length
abbrev pub LengthsFit : Model → Type 0
LengthsFit M =
    (length M.box ≡ 2 * M.n) × (length M.rows.coefs ≡ M.m * M.n) × (length M.rows.rhs ≡ M.m) × (length M.rows.kinds ≡ M.m)

pub length-test : (M : Model)
    → T (eqb (length M.box) (2 * M.n) && eqb (length M.rows.coefs) (M.m * M.n) && eqb (length M.rows.rhs) M.m && eqb (length M.rows.kinds) M.m) ↔ LengthsFit M
length-test M =
    let three = all_three (eqb (length M.box) (2 * M.n)) (eqb (length M.rows.coefs) (M.m * M.n)) (eqb (length M.rows.rhs) M.m)
    (eqb-test (length M.box) (2 * M.n)) (eqb-test (length M.rows.coefs) (M.m * M.n)) (eqb-test (length M.rows.rhs) M.m) in
    let d = both (eqb (length M.box) (2 * M.n) && eqb (length M.rows.coefs) (M.m * M.n) && eqb (length M.rows.rhs) M.m)
    (eqb (length M.rows.kinds) M.m) three (eqb-test (length M.rows.kinds) M.m) in
    ((λ t. let h = d.0 t in (h.0.0, h.0.1, h.0.2, h.1)), (λ h. d.1 ((h.0, h.1, h.2), h.3)))

pub between-test : (low high z : ℤ) → T (le_z low z && le_z z high) ↔ Between low high z
between-test low high z =
    let d = both (le_z low z) (le_z z high) (le_test low z) (le_test z high) in
    ((λ t. let h = d.0 t in record { above = h.0; below = h.1 }), (λ h. d.1 (h.above, h.below)))

pub in_range-test : (low high : ℤ) (xs : List ℤ) → T (in_range low high xs) ↔ ((i : ℕ) → i < length xs → Between low high (at xs i))
unfolding in_range
in_range-test low high xs = all-test (length xs) (λ i. le_z low (at xs i) && le_z (at xs i) high) (λ i. between-test low high (at xs i))

-- past the end of xs stands 0, which lies in every range here
pub in_range-all : (low high : ℤ) (xs : List ℤ) → low ≤ℤ pos 0 → pos 0 ≤ℤ high → T (in_range low high xs) ↔ ((i : ℕ) → Between low high (at xs i))
in_range-all low high xs l h =
    let d = in_range-test low high xs in
    ((λ t. get_d-all xs (pos 0) (Between low high) (record { above = l; below = h }) (d.0 t)), (λ b. d.1 (λ i _. b i)))

pub ordered-test : (n : ℕ) (B : List ℤ) → length B ≡ 2 * n → T (ordered B) ↔ NonEmpty n B
unfolding ordered
ordered-test n B l =
    let d = all-test (length B / 2) (λ j. le_z (lower B j) (upper B j)) (λ j. le_test (lower B j) (upper B j)) in
    ((λ t. record { len = l; order = λ j h. d.0 t j (omega arith) }), (λ p. d.1 (λ j h. p.order j (omega arith))))

pub shape-test : (n : ℕ) (B : List ℤ) → length B ≡ 2 * n → T (is_empty n B || ordered B) ↔ ((B ≡ empty_box n) ⊎ NonEmpty n B)
shape-test n B l = (
  (λ t. ⊎_elim (λ e. inl (is_empty→eq n B e)) (λ o. inr ((ordered-test n B l).0 o)) (or_cases (is_empty n B) (ordered B) t)),
  ⊎_elim (λ e. or_inl (is_empty n B) (ordered B) (true→T (is_empty n B) (empty-is n B e))) (λ p. or_inr (is_empty n B) (ordered B) ((ordered-test n B l).1 p)),
)

pub narrow-test : (B : List ℤ) → T (narrow B) ↔ ((j : ℕ) → 2 * j + 1 < length B → (upper B j -ℤ lower B j) ≤ℤ max_width)
unfolding narrow
narrow-test B =
    let d = all-test (length B / 2) (λ j. le_z (upper B j -ℤ lower B j) max_width) (λ j. le_test (upper B j -ℤ lower B j) max_width) in
    ((λ t j h. d.0 t j (omega arith)), (λ p. d.1 (λ j h. p j (omega arith))))

-- past the end of B stand 0 and 0
pub narrow-past : (n : ℕ) (B : List ℤ) → length B ≡ 2 * n
    → ((j : ℕ) → j < n → (upper B j -ℤ lower B j) ≤ℤ max_width) → (j : ℕ) → (upper B j -ℤ lower B j) ≤ℤ max_width
narrow-past n B l f j = cases (dec_lt j n)
  where
    cases : Dec (j < n) → (upper B j -ℤ lower B j) ≤ℤ max_width
    cases (yes h) = f j h
    cases (no h) =
        let a : length B ≤ 2 * j = omega arith in
        let b : length B ≤ 2 * j + 1 = omega arith in
        rw (get_or-eq_default B (pos 0) a, get_or-eq_default B (pos 0) b) (omega zarith)

pub narrow-all : (n : ℕ) (B : List ℤ) → length B ≡ 2 * n → T (narrow B) ↔ ((j : ℕ) → (upper B j -ℤ lower B j) ≤ℤ max_width)
narrow-all n B l =
    let d = narrow-test B in
    ((λ t. narrow-past n B l (λ j h. d.0 t j (omega arith))), (λ p. d.1 (λ j _. p j)))

pub bits-test : (t : List ℕ) → T (bits t) ↔ ((i : ℕ) → i < length t → get_or t i 0 < 2)
unfolding bits
bits-test t = all-test (length t) (λ i. ltb (get_or t i 0) 2) (λ i. ltb-test (get_or t i 0) 2)

pub bits-all : (t : List ℕ) → T (bits t) ↔ ((i : ℕ) → get_or t i 0 < 2)
bits-all t = let d = bits-test t in ((λ b. get_d-all t 0 (λ x. x < 2) (omega arith) (d.0 b)), (λ b. d.1 (λ i _. b i)))

-- ---- acceptance

-- the tests that every model takes
abbrev Tests : Model → Type 0
Tests M =
    T (leb 1 M.n && leb M.n max_variables && leb M.m max_rows)
    × T (eqb (length M.box) (2 * M.n) && eqb (length M.rows.coefs) (M.m * M.n) && eqb (length M.rows.rhs) M.m && eqb (length M.rows.kinds) M.m)
    × T (in_range min_bound max_bound M.box)
    × T (is_empty M.n M.box || ordered M.box)
    × T (narrow M.box)
    × T (in_range min_coef max_coef M.rows.coefs)
    × T (in_range min_rhs max_rhs M.rows.rhs)
    × T (bits M.rows.kinds)

model-test : (M : Model) → Tests M ↔ ValidModel M
model-test M = (there, back)
  where
    there : Tests M → ValidModel M
    there t =
        let s = (size-test M.n M.m).0 t.0 in
        let l = (length-test M).0 t.1 in
        record {
          some = s.0;
          few = s.1;
          few_rows = s.2;
          box = record {
            len = l.0;
            range = (in_range-all min_bound max_bound M.box (omega zarith) (omega zarith)).0 t.2;
            shape = (shape-test M.n M.box l.0).0 t.3;
            narrow = (narrow-all M.n M.box l.0).0 t.4;
          };
          coefs_len = l.1;
          coefs = (in_range-all min_coef max_coef M.rows.coefs (omega zarith) (omega zarith)).0 t.5;
          rhs_len = l.2;
          rhs = (in_range-all min_rhs max_rhs M.rows.rhs (omega zarith) (omega zarith)).0 t.6;
          kinds_len = l.3;
          kinds = (bits-all M.rows.kinds).0 t.7;
        }

    back : ValidModel M → Tests M
    back v = (
      (size-test M.n M.m).1 (v.some, v.few, v.few_rows),
      (length-test M).1 (v.box.len, v.coefs_len, v.rhs_len, v.kinds_len),
      (in_range-all min_bound max_bound M.box (omega zarith) (omega zarith)).1 v.box.range,
      (shape-test M.n M.box v.box.len).1 v.box.shape,
      (narrow-all M.n M.box v.box.len).1 v.box.narrow,
      (in_range-all min_coef max_coef M.rows.coefs (omega zarith) (omega zarith)).1 v.coefs,
      (in_range-all min_rhs max_rhs M.rows.rhs (omega zarith) (omega zarith)).1 v.rhs,
      (bits-all M.rows.kinds).1 v.kinds,
    )

-- a model is accepted exactly if it is valid and everything else that is lent fits
pub fits-fault-none : (M : Model) (fits : Bool) → (model_fault M none fits ≡ 0) ↔ (ValidModel M × T fits)
unfolding model_fault model_checks size_checks length_checks table_length_checks box_checks number_checks table_byte_checks
fits-fault-none M fits =
    let d = first-none (model_checks M none fits) tt in
    let v = model-test M in (
      (λ e. let h = d.0 e in
          let k = h.1.1.1 in (v.0 (h.0, h.1.0, k.0, k.1.0, k.1.1.0, k.1.1.1.0, k.1.1.1.1.0, k.1.1.1.1.1.0), h.1.1.0)),
      (λ w. let s = v.1 w.0 in d.1 (s.0, (s.1, (w.1, (s.2, (s.3, (s.4, (s.5, (s.6, (s.7, tt)))))))))),
    )

-- the same with a table
pub fits-table-fault-none : (M : Model) (t : List ℕ) (fits : Bool)
    → (model_fault M (table t) fits ≡ 0) ↔ (ValidModel M × ValidTable M.n t × T fits)
unfolding model_fault model_checks size_checks length_checks table_length_checks box_checks number_checks table_byte_checks
fits-table-fault-none M t fits =
    let d = first-none (model_checks M (table t) fits) tt in
    let v = model-test M in
    let l = eqb-test (length t) (4 * (M.n * M.n)) in
    let b = bits-all t in (
      (λ e. let h = d.0 e in
          let k = h.1.1.1.1 in (
            v.0 (h.0, h.1.0, k.0, k.1.0, k.1.1.0, k.1.1.1.0, k.1.1.1.1.0, k.1.1.1.1.1.0),
            record { len = l.0 h.1.1.0; bits = b.0 k.1.1.1.1.1.1.0 },
            h.1.1.1.0,
          )),
      (λ w. let s = v.1 w.0 in
          d.1 (s.0, (s.1, (l.1 w.1.len, (w.2, (s.2, (s.3, (s.4, (s.5, (s.6, (s.7, (b.1 w.1.bits, tt)))))))))))),
    )

-- where nothing else is lent
pub fault-none : (M : Model) → (model_fault M none true ≡ 0) ↔ ValidModel M
fault-none M = let d = fits-fault-none M true in ((λ e. (d.0 e).0), (λ v. d.1 (v, tt)))

pub table-fault-none : (M : Model) (t : List ℕ) → (model_fault M (table t) true ≡ 0) ↔ (ValidModel M × ValidTable M.n t)
table-fault-none M t = let d = fits-table-fault-none M t true in ((λ e. let h = d.0 e in (h.0, h.1)), (λ v. d.1 (v.0, v.1, tt)))

-- the total width of a valid box is at most n times 4,096, and that of a valid model at most 128 times
pub valid-width : {n : ℕ} {B : List ℤ} → ValidBox n B → width n B ≤ℤ pos (n * 4_096)
unfolding width
valid-width {n} {B} v = sum_below 4_096 (λ j. upper B j -ℤ lower B j) v.narrow n

pub model-width : (M : Model) → ValidModel M → width M.n M.box ≤ℤ pos 524_288
model-width M v = let w = valid-width v.box in let f = v.few in omega zarith

-- two tests of one number in turn are one test
merge : (a b : Bool) (number : ℕ) (checks : List Check)
    → first (must a number ∷ must b number ∷ checks) ≡ first (must (a && b) number ∷ checks)
unfolding first
merge true b number checks = refl
merge false b number checks = refl

-- the chain with a table is the chain without one, in which the table's length is one of those that must fit, and then check 10
pub table-chain : (M : Model) (t : List ℕ) (fits : Bool)
    → model_fault M (table t) fits ≡ first (model_checks M none (eqb (length t) (4 * (M.n * M.n)) && fits) ++ table_byte_checks (table t))
unfolding model_fault model_checks size_checks length_checks table_length_checks box_checks number_checks table_byte_checks first
table-chain M t fits =
    ap
    (λ r. cond (leb 1 M.n && leb M.n max_variables && leb M.m max_rows)
    (cond (eqb (length M.box) (2 * M.n) && eqb (length M.rows.coefs) (M.m * M.n) && eqb (length M.rows.rhs) M.m
    && eqb (length M.rows.kinds) M.m) r 5) 3)
    (merge (eqb (length t) (4 * (M.n * M.n))) fits 5 (number_checks M.n M.box M.rows ++ table_byte_checks (table t)))

-- ---- checks that refuse by name

-- the first list refuses: its number is the answer
pub refuses : (xs ys : List Check) (z : Refusal) → number_of z ≡ first xs → number_of z ≡ first (xs ++ ys)
refuses xs ys z e = stops xs ys e (number_of-ne0 z)

-- the first list refuses nothing: the answer is the second's
pub accepts : {r : ℕ} (xs ys : List Check) → T (numbered xs) → 0 ≡ first xs → r ≡ first ys → r ≡ first (xs ++ ys)
accepts xs ys t e h = goes xs ys t e refl h
