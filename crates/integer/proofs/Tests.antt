-- Tests: a Bool as a fact, the two cases of a `cond`, conjunctions.
use borrow.Author.Tests.{not-false, not-true}
use lib.Dec.{T, T_not, eqb, eqb→eq, eqb_refl, leb, leb→le, le→leb, ltb, ltb→lt, lt→ltb, not_T}
use Prim.Native.Nat.{◌<◌, ◌≤◌, ℕ}
use lib.IntN.{ℤ}
use lib.Signed.{◌<ℤ◌, ◌≤ℤ◌, le_z, le_z_yes, lt_z, lt_z_no, lt_z_yes}
use mathlib.Core.Bool.{Bool, ◌&&◌, ◌||◌, cond, false, not, true}
use mathlib.Core.Logic.{◌↔◌, ◌⊎◌, inl, inr, ⊎_elim}
use mathlib.Core.Path.{◌∙◌, ◌≡◌, refl, subst, sym}
use Rattle.integer.specs.Order.{eq_z}
use Rattle.integer.proofs.Parts.{zarith}

-- what holds of both branches, each under its test, holds of the choice
pub cond_ind {ℓ ℓ'} : {A : Type ℓ} (c : Bool) (x y : A) (P : A → Type ℓ') → (T c → P x) → (T (not c) → P y) → P (cond c x y)
cond_ind true x y P f g = f tt
cond_ind false x y P f g = g tt

pub and_l : (a b : Bool) → T (a && b) → T a
and_l true b t = tt
and_l false b t = t

pub and_r : (a b : Bool) → T (a && b) → T b
and_r true b t = t
and_r false b t = absurd t

pub and_i : (a b : Bool) → T a → T b → T (a && b)
and_i true b s t = t
and_i false b s t = s

pub or_r : (a b : Bool) → T (a || b) → T (not a) → T b
or_r true b s t = absurd t
or_r false b s t = s

pub or_inl : (a b : Bool) → T a → T (a || b)
or_inl true b t = tt
or_inl false b t = absurd t

pub or_inr : (a b : Bool) → T b → T (a || b)
or_inr true b t = tt
or_inr false b t = t

pub or_cases : (a b : Bool) → T (a || b) → T a ⊎ T b
or_cases true b t = inl tt
or_cases false b t = inr t

pub T→true : (a : Bool) → T a → a ≡ true
T→true true t = refl
T→true false t = absurd t

pub T→false : (a : Bool) → T (not a) → a ≡ false
T→false true t = absurd t
T→false false t = refl

pub true→T : (a : Bool) → a ≡ true → T a
true→T a e = subst T (sym e) tt

pub false→T : (a : Bool) → a ≡ false → T (not a)
false→T a e = subst (λ (b : Bool). T (not b)) (sym e) tt

-- two tests that say the same are the same
pub bool-ext : (a b : Bool) → (T a → T b) → (T b → T a) → a ≡ b
bool-ext true true f g = refl
bool-ext true false f g = absurd (f tt)
bool-ext false true f g = absurd (g tt)
bool-ext false false f g = refl

-- either a test holds or it does not
pub decide : (a : Bool) → T a ⊎ T (not a)
decide true = inl tt
decide false = inr tt

-- ---- equality of whole numbers
pub eq_z→eq : (a b : ℤ) → T (eq_z a b) → a ≡ b
unfolding eq_z
eq_z→eq a b t =
    let h : a ≤ℤ b = le_z_yes (and_l (le_z a b) (le_z b a) t) in
    let k : b ≤ℤ a = le_z_yes (and_r (le_z a b) (le_z b a) t) in
    omega zarith

pub eq→eq_z : (a b : ℤ) → a ≡ b → T (eq_z a b)
unfolding eq_z
eq→eq_z a b e =
    let h : a ≤ℤ b = omega zarith in
    let k : b ≤ℤ a = omega zarith in
    and_i (le_z a b) (le_z b a) h.le k.le

-- ---- a test that decides P
pub test-true : (a : Bool) {P : Type 0} → (T a ↔ P) → P → a ≡ true
test-true a d p = T→true a (d.1 p)

pub test-false : (a : Bool) {P : Type 0} → (T a ↔ P) → (P → ⊥) → a ≡ false
test-false a d n = T→false a (not_T a (λ t. n (d.0 t)))

pub both : (a b : Bool) {P Q : Type 0} → (T a ↔ P) → (T b ↔ Q) → T (a && b) ↔ (P × Q)
both a b d e = ((λ t. (d.0 (and_l a b t), e.0 (and_r a b t))), (λ h. and_i a b (d.1 h.0) (e.1 h.1)))

pub all_three : (a b c : Bool) {P Q R : Type 0} → (T a ↔ P) → (T b ↔ Q) → (T c ↔ R) → T (a && b && c) ↔ (P × Q × R)
all_three a b c d e f =
    let g = both (a && b) c (both a b d e) f in
    ((λ t. let h = g.0 t in (h.0.0, h.0.1, h.1)), (λ h. g.1 ((h.0, h.1), h.2)))

pub le_test : (a b : ℤ) → T (le_z a b) ↔ (a ≤ℤ b)
le_test a b = ((λ t. le_z_yes t), (λ h. h.le))

pub leb-test : (a b : ℕ) → T (leb a b) ↔ (a ≤ b)
leb-test a b = (leb→le a b, le→leb a b)

pub ltb-test : (a b : ℕ) → T (ltb a b) ↔ (a < b)
ltb-test a b = (ltb→lt a b, lt→ltb a b)

pub eqb-test : (a b : ℕ) → T (eqb a b) ↔ (a ≡ b)
eqb-test a b = (eqb→eq a b, (λ e. subst (λ (x : ℕ). T (eqb a x)) e (eqb_refl a)))

pub neqb→ne : (a b : ℕ) → T (not (eqb a b)) → a ≡ b → ⊥
neqb→ne a b n e = T_not (eqb a b) n ((eqb-test a b).1 e)

-- what a call's answer r, of which b is known, says where the code goes by `!r`
pub told-false : {b : Bool} (r : Bool) → r ≡ b → not r ≡ true → b ≡ false
told-false r e t = sym e ∙ not-true r t

pub told-true : {b : Bool} (r : Bool) → r ≡ b → not r ≡ false → b ≡ true
told-true r e t = sym e ∙ not-false r t

pub lt-or-ge : (a b : ℤ) → (a <ℤ b) ⊎ (b ≤ℤ a)
lt-or-ge a b = cases (decide (lt_z a b))
  where
    cases : T (lt_z a b) ⊎ T (not (lt_z a b)) → (a <ℤ b) ⊎ (b ≤ℤ a)
    cases (inl t) = inl (lt_z_yes t)
    cases (inr t) = inr (lt_z_no t)

-- a test that is made only where a holds
pub when-test : (a b : Bool) {P : Type 0} → (T b ↔ P) → T (not a || b) ↔ (T a → P)
when-test true b d = ((λ t _. d.0 t), (λ f. d.1 (f tt)))
when-test false b d = ((λ _ z. absurd z), (λ _. tt))

pub or-test : (a b : Bool) {P Q : Type 0} → (T a ↔ P) → (T b ↔ Q) → T (a || b) ↔ (P ⊎ Q)
or-test a b d e =
    ((λ t. ⊎_elim (λ x. inl (d.0 x)) (λ y. inr (e.0 y)) (or_cases a b t)), ⊎_elim (λ p. or_inl a b (d.1 p)) (λ q. or_inr a b (e.1 q)))

-- ---- a disjunction or a conjunction that fails
pub not-or-l : (a b : Bool) → T (not (a || b)) → T (not a)
not-or-l true b t = t
not-or-l false b t = tt

pub not-or-r : (a b : Bool) → T (not (a || b)) → T (not b)
not-or-r true b t = absurd t
not-or-r false b t = t

pub not-and : (a b : Bool) → T (not (a && b)) → T (not a) ⊎ T (not b)
not-and true b t = inr t
not-and false b t = inl tt

pub not-not : (a : Bool) → T (not (not a)) → T a
not-not true t = tt
not-not false t = t
