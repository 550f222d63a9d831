-- Linear and bilinear arithmetic on ℤ by `omega`: an integer z is read as the difference pp z - np z of two naturals.
use mathlib.Core.Path.{◌≡◌, refl, sym, ap, subst}
use mathlib.Core.Logic.{◌↔◌}
use mathlib.Core.Bool.{Bool, true, false, not, cond}
use Prim.Native.Nat.{ℕ, zero, suc, ◌+◌, ◌*◌, ◌-◌, ◌^◌, ◌≤◌, ◌<◌, min, max}
use native.Mathlib.Nat.{mul-le-mul_right, le_of_mul-le-mul_right, lt_of_mul-lt-mul_right}
use native.Mathlib.Omega.{arith}
use lib.Dec.{T, ltb, leb→le, le→leb, ltb→lt, lt→ltb, nltb→le, nleb→lt}
use lib.IntN.{ℤ, pos, negsuc, sub_ℕ, neg_ℤ, ◌+ℤ◌, ◌-ℤ◌, ◌*ℤ◌}
use lib.Signed.{mag, le_z, lt_z, ◌≤ℤ◌, ◌<ℤ◌, le_z_yes, lt_z_yes, lt_z_no}
use mir.Syntax.{Width}
use mir.Val.{SFits, hbits}
use Rattle.integer.specs.Order.{max_z, min_z}

-- ---- the parts
abbrev pub pp : ℤ → ℕ
pp (pos n) = n
pp (negsuc n) = 0

abbrev pub np : ℤ → ℕ
np (pos n) = 0
np (negsuc n) = suc n

cond_ind : (c : Bool) (x y : ℤ) (P : ℤ → Type 0) → (T c → P x) → (T (not c) → P y) → P (cond c x y)
cond_ind true x y P f g = f tt
cond_ind false x y P f g = g tt

pub subℕ-parts : (a b : ℕ) → pp (sub_ℕ a b) + b ≡ np (sub_ℕ a b) + a
subℕ-parts a b =
    cond_ind (ltb a b) (negsuc (b - suc a)) (pos (a - b)) (λ (z : ℤ). pp z + b ≡ np z + a)
    (λ t. omega (arith, ltb→lt a b t)) (λ t. omega (arith, nltb→le a b t))

-- a + b, -a, a - b, a * b: what is known of the parts
pub add_parts : (a b : ℤ) → pp (a +ℤ b) + (np a + np b) ≡ np (a +ℤ b) + (pp a + pp b)
add_parts (pos a) (pos b) = omega arith
add_parts (pos a) (negsuc b) = omega (arith, subℕ-parts a (suc b))
add_parts (negsuc a) (pos b) = omega (arith, subℕ-parts b (suc a))
add_parts (negsuc a) (negsuc b) = omega arith

pub neg-parts : (a : ℤ) → (pp (neg_ℤ a) ≡ np a) × (np (neg_ℤ a) ≡ pp a)
neg-parts (pos zero) = (refl, refl)
neg-parts (pos (suc n)) = (refl, refl)
neg-parts (negsuc n) = (refl, refl)

pub sub_parts : (a b : ℤ) → pp (a -ℤ b) + (np a + pp b) ≡ np (a -ℤ b) + (pp a + np b)
sub_parts a b = omega (arith, add_parts a (neg_ℤ b), neg-parts b)

pub mul-parts : (a b : ℤ) → pp (a *ℤ b) + (pp a * np b + np a * pp b) ≡ np (a *ℤ b) + (pp a * pp b + np a * np b)
mul-parts (pos a) (pos b) = omega arith
mul-parts (pos a) (negsuc b) = omega (arith, neg-parts (pos (a * suc b)))
mul-parts (negsuc a) (pos b) = omega (arith, neg-parts (pos (suc a * b)))
mul-parts (negsuc a) (negsuc b) = omega arith

-- one of the two parts is 0
pub one-part-zero : (a : ℤ) → min (pp a) (np a) ≡ 0
one-part-zero (pos n) = omega arith
one-part-zero (negsuc n) = omega arith

-- ---- orders and equations
pub le_in : {a b : ℤ} → a ≤ℤ b → pp a + np b ≤ pp b + np a
le_in {a = pos a} {b = pos b} h = omega (arith, leb→le a b h.le)
le_in {a = pos a} {b = negsuc b} h = absurd h.le
le_in {a = negsuc a} {b = pos b} h = omega arith
le_in {a = negsuc a} {b = negsuc b} h = omega (arith, leb→le b a h.le)

le-out' : (a b : ℤ) → pp a + np b ≤ pp b + np a → T (le_z a b)
le-out' (pos a) (pos b) h = le→leb a b (omega arith)
le-out' (pos a) (negsuc b) h = let z : ⊥ = omega arith in absurd z
le-out' (negsuc a) (pos b) h = tt
le-out' (negsuc a) (negsuc b) h = le→leb b a (omega arith)

pub le_out : (a b : ℤ) → pp a + np b ≤ pp b + np a → a ≤ℤ b
le_out a b h = record { le = le-out' a b h }

pub lt_in : {a b : ℤ} → a <ℤ b → pp a + np b < pp b + np a
lt_in {a = pos a} {b = pos b} h = omega (arith, ltb→lt a b h.lt)
lt_in {a = pos a} {b = negsuc b} h = absurd h.lt
lt_in {a = negsuc a} {b = pos b} h = omega arith
lt_in {a = negsuc a} {b = negsuc b} h = omega (arith, ltb→lt b a h.lt)

lt-out' : (a b : ℤ) → pp a + np b < pp b + np a → T (lt_z a b)
lt-out' (pos a) (pos b) h = lt→ltb a b (omega arith)
lt-out' (pos a) (negsuc b) h = let z : ⊥ = omega arith in absurd z
lt-out' (negsuc a) (pos b) h = tt
lt-out' (negsuc a) (negsuc b) h = lt→ltb b a (omega arith)

pub lt_out : (a b : ℤ) → pp a + np b < pp b + np a → a <ℤ b
lt_out a b h = record { lt = lt-out' a b h }

pub eq-in : (a b : ℤ) → a ≡ b → pp a + np b ≡ pp b + np a
eq-in a b e = subst (λ (y : ℤ). pp a + np y ≡ pp y + np a) e (omega arith)

pub eq-out : (a b : ℤ) → pp a + np b ≡ pp b + np a → a ≡ b
eq-out (pos a) (pos b) h = let e : a ≡ b = omega arith in ap pos e
eq-out (pos a) (negsuc b) h = let z : ⊥ = omega arith in absurd z
eq-out (negsuc a) (pos b) h = let z : ⊥ = omega arith in absurd z
eq-out (negsuc a) (negsuc b) h = let e : a ≡ b = omega arith in ap negsuc e

-- a number that fits
pub fit-in⁺ : {w : Width} {z : ℤ} → SFits w z → pp z < 2 ^ hbits w
fit-in⁺ {w} {z = pos n} h = h.sfits
fit-in⁺ {w} {z = negsuc n} h = omega (arith, h.sfits)

pub fit-in⁻ : {w : Width} {z : ℤ} → SFits w z → np z ≤ 2 ^ hbits w
fit-in⁻ {w} {z = pos n} h = omega arith
fit-in⁻ {w} {z = negsuc n} h = h.sfits

fit-out' : (H : ℕ) (z : ℤ) → pp z < H + np z → np z ≤ H + pp z → mag z < H
fit-out' H (pos n) h k = omega arith
fit-out' H (negsuc n) h k = omega arith

pub fits : (w : Width) (z : ℤ) → (pp z < 2 ^ hbits w + np z) × (np z ≤ 2 ^ hbits w + pp z) → SFits w z
fits w z h = record { sfits = fit-out' (2 ^ hbits w) z h.0 h.1 }

pub fit-in : {w : Width} {z : ℤ} → SFits w z → (pp z < 2 ^ hbits w) × (np z ≤ 2 ^ hbits w)
fit-in h = (fit-in⁺ h, fit-in⁻ h)

-- as a rule, one bound: |z| ≤ 2 ^ (w - 1)
pub fit-abs : {w : Width} {z : ℤ} → SFits w z → pp z + np z ≤ 2 ^ hbits w
fit-abs {w} {z = pos n} h = omega (arith, h.sfits)
fit-abs {w} {z = negsuc n} h = omega (arith, h.sfits)

pub ruleset zarith = (arith, le_in, le_out, lt_in, lt_out, eq-in, eq-out, fit-abs)

-- ---- (a - b) * (c - d) is (p - n) * (q - m) where a - b is p - n and c - d is q - m
prod-ok : (a b p n q m : ℕ) (c d : ℕ) → a + n ≡ b + p → c + m ≡ d + q
    → a * d + b * c + (p * q + n * m) ≡ a * c + b * d + (p * m + n * q)
prod-ok a b p n q m c d h k =
    let hc : (a + n) * c ≡ (b + p) * c = ap (λ (x : ℕ). x * c) h in
    let hd : (a + n) * d ≡ (b + p) * d = ap (λ (x : ℕ). x * d) h in
    let kp : (c + m) * p ≡ (d + q) * p = ap (λ (x : ℕ). x * p) k in
    let kn : (c + m) * n ≡ (d + q) * n = ap (λ (x : ℕ). x * n) k in
    omega arith

-- ════ `simp zify (omega zarith)`: the goal, from ℤ to ℕ. The mark ⌈_⌉ goes down to the leaves, each leaf becomes a difference of its parts, and the differences are gathered.
pub ⌈◌⌉ : ℤ → ℤ
⌈ z ⌉ = z

infixl 6 ◌+'◌
infixl 7 ◌*'◌
infix 50 ◌≤'◌ ◌<'◌ ◌≡'◌
pub ◌+'◌ : ℤ → ℤ → ℤ
a +' b = a +ℤ b

pub neg' : ℤ → ℤ
neg' a = neg_ℤ a

pub ◌*'◌ : ℤ → ℤ → ℤ
a *' b = a *ℤ b

pub ◌≤'◌ : ℤ → ℤ → Type 0
a ≤' b = a ≤ℤ b

pub ◌<'◌ : ℤ → ℤ → Type 0
a <' b = a <ℤ b

pub ◌≡'◌ : ℤ → ℤ → Type 0
a ≡' b = a ≡ b

pub ◌⊝◌ : ℕ → ℕ → ℤ

infixl 6 ◌⊝◌
a ⊝ b = sub_ℕ a b

pub push-le : (a b : ℤ) → (a ≤ℤ b) ↔ (⌈ a ⌉ ≤' ⌈ b ⌉)
unfolding ⌈◌⌉ ◌≤'◌
push-le a b = ((λ h. h), (λ h. h))

pub push-lt : (a b : ℤ) → (a <ℤ b) ↔ (⌈ a ⌉ <' ⌈ b ⌉)
unfolding ⌈◌⌉ ◌<'◌
push-lt a b = ((λ h. h), (λ h. h))

pub push-eq : (a b : ℤ) → (a ≡ b) ↔ (⌈ a ⌉ ≡' ⌈ b ⌉)
unfolding ⌈◌⌉ ◌≡'◌
push-eq a b = ((λ h. h), (λ h. h))

pub push-add : (a b : ℤ) → ⌈ a +ℤ b ⌉ ≡ ⌈ a ⌉ +' ⌈ b ⌉
unfolding ⌈◌⌉ ◌+'◌
push-add a b = refl

pub push-mul : (a b : ℤ) → ⌈ a *ℤ b ⌉ ≡ ⌈ a ⌉ *' ⌈ b ⌉
unfolding ⌈◌⌉ ◌*'◌
push-mul a b = refl

pub push-neg : (a : ℤ) → ⌈ neg_ℤ a ⌉ ≡ neg' ⌈ a ⌉
unfolding ⌈◌⌉ neg'
push-neg a = refl

pub min' : ℤ → ℤ → ℤ
min' a b = min_z a b

pub max' : ℤ → ℤ → ℤ
max' a b = max_z a b

pub push-min : (a b : ℤ) → ⌈ min_z a b ⌉ ≡ min' ⌈ a ⌉ ⌈ b ⌉
unfolding ⌈◌⌉ min'
push-min a b = refl

pub push-max : (a b : ℤ) → ⌈ max_z a b ⌉ ≡ max' ⌈ a ⌉ ⌈ b ⌉
unfolding ⌈◌⌉ max'
push-max a b = refl

nle_z : (a b : ℤ) → T (not (le_z a b)) → pp b + np a < pp a + np b
nle_z (pos a) (pos b) t = omega (arith, nleb→lt a b t)
nle_z (pos a) (negsuc b) t = omega arith
nle_z (negsuc a) (pos b) t = absurd t
nle_z (negsuc a) (negsuc b) t = omega (arith, nleb→lt b a t)

-- a test of order that failed, as a fact
pub le_z-no : {a b : ℤ} → T (not (le_z a b)) → b <ℤ a
le_z-no {a} {b} t = lt_out b a (nle_z a b t)

pub min_z-parts : (a b : ℤ) → pp (min_z a b) + (np a + np b) ≡ np (min_z a b) + min (pp a + np b) (pp b + np a)
unfolding min_z
min_z-parts a b =
    cond_ind (le_z a b) a b (λ (z : ℤ). pp z + (np a + np b) ≡ np z + min (pp a + np b) (pp b + np a))
    (λ t. omega (arith, le_in (le_z_yes {a = a} {b = b} t))) (λ t. omega (arith, nle_z a b t))

pub max_z-parts : (a b : ℤ) → pp (max_z a b) + (np a + np b) ≡ np (max_z a b) + max (pp a + np b) (pp b + np a)
unfolding max_z
max_z-parts a b =
    cond_ind (le_z a b) b a (λ (z : ℤ). pp z + (np a + np b) ≡ np z + max (pp a + np b) (pp b + np a))
    (λ t. omega (arith, le_in (le_z_yes {a = a} {b = b} t))) (λ t. omega (arith, nle_z a b t))

-- ---- phase two
pub leaf : (a : ℤ) → ⌈ a ⌉ ≡ pp a ⊝ np a
unfolding ⌈◌⌉ ◌⊝◌
leaf a = eq-out _ _ (omega (arith, subℕ-parts (pp a) (np a)))

pub nat-add : (p n q m : ℕ) → (p ⊝ n) +' (q ⊝ m) ≡ (p + q) ⊝ (n + m)
unfolding ◌⊝◌ ◌+'◌
nat-add p n q m = eq-out _ _ (omega (arith, subℕ-parts p n, subℕ-parts q m, subℕ-parts (p + q) (n + m), add_parts (sub_ℕ p n) (sub_ℕ q m)))

pub nat-neg : (p n : ℕ) → neg' (p ⊝ n) ≡ n ⊝ p
unfolding ◌⊝◌ neg'
nat-neg p n = eq-out _ _ (omega (arith, subℕ-parts p n, subℕ-parts n p, neg-parts (sub_ℕ p n)))

pub nat-mul : (p n q m : ℕ) → (p ⊝ n) *' (q ⊝ m) ≡ (p * q + n * m) ⊝ (p * m + n * q)
unfolding ◌⊝◌ ◌*'◌
nat-mul p n q m = eq-out _ _ (omega (arith, subℕ-parts (p * q + n * m) (p * m + n * q), mul-parts (sub_ℕ p n) (sub_ℕ q m), prod-ok (pp (sub_ℕ p n)) (np (sub_ℕ p n)) p n q m (pp (sub_ℕ q m)) (np (sub_ℕ q m)) (subℕ-parts p n) (subℕ-parts q m)))

pub nat_le : (p n q m : ℕ) → ((p ⊝ n) ≤' (q ⊝ m)) ↔ (p + m ≤ q + n)
unfolding ◌⊝◌ ◌≤'◌
nat_le p n q m = omega (zarith, subℕ-parts p n, subℕ-parts q m)

pub nat_lt : (p n q m : ℕ) → ((p ⊝ n) <' (q ⊝ m)) ↔ (p + m < q + n)
unfolding ◌⊝◌ ◌<'◌
nat_lt p n q m = omega (zarith, subℕ-parts p n, subℕ-parts q m)

pub nat_eq : (p n q m : ℕ) → ((p ⊝ n) ≡' (q ⊝ m)) ↔ (p + m ≡ q + n)
unfolding ◌⊝◌ ◌≡'◌
nat_eq p n q m = ((λ h. omega (arith, eq-in _ _ h, subℕ-parts p n, subℕ-parts q m)), (λ h. eq-out _ _ (omega (arith, subℕ-parts p n, subℕ-parts q m))))

pub nat-min : (p n q m : ℕ) → min' (p ⊝ n) (q ⊝ m) ≡ min (p + m) (q + n) ⊝ (n + m)
unfolding ◌⊝◌ min'
nat-min p n q m = eq-out _ _ (omega (arith, subℕ-parts p n, subℕ-parts q m, subℕ-parts (min (p + m) (q + n)) (n + m), min_z-parts (sub_ℕ p n) (sub_ℕ q m)))

pub nat-max : (p n q m : ℕ) → max' (p ⊝ n) (q ⊝ m) ≡ max (p + m) (q + n) ⊝ (n + m)
unfolding ◌⊝◌ max'
nat-max p n q m = eq-out _ _ (omega (arith, subℕ-parts p n, subℕ-parts q m, subℕ-parts (max (p + m) (q + n)) (n + m), max_z-parts (sub_ℕ p n) (sub_ℕ q m)))

pub ruleset zify = (push-le, push-lt, push-eq, push-add, push-mul, push-neg, push-min, push-max, leaf, nat-add, nat-neg, nat-mul, nat-min, nat-max, nat_le, nat_lt, nat_eq)

-- ---- a test's flag, as a fact and as a rule
T_of : (t : Bool) → t ≡ true → T t
T_of t e = subst T (sym e) tt

T-not-of : (t : Bool) → t ≡ false → T (not t)
T-not-of t e = subst (λ (b : Bool). T (not b)) (sym e) tt

pub le-true : (a b : ℤ) → le_z a b ≡ true → a ≤ℤ b
le-true a b e = le_z_yes (T_of (le_z a b) e)

pub le-false : (a b : ℤ) → le_z a b ≡ false → b <ℤ a
le-false a b e = le_z-no {a = a} {b = b} (T-not-of (le_z a b) e)

pub lt-true : (a b : ℤ) → lt_z a b ≡ true → a <ℤ b
lt-true a b e = lt_z_yes (T_of (lt_z a b) e)

pub lt-false : (a b : ℤ) → lt_z a b ≡ false → b ≤ℤ a
lt-false a b e = lt_z_no {a = a} {b = b} (T-not-of (lt_z a b) e)

-- the other way
is_true : (t : Bool) → T t → t ≡ true
is_true true h = refl
is_true false h = absurd h

is_false : (t : Bool) → (T t → ⊥) → t ≡ false
is_false true h = absurd (h tt)
is_false false h = refl

pub le_is : {a b : ℤ} → a ≤ℤ b → le_z a b ≡ true
le_is {a} {b} h = is_true (le_z a b) h.le

pub lt-is : {a b : ℤ} → a <ℤ b → lt_z a b ≡ true
lt-is {a} {b} h = is_true (lt_z a b) h.lt

pub le-isn't : {a b : ℤ} → b <ℤ a → le_z a b ≡ false
le-isn't {a} {b} h = is_false (le_z a b) (λ t. let z : ⊥ = omega (zarith, le_z_yes {a = a} {b = b} t) in z)

pub lt-isn't : {a b : ℤ} → b ≤ℤ a → lt_z a b ≡ false
lt-isn't {a} {b} h = is_false (lt_z a b) (λ t. let z : ⊥ = omega (zarith, lt_z_yes {a = a} {b = b} t) in z)

-- ---- products and orders
pub mul_mono : {a b : ℤ} (c : ℤ) → pos 0 ≤ℤ c → a ≤ℤ b → (a *ℤ c) ≤ℤ (b *ℤ c)
mul_mono {a} {b} (pos n) z h = simp zify (omega (arith, mul-le-mul_right n (le_in h)))
mul_mono {a} {b} (negsuc n) z h = absurd z.le

-- the same of a factor below 0
pub mul-anti : {a b : ℤ} (c : ℤ) → c ≤ℤ pos 0 → a ≤ℤ b → (b *ℤ c) ≤ℤ (a *ℤ c)
mul-anti {a} {b} (pos n) z h = let e : n ≡ 0 = omega (arith, le_in z) in simp (e, zify) (omega arith)
mul-anti {a} {b} (negsuc n) z h = simp zify (omega (arith, mul-le-mul_right (suc n) (le_in h)))

pub mul-cancel-le : (a b c : ℤ) → pos 0 <ℤ c → (a *ℤ c) ≤ℤ (b *ℤ c) → a ≤ℤ b
mul-cancel-le a b (pos n) z h =
    let k : (pp a + np b) * n ≤ (pp b + np a) * n = omega (arith, simp zify at h) in
    le_out a b (le_of_mul-le-mul_right k (omega (arith, lt_in z)))
mul-cancel-le a b (negsuc n) z h = absurd z.lt

pub mul-cancel-lt : (a b c : ℤ) → pos 0 ≤ℤ c → (a *ℤ c) <ℤ (b *ℤ c) → a <ℤ b
mul-cancel-lt a b (pos n) z h =
    let k : (pp a + np b) * n < (pp b + np a) * n = omega (arith, simp zify at h) in
    lt_out a b (lt_of_mul-lt-mul_right n k)
mul-cancel-lt a b (negsuc n) z h = absurd z.le

pub mul_assoc : (a b c : ℤ) → (a *ℤ b) *ℤ c ≡ a *ℤ (b *ℤ c)
mul_assoc a b c = simp zify (omega arith)

-- the factor on the left
pub mul-mono-left : {a b : ℤ} (c : ℤ) → pos 0 ≤ℤ c → a ≤ℤ b → (c *ℤ a) ≤ℤ (c *ℤ b)
mul-mono-left {a} {b} c z h = simp zify (omega (arith, simp zify at (mul_mono c z h)))

pub mul-anti-left : {a b : ℤ} (c : ℤ) → c ≤ℤ pos 0 → a ≤ℤ b → (c *ℤ b) ≤ℤ (c *ℤ a)
mul-anti-left {a} {b} c z h = simp zify (omega (arith, simp zify at (mul-anti c z h)))
