-- What the functions that make a round need of the definitions: where calls lead, and one turn of a loop over calls. Assumes nothing.
use Prim.Native.Nat.{◌*◌, ◌+◌, ◌<◌, ◌≤◌, suc, zero, ℕ}
use lib.Dec.{T}
use lib.IntN.{ℤ}
use lib.ListN.{length, replicate}
use mathlib.Core.Bool.{Bool, ◌||◌, cond, false, or_assoc, or-false, or-true, true}
use mathlib.Core.List.{List, [], ◌++◌, ◌∷◌, append_assoc}
use mathlib.Core.Path.{◌∙◌, ◌≡◌, ap, ap₂, refl, subst, sym}
use native.Mathlib.Numerals.{add-one}
use native.Mathlib.Omega.{arith}
use Rattle.integer.proofs.Tests.{true→T}
use Rattle.model.specs.Box.{is_empty, is_free}
use Rattle.model.specs.Valid.{ValidModel, ValidState, ValidTable}
use Rattle.semantics.specs.Run.{CallClass, class_of, run, step}
use Rattle.model.specs.Model.{model_of}
use Rattle.model.specs.Rows.{Rows}
use Rattle.semantics.specs.CallChecks.{call_fault}
use Rattle.semantics.specs.Call.{Call, call_of, has_budget, has_row, has_table, has_variable, is_unknown, kind_of}
use Rattle.model.specs.State.{State, state_of}
use Rattle.call_laws.proofs.Accepted.{accepts, lent-own}
use Rattle.call_laws.proofs.Preserved.{Preserves, run-preserves}
use Rattle.rounds.specs.Round.{and_then, any_change, is_change, probes, propagate_call, removals, remove_call, round, round_budget, tightenings, unless_empty, upwards}
use Rattle.demands.proofs.Demand3.{zeros-valid}

-- ---- the calls of a round are direct ones, and accepted

module _ {s : State} (v : ValidState s) where
  pub accepts-propagation : call_fault s (call_of s 2 0 0 round_budget) ≡ 0
  unfolding call_of kind_of has_row has_variable has_budget has_table is_unknown
  accepts-propagation = accepts s (call_of s 2 0 0 round_budget) (record {
    lent = lent-own refl refl refl;
    model = v.model;
    table = λ _. v.table;
    kind = tt;
    row = λ z. absurd z;
    variable = λ z. absurd z;
    free = λ z. absurd z;
    budget = λ _. (omega arith, omega arith);
  })

  pub accepts-removal : {r : ℕ} → r < s.model.m → call_fault s (call_of s 5 r 0 0) ≡ 0
  unfolding call_of kind_of has_row has_variable has_budget has_table is_unknown
  accepts-removal {r} h = accepts s (call_of s 5 r 0 0) (record {
    lent = lent-own refl refl refl;
    model = v.model;
    table = λ _. v.table;
    kind = tt;
    row = λ _. h;
    variable = λ z. absurd z;
    free = λ z. absurd z;
    budget = λ z. absurd z;
  })

  module _ {k : ℕ} (h : k < s.model.n) (f : is_free s.model.box k ≡ true) where
    free-binary : T (is_empty s.model.n s.model.box || is_free s.model.box k)
    free-binary = rw f (true→T (is_empty s.model.n s.model.box || true) (or-true (is_empty s.model.n s.model.box)))

    pub accepts-probe : call_fault s (call_of s 3 0 k round_budget) ≡ 0
    unfolding call_of kind_of has_row has_variable has_budget has_table is_unknown
    accepts-probe = accepts s (call_of s 3 0 k round_budget) (record {
      lent = lent-own refl refl refl;
      model = v.model;
      table = λ _. v.table;
      kind = tt;
      row = λ z. absurd z;
      variable = λ _. h;
      free = λ _. free-binary;
      budget = λ _. (omega arith, omega arith);
    })

    pub accepts-tightening : {r : ℕ} → r < s.model.m → call_fault s (call_of s 4 r k 0) ≡ 0
    unfolding call_of kind_of has_row has_variable has_budget has_table is_unknown
    accepts-tightening {r} g = accepts s (call_of s 4 r k 0) (record {
      lent = lent-own refl refl refl;
      model = v.model;
      table = λ _. v.table;
      kind = tt;
      row = λ _. g;
      variable = λ _. h;
      free = λ _. free-binary;
      budget = λ z. absurd z;
    })

-- ---- where calls lead

pub run-append : (s : State) (cs ds : List Call) → run s (cs ++ ds) ≡ run (run s cs) ds
unfolding run
run-append s [] ds = refl
run-append s (c ∷ cs) ds = run-append (step s c) cs ds

pub change-append : (s : State) (cs ds : List Call) → any_change s (cs ++ ds) ≡ (any_change s cs || any_change (run s cs) ds)
unfolding run any_change
change-append s [] ds = refl
change-append s (c ∷ cs) ds =
    let b = is_change (class_of s c) in
    ap (λ (x : Bool). b || x) (change-append (step s c) cs ds) ∙ sym (or_assoc b (any_change (step s c) cs) (any_change (run (step s c) cs) ds))

-- from s the calls cs lead to t, and b says whether one of them changed something
pub record Leads (s : State) (cs : List Call) (t : State) (b : Bool) : Type 0 where
  pub left : t ≡ run s cs
  pub changed : b ≡ any_change s cs

pub leads-valid : {s t : State} {cs : List Call} {b : Bool} → Leads s cs t b → ValidState s → ValidState t
leads-valid {s} {cs = cs} p v = subst ValidState (sym p.left) ((run-preserves s cs).valid v)

-- calls keep the length of each buffer
pub record SameLengths (s t : State) : Type 0 where
  pub box : length t.model.box ≡ length s.model.box
  pub coefs : length t.model.rows.coefs ≡ length s.model.rows.coefs
  pub rhs : length t.model.rows.rhs ≡ length s.model.rows.rhs
  pub kinds : length t.model.rows.kinds ≡ length s.model.rows.kinds
  pub table : length t.table ≡ length s.table

pub valid-lengths : {s t : State} → ValidState s → ValidState t → (t.model.n ≡ s.model.n) × (t.model.m ≡ s.model.m) → SameLengths s t
valid-lengths v w e = record {
  box = w.model.box.len ∙ ap (λ (x : ℕ). 2 * x) e.0 ∙ sym v.model.box.len;
  coefs = w.model.coefs_len ∙ ap₂ ◌*◌ e.1 e.0 ∙ sym v.model.coefs_len;
  rhs = w.model.rhs_len ∙ e.1 ∙ sym v.model.rhs_len;
  kinds = w.model.kinds_len ∙ e.1 ∙ sym v.model.kinds_len;
  table = w.table.len ∙ ap (λ (x : ℕ). 4 * (x * x)) e.0 ∙ sym v.table.len;
}

pub same-lengths : {s t : State} {cs : List Call} {b : Bool} → Leads s cs t b → ValidState s → SameLengths s t
same-lengths {s} {cs = cs} p v = let q = subst (Preserves s) (sym p.left) (run-preserves s cs) in valid-lengths v (q.valid v) q.sizes

pub no_call : (s : State) → Leads s [] s false
unfolding run any_change
no_call s = record { left = refl; changed = refl }

-- as the code makes a call: k is its class, t the state that it leaves
pub one-call : {s t : State} (c : Call) {k : CallClass} {b : Bool} → (k ≡ class_of s c) × (t ≡ step s c) → b ≡ is_change k → Leads s (c ∷ []) t b
unfolding run any_change
one-call {s} c e f = record { left = e.1; changed = f ∙ ap is_change e.0 ∙ sym (or-false (is_change (class_of s c))) }

pub leads-then : (f g : State → List Call) {s t u : State} {b d e : Bool}
    → Leads s (f s) t b → Leads t (g t) u d → e ≡ (b || d) → Leads s (and_then f g s) u e
unfolding and_then
leads-then f g {s} p q k =
    let r = rw p.left at q in
    record {
      left = r.left ∙ sym (run-append s (f s) (g (run s (f s))));
      changed = k ∙ ap₂ ◌||◌ p.changed r.changed ∙ sym (change-append s (f s) (g (run s (f s))));
    }

-- the flag b of a loop over calls becomes e after a call of which d says whether it changed something
pub flag-raised : (b : Bool) {d e : Bool} → d ≡ true → e ≡ true → e ≡ (b || d)
flag-raised b h k = k ∙ sym (ap (λ (x : Bool). b || x) h ∙ or-true b)

pub flag-kept : (b : Bool) {d e : Bool} → d ≡ false → e ≡ b → e ≡ (b || d)
flag-kept b h k = k ∙ sym (ap (λ (x : Bool). b || x) h ∙ or-false b)

-- ---- a loop over the calls of f 0, f 1, ..

-- i of `count` turns are made: from the valid state s their calls lead to t, and b says whether one of them changed something
pub record Turns (count : ℕ) (f : ℕ → State → List Call) (s t : State) (b : Bool) (i : ℕ) : Type 0 where
  pub within : i ≤ count
  pub start : ValidState s
  pub made : Leads s (upwards i f s) t b

module _ (count : ℕ) (f : ℕ → State → List Call) {s : State} where
  pub no-turn : ValidState s → Turns count f s s false 0
  unfolding upwards
  no-turn v = record { within = omega arith; start = v; made = no_call s }

  module _ {t : State} {b : Bool} {i : ℕ} (w : Turns count f s t b i) where
    pub turn : i < count → {u : State} {d e : Bool} → Leads t (f i t) u d → e ≡ (b || d) → Turns count f s u e (i + 1)
    unfolding upwards
    turn h p k = record { within = omega arith; start = w.start; made = rw (add-one i) (leads-then (upwards i f) (f i) w.made p k) }

    pub all-turns : count ≤ i → Leads s (upwards count f s) t b
    all-turns h = let e : i ≡ count = omega arith in rw e at w.made

    -- a turn that makes the call c only where the test x holds
    module _ (x : Bool) (c : Call) (q : f i t ≡ cond x (c ∷ []) []) (h : i < count) where
      pub call-turn : x ≡ true → {u : State} {k : CallClass} {d e : Bool} → (k ≡ class_of t c) × (u ≡ step t c) → d ≡ is_change k → e ≡ (b || d)
          → Turns count f s u e (i + 1)
      call-turn y r g = turn h (rw (q, y) (one-call c r g))

      pub skip-turn : x ≡ false → {e : Bool} → e ≡ b → Turns count f s t e (i + 1)
      skip-turn y k = turn h (rw (q, y) (no_call t)) (flag-kept b refl k)

module _ {count i : ℕ} {f : ℕ → State → List Call} {s t : State} {b : Bool} (w : Turns count f s t b i) where
  pub turns-valid : ValidState t
  turns-valid = leads-valid w.made w.start

  pub turns-lengths : SameLengths s t
  turns-lengths = same-lengths w.made w.start

-- a loop that is lent no table: its turns, whatever the table is
pub record AnyTurns (count : ℕ) (f : ℕ → State → List Call) (n m : ℕ) (B : List ℤ) (A A' : Rows) (b : Bool) (i : ℕ) : Type 0 where
  pub beside : (t : List ℕ) → ValidTable n t → Turns count f (state_of n m B A t) (state_of n m B A' t) b i

-- those beside a table all 0 tell of the rows
module _ {count i : ℕ} {f : ℕ → State → List Call} {n m : ℕ} {B : List ℤ} {A A' : Rows} {b : Bool} (w : AnyTurns count f n m B A A' b i) where
  pub any-within : i ≤ count
  any-within = (w.beside _ (zeros-valid n)).within

  pub any-valid : ValidModel (model_of n m B A')
  unfolding state_of
  any-valid = (turns-valid (w.beside _ (zeros-valid n))).model

  pub any-lengths : SameLengths (state_of n m B A (replicate (4 * (n * n)) 0)) (state_of n m B A' (replicate (4 * (n * n)) 0))
  any-lengths = turns-lengths (w.beside _ (zeros-valid n))

-- ---- the phases of a round

-- the turn of a row to be removed, in a box that is not empty
pub remove-turn : {count r : ℕ} {s t u : State} {k : CallClass} {b d e : Bool}
    → Turns count remove_call s t b r → is_empty t.model.n t.model.box ≡ false → r < count
    → (k ≡ class_of t (call_of t 5 r 0 0)) × (u ≡ step t (call_of t 5 r 0 0)) → d ≡ is_change k → e ≡ (b || d)
    → Turns count remove_call s u e (r + 1)
unfolding remove_call unless_empty
remove-turn {count} {r} {t = t} w z h o g = turn count remove_call w h (rw z (one-call (call_of t 5 r 0 0) o g))

-- "at None" no row is removed
no-calls : (count : ℕ) (f : ℕ → State → List Call) (s : State) → ((i : ℕ) → f i s ≡ []) → upwards count f s ≡ []
unfolding upwards and_then run
no-calls zero f s h = refl
no-calls (suc count) f s h = rw (no-calls count f s h) (h count)

pub no-removals : (s : State) → is_empty s.model.n s.model.box ≡ true → Leads s (removals s) s false
unfolding removals remove_call unless_empty
no-removals s e = rw (no-calls s.model.m remove_call s (λ r. rw e)) (no_call s)

then-assoc : (f g h : State → List Call) (s : State) → and_then (and_then f g) h s ≡ and_then f (and_then g h) s
unfolding and_then
then-assoc f g h s =
    let t = run s (f s) in
    append_assoc (f s) (g t) (h (run s (f s ++ g t))) ∙ ap (λ (r : State). f s ++ (g t ++ h r)) (run-append s (f s) (g t))

-- a round, one phase after another
pub in_order : (s : State) → and_then (and_then (and_then propagate_call removals) tightenings) probes s ≡ round s
unfolding round
in_order s = then-assoc (and_then propagate_call removals) tightenings probes s ∙ then-assoc propagate_call removals (and_then tightenings probes) s
