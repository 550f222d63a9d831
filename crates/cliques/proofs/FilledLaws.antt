-- A table that calls fill from empty, ties among them: each implication in it is of two variables that are 0 or 1 at every integer point,
-- as both are free when a probe records it. So every integer point meets the rows that are written.
use Prim.Native.Nat.{◌*◌, ◌-◌, ◌<◌, ◌≤◌, suc, zero, ℕ}
use lib.Dec.{T, eqb, eqb→eq}
use lib.IntN.{negsuc, pos, ℤ}
use lib.ListN.{get_or, length, replicate, set}
use lib.Seq.{get_or-set_other}
use lib.Signed.{◌≤ℤ◌}
use mathlib.Core.Bool.{◌&&◌, not}
use mathlib.Core.List.{List, [], ◌∷◌}
use mathlib.Core.Logic.{◌⊎◌, inl, inr}
use mathlib.Core.Path.{◌∙◌, ◌≡◌, ap, refl, sym}
use native.Mathlib.Decide.{ℕ_discrete}
use native.Mathlib.Omega.{arith}
use Rattle.integer.proofs.Parts.{zarith}
use Rattle.integer.proofs.Tests.{and_r, cond_ind, or_r}
use Rattle.model.specs.Box.{at, is_empty, is_free}
use Rattle.model.specs.Point.{InBox, RowHolds}
use Rattle.model.specs.State.{State, with_box, with_row}
use Rattle.model.proofs.BoxLaws.{free-lower, free-upper}
use Rattle.semantics.specs.Call.{Call, Kind, has_variable, kind_of, probing, propagation, removal, row_propagation, tightening, unknown}
use Rattle.semantics.specs.CallList.{calls_made, run_list}
use Rattle.semantics.specs.Perform.{act}
use Rattle.semantics.specs.Probe.{Table, byte_of, implies, literal, probe, put, record_to}
use Rattle.semantics.specs.Run.{run, step}
use Rattle.call_laws.specs.Points.{PointOf, Recorded, TableHolds}
use Rattle.call_laws.proofs.Accepted.{Accepted, accepted}
use Rattle.call_laws.proofs.CallLaws.{step-ind}
use Rattle.call_laws.proofs.ImplicationLaws.{byte-same, get_d-zeros, record_side-ind}
use Rattle.call_laws.proofs.Preserved.{step-preserves}
use Rattle.call_laws.proofs.ProbeLaws.{probe-ind}
use Rattle.demands.proofs.CallLists.{list-made}
use Rattle.ties.specs.TieCall.{TieCall, TiePerformed, perform_tie, tie, tie_fault, tie_state}
use Rattle.ties.specs.TiedRow.{tie_to}
use Rattle.ties.specs.TiedRun.{HandedInTied, TiedCall, listed, other, run_tied, step_tied, ties}
use Rattle.ties.specs.Ties.{TiedPoint, TiedState}
use Rattle.ties.proofs.TieLaws.{tie-ind}
use Rattle.ties.proofs.TiedPreserved.{handed-in-holds, run-preserves-tied, step-preserves-tied}
use Rattle.cliques.specs.CliqueClaims.{AllMet, AnyCliquesMean, AllCliques, CliquesMet, GrownCliques, RowsWritten, TableBinary, ZeroOrOne}
use Rattle.cliques.specs.Cliques.{clique_rhs, clique_row, clique_rows, cliques, rows_for}
use Rattle.cliques.proofs.CliqueLaws.{cliques-met, grown-clique}
use Rattle.cliques.proofs.CliqueRows.{all-cliques, rows_written}

-- ---- a table filled by calls

put-binary : (n k v j w : ℕ) (x : List ℤ) (t : Table) → v < 2 → j < n → w < 2 → ZeroOrOne x k → ZeroOrOne x j
    → TableBinary n t.bytes x → TableBinary n (put t (byte_of n (literal k v) (literal j w))).bytes x
unfolding put Recorded
put-binary n k v j w x t v2 jn w2 a b i = record {
  binary = λ k' v' j' w' kn' v2' jn' w2' e.
      cases k' v' j' w' kn' v2' jn' w2' (ℕ_discrete (byte_of n (literal k' v') (literal j' w')) (byte_of n (literal k v) (literal j w))) e;
}
  where
    cases : (k' v' j' w' : ℕ) → k' < n → v' < 2 → j' < n → w' < 2 → Dec (byte_of n (literal k' v') (literal j' w') ≡ byte_of n (literal k v) (literal j w))
        → get_or (set t.bytes (byte_of n (literal k v) (literal j w)) 1) (byte_of n (literal k' v') (literal j' w')) 0 ≡ 1 → ZeroOrOne x k' × ZeroOrOne x j'
    cases k' v' j' w' kn' v2' jn' w2' (yes e) _ =
        let s = byte-same n k' v' j' w' k v j w v2' jn' w2' v2 jn w2 e in
        rw (s.variable, s.implied) (a, b)
    cases k' v' j' w' kn' v2' jn' w2' (no e) g =
        i.binary k' v' j' w' kn' v2' jn' w2'
        (sym (get_or-set_other t.bytes (byte_of n (literal k v) (literal j w)) (byte_of n (literal k' v') (literal j' w')) 1 0 e) ∙ g)

implies-binary : (n k v j w : ℕ) (x : List ℤ) (t : Table) → k < n → v < 2 → j < n → w < 2 → ZeroOrOne x k → ZeroOrOne x j
    → TableBinary n t.bytes x → TableBinary n (implies n k v j w t).bytes x
unfolding implies
implies-binary n k v j w x t kn v2 jn w2 a b i =
    put-binary n j (1 - w) k (1 - v) x _ (omega arith) kn (omega arith) b a (put-binary n k v j w x t v2 jn w2 a b i)

zeros-binary : (n m : ℕ) (x : List ℤ) → TableBinary n (replicate m 0) x
unfolding Recorded
zeros-binary n m x = record {
  binary = λ k v j w _ _ _ _ e. let q = get_d-zeros m (byte_of n (literal k v) (literal j w)) in absurd (let z : ⊥ = omega arith in z);
}

-- a variable that is free in a box is 0 or 1 in it
free-binary : {n : ℕ} {B x : List ℤ} (j : ℕ) → InBox n B x → j < n → T (is_free B j) → ZeroOrOne x j
unfolding ZeroOrOne
free-binary {n} {B} {x} j i h f =
    let l = free-lower B j f in let u = free-upper B j f in let a = i.low j h in let b = i.high j h in
    zero-or-one (at x j) (omega zarith) (omega zarith)
  where
    zero-or-one : (z : ℤ) → pos 0 ≤ℤ z → z ≤ℤ pos 1 → (z ≡ pos 0) ⊎ (z ≡ pos 1)
    zero-or-one (pos zero) a b = inl refl
    zero-or-one (pos (suc z)) a b = inr (omega zarith)
    zero-or-one (negsuc z) a b = absurd a.le

-- what a probe records of the variables below j
record_to-binary : (n k : ℕ) (B S0 S1 x : List ℤ) (t : List ℕ) → k < n → ZeroOrOne x k → InBox n B x → TableBinary n t x
    → (j : ℕ) → j ≤ n → TableBinary n (record_to j n k B S0 S1 t).bytes x
unfolding record_to
record_to-binary n k B S0 S1 x t kn b i h zero l = h
record_to-binary n k B S0 S1 x t kn b i h (suc j) l =
    let P : Table → Type 0 = λ r. TableBinary n r.bytes x in
    let r = record_to-binary n k B S0 S1 x t kn b i h j (omega arith) in
    cond_ind (not (eqb j k) && is_free B j) _ _ P
    (λ u. let f = free-binary j i l (and_r (not (eqb j k)) (is_free B j) u) in
    let r0 = record_side-ind n k P 0 j S0 _ (λ w w2 _. implies-binary n k 0 j w x _ kn (omega arith) l w2 b f r) r in
    record_side-ind n k P 1 j S1 _ (λ w w2 _. implies-binary n k 1 j w x _ kn (omega arith) l w2 b f r0) r0)
    (λ _. r)

-- ---- one call, and any list of calls

abbrev Binary : List ℤ → State → Type 0
Binary x s = TableBinary s.model.n s.table x

probe-binary : (s : State) (c : Call) (x : List ℤ) → Accepted probing s c → PointOf s x → Binary x s
    → TableBinary s.model.n (probe c.variable c.budget s.model.n s.model.m s.model.rows s.model.box s.table).table x
unfolding has_variable
probe-binary s c x a p i =
    let M = s.model in
    probe-ind c.variable c.budget M.n M.m M.rows M.box s.table (λ r. TableBinary M.n r.table x)
    (λ _. i) (λ _ _ _. i) (λ _ _ _. i) (λ _ _ _. i)
    (λ w _ _. let k = c.variable in let kn = a.variable tt in
    let b = free-binary k p.inside kn (or_r (is_empty M.n M.box) (is_free M.box k) (a.free tt) w) in
    record_to-binary M.n k M.box _ _ x s.table kn b p.inside i M.n (omega arith))

act-binary : (k : Kind) (s : State) (c : Call) (x : List ℤ) → Accepted k s c → PointOf s x → Binary x s → Binary x (act k s c).state
unfolding act with_box with_row
act-binary row_propagation s c x a p i = i
act-binary propagation s c x a p i = i
act-binary probing s c x a p i = probe-binary s c x a p i
act-binary tightening s c x a p i = i
act-binary removal s c x a p i = i
act-binary unknown s c x a p i = i

step-binary : (s : State) (c : Call) (x : List ℤ) → PointOf s x → Binary x s → Binary x (step s c)
step-binary s c x p i = step-ind s c (Binary x) (λ e. act-binary (kind_of c.kind) s c x (accepted s c e) p i) i

run-binary : (s : State) (cs : List Call) (x : List ℤ) → PointOf s x → Binary x s → Binary x (run s cs)
unfolding run
run-binary s [] x p i = i
run-binary s (c ∷ cs) x p i = run-binary (step s c) cs x (((step-preserves s c).points x).1 p) (step-binary s c x p i)

-- a tie leaves the table
perform-binary : (s : TiedState) (c : TieCall) (x : List ℤ) → Binary x s.state → Binary x (perform_tie s c).state.state
unfolding perform_tie tie_state tie_to
perform-binary s c x i =
    cond_ind (eqb (tie_fault s c) 0) _ _ (λ (r : TiePerformed). Binary x r.state.state)
    (λ _. tie-ind s c.k c.j (λ r. Binary x r.state) i (λ _ _ _ _. i)) (λ _. i)

step-tied-binary : (s : TiedState) (c : TiedCall) (x : List ℤ) → TiedPoint s x → Binary x s.state → Binary x (step_tied s c).state
unfolding step_tied
step-tied-binary s (other c) x p i = step-binary s.state c x p.point i
step-tied-binary s (listed xs) x p i = rw (list-made s.state xs) (run-binary s.state (calls_made s.state xs) x p.point i)
step-tied-binary s (ties c) x p i = perform-binary s c x i

pub run-tied-binary : (s : TiedState) (cs : List TiedCall) (x : List ℤ) → TiedPoint s x → TableHolds s.state.model.n s.state.table x
    → Binary x s.state → Binary x (run_tied s cs).state
unfolding run_tied
run-tied-binary s [] x p h i = i
run-tied-binary s (c ∷ cs) x p h i =
    let o = (step-preserves-tied s c).keeps x p h in run-tied-binary (step_tied s c) cs x o.0 o.1 (step-tied-binary s c x p i)

-- ---- so every integer point of the model handed in meets the rows

pub filled-cliques-met : (s : TiedState) (cs : List TiedCall) → HandedInTied s → (x : List ℤ) → TiedPoint s x
    → AllMet s.state.model.n (cliques s.state.model.n (run_tied s cs).state.table) x
unfolding CliquesMet
filled-cliques-met s cs h x p =
    let n = s.state.model.n in
    let q = run-preserves-tied s cs in
    let t = handed-in-holds s h x in
    let a = (q.keeps x p t).1 in
    let b = run-tied-binary s cs x p t (rw h.state.zeros (zeros-binary n (4 * (n * n)) x)) in
    cliques-met n (run_tied s cs).state.table x (rw q.sizes.0 at a) (rw q.sizes.0 at b)

met_at : (n : ℕ) (ds : List (List ℕ)) (x : List ℤ) → AllMet n ds x → (i : ℕ) → i < length ds
    → RowHolds n (clique_row n (get_or ds i [])) (clique_rhs (get_or ds i [])) x
unfolding AllMet
met_at n [] x m i h = absurd (let z : ⊥ = omega arith in z)
met_at n (c ∷ ds) x m zero h = m.0
met_at n (c ∷ ds) x m (suc i) h = met_at n ds x m.1 i (omega arith)

pub cliques-mean : AnyCliquesMean
unfolding AnyCliquesMean RowsWritten AllCliques GrownCliques clique_rows rows_for
cliques-mean n t =
    let w = rows_written n t in
    let l = all-cliques n t in
    record {
      met = λ s cs h e f x p i k.
          let r = w.rows i k in rw (r.0, r.1) (met_at n (cliques n t) x (rw (f, e) at (filled-cliques-met s cs h x p)) i k);
      full = λ i k. let r = w.rows i k in let g = l.grown i k in
          (g.0, grown-clique n t g.0 g.1, g.3, r.0 ∙ ap (clique_row n) g.2, r.1 ∙ ap clique_rhs g.2);
    }
