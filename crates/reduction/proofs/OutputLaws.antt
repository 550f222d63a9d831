-- What `output` means: an accepted book's model is handed in, so demand 3 holds of the calls that the rounds make, with nothing
-- after the parting; each `i` line is a byte of the table that they leave. Assumes nothing.
use Prim.Native.Nat.{◌%◌, ◌*◌, ◌+◌, ◌/◌, ◌<◌, ℕ}
use borrow.Author.Tests.{eq-eqb, ne_eqb}
use lib.Dec.{eqb, eqb→eq}
use lib.IntN.{ℤ}
use lib.ListN.{get_or}
use mathlib.Core.List.{List, []}
use mathlib.Core.Logic.{◌⊎◌, inl, inr, ⊎_elim}
use mathlib.Core.Path.{◌≡◌, refl, subst, sym}
use native.Mathlib.Nat.{div-add-mod', div-lt_iff_lt-mul, mod-lt}
use native.Mathlib.Decide.{ℕ_discrete}
use native.Mathlib.Omega.{arith}
use Rattle.integer.proofs.Tests.{T→false, T→true, decide}
use Rattle.model.proofs.CheckLaws.{fault-none}
use Rattle.book.specs.Book.{decode}
use Rattle.book.specs.BookChecks.{book_fault}
use Rattle.book.proofs.AcceptLaws.{book-test}
use Rattle.report.specs.Report.{byte_line, implication_at}
use Rattle.rounds.specs.Rounds.{RoundsAnswer, SamePoints, at_limit, ended, infeasible, nothing_changed, refused_rounds, rounds_fault, run_rounds}
use Rattle.rounds.proofs.RoundsLaws.{rounds-mean}
use Rattle.semantics.specs.Probe.{byte_of, literal}
use Rattle.semantics.specs.Run.{run}
use Rattle.call_laws.specs.Points.{PointOf, Recorded, TableHolds}
use Rattle.model.specs.State.{State}
use Rattle.call_laws.proofs.Preserved.{run-preserves}
use Rattle.demands.specs.TwoRuns.{Demand3, EveryModelHandedIn, HandedIn, Narrows, TwoRuns}
use Rattle.demands.proofs.Demand3.{demand-3, handed-in}
use Rattle.reduction.specs.Meaning.{Implied, NonePrinted, OutputMeans, Reported}
use Rattle.reduction.specs.Output.{output_as, rounds_text, state_read, text_of, zeros}
use Rattle.reduction.specs.declared.Form.{Form}

-- the model of an accepted book is handed in
pub book-handed-in : (bs : List ℕ) → book_fault bs ≡ 0 → HandedIn (state_read bs)
unfolding state_read zeros EveryModelHandedIn
book-handed-in bs e =
    let M = decode bs in
    handed-in M ((fault-none M).1 ((book-test bs).0 e).1)

-- ---- the `i` lines

-- byte i of a table is that of the literals p and q, of variables p / 2 and q / 2
module _ (n i : ℕ) (b : i < 4 * (n * n)) where
  abbrev p : ℕ
  p = i / (2 * n)

  abbrev q : ℕ
  q = i % (2 * n)

  some : 0 < 2 * n
  some = go (ℕ_discrete n 0)
    where
      go : Dec (n ≡ 0) → 0 < 2 * n
      go (yes e) = absurd (let z : i < 4 * (0 * 0) = rw e at b in let w : ⊥ = omega arith in w)
      go (no k) = omega arith

  place : byte_of n (literal (p / 2) (p % 2)) (literal (q / 2) (q % 2)) ≡ i
  unfolding byte_of literal
  place =
      let a : 2 * (p / 2) + p % 2 ≡ p = omega arith in
      let c : 2 * (q / 2) + q % 2 ≡ q = omega arith in
      rw (a, c) (div-add-mod' i (2 * n))

  first-known : p / 2 < n
  first-known =
      let e : 4 * (n * n) ≡ (2 * n) * (2 * n) = omega arith in
      let k : p < 2 * n = (div-lt_iff_lt-mul some).1 (rw e at b) in omega arith

  second-known : q / 2 < n
  second-known = let k : q < 2 * n = mod-lt i some in omega arith

implication : (s left : State) → ((x : List ℤ) → PointOf s x → TableHolds left.model.n left.table x)
    → (i : ℕ) → i < 4 * (left.model.n * left.model.n) → (implication_at left.model.n left.table i ≡ []) ⊎ Implied s left i
unfolding implication_at byte_line Recorded
implication s left h i b =
    let n = left.model.n in
    let k = p n i b in
    let j = q n i b in
    let byte = eqb (get_or left.table i 0) 1 in
    ⊎_elim
    (λ t. inr (record {
      k = k / 2;
      v = k % 2;
      j = j / 2;
      w = j % 2;
      line = rw (T→true byte t);
      holds = λ x o.
          (h x o).holds (k / 2) (k % 2) (j / 2) (j % 2) (first-known n i b) (omega arith) (second-known n i b) (omega arith)
          (rw (place n i b) (eqb→eq (get_or left.table i 0) 1 t));
    }))
    (λ t. inl (rw (T→false byte t)))
    (decide byte)

-- ---- the text of the rounds

text-means : (form : Form) (s left : State) (a : RoundsAnswer) → ((number : ℕ) → a ≡ refused_rounds number → ⊥) → SamePoints s left a
    → ((i : ℕ) → i < 4 * (left.model.n * left.model.n) → (implication_at left.model.n left.table i ≡ []) ⊎ Implied s left i)
    → NonePrinted s (text_of form a left) ⊎ Reported form s (text_of form a left)
unfolding text_of
text-means form s left (refused_rounds number) n p l = absurd (n number refl)
text-means form s left (ended infeasible k b) n p l = inl (record { printed = refl; no_point = p.no_point k b refl })
text-means form s left (ended nothing_changed k b) n p l =
    inr (record { left = left; rounds = k; printed = refl; points = p.points; fractional = p.fractional; implications = l })
text-means form s left (ended at_limit k b) n p l =
    inr (record { left = left; rounds = k; printed = refl; points = p.points; fractional = p.fractional; implications = l })

-- the rounds of a model handed in are not refused
abbrev Refused : RoundsAnswer → Type 0
Refused (refused_rounds number) = Unit {0}
Refused (ended e k b) = ⊥

not-refused : (limit : ℕ) (s : State) → HandedIn s → (number : ℕ) → (run_rounds limit s).answer ≡ refused_rounds number → ⊥
unfolding run_rounds rounds_fault
not-refused limit s g number e = subst Refused (sym (rw g.accepted at e)) tt

rounds-text : (form : Form) (limit : ℕ) (s : State) → HandedIn s → NonePrinted s (rounds_text form limit s) ⊎ Reported form s (rounds_text form limit s)
unfolding rounds_text Demand3 Narrows run
rounds-text form limit s g =
    let cs = (run_rounds limit s).calls in
    let d : TwoRuns s cs [] [] = demand-3 s cs [] [] g tt tt in
    text-means form s (run s cs) (run_rounds limit s).answer (not-refused limit s g) (rounds-mean limit s) (implication s (run s cs) (rw (run-preserves s cs).sizes.0 d.implied1))

pub output-means : (form : Form) (limit : ℕ) (bs : List ℕ) → OutputMeans form limit bs
unfolding output_as
output-means form limit bs = record {
  refused = λ n. rw (ne_eqb (book_fault bs) 0 n);
  handed_in = book-handed-in bs;
  answered = λ e. rw (eq-eqb (book_fault bs) 0 e) (rounds-text form limit (state_read bs) (book-handed-in bs e));
}
