-- Laws of what is printed: the line of a verdict by its two numbers, and the output of an input by its answer.
use Prim.Native.Nat.{◌<◌, ℕ}
use borrow.Author.Tests.{lt-leb, ne_eqb}
use lib.ListN.{length}
use mathlib.Core.List.{List}
use mathlib.Core.Path.{◌≡◌, ap, refl, subst}
use native.Mathlib.Omega.{arith}
use Rattle.model.proofs.CheckLaws.{fails}
use Rattle.report.specs.Report.{refused_line}
use Rattle.text.specs.Text.{Wrote, texts}
use Rattle.proposals.specs.Proposals.{case_of, number_of}
use Rattle.proposals.specs.Verdict.{Verdict, breaks, inside, outside_at}
use Rattle.allocation_input.specs.Judging.{Judged}
use Rattle.allocation_input.specs.Input.{input_checks, input_fault, max_input}
use Rattle.allocation_input.specs.Output.{input_verdict, output, verdict_line}

-- ---- the line by its numbers

pub line-inside : (v : Verdict) → 0 ≡ case_of v → verdict_line inside ≡ verdict_line v
unfolding case_of
line-inside inside e = refl
line-inside (outside_at j) e = absurd (let z : ⊥ = omega arith in z)
line-inside (breaks i) e = absurd (let z : ⊥ = omega arith in z)

pub line-outside : (v : Verdict) (j : ℕ) → 1 ≡ case_of v → j ≡ number_of v → verdict_line (outside_at j) ≡ verdict_line v
unfolding case_of number_of
line-outside inside j e k = absurd (let z : ⊥ = omega arith in z)
line-outside (outside_at i) j e k = ap (λ (q : ℕ). verdict_line (outside_at q)) k
line-outside (breaks i) j e k = absurd (let z : ⊥ = omega arith in z)

pub line-breaks : (v : Verdict) (i : ℕ) → (case_of v ≡ 0 → ⊥) → (case_of v ≡ 1 → ⊥) → i ≡ number_of v → verdict_line (breaks i) ≡ verdict_line v
unfolding case_of number_of
line-breaks inside i n h k = absurd (n refl)
line-breaks (outside_at j) i n h k = absurd (h refl)
line-breaks (breaks j) i n h k = ap (λ (q : ℕ). verdict_line (breaks q)) k

-- the same text
pub wrote_as : {old new text text' : List ℕ} {at next : ℕ} → text ≡ text' → Wrote old at text next new → Wrote old at text' next new
wrote_as {old} {new} {text} {text'} {at} {next} e w = subst (λ (t : List ℕ). Wrote old at t next new) e w

-- ---- the output by the answer

module _ (bs : List ℕ) where
  pub output-refused : {k : ℕ} → k ≡ input_fault bs → (k ≡ 0 → ⊥) → refused_line k ≡ output bs
  unfolding output
  output-refused {k} e n = rw (← e, ne_eqb k 0 n)

  pub output-long : max_input < length bs → refused_line 2 ≡ output bs
  unfolding input_fault input_checks
  output-long h = output-refused (fails _ 2 _ (lt-leb (length bs) max_input h)) (λ z. let y : ⊥ = omega arith in y)

  pub output-told : {Y : List ℕ} {count : ℕ} → Judged bs Y count → texts count (λ c. verdict_line (input_verdict bs c)) ≡ output bs
  unfolding output
  output-told j = rw j.faultless (ap (λ (k : ℕ). texts k (λ c. verdict_line (input_verdict bs c))) j.counted)
