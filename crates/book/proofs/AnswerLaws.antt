-- Laws of the answers: a call that is refused and one that is accepted; and no answer hides another.
use Prim.Native.Nat.{ℕ}
use borrow.Author.Tests.{ne_eqb}
use mathlib.Core.Path.{◌∙◌, ◌≡◌, ap, ap₂, refl, sym}
use native.Mathlib.Omega.{arith}
use Rattle.book.specs.Answers.{Answer, lent, refused, sizes_answer, unless, write_answer}
use Rattle.std.specs.Prelude.{cond, eqb, Result, Ok, Err}
use Rattle.model.specs.declared.refusal.Refusal.{Refusal}
use Rattle.model.specs.declared.refusal.Refusal.TheVariants.{ShortBook, BookLength, Size, BookLayout, BufferLength, Bound, CrossedBounds, Coefficient, RightSide, TableByte, CallKind, Row, Variable, VariableNotFree, Budget, RowKind, EqualityRow, RetiredKind, Column, ZeroCoefficient, TiePlace, ProposalCount, VariableTooWide}
use Rattle.model.specs.Refusals.{number_of}
use Rattle.model.proofs.RefusalLaws.{number_of-ne0}
use Rattle.book.specs.declared.layout.Sizes.{Sizes}

-- r is the number of the check that fails
module _ {r fault : ℕ} (e : r ≡ fault) (n : r ≡ 0 → ⊥) where
  pub refused-by : (a : Answer) → refused r ≡ unless fault a
  unfolding unless
  refused-by a = rw (← e, ne_eqb r 0 n)

  pub stays {ℓ} : {A : Type ℓ} (before after : A) → before ≡ lent fault before after
  unfolding lent
  stays before after = rw (← e, ne_eqb r 0 n)

-- a check that refuses by name
pub refused-by_name : {fault : ℕ} (z : Refusal) → number_of z ≡ fault → (a : Answer) → refused (number_of z) ≡ unless fault a
refused-by_name z e a = refused-by e (number_of-ne0 z) a

-- no check fails
module _ {fault : ℕ} (e : fault ≡ 0) where
  pub accepted-by : (a : Answer) → a ≡ unless fault a
  unfolding unless
  accepted-by a = rw e

  pub becomes {ℓ} : {A : Type ℓ} (before after : A) → after ≡ lent fault before after
  unfolding lent
  becomes before after = rw e

-- a refusal by its number, so that no two have one
abbrev named : ℕ → Refusal
named n =
    cond (eqb n 1) ShortBook (cond (eqb n 2) BookLength (cond (eqb n 3) Size (cond (eqb n 4) BookLayout (cond (eqb n 5) BufferLength (cond (eqb n 6) Bound (cond (eqb n 7) CrossedBounds (cond (eqb n 8) Coefficient (cond (eqb n 9) RightSide (cond (eqb n 10) TableByte (cond (eqb n 11) CallKind (cond (eqb n 12) Row (cond (eqb n 13) Variable (cond (eqb n 14) VariableNotFree (cond (eqb n 15) Budget (cond (eqb n 16) RowKind (cond (eqb n 17) EqualityRow (cond (eqb n 18) RetiredKind (cond (eqb n 19) Column (cond (eqb n 20) ZeroCoefficient (cond (eqb n 21) TiePlace (cond (eqb n 22) ProposalCount VariableTooWide)))))))))))))))))))))

named-number : (r : Refusal) → named (number_of r) ≡ r
named-number r =
    elim r as (λ k. named (number_of k) ≡ k) [
      | ShortBook ↦ refl
      | BookLength ↦ refl
      | Size ↦ refl
      | BookLayout ↦ refl
      | BufferLength ↦ refl
      | Bound ↦ refl
      | CrossedBounds ↦ refl
      | Coefficient ↦ refl
      | RightSide ↦ refl
      | TableByte ↦ refl
      | CallKind ↦ refl
      | Row ↦ refl
      | Variable ↦ refl
      | VariableNotFree ↦ refl
      | Budget ↦ refl
      | RowKind ↦ refl
      | EqualityRow ↦ refl
      | RetiredKind ↦ refl
      | Column ↦ refl
      | ZeroCoefficient ↦ refl
      | TiePlace ↦ refl
      | ProposalCount ↦ refl
      | VariableTooWide ↦ refl
    ]

pub number_of-injective : (r s : Refusal) → number_of r ≡ number_of s → r ≡ s
number_of-injective r s e = sym (named-number r) ∙ ap named e ∙ named-number s

-- each result of the code stands for answers one to one
pub sizes-injective : (a b : Result Sizes Refusal) → sizes_answer a ≡ sizes_answer b → a ≡ b
unfolding sizes_answer
sizes-injective (Err r) (Err s) e =
    let n : number_of r ≡ number_of s = cc in
    ap Err (number_of-injective r s n)
sizes-injective (Err r) (Ok s) e = let z : ◌≡◌ {A = ℕ} 0 1 = cc in absurd (let k : ⊥ = omega arith in k)
sizes-injective (Ok s) (Err r) e = let z : ◌≡◌ {A = ℕ} 0 1 = cc in absurd (let k : ⊥ = omega arith in k)
sizes-injective (Ok s) (Ok t) e =
    let n : s.n ≡ t.n = cc in
    let m : s.m ≡ t.m = cc in
    let sizes : ℕ → ℕ → Sizes = λ a b. record { n = a; m = b } in
    ap Ok (ap₂ sizes n m)

pub write-injective : (a b : Result (Unit {0}) Refusal) → write_answer a ≡ write_answer b → a ≡ b
unfolding write_answer
write-injective (Err r) (Err s) e =
    let n : number_of r ≡ number_of s = cc in
    ap Err (number_of-injective r s n)
write-injective (Err r) (Ok x) e = let z : ◌≡◌ {A = ℕ} 0 1 = cc in absurd (let k : ⊥ = omega arith in k)
write-injective (Ok x) (Err r) e = let z : ◌≡◌ {A = ℕ} 0 1 = cc in absurd (let k : ⊥ = omega arith in k)
write-injective (Ok x) (Ok y) e = refl
