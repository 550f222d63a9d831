-- What follows from the answer of a check that may refuse.
use Rattle.std.proofs.Common.{◌≡◌, ◌∙◌, ℕ, cond, eqb, ap, arith, refl, sym}
use Rattle.model.specs.declared.refusal.Refusal.{Refusal}
use Rattle.model.specs.declared.refusal.Refusal.TheVariants.{ShortBook, BookLength, Size, BookLayout, BufferLength, Bound, CrossedBounds, Coefficient, RightSide, TableByte, CallKind, Row, Variable, VariableNotFree, Budget, RowKind, EqualityRow, RetiredKind, Column, ZeroCoefficient, TiePlace, ProposalCount, VariableTooWide}
use Rattle.model.specs.Refusals.{number_of}

-- no check has the number 0
pub number_of-ne0 : (r : Refusal) → number_of r ≡ 0 → ⊥
number_of-ne0 r =
    elim r as (λ k. number_of k ≡ 0 → ⊥) [
      | ShortBook ↦ λ e. omega arith
      | BookLength ↦ λ e. omega arith
      | Size ↦ λ e. omega arith
      | BookLayout ↦ λ e. omega arith
      | BufferLength ↦ λ e. omega arith
      | Bound ↦ λ e. omega arith
      | CrossedBounds ↦ λ e. omega arith
      | Coefficient ↦ λ e. omega arith
      | RightSide ↦ λ e. omega arith
      | TableByte ↦ λ e. omega arith
      | CallKind ↦ λ e. omega arith
      | Row ↦ λ e. omega arith
      | Variable ↦ λ e. omega arith
      | VariableNotFree ↦ λ e. omega arith
      | Budget ↦ λ e. omega arith
      | RowKind ↦ λ e. omega arith
      | EqualityRow ↦ λ e. omega arith
      | RetiredKind ↦ λ e. omega arith
      | Column ↦ λ e. omega arith
      | ZeroCoefficient ↦ λ e. omega arith
      | TiePlace ↦ λ e. omega arith
      | ProposalCount ↦ λ e. omega arith
      | VariableTooWide ↦ λ e. omega arith
    ]

-- no two checks have one number
abbrev refusal_at : ℕ → Refusal
refusal_at k = cond (eqb k 1) ShortBook (cond (eqb k 2) BookLength (cond (eqb k 3) Size (cond (eqb k 4) BookLayout (cond (eqb k 5) BufferLength (cond (eqb k 6) Bound (cond (eqb k 7) CrossedBounds (cond (eqb k 8) Coefficient (cond (eqb k 9) RightSide (cond (eqb k 10) TableByte (cond (eqb k 11) CallKind (cond (eqb k 12) Row (cond (eqb k 13) Variable (cond (eqb k 14) VariableNotFree (cond (eqb k 15) Budget (cond (eqb k 16) RowKind (cond (eqb k 17) EqualityRow (cond (eqb k 18) RetiredKind (cond (eqb k 19) Column (cond (eqb k 20) ZeroCoefficient (cond (eqb k 21) TiePlace (cond (eqb k 22) ProposalCount (VariableTooWide))))))))))))))))))))))

refusal_at-number_of : (r : Refusal) → refusal_at (number_of r) ≡ r
refusal_at-number_of ShortBook = refl
refusal_at-number_of BookLength = refl
refusal_at-number_of Size = refl
refusal_at-number_of BookLayout = refl
refusal_at-number_of BufferLength = refl
refusal_at-number_of Bound = refl
refusal_at-number_of CrossedBounds = refl
refusal_at-number_of Coefficient = refl
refusal_at-number_of RightSide = refl
refusal_at-number_of TableByte = refl
refusal_at-number_of CallKind = refl
refusal_at-number_of Row = refl
refusal_at-number_of Variable = refl
refusal_at-number_of VariableNotFree = refl
refusal_at-number_of Budget = refl
refusal_at-number_of RowKind = refl
refusal_at-number_of EqualityRow = refl
refusal_at-number_of RetiredKind = refl
refusal_at-number_of Column = refl
refusal_at-number_of ZeroCoefficient = refl
refusal_at-number_of TiePlace = refl
refusal_at-number_of ProposalCount = refl
refusal_at-number_of VariableTooWide = refl

pub number_of-injective : (r s : Refusal) → number_of r ≡ number_of s → r ≡ s
number_of-injective r s e = sym (refusal_at-number_of r) ∙ ap refusal_at e ∙ refusal_at-number_of s
