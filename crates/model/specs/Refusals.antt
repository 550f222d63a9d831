-- The checks by their names, and the numbers of 01 and 02 that C and the programs say.
use Rattle.std.specs.Prelude.{ℕ, Result, Ok, Err}
use Rattle.model.specs.declared.refusal.Refusal.{Refusal}
use Rattle.model.specs.declared.refusal.Refusal.TheVariants.{ShortBook, BookLength, Size, BookLayout, BufferLength, Bound, CrossedBounds, Coefficient, RightSide, TableByte, CallKind, Row, Variable, VariableNotFree, Budget, RowKind, EqualityRow, RetiredKind, Column, ZeroCoefficient, TiePlace, ProposalCount, VariableTooWide}

abbrev pub number_of : Refusal → ℕ
number_of ShortBook = 1
number_of BookLength = 2
number_of Size = 3
number_of BookLayout = 4
number_of BufferLength = 5
number_of Bound = 6
number_of CrossedBounds = 7
number_of Coefficient = 8
number_of RightSide = 9
number_of TableByte = 10
number_of CallKind = 11
number_of Row = 12
number_of Variable = 13
number_of VariableNotFree = 14
number_of Budget = 15
number_of RowKind = 16
number_of EqualityRow = 17
number_of RetiredKind = 18
number_of Column = 19
number_of ZeroCoefficient = 20
number_of TiePlace = 21
number_of ProposalCount = 22
number_of VariableTooWide = 23

-- what a check answers, as a number: that of the check that fails, 0 where none does
abbrev pub fault_of : {T : Type 0} → Result T Refusal → ℕ
fault_of (Ok x) = 0
fault_of (Err r) = number_of r
