-- `book::layout::trailer_u16`: the part of the book is its trailer (`trailer-part`). Assumes nothing.
use Prim.Native.Nat.{ℕ}
use mathlib.Core.List.{List}
use mathlib.Core.Path.{◌∙◌, ap}
use Rattle.little_endian.specs.Bytes.{number_at}
use Rattle.book.proofs.EncodeLaws.{trailer-part}
use Rattle.book.proofs.layout.trailer_u16.Goals as goal

pub returns : goal.returns
returns c =
    let a = c.args in
    c.read_u16.ensures ∙ ap (λ (t : List ℕ). number_at 2 a.at t) (trailer-part a.book.now)
