-- `book_writing::is_book_length`: within the limits of n and m the book's length is computed and compared. Assumes nothing.
use Rattle.std.proofs.Common.{sym}
use Rattle.book.proofs.AcceptLaws.{size-passed}
use Rattle.book_writing.proofs.is_book_length.Goals as goal

pub book_length-requires : goal.book_length-requires
book_length-requires c = let h = size-passed _ _ (sym c.in-Ok.ensures) in (h.1, h.2)
