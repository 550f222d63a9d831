-- `capi::sparse_books::astrolabe_sparse_write`: the number of the open call, and its book. Assumes nothing.
use borrow.Author.Rules.{rules}
use mathlib.Core.Path.{◌∙◌, ap}
use Rattle.book.specs.Answers.{Answer}
use Rattle.replies.specs.Replies.{book_reply, returned}
use Rattle.book_replies.proofs.NamedLaws.{write-named}
use Rattle.capi.proofs.sparse_books.astrolabe_sparse_write.Statement.{statement}
use Rattle.capi.proofs.sparse_books.astrolabe_sparse_write.Tie as tie

write-requires : tie.Need-write-requires
write-requires c κs = search rules

write-number-requires : tie.Need-write_number-requires
write-number-requires c κs = search rules

same_length : tie.Need-shape_of-book
same_length c = search rules

returns : tie.Need-returns
returns c =
    let p = c.before.before.before in (c.write_number.ensures ∙ ap returned (write-named p.write.result) ∙ ap (λ (a : Answer). returned (book_reply a)) p.write.ensures.0, p.write.ensures.1.0)

pub astrolabe_sparse_write_spec : {M : Type 1} → statement M
astrolabe_sparse_write_spec =
    tie.close (tie.spec write-requires write-number-requires same_length returns)
