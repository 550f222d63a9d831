-- `capi::sparse_books::astrolabe_book_to_sparse`: the number of the open call, and its book. Assumes nothing.
use borrow.Author.Rules.{rules}
use mathlib.Core.Path.{◌∙◌, ap}
use Rattle.book.specs.Answers.{Answer}
use Rattle.replies.specs.Replies.{book_reply, returned}
use Rattle.book_replies.proofs.NamedLaws.{write-named}
use Rattle.capi.proofs.sparse_books.astrolabe_book_to_sparse.Statement.{statement}
use Rattle.capi.proofs.sparse_books.astrolabe_book_to_sparse.Tie as tie

to-sparse-requires : tie.Need-to_sparse-requires
to-sparse-requires c κs = search rules

write-number-requires : tie.Need-write_number-requires
write-number-requires c κs = search rules

same_length : tie.Need-shape_of-to
same_length c = search rules

returns : tie.Need-returns
returns c =
    let p = c.before.before.before in (c.write_number.ensures ∙ ap returned (write-named p.to_sparse.result) ∙ ap (λ (a : Answer). returned (book_reply a)) p.to_sparse.ensures.0, p.to_sparse.ensures.1.0)

pub astrolabe_book_to_sparse_spec : {M : Type 1} → statement M
astrolabe_book_to_sparse_spec =
    tie.close (tie.spec to-sparse-requires write-number-requires same_length returns)
