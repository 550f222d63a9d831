-- `capi::sparse_books::astrolabe_sparse_to_book`: the number of the open call, and its book. Assumes nothing.
use borrow.Author.Rules.{rules}
use mathlib.Core.Path.{◌∙◌, ap}
use Rattle.book.specs.Answers.{Answer}
use Rattle.replies.specs.Replies.{book_reply, returned}
use Rattle.book_replies.proofs.NamedLaws.{write-named}
use Rattle.capi.proofs.sparse_books.astrolabe_sparse_to_book.Statement.{statement}
use Rattle.capi.proofs.sparse_books.astrolabe_sparse_to_book.Tie as tie

to-first-requires : tie.Need-to_first-requires
to-first-requires c κs = search rules

write-number-requires : tie.Need-write_number-requires
write-number-requires c κs = search rules

same_length : tie.Need-shape_of-to
same_length c = search rules

returns : tie.Need-returns
returns c =
    let p = c.before.before.before in (c.write_number.ensures ∙ ap returned (write-named p.to_first.result) ∙ ap (λ (a : Answer). returned (book_reply a)) p.to_first.ensures.0, p.to_first.ensures.1.0)

pub astrolabe_sparse_to_book_spec : {M : Type 1} → statement M
astrolabe_sparse_to_book_spec =
    tie.close (tie.spec to-first-requires write-number-requires same_length returns)
