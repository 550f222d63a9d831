-- `capi::paper::astrolabe_write_pages`: the number of the open call, and its pages. Assumes nothing.
use borrow.Author.Rules.{rules}
use mathlib.Core.Path.{◌∙◌, ap}
use Rattle.page_call.specs.Answers.{Answer}
use Rattle.replies.specs.PageReplies.{page_reply}
use Rattle.replies.specs.Replies.{returned}
use Rattle.replies.proofs.NamedLaws.{pages-named}
use Rattle.capi.proofs.paper.astrolabe_write_pages.Statement.{statement}
use Rattle.capi.proofs.paper.astrolabe_write_pages.Tie as tie

write-pages-requires : tie.Need-write_pages-requires
write-pages-requires c κs = search rules

pages-number-requires : tie.Need-pages_number-requires
pages-number-requires c κs = search rules

same_length : tie.Need-shape_of-pages
same_length c = search rules

returns : tie.Need-returns
returns c =
    let p = c.before.before.before in (c.pages_number.ensures ∙ ap returned (pages-named p.write_pages.result) ∙ ap (λ (a : Answer). returned (page_reply a)) p.write_pages.ensures.0, p.write_pages.ensures.1)

pub astrolabe_write_pages_spec : {M : Type 1} → statement M
astrolabe_write_pages_spec =
    tie.close (tie.spec write-pages-requires pages-number-requires same_length returns)
