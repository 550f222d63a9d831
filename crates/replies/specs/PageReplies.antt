-- What the calls on pages say (02, C-23). Words in quotation marks are D-28's (docs/DECISIONS.md).
use Rattle.std.specs.Prelude.{[], ◌∷◌}
use Rattle.page_call.specs.Answers.{Answer, pages_are, refused, written}
use Rattle.replies.specs.Replies.{Reply, refused_by, says}

-- "{pages}"; pages that were written have no answer, and its number says all
unfoldable pub page_reply : Answer → Reply
page_reply (refused number) = refused_by number
page_reply (pages_are number) = says (number ∷ [])
page_reply written = says []
