-- The call that tells the number of pages (02, C-23): what it returns, and the answer that it leaves.
use Rattle.std.specs.Prelude.{ℕ, List}
use Rattle.model.specs.Checks.{size_checks}
use Rattle.page_call.specs.Answers.{count_call}
use Rattle.replies.specs.PageReplies.{page_reply}
use Rattle.exports.specs.Exports.{BookExported, book_answered}

-- a wrong answer length is check 5: 3, of n alone, comes first
unfoldable pub count_export : List ℕ → ℕ → List ℕ → BookExported
count_export A n t = book_answered A (size_checks n 0) (page_reply (count_call n t))
