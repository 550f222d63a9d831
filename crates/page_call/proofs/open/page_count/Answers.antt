-- `page_call::open::page_count`: refused by the first check that fails, and else the number of pages.
use Rattle.page_call.proofs.CheckedLaws.{count-passed}
use Rattle.page_call.specs.Answers.{count_answer, count_call}
use mathlib.Core.Path.{sym}
use Rattle.std.proofs.lemmas.Result.{err_from_is_err_and}
use Rattle.page_call.proofs.AnswerLaws.{accepted-by, refused-by_name}
use Rattle.page_call.proofs.open.page_count.Goals as goal

pub returns-in_err-check_count : goal.returns-in_err-check_count
unfolding count_answer count_call
returns-in_err-check_count c =
    let p = err_from_is_err_and c.from_residual.result c.from_residual.ensures.1 in
    rw (p.1, p.2) (refused-by_name _ c.in_err-check_count.ensures _)

pub pages_needed-requires : goal.pages_needed-requires
pages_needed-requires c =
    let p = count-passed c.args.n c.args.table.now (sym c.in_ok-check_count.ensures) in
    record { n_le_max_variables = p.few; table_len = p.table }

pub returns : goal.returns
unfolding count_answer count_call
returns c = rw c.pages_needed.ensures.0 (accepted-by (sym c.in_ok-check_count.ensures) _)
