-- `page_call::open::write_pages`: refused by the first check that fails, and nothing is written; else the pages.
use Rattle.page_call.proofs.CheckedLaws.{pages-passed}
use Rattle.page_call.specs.Answers.{pages_answer, pages_call}
use lib.ListN.{length}
use mathlib.Core.Path.{◌∙◌, sym}
use Rattle.std.proofs.lemmas.Result.{err_from_is_err_and}
use Rattle.page_call.proofs.AnswerLaws.{accepted-by, refused-by_name, all-printed, left_alone-by_name}
use Rattle.page_call.proofs.open.write_pages.Goals as goal

pub returns-in_err-check_pages : goal.returns-in_err-check_pages
unfolding pages_answer pages_call
returns-in_err-check_pages c =
    let p = err_from_is_err_and c.from_residual.result c.from_residual.ensures.1 in
    record {
      answer = rw (p.1, p.2) (refused-by_name _ c.in_err-check_pages.ensures _);
      pages = left_alone-by_name _ c.args.n c.args.bounds.now c.args.table.now c.args.pages.now c.in_err-check_pages.ensures;
    }

pub write_all-requires : goal.write_all-requires
write_all-requires c =
    let p = pages-passed c.args.n c.args.bounds.now c.args.table.now (length c.args.pages.now) (sym c.in_ok-check_pages.ensures) in
    record { paper = p.paper; table_len = p.table; buf_len = p.room }

pub returns : goal.returns
unfolding pages_answer pages_call
returns c =
    let e = sym c.in_ok-check_pages.ensures in
    record {
      answer = accepted-by e _;
      pages = c.write_all.ensures ∙ all-printed c.args.n c.args.bounds.now c.args.table.now c.args.pages.now e;
    }
