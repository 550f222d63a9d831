-- `sparse_reading::read_row`: zeros first, and then the entries. Assumes nothing.
use Rattle.std.proofs.Common.{ℕ, pos, replicate, ◌∙◌, ap, ap₂, sym, arith}
use Rattle.little_endian.specs.Pieces.{joined}
use Rattle.model.specs.Checks.{first}
use Rattle.sparse_layout.specs.SparseChecks.{entry_checks, row_entry_checks}
use Rattle.sparse_reading.proofs.read_row.Goals as goal

pub store_entries-requires : goal.store_entries-requires
unfolding row_entry_checks
store_entries-requires c =
    let bs = c.args.book.now in
    let kept = c.fill.ensures.len in
    let count = c.row_count.ensures in
    record {
      entries = (omega (arith, count), ap₂ (λ (k l : ℕ). first (joined k (entry_checks l c.args.p bs))) count kept ∙ c.requires.1);
      zeros = c.fill.ensures.after (λ y e. e) ∙ ap (λ (k : ℕ). replicate k (pos 0)) (sym kept);
    }
