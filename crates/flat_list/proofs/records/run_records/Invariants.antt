-- `flat_list::records::run_records`: before each record, what is left gives the whole, and the classes so far are told (`Told`).
use Rattle.model.specs.Rows.{rows_of}
use Rattle.model.specs.State.{state_of}
use Rattle.call.specs.Classes.{counts_of}
use Rattle.flat_record.proofs.ClassLaws.{Told}
use Rattle.flat_list.proofs.records.run_records.Given as goal

abbrev pub invariant-loop-i : goal.invariant-loop-i
invariant-loop-i l =
    let A = rows_of l.coefs l.rhs l.kinds in
    Told (state_of l.n l.m l.fn.bounds A l.fn.table) l.calls l.fn.classes (state_of l.n l.m l.bounds A l.table) (counts_of l.counts) l.i l.classes
