-- `flat_record::record_at`: the four numbers from place 4 · i on. Assumes nothing.
use native.Mathlib.Omega.{arith}
use mathlib.Core.Path.{refl}
use Rattle.semantics.specs.Call.{call_of}
use Rattle.semantics.specs.CallList.{record_at}
use Rattle.flat_record.proofs.record_at.Goals as goal

pub returns : goal.returns
unfolding call_of record_at
returns c s = refl
