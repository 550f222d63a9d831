-- A call record as a call on a state.
use Rattle.model.specs.State.{State}
use Rattle.semantics.specs.Call as semantics
use Rattle.semantics.specs.Call.{call_of}
use Rattle.call.specs.declared.Call.{Call}

-- the record's four numbers, with the n, m and buffers of s
abbrev pub call_on : State → Call → semantics.Call
call_on s c = call_of s c.kind c.row c.variable c.budget
