-- A call with all that its caller hands over.
use Rattle.std.specs.Prelude.{ℕ, eqb, length, Bool, cond, false, true}
use Rattle.model.specs.State.{State}

-- the length of each buffer that a call is lent
pub record Lengths : Type 0 where
  pub box : ℕ
  pub coefs : ℕ
  pub rhs : ℕ
  pub kinds : ℕ
  pub table : ℕ

unfoldable pub lengths_of : State → Lengths
lengths_of s =
    record {
      box = length s.model.box;
      coefs = length s.model.rows.coefs;
      rhs = length s.model.rows.rhs;
      kinds = length s.model.rows.kinds;
      table = length s.table;
    }

-- a call: the four numbers of a call record, and the n, m and buffers that come with it
pub record Call : Type 0 where
  pub kind : ℕ
  pub row : ℕ
  pub variable : ℕ
  pub budget : ℕ
  pub n : ℕ
  pub m : ℕ
  pub lengths : Lengths

-- "kind, 1 visit, 2 settle, 3 probe, 4 sharpen, 5 drop"
pub data Kind : Type 0 where
  row_propagation propagation probing tightening removal unknown : Kind

unfoldable pub kind_of : ℕ → Kind
kind_of k =
    cond (eqb k 1) row_propagation
    (cond (eqb k 2) propagation (cond (eqb k 3) probing (cond (eqb k 4) tightening (cond (eqb k 5) removal unknown))))

-- "A field that its kind lacks is ignored": which kinds have a row, a variable, a budget, and which are lent a table
unfoldable pub has_row : Kind → Bool
has_row row_propagation = true
has_row propagation = false
has_row probing = false
has_row tightening = true
has_row removal = true
has_row unknown = false

unfoldable pub has_variable : Kind → Bool
has_variable row_propagation = false
has_variable propagation = false
has_variable probing = true
has_variable tightening = true
has_variable removal = false
has_variable unknown = false

unfoldable pub has_budget : Kind → Bool
has_budget row_propagation = false
has_budget propagation = true
has_budget probing = true
has_budget tightening = false
has_budget removal = false
has_budget unknown = false

unfoldable pub has_table : Kind → Bool
has_table row_propagation = false
has_table propagation = false
has_table probing = true
has_table tightening = false
has_table removal = false
has_table unknown = false

unfoldable pub is_unknown : Kind → Bool
is_unknown row_propagation = false
is_unknown propagation = false
is_unknown probing = false
is_unknown tightening = false
is_unknown removal = false
is_unknown unknown = true

-- "Kinds 4 and 5 are retired from run sheets." (02, C-16): a record of a list is of one of the others, or refused
unfoldable pub is_retired : Kind → Bool
is_retired row_propagation = false
is_retired propagation = false
is_retired probing = false
is_retired tightening = true
is_retired removal = true
is_retired unknown = false

-- which kinds only narrow the box and add to the table: a visit, a settle, a probe
unfoldable pub narrows : Kind → Bool
narrows row_propagation = true
narrows propagation = true
narrows probing = true
narrows tightening = false
narrows removal = false
narrows unknown = false

-- a call with the very n, m and buffer lengths of s; a field that the kind lacks is 0
unfoldable pub call_of : State → ℕ → ℕ → ℕ → ℕ → Call
call_of s kind row variable budget =
    record { kind = kind; row = row; variable = variable; budget = budget; n = s.model.n; m = s.model.m; lengths = lengths_of s }
