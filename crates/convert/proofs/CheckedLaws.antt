-- What it says of a check's number that it is passed or not.
use Rattle.std.proofs.Common.{◌≡◌, true, false, refl}
use Rattle.std.specs.Prelude.{Result, Ok, Err}
use Rattle.std.specs.Result.{is_ok}
use Rattle.model.specs.declared.refusal.Refusal.{Refusal}
use Rattle.model.specs.Refusals.{fault_of}
use Rattle.model.proofs.RefusalLaws.{number_of-ne0}

pub passed-fault : {X : Type 0} (r : Result X Refusal) → is_ok r ≡ true → fault_of r ≡ 0
passed-fault (Ok x) e = refl
passed-fault (Err r) e = let k : ⊥ = cc in absurd k

pub unpassed-fault : {X : Type 0} (r : Result X Refusal) → is_ok r ≡ false → fault_of r ≡ 0 → ⊥
unpassed-fault (Ok x) e z = let k : ⊥ = cc in k
unpassed-fault (Err r) e z = number_of-ne0 r z
