-- What it says of a check's number that it is passed or not.
use Rattle.std.proofs.Common.{◌≡◌, true, false, refl, sym}
use Rattle.std.specs.Prelude.{Result, Ok, Err}
use Rattle.std.specs.Result.{is_ok, is_err}
use borrow.Author.Tests.{ne_eqb}
use lib.Dec.{eqb}
use Rattle.model.specs.declared.refusal.Refusal.{Refusal}
use Rattle.model.specs.Refusals.{fault_of, number_of}
use Rattle.model.proofs.RefusalLaws.{number_of-ne0}

pub refused-fault : {X : Type 0} (r : Result X Refusal) → is_err r ≡ true → fault_of r ≡ 0 → ⊥
refused-fault (Ok x) e z = let k : ⊥ = cc in k
refused-fault (Err r) e z = number_of-ne0 r z

pub unrefused-fault : {X : Type 0} (r : Result X Refusal) → is_err r ≡ false → fault_of r ≡ 0
unrefused-fault (Ok x) e = refl
unrefused-fault (Err r) e = let k : ⊥ = cc in absurd k

pub passed-fault : {X : Type 0} (r : Result X Refusal) → is_ok r ≡ true → fault_of r ≡ 0
passed-fault (Ok x) e = refl
passed-fault (Err r) e = let k : ⊥ = cc in absurd k

pub unpassed-fault : {X : Type 0} (r : Result X Refusal) → is_ok r ≡ false → fault_of r ≡ 0 → ⊥
unpassed-fault (Ok x) e z = let k : ⊥ = cc in k
unpassed-fault (Err r) e z = number_of-ne0 r z

pub passed-test : {X : Type 0} (r : Result X Refusal) → is_ok r ≡ eqb (fault_of r) 0
passed-test (Ok x) = refl
passed-test (Err r) = sym (ne_eqb (number_of r) 0 (number_of-ne0 r))
