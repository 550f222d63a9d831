-- The two clauses that a callee requires, told at a call in a walk. Assumes `Logic`.
use mathlib.Core.List.{List}
use seplogic.Ra.Ura.{Ura}
use base.Logic.{SProp, assoc∗, sep, via}
use types.Logic.{Logic}
use contract.Monad.{fact}
use types.Kit.{Item, Step, prop, step, ◌$◌}
use denote.Triple.Walked.{says}

pub tells : {M : Type 1} {𝓤 : Ura M} {𝓛 : Logic 𝓤} {K : Type 0} {Γ : List (Item 𝓤)} → K → {φ ψ : Type 0} {P : SProp 𝓤} → φ → ψ
    → Step K 𝓛 Γ (prop P) Γ (prop (sep 𝓤 P (sep 𝓤 (fact 𝓤 φ) (fact 𝓤 ψ))))
tells {𝓤 = 𝓤} t {φ} {ψ} {P} x y =
    step (λ s. record { prf = via 𝓤 (sep 𝓤 (sep 𝓤 P (fact 𝓤 φ)) (fact 𝓤 ψ)) (says t y $ says t x $ s).prf (assoc∗ 𝓤 P (fact 𝓤 φ) (fact 𝓤 ψ)) })
