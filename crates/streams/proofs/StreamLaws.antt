-- Laws of the input and of what is printed.
use Prim.Native.Nat.{◌≤◌, ℕ}
use lib.ListN.{length, length-append, take}
use lib.Seq.{length-take-le}
use mathlib.Core.List.{List, ◌++◌}
use mathlib.Core.Path.{◌∙◌, ◌≡◌}
use native.Mathlib.Omega.{arith}
use Rattle.intake.specs.Checks.{TooLong}
use Rattle.text.specs.Text.{Wrote}
use Rattle.text.proofs.TextLaws.{wrote-length}
use Rattle.streams.specs.Input.{RefusedSoFar}

-- an input that is too long already: so is every one that starts so
pub too-long-so-far : (bs : List ℕ) → TooLong (length bs) → RefusedSoFar bs
too-long-so-far bs h = record { refusal = λ more b. h.refusal (bs ++ more) b (omega (arith, length-append bs more)) }

-- the part of a buffer up to the end of a text is as long as the text
pub written-length : {old text new : List ℕ} {end : ℕ} → Wrote old 0 text end new → length (take end new) ≡ length text
written-length {old} {text} {new} {end} w =
    let l : end ≤ length new = omega (arith, w.fits, wrote-length w) in
    length-take-le end new l ∙ omega (arith, w.end)
