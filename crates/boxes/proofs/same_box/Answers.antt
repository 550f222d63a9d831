-- `boxes::same_box`: `==` on slices is the same list, number by number. Assumes nothing.
use lib.Dec.{T}
use lib.IntN.{ℤ}
use lib.Pointwise.{pointwise}
use mathlib.Core.List.{List}
use mathlib.Core.Path.{◌∙◌, ◌≡◌}
use Rattle.std.specs.Cmp.Rules.{signed_items}
use Rattle.std.specs.Ordering.{int_eq}
use Rattle.integer.proofs.Tests.{T→true, bool-ext, true→T}
use Rattle.model.specs.Box.{same_list}
use Rattle.model.proofs.BoxLaws.{same_list→eq, same_list-refl}
use Rattle.boxes.proofs.same_box.Goals as goal

same-of : (xs ys : List ℤ) → xs ≡ ys → T (same_list xs ys)
same-of xs ys e = rw e (same_list-refl ys)

same-is : (xs ys : List ℤ) → pointwise int_eq xs ys ≡ same_list xs ys
same-is xs ys =
    bool-ext (pointwise int_eq xs ys) (same_list xs ys)
    (λ t. same-of xs ys ((signed_items xs ys).0 (T→true (pointwise int_eq xs ys) t)))
    (λ t. true→T (pointwise int_eq xs ys) ((signed_items xs ys).1 (same_list→eq xs ys t)))

pub returns : goal.returns
returns c = c.eq.ensures ∙ same-is c.args.xs.now c.args.ys.now
