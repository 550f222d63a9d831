-- What the enum that the code returns stands for in the semantics.
use Rattle.semantics.specs.RestTest as tested
use Rattle.rest.specs.declared.Rest.{Rest}
use Rattle.rest.specs.declared.Rest.TheVariants.{AtRest, ByRow, ByVariable}

-- 01's yes and no, a no with the row or the variable that 02 (C-13) adds
unfoldable pub rest_answer_of : Rest → tested.Rest
rest_answer_of AtRest = tested.at_rest
rest_answer_of (ByRow r) = tested.by_row r
rest_answer_of (ByVariable k) = tested.by_variable k
