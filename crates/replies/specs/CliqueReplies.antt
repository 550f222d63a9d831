-- What the call that writes the clique rows says.
use Rattle.std.specs.Prelude.{[], ◌∷◌}
use Rattle.cliques.specs.CliqueCall.{CliqueAnswer, refused, written}
use Rattle.replies.specs.Replies.{Reply, refused_by, says}

-- "{number}": 02's "their number in the answer"
unfoldable pub clique_reply : CliqueAnswer → Reply
clique_reply (refused number) = refused_by number
clique_reply (written number) = says (number ∷ [])
