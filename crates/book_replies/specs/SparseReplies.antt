-- What the calls that tell the length of a sparse book say. Words in quotation marks are D-28's (docs/DECISIONS.md).
use Rattle.std.specs.Prelude.{[], ◌∷◌}
use Rattle.replies.specs.Replies.{Reply, refused_by, says}
use Rattle.sparse_calls.specs.SparseCalls.{BytesNeeded, bytes_are, refused_length}

-- "{bytes}"
unfoldable pub length_reply : BytesNeeded → Reply
length_reply (refused_length number) = refused_by number
length_reply (bytes_are count) = says (count ∷ [])
