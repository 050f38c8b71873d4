-- The words of a command, which is sent to a server as an array of bulk strings.
use Rattle.std.specs.Prelude.{◌≡◌, ◌↔◌, ◌<◌, ◌≤◌, ◌^◌, ℕ, List, length, Option, Some, None}
use Rattle.std.specs.List.{AllByRecursion}
use Rattle.redis_resp.specs.Tree.{Tree, bulk, array, list_of_trees}
use Rattle.redis_resp.specs.Reading.{traverse}
use Rattle.redis_wire.specs.declared.limits.Limits.{Limits}
use Rattle.redis_wire.specs.Reply.{Answer, value}
use Rattle.redis_wire.specs.Packed.{command_bytes, command_tree}
use Rattle.redis_wire.specs.Grammar.{IsReply}

-- the bytes of a bulk string
abbrev pub bulk_text : Tree → Option (List ℕ)
bulk_text (bulk text) = Some text
bulk_text _ = None

-- the bytes of each member of an array of bulk strings, and None for any other reply
abbrev pub words_in : Answer → Option (List (List ℕ))
words_in (value (array ts)) = traverse bulk_text (list_of_trees ts)
words_in _ = None

-- these are the words of the command that a reply is, and None if it is no command
abbrev pub AreWordsOf : Answer → Option (List (List ℕ)) → Type 0
AreWordsOf a words = (args : List (List ℕ)) → (words ≡ Some args) ↔ (a ≡ value (command_tree args))

-- If the bytes of a command are read as the reply, these are the words of the command. Lines of ten bytes and
-- two levels are allowed, and the count and the lengths are within the limits.
abbrev pub AreUnpacked : Answer → Option (List (List ℕ)) → Type 0
AreUnpacked a words = (limits : Limits) (args : List (List ℕ))
    → limits.length < 2 ^ 32 → 10 ≤ limits.line → 2 ≤ limits.depth → length args ≤ limits.length
    → AllByRecursion (λ arg. length arg ≤ limits.length) args
    → IsReply limits (command_bytes args) a → words ≡ Some args
