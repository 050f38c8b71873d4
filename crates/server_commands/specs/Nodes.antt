-- Nodes of entries: the one that an entry comes to, the setting of their size, and the limit of a trim by whole nodes.
use Rattle.std.specs.Prelude.{◌≡◌, ◌*◌, ◌==◌, ◌∷◌, ◌++◌, ℕ, pos, Bool, List, [], Option, Some, None, codes, min, if◌then◌else◌}
use Rattle.std.specs.Global.{Vec}
use Rattle.std.specs.List.{HoldsAt}
use Rattle.server_store.specs.Stream.{IsLastGrown, IsLastOpen, new_node}
use Rattle.server_store.specs.declared.entry_id.EntryId.{EntryId}
use Rattle.server_store.specs.declared.stream.Node.{Node}
use Rattle.server_commands.specs.Commands.{lower_case}
use Rattle.server_commands.specs.Incoming.{strict_number}
use Rattle.server_commands.specs.declared.answer.Answer.{Answer}
use Rattle.server_commands.specs.declared.answer.Answer.TheVariants.{Id}

-- the entry of the reply's id comes to the last node, if that has room, and else begins one; `most` is the size of a node
pub record IsInNode (most : ℕ) (answer : Answer) (old new : List Node) : Type 0 where
  pub id : EntryId
  pub answered : answer ≡ Id id
  pub grows : IsLastOpen most old → IsLastGrown id old new
  pub begins : (IsLastOpen most old → ⊥) → new ≡ old ++ new_node id ∷ []

-- CONFIG SET of these words set the size of a node, which is now the number that its value is the text of
pub record IsConfigured (words : List (Vec ℕ)) (size : ℕ) : Type 0 where
  pub named : HoldsAt (λ word. lower_case word.items ≡ codes "stream-node-max-entries") words 2
  pub number : HoldsAt (λ word. strict_number word.items ≡ Some (pos size)) words 3

-- the limit of `~` without LIMIT, by the size of a node: a hundred nodes, or 10,000 entries for nodes of any size
abbrev pub usual_limit : ℕ → ℕ
usual_limit size = if size == 0 then 10000 else min (100 * size) 1000000

-- the limit of a trim: that of LIMIT, or the usual one of `~`, or none
abbrev pub limit_of : Option ℕ → Bool → ℕ → ℕ
limit_of (Some limit) is_approximate size = limit
limit_of None is_approximate size = if is_approximate then usual_limit size else 0
