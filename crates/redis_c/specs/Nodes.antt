-- The result that C receives for the values of a reply.
use Rattle.std.specs.Prelude.{◌≡◌, ◌≢◌, ◌<◌, ◌⊎◌, ◌++◌, ◌/◌, ℕ, List, [], length, Result, Ok, Err}
use Rattle.redis_wire.specs.Decoded.{IsFirstFault}
use Rattle.redis_wire.specs.Grammar.{IsReply}
use Rattle.redis_wire.specs.Limits.{default_limits}
use Rattle.redis_wire.specs.Nodes.{Finds}
use Rattle.redis_wire.specs.Reply.{Answer}
use Rattle.redis_wire.specs.declared.fault.Fault.{Fault}
use Rattle.redis_wire.specs.declared.fault.WireError.{WireError}
use Rattle.redis_wire.specs.declared.fault.WireError.TheVariants as errors
use Rattle.redis_wire.specs.declared.nodes.Found.{Found}
use Rattle.redis_wire.specs.declared.nodes.Found.TheVariants.{Whole, NoRoom, Incomplete}
use Rattle.redis_wire.specs.declared.nodes.Node.{Node}
use Rattle.redis_c.specs.Outcome.{code_of_fault}
use Rattle.redis_c.specs.Records.{IsOrMemory}

-- the status code of the outcome
abbrev pub nodes_code : Result Found WireError → ℕ
nodes_code (Ok (Whole len count)) = 0
nodes_code (Ok (NoRoom len)) = 1
nodes_code (Ok Incomplete) = 2
nodes_code (Err errors.Memory) = 5
nodes_code (Err (errors.Fault fault)) = code_of_fault fault

-- the number of bytes of the reply
abbrev pub nodes_len : Result Found WireError → ℕ
nodes_len (Ok (Whole len count)) = len
nodes_len (Ok (NoRoom len)) = len
nodes_len (Ok Incomplete) = 0
nodes_len (Err e) = 0

-- the number of nodes, or an upper bound: no value has fewer than three bytes
abbrev pub nodes_count : Result Found WireError → ℕ
nodes_count (Ok (Whole len count)) = count
nodes_count (Ok (NoRoom len)) = len / 3
nodes_count (Ok Incomplete) = 0
nodes_count (Err e) = 0

-- if a table is too small, it has room for fewer nodes than the returned number, which is enough
abbrev pub HasTooFew : ℕ → Result Found WireError → Type 0
HasTooFew room (Ok (NoRoom len)) = room < len / 3
HasTooFew room (Ok (Whole len count)) = Unit {0}
HasTooFew room (Ok Incomplete) = Unit {0}
HasTooFew room (Err e) = Unit {0}

-- The outcome is returned to C as a status code, a length and a count.
pub record AreNodesTold (bytes : List ℕ) (nodes : List Node) (code len count : ℕ) : Type 0 where
  pub found : Result Found WireError
  pub is : Finds default_limits bytes nodes found
  pub few : HasTooFew (length nodes) found
  pub code_is : code ≡ nodes_code found
  pub len_is : len ≡ nodes_len found
  pub count_is : count ≡ nodes_count found

-- What has to be returned for bytes, unless memory runs out: that they end too early, if they are a proper prefix
-- of a reply; the length of the reply that they begin with, and that the table holds its values or is too small; and
-- a fault, if it is the first one in the bytes.
pub record TellsNodes (bytes : List ℕ) (n len : ℕ) : Type 0 where
  pub early : (more : List ℕ) (a : Answer) → more ≢ [] → IsReply default_limits (bytes ++ more) a → IsOrMemory 2 n
  pub whole : (text rest : List ℕ) (a : Answer) → IsReply default_limits text a → bytes ≡ text ++ rest
      → (n ≡ 5) ⊎ (((n ≡ 0) ⊎ (n ≡ 1)) × (len ≡ length text))
  pub fault : (f : Fault) → IsFirstFault default_limits bytes (errors.Fault f) → IsOrMemory (code_of_fault f) n
