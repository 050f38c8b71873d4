-- The values of groups, which are built of their members.
use Rattle.std.specs.Prelude.{ℕ, zero, suc, ◌+◌, ◌*◌, ◌-◌, List, [], length, take, slice_get, Option, Some, None}
use Rattle.std.specs.Prelude.{Result, Ok, Err}
use Rattle.redis_resp.specs.Tree.{Tree, nil, array, set, map_of_pairs, attribute, trees, pairs, two_by_two}
use Rattle.redis_wire.specs.declared.fault.Fault.TheVariants.{BadLength}
use Rattle.redis_wire.specs.declared.kind.GroupKind.{GroupKind}
use Rattle.redis_wire.specs.declared.kind.GroupKind.TheVariants as groups
use Rattle.redis_wire.specs.Reading.{Halt, bad, Read, ◌>>=◌}
use Rattle.redis_wire.specs.Reply.{Answer, value, group, answer_list, Answers, values, mixed, join, one}

-- the number of values that follow a count: twice the count for pairs, and one more for attributes
abbrev pub member_count : GroupKind → ℕ → ℕ
member_count groups.Array n = n
member_count groups.Set n = n
member_count groups.Map n = 2 * n
member_count groups.Attribute n = 2 * n + 1

-- this number of values, one after the other
unfoldable pub many : (List ℕ → Read Answer) → ℕ → List ℕ → Read Answers
many inner zero bytes = Ok (values [], bytes)
many inner (suc n) bytes =
    inner bytes >>= λ x. many inner n x.1 >>= λ y. Ok (join (one x.0) y.0, y.1)

-- the values that were read before, and those that are read after them
abbrev pub behind : Answers → Read Answers → Read Answers
behind front read = read >>= λ x. Ok (join front x.0, x.1)

-- pairs, or the fault if a member has no partner
abbrev pub pairs_or_fault : Option (List (Tree × Tree)) → Result (List (Tree × Tree)) Halt
pairs_or_fault None = Err (bad BadLength)
pairs_or_fault (Some ps) = Ok ps

-- the members in pairs
abbrev pub pairs_of : List Tree → Result (List (Tree × Tree)) Halt
pairs_of ts = pairs_or_fault (two_by_two ts)

-- a map: keys and values, in turn
abbrev pub map_answer : List Tree → Result Answer Halt
map_answer ts = pairs_of ts >>= λ ps. Ok (value (map_of_pairs (pairs ps)))

-- pairs, and the value that has them as attributes
abbrev pub attribute_round :
    Option Tree → Result (List (Tree × Tree)) Halt → Result Answer Halt
attribute_round None r = Err (bad BadLength)
attribute_round (Some t) r = r >>= λ ps. Ok (value (attribute t (pairs ps)))

-- the last member, with the pairs before it as its attributes
abbrev pub attribute_answer : List Tree → Result Answer Halt
attribute_answer ts =
    attribute_round (slice_get ts (length ts - 1)) (pairs_of (take (length ts - 1) ts))

-- the value of a group whose members are these values
unfoldable pub group_tree : GroupKind → List Tree → Result Answer Halt
group_tree groups.Array ts = Ok (value (array (trees ts)))
group_tree groups.Set ts = Ok (value (set (trees ts)))
group_tree groups.Map ts = map_answer ts
group_tree groups.Attribute ts = attribute_answer ts

-- the value of a group whose members are these: a value if all of them are values
abbrev pub group_answer : GroupKind → Answers → Result Answer Halt
group_answer k (values ts) = group_tree k ts
group_answer k (mixed xs) = Ok (group k (answer_list xs))

-- an array of length -1 is a null
unfoldable pub no_group_answer : GroupKind → Result Answer Halt
no_group_answer groups.Array = Ok (value nil)
no_group_answer _ = Err (bad BadLength)
