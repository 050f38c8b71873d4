-- The number of values in a reply, with nested values counted.
use Rattle.std.specs.Prelude.{ℕ, suc, ◌+◌}
use Rattle.redis_resp.specs.Tree.{Tree, nil, int, bulk, array, simple, okay, map_of_pairs, attribute, set, boolean}
use Rattle.redis_resp.specs.Tree.{verbatim, push, Trees, no_trees, more_trees, Pairs, no_pairs, more_pairs}
use Rattle.redis_wire.specs.Reply.{Answer, value, refused, group, pushed, AnswerList, no_answers, more_answers}

abbrev mutual
  -- a value, and those inside it
  pub values_of : Tree → ℕ
  values_of nil = 1
  values_of (int z) = 1
  values_of (bulk bytes) = 1
  values_of (array ts) = suc (values_of_trees ts)
  values_of (simple text) = 1
  values_of okay = 1
  values_of (map_of_pairs ps) = suc (values_of_pairs ps)
  values_of (attribute t ps) = suc (values_of_pairs ps + values_of t)
  values_of (set ts) = suc (values_of_trees ts)
  values_of (boolean b) = 1
  values_of (verbatim format text) = 1
  values_of (push kind ts) = suc (values_of_trees ts)

  -- those of a list
  pub values_of_trees : Trees → ℕ
  values_of_trees no_trees = 0
  values_of_trees (more_trees t ts) = values_of t + values_of_trees ts

  -- those of keys and values
  pub values_of_pairs : Pairs → ℕ
  values_of_pairs no_pairs = 0
  values_of_pairs (more_pairs k x ps) = values_of k + (values_of x + values_of_pairs ps)

abbrev mutual
  -- those of a reply: an error is one; a message has those that are sent with it
  pub value_count : Answer → ℕ
  value_count (value t) = values_of t
  value_count (refused text) = 1
  value_count (group k xs) = suc (values_among xs)
  value_count (pushed kind xs) = values_among xs

  -- those of replies one after the other
  pub values_among : AnswerList → ℕ
  values_among no_answers = 0
  values_among (more_answers a xs) = value_count a + values_among xs
