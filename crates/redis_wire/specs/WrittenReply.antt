-- A whole reply as bytes: a value, an error, a group with errors in it, or a pushed message.
use Rattle.std.specs.Prelude.{ℕ, ◌/◌, ◌%◌, ◌==◌, suc, List, [], ◌++◌, map, if◌then◌else◌}
use Rattle.std.specs.List.{list_all}
use Rattle.redis_wire.specs.declared.written.Protocol.{Protocol}
use Rattle.redis_wire.specs.declared.written.Protocol.TheVariants.{Resp2, Resp3}
use Rattle.redis_wire.specs.declared.kind.GroupKind.{GroupKind}
use Rattle.redis_wire.specs.declared.kind.GroupKind.TheVariants as groups
use Rattle.redis_wire.specs.Reading.{is_inner}
use Rattle.redis_wire.specs.Reply.{Answer, value, refused, group, pushed, AnswerList, no_answers, more_answers}
use Rattle.redis_wire.specs.Packed.{bulk_bytes}
use Rattle.redis_wire.specs.Written.{line_bytes, count_bytes, blob_bytes, tree_bytes}

-- a space instead of CR and of LF
abbrev pub blank_end : ℕ → ℕ
blank_end b = if is_inner b then b else 32

-- an error that no line can hold: a bulk error in RESP3; in RESP2 spaces replace CR and LF
abbrev pub long_error_bytes : Protocol → List ℕ → List ℕ
long_error_bytes Resp2 text = line_bytes 45 (map blank_end text)
long_error_bytes Resp3 text = blob_bytes 33 text

-- an error
unfoldable pub error_bytes : Protocol → List ℕ → List ℕ
error_bytes p text = if list_all is_inner text then line_bytes 45 text else long_error_bytes p text

-- The header of a group of n members: an array in RESP2, and also if no group of the kind has n
-- members. A map and attributes count pairs.
abbrev pub group_head : Protocol → GroupKind → ℕ → List ℕ
group_head Resp2 k n = count_bytes 42 n
group_head Resp3 groups.Array n = count_bytes 42 n
group_head Resp3 groups.Set n = count_bytes 126 n
group_head Resp3 groups.Map n = if n % 2 == 0 then count_bytes 37 (n / 2) else count_bytes 42 n
group_head Resp3 groups.Attribute n = if n % 2 == 1 then count_bytes 124 (n / 2) else count_bytes 42 n

-- the header of a message with n members, its kind included
abbrev pub push_head : Protocol → ℕ → List ℕ
push_head Resp2 n = count_bytes 42 n
push_head Resp3 n = count_bytes 62 n

-- the number of replies in a list
abbrev pub answer_count : AnswerList → ℕ
answer_count no_answers = 0
answer_count (more_answers a xs) = suc (answer_count xs)

abbrev mutual
  -- a reply
  pub answer_bytes : Protocol → Answer → List ℕ
  answer_bytes p (value t) = tree_bytes p t
  answer_bytes p (refused text) = error_bytes p text
  answer_bytes p (group k xs) = group_head p k (answer_count xs) ++ answers_bytes p xs
  answer_bytes p (pushed kind xs) =
      push_head p (suc (answer_count xs)) ++ (bulk_bytes kind ++ answers_bytes p xs)

  -- replies one after the other
  pub answers_bytes : Protocol → AnswerList → List ℕ
  answers_bytes p no_answers = []
  answers_bytes p (more_answers a xs) = answer_bytes p a ++ answers_bytes p xs
