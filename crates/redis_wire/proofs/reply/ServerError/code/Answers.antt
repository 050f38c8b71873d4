use Rattle.redis_wire.specs.Reply.{is_of_code}
use Rattle.redis_wire.proofs.LineLemmas.{prefix_len_le}
use Rattle.redis_wire.proofs.reply.ServerError.code.Goals as goal

pub split_at-requires : goal.split_at-requires
split_at-requires c = rw c.count_code_bytes.ensures (prefix_len_le is_of_code c.as_slice-text.result.now)
