use Rattle.std.proofs.Common.{rules, ◌≡◌, drop}
use Rattle.redis_wire.specs.Reply.{is_of_code}
use Rattle.redis_wire.proofs.LineLemmas.{prefix_len_le, behind_first}
use Rattle.redis_wire.proofs.reply.ServerError.message.Goals as goal

pub split_at-requires : goal.split_at-requires
split_at-requires c = rw c.count_code_bytes.ensures (prefix_len_le is_of_code c.as_slice-text.result.now)

pub returns-in-len1-up : goal.returns-in-len1-up
returns-in-len1-up c =
    let back : c.split_at.result.1.now ≡ drop c.count_code_bytes.result c.args.self.now.text.items = search rules in
    let same : c.as_slice-text.result.now ≡ c.args.self.now.text.items = search rules in
    rw (back, c.count_code_bytes.ensures, same) (behind_first _ c.args.self.now.text.items)
