use Rattle.std.proofs.Common.{rules, ◌≡◌, drop}
use Rattle.redis_wire.proofs.ShortLemmas.{array_is}
use Rattle.redis_wire.proofs.short.pass_short_array.Goals as goal

pub returns : goal.returns
returns c =
    let rest : c.split_at.result.1.now ≡ drop 4 c.args.bytes.now = search rules in
    rw rest (array_is c.args.limits c.args.bytes.now (drop 4 c.args.bytes.now) c.in_ok-count.count
    c.in_ok-count.ensures.head)
