use Rattle.std.proofs.Common.{rules, ◌≡◌, ◌+◌, drop, take}
use Rattle.redis_wire.proofs.HeadLemmas.{blob_is}
use Rattle.redis_wire.proofs.ShortLemmas.{bulk_is}
use Rattle.redis_wire.proofs.short.pass_short_body.Goals as goal

pub returns : goal.returns
returns c =
    let bytes = c.args.bytes.now in
    let text = blob_is bytes c.args.start c.args.len (c.is_crlf_at.ensures (search rules)) c.requires.room in
    let rest : c.split_at.result.1.now ≡ drop (c.args.start + c.args.len + 2) bytes = search rules in
    rw rest (bulk_is c.args.limits bytes (drop c.args.start bytes) (take c.args.len (drop c.args.start bytes))
    (drop (c.args.start + c.args.len + 2) bytes) c.args.len c.requires.head text)
