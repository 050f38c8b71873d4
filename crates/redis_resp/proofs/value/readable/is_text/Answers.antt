use Rattle.std.proofs.Common.{◌≡◌, rules}
use Rattle.redis_resp.specs.Value.{tree}
use Rattle.redis_resp.proofs.ReadableLemmas.{bulk_not_read}
use Rattle.redis_resp.proofs.value.readable.is_text.Goals as goal

pub returns-in-Err : goal.returns-in-Err
returns-in-Err c =
    let same : c.deref.result.now ≡ c.in-BulkString.bytes.items = search rules in
    let none =
    bulk_not_read
    (tree c.args.v.now) c.as_plain.result.now c.in-BulkString.bytes c.as_plain.ensures c.in-BulkString.is
    (λ utf8. c.in-Err.ensures.cases.0 (rw same utf8)) in
    search rules
