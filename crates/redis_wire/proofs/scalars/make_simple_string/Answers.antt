use Rattle.std.proofs.Common.{◌≡◌, rules, string_bytes}
use Rattle.redis_wire.proofs.TextLemmas.{text_is, no_text}
use Rattle.redis_wire.proofs.ReplyLemmas.{says_value}
use Rattle.redis_wire.proofs.scalars.make_simple_string.Goals as goal

pub returns-in_ok-from_str-in-Ok : goal.returns-in_ok-from_str-in-Ok
returns-in_ok-from_str-in-Ok c =
    let same : string_bytes c.in_ok-from_str-in-Ok.field-0 ≡ c.args.line.now = search rules in
    says_value _ _ (text_is c.args.line.now c.in_ok-from_str-in-Ok.field-0 same)

pub returns-in-Err : goal.returns-in-Err
returns-in-Err c = rw (no_text c.args.line.now c.in-Err.ensures.cases.0) c.make_bulk_string.ensures
