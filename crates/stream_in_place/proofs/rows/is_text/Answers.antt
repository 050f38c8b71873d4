use Rattle.std.proofs.Common.{rules, sym}
use Rattle.std.specs.Str.{IsAscii}
use Rattle.std.proofs.lemmas.Str.{is_utf8-from_IsUtf8, IsUtf8-from_ascii}
use Rattle.stream_in_place.proofs.rows.is_text.Goals as goal

pub returns-then-is_short_ascii : goal.returns-then-is_short_ascii
returns-then-is_short_ascii c =
    let a : IsAscii c.args.bytes.now = search rules in
    sym (is_utf8-from_IsUtf8 c.args.bytes.now (IsUtf8-from_ascii c.args.bytes.now a))
