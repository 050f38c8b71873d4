use Rattle.std.proofs.Common.{rules, ◌≡◌, false}
use Rattle.std.specs.Str.{is_utf8}
use Rattle.redis_wire.specs.Place.{text_in}
use Rattle.stream_in_place.proofs.rows.name_at.Goals as goal

pub returns-then-is_text-clause-found : goal.returns-then-is_text-clause-found
returns-then-is_text-clause-found c = λ text rest h is_text. c.in_ok-span.ensures.found text rest h

pub returns-else-is_text-clause-found : goal.returns-else-is_text-clause-found
returns-else-is_text-clause-found c = λ text rest h is_text.
    let same = (c.in_ok-span.ensures.found text rest h).0 in
    let none : is_utf8 (text_in c.args.bytes.now c.in_ok-span.span) ≡ false = search rules in
    cc (same, is_text, none)
