use Rattle.std.proofs.Common.{◌≡◌, rules, take, drop, string_bytes}
use Rattle.redis_wire.proofs.TextLemmas.{no_format, nothing_behind, verbatim_is}
use Rattle.redis_wire.proofs.ReplyLemmas.{says_value}
use Rattle.redis_wire.proofs.scalars.parse_verbatim.Goals as goal

pub returns-in_default : goal.returns-in_default
returns-in_default c =
    let same : c.split_at.result.1.now ≡ drop 4 c.args.text.now = search rules in
    let none = no_format c.args.text.now c.if-text-lt4.false c.if-text-ne58.false c.in_default.ensures.cases.0 in
    rw (none, ← same) c.make_bulk_string.ensures

pub returns-in_default-from_utf8 : goal.returns-in_default-from_utf8
returns-in_default-from_utf8 c =
    let same : c.split_at.result.1.now ≡ drop 4 c.args.text.now = search rules in
    let none = nothing_behind c.args.text.now c.if-text-lt4.false c.if-text-ne58.false
    (λ u. c.in_default-from_utf8.ensures.cases.0 (rw same u)) in
    rw (none, ← same) c.make_bulk_string-in_default-from_utf8.ensures

pub returns : goal.returns
returns c =
    let format : string_bytes c.in_ok-from_str.field-0 ≡ take 3 c.args.text.now = search rules in
    let behind : string_bytes c.in_ok-from_str-2.field-0 ≡ drop 4 c.args.text.now = search rules in
    says_value _ _
    (verbatim_is c.args.text.now c.if-text-lt4.false c.if-text-ne58.false c.in_ok-from_str.field-0
    c.in_ok-from_str-2.field-0 format behind)
