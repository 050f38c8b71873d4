use Rattle.std.proofs.Common.{rules}
use Rattle.stream_in_place.proofs.ShortLemmas.{text_stands, text_stands_found}
use Rattle.stream_in_place.proofs.short.read_body.Goals as goal

pub returns-clause-is : goal.returns-clause-is
returns-clause-is c =
    let ends = c.is_crlf_at.ensures (search rules) in
    text_stands c.args.limits c.args.bytes.now c.args.at c.args.start c.args.len c.requires.head ends c.requires.room

pub returns-clause-found : goal.returns-clause-found
returns-clause-found c =
    let ends = c.is_crlf_at.ensures (search rules) in
    text_stands_found c.args.limits c.args.bytes.now c.args.at c.args.start c.args.len c.requires.head ends
    c.requires.room
