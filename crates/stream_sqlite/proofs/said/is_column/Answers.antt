use Rattle.std.proofs.Common.{◌≡◌, ◌++◌, ◌∷◌, rules, string_bytes}
use Rattle.stream_sqlite.proofs.ColumnsLemmas.{column_is}
use Rattle.stream_sqlite.proofs.said.is_column.Goals as goal

pub returns-in-Some : goal.returns-in-Some
returns-in-Some c = λ yes.
    let same : c.in-Some.kind.now ≡ c.format_kind.result.now = search rules in
    let column = c.args.column.now in
    let part : c.args.part.now ≡ string_bytes column.name ++ 58 ∷ c.format_kind.result.now = search rules in
    column_is c.args.part.now (string_bytes column.name) c.format_kind.result.now column.kind column.optional part
    c.format_kind.ensures.whole c.format_kind.ensures.kind
