use Rattle.std.proofs.Common.{◌≡◌, IfOk, Some, option_and_then, option_map, rules, subst, sym}
use Rattle.redis_resp.specs.Reading.{traverse}
use Rattle.redis_resp.specs.Source.{all_left}
use Rattle.redis_resp.specs.Table.{entries_meaning, entry_reading, table_of}
use Rattle.redis_resp.specs.Tree.{pairs_in}
use Rattle.redis_resp.proofs.value.table.read_in_order.Goals as goal

pub returns-in-Some-clause-ok : goal.returns-in-Some-clause-ok
returns-in-Some-clause-ok g c =
    let is : pairs_in (g.S.Source.seen c.args.v)
    ≡ Some (all_left g.S.Source.values_left g.S.Source.pairs_left c.in-Some.pairs) = search rules in
    subst
    (λ o. IfOk c.insert_in_order.result (λ m. option_map table_of
    (option_and_then (traverse (entry_reading g.V.FromRedisValue.reading)) o)
    ≡ Some (entries_meaning g.V.FromRedisValue.meaning m.entries))) (sym is) c.insert_in_order.ensures.ok
