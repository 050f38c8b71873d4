use Rattle.std.proofs.Common.{ap, string_bytes}
use Rattle.std.proofs.lemmas.Result.{err_from_is_err_and}
use Rattle.redis_resp.specs.Reading.{traverse}
use Rattle.redis_resp.specs.Refusal.{Refuses, OneRefused, RefusesEntry}
use Rattle.redis_resp.specs.Source.{all_left}
use Rattle.redis_resp.specs.Table.{entries_meaning, entry_reading}
use Rattle.redis_resp.proofs.MapLemmas.{table_start, table_next, table_refused, meaning_inserted}
use Rattle.redis_resp.proofs.value.table.insert_in_order.Goals as goal

pub loop-key-init : goal.loop-key-init
loop-key-init g c = table_start g.V.FromRedisValue.reading
    (all_left g.S.Source.values_left g.S.Source.pairs_left c.args.pairs) _
    (ap (entries_meaning g.V.FromRedisValue.meaning) c.in_ok-table.ensures.empty)

pub returns-in_err-entry-clause-err : goal.returns-in_err-entry-clause-err
returns-in_err-entry-clause-err g c =
    let reading = g.V.FromRedisValue.reading in
    let refuses = Refuses reading g.V.FromRedisValue.may_refuse in
    let all = all_left g.S.Source.values_left g.S.Source.pairs_left c.args.pairs in
    let told = err_from_is_err_and c.from_residual-in_err-entry.result c.from_residual-in_err-entry.ensures.1 in
    let stop : Refuses (traverse (entry_reading reading))
    (OneRefused (RefusesEntry refuses)) all c.in_err-entry.field-0.0 =
    table_refused reading all refuses _ _ _ (
      g.S.Source.seen c.in-Some.key,
      g.S.Source.seen c.in-Some.value,
    ) c.in-Some.ensures c.in_err-entry.ensures.err _ c.loop-key.invariant in
    rw (told.1, told.2) stop

pub loop-key-preserved : goal.loop-key-preserved
loop-key-preserved g c =
    let meaning = g.V.FromRedisValue.meaning in
    let entry = c.in_ok-entry.entry in
    table_next g.V.FromRedisValue.reading (all_left g.S.Source.values_left g.S.Source.pairs_left c.args.pairs) _ _
    (g.S.Source.seen c.in-Some.key, g.S.Source.seen c.in-Some.value)
    (string_bytes entry.0) (meaning entry.1) _ _ c.in-Some.ensures c.in_ok-entry.ensures.ok
    (meaning_inserted meaning c.loop-key.table.entries c.insert.new.self.entries entry.0 entry.1
    c.in_ok-insert.ensures.entries) c.loop-key.invariant

pub loop-key-preserved-in_ok-insert : goal.loop-key-preserved-in_ok-insert
loop-key-preserved-in_ok-insert g c =
    let meaning = g.V.FromRedisValue.meaning in
    let entry = c.in_ok-entry.entry in
    table_next g.V.FromRedisValue.reading (all_left g.S.Source.values_left g.S.Source.pairs_left c.args.pairs) _ _
    (g.S.Source.seen c.in-Some.key, g.S.Source.seen c.in-Some.value)
    (string_bytes entry.0) (meaning entry.1) _ _ c.in-Some.ensures c.in_ok-entry.ensures.ok
    (meaning_inserted meaning c.loop-key.table.entries c.insert.new.self.entries entry.0 entry.1
    c.in_ok-insert.ensures.entries) c.loop-key.invariant
