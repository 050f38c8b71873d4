use Rattle.std.proofs.Common.{◌≡◌, [], refl, rules, string_bytes}
use Rattle.redis_resp.specs.Reading.{traverse}
use Rattle.redis_resp.specs.Refusal.{Refuses, OneRefused, RefusesEntry}
use Rattle.redis_resp.specs.Source.{all_left}
use Rattle.redis_resp.specs.Table.{entry_reading}
use Rattle.redis_resp.proofs.MapLemmas.{fields_start, fields_next, fields_refused}
use Rattle.redis_resp.proofs.SortedLemmas.{sorted_all, at_sorted_key_updates}
use Rattle.redis_resp.proofs.value.ordered.insert_sorted.Goals as goal

pub loop-key-init : goal.loop-key-init
loop-key-init g c = fields_start g.V.FromRedisValue.reading
    (all_left g.S.Source.values_left g.S.Source.pairs_left c.args.pairs) _ (λ q. rw c.new-fields.ensures.empty refl)

pub returns-in_err-entry-clause-err : goal.returns-in_err-entry-clause-err
returns-in_err-entry-clause-err g c =
    let reading = g.V.FromRedisValue.reading in
    let refuses = Refuses reading g.V.FromRedisValue.may_refuse in
    let all = all_left g.S.Source.values_left g.S.Source.pairs_left c.args.pairs in
    let stop : Refuses (traverse (entry_reading reading))
    (OneRefused (RefusesEntry refuses)) all c.in_err-entry.field-0.0 =
    fields_refused reading all refuses _ _ _ (
      g.S.Source.seen c.in-Some.key,
      g.S.Source.seen c.in-Some.value,
    ) c.in-Some.ensures c.in_err-entry.ensures.err _ c.loop-key.invariant in
    search rules

pub loop-key-preserved : goal.loop-key-preserved
loop-key-preserved g c =
    let meaning = g.V.FromRedisValue.meaning in
    let entry = c.in_ok-entry.entry in
    fields_next g.V.FromRedisValue.reading (all_left g.S.Source.values_left g.S.Source.pairs_left c.args.pairs) _ _
    (g.S.Source.seen c.in-Some.key, g.S.Source.seen c.in-Some.value)
    (string_bytes entry.0) (meaning entry.1) _ _ c.in-Some.ensures c.in_ok-entry.ensures.ok
    (at_sorted_key_updates meaning c.loop-key.fields c.insert.new.self entry.0 entry.1
    c.in_ok-insert.ensures.updates) c.loop-key.invariant

pub loop-key-preserved-in_ok-insert : goal.loop-key-preserved-in_ok-insert
loop-key-preserved-in_ok-insert g c =
    let meaning = g.V.FromRedisValue.meaning in
    let entry = c.in_ok-entry.entry in
    fields_next g.V.FromRedisValue.reading (all_left g.S.Source.values_left g.S.Source.pairs_left c.args.pairs) _ _
    (g.S.Source.seen c.in-Some.key, g.S.Source.seen c.in-Some.value)
    (string_bytes entry.0) (meaning entry.1) _ _ c.in-Some.ensures c.in_ok-entry.ensures.ok
    (at_sorted_key_updates meaning c.loop-key.fields c.insert.new.self entry.0 entry.1
    c.in_ok-insert.ensures.updates) c.loop-key.invariant

pub returns-clause-ok : goal.returns-clause-ok
returns-clause-ok g c =
    let left = all_left g.S.Source.values_left g.S.Source.pairs_left c.loop-key.pairs in
    let none : left ≡ [] = search rules in
    sorted_all g.V.FromRedisValue.reading g.V.FromRedisValue.meaning
    (all_left g.S.Source.values_left g.S.Source.pairs_left c.args.pairs) left c.loop-key.fields none
    c.loop-key.invariant
