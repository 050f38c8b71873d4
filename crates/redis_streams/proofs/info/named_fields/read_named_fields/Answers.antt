use Rattle.std.proofs.Common.{◌≡◌, length, Some, option_and_then, rules, ap, ◌∙◌}
use Rattle.redis_resp.specs.Tree.{pairs_in}
use Rattle.redis_resp.specs.Reading.{traverse}
use Rattle.redis_resp.specs.Source.{all_left}
use Rattle.redis_resp.specs.Table.{entry_reading}
use Rattle.redis_streams.proofs.InfoLemmas.{fields_of_pairs, no_fields}
use Rattle.redis_streams.proofs.info.named_fields.read_named_fields.Goals as goal

pub returns-in_ok-hash_map_of-in-Some-clause-ok : goal.returns-in_ok-hash_map_of-in-Some-clause-ok
returns-in_ok-hash_map_of-in-Some-clause-ok g c =
    let there : pairs_in (g.S.Source.seen c.args.v)
    ≡ Some (all_left g.S.Source.values_left g.S.Source.pairs_left c.in-Some.left) = search rules in
    fields_of_pairs g.S.Source.seen
    (g.S.Source.seen c.args.v) c.in_ok-pairs-in-Some.pairs.items c.in_ok-hash_map_of-in-Some.field-0
    (ap (option_and_then (traverse (entry_reading (λ u. Some u)))) there
    ∙ c.in_ok-pairs-in-Some.ensures.ok) c.in_ok-hash_map_of-in-Some.ensures

pub returns-then-count_left-eq0-clause-ok : goal.returns-then-count_left-eq0-clause-ok
returns-then-count_left-eq0-clause-ok g c =
    let left = all_left g.S.Source.values_left g.S.Source.pairs_left c.in-Some.left in
    let there : pairs_in (g.S.Source.seen c.args.v) ≡ Some left = search rules in
    let zero : length left ≡ 0 = search rules in
    no_fields g.S.Source.seen (g.S.Source.seen c.args.v) left c.new.result there zero c.new.ensures.empty
