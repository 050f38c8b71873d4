use Rattle.std.proofs.Common.{◌≡◌, ◌++◌, [], ◌∷◌, arith}
use Rattle.std.proofs.lemmas.Grind.{common_steps}
use Rattle.redis_resp.specs.Source.{all_left}
use Rattle.redis_resp.proofs.ReadLemmas.{read_start, read_next}
use Rattle.redis_client.specs.Topology.Topology.{range_reading}
use Rattle.redis_client.proofs.topology.range.read_pairs.Goals as goal

pub loop-first-init : goal.loop-first-init
loop-first-init g c = read_start range_reading (all_left g.S.Source.values_left g.S.Source.pairs_left c.args.left) _
    c.in_ok-ranges.ensures.items

pub loop-first-preserved : goal.loop-first-preserved
loop-first-preserved g c =
    let range = c.in_ok-read_range.field-0 in
    let pushed : c.push.new.self.items ≡ c.loop-first.ranges.items ++ range ∷ [] = grind (arith, common_steps) in
    read_next range_reading (all_left g.S.Source.values_left g.S.Source.pairs_left c.args.left) _ _ (
      g.S.Source.seen c.in-Some.first,
      g.S.Source.seen c.in-Some.last,
    ) _ _ _ c.in-Some.ensures c.in_ok-read_range.ensures.ok pushed c.loop-first.invariant
