use Rattle.std.proofs.Common.{◌≡◌, ◌++◌, [], ◌∷◌, map, rules, arith, ap}
use Rattle.std.proofs.lemmas.Grind.{common_steps}
use Rattle.redis_resp.specs.Reading.{traverse, two_of}
use Rattle.redis_resp.specs.Refusal.{Refuses, OneRefused}
use Rattle.redis_resp.specs.Source.{all_left}
use Rattle.redis_resp.proofs.ReadLemmas.{read_start, read_next, read_refused, also_memory}
use Rattle.stream_in_place.specs.SentMeaning.{octet_pair}
use Rattle.stream_in_place.specs.SentReading.{octets_reading}
use Rattle.stream_in_place.specs.SentRefusal.{RefusesOctetPair}
use Rattle.stream_in_place.proofs.sent.read_octets.Goals as goal

pub loop-name-init : goal.loop-name-init
loop-name-init g c = read_start (two_of octets_reading octets_reading)
    (all_left g.S.Source.values_left g.S.Source.pairs_left c.args.entries) _
    (ap (map octet_pair) c.in_ok-pairs.ensures.items)

pub returns-in_err-read_octet_pair-clause-err : goal.returns-in_err-read_octet_pair-clause-err
returns-in_err-read_octet_pair-clause-err g c =
    let f = two_of octets_reading octets_reading in
    let all = all_left g.S.Source.values_left g.S.Source.pairs_left c.args.entries in
    let stop : Refuses (traverse f) (OneRefused RefusesOctetPair) all c.in_err-read_octet_pair.field-0.0 =
    read_refused f all RefusesOctetPair _ _ _ (
      g.S.Source.seen c.in-Some.name,
      g.S.Source.seen c.in-Some.value,
    ) _ c.in-Some.ensures
    (also_memory f RefusesOctetPair (
      g.S.Source.seen c.in-Some.name,
      g.S.Source.seen c.in-Some.value,
    ) c.in_err-read_octet_pair.field-0.0 c.in_err-read_octet_pair.ensures.err)
    c.loop-name.invariant in
    search rules

pub loop-name-preserved : goal.loop-name-preserved
loop-name-preserved g c =
    let pair = c.in_ok-read_octet_pair.field-0 in
    let pushed : map octet_pair c.push.new.self.items ≡ map octet_pair c.loop-name.pairs.items
    ++ octet_pair pair ∷ [] = grind (arith, common_steps) in
    read_next (two_of octets_reading octets_reading)
    (all_left g.S.Source.values_left g.S.Source.pairs_left c.args.entries) _ _ (
      g.S.Source.seen c.in-Some.name,
      g.S.Source.seen c.in-Some.value,
    ) _ _ _ c.in-Some.ensures c.in_ok-read_octet_pair.ensures.ok pushed
    c.loop-name.invariant
