use Rattle.std.proofs.Common.{length, map}
use Rattle.redis_resp.specs.Reading.{two_of}
use Rattle.redis_resp.specs.Source.{all_left}
use Rattle.redis_resp.proofs.ReadLemmas.{ReadSoFar}
use Rattle.stream_in_place.specs.SentMeaning.{octet_pair}
use Rattle.stream_in_place.specs.SentReading.{octets_reading}
use Rattle.stream_in_place.proofs.sent.read_octets.Given as goal

abbrev pub invariant-loop-name : goal.invariant-loop-name
invariant-loop-name g l = ReadSoFar (two_of octets_reading octets_reading)
    (all_left g.S.Source.values_left g.S.Source.pairs_left l.initial.entries)
    (all_left g.S.Source.values_left g.S.Source.pairs_left l.entries)
    (map octet_pair l.pairs.items)

abbrev pub decreases-loop-name : goal.decreases-loop-name
decreases-loop-name g l = length (all_left g.S.Source.values_left g.S.Source.pairs_left l.entries)
