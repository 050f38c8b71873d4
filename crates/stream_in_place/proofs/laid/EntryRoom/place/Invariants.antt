use Rattle.std.proofs.Common.{◌≡◌, drop, map}
use Rattle.stream_in_place.specs.SentMeaning.{octet_pair}
use Rattle.stream_in_place.proofs.LaidLemmas.{IsLaid}
use Rattle.stream_in_place.proofs.laid.EntryRoom.place.Given as goal

abbrev pub invariant-loop-name : goal.invariant-loop-name
invariant-loop-name l = record {
  bytes : l.self.bytes ≡ l.fn.self.bytes;
  laid : IsLaid l.fn.self.bytes.items (map octet_pair l.pairs) l.self.fields.items (drop l.name-index l.pairs) l.at;
}
