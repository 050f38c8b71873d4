use Rattle.std.proofs.Common.{◌≡◌, map, take}
use Rattle.stream_entries.specs.ReadMeaning.{stream_key_meaning, streams_of}
use Rattle.stream_entries.proofs.read.StreamReadReply.try_clone.Given as goal

abbrev pub invariant-loop-key : goal.invariant-loop-key
invariant-loop-key l = streams_of l.keys ≡ map stream_key_meaning (take l.key-index l.key-items)
