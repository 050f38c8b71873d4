use Rattle.std.proofs.Common.{◌≡◌, ◌++◌, map}
use Rattle.stream_entries.specs.ReadMeaning.{stream_key_meaning}
use Rattle.stream_in_place.specs.Copied.{copied_stream}
use Rattle.stream_in_place.specs.Sent.{AreNamed}
use Rattle.stream_in_place.proofs.NamedLemmas.{AllIfLeft}
use Rattle.stream_in_place.proofs.stream_list.StreamsRef.to_owned.Given as goal

abbrev pub invariant-loop-stream : goal.invariant-loop-stream
invariant-loop-stream l = record {
  copies : map stream_key_meaning l.copies.items ++ map copied_stream l.stream-iterator
      ≡ map copied_stream l.fn.self;
  named : AllIfLeft (λ s. AreNamed s.entries) l.stream-iterator l.fn.self;
}
