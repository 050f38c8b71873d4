use Rattle.std.proofs.Common.{◌≡◌, map, take}
use Rattle.stream_top.specs.Asked.{MeasuresEach, first_keys}
use Rattle.stream_top.specs.Measured.{each_once, key_of, name_of}
use Rattle.stream_top.specs.Options.{key_bytes}
use Rattle.stream_top.proofs.measure.Given as goal

-- each key so far is measured once
abbrev pub invariant-loop-key : goal.invariant-loop-key
invariant-loop-key g l = record {
  once : map key_of l.streams.items ≡ each_once (map name_of (take l.key-index l.keys));
  asked : MeasuresEach (map key_bytes (first_keys (take l.key-index l.keys))) l.fn.connection l.connection;
}
