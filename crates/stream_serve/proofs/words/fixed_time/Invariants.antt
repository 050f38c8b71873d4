use Rattle.std.proofs.Common.{map, string_bytes, take}
use Rattle.stream_serve.specs.Words.{FixesTime}
use Rattle.stream_serve.proofs.words.fixed_time.Given as goal

-- it is the time that the words so far fix
abbrev pub invariant-loop-word : goal.invariant-loop-word
invariant-loop-word l = FixesTime (map string_bytes (take l.word-index l.words)) l.fixed
