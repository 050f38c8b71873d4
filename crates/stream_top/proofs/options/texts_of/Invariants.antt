use Rattle.std.proofs.Common.{◌≡◌, map, string_bytes, take}
use Rattle.stream_top.specs.Options.{text_of}
use Rattle.stream_top.proofs.options.texts_of.Given as goal

-- a text for each word so far
abbrev pub invariant-loop-word : goal.invariant-loop-word
invariant-loop-word l = map string_bytes l.texts.items ≡ map text_of (take l.word-index l.words)
