use Rattle.std.proofs.Common.{◌≡◌, drop}
use Rattle.stream_top.specs.Options.{is_word}
use Rattle.stream_top.proofs.said.is_word.Given as goal

-- one of the words that are left is the key exactly if one of all is
abbrev pub invariant-loop-word : goal.invariant-loop-word
invariant-loop-word l = is_word (drop l.word-index l.words) l.key ≡ is_word l.words l.key
