use Rattle.std.proofs.Common.{◌≡◌, take}
use Rattle.worker_journal.specs.LineTexts.{all_more, no_texts, texts_now}
use Rattle.worker_journal.proofs.entry_line.split_line.Given as goal

-- the texts of the bytes so far
abbrev pub invariant-loop-byte : goal.invariant-loop-byte
invariant-loop-byte l = texts_now l.texts l.text l.escapes ≡ all_more no_texts (take l.byte-index l.line)
