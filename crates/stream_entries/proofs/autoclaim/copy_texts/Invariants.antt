use Rattle.std.proofs.Common.{◌≡◌, map, take, string_bytes}
use Rattle.stream_entries.specs.AutoClaimMeaning.{text_bytes_of}
use Rattle.stream_entries.proofs.autoclaim.copy_texts.Given as goal

abbrev pub invariant-loop-text : goal.invariant-loop-text
invariant-loop-text l = text_bytes_of l.copies ≡ map string_bytes (take l.text-index l.texts)
