use Rattle.std.proofs.Common.{◌≡◌, map, take, None}
use Rattle.stream_in_place.specs.SentMeaning.{sent_of}
use Rattle.worker.specs.Answers.{first_nil}
use Rattle.worker.proofs.reading.find_nil_id.Given as goal

-- all so far have fields
abbrev pub invariant-loop-entry : goal.invariant-loop-entry
invariant-loop-entry l = first_nil (map sent_of (take l.entry-index l.entries)) ≡ None
