use Rattle.std.proofs.Common.{◌≡◌, ◌++◌, flat_map, map, take}
use Rattle.redis_streams.specs.PendingMeaning.{pending_id_meaning}
use Rattle.redis_c.specs.Records.{AreAt, IsPendingAt, pending_text}
use Rattle.redis_c.proofs.copying.put_entries.Given as goal

-- the texts so far are appended to the others, and the records so far describe them
abbrev pub invariant-loop-entry : goal.invariant-loop-entry
invariant-loop-entry l =
    let front = map pending_id_meaning (take l.entry-index l.entries) in
    (l.texts.items ≡ l.fn.texts.items ++ flat_map pending_text front) × AreAt (IsPendingAt l.texts.items) l.records.items front
