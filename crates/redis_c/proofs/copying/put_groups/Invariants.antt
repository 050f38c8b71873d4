use Rattle.std.proofs.Common.{◌≡◌, ◌++◌, flat_map, map, take}
use Rattle.redis_streams.specs.InfoMeaning.{group_meaning}
use Rattle.redis_c.specs.Records.{AreAt, IsGroupAt, group_text}
use Rattle.redis_c.proofs.copying.put_groups.Given as goal

-- the texts so far are appended to the others, and the records so far describe them
abbrev pub invariant-loop-group : goal.invariant-loop-group
invariant-loop-group l =
    let front = map group_meaning (take l.group-index l.groups) in
    (l.texts.items ≡ l.fn.texts.items ++ flat_map group_text front) × AreAt (IsGroupAt l.texts.items) l.records.items front
