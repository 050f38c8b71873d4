use Rattle.std.proofs.Common.{◌≡◌, map, take}
use Rattle.redis_streams.specs.InfoFullMeaning.{full_group_meaning}
use Rattle.stream_top.specs.Figures.{group_figures, group_meaning}
use Rattle.stream_top.proofs.figures.compute_groups.Given as goal

abbrev pub invariant-loop-group : goal.invariant-loop-group
invariant-loop-group l = map group_meaning l.list.items
    ≡ map (group_figures l.now) (map full_group_meaning (take l.group-index l.groups))
