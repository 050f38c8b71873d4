use Rattle.std.proofs.Common.{drop, map}
use Rattle.std.specs.List.{AllZip}
use Rattle.stream_top.specs.Options.{IsKey}
use Rattle.stream_top.proofs.said.are_keys.Given as goal

-- if the names that are left are the keys that are left, all are
abbrev pub invariant-loop-name : goal.invariant-loop-name
invariant-loop-name l = AllZip (IsKey l.words) (map (λ name. name.now) (drop l.name-index l.names)) l.left
    → AllZip (IsKey l.words) (map (λ name. name.now) l.names) l.keys
