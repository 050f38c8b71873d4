use Rattle.std.proofs.Common.{◌≡◌, ◌≤◌, ◌-◌, length, take, true}
use Rattle.std.specs.List.{list_all}
use Rattle.stream_drain.specs.Resumed.{is_of_id}
use Rattle.stream_drain.proofs.resume.count_id_bytes.Given as goal

abbrev pub invariant-loop-len : goal.invariant-loop-len
invariant-loop-len l = record {
  within : l.len ≤ length l.text;
  all : list_all is_of_id (take l.len l.text) ≡ true;
}

abbrev pub decreases-loop-len : goal.decreases-loop-len
decreases-loop-len l = length l.text - l.len
