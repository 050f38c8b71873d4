use Rattle.std.proofs.Common.{refl}
use Rattle.redis_wire.proofs.ItemLemmas.{end_le}
use Rattle.redis_wire.proofs.ScanLemmas.{pauses}
use Rattle.redis_wire.proofs.scanning.pause_scan.Goals as goal

pub overflow_sub-at : goal.overflow_sub-at
overflow_sub-at c = end_le c.args.left.now c.args.bytes.now c.requires.walked.end

pub returns : goal.returns
returns c =
    pauses c.args.limits _ c.args.bytes.now c.args.left.now c.find_wanted_len.result c.requires.walked c.requires.few
    c.requires.deep c.requires.some c.requires.short c.find_wanted_len.ensures.few refl refl refl
