use Rattle.std.proofs.Common.{refl}
use Rattle.redis_wire.proofs.ScanLemmas.{new_is_scan}
use Rattle.redis_wire.proofs.stream.forget.Goals as goal

pub returns : goal.returns
returns c = λ bytes limits. new_is_scan limits _ bytes refl refl refl refl
