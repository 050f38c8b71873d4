use Rattle.std.proofs.Common.{rules, ◌≡◌, sym, subst}
use Rattle.redis_wire.specs.declared.scanning.Scan.{Scan}
use Rattle.redis_wire.specs.Scan.{IsScan}
use Rattle.redis_wire.proofs.stream.take_scan.Goals as goal

pub returns-clause-left : goal.returns-clause-left
returns-clause-left c = λ bytes limits.
    let same : c.replace.new.dest ≡ c.new_scan.result = search rules in
    subst (λ (s : Scan). IsScan limits s bytes) (sym same) (c.new_scan.ensures bytes limits)
