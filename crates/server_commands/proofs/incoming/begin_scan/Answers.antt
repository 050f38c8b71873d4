use Rattle.std.proofs.Common.{◌≡◌, ◌≤◌, length, slice_index, refl, rules, arith}
use Rattle.server_commands.proofs.ScanLemmas.{begun_so, none_so}
use Rattle.server_commands.proofs.incoming.begin_scan.Goals as goal

pub returns-in-Ok : goal.returns-in-Ok
returns-in-Ok c =
    let some : 1 ≤ length c.args.bytes.now = omega arith in
    let first : slice_index c.args.bytes.now 0 ≡ 42 = search (rules, arith) in
    begun_so _ c.args.bytes.now c.in-Ok.count c.in-Ok.rest.now some first c.in-Ok.ensures.gives refl refl

pub returns-in-Err : goal.returns-in-Err
returns-in-Err c = none_so _ _ refl refl

pub returns-in_default : goal.returns-in_default
returns-in_default c = none_so _ _ refl refl

pub returns-in_default-2 : goal.returns-in_default-2
returns-in_default-2 c = none_so _ _ refl refl
