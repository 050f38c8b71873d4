use Rattle.std.proofs.Common.{◌≡◌, ◌<◌, ◌∷◌, ◌-◌, rules, arith, length, take, drop, slice_index}
use Rattle.redis_wire.proofs.LineLemmas.{first_and_rest}
use Rattle.redis_wire.proofs.LevelLemmas.{bulk_is}
use Rattle.redis_wire.proofs.value.read_bulk_text.Goals as goal

pub returns-in-Ok : goal.returns-in-Ok
returns-in-Ok c =
    let bytes = c.args.bytes.now in
    let some : 0 < c.args.depth = omega arith in
    let dollar : slice_index bytes 0 ≡ 36 = search rules in
    let split : bytes ≡ 36 ∷ take (length bytes - 1) (drop 1 bytes) =
    rw dollar at (first_and_rest bytes c.in-36.len_at_least) in
    bulk_is c.args.limits c.args.depth bytes
    (take (length bytes - 1)
    (drop 1 bytes)) c.in_ok-len-in-36.rest.now _ _ c.in_ok-len-in-36.len some split c.in_ok-len-in-36.ensures
    c.in-Ok.ensures.gives
