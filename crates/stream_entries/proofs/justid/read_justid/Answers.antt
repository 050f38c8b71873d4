use Rattle.std.proofs.Common.{rules}
use Rattle.redis_resp.specs.Refusal.{Refuses}
use Rattle.stream_entries.specs.JustId.{justid_reading, RefusesJustId}
use Rattle.stream_entries.proofs.JustIdLemmas.{claimed_part}
use Rattle.stream_entries.proofs.justid.read_justid.Goals as goal

pub returns-in_err-claimed-clause-err : goal.returns-in_err-claimed-clause-err
returns-in_err-claimed-clause-err g c =
    let told : Refuses justid_reading RefusesJustId (g.S.Source.seen c.args.v) c.in_err-claimed.field-0.0 =
    claimed_part _ _ c.in_ok-next.ensures.ok _ c.in_err-claimed.ensures.err in
    search rules
