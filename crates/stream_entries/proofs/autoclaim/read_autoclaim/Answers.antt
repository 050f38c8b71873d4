use Rattle.std.proofs.Common.{rules}
use Rattle.redis_resp.specs.Refusal.{Refuses}
use Rattle.stream_entries.specs.AutoClaim.{autoclaim_reading}
use Rattle.stream_entries.specs.Refusal.{RefusesAutoClaim}
use Rattle.stream_entries.proofs.AutoClaimLemmas.{claimed_part}
use Rattle.stream_entries.proofs.autoclaim.read_autoclaim.Goals as goal

pub returns-in_err-claimed-clause-err : goal.returns-in_err-claimed-clause-err
returns-in_err-claimed-clause-err g c =
    let told : Refuses autoclaim_reading RefusesAutoClaim (g.S.Source.seen c.args.v) c.in_err-claimed.field-0.0 =
    claimed_part _ _ c.in_ok-next.ensures.ok _ c.in_err-claimed.ensures.err in
    search rules
