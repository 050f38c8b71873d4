use Rattle.std.proofs.Common.{ℕ, string_bytes, ap, ◌∙◌}
use Rattle.redis_streams.specs.Info.{Consumer}
use Rattle.redis_streams.specs.Pending.{number_in}
use Rattle.redis_streams.proofs.PendingLemmas.{number_parsed}
use Rattle.redis_streams.proofs.pending.summary.make_consumer.Goals as goal

pub returns : goal.returns
returns c =
    let with_pending : ℕ → Consumer = λ n. record { name = string_bytes c.args.name; pending = n; idle = 0 } in
    ap with_pending (c.unwrap_or.ensures ∙ number_parsed c.as_str.result.now c.parse.result c.parse.ensures.value.0
    ∙ ap number_in c.as_str.ensures.value)
