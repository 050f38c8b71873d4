-- Commands that were prepared while a batch is on its way.
use Rattle.std.specs.Prelude.{[], List, Option}
use Rattle.model_server.specs.Once.Feed.{knows}
use Rattle.worker_producer.specs.Machine.{Asks, stage_of}
use Rattle.worker_producer.specs.Records.{Fields}
use Rattle.worker_producer.specs.declared.ahead.Prepared.{Prepared}
use Rattle.worker_producer.specs.declared.settings.Settings.{Settings}

-- they are the request of a producer that knows that this number of records are added
abbrev pub IsPrepared : Settings → Option (List Fields) → Prepared → Type 0
IsPrepared s all p = Asks s all [] p.bytes.items (record { stage = knows p.known; coming = 0 })
    (record { stage = stage_of p.stage; coming = p.coming }) p.asked
