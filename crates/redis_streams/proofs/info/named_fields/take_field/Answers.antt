use Rattle.redis_streams.proofs.InfoLemmas.{named_removed}
use Rattle.redis_streams.proofs.info.named_fields.take_field.Goals as goal

pub returns-clause-rest : goal.returns-clause-rest
returns-clause-rest g c =
    named_removed g.S.Source.seen c.args.fields.now c.remove.new.self c.args.name.now c.remove.ensures.updates
