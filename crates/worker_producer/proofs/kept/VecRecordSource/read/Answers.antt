use Rattle.worker_producer.specs.Records.{fields_of}
use Rattle.worker_producer.proofs.KeptLemmas.{map_part}
use Rattle.worker_producer.proofs.kept.VecRecordSource.read.Goals as goal

pub returns-in-Ok-clause-ok : goal.returns-in-Ok-clause-ok
returns-in-Ok-clause-ok c =
    let part = map_part fields_of c.args.behind c.args.most c.args.self.now.items in
    cc (c.in-Ok.ensures, c.slice_records.ensures, c.deref.ensures.value, part)
