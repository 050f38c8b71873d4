use Rattle.std.proofs.Common.{◌≡◌, IfErr, IfOk, Option, Some, subst}
use Rattle.stream_fill.specs.JsonRecord.{IsNoText}
use Rattle.worker_producer.specs.Records.{Fields, fields_of}
use Rattle.stream_fill.proofs.JsonLemmas.{fields_of_members_of}
use Rattle.stream_fill.proofs.json_records.parse_value.Goals as goal

pub returns-in-Object-clause-ok : goal.returns-in-Object-clause-ok
returns-in-Object-clause-ok c =
    subst (λ (o : Option Fields). IfOk c.parse_object.result (λ r. o ≡ Some (fields_of r)))
    (fields_of_members_of c.args.value.now c.in-Object.members c.deref.result.now c.in-Object.is c.deref.ensures.value)
    c.parse_object.ensures.ok

pub returns-in-Object-clause-err : goal.returns-in-Object-clause-err
returns-in-Object-clause-err c =
    subst (λ (o : Option Fields). IfErr c.parse_object.result (IsNoText o))
    (fields_of_members_of c.args.value.now c.in-Object.members c.deref.result.now c.in-Object.is c.deref.ensures.value)
    c.parse_object.ensures.err
