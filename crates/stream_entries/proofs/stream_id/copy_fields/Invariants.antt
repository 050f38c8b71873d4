use Rattle.stream_entries.proofs.FieldsLemmas.{Copied}
use Rattle.redis_resp.specs.FieldsMeaning.{fields_of}
use Rattle.stream_entries.proofs.stream_id.copy_fields.Given as goal

abbrev pub invariant-loop-name : goal.invariant-loop-name
invariant-loop-name l = Copied l.fields.entries l.name-iterator (fields_of l.copies)
