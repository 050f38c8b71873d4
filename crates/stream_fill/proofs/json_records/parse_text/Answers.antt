use Rattle.std.proofs.Common.{rules}
use Rattle.stream_fill.proofs.JsonLemmas.{no_only_member}
use Rattle.stream_fill.proofs.json_records.parse_text.Goals as goal
use Rattle.stream_fill.proofs.json_records.parse_text.Goals.{in_default-as_slice-via-then-as_slice-lt1, in_default-as_slice-via-else-as_slice-lt1+else-this-lt2}

pub returns-in_default-as_slice-clause-err : goal.returns-in_default-as_slice-clause-err
returns-in_default-as_slice-clause-err c = search (
  rules,
  no_only_member c.args.value.now c.in-Object.members c.as_slice.result.now
      c.in-Object.is c.as_slice.ensures.value,
)
