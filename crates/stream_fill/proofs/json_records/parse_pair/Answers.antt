use Rattle.std.proofs.Common.{arith}
use Rattle.stream_fill.proofs.JsonLemmas.{no_two_items}
use Rattle.stream_fill.proofs.json_records.parse_pair.Goals as goal
use Rattle.stream_fill.proofs.json_records.parse_pair.Goals.{in_default-as_slice-via-then-as_slice-lt2, in_default-as_slice-via-else-as_slice-lt2+else-this-lt3}

pub returns-in_default-as_slice-clause-err : goal.returns-in_default-as_slice-clause-err
returns-in_default-as_slice-clause-err c = no_two_items c.args.pair.now c.in-Array.texts c.as_slice.result.now
    c.in-Array.is c.as_slice.ensures.value (elim c.in_default-as_slice.branch [
      | in_default-as_slice-via-then-as_slice-lt2 w ↦ grind arith
      | in_default-as_slice-via-else-as_slice-lt2+else-this-lt3 w ↦ (λ e. grind (arith, e))
    ])
