use Rattle.std.proofs.Common.{rules, sym}
use Rattle.stream_fill.proofs.JsonLemmas.{no_pairs}
use Rattle.stream_fill.proofs.json_records.find_pairs.Goals as goal

pub returns-in_default : goal.returns-in_default
returns-in_default c = sym (search (rules, no_pairs c.args.members.now))
