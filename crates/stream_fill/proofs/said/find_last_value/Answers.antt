use Rattle.std.proofs.Common.{rules}
use Rattle.std.proofs.lemmas.Option.{slice_get-map}
use Rattle.std.proofs.lemmas.List.{length-map}
use Rattle.stream_fill.proofs.said.find_last_value.Goals as goal

pub returns : goal.returns
returns c = rw (length-map c.args.values.now (λ v. v.now), slice_get-map (λ v. v.now) c.args.values.now) search rules
