use Rattle.std.proofs.Common.{rules}
use Rattle.std.proofs.lemmas.Option.{slice_get-map}
use Rattle.std.proofs.lemmas.List.{length-map}
use Rattle.command_lines.proofs.words.last_of.Goals as goal

pub returns-in-Some : goal.returns-in-Some
returns-in-Some c = rw (length-map c.args.values.now (λ v. v.now), slice_get-map (λ v. v.now) c.args.values.now) search rules
