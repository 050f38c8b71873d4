use Rattle.std.proofs.Common.{◌≡◌, ◌+◌, rules, sym, ◌∙◌, ap, Some, None, ◌==◌}
use Rattle.std.proofs.lemmas.List.{take_rest}
use Rattle.std.specs.List.{position}
use Rattle.std.specs.Option.{option_map}
use Rattle.redis_client.proofs.ClusterLemmas.SplitLemmas.{Around, of_position}
use Rattle.redis_client.proofs.cluster.bytes.split_first.Goals as goal

pub returns-in_err-place : goal.returns-in_err-place
returns-in_err-place c =
    let none : position (λ b. b == c.args.byte) c.args.bytes.now ≡ None = search rules in
    ap (option_map (λ x. (x.0.now, x.1.now))) c.from_residual.ensures
    ∙ sym (of_position c.args.byte c.args.bytes.now ∙ ap (option_map (Around c.args.byte c.args.bytes.now)) none)

pub returns : goal.returns
returns c =
    let some : position (λ b. b == c.args.byte) c.args.bytes.now ≡ Some c.in_ok-place.place = search rules in
    rw (take_rest c.args.bytes.now (c.in_ok-place.place + 1))
    (sym (of_position c.args.byte c.args.bytes.now ∙ ap (option_map (Around c.args.byte c.args.bytes.now)) some))
