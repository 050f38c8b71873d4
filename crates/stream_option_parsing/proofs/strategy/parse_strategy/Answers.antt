use Rattle.std.proofs.Common.{rules, ◌≡◌, codes, Some, None}
use Rattle.stream_options.specs.ReadBack.{number_clause}
use Rattle.stream_options.specs.View.{strategy_of}
use Rattle.stream_option_parsing.specs.Split.{arguments}
use Rattle.stream_option_parsing.proofs.StrategyLemmas.{strategy_unlimited}
use Rattle.stream_option_parsing.proofs.strategy.parse_strategy.Goals as goal

pub returns-in-None-clause-strategy : goal.returns-in-None-clause-strategy
returns-in-None-clause-strategy c =
    let f : number_clause (codes "LIMIT") (arguments c.in_ok-strategy.rest.now)
    ≡ Some (None, arguments c.in-Some.rest.now) = search rules in
    strategy_unlimited (arguments c.args.args.now) (arguments c.in_ok-strategy.rest.now) (arguments c.in-Some.rest.now)
    (strategy_of c.in_ok-strategy.strategy) c.in_ok-strategy.ensures.bound f
