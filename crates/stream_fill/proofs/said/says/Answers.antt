use Rattle.std.proofs.Common.{IsTrue, rules}
use Rattle.stream_fill.proofs.said.says.Goals as goal

pub returns : goal.returns
returns c = λ is.
    let batch : IsTrue c.in_ok-batch.batch = search rules in
    let base : IsTrue c.in_ok-base.base = search rules in
    record {
      names = search rules;
      batch = c.in_ok-batch.ensures batch c.args.options.now.settings.batch c.requires.settings.batch;
      base = c.in_ok-base.ensures base c.args.options.now.settings.base c.requires.settings.base;
      untrimmed = c.requires.settings.untrimmed;
      trim = search rules;
      form = search rules;
      is_onto = search rules;
      wait = search rules;
    }
