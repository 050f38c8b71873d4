use Rattle.std.proofs.Common.{◌≡◌, IsTrue, List, ℕ, [], codes, rules, subst, sym}
use Rattle.clap.specs.Words.{found_of}
use Rattle.command_lines.specs.WorkerSettings.{MakesGroup, word_in}
use Rattle.command_lines.specs.Words.{last_said, said, texts_of}
use Rattle.command_lines.proofs.said.says_settings.Goals as goal

pub returns : goal.returns
returns c = λ yes are.
    let count : IsTrue c.in_ok-of_count.of_count = search rules in
    let block : IsTrue c.in_ok-block.block = search rules in
    let idle : IsTrue c.in_ok-idle.idle = search rules in
    let every : IsTrue c.in_ok-every.every = search rules in
    let from : IsTrue c.in_ok-from.from = search rules in
    let settings = c.args.settings.now in
    let same : last_said [] (said (codes "--from") (texts_of c.args.line.now))
    ≡ word_in (found_of c.args.matches.now) (codes "from") = search rules in
    record {
      count = c.in_ok-of_count.ensures count settings.count are.at_once;
      block = c.in_ok-block.ensures block settings.block are.block;
      idle = c.in_ok-idle.ensures idle settings.min_idle are.idle;
      every = c.in_ok-every.ensures every settings.every are.every;
      make_group = subst (λ (word : List ℕ). MakesGroup word settings.make_group) (sym same) are.make_group;
    }
