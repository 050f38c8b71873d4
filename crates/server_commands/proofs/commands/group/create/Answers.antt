use Rattle.std.proofs.Common.{◌≡◌, ap, refl, rules, ◌∙◌}
use Rattle.std.specs.Global.{Vec}
use Rattle.std.specs.Prelude.{ℕ}
use Rattle.server_commands.proofs.commands.group.create.Goals as goal

pub returns-clause-ok : goal.returns-clause-ok
returns-clause-ok c =
    let copied : c.in_ok-name.name.items ≡ c.args.name.now = search rules in
    record {
      start = c.in_ok-start.start;
      worded = c.in_ok-start.ensures;
      made = record {
        index = c.in-Err.place;
        is = c.new-group.result;
        within = c.in-Err.ensures.bound;
        named = ap (λ (name : Vec ℕ). name.items) c.new-group.ensures.name ∙ copied;
        begins = c.new-group.ensures.last_id ∙ c.find_id-last_id.ensures;
        counts = c.new-group.ensures.entries_read;
        no_pending = c.new-group.ensures.pending;
        no_consumers = c.new-group.ensures.consumers;
        groups = c.in_ok-insert.ensures.items;
        others = refl;
      };
    }
