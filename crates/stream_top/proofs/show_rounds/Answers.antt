use Rattle.std.proofs.Common.{◌≡◌, ◌+◌, refl, rules}
use Rattle.stream_top.specs.Options.{key_bytes}
use Rattle.stream_top.proofs.AskedLemmas.{last_table, one_more_wait}
use Rattle.stream_top.proofs.show_rounds.Goals as goal

pub loop-round-init : goal.loop-round-init
loop-round-init g c = refl

pub loop-round-preserved : goal.loop-round-preserved
loop-round-preserved g c = one_more_wait (key_bytes c.args.key.now) c.loop-round._round c.args.connection.now
    c.loop-round.connection c.show_table.new.connection c.wait.new.connection c.loop-round.invariant
    c.in_ok-last_id.ensures c.in_ok-wait.ensures

pub returns : goal.returns
returns g c =
    let all : c.args.rounds ≡ c.loop-round._round + 1 = search rules in
    last_table (key_bytes c.args.key.now) c.loop-round._round c.args.rounds c.args.connection.now c.loop-round.connection
    c.show_table-2.new.connection all c.loop-round.invariant c.in_ok-show_table.ensures
