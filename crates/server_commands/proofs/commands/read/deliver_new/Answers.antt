use Rattle.std.proofs.Common.{◌≡◌, ◌∙◌, drop, ap, arith, rules}
use Rattle.std.proofs.lemmas.List.{length-drop, take_all}
use Rattle.std.specs.VecDeque.Iter.{deque_iter_rest}
use Rattle.server_commands.proofs.DeliveringLemmas.{all_delivered, delivered_more, none_left, none_there}
use Rattle.server_commands.proofs.commands.read.deliver_new.Goals as goal

pub loop-entry-preserved : goal.loop-entry-preserved
loop-entry-preserved c = λ new so.
    c.loop-entry.invariant new
    (delivered_more c.in_ok-number.number c.args.reader.now c.args.reader.noack c.in-Some.entry.now c.loop-entry.group
    c.deliver.new.group new c.in_ok-deliver.ensures c.loop-entry.left _ _ c.if-left-eq0.false c.in-Some.ensures.steps so)

pub returns-in-None : goal.returns-in-None
returns-in-None c =
    let same : c.into_iter-entry-iterator.result ≡ c.range-entry-items.result = search rules in
    let all : deque_iter_rest c.into_iter-entry-iterator.result ≡ drop c.find_start_behind-start.result c.args.stream.now.entries.items =
    ap deque_iter_rest same
    ∙ c.range-entry-items.ensures.rest
    ∙ take_all _ _ (omega (arith, length-drop c.find_start_behind-start.result c.args.stream.now.entries.items, c.args.stream.now.entries.ok.0)) in
    all_delivered c.in_ok-number.number c.args.reader.now c.args.reader.noack c.args.reader.consumer.now
    c.args.reader.most c.loop-entry.left c.find_start_behind-start.result c.args.stream.now.entries.items _
    (deque_iter_rest c.loop-entry.entry-iterator) c.args.group.now c.see.new.self c.loop-entry.group
    c.in_ok-number.ensures.ok c.in_ok-number.ensures.others all c.find_start_behind-start.ensures.behind c.loop-entry.invariant
    (none_there c.loop-entry.left _ c.in-None.ensures.steps.0)

pub returns-then-left-eq0 : goal.returns-then-left-eq0
returns-then-left-eq0 c =
    let same : c.into_iter-entry-iterator.result ≡ c.range-entry-items.result = search rules in
    let all : deque_iter_rest c.into_iter-entry-iterator.result ≡ drop c.find_start_behind-start.result c.args.stream.now.entries.items =
    ap deque_iter_rest same
    ∙ c.range-entry-items.ensures.rest
    ∙ take_all _ _ (omega (arith, length-drop c.find_start_behind-start.result c.args.stream.now.entries.items, c.args.stream.now.entries.ok.0)) in
    all_delivered c.in_ok-number.number c.args.reader.now c.args.reader.noack c.args.reader.consumer.now
    c.args.reader.most c.loop-entry.left c.find_start_behind-start.result c.args.stream.now.entries.items _
    (deque_iter_rest c.loop-entry.entry-iterator) c.args.group.now c.see.new.self c.loop-entry.group
    c.in_ok-number.ensures.ok c.in_ok-number.ensures.others all c.find_start_behind-start.ensures.behind c.loop-entry.invariant
    (none_left c.loop-entry.left _ c.if-left-eq0.true)
