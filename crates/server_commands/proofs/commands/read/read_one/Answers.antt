use Rattle.std.proofs.Common.{◌≡◌, sym}
use Rattle.server_commands.proofs.ReadOneLemmas.{nil_sent, own_put, read_none, read_put}
use Rattle.server_commands.proofs.StartLemmas.{behind_is}
use Rattle.server_commands.specs.declared.answer.Answer.TheVariants.{NilArray}
use Rattle.server_commands.proofs.commands.read.read_one.Goals as goal

pub returns-clause-news : goal.returns-clause-news
returns-clause-news c = λ news ack.
    read_put c.args.key.now c.args.reader.consumer.now c.args.reader.group.now c.args.reader.now c.args.reader.most c.args.streams.now
    c.in-Ok.index c.index-streams-index-3.result c.index-streams-index.result c.index-streams-index-2.result
    c.in-Ok-place_of_group.place c.index_mut-2.result.now c.index-2.result.now c.in-Ok.ensures.bound c.in-Ok.ensures.found
    c.in-Ok-place_of_group.ensures.bound c.in-Ok-place_of_group.ensures.found c.index-2.ensures
    c.put_read.new.group c.in-Some.read c.in_ok-read-2.field-0 c.index_mut-2.ensures.value c.in-Some.is
    (c.in_ok-read-2.ensures.news (c.in_ok-start.ensures.news news) ack) c.put_read.ensures

pub returns-in_default-2-clause-news : goal.returns-in_default-2-clause-news
returns-in_default-2-clause-news c = λ news ack.
    read_none c.args.key.now c.args.reader.consumer.now c.args.reader.group.now c.args.reader.now c.args.reader.most c.args.streams.now
    c.in-Ok.index c.index-streams-index-2.result c.index-streams-index.result c.index-streams-index-2.result
    c.in-Ok-place_of_group.place c.index-2.result.now c.index-2.result.now c.in-Ok.ensures.bound c.in-Ok.ensures.found
    c.in-Ok-place_of_group.ensures.bound c.in-Ok-place_of_group.ensures.found c.index-2.ensures
    NilArray c.in_ok-read-2.field-0 c.in_default-2.is (c.in_ok-read-2.ensures.news (c.in_ok-start.ensures.news news) ack) nil_sent

pub returns-in-Behind-clause-rows : goal.returns-in-Behind-clause-rows
returns-in-Behind-clause-rows c = rw c.deliver_again.ensures.answer c.in_ok-read.ensures.rows

pub returns-in-Behind-clause-own : goal.returns-in-Behind-clause-own
returns-in-Behind-clause-own c = λ id fit other word.
    let same : c.in-Behind.behind ≡ id =
    behind_is c.in_ok-start.start c.in-Behind.behind id c.in-Behind.is (c.in_ok-start.ensures.behind id fit other word) in
    rw (sym same)
    (own_put c.args.key.now c.args.reader.consumer.now c.args.reader.group.now c.args.reader.now c.args.reader.most c.args.streams.now
    c.in-Ok.index _ c.index-streams-index.result _ c.in-Ok-place_of_group.place c.index_mut.result.now c.index.result.now
    c.in-Ok.ensures.bound c.in-Ok.ensures.found c.in-Ok-place_of_group.ensures.bound c.in-Ok-place_of_group.ensures.found c.index.ensures
    c.in-Behind.behind c.deliver_again.result c.deliver_again.new.group c.in_ok-read.read c.index_mut.ensures.value
    c.in_ok-read.ensures.ready c.deliver_again.ensures.answer c.deliver_again.ensures.delivered)
