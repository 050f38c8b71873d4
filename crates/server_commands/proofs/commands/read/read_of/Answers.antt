use Rattle.std.proofs.Common.{refl}
use Rattle.server_commands.proofs.ReadOneLemmas.{found_ready}
use Rattle.server_commands.proofs.commands.read.read_of.Goals as goal

pub returns-clause-news : goal.returns-clause-news
returns-clause-news c = λ news ack.
    found_ready c.args.key.now c.args.reader.consumer.now c.args.reader.now c.args.reader.most c.len.result c.args.reader.noack
    c.in_ok-entries.field-0 c.args.stream.now.entries.items c.args.group.now c.in_ok-part.part c.read_as.new.part c.in-Some.entries
    (record { answer = c.in_ok-answer.answer; part = c.read_as.new.part; room = c.in_ok-room.room })
    c.in_ok-part.ensures.last_id c.in_ok-part.ensures.entries_read c.in_ok-part.ensures.pending ack c.in-Some.is
    (c.in_ok-entries.ensures news) refl c.in_ok-room.ensures.named c.in_ok-room.ensures.enough c.len.ensures c.in_ok-room.ensures.places
    c.in_ok-answer.ensures.sent
