use Rattle.std.proofs.Common.{List, Option, subst, ℕ, ◌≡◌}
use Rattle.redis_connection.specs.Link.{Sends}
use Rattle.redis_resp.specs.Value.{tree}
use Rattle.redis_resp.specs.declared.value.Value.{Value}
use Rattle.redis_wire.specs.Packed.{command_bytes}
use Rattle.redis_wire.specs.Reply.{value}
use Rattle.stream_top.specs.Asked.{IsOfKey}
use Rattle.stream_top.proofs.ask.Goals as goal

pub returns-in_default-clause-asked : goal.returns-in_default-clause-asked
returns-in_default-clause-asked g c = record {
  first = c.send.new.self;
  second = c.send-2.new.self;
  third = c.receive_as.new.connection;
  time = c.in_ok-send.ensures.ok;
  info = subst (λ (words : List (List ℕ)). Sends c.send.new.self c.send-2.new.self (command_bytes words))
      c.xinfo_stream_full_count.ensures c.in_ok-send-2.ensures.ok;
  time_heard = c.in_ok-seconds.ensures.hears;
  info_heard = c.in_ok-reply.ensures.hears;
}

pub returns-clause-asked : goal.returns-clause-asked
returns-clause-asked g c = record {
  first = c.send.new.self;
  second = c.send-2.new.self;
  third = c.receive_as.new.connection;
  time = c.in_ok-send.ensures.ok;
  info = subst (λ (words : List (List ℕ)). Sends c.send.new.self c.send-2.new.self (command_bytes words))
      c.xinfo_stream_full_count.ensures c.in_ok-send-2.ensures.ok;
  time_heard = c.in_ok-seconds.ensures.hears;
  info_heard = c.in_ok-reply.ensures.hears;
}

pub returns-in_default-clause-heard : goal.returns-in_default-clause-heard
returns-in_default-clause-heard g c = record {
  first = c.send.new.self;
  second = c.send-2.new.self;
  third = c.receive_as.new.connection;
  time = c.in_ok-send.ensures.ok;
  info = subst (λ (words : List (List ℕ)). Sends c.send.new.self c.send-2.new.self (command_bytes words))
      c.xinfo_stream_full_count.ensures c.in_ok-send-2.ensures.ok;
  clock =
      let read = c.in_ok-seconds.ensures.reads in
      record {
        sent = read.0;
        seconds = c.in_ok-seconds.seconds;
        micros = c.in_ok-seconds.micros;
        heard = read.1;
        reads = read.2;
        is_now = c.compute_milliseconds-now.ensures;
      };
  stream =
      let told = c.in_ok-reply.ensures.of_key in
      record {
        reply = told.reply;
        heard = told.heard;
        is = subst (λ (found : Option Value). IsOfKey told.reply found) c.in_default.is told.is;
      };
}

pub returns-clause-heard : goal.returns-clause-heard
returns-clause-heard g c = record {
  first = c.send.new.self;
  second = c.send-2.new.self;
  third = c.receive_as.new.connection;
  time = c.in_ok-send.ensures.ok;
  info = subst (λ (words : List (List ℕ)). Sends c.send.new.self c.send-2.new.self (command_bytes words))
      c.xinfo_stream_full_count.ensures c.in_ok-send-2.ensures.ok;
  clock =
      let read = c.in_ok-seconds.ensures.reads in
      record {
        sent = read.0;
        seconds = c.in_ok-seconds.seconds;
        micros = c.in_ok-seconds.micros;
        heard = read.1;
        reads = read.2;
        is_now = c.compute_milliseconds-now.ensures;
      };
  stream =
      let told = c.in_ok-reply.ensures.of_key in
      let is : told.reply ≡ value (tree c.in-Some.reply) =
      subst (λ (found : Option Value). IsOfKey told.reply found) c.in-Some.is told.is in
      record {
        reply = told.reply;
        heard = told.heard;
        is = (tree c.in-Some.reply, tree c.in_ok-copy_value.field-0, is, c.in_ok-copy_value.ensures, c.in_ok-stream.ensures.ok);
      };
}
