use Rattle.std.proofs.Common.{refl, rules, take}
use Rattle.stream_serve.specs.Served.{beginning}
use Rattle.stream_serve.proofs.ServedLemmas.{ends_after, ends_there, gets_so, on_err, served_more, served_none, stage}
use Rattle.stream_serve.proofs.ServedLemmas.{stops_sending, stops_there, stops_unread, stops_unsent}
use Rattle.stream_serve.proofs.serve.Goals as goal

pub loop-turn-init : goal.loop-turn-init
loop-turn-init g c = record {
  none_left = search rules;
  is_open = search rules;
  served =
      rw (c.new-server.ensures, c.new-client.ensures)
      (served_none g.R.Read.remaining g.W.Write.contents g.W.Output.is_flushed c.args.input.now c.args.output.now);
}

pub returns-in_err-len-clause-err : goal.returns-in_err-len-clause-err
returns-in_err-len-clause-err g c =
    let old = beginning c.args.input.now c.args.output.now in
    on_err c.from_residual.result
    (stops_unread g.R.Read.remaining g.W.Write.contents g.W.Output.is_flushed old
    (stage c.loop-turn.input c.loop-turn.output c.loop-turn.server c.loop-turn.client)
    c.read.new.self c.loop-turn.invariant.served c.in_err-len.ensures.bytes)

pub returns-then-len-eq0-clause-ok : goal.returns-then-len-eq0-clause-ok
returns-then-len-eq0-clause-ok g c =
    let old = beginning c.args.input.now c.args.output.now in
    ends_there g.R.Read.remaining g.W.Write.contents g.W.Output.is_flushed old
    (stage c.loop-turn.input c.loop-turn.output c.loop-turn.server c.loop-turn.client)
    c.read.new.self c.in_ok-len.len c.read.new.buf c.loop-turn.invariant.served c.loop-turn.invariant.is_open
    (search rules) (search rules) c.in_ok-len.ensures.bytes.0 c.in_ok-len.ensures.bytes.1

pub returns-in_err-now-clause-err : goal.returns-in_err-now-clause-err
returns-in_err-now-clause-err g c =
    let old = beginning c.args.input.now c.args.output.now in
    on_err c.from_residual-in_err-now.result
    (stops_unsent g.R.Read.remaining g.W.Write.contents g.W.Output.is_flushed old
    (stage c.loop-turn.input c.loop-turn.output c.loop-turn.server c.loop-turn.client)
    c.read.new.self _ c.loop-turn.invariant.served c.in_ok-len.ensures.bytes.0)

pub returns-in_err-answer-clause-err : goal.returns-in_err-answer-clause-err
returns-in_err-answer-clause-err g c =
    let old = beginning c.args.input.now c.args.output.now in
    on_err c.from_residual-in_err-answer.result
    (stops_unsent g.R.Read.remaining g.W.Write.contents g.W.Output.is_flushed old
    (stage c.loop-turn.input c.loop-turn.output c.loop-turn.server c.loop-turn.client)
    c.read.new.self _ c.loop-turn.invariant.served c.in_ok-len.ensures.bytes.0)

pub returns-in_err-send-clause-err : goal.returns-in_err-send-clause-err
returns-in_err-send-clause-err g c =
    let old = beginning c.args.input.now c.args.output.now in
    let last = stage c.loop-turn.input c.loop-turn.output c.loop-turn.server c.loop-turn.client in
    on_err c.from_residual-in_err-send.result
    (stops_sending g.R.Read.remaining g.W.Write.contents g.W.Output.is_flushed old last c.read.new.self c.send.new.output
    (take c.in_ok-len.len c.read.new.buf) c.answer.new.answers.items c.answer.new.server c.answer.new.self
    c.loop-turn.invariant.served c.in_ok-len.ensures.bytes.0
    (gets_so last _ _ _ _ _ c.loop-turn.invariant.none_left c.in_ok-answer.ensures.ok) c.in_err-send.ensures.err)

pub returns-then-has_ended-clause-ok : goal.returns-then-has_ended-clause-ok
returns-then-has_ended-clause-ok g c =
    let old = beginning c.args.input.now c.args.output.now in
    let last = stage c.loop-turn.input c.loop-turn.output c.loop-turn.server c.loop-turn.client in
    let new = stage c.read.new.self c.send.new.output c.answer.new.server c.answer.new.self in
    ends_after g.R.Read.remaining g.W.Write.contents g.W.Output.is_flushed old new
    (served_more g.R.Read.remaining g.W.Write.contents g.W.Output.is_flushed old last new
    c.in_ok-len.len c.read.new.buf c.answer.new.answers.items refl c.loop-turn.invariant.served c.loop-turn.invariant.is_open
    (search rules) (search rules) c.in_ok-len.ensures.bytes.0
    (gets_so last _ _ _ _ _ c.loop-turn.invariant.none_left c.in_ok-answer.ensures.ok)
    c.in_ok-send.ensures.ok c.in_ok-send.ensures.flushed)
    (search rules)

pub returns-clause-err : goal.returns-clause-err
returns-clause-err g c =
    let old = beginning c.args.input.now c.args.output.now in
    stops_there g.R.Read.remaining g.W.Write.contents g.W.Output.is_flushed old
    (stage c.loop-turn.input c.loop-turn.output c.loop-turn.server c.loop-turn.client)
    c.loop-turn.invariant.served

pub loop-turn-preserved : goal.loop-turn-preserved
loop-turn-preserved g c =
    let old = beginning c.args.input.now c.args.output.now in
    let last = stage c.loop-turn.input c.loop-turn.output c.loop-turn.server c.loop-turn.client in
    let new = stage c.read.new.self c.send.new.output c.answer.new.server c.answer.new.self in
    record {
      none_left = c.in_ok-send.ensures.none_left;
      is_open = search rules;
      served =
          served_more g.R.Read.remaining g.W.Write.contents g.W.Output.is_flushed old last new
          c.in_ok-len.len c.read.new.buf c.answer.new.answers.items refl c.loop-turn.invariant.served c.loop-turn.invariant.is_open
          (search rules) (search rules) c.in_ok-len.ensures.bytes.0
          (gets_so last _ _ _ _ _ c.loop-turn.invariant.none_left c.in_ok-answer.ensures.ok)
          c.in_ok-send.ensures.ok c.in_ok-send.ensures.flushed;
    }
