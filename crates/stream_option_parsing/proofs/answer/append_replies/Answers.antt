use Rattle.std.proofs.Common.{rules, ◌≡◌, length, arith}
use Rattle.stream_option_parsing.specs.AnswerMeaning.{reply_of}
use Rattle.stream_option_parsing.proofs.AnswerLemmas.{answers_more, answers_all, word_next, word_fits, words_fit}
use Rattle.stream_option_parsing.proofs.answer.append_replies.Goals as goal

pub lines-preserved : goal.lines-preserved
lines-preserved c = record {
  answered =
      answers_more c.args.input.now c.args.output.now.items c.lines.output.items c.push_reply.new.output.items c.lines.rest.now
      c.cut_line.result.0.now c.cut_line.result.1.now
      (reply_of c.in_ok-reply.reply)
      c.lines.invariant.answered c.cut_line.ensures.lines c.in_ok-reply.ensures.ok c.in_ok-push_reply.ensures.ok;
  within = search rules;
  room = λ n.
      words_fit c.lines.rest.now c.cut_line.result.0.now c.cut_line.result.1.now c.lines.output c.push_reply.new.output
      (reply_of c.in_ok-reply.reply) c.cut_line.ensures.lines c.in_ok-reply.ensures.ok c.in_ok-push_reply.ensures.len
      c.push_reply.ensures.capacity (c.lines.invariant.room n);
}

pub returns-clause-ok : goal.returns-clause-ok
returns-clause-ok c =
    let none : length c.lines.rest.now ≡ 0 = search rules in
    answers_all c.args.input.now c.args.output.now.items c.lines.output.items c.lines.rest.now c.lines.invariant.answered none

pub returns-in_err-reply-clause-succeeds : goal.returns-in_err-reply-clause-succeeds
returns-in_err-reply-clause-succeeds c = λ n.
    let no = c.in_err-reply.ensures.succeeds
    (word_next c.lines.rest.now c.cut_line.result.0.now c.cut_line.result.1.now c.lines.output c.cut_line.ensures.lines
    (c.lines.invariant.room n)) in
    absurd cc

pub returns-in_err-push_reply-clause-succeeds : goal.returns-in_err-push_reply-clause-succeeds
returns-in_err-push_reply-clause-succeeds c = λ n.
    let fits = word_fits c.lines.rest.now c.cut_line.result.0.now c.cut_line.result.1.now c.lines.output
    (reply_of c.in_ok-reply.reply) c.cut_line.ensures.lines c.in_ok-reply.ensures.ok (c.lines.invariant.room n) in
    absurd (omega (arith, fits, c.in_err-push_reply.ensures.full))
