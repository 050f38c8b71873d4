use Rattle.std.proofs.Common.{◌≡◌, Some, length, map, ap, inr, refl, rules, arith}
use Rattle.server_commands.specs.Session.{SeenSession}
use Rattle.server_commands.specs.Steps.{IsStep}
use Rattle.server_commands.proofs.ServingLemmas.{on_err_any, some_words}
use Rattle.server_commands.proofs.client.answer_one.Goals as goal

pub returns-clause-ok : goal.returns-clause-ok
returns-clause-ok c =
    let some : length c.args.words.items ≡ 0 → ⊥ = search (rules, arith) in
    let step : IsStep (map (λ w. w.items) c.args.words.items) c.in_ok-reply.reply
    (record { streams = c.args.server.now; session = c.args.session.now })
    (record { streams = c.step.new.self; session = c.step.new.session }) = record {
      command = c.args.words;
      read = refl;
      refused = c.in_ok-reply.ensures.refused;
      queued = c.in_ok-reply.ensures.queued;
      xack = c.in_ok-reply.ensures.xack;
      xdel = c.in_ok-reply.ensures.xdel;
      xadd = c.in_ok-reply.ensures.xadd;
      xautoclaim = c.in_ok-reply.ensures.xautoclaim;
      xreadgroup = c.in_ok-reply.ensures.xreadgroup;
    } in (
      Some (c.session.inside.protocol, c.in_ok-reply.reply),
      some_words (λ w. w.items) c.args.words.items (c.session.inside.protocol, c.in_ok-reply.reply)
          (record { streams = c.args.server.now; session = c.args.session.now })
          (record { streams = c.step.new.self; session = c.step.new.session }) some step
          (ap (λ (s : SeenSession). s.protocol) c.session.view_is),
      c.in_ok-append_reply.ensures.ok,
    )

pub returns-in_err-append_reply-clause-stepped : goal.returns-in_err-append_reply-clause-stepped
returns-in_err-append_reply-clause-stepped c =
    let step : IsStep (map (λ w. w.items) c.args.words.items) c.in_ok-reply.reply
    (record { streams = c.args.server.now; session = c.args.session.now })
    (record { streams = c.step.new.self; session = c.step.new.session }) = record {
      command = c.args.words;
      read = refl;
      refused = c.in_ok-reply.ensures.refused;
      queued = c.in_ok-reply.ensures.queued;
      xack = c.in_ok-reply.ensures.xack;
      xdel = c.in_ok-reply.ensures.xdel;
      xadd = c.in_ok-reply.ensures.xadd;
      xautoclaim = c.in_ok-reply.ensures.xautoclaim;
      xreadgroup = c.in_ok-reply.ensures.xreadgroup;
    } in
    on_err_any _ (inr (c.in_ok-reply.reply, step))
