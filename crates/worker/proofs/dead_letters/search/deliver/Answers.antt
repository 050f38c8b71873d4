use Rattle.std.proofs.Common.{◌≡◌, ◌∙◌, ◌++◌, ap}
use Rattle.redis_wire.specs.Reply.{answer}
use Rattle.worker.specs.Letters.{desk_of, letter_bytes, names_of}
use Rattle.worker.proofs.DeadLettersLemmas.DeadLemmas.{breaks_off, goes_on, on_err, waits_on}
use Rattle.worker.proofs.dead_letters.search.deliver.Goals as goal

pub returns-in_err-send_bytes-clause-err : goal.returns-in_err-send_bytes-clause-err
returns-in_err-send_bytes-clause-err g c =
    let so_far = c.loop.invariant.goes in
    let bytes : c.deref.result.now ≡ letter_bytes (names_of c.loop.desk) (desk_of c.loop.desk) =
    c.deref.ensures.value ∙ c.in-Ok.ensures.bytes
    ∙ ap (λ xs. xs ++ letter_bytes (names_of c.loop.desk) (desk_of c.loop.desk)) c.new-question.ensures.items in
    on_err c.from_residual.result
    (breaks_off _ _ so_far.0 _ _ _ _ _ _ _ so_far.1 c.loop.invariant.names bytes c.in_err-send_bytes.ensures.err
    c.in-Ok.ensures.desk)

pub returns-in_err-reply-clause-err : goal.returns-in_err-reply-clause-err
returns-in_err-reply-clause-err g c =
    let so_far = c.loop.invariant.goes in
    let bytes : c.deref.result.now ≡ letter_bytes (names_of c.loop.desk) (desk_of c.loop.desk) =
    c.deref.ensures.value ∙ c.in-Ok.ensures.bytes
    ∙ ap (λ xs. xs ++ letter_bytes (names_of c.loop.desk) (desk_of c.loop.desk)) c.new-question.ensures.items in
    on_err c.from_residual-in_err-reply.result
    (waits_on _ _ so_far.0 _ _ _ _ _ _ _ _ so_far.1 c.loop.invariant.names bytes c.in_ok-send_bytes.ensures.ok
    c.in_err-reply.ensures.err c.in-Ok.ensures.desk)

pub loop-preserved : goal.loop-preserved
loop-preserved g c =
    let so_far = c.loop.invariant.goes in
    let bytes : c.deref.result.now ≡ letter_bytes (names_of c.loop.desk) (desk_of c.loop.desk) =
    c.deref.ensures.value ∙ c.in-Ok.ensures.bytes
    ∙ ap (λ xs. xs ++ letter_bytes (names_of c.loop.desk) (desk_of c.loop.desk)) c.new-question.ensures.items in
    record {
      names = c.answered.ensures.names ∙ c.in-Ok.ensures.names ∙ c.loop.invariant.names;
      goes = goes_on _ _ so_far.0 _ _ _ _ _ _ _ _ _ (answer c.in_ok-reply.reply) _ so_far.1 c.loop.invariant.names bytes
          c.in_ok-send_bytes.ensures.ok c.in_ok-reply.ensures.ok (c.in-Ok.ensures.asks.1 ∙ c.in-Ok.ensures.asks.0)
          c.in_default.ensures.ok.0 c.in-Ok.ensures.desk c.in_default.ensures.ok.1;
    }
