use Rattle.std.proofs.Common.{◌≡◌, ◌∙◌, ap, inl, refl, ℕ, List, Vec}
use Rattle.std.proofs.lemmas.Result.{err_from_is_err_and}
use Rattle.std.specs.declared.alloc.Global.{Global}
use Rattle.worker.specs.Outbox.Sent.{all_bytes, unsent_of}
use Rattle.worker.proofs.OutboxLemmas.SentLemmas.{all_sent, err_too, front_sent, front_sent_by, none_sent, ok_too}
use Rattle.worker.proofs.OutboxLemmas.SentLemmas.{on_err, some_sent, some_sent_by, texts_of}
use Rattle.worker.proofs.outbox.outbox.Outbox.send.Goals as goal

pub returns-in_err-bytes-clause-err : goal.returns-in_err-bytes-clause-err
returns-in_err-bytes-clause-err g c = on_err c.from_residual.result (none_sent _ _)

pub returns-in_err-send_bytes-clause-err : goal.returns-in_err-send_bytes-clause-err
returns-in_err-send_bytes-clause-err g c =
    let commands : List (List ℕ) = unsent_of c.args.self.now in
    let are : c.deref-2.result.now ≡ all_bytes commands =
    c.deref-2.ensures.value ∙ c.in_ok-bytes.ensures
    ∙ ap (λ (cs : List (Vec ℕ Global)). all_bytes (texts_of cs)) c.deref.ensures.value in
    on_err c.from_residual-in_err-send_bytes.result
    (front_sent commands c.args.connection.now c.send_bytes.new.self c.deref-2.result.now are c.in_err-send_bytes.ensures.err)

pub returns-clause-ok : goal.returns-clause-ok
returns-clause-ok g c =
    let commands : List (List ℕ) = unsent_of c.args.self.now in
    let are : c.deref-2.result.now ≡ all_bytes commands =
    c.deref-2.ensures.value ∙ c.in_ok-bytes.ensures
    ∙ ap (λ (cs : List (Vec ℕ Global)). all_bytes (texts_of cs)) c.deref.ensures.value in
    ok_too c.take_replies-replies.result.ended c.take_replies-replies.ensures.all (λ q.
    all_sent commands (unsent_of c.drop_first.new.self) c.args.connection.now c.send_bytes.new.self
    c.take_replies-replies.new.connection c.deref-2.result.now c.take_replies-replies.result.count c.len.result are
    c.in_ok-send_bytes.ensures.ok c.len.ensures q.0 q.1 c.drop_first.ensures)

pub returns-clause-err : goal.returns-clause-err
returns-clause-err g c =
    let commands : List (List ℕ) = unsent_of c.args.self.now in
    let are : c.deref-2.result.now ≡ all_bytes commands =
    c.deref-2.ensures.value ∙ c.in_ok-bytes.ensures
    ∙ ap (λ (cs : List (Vec ℕ Global)). all_bytes (texts_of cs)) c.deref.ensures.value in
    err_too c.take_replies-replies.result.ended c.take_replies-replies.ensures.some (λ q.
    some_sent commands (unsent_of c.drop_first.new.self) c.args.connection.now c.send_bytes.new.self
    c.take_replies-replies.new.connection c.deref-2.result.now c.take_replies-replies.result.count c.len.result are
    c.in_ok-send_bytes.ensures.ok c.len.ensures q.0 q.1 c.drop_first.ensures)

pub returns-in_err-bytes-clause-cause : goal.returns-in_err-bytes-clause-cause
returns-in_err-bytes-clause-cause g c =
    let p = err_from_is_err_and c.from_residual.result c.from_residual.ensures.1 in
    rw (p.1, p.2) (refl, refl)

pub returns-in_err-send_bytes-clause-cause : goal.returns-in_err-send_bytes-clause-cause
returns-in_err-send_bytes-clause-cause g c =
    let commands : List (List ℕ) = unsent_of c.args.self.now in
    let are : c.deref-2.result.now ≡ all_bytes commands =
    c.deref-2.ensures.value ∙ c.in_ok-bytes.ensures
    ∙ ap (λ (cs : List (Vec ℕ Global)). all_bytes (texts_of cs)) c.deref.ensures.value in
    let p = err_from_is_err_and c.from_residual-in_err-send_bytes.result c.from_residual-in_err-send_bytes.ensures.1 in
    rw (p.1, p.2)
    (inl (front_sent_by commands c.args.connection.now c.send_bytes.new.self c.deref-2.result.now are
    c.in_err-send_bytes.ensures.err))

pub returns-clause-cause : goal.returns-clause-cause
returns-clause-cause g c =
    let commands : List (List ℕ) = unsent_of c.args.self.now in
    let are : c.deref-2.result.now ≡ all_bytes commands =
    c.deref-2.ensures.value ∙ c.in_ok-bytes.ensures
    ∙ ap (λ (cs : List (Vec ℕ Global)). all_bytes (texts_of cs)) c.deref.ensures.value in
    some_sent_by c.take_replies-replies.result.ended commands (unsent_of c.drop_first.new.self) c.args.connection.now
    c.send_bytes.new.self c.take_replies-replies.new.connection c.deref-2.result.now c.take_replies-replies.result.count
    c.len.result are c.in_ok-send_bytes.ensures.ok c.len.ensures c.take_replies-replies.ensures.some
    c.take_replies-replies.ensures.cause c.drop_first.ensures
