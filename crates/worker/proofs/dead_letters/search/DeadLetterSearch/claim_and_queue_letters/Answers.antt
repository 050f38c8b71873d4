use Rattle.std.proofs.Common.{◌≡◌, ◌∙◌, ◌∷◌, ◌++◌, ◌+◌, inr, refl, sym, ap, subst, [], string_bytes, take}
use Rattle.std.proofs.lemmas.List.{take_more}
use Rattle.redis_wire.specs.Reply.{value}
use Rattle.redis_connection.specs.Ask.{Asks}
use Rattle.worker.specs.DeadLetters.Dead.{BreaksOff, Posted, PostsAll, claim_words, claimer_of, rows_of, rows_reading}
use Rattle.worker.specs.Letters.{Names}
use Rattle.worker.specs.Letters.{desk_of}
use Rattle.worker.proofs.DeadLettersLemmas.DeadLemmas.{on_err, posts_break, posts_on}
use Rattle.worker.proofs.dead_letters.search.DeadLetterSearch.claim_and_queue_letters.Goals as goal

pub returns-in_err-rows-clause-err : goal.returns-in_err-rows-clause-err
returns-in_err-rows-clause-err g c =
    let so_far = c.loop-entry.invariant.posts in
    let claimer = claimer_of c.args.self.now c.args.min_idle in
    on_err c.from_residual.result
    (posts_break claimer (string_bytes c.args.desk.now.dead) c.args.entries.now c.loop-entry.entry-index
    c.entry-item.result so_far.0 c.args.connection.now c.loop-entry.connection c.claim.new.connection
    (desk_of c.args.desk.now) (desk_of c.loop-entry.desk) (desk_of c.loop-entry.desk) c.loop-entry-test.true
    (sym c.entry-item.is) so_far.1
    (subst (λ id. BreaksOff (claim_words claimer id) c.loop-entry.connection c.claim.new.connection)
    c.as_str.ensures.value c.in_err-rows.ensures.err)
    refl)

pub returns-in_err-queue_letter-clause-err : goal.returns-in_err-queue_letter-clause-err
returns-in_err-queue_letter-clause-err g c =
    let so_far = c.loop-entry.invariant.posts in
    let claimer = claimer_of c.args.self.now c.args.min_idle in
    let asks = c.in_ok-rows.ensures.ok in
    on_err c.from_residual-in_err-queue_letter.result
    (posts_break claimer (string_bytes c.args.desk.now.dead) c.args.entries.now c.loop-entry.entry-index
    c.entry-item.result so_far.0 c.args.connection.now c.loop-entry.connection c.claim.new.connection
    (desk_of c.args.desk.now) (desk_of c.loop-entry.desk) (desk_of c.queue_letter.new.desk) c.loop-entry-test.true
    (sym c.entry-item.is) so_far.1
    (subst (λ id. BreaksOff (claim_words claimer id) c.loop-entry.connection c.claim.new.connection)
    c.as_str.ensures.value (inr (inr (value asks.0, asks.1))))
    c.in_err-queue_letter.ensures.err)

pub loop-entry-preserved : goal.loop-entry-preserved
loop-entry-preserved g c =
    let so_far = c.loop-entry.invariant.posts in
    let claimer = claimer_of c.args.self.now c.args.min_idle in
    let dead = string_bytes c.args.desk.now.dead in
    let k = c.loop-entry.entry-index in
    let ws = c.args.entries.now in
    let w = c.entry-item.result in
    let old = c.args.connection.now in
    let m = c.loop-entry.connection in
    let new = c.claim.new.connection in
    let desk = desk_of c.args.desk.now in
    let d = desk_of c.loop-entry.desk in
    let d' = desk_of c.queue_letter.new.desk in
    let rows = rows_of c.in_ok-rows.rows.items in
    let asks = subst (λ id. Asks m new (claim_words claimer id) rows_reading rows) c.as_str.ensures.value
    c.in_ok-rows.ensures.ok in
    let posted : Posted dead w rows d d' =
    subst (λ xs. Posted dead w (rows_of xs) d d') c.deref.ensures.value
    (subst (λ (n : Names). Posted n.2 w (rows_of c.deref.result.now) d d') c.loop-entry.invariant.names
    c.in_ok-queue_letter.ensures.ok) in
    let one = posts_on claimer dead (take k ws) w so_far.0 rows old m new desk d d' so_far.1 asks posted in
    let all : take k ws ++ w ∷ [] ≡ take (k + 1) ws =
    sym (take_more ws k w c.loop-entry-test.true ∙ ap (λ x. take k ws ++ x ∷ []) (sym c.entry-item.is)) in
    record {
      names = c.in_ok-queue_letter.ensures.names ∙ c.loop-entry.invariant.names;
      posts = (one.0, subst (λ xs. PostsAll claimer dead xs one.0 old desk new d') all one.1);
    }
