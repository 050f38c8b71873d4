use Rattle.std.proofs.Common.{◌∙◌, drop, rules}
use Rattle.server_commands.proofs.AcknowledgeLemmas.{word_at}
use Rattle.server_commands.proofs.ClaimPlaceLemmas.{claimed_in, none_taken}
use Rattle.server_commands.proofs.commands.stalled.claim_stalled.Goals as goal

pub returns-clause-ok : goal.returns-clause-ok
returns-clause-ok c =
    let words = c.args.arguments.now in
    let keyed = word_at words 0 c.key-item.result c.deref-4.result.now (search rules) (search rules) (search rules) in
    let named = word_at words 1 c.name-item.result c.deref-5.result.now (search rules) (search rules) (search rules) in
    let by = word_at words 2 c.consumer-item.result c.in_ok-room.room.name.items (search rules) (search rules)
    (c.in_ok-room.ensures.named ∙ c.deref-6.ensures.value) in
    claimed_in c.deref-4.result.now c.deref-5.result.now c.in_ok-claim.claim c.in_ok-answer.answer c.args.streams.now
    c.in-Ok.index c.index-streams-index-3.result c.index-streams-index.result c.index-streams-index-2.result
    c.in-Ok-place_of_group.place c.index-group.result.now c.index_mut.result.now c.settle.new.group c.in_ok-stalled.stalled
    c.in_ok-room.room c.in-Ok.ensures.bound c.in-Ok-place_of_group.ensures.bound (search rules) c.index_mut.ensures.value
    c.in_ok-stalled.ensures c.in_ok-room.ensures.enough c.in_ok-answer.ensures c.settle.ensures words c.args.now keyed named by
    c.in_ok-claim.ensures.now (λ none. c.in_ok-claim.ensures.plain (none_taken _ (drop 5 words) none)) c.in-Ok.ensures.found c.in-Ok-place_of_group.ensures.found
