use Rattle.std.proofs.Common.{◌≡◌, ◌+◌, ◌-◌, ◌∙◌, ap, drop, length, rules, take}
use Rattle.server_commands.specs.Adding.{AreOptions}
use Rattle.server_commands.proofs.AddLemmas.{added_at, added_new, added_nowhere, key_at, last_words, options_read}
use Rattle.server_commands.proofs.StreamLemmas.{seen_streams-with_item}
use Rattle.server_commands.proofs.commands.add.add.Goals as goal

pub returns-in-Ok-clause-ok : goal.returns-in-Ok-clause-ok
returns-in-Ok-clause-ok c =
    let keyed = key_at c.args.command.items c.key-item.result c.in_ok-key.key (search rules) (search rules) (search rules) in
    let read : AreOptions (drop 2 c.args.command.items) c.in_ok-options.options =
    options_read (take (length c.as_slice.result.now - 2) (drop 2 c.as_slice.result.now)) (drop 2 c.args.command.items)
    c.retention_in.result c.in_ok-options.options c.in_ok-options.was
    (ap (λ ws. take (length ws - 2) (drop 2 ws)) c.as_slice.ensures.value ∙ last_words c.args.command.items)
    c.retention_in.ensures.given c.retention_in.ensures.automatic in
    let fielded : c.in_ok-fields.fields.items ≡ drop (2 + c.in_ok-options.options.len) c.args.command.items = search rules in
    added_at c.args.command.items c.args.now c.in_ok-options.options c.in_ok-key.key.items c.in_ok-fields.fields keyed read fielded
    c.args.streams.now.items c.in-Ok.index c.append.result c.index_mut.result.now c.append.new.stream
    (search rules) c.index_mut.ensures.value (search rules) c.append.ensures.ok

pub returns-in-Ok-clause-err : goal.returns-in-Ok-clause-err
returns-in-Ok-clause-err c =
    seen_streams-with_item c.append.result c.args.streams.now c.in-Ok.index c.index_mut.result.now c.append.new.stream
    c.index_mut.ensures.value c.append.ensures.err

pub returns-then-not-options-clause-ok : goal.returns-then-not-options-clause-ok
returns-then-not-options-clause-ok c =
    let keyed = key_at c.args.command.items c.key-item.result c.in_ok-key.key (search rules) (search rules) (search rules) in
    let read : AreOptions (drop 2 c.args.command.items) c.in_ok-options.options =
    options_read (take (length c.as_slice.result.now - 2) (drop 2 c.as_slice.result.now)) (drop 2 c.args.command.items)
    c.retention_in.result c.in_ok-options.options c.in_ok-options.was
    (ap (λ ws. take (length ws - 2) (drop 2 ws)) c.as_slice.ensures.value ∙ last_words c.args.command.items)
    c.retention_in.ensures.given c.retention_in.ensures.automatic in
    let fielded : c.in_ok-fields.fields.items ≡ drop (2 + c.in_ok-options.options.len) c.args.command.items = search rules in
    added_nowhere c.args.command.items c.args.now c.in_ok-options.options c.in_ok-key.key.items c.in_ok-fields.fields keyed read fielded
    c.args.streams.now.items c.in-Err.index (rw (c.deref-2.ensures.value, c.deref-3.ensures.value) at c.in-Err.ensures.missing) (search rules)

pub returns-clause-ok : goal.returns-clause-ok
returns-clause-ok c =
    let keyed = key_at c.args.command.items c.key-item.result c.in_ok-key.key (search rules) (search rules) (search rules) in
    let read : AreOptions (drop 2 c.args.command.items) c.in_ok-options.options =
    options_read (take (length c.as_slice.result.now - 2) (drop 2 c.as_slice.result.now)) (drop 2 c.args.command.items)
    c.retention_in.result c.in_ok-options.options c.in_ok-options.was
    (ap (λ ws. take (length ws - 2) (drop 2 ws)) c.as_slice.ensures.value ∙ last_words c.args.command.items)
    c.retention_in.ensures.given c.retention_in.ensures.automatic in
    let fielded : c.in_ok-fields.fields.items ≡ drop (2 + c.in_ok-options.options.len) c.args.command.items = search rules in
    rw c.in_ok-insert-in-Err.ensures.items
    (added_new c.args.command.items c.args.now c.in_ok-options.options c.in_ok-key.key.items c.in_ok-fields.fields keyed read fielded
    c.args.streams.now.items c.in-Err.index c.in_ok-answer-in-Err.answer c.new-stream.result c.append-in-Err.new.stream
    (rw (c.deref-2.ensures.value, c.deref-3.ensures.value) at c.in-Err.ensures.missing) (search rules) (search rules) c.new-stream.ensures.entries c.new-stream.ensures.groups c.in_ok-answer-in-Err.ensures.ok)
