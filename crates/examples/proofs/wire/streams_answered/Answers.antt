use Rattle.std.proofs.Common.{rules}
use Rattle.redis.specs.Words.{answer}
use Rattle.examples.proofs.WireLemmas.{value_begun, refused_begun, error_begun, none_begun, unknown_format}
use Rattle.examples.proofs.wire.streams_answered.Goals as goal

pub returns-in-Ok-clause-head : goal.returns-in-Ok-clause-head
returns-in-Ok-clause-head c =
    let sound = rw c.in-Ok-Complete.field-0-is at c.in-Ok-Complete.ensures.sound in
    value_begun c.default.result c.args.bytes.now c.in-Ok-Complete.field-0-1 c.default.ensures
    (answer c.in-Ok-Complete.reply) c.in-Ok.streams sound.1 c.in-Ok.ensures

pub returns-in-Err-Server-clause-head : goal.returns-in-Err-Server-clause-head
returns-in-Err-Server-clause-head c =
    let sound = rw c.in-Ok-Complete.field-0-is at c.in-Ok-Complete.ensures.sound in
    error_begun c.default.result c.args.bytes.now c.in-Ok-Complete.field-0-1 c.default.ensures
    (answer c.in-Ok-Complete.reply) c.in-Err-Server.error sound.1
    (rw c.in-Err-Server.field-0-is at c.in-Err-Server.ensures)

pub returns-in-Err-Parsing : goal.returns-in-Err-Parsing
returns-in-Err-Parsing c =
    let sound = rw c.in-Ok-Complete.field-0-is at c.in-Ok-Complete.ensures.sound in
    record {
      answer = search rules;
      head = refused_begun c.default.result c.args.bytes.now c.in-Ok-Complete.field-0-1 c.default.ensures
          (answer c.in-Ok-Complete.reply) c.in-Err-Parsing.error sound.1
          (rw c.in-Err-Parsing.field-0-is at c.in-Err-Parsing.ensures);
      cause = unknown_format (answer c.in-Ok-Complete.reply) c.in-Err-Parsing.error
          (rw c.in-Err-Parsing.field-0-is at c.in-Err-Parsing.ensures) (search rules);
    }

pub returns-in-Err-NotAnAnswer-clause-head : goal.returns-in-Err-NotAnAnswer-clause-head
returns-in-Err-NotAnAnswer-clause-head c =
    let sound = rw c.in-Ok-Complete.field-0-is at c.in-Ok-Complete.ensures.sound in
    none_begun c.default.result c.args.bytes.now c.in-Ok-Complete.field-0-1 c.default.ensures
    (answer c.in-Ok-Complete.reply) sound.1 (rw c.in-Err-NotAnAnswer.field-0-is at c.in-Err-NotAnAnswer.ensures)
