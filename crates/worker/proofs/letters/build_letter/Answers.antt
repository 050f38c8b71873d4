use Rattle.std.proofs.Common.{◌∙◌, ◌∷◌, ◌++◌, [], ap, codes, decimal, sym}
use Rattle.redis_wire.specs.Packed.{command_bytes}
use Rattle.worker.specs.Letters.{letter_sentence}
use Rattle.worker.proofs.LetterLemmas.{no_reason, some_reason}
use Rattle.worker.proofs.letters.build_letter.Goals as goal
use Rattle.worker.proofs.letters.build_letter.Goals.{then-is_empty+in_ok-append_command, else-is_empty+in_ok-append_command-2}

pub returns : goal.returns
returns g c =
    let dead = c.args.dead.now in
    let reason = c.args.reason.now in
    let id = c.args.id.now in
    let n = c.args.deliveries in
    let fields = g.F.ToRedisArgs.args c.args.fields.now in
    elim c.if-is_empty.branch [
      | then-is_empty+in_ok-append_command w ↦
          ap (λ b. b.items) w.bytes-is ∙ w.in_ok-append_command.ensures.ok
          ∙ ap (λ before. before ++ command_bytes (letter_sentence dead [] id n fields)) c.new-bytes.ensures.items
          ∙ ap (λ r. command_bytes (letter_sentence dead r id n fields))
          (sym (no_reason reason (sym c.is_empty.ensures ∙ w.if-is_empty.true)))
      | else-is_empty+in_ok-append_command-2 w ↦
          ap (λ b. b.items) w.bytes-is ∙ w.in_ok-append_command-2.ensures.ok
          ∙ ap (λ before. before ++ command_bytes (codes "XADD" ∷ dead ∷ codes "*" ∷ codes "reason" ∷ reason
          ∷ codes "entry" ∷ id ∷ codes "deliveries" ∷ decimal n ∷ fields)) c.new-bytes.ensures.items
          ∙ ap (λ ws. command_bytes (codes "XADD" ∷ dead ∷ codes "*"
          ∷ (ws ++ codes "entry" ∷ id ∷ codes "deliveries" ∷ decimal n ∷ fields)))
          (sym (some_reason reason (sym c.is_empty.ensures ∙ w.if-is_empty.false)))
    ]
