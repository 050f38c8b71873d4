use Rattle.std.proofs.Common.{rules, arith, ◌∙◌, ap, inr, ℕ, take}
use Rattle.std.proofs.lemmas.Bool.Decides.{nat_tests}
use Rattle.redis_connection.proofs.EarlyLemmas.{first_sent, sent_early, some_queued}
use Rattle.redis_connection.proofs.early.EarlyWriterWriteEarly.write_early.Goals as goal

pub returns-clause-written : goal.returns-clause-written
returns-clause-written g c =
    sent_early c.write.result (g.W.Write.contents c.args.self.now.inner) (g.W.Write.contents c.write.new.self)
    c.args.self.now.early.items c.extend_from_slice.new.self.items c.find_queued-queued.result.now c.truncate.new.self.items
    (grind (arith, nat_tests, c.is_empty-else-is_empty.ensures, c.if-not-is_empty.false)) (search rules)
    (c.truncate.ensures.items ∙ ap (λ (n : ℕ). take n c.extend_from_slice.new.self.items) c.unwrap_or-sent.ensures)
    c.write.ensures.bytes

pub returns-clause-queued : goal.returns-clause-queued
returns-clause-queued g c =
    inr (
      c.find_queued-queued.result.now,
      c.unwrap_or-sent.result,
      some_queued c.args.bytes.now c.find_queued-queued.result.now c.find_queued-queued.ensures.only
          (λ none. grind (arith, nat_tests, none, c.is_empty.ensures, c.if-not-is_empty.false)),
      first_sent c.args.self.now.early.items c.extend_from_slice.new.self.items
          c.find_queued-queued.result.now c.truncate.new.self.items c.unwrap_or-sent.result
          (grind (arith, nat_tests, c.is_empty-else-is_empty.ensures, c.if-not-is_empty.false)) (search rules) c.truncate.ensures.items,
    )
