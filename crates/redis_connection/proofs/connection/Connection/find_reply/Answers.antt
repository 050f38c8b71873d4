use Rattle.std.proofs.Common.{◌≡◌, length, IfOk, OnErr, sym, subst, rules, arith}
use Rattle.std.proofs.lemmas.List.{with_items_is}
use Rattle.redis_connection.specs.Link.{IsInPlace, Waits}
use Rattle.redis_connection.specs.Seen.{seen}
use Rattle.redis_connection.proofs.LinkLemmas.{stood, waited}
use Rattle.redis_connection.proofs.connection.Connection.find_reply.Goals as goal

pub returns-clause-ok : goal.returns-clause-ok
returns-clause-ok g c =
    let new = c.receive_in_place_from.new in
    let len : length new.piece ≡ c.self.inside.piece.len = search (rules, arith) in
    subst
    (λ p. IfOk c.receive_in_place_from.result (IsInPlace c.args.self.now
    (seen c.self.inside.passed (g.W.Write.contents c.self.inside.writer) (g.R.Read.remaining new.reader) new.replies p new.unfed)))
    (sym (with_items_is c.self.inside.piece new.piece len))
    (stood c.self.inside.passed
    (g.W.Write.contents c.self.inside.writer) _ _ _ _ _ _ _ _ c.args.self.now c.self.view_is
    c.receive_in_place_from.result (rw c.as_mut_slice.ensures.value at c.receive_in_place_from.ensures.ok))

pub returns-clause-err : goal.returns-clause-err
returns-clause-err g c =
    let new = c.receive_in_place_from.new in
    let len : length new.piece ≡ c.self.inside.piece.len = search (rules, arith) in
    subst
    (λ p. OnErr c.receive_in_place_from.result
    (Waits c.args.self.now
    (seen c.self.inside.passed (g.W.Write.contents c.self.inside.writer) (g.R.Read.remaining new.reader) new.replies p new.unfed)))
    (sym (with_items_is c.self.inside.piece new.piece len))
    (waited c.self.inside.passed
    (g.W.Write.contents c.self.inside.writer) _ _ _ _ _ _ _ _ c.args.self.now c.self.view_is
    c.receive_in_place_from.result (rw c.as_mut_slice.ensures.value at c.receive_in_place_from.ensures.err))
