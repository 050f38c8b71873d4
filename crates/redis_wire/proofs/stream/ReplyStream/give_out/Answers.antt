use Rattle.std.proofs.Common.{drop, length, ◌+◌, ◌≤◌, arith}
use Rattle.std.proofs.lemmas.List.{length-drop}
use Rattle.redis_wire.proofs.NextLemmas.{given_fits}
use Rattle.redis_wire.proofs.stream.ReplyStream.give_out.Goals as goal

pub invariant_of-self : goal.invariant_of-self
invariant_of-self c =
    let le : c.min.result ≤ length (drop c.self.inside.start c.self.inside.buffer.items) =
    omega (arith, length-drop c.self.inside.start c.self.inside.buffer.items) in
    let fits =
    given_fits c.self.inside.limits _ c.self.inside.start c.min.result c.self.inside.buffer.items
    c.self.invariant.0 c.self.invariant.2 le
    (c.forget.ensures (drop (c.self.inside.start + c.min.result) c.self.inside.buffer.items) c.self.inside.limits) in
    (fits.0, fits.1, fits.2, c.self.invariant.3)
