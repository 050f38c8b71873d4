use Rattle.std.proofs.Common.{◌≡◌, ◌++◌, [], ◌∷◌, arith, map}
use Rattle.std.proofs.lemmas.Grind.{common_steps}
use Rattle.redis_resp.proofs.ReadLemmas.{read_next}
use Rattle.redis_streams.specs.Pending.{pending_row}
use Rattle.redis_streams.specs.PendingMeaning.{pending_id_meaning}
use Rattle.redis_streams.proofs.pending.extended.read_rows.Goals as goal

pub loop-row-preserved : goal.loop-row-preserved
loop-row-preserved g c =
    let pushed : map pending_id_meaning c.push.new.self.items ≡ map pending_id_meaning c.loop-row.ids.items
    ++ pending_id_meaning c.in_ok-read_row.field-0 ∷ [] = grind (arith, common_steps) in
    read_next pending_row (g.S.Source.values_left c.args.rows) _ _
    (g.S.Source.seen c.in-Some.row) _ _ _ c.in-Some.ensures c.in_ok-read_row.ensures.ok pushed c.loop-row.invariant
