use Rattle.std.proofs.Common.{◌≡◌, ◌++◌, rules, codes}
use Rattle.redis_client.proofs.ClusterLemmas.SentenceLemmas.{no_moved, no_ask}
use Rattle.redis_client.proofs.cluster.reading.cluster_error.Goals as goal

pub returns-in_err-slot : goal.returns-in_err-slot
returns-in_err-slot c =
    let is : c.args.text.now ≡ codes "MOVED " ++ c.in-Some.rest.now = search rules in
    rw c.from_residual.ensures (no_moved c.args.text.now c.in-Some.rest.now is (c.in_err-slot.ensures))

pub returns-in_err-slot-2 : goal.returns-in_err-slot-2
returns-in_err-slot-2 c =
    let is : c.args.text.now ≡ codes "ASK " ++ c.in-Some-bytes_behind.rest.now = search rules in
    rw c.from_residual-in_err-slot-2.ensures
    (no_ask c.args.text.now c.in-Some-bytes_behind.rest.now is (c.in_err-slot-2.ensures))
