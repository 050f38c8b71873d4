-- What a client does after an error of a node.
use Rattle.redis_client.specs.declared.cluster.step.NextStep.{NextStep}
use Rattle.redis_client.specs.declared.cluster.step.NextStep.TheVariants.{Connect, AskOnce, Wait, GiveUp}
use Rattle.redis_client.specs.Cluster.Sentence.{try_again, cluster_down, loading, master_down, read_only, no_replicas}
use Rattle.redis_client.specs.Cluster.Sentence.{Meaning, moved, ask, other}

-- it connects to the node that the error names, for good or only this time; it gives up if the node accepts no
-- writes; and it waits in all other cases, which are temporary
abbrev pub next_step : Meaning → NextStep
next_step (moved p) = Connect
next_step (ask p) = AskOnce
next_step (other read_only) = GiveUp
next_step (other try_again) = Wait
next_step (other cluster_down) = Wait
next_step (other loading) = Wait
next_step (other master_down) = Wait
next_step (other no_replicas) = Wait
