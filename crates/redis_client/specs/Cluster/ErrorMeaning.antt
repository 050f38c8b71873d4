-- What the values of the code mean.
use Rattle.redis_client.specs.declared.cluster.error.ClusterError.{ClusterError}
use Rattle.redis_client.specs.declared.cluster.error.ClusterError.TheVariants as errors
use Rattle.redis_client.specs.declared.cluster.reading.Place as places
use Rattle.redis_client.specs.Cluster.Sentence.{Place, Other, try_again, cluster_down, loading, master_down, read_only, no_replicas}
use Rattle.redis_client.specs.Cluster.Sentence.{Meaning, moved, ask, other}

-- the node that serves a slot
abbrev pub place_of : places.Place → Place
place_of p = record { slot = p.slot; host = p.host.now; port = p.port }

-- an error that names no node
abbrev pub other_meaning : Other → Meaning
other_meaning o = other o

-- the meaning of an error
abbrev pub meaning_of : ClusterError → Meaning
meaning_of (errors.Moved slot host port) = moved (record { slot = slot; host = host.now; port = port })
meaning_of (errors.Ask slot host port) = ask (record { slot = slot; host = host.now; port = port })
meaning_of errors.TryAgain = other try_again
meaning_of errors.ClusterDown = other cluster_down
meaning_of errors.Loading = other loading
meaning_of errors.MasterDown = other master_down
meaning_of errors.ReadOnly = other read_only
meaning_of errors.NoReplicas = other no_replicas
