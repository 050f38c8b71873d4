-- The rounds of a worker that forwards entries to another stream, and the commands sent between the rounds.
use Rattle.std.specs.Prelude.{◌≡◌, ◌⊎◌, [], Option, IfSome}
use Rattle.redis_connection.specs.Link.{Link}
use Rattle.worker_table.specs.RowTable.Posts.{Stored, rows_known}
use Rattle.model_workers.specs.Loops.Loop.{Loops, Stops}
use Rattle.worker_table.specs.Forwarded.{Went}
use Rattle.worker_table.specs.Kept.{Kept}
use Rattle.worker_table.specs.Lived.{Leads}
use Rattle.worker.specs.Session.{Standing}
use Rattle.worker.specs.declared.state.Settings.{Settings}

-- all committed posts were sent, each got a reply and was then removed
abbrev pub AllWent : Link → Option Stored → Link → Option Stored → Type 0
AllWent old s new t = Went old s new t × IfSome t (λ u. u.posts ≡ [])

module _ (settings : Settings) where
  -- Rounds after which the worker goes on. Before each round all posts of the table were sent. The parameters
  -- are the connection, the contents of the table and the worker, before the first round and after the last
  -- round. The rows after a round are those that the handler committed.
  pub data Forwards : Link → Option Stored → Standing Kept → Link → Option Stored → Standing Kept → Type 0 where
    begins : (l : Link) (s : Option Stored) (w : Standing Kept) → Forwards l s w l s w
    passes : (l m k n : Link) (s t u v : Option Stored) (w x y : Standing Kept) → Forwards l s w m t x
        → AllWent m t k u → Leads (Loops settings) k n x y → rows_known v ≡ y.history.committed → Forwards l s w n v y

  -- `Forwards` rounds, and then an end. Either all posts were sent, and in the next round the worker failed or
  -- stopped. Or not all posts were sent, and the worker made no other round.
  pub record Ends (old new : Link) (s : Option Stored) (w y : Standing Kept) : Type 0 where
    pub between : Link
    pub known : Option Stored
    pub stands : Standing Kept
    pub forwards : Forwards old s w between known stands
    pub ends : ((k : Link) × (t : Option Stored) × AllWent between known k t × Leads (Stops settings) k new stands y)
        ⊎ (stands ≡ y)
