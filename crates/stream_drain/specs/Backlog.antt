-- How the program reads the backlog of its group.
use Rattle.std.specs.Prelude.{◌≡◌, ℕ, List, [], ◌∷◌, Option, Some, None, option_map, Result, Ok, Err, codes}
use Rattle.std.specs.Prelude.{string_bytes}
use Rattle.std.specs.List.{find}
use Rattle.std.specs.Str.{bytes_eq}
use Rattle.redis_connection.specs.Ask.{Asks, HasNoAnswer}
use Rattle.redis_connection.specs.Link.{Link}
use Rattle.redis_connection.specs.declared.error.AskError.{AskError}
use Rattle.redis_streams.specs.Info.{Group, groups_reading}
use Rattle.redis_streams.specs.InfoRefusal.{RefusesGroups}
use Rattle.stream_drain.specs.declared.backlog.Backlog.{Backlog}
use Rattle.stream_drain.specs.declared.backlog.Watched.{Watched}

-- the backlog of the group `g`
abbrev pub left_to : Group → Backlog
left_to g = record { lag = g.lag; pending = g.pending }

-- the backlog of the first group called `name`, or `None` if there is no such group
abbrev pub left_in : List ℕ → List Group → Option Backlog
left_in name groups = option_map left_to (find (λ g. bytes_eq g.name name) groups)

-- the command `XINFO GROUPS` for the watched stream
abbrev pub groups_asked : Watched → List (List ℕ)
groups_asked w = codes "XINFO" ∷ codes "GROUPS" ∷ string_bytes w.key ∷ []

-- If no group is watched, no command is sent, and the result is `None`. Otherwise `XINFO GROUPS` is sent. The
-- result is the backlog in its reply, or the error.
abbrev pub Hears : Option Watched → Link → Link → Result (Option Backlog) AskError → Type 0
Hears None old new heard = (heard ≡ Ok None) × (new ≡ old)
Hears (Some w) old new (Ok backlog) = (groups : List Group)
    × Asks old new (groups_asked w) groups_reading groups × (backlog ≡ left_in (string_bytes w.group) groups)
Hears (Some w) old new (Err e) = HasNoAnswer old new (groups_asked w) groups_reading RefusesGroups e
