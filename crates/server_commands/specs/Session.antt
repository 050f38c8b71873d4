-- What a connection shows.
use Rattle.std.specs.Prelude.{ℕ, Bool, false, List, [], ◌∷◌, ◌++◌}
use Rattle.std.specs.Global.{Vec}
use Rattle.redis_wire.specs.declared.written.Protocol.{Protocol}
use Rattle.server_commands.specs.declared.commands.Plain.{Plain}
use Rattle.server_commands.specs.declared.session.Mode.{Mode}
use Rattle.server_commands.specs.declared.session.Mode.TheVariants.{AtOnce}
use Rattle.server_commands.specs.declared.session.Queued.{Queued}
use Rattle.server_commands.specs.declared.watching.Watched.{Watched}

-- its protocol, its name, when its commands are done, those that wait, the keys that it watches, and whether one of them
-- was changed
pub record SeenSession : Type 0 where
  pub protocol : Protocol
  pub name : List ℕ
  pub mode : Mode
  pub queue : List Queued
  pub watched : List Watched
  pub is_touched : Bool

-- a connection without the capacity of its lists
abbrev pub seen_session : Protocol → Vec ℕ → Mode → Vec Queued → Vec Watched → Bool → SeenSession
seen_session protocol name mode queue watched is_touched = record {
  protocol = protocol;
  name = name.items;
  mode = mode;
  queue = queue.items;
  watched = watched.items;
  is_touched = is_touched;
}

-- a connection that begins
abbrev pub new_session : Protocol → SeenSession
new_session protocol = record {
  protocol = protocol;
  name = [];
  mode = AtOnce;
  queue = [];
  watched = [];
  is_touched = false;
}

-- its queue and what it watches are dropped, and its commands are done as they come
abbrev pub forgotten : SeenSession → SeenSession
forgotten s = record s { mode = AtOnce; queue = []; watched = []; is_touched = false }

-- a command waits after those that wait
abbrev pub with_queued : Plain → Vec (Vec ℕ) → SeenSession → SeenSession
with_queued command words s = record s { queue = s.queue ++ record { command = command; words = words } ∷ [] }
