-- The producer with its connection, and how the server executes its requests.
use Rattle.std.specs.Prelude.{ℕ, List, [], ◌∷◌, Bool, ◌&&◌, Option, Some, None, if◌then◌else◌}
use Rattle.std.specs.Option.{is_none}
use Rattle.model_server.specs.Group.World.{appended}
use Rattle.model_server.specs.Group.World as group
use Rattle.model_server.specs.Once.Feed.{Numbered, Stage, asking, Request, ask_last, batch, Answer, executed, refused, last_is}
use Rattle.model_server.specs.Once.Feed.{request, requested, learns}

-- the producer and its connection
pub record Producer (F : Type 0) : Type 0 where
  pub stage : Stage
  pub sent : Option (Request F)  -- the request on the way to the server
  pub answer : Option Answer  -- the reply on the way back
  pub late : List (Request F)  -- requests on connections that broke: each may still arrive, or never

-- a producer that was just started: it knows only its records
abbrev pub new_producer : {F : Type 0} → Producer F
new_producer = record { stage = asking; sent = None; answer = None; late = [] }

-- the producer after it sends its next request. It sends none while a request or a reply is on the way
abbrev pub sends : {F : Type 0} → ℕ → List (Numbered F) → Producer F → Producer F
sends count all p =
    if is_none p.sent && is_none p.answer
    then record p { stage = requested count all p.stage; sent = request count all p.stage }
    else p

-- the stream after the XADDs of a batch: each is refused by itself if its id is not above the last one
abbrev pub add_all : {F : Type 0} → group.World F → List (Numbered F) → group.World F
add_all w [] = w
add_all w (r ∷ rs) = add_all (appended w r.0 r.1) rs

-- the stream after a request: the server executes a batch as a whole, or refuses it as a whole
abbrev pub filled : {F : Type 0} → Bool → group.World F → Request F → group.World F
filled executes w ask_last = w
filled executes w (batch records) = if executes then add_all w records else w

-- the reply to a request, which the server executes or refuses
abbrev pub answer_to : {F : Type 0} → Bool → group.World F → Request F → Answer
answer_to executes w ask_last = if executes then last_is w.last else refused
answer_to executes w (batch records) = if executes then executed else refused

-- the stream after a request, if one arrived
abbrev pub filled_by : {F : Type 0} → Bool → group.World F → Option (Request F) → group.World F
filled_by executes w None = w
filled_by executes w (Some r) = filled executes w r

-- the producer after its request, if there is one, arrived at the server: the reply is on the way back
abbrev pub arrived : {F : Type 0} → Bool → group.World F → Option (Request F) → Producer F → Producer F
arrived executes w None p = p
arrived executes w (Some r) p = record p { sent = None; answer = Some (answer_to executes w r) }

-- the producer after a reply, if one is on the way
abbrev pub hears : {F : Type 0} → ℕ → Option Answer → Producer F → Producer F
hears base None p = p
hears base (Some a) p = record p { stage = learns base p.stage a; answer = None }

-- `late` with the request on the way, if there is one: it may still arrive after its connection breaks
abbrev pub overdue : {F : Type 0} → Option (Request F) → List (Request F) → List (Request F)
overdue None late = late
overdue (Some r) late = r ∷ late

-- the producer after its connection breaks, or after it crashes and is started again: it knows only its records
abbrev pub breaks : {F : Type 0} → Producer F → Producer F
breaks p = record { stage = asking; sent = None; answer = None; late = overdue p.sent p.late }
