-- The commands of a worker.
use Rattle.std.specs.Prelude.{ℕ, List, [], ◌∷◌, codes, decimal, string_bytes, if◌then◌else◌}
use Rattle.model_server.specs.Group.Worker as machine
use Rattle.model_server.specs.Group.Worker.{Id, own, claiming, reading}
use Rattle.worker.specs.declared.state.Settings.{Settings}
use Rattle.worker.specs.declared.state.MakeGroup.{MakeGroup}
use Rattle.worker.specs.declared.state.MakeGroup.TheVariants.{Never, FromTheFirst, FromNow}
use Rattle.worker.specs.declared.state.GroupState.{GroupState}
use Rattle.worker.specs.declared.state.GroupState.TheVariants.{Unknown, Missing, Known}
use Rattle.worker.specs.declared.state.Phase.{Phase}
use Rattle.worker.specs.declared.state.Phase.TheVariants as phases
use Rattle.worker.specs.declared.state.Asked.{Asked}
use Rattle.worker.specs.declared.state.Asked.TheVariants as asked

-- the machine's phase for the phase of a worker
abbrev pub phase_of : Phase → machine.Phase
phase_of phases.Start = own (codes "0")
phase_of (phases.Own id) = own (string_bytes id)
phase_of phases.ClaimFirst = claiming (codes "0-0")
phase_of (phases.Claiming id) = claiming (string_bytes id)
phase_of (phases.Reading rounds) = reading rounds

-- the name of the command in error messages
abbrev pub asked_name : Asked → List ℕ
asked_name asked.Nothing = codes "no command"
asked_name asked.Acknowledgement = codes "XACK"
asked_name asked.Group = codes "XGROUP CREATE"
asked_name asked.First = codes "XREADGROUP of pending entries"
asked_name asked.Own = codes "XREADGROUP of pending entries"
asked_name asked.Claim = codes "XAUTOCLAIM"
asked_name asked.New = codes "XREADGROUP of new entries"

-- `XACK key group id..`
abbrev pub ack_sentence : Settings → List Id → List (List ℕ)
ack_sentence s ids = codes "XACK" ∷ string_bytes s.key ∷ string_bytes s.group ∷ ids

-- the start id of a group that is created
abbrev pub group_start : MakeGroup → List ℕ
group_start Never = codes "$"
group_start FromTheFirst = codes "0"
group_start FromNow = codes "$"

-- `XGROUP CREATE key g id MKSTREAM`
abbrev pub group_sentence : Settings → List (List ℕ)
group_sentence s =
    codes "XGROUP" ∷ codes "CREATE" ∷ string_bytes s.key ∷ string_bytes s.group ∷ group_start s.make_group
    ∷ codes "MKSTREAM" ∷ []

-- the COUNT for entries that were delivered before: own pending entries and claimed entries
abbrev pub count_again : Settings → ℕ
count_again s = if s.one_at_a_time then 1 else s.count

-- `XREADGROUP GROUP g c COUNT n STREAMS key id`
abbrev pub own_sentence : Settings → Id → List (List ℕ)
own_sentence s id =
    codes "XREADGROUP" ∷ codes "GROUP" ∷ string_bytes s.group ∷ string_bytes s.consumer
    ∷ codes "COUNT" ∷ decimal (count_again s) ∷ codes "STREAMS" ∷ string_bytes s.key ∷ id ∷ []

-- `XAUTOCLAIM key g c idle id COUNT n`
abbrev pub claim_sentence : Settings → Id → List (List ℕ)
claim_sentence s id =
    codes "XAUTOCLAIM" ∷ string_bytes s.key ∷ string_bytes s.group ∷ string_bytes s.consumer
    ∷ decimal s.min_idle ∷ id ∷ codes "COUNT" ∷ decimal (count_again s) ∷ []

-- `XREADGROUP GROUP g c BLOCK ms COUNT n STREAMS key >`
abbrev pub news_sentence : Settings → List (List ℕ)
news_sentence s =
    codes "XREADGROUP" ∷ codes "GROUP" ∷ string_bytes s.group ∷ string_bytes s.consumer
    ∷ codes "BLOCK" ∷ decimal s.block ∷ codes "COUNT" ∷ decimal s.count
    ∷ codes "STREAMS" ∷ string_bytes s.key ∷ codes ">" ∷ []

-- the COUNT of the command of a phase
abbrev pub count_asked : Settings → machine.Phase → ℕ
count_asked s (own id) = count_again s
count_asked s (claiming id) = count_again s
count_asked s (reading rounds) = s.count

-- the command of the phase, if there is nothing to acknowledge and no group to create
abbrev pub phase_sentence : Settings → machine.Phase → List (List ℕ)
phase_sentence s (own id) = own_sentence s id
phase_sentence s (claiming id) = claim_sentence s id
phase_sentence s (reading rounds) = news_sentence s

-- the next command. Committed ids are acknowledged first, and a missing group is created before anything is
-- read from it
abbrev pub sentence : Settings → GroupState → machine.Phase → List Id → List (List ℕ)
sentence s group phase (id ∷ ids) = ack_sentence s (id ∷ ids)
sentence s Missing phase [] = group_sentence s
sentence s Unknown phase [] = phase_sentence s phase
sentence s Known phase [] = phase_sentence s phase

-- which command the phase sends, if the group is known
abbrev pub phase_asks : machine.Phase → Asked
phase_asks (own id) = asked.Own
phase_asks (claiming id) = asked.Claim
phase_asks (reading rounds) = asked.New

-- which command the phase sends, before anything is known of the group
abbrev pub first_asks : machine.Phase → Asked
first_asks (own id) = asked.First
first_asks (claiming id) = asked.Claim
first_asks (reading rounds) = asked.New

-- which command `sentence` is
abbrev pub asks : GroupState → machine.Phase → List Id → Asked
asks group phase (id ∷ ids) = asked.Acknowledgement
asks Missing phase [] = asked.Group
asks Unknown phase [] = first_asks phase
asks Known phase [] = phase_asks phase
