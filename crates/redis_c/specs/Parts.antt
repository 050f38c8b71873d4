-- Parsed settings, by the places of the arguments.
use Rattle.std.specs.Prelude.{◌≡◌, ℕ, Bool, List, [], ◌∷◌, ◌++◌, Option, Some, None, option_map}
use Rattle.std.specs.Prelude.{if◌then◌else◌}
use Rattle.redis_resp.specs.Reading.{both_read}
use Rattle.stream_options.specs.Read.{Group}
use Rattle.stream_options.specs.ReadBack.{single_group}
use Rattle.stream_option_parsing.specs.declared.read.ReadParts.{ReadParts}
use Rattle.redis_wire.specs.declared.place.Span.{Span}
use Rattle.redis_c.specs.declared.commands.ReadSettings.{ReadSettings}
use Rattle.redis_c.specs.declared.server.GroupPlace.{GroupPlace}
use Rattle.redis_c.specs.Outcome.{nowhere}
use Rattle.redis_c.specs.Placed.{text_at, texts_at}
use Rattle.redis_c.specs.Settings.{if_set}

-- the first place
abbrev pub first_place : List Span → Span
first_place [] = nowhere
first_place (place ∷ places) = place

-- the settings of a read after the group: BLOCK, COUNT, NOACK and CLAIM
abbrev pub Asked : Type 0
Asked = Option ℕ × (Option ℕ × (Bool × Option ℕ))

-- as the settings define it
abbrev pub asked_by : ReadSettings → Asked
asked_by s = (if_set s.has_block s.block, (if_set s.has_count s.count, (s.noack, if_set s.has_claim s.claim)))

-- as it was read
abbrev pub asked_of : ReadParts → Asked
asked_of p = (p.block, (p.count, (p.noack, p.claim)))

-- a group by its name and that of the consumer
abbrev pub group_by : List ℕ × List ℕ → Option Group
group_by names = Some (single_group names.0 names.1)

-- the group that is given, if one is; `None` if a name is not within the bytes
abbrev pub group_in : List ℕ → GroupPlace → Option (Option Group)
group_in bytes place = if place.has_group
    then option_map group_by (both_read (text_at bytes place.group) (text_at bytes place.consumer)) else Some None

-- If the texts at the places begin with these, then the remaining places are those of the others.
abbrev pub Skips : List (List ℕ) → List Span → List Span → Type 0
Skips front places left = (bytes : List ℕ) (tail rest : List (List ℕ))
    → texts_at bytes places ≡ Some ((front ++ tail) ++ rest) → texts_at bytes left ≡ Some (tail ++ rest)

-- If the texts at the places begin with the clauses of settings that fit, then these are the result.
abbrev pub Tells : {T : Type 0} → (T → Type 0) → (T → List (List ℕ)) → (List ℕ → Option T) → T → List Span → Type 0
Tells Fits sentence meant x places = (bytes : List ℕ) (rest : List (List ℕ))
    → texts_at bytes places ≡ Some (sentence x ++ rest) → Fits x → meant bytes ≡ Some x
