-- The errors with which a value may be refused as a reply of XINFO.
use Rattle.std.specs.Prelude.{◌⊎◌, List, [], ◌∷◌, Some, MatchOption, unwrap_or, codes}
use Rattle.redis_resp.specs.Tree.{Tree, array_of_plain}
use Rattle.redis_resp.specs.Refusal.{Refuses, RefusesText, RefusesNumber, RefusesValue, RefusesList, RefusesPairs}
use Rattle.redis_resp.specs.Refusal.{RefusesField}
use Rattle.redis_resp.specs.declared.value.error.ParsingError.{ParsingError}
use Rattle.redis_streams.specs.Info.{NamedFields, fields_in, consumer_reading, group_reading}
use Rattle.stream_entries.specs.Refusal.{RefusesFields, RefusesTextIn}
use Rattle.stream_entries.specs.Rows.{field_reading}

-- an entry by its items: the id as a text, or the fields as those of an entry
abbrev pub RefusesItems : List Tree → ParsingError → Type 0
RefusesItems [] error = ⊥
RefusesItems (id ∷ []) error = RefusesTextIn id error
RefusesItems (id ∷ fields ∷ rest) error = RefusesTextIn id error ⊎ Refuses field_reading RefusesFields fields error

-- an entry: what the items of an array are refused with; any other value is not refused
abbrev pub RefusesInfoEntry : Tree → ParsingError → Type 0
RefusesInfoEntry t error = RefusesItems (unwrap_or (array_of_plain t) []) error

-- fields by name: pairs of a text and a value that is kept as it is, and if there are such pairs what the fields are
-- refused with
abbrev pub RefusesNamed : (NamedFields → ParsingError → Type 0) → Tree → ParsingError → Type 0
RefusesNamed refuses t error = RefusesPairs (Refuses (λ u. Some u) RefusesValue) t error
    ⊎ MatchOption (fields_in t) ⊥ (λ fields. refuses fields error)

-- one of a stream's fields
abbrev pub RefusesStreamField : NamedFields → ParsingError → Type 0
RefusesStreamField fields error =
    RefusesField RefusesText (fields (codes "last-generated-id")) error
    ⊎ (RefusesField RefusesNumber (fields (codes "radix-tree-keys")) error
    ⊎ (RefusesField RefusesNumber (fields (codes "radix-tree-nodes")) error
    ⊎ (RefusesField RefusesNumber (fields (codes "groups")) error
    ⊎ (RefusesField RefusesNumber (fields (codes "length")) error
    ⊎ (RefusesField RefusesInfoEntry (fields (codes "first-entry")) error
    ⊎ RefusesField RefusesInfoEntry (fields (codes "last-entry")) error)))))

-- a stream
abbrev pub RefusesStream : Tree → ParsingError → Type 0
RefusesStream = RefusesNamed RefusesStreamField

-- one of the fields of a stream and of its idempotent producers
abbrev pub RefusesTrackedField : NamedFields → ParsingError → Type 0
RefusesTrackedField fields error =
    RefusesField RefusesNumber (fields (codes "idmp-duration")) error
    ⊎ (RefusesField RefusesNumber (fields (codes "idmp-maxsize")) error
    ⊎ (RefusesField RefusesNumber (fields (codes "pids-tracked")) error
    ⊎ (RefusesField RefusesNumber (fields (codes "iids-tracked")) error
    ⊎ (RefusesField RefusesNumber (fields (codes "iids-added")) error
    ⊎ (RefusesField RefusesNumber (fields (codes "iids-duplicates")) error
    ⊎ RefusesStreamField fields error)))))

-- a stream and its idempotent producers
abbrev pub RefusesTracked : Tree → ParsingError → Type 0
RefusesTracked = RefusesNamed RefusesTrackedField

-- one of a consumer's fields
abbrev pub RefusesConsumerField : NamedFields → ParsingError → Type 0
RefusesConsumerField fields error =
    RefusesField RefusesText (fields (codes "name")) error
    ⊎ (RefusesField RefusesNumber (fields (codes "pending")) error
    ⊎ RefusesField RefusesNumber (fields (codes "idle")) error)

-- consumers: a list of them
abbrev pub RefusesConsumers : Tree → ParsingError → Type 0
RefusesConsumers = RefusesList (Refuses consumer_reading (RefusesNamed RefusesConsumerField))

-- one of a group's fields
abbrev pub RefusesGroupField : NamedFields → ParsingError → Type 0
RefusesGroupField fields error =
    RefusesField RefusesText (fields (codes "name")) error
    ⊎ (RefusesField RefusesNumber (fields (codes "consumers")) error
    ⊎ (RefusesField RefusesNumber (fields (codes "pending")) error
    ⊎ (RefusesField RefusesText (fields (codes "last-delivered-id")) error
    ⊎ (RefusesField RefusesNumber (fields (codes "entries-read")) error
    ⊎ RefusesField RefusesNumber (fields (codes "lag")) error))))

-- groups: a list of them
abbrev pub RefusesGroups : Tree → ParsingError → Type 0
RefusesGroups = RefusesList (Refuses group_reading (RefusesNamed RefusesGroupField))
