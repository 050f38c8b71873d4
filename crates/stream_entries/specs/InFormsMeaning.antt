-- What the code holds of a read reply while both its forms are open.
use Rattle.std.specs.Prelude.{Bool, List, [], Option, Some, None, flat_map, if◌then◌else◌, String, Vec, string_bytes}
use Rattle.std.specs.declared.alloc.Global.{Global}
use Rattle.std.specs.Option.{option_map_or}
use Rattle.redis_resp.specs.FieldsMeaning.{fields_of}
use Rattle.redis_resp.specs.Table.{entries_meaning}
use Rattle.stream_entries.specs.Entry.{Entry}
use Rattle.stream_entries.specs.EntryMeaning.{entries_of}
use Rattle.stream_entries.specs.InForms.{InForms}
use Rattle.stream_entries.specs.Overlap.{OverlapEntry, in_standard, in_claim}
use Rattle.stream_entries.specs.Read.{Streams}
use Rattle.stream_entries.specs.declared.overlap.Form.{Form}
use Rattle.stream_entries.specs.declared.overlap.Form.TheVariants.{Standard as standard_form, Claim as claim_form}
use Rattle.stream_entries.specs.declared.overlap.Overlap.{Overlap}
use Rattle.stream_entries.specs.declared.entries.Entries.{Entries}
use Rattle.stream_entries.specs.declared.entries.Entries.TheVariants.{Standard, Claim, Both}
use Rattle.stream_entries.specs.declared.streams.OpenStreams.{OpenStreams}

-- what an entry of both forms holds
abbrev pub overlap_of : Overlap → OverlapEntry
overlap_of o =
    record { id = string_bytes o.id; fields = fields_of o.map; number = o.number; text = string_bytes o.text }

-- its entries in a form
abbrev pub given_in : Form → OverlapEntry → List Entry
given_in standard_form = in_standard
given_in claim_form = in_claim

-- entries of both forms, in one of them
abbrev pub settled_in : Form → Vec Overlap Global → List Entry
settled_in form overlaps = flat_map (λ o. given_in form (overlap_of o)) overlaps.items

-- the entries of a list, in each form that the list has
abbrev pub entries_held : Entries → InForms (List Entry)
entries_held (Standard ids) = (Some (entries_of ids), None)
entries_held (Claim ids) = (None, Some (entries_of ids))
entries_held (Both overlaps) = (Some (settled_in standard_form overlaps), Some (settled_in claim_form overlaps))

-- the result in one of the two forms
abbrev pub held_in : {M : Type 0} → Form → InForms M → Option M
held_in standard_form h = h.0
held_in claim_form h = h.1

-- the list, or an empty one for None
abbrev pub list_or_none : {A : Type 0} → Option (List A) → List A
list_or_none o = option_map_or (λ xs. xs) o []

-- the streams in a form, each with the entries that it has in that form
abbrev pub keys_in : Form → Vec (String Global × Entries) Global → Streams
keys_in form keys = entries_meaning (λ e. list_or_none (held_in form (entries_held e))) keys.items

-- a value only under a condition
abbrev pub only_if : {A : Type 0} → Bool → A → Option A
only_if b x = if b then Some x else None

-- the streams in each form that all their lists have
abbrev pub streams_held : OpenStreams → InForms Streams
streams_held s =
    (only_if s.forms.standard (keys_in standard_form s.keys), only_if s.forms.claim (keys_in claim_form s.keys))
