-- What filling the tables finds and adds. `d` is any number of levels above those needed.
use Rattle.std.specs.Prelude.{◌≡◌, ◌≤◌, ◌<◌, ◌*◌, ◌^◌, ℕ, suc, List, [], ◌∷◌, ◌++◌, map, flat_map, length, take, drop}
use Rattle.std.specs.Prelude.{Bool, Ok, if◌then◌else◌}
use Rattle.std.specs.List.{AllByRecursion}
use Rattle.redis_resp.specs.Tree.{Tree, bulk}
use Rattle.redis_wire.specs.declared.limits.Limits.{Limits}
use Rattle.redis_wire.specs.Reply.{value, values}
use Rattle.redis_wire.specs.Group.{many}
use Rattle.redis_wire.specs.Level.{value_at}
use Rattle.redis_wire.specs.Grammar.{IsAnyReply}
use Rattle.redis_wire.specs.Place.{IsTextAt}
use Rattle.stream_in_place.specs.declared.places.FieldPlace.{FieldPlace}
use Rattle.stream_in_place.specs.declared.places.EntryPlace.{EntryPlace}
use Rattle.stream_in_place.specs.declared.places.StreamPlace.{StreamPlace}
use Rattle.stream_in_place.specs.Held.{Held}
use Rattle.stream_in_place.specs.Sent.{SentStream, members_of, fields_tree, delivery_trees, row_tree, rows_tree}
use Rattle.stream_in_place.specs.Sent.{stream_tree, IsReadTree}
use Rattle.stream_in_place.specs.Placed.{field_in, fields_if, delivery_if, entry_in, stream_in, IsField, IsEntry, IsStream}

-- At `at` there are the name and the value of a field, in bulk strings. They end at offset `after`.
pub record IsFieldAt (limits : Limits) (bytes : List ℕ) (at : ℕ) (f : FieldPlace) (after : ℕ) : Type 0 where
  pub middle : ℕ
  pub name : IsTextAt limits bytes at f.name middle
  pub value : IsTextAt limits bytes middle f.value after

-- fields that were added, all of them within the bytes
pub record FieldsGrown (bytes : List ℕ) (old new : Held) : Type 0 where
  pub more : List FieldPlace
  pub is : new ≡ record { streams = old.streams; entries = old.entries; fields = old.fields ++ more }
  pub each : AllByRecursion (IsField bytes) more

-- At `at` there are `count` fields, which are added, and they end with the first `after` bytes.
pub record FieldsAdded (limits : Limits) (bytes : List ℕ) (at count after : ℕ) (old new : Held) : Type 0 where
  pub grown : FieldsGrown bytes old new
  pub end : after ≤ length bytes
  pub reads : (d : ℕ) → many (value_at limits (suc d)) (2 * count) (drop at bytes)
      ≡ Ok (values (members_of (map (field_in bytes) grown.more)), drop after bytes)

-- At `at` there are the fields of an entry, or nil if they are deleted.
pub record OwnAdded (limits : Limits) (bytes : List ℕ) (at : ℕ) (deleted : Bool) (after : ℕ)
    (old new : Held) : Type 0 where
  pub grown : FieldsGrown bytes old new
  pub end : after ≤ length bytes
  pub reads : (d : ℕ) → value_at limits (suc (suc d)) (drop at bytes)
      ≡ Ok (value (fields_tree (fields_if deleted (map (field_in bytes) grown.more))), drop after bytes)

-- the number of values after the fields of a row
abbrev pub delivery_count : Bool → ℕ
delivery_count claim = if claim then 2 else 0

-- the number of values of a row
abbrev pub row_count : Bool → ℕ
row_count claim = suc (suc (delivery_count claim))

-- At `at` there are the two numbers of a delivery, if the form has them.
pub record IsDeliveryAt (limits : Limits) (bytes : List ℕ) (at : ℕ) (claim : Bool)
    (elapsed count after : ℕ) : Type 0 where
  pub elapsed_fits : elapsed < 2 ^ 64
  pub count_fits : count < 2 ^ 64
  pub end : after ≤ length bytes
  pub reads : (d : ℕ) → many (value_at limits (suc d)) (delivery_count claim) (drop at bytes)
      ≡ Ok (values (delivery_trees (delivery_if claim elapsed count)), drop after bytes)

-- an entry of that form, with a time and a count of 64 bits
pub record IsForm (claim : Bool) (e : EntryPlace) : Type 0 where
  pub delivered : e.delivered ≡ claim
  pub elapsed : e.elapsed < 2 ^ 64
  pub count : e.count < 2 ^ 64

-- At `at` there is an entry of that form, whose fields are added.
pub record EntryAdded (limits : Limits) (bytes : List ℕ) (at : ℕ) (claim : Bool) (after : ℕ) (e : EntryPlace)
    (old new : Held) : Type 0 where
  pub grown : FieldsGrown bytes old new
  pub entry : IsEntry bytes (length new.fields) e
  pub form : IsForm claim e
  pub end : after ≤ length bytes
  pub reads : (d : ℕ) → value_at limits (suc (suc (suc d))) (drop at bytes)
      ≡ Ok (value (row_tree (entry_in bytes new.fields e)), drop after bytes)

-- entries of one form and fields that were added, all of them within the bytes
pub record Grown (bytes : List ℕ) (claim : Bool) (old new : Held) : Type 0 where
  pub more : List EntryPlace
  pub more_fields : List FieldPlace
  pub is : new ≡ record { streams = old.streams; entries = old.entries ++ more; fields = old.fields ++ more_fields }
  pub entries : AllByRecursion (IsEntry bytes (length new.fields)) more
  pub forms : AllByRecursion (IsForm claim) more
  pub fields : AllByRecursion (IsField bytes) more_fields

-- At `at` there are `count` entries of that form, which are added with their fields.
pub record EntriesAdded (limits : Limits) (bytes : List ℕ) (at : ℕ) (claim : Bool) (count after : ℕ)
    (old new : Held) : Type 0 where
  pub grown : Grown bytes claim old new
  pub end : after ≤ length bytes
  pub reads : (d : ℕ) → many (value_at limits (suc (suc (suc d)))) count (drop at bytes)
      ≡ Ok (values (map (λ e. row_tree (entry_in bytes new.fields e)) grown.more), drop after bytes)

-- the values that a stream is in an array of streams, and in a map
abbrev pub stream_members : Bool → SentStream → List Tree
stream_members in_map s = if in_map then bulk s.name ∷ rows_tree s.entries ∷ [] else stream_tree s ∷ []

-- the number of values that a stream is in an array of streams, and in a map
abbrev pub stream_count : Bool → ℕ
stream_count in_map = if in_map then 2 else 1

-- At `at` is what precedes the name of a stream: nothing in a map, and in an array the header of an array
-- of two. It ends with the first `behind` bytes.
pub record IsStreamHead (limits : Limits) (bytes : List ℕ) (at : ℕ) (in_map : Bool) (behind : ℕ) : Type 0 where
  pub end : behind ≤ length bytes
  pub reads : (d : ℕ) (s : SentStream) (after : ℕ)
      → ((e : ℕ) → many (value_at limits (suc (suc (suc (suc e))))) 2 (drop behind bytes)
      ≡ Ok (values (bulk s.name ∷ rows_tree s.entries ∷ []), drop after bytes))
      → many (value_at limits (suc (suc (suc (suc (suc d)))))) (stream_count in_map) (drop at bytes)
      ≡ Ok (values (stream_members in_map s), drop after bytes)

-- At `at` there is a stream, whose entries are added.
pub record StreamAdded (limits : Limits) (bytes : List ℕ) (at : ℕ) (in_map claim : Bool) (after : ℕ) (s : StreamPlace)
    (old new : Held) : Type 0 where
  pub grown : Grown bytes claim old new
  pub stream : IsStream bytes (length new.entries) s
  pub end : after ≤ length bytes
  pub reads : (d : ℕ) → many (value_at limits (suc (suc (suc (suc (suc d)))))) (stream_count in_map) (drop at bytes)
      ≡ Ok (values (stream_members in_map (stream_in bytes new.entries new.fields s)), drop after bytes)

-- tables all of whose places are within the bytes, with entries of one form
pub record AreWithin (bytes : List ℕ) (claim : Bool) (held : Held) : Type 0 where
  pub streams : AllByRecursion (IsStream bytes (length held.entries)) held.streams
  pub entries : AllByRecursion (IsEntry bytes (length held.fields)) held.entries
  pub forms : AllByRecursion (IsForm claim) held.entries
  pub fields : AllByRecursion (IsField bytes) held.fields

-- At `at` there are `count` streams, and the tables hold these and nothing else.
pub record StreamsAdded (limits : Limits) (bytes : List ℕ) (at : ℕ) (in_map claim : Bool) (count after : ℕ)
    (held : Held) : Type 0 where
  pub within : AreWithin bytes claim held
  pub end : after ≤ length bytes
  pub reads : (d : ℕ) → many (value_at limits (suc (suc (suc (suc (suc d)))))) (stream_count in_map * count)
      (drop at bytes)
      ≡ Ok (
        values (flat_map (stream_members in_map) (map (stream_in bytes held.entries held.fields) held.streams)),
        drop after bytes,
      )

-- The tables hold the streams of the reply that the first `len` bytes are, and nothing else.
pub record IsFilled (limits : Limits) (bytes : List ℕ) (claim : Bool) (len : ℕ) (held : Held) : Type 0 where
  pub within : AreWithin bytes claim held
  pub end : len ≤ length bytes
  pub tree : Tree
  pub is : IsReadTree (map (stream_in bytes held.entries held.fields) held.streams) tree
  pub reply : IsAnyReply limits (take len bytes) (value tree)
