-- What filling the tables with ids finds and adds. `d` is any number of levels above those needed.
use Rattle.std.specs.Prelude.{◌≡◌, ◌≤◌, ℕ, suc, List, [], ◌++◌, map, length, drop, Bool, true, false, Ok}
use Rattle.std.specs.Prelude.{if◌then◌else◌}
use Rattle.std.specs.List.{AllByRecursion}
use Rattle.std.specs.Str.{is_utf8}
use Rattle.redis_resp.specs.Tree.{bulk}
use Rattle.redis_wire.specs.declared.limits.Limits.{Limits}
use Rattle.redis_wire.specs.declared.place.Span.{Span}
use Rattle.redis_wire.specs.Reply.{values}
use Rattle.redis_wire.specs.Group.{many}
use Rattle.redis_wire.specs.Level.{value_at}
use Rattle.redis_wire.specs.Place.{text_in, IsTextAt, IsArrayAt}
use Rattle.stream_in_place.specs.declared.places.EntryPlace.{EntryPlace}
use Rattle.stream_in_place.specs.Held.{Held}
use Rattle.stream_in_place.specs.AutoClaim.{deleted_trees}
use Rattle.stream_in_place.specs.ClaimPlaced.{id_at, IsId}

-- ids that were added, all of them within the bytes
pub record IdsGrown (bytes : List ℕ) (old new : Held) : Type 0 where
  pub more : List EntryPlace
  pub is : new ≡ record { streams = old.streams; entries = old.entries ++ more; fields = old.fields }
  pub each : AllByRecursion (IsId bytes) more

-- At `at` there are `count` ids, which are added, and they end with the first `after` bytes.
pub record IdsAdded (limits : Limits) (bytes : List ℕ) (at count after : ℕ) (old new : Held) : Type 0 where
  pub grown : IdsGrown bytes old new
  pub end : after ≤ length bytes
  pub reads : (d : ℕ) → many (value_at limits (suc d)) count (drop at bytes)
      ≡ Ok (values (map bulk (map (id_at bytes) grown.more)), drop after bytes)

-- the number of lists of deleted ids
abbrev pub deleted_count : Bool → ℕ
deleted_count told = if told then 1 else 0

-- At `at` there is the list of deleted ids, if the reply has it, and its ids are added.
pub record DeletedAdded (limits : Limits) (bytes : List ℕ) (at : ℕ) (told : Bool) (after : ℕ)
    (old new : Held) : Type 0 where
  pub grown : IdsGrown bytes old new
  pub none : told ≡ false → grown.more ≡ []
  pub end : after ≤ length bytes
  pub reads : (d : ℕ) → many (value_at limits (suc (suc d))) (deleted_count told) (drop at bytes)
      ≡ Ok (values (deleted_trees told (map (id_at bytes) grown.more)), drop after bytes)

-- The bytes begin with the first part of an automatic claim. It is the header of an array of two, or of three with
-- the deleted ids; then the next id; then the header of an array of `count` elements. That last header ends with the
-- first `at` bytes.
pub record IsClaimHead (limits : Limits) (bytes : List ℕ) (told : Bool) (next : Span) (count at : ℕ) : Type 0 where
  pub behind : ℕ
  pub middle : ℕ
  pub outer : IsArrayAt limits bytes 0 (suc (suc (deleted_count told))) behind
  pub name : IsTextAt limits bytes behind next middle
  pub is_text : is_utf8 (text_in bytes next) ≡ true
  pub inner : IsArrayAt limits bytes middle count at
