-- The reply that servers send for XAUTOCLAIM, and which replies the first bytes are.
use Rattle.std.specs.Prelude.{◌≡◌, ◌≤◌, ℕ, List, [], ◌∷◌, length, take, map, Bool, false, Some, if◌then◌else◌}
use Rattle.redis_resp.specs.Tree.{Tree, bulk, array, trees}
use Rattle.redis_wire.specs.declared.limits.Limits.{Limits}
use Rattle.redis_wire.specs.Reply.{value}
use Rattle.redis_wire.specs.Grammar.{IsAnyReply}
use Rattle.stream_entries.specs.AutoClaim.{AutoClaim, autoclaim_reading}
use Rattle.stream_entries.specs.JustId.{JustId, justid_reading}
use Rattle.stream_in_place.specs.Sent.{SentAutoClaim, AreNamed, rows_tree}
use Rattle.stream_in_place.specs.SentReading.{sent_autoclaim_reading}
use Rattle.stream_in_place.specs.Copied.{copied}

-- the tree of ids without fields
abbrev pub ids_tree : List (List ℕ) → Tree
ids_tree ids = array (trees (map bulk ids))

-- the list of deleted ids, which servers send from 7.0 on
abbrev pub deleted_trees : Bool → List (List ℕ) → List Tree
deleted_trees told ids = if told then ids_tree ids ∷ [] else []

-- the reply of XAUTOCLAIM
abbrev pub autoclaim_tree : Bool → SentAutoClaim → Tree
autoclaim_tree told r = array (trees (bulk r.next ∷ rows_tree r.claimed ∷ deleted_trees told r.deleted))

-- the same with `JUSTID`
abbrev pub justid_tree : Bool → JustId → Tree
justid_tree told r = array (trees (bulk r.next ∷ ids_tree r.claimed ∷ deleted_trees told r.deleted))

-- the record of the copying path; its list of entries has no nil item
abbrev pub copied_autoclaim : SentAutoClaim → AutoClaim
copied_autoclaim r = record { next = r.next; claimed = map copied r.claimed; deleted = r.deleted; invalid = false }

-- The first `len` bytes are a reply within the limits, with any number of values, and it has this content. If names
-- are text, it is what the record of the copying path holds.
pub record IsAutoClaim (limits : Limits) (bytes : List ℕ) (r : SentAutoClaim) (len : ℕ) : Type 0 where
  pub within : len ≤ length bytes
  pub told : Bool
  pub reply : IsAnyReply limits (take len bytes) (value (autoclaim_tree told r))
  pub sent : sent_autoclaim_reading (autoclaim_tree told r) ≡ Some r
  pub reading : AreNamed r.claimed → autoclaim_reading (autoclaim_tree told r) ≡ Some (copied_autoclaim r)

-- The same with `JUSTID`.
pub record IsJustId (limits : Limits) (bytes : List ℕ) (r : JustId) (len : ℕ) : Type 0 where
  pub within : len ≤ length bytes
  pub told : Bool
  pub reply : IsAnyReply limits (take len bytes) (value (justid_tree told r))
  pub reading : justid_reading (justid_tree told r) ≡ Some r
