-- The command that forwards an entry to another stream, and its reply.
use Rattle.std.specs.Prelude.{◌≡◌, ◌⊎◌, ℕ, Bool, true, false, List, [], ◌∷◌, Option, Some, Result, Ok, Err, codes, flat_map}
use Rattle.std.specs.Prelude.{option_map, IfSome}
use Rattle.std.specs.Str.{bytes_eq}
use Rattle.redis_connection.specs.Link.{Link, Sends}
use Rattle.redis_connection.specs.Passing.{ReceivesAnswer}
use Rattle.redis_resp.specs.Tree.{Tree, Trees, array, no_trees, more_trees}
use Rattle.redis_wire.specs.Packed.{command_bytes}
use Rattle.redis_wire.specs.Reply as wire
use Rattle.worker_table.specs.declared.row_table.cell.Column.{Column}
use Rattle.worker_table.specs.RowTable.Posts.{IsFirst, Post, Posted, Stored, rows_in, rows_known, without_post}
use Rattle.model_server.specs.Group.Worker.{Entry, Id}
use Rattle.stream_in_place.specs.Sent.{Pairs}
use Rattle.worker_table.specs.Kept.{Kept, row_in}
use Rattle.worker_table.specs.declared.sending.SendError.{SendError}

-- each name followed by its value
abbrev pub field_words : Pairs → List (List ℕ)
field_words fields = flat_map (λ p. p.0 ∷ p.1 ∷ []) fields

-- `XADD target id name value ..`
abbrev pub add_words : List ℕ → Entry Pairs → List (List ℕ)
add_words target e = codes "XADD" ∷ target ∷ e.0 ∷ field_words e.1

-- `XRANGE target id id`
abbrev pub look_words : List ℕ → Id → List (List ℕ)
look_words target id = codes "XRANGE" ∷ target ∷ id ∷ id ∷ []

-- the row of the entry `e`, with its command and its query. The command adds the entry to `target` under its
-- own id, with its fields in order. The query returns the entry of `target` with this id.
abbrev pub posted_in : List ℕ → List Column → Entry Pairs → Posted
posted_in target columns e =
    (row_in columns e, (command_bytes (add_words target e), command_bytes (look_words target e.0)))

-- what a forwarding handler keeps: the same rows as a handler that does not forward
abbrev pub forwarding_kept : List Column → List Posted → Option Stored → Kept
forwarding_kept columns loose known =
    record { columns = columns; loose = rows_in loose; committed = rows_known known }

-- whether the server executed the command: its reply is a value
abbrev pub is_taken : wire.Answer → Bool
is_taken (wire.value t) = true
is_taken (wire.refused text) = false
is_taken (wire.group kind members) = false
is_taken (wire.pushed kind payload) = false

-- whether the reply is the error that the id is not above the last id of the target
abbrev pub is_too_small : wire.Answer → Bool
is_too_small (wire.value t) = false
is_too_small (wire.refused text) =
    bytes_eq text (codes "ERR The ID specified in XADD is equal or smaller than the target stream top item")
is_too_small (wire.group kind members) = false
is_too_small (wire.pushed kind payload) = false

-- whether there is at least one entry
abbrev pub are_some : Trees → Bool
are_some no_trees = false
are_some (more_trees t ts) = true

-- whether the value is an array that contains an entry
abbrev pub has_entry : Tree → Bool
has_entry (array ts) = are_some ts
has_entry _ = false

-- whether the reply contains an entry
abbrev pub shows_one : wire.Answer → Bool
shows_one (wire.value t) = has_entry t
shows_one (wire.refused text) = false
shows_one (wire.group kind members) = false
shows_one (wire.pushed kind payload) = false

-- `bytes` were sent, and then the reply `a` was received
abbrev pub AsksBy : List ℕ → wire.Answer → Link → Link → Type 0
AsksBy bytes a old new = (m : Link) × Sends old m bytes × ReceivesAnswer m new a

-- The command was sent, and the server executed it. Or the command's id was too small, and the query returned
-- an entry with this id.
abbrev pub IsAdded : Post → Link → Link → Type 0
IsAdded p old new = (a : wire.Answer) × ((AsksBy p.command a old new × (is_taken a ≡ true))
    ⊎ ((m : Link) × (b : wire.Answer) × AsksBy p.command a old m × (is_too_small a ≡ true) × AsksBy p.question b m new
    × (shows_one b ≡ true)))

-- Posts were sent over a connection. Each was the first post left, got a reply as in `IsAdded`, and was then
-- removed.
pub data Went : Link → Option Stored → Link → Option Stored → Type 0 where
  none : (l : Link) (s : Option Stored) → Went l s l s
  more : (l m n : Link) (s t : Option Stored) (p : Post) → Went l s m t → IfSome t (λ u. IsFirst (Some p) u.posts)
      → IsAdded p m n → Went l s n (option_map (λ u. without_post u p.key) t)

-- `Ok`: all posts were sent as in `Went`. `Err`: some posts were, before something failed.
abbrev pub HasSent : {A : Type 0} → Result A SendError → Link → Option Stored → Link → Option Stored → Type 0
HasSent (Ok x) old s new t = Went old s new t × IfSome t (λ u. u.posts ≡ [])
HasSent (Err e) old s new t = (m : Link) × Went old s m t

-- each outcome of a crash is an old outcome, or what remains after some posts were sent as in `Went`
abbrev pub LeavesSent : Link → Option Stored → (Stored → Type 0) → (Stored → Type 0) → Type 0
LeavesSent link s old new = (left : Stored) → new left
    → old left ⊎ ((m : Link) × (t : Option Stored) × Went link s m t × IfSome t (λ u. left ≡ u))
