-- The bytes of a reply: which RESP value, and which bytes.
use Rattle.std.specs.Prelude.{ℕ, suc, List, [], ◌∷◌, ◌++◌, codes, length, map, Result, Ok, Err}
use Rattle.std.specs.Global.{Vec}
use Rattle.std.specs.List.{flat_map}
use Rattle.redis_resp.specs.Tree.{Tree, nil, int, bulk, array, simple, okay, map_of_pairs, Trees, no_trees, more_trees}
use Rattle.redis_resp.specs.Tree.{Pairs, no_pairs, more_pairs, trees}
use Rattle.redis_wire.specs.declared.kind.GroupKind.TheVariants as groups
use Rattle.redis_wire.specs.declared.written.Protocol.{Protocol}
use Rattle.redis_wire.specs.declared.written.Protocol.TheVariants.{Resp2, Resp3}
use Rattle.redis_wire.specs.Reply.{value, refused, group, answer_list, Answers, values, mixed, join, one}
use Rattle.redis_wire.specs.Reply.{Answer as Said}
use Rattle.redis_wire.specs.Packed.{bulk_bytes}
use Rattle.redis_wire.specs.Written.{line_bytes, count_bytes, nil_bytes, map_head, tree_bytes}
use Rattle.redis_wire.specs.WrittenReply.{blank_end}
use Rattle.server_store.specs.EntryId.{id_text}
use Rattle.server_commands.specs.declared.answer.Answer.{Answer, fold-Answer}
use Rattle.server_commands.specs.declared.answer.Answer.TheOpen.{Answer-F}
use Rattle.server_commands.specs.declared.answer.Status.{Status}
use Rattle.server_commands.specs.declared.answer.Status.TheVariants.{Pong, Queued, Stream, Missing}
use Rattle.server_commands.specs.declared.answer.Reply.{Reply}
use Rattle.server_commands.specs.declared.answer.Reply.TheVariants.{Done, Refused, Executed}

mutual
  -- a value that holds no other; no array; an array; names with what belongs to each, in rows or as one map
  pub data Sent : Type 0 where
    plain : Tree → Sent
    no_array : Sent
    array_of : Items → Sent
    rows_of : Rows → Sent
    map_of : Rows → Sent

  -- a list of them, since antt admits no `List Sent` inside `Sent`
  pub data Items : Type 0 where
    no_items : Items
    more_items : Sent → Items → Items

  -- a list of names, each with what belongs to it, likewise
  pub data Rows : Type 0 where
    no_rows : Rows
    more_rows : List ℕ → Sent → Rows → Rows

-- the list as an array holds it
abbrev pub item_list : List Sent → Items
item_list [] = no_items
item_list (x ∷ xs) = more_items x (item_list xs)

-- the names as rows hold them
abbrev pub row_list : List (Vec ℕ × Sent) → Rows
row_list [] = no_rows
row_list (r ∷ rs) = more_rows r.0.items r.1 (row_list rs)

-- the text of a status
abbrev pub status_text : Status → List ℕ
status_text Pong = codes "PONG"
status_text Queued = codes "QUEUED"
status_text Stream = codes "stream"
status_text Missing = codes "none"

-- one level of a reply, with each reply inside already seen so
abbrev pub sent_step : Answer-F Sent → Sent
sent_step Answer-F.Okay = plain okay
sent_step (Answer-F.Status status) = plain (simple (status_text status))
sent_step (Answer-F.Line v) = plain (simple v.items)
sent_step (Answer-F.Int z) = plain (int z)
sent_step (Answer-F.Bytes v) = plain (bulk v.items)
sent_step (Answer-F.Id id) = plain (bulk (id_text id))
sent_step Answer-F.Nil = plain nil
sent_step Answer-F.NilArray = no_array
sent_step (Answer-F.Array v) = array_of (item_list v.items)
sent_step (Answer-F.Rows v) = rows_of (row_list v.items)
sent_step (Answer-F.Map v) = map_of (row_list v.items)

-- what is sent for a reply
abbrev pub sent : Answer → Sent
sent = fold-Answer Sent sent_step

-- a name and a reply as a name and what is sent
abbrev pub sent_row : Vec ℕ × Answer → Vec ℕ × Sent
sent_row r = (r.0, sent r.1)

-- ---- which value it is

abbrev mutual
  -- Names with what belongs to each are a map in RESP3. In RESP2 a row is an array of two, and a map the
  -- array of its names and values in turn.
  pub tree_of : Protocol → Sent → Tree
  tree_of p (plain t) = t
  tree_of p no_array = nil
  tree_of p (array_of xs) = array (trees_of p xs)
  tree_of Resp2 (rows_of rs) = array (rows_apart rs)
  tree_of Resp3 (rows_of rs) = map_of_pairs (pairs_of rs)
  tree_of Resp2 (map_of rs) = array (rows_in_turn rs)
  tree_of Resp3 (map_of rs) = map_of_pairs (pairs_of rs)

  -- those of a list
  pub trees_of : Protocol → Items → Trees
  trees_of p no_items = no_trees
  trees_of p (more_items x xs) = more_trees (tree_of p x) (trees_of p xs)

  -- each name in an array with what belongs to it
  pub rows_apart : Rows → Trees
  rows_apart no_rows = no_trees
  rows_apart (more_rows name x rs) =
      more_trees (array (more_trees (bulk name) (more_trees (tree_of Resp2 x) no_trees))) (rows_apart rs)

  -- each name, and after it what belongs to it
  pub rows_in_turn : Rows → Trees
  rows_in_turn no_rows = no_trees
  rows_in_turn (more_rows name x rs) = more_trees (bulk name) (more_trees (tree_of Resp2 x) (rows_in_turn rs))

  -- each name as a key
  pub pairs_of : Rows → Pairs
  pairs_of no_rows = no_pairs
  pairs_of (more_rows name x rs) = more_pairs (bulk name) (tree_of Resp3 x) (pairs_of rs)

-- an error in one line: a space in place of each CR and LF
abbrev pub one_line : List ℕ → List ℕ
one_line text = map blank_end text

-- the reply to a command, or why it was refused
abbrev pub outcome_said : Protocol → Result Answer (Vec ℕ) → Said
outcome_said p (Ok a) = value (tree_of p (sent a))
outcome_said p (Err text) = refused (one_line text.items)

-- those of commands one after the other
abbrev pub outcomes_said : Protocol → List (Result Answer (Vec ℕ)) → Answers
outcomes_said p [] = values []
outcomes_said p (o ∷ os) = join (one (outcome_said p o)) (outcomes_said p os)

-- an array of values, or a group with an error in it
abbrev pub array_said : Answers → Said
array_said (values ts) = value (array (trees ts))
array_said (mixed xs) = group groups.Array (answer_list xs)

-- which reply of RESP a reply is
abbrev pub reply_said : Protocol → Reply → Said
reply_said p (Done a) = value (tree_of p (sent a))
reply_said p (Refused text) = refused (one_line text.items)
reply_said p (Executed v) = array_said (outcomes_said p v.items)

-- ---- which bytes it is

-- a null array, which RESP2 has beside a null
abbrev pub no_array_bytes : Protocol → List ℕ
no_array_bytes Resp2 = line_bytes 42 (codes "-1")
no_array_bytes Resp3 = nil_bytes Resp3

-- how many these are
abbrev pub item_count : Items → ℕ
item_count no_items = 0
item_count (more_items x xs) = suc (item_count xs)

-- how many these are
abbrev pub row_count : Rows → ℕ
row_count no_rows = 0
row_count (more_rows name x rs) = suc (row_count rs)

-- the head of n rows
abbrev pub rows_head : Protocol → ℕ → List ℕ
rows_head Resp2 n = count_bytes 42 n
rows_head Resp3 n = count_bytes 37 n

-- the head of one row
abbrev pub row_head : Protocol → List ℕ
row_head Resp2 = count_bytes 42 2
row_head Resp3 = []

abbrev mutual
  -- what is sent
  pub sent_bytes : Protocol → Sent → List ℕ
  sent_bytes p (plain t) = tree_bytes p t
  sent_bytes p no_array = no_array_bytes p
  sent_bytes p (array_of xs) = count_bytes 42 (item_count xs) ++ items_bytes p xs
  sent_bytes p (rows_of rs) = rows_head p (row_count rs) ++ rows_bytes p rs
  sent_bytes p (map_of rs) = map_head p (row_count rs) ++ turns_bytes p rs

  -- one after the other
  pub items_bytes : Protocol → Items → List ℕ
  items_bytes p no_items = []
  items_bytes p (more_items x xs) = sent_bytes p x ++ items_bytes p xs

  -- rows one after the other
  pub rows_bytes : Protocol → Rows → List ℕ
  rows_bytes p no_rows = []
  rows_bytes p (more_rows name x rs) =
      (row_head p ++ (bulk_bytes name ++ sent_bytes p x)) ++ rows_bytes p rs

  -- names, each with what belongs to it after it
  pub turns_bytes : Protocol → Rows → List ℕ
  turns_bytes p no_rows = []
  turns_bytes p (more_rows name x rs) = (bulk_bytes name ++ sent_bytes p x) ++ turns_bytes p rs

-- why a command was refused
abbrev pub refused_bytes : List ℕ → List ℕ
refused_bytes text = line_bytes 45 (one_line text)

-- the reply to a command, or why it was refused
abbrev pub outcome_bytes : Protocol → Result Answer (Vec ℕ) → List ℕ
outcome_bytes p (Ok a) = sent_bytes p (sent a)
outcome_bytes p (Err text) = refused_bytes text.items

-- a reply
abbrev pub reply_bytes : Protocol → Reply → List ℕ
reply_bytes p (Done a) = sent_bytes p (sent a)
reply_bytes p (Refused text) = refused_bytes text.items
reply_bytes p (Executed v) = count_bytes 42 (length v.items) ++ flat_map (outcome_bytes p) v.items
