-- The JSON document with the figures of streams.
use Rattle.std.specs.Prelude.{ℕ, List, [], ◌∷◌, ◌++◌, Option, Some, None, codes, decimal, flat_map, string_bytes}
use Rattle.json.specs.Token.{Token, begin_object, end_object, begin_array, end_array, key, string, number, null}
use Rattle.stream_top.specs.declared.figures.ConsumerFigures.{ConsumerFigures}
use Rattle.stream_top.specs.declared.figures.GroupFigures.{GroupFigures}
use Rattle.stream_top.specs.declared.figures.StreamFigures.{StreamFigures}

-- a member whose value is a text
unfoldable pub text_member : List ℕ → List ℕ → List Token
text_member name text = key name ∷ string text ∷ []

-- a member whose value is a number
unfoldable pub count_member : List ℕ → ℕ → List Token
count_member name count = key name ∷ number (decimal count) ∷ []

-- a member whose value is a number, or null
abbrev pub maybe_member : List ℕ → Option ℕ → List Token
maybe_member name None = key name ∷ null ∷ []
maybe_member name (Some count) = count_member name count

-- a member whose value is an id, or null if the id is empty
abbrev pub id_member : List ℕ → List ℕ → List Token
id_member name [] = key name ∷ null ∷ []
id_member name (b ∷ bs) = text_member name (b ∷ bs)

-- the beginning of an object, with its first member, whose value is a text
unfoldable pub begin_tokens : List ℕ → List ℕ → List Token
begin_tokens name text = begin_object ∷ text_member name text

-- the beginning of a member whose value is an array
unfoldable pub begin_list_tokens : List ℕ → List Token
begin_list_tokens name = key name ∷ begin_array ∷ []

-- the end of an array, and the end of the object whose last member it is
unfoldable pub end_list_tokens : List Token
end_list_tokens = end_array ∷ end_object ∷ []

-- the number of a consumer's pending entries, and the milliseconds since the consumer was last seen
unfoldable pub presence_tokens : ConsumerFigures → List Token
presence_tokens c = count_member (codes "pending") c.pending ++ count_member (codes "idle_milliseconds") c.idle

-- `{"name":"ann","pending":2,"idle_milliseconds":60000}`
unfoldable pub consumer_tokens : ConsumerFigures → List Token
consumer_tokens c = begin_tokens (codes "name") (string_bytes c.name) ++ (presence_tokens c ++ end_object ∷ [])

-- the member `"consumers":[..]`, and the end of the group's object
unfoldable pub consumers_tokens : List ConsumerFigures → List Token
consumers_tokens consumers = begin_list_tokens (codes "consumers") ++ (flat_map consumer_tokens consumers ++ end_list_tokens)

-- the members of a group between its name and its consumers
abbrev pub backlog_tokens : GroupFigures → List Token
backlog_tokens g = maybe_member (codes "lag") g.lag
    ++ (count_member (codes "pending") g.pending
    ++ (id_member (codes "last_delivered_id") (string_bytes g.last_id)
    ++ (maybe_member (codes "oldest_pending_milliseconds") g.oldest_pending
    ++ count_member (codes "max_deliveries") g.deliveries)))

-- a group: its name, its backlog and its consumers
unfoldable pub group_tokens : GroupFigures → List Token
group_tokens g = begin_tokens (codes "name") (string_bytes g.name)
    ++ (backlog_tokens g ++ consumers_tokens g.consumers.items)

-- the member `"groups":[..]`, and the end of the stream's object
unfoldable pub groups_tokens : List GroupFigures → List Token
groups_tokens groups = begin_list_tokens (codes "groups") ++ (flat_map group_tokens groups ++ end_list_tokens)

-- a stream: its key, its length, its last id and its groups
unfoldable pub stream_tokens : StreamFigures → List Token
stream_tokens s = begin_tokens (codes "key") (string_bytes s.key)
    ++ (count_member (codes "length") s.length
    ++ (id_member (codes "last_generated_id") (string_bytes s.last_id) ++ groups_tokens s.groups.items))

-- the document `{"streams":[..]}`
abbrev pub document_tokens : List StreamFigures → List Token
document_tokens streams = (begin_object ∷ []) ++ (begin_list_tokens (codes "streams")
    ++ (flat_map stream_tokens streams ++ end_list_tokens))
