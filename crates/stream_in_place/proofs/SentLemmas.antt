-- What the entries that servers send read as, with their fields in order and names of any bytes.
use Rattle.std.proofs.Common.{◌≡◌, ◌<◌, ◌^◌, ℕ, List, [], ◌∷◌, map, Bool, true, false, Option, Some, None}
use Rattle.std.proofs.Common.{option_map, refl, sym, ap}
use Rattle.std.specs.List.{AllByRecursion}
use Rattle.std.specs.Str.{is_utf8}
use Rattle.redis_resp.specs.Tree.{Tree, nil, int, bulk, array, simple, okay, map_of_pairs, attribute, set, boolean}
use Rattle.redis_resp.specs.Tree.{verbatim, push, trees, single}
use Rattle.redis_resp.specs.Reading.{traverse, list_reading, option_reading, two_of}
use Rattle.redis_resp.specs.Table.{pairs_reading}
use Rattle.redis_resp.specs.Text.{text_reading}
use Rattle.redis_resp.proofs.NumberLemmas.{within_true}
use Rattle.redis_resp.proofs.TreeLemmas.{listed_trees, listed_pairs}
use Rattle.stream_entries.specs.Rows.{joined}
use Rattle.stream_in_place.specs.Sent.{Pairs, SentEntry, SentStream, SentAutoClaim, members_of, fields_tree, row_tree}
use Rattle.stream_in_place.specs.Sent.{rows_tree, stream_tree, stream_pair, IsReadTree, AreNamed, AreAllNamed, IsTextEntry}
use Rattle.stream_in_place.specs.Sent.{IsTextStream}
use Rattle.stream_in_place.specs.AutoClaim.{ids_tree, autoclaim_tree}
use Rattle.stream_in_place.specs.SentReading.{octets_reading, octet_pairs_reading, sent_fields_reading, sent_row_reading}
use Rattle.stream_in_place.specs.SentReading.{sent_stream, sent_streams_reading, there, claimed_rows_reading}
use Rattle.stream_in_place.specs.SentReading.{sent_autoclaim_reading}
use Rattle.stream_in_place.proofs.RowLemmas.{pairs_of_members}

-- a time and a count fit 64 bits, if they are there
abbrev pub Fits : Option (ℕ × ℕ) → Type 0
Fits None = Unit {0}
Fits (Some d) = (d.0 < 2 ^ 64) × (d.1 < 2 ^ 64)

-- an entry whose id is text, and whose time and count fit 64 bits
pub record IsSent (e : SentEntry) : Type 0 where
  pub id : is_utf8 e.id ≡ true
  pub delivery : Fits e.delivery

-- a stream of such entries, whose name is text
pub record IsSentStream (s : SentStream) : Type 0 where
  pub name : is_utf8 s.name ≡ true
  pub entries : AllByRecursion IsSent s.entries

-- ---- texts

-- if names are text, all texts of such entries are
pub named_entries : (es : List SentEntry) → AllByRecursion IsSent es → AreNamed es → AllByRecursion IsTextEntry es
named_entries [] h n = tt
named_entries (e ∷ es) h n = (record { id = h.0.id; names = n.0 }, named_entries es h.1 n.1)

pub named_streams : (ss : List SentStream) → AllByRecursion IsSentStream ss → AreAllNamed ss
    → AllByRecursion IsTextStream ss
named_streams [] h n = tt
named_streams (s ∷ ss) h n =
    (record { name = h.0.name; entries = named_entries s.entries h.0.entries n.0 }, named_streams ss h.1 n.1)

-- ---- rows

octets_told : (ps : Pairs)
    → traverse (two_of octets_reading octets_reading) (map (λ p. (bulk p.0, bulk p.1)) ps) ≡ Some ps
octets_told [] = refl
octets_told (p ∷ ps) = rw (octets_told ps) refl

octet_pairs_read : (ps : Pairs) → octet_pairs_reading (array (trees (members_of ps))) ≡ Some ps
octet_pairs_read ps = rw (listed_trees (members_of ps), pairs_of_members ps, octets_told ps) refl

sent_fields_read : (o : Option Pairs) → sent_fields_reading (fields_tree o) ≡ Some o
sent_fields_read None = refl
sent_fields_read (Some ps) = ap (option_map Some) (octet_pairs_read ps)

row_of : (id : List ℕ) (o : Option Pairs) (d : Option (ℕ × ℕ)) → is_utf8 id ≡ true → Fits d
    → sent_row_reading (row_tree (record { id = id; fields = o; delivery = d }))
    ≡ Some (record { id = id; fields = o; delivery = d })
row_of id o None text fits = rw (text, sent_fields_read o) refl
row_of id o (Some d) text fits =
    rw (text, sent_fields_read o, within_true 64 d.0 fits.0, within_true 64 d.1 fits.1) refl

sent_row_read : (e : SentEntry) → IsSent e → sent_row_reading (row_tree e) ≡ Some e
sent_row_read e h = row_of e.id e.fields e.delivery h.id h.delivery

rows_told : (es : List SentEntry) → AllByRecursion IsSent es → traverse sent_row_reading (map row_tree es) ≡ Some es
rows_told [] h = refl
rows_told (e ∷ es) h = rw (sent_row_read e h.0, rows_told es h.1) refl

pub sent_rows_read : (es : List SentEntry) → AllByRecursion IsSent es
    → list_reading sent_row_reading (rows_tree es) ≡ Some es
sent_rows_read es h = rw (listed_trees (map row_tree es), rows_told es h) refl

-- ---- streams

-- a stream as the one pair of a list
abbrev one_pair : SentStream → List (List ℕ × List SentEntry)
one_pair s = (s.name, s.entries) ∷ []

-- a pair of a map as a map of one pair
abbrev pair_tree : SentStream → Tree
pair_tree s = single (stream_pair s)

stream_read : (s : SentStream) → IsSentStream s
    → pairs_reading (list_reading sent_row_reading) (stream_tree s) ≡ Some (one_pair s)
stream_read s h = rw (h.name, sent_rows_read s.entries h.entries) refl

pair_read : (s : SentStream) → IsSentStream s
    → pairs_reading (list_reading sent_row_reading) (pair_tree s) ≡ Some (one_pair s)
pair_read s h = rw (h.name, sent_rows_read s.entries h.entries) refl

streams_told : (ss : List SentStream) → AllByRecursion IsSentStream ss
    → traverse (pairs_reading (list_reading sent_row_reading)) (map stream_tree ss) ≡ Some (map one_pair ss)
streams_told [] h = refl
streams_told (s ∷ ss) h = rw (stream_read s h.0, streams_told ss h.1) refl

pairs_told : (ss : List SentStream) → AllByRecursion IsSentStream ss
    → traverse (pairs_reading (list_reading sent_row_reading)) (map pair_tree ss) ≡ Some (map one_pair ss)
pairs_told [] h = refl
pairs_told (s ∷ ss) h = rw (pair_read s h.0, pairs_told ss h.1) refl

singles : (ss : List SentStream) → map single (map stream_pair ss) ≡ map pair_tree ss
singles [] = refl
singles (s ∷ ss) = ap (λ (ts : List Tree). pair_tree s ∷ ts) (singles ss)

joined_pairs : (ss : List SentStream) → map sent_stream (joined (map one_pair ss)) ≡ ss
joined_pairs [] = refl
joined_pairs (s ∷ ss) = ap (λ (xs : List SentStream). s ∷ xs) (joined_pairs ss)

pub sent_streams_read : (ss : List SentStream) (t : Tree) → IsReadTree ss t → AllByRecursion IsSentStream ss
    → sent_streams_reading t ≡ Some ss
unfolding sent_streams_reading
sent_streams_read ss nil is h = rw is refl
sent_streams_read ss (array ts) is h =
    rw (is, listed_trees (map stream_tree ss), streams_told ss h, joined_pairs ss) refl
sent_streams_read ss (map_of_pairs ps) is h =
    rw (is, listed_pairs (map stream_pair ss), singles ss, pairs_told ss h, joined_pairs ss) refl
sent_streams_read ss (int z) is h = absurd is
sent_streams_read ss (bulk b) is h = absurd is
sent_streams_read ss (simple b) is h = absurd is
sent_streams_read ss okay is h = absurd is
sent_streams_read ss (attribute t ps) is h = absurd is
sent_streams_read ss (set ts) is h = absurd is
sent_streams_read ss (boolean b) is h = absurd is
sent_streams_read ss (verbatim a b) is h = absurd is
sent_streams_read ss (push k ts) is h = absurd is

-- ---- automatic claims

all_there : (es : List SentEntry) → there (map (λ (e : SentEntry). Some e) es) ≡ es
all_there [] = refl
all_there (e ∷ es) = ap (λ (xs : List SentEntry). e ∷ xs) (all_there es)

claims_told : (es : List SentEntry) → AllByRecursion IsSent es
    → traverse (option_reading sent_row_reading) (map row_tree es) ≡ Some (map (λ (e : SentEntry). Some e) es)
claims_told [] h = refl
claims_told (e ∷ es) h = rw (sent_row_read e h.0, claims_told es h.1) refl

claimed_read : (es : List SentEntry) → AllByRecursion IsSent es
    → claimed_rows_reading (rows_tree es) ≡ Some (map (λ (e : SentEntry). Some e) es)
claimed_read es h = rw (listed_trees (map row_tree es), claims_told es h) refl

pub sent_claim_read : (told : Bool) (r : SentAutoClaim) → is_utf8 r.next ≡ true → AllByRecursion IsSent r.claimed
    → list_reading text_reading (ids_tree r.deleted) ≡ Some r.deleted → (told ≡ false → r.deleted ≡ [])
    → sent_autoclaim_reading (autoclaim_tree told r) ≡ Some r
unfolding sent_autoclaim_reading
sent_claim_read true r next h ids none =
    rw (next, claimed_read r.claimed h, ids, all_there r.claimed) refl
sent_claim_read false r next h ids none =
    rw (next, claimed_read r.claimed h, all_there r.claimed)
    (ap (λ (x : List (List ℕ)). Some (record { next = r.next; claimed = r.claimed; deleted = x })) (sym (none refl)))
