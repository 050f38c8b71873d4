-- Streams as servers write them are found, and read as their trees.
use Rattle.std.proofs.Common.{◌≡◌, ◌-◌, ◌*◌, ◌∙◌, ℕ, suc, List, [], ◌∷◌, ◌++◌, map, flat_map, length}
use Rattle.std.proofs.Common.{Bool, true, false, Some, Ok, refl, sym, ap, subst, arith, append_assoc}
use Rattle.std.specs.List.{AllByRecursion}
use Rattle.redis_resp.specs.Tree.{Tree, nil, bulk, array, map_of_pairs, trees, pairs, list_of_pairs}
use Rattle.redis_resp.proofs.TreeLemmas.{listed_pairs}
use Rattle.redis_wire.specs.declared.limits.Limits.{Limits}
use Rattle.redis_wire.specs.declared.kind.GroupKind.TheVariants.{Map}
use Rattle.redis_wire.specs.Reply.{value, values}
use Rattle.redis_wire.specs.Group.{many}
use Rattle.redis_wire.specs.Level.{value_at, level, by_kind, group_value_at, group_body_at}
use Rattle.redis_wire.specs.Packed.{bulk_bytes}
use Rattle.redis_wire.specs.Written.{count_bytes}
use Rattle.redis_wire.specs.Place.{BeginsWithArray, BeginsWithMap, BeginsWithNil, IsArrayAt}
use Rattle.redis_wire.proofs.LevelLemmas.{one_level}
use Rattle.redis_wire.proofs.PlaceLemmas.{nil_reads}
use Rattle.stream_in_place.specs.Sent.{SentEntry, SentStream, rows_tree, stream_tree, stream_pair, IsReadTree}
use Rattle.stream_in_place.specs.Held.{Held, none_held}
use Rattle.stream_in_place.specs.Placed.{stream_in}
use Rattle.stream_in_place.specs.Counted.{HoldSoMany}
use Rattle.stream_in_place.specs.Added.{stream_members, IsFilled}
use Rattle.stream_in_place.specs.Range.{IsRead}
use Rattle.stream_in_place.specs.Shapes.{NilForm, nil_bytes, rows_bytes, stream_head, stream_bytes, ReadForm, as_nil}
use Rattle.stream_in_place.specs.Shapes.{as_array, as_map, streams_bytes, AllowsRows, IsStreamOf, AreStreamsOf, IsToldAs}
use Rattle.stream_in_place.specs.Shapes.{BeginsAs, BeginsWithStreams}
use Rattle.stream_in_place.proofs.ManyLemmas.{no_more, many_first}
use Rattle.stream_in_place.proofs.ReadLemmas.{map_of, map_members, read_is}
use Rattle.stream_in_place.proofs.BeginLemmas.{head_begins, nil_begins, no_array_is}
use Rattle.stream_in_place.proofs.ShapeLemmas.{text_reads, array_reads, rows_read, same_trees, same_rows_tree, one_reply}
use Rattle.stream_in_place.proofs.ShapeLemmas.{len_same}

-- ---- the parts of the bytes

-- the bytes after the header of a stream
abbrev pub behind_head : NilForm → SentStream → List ℕ → List ℕ
behind_head form s rest = bulk_bytes s.name ++ (rows_bytes form s.entries ++ rest)

pub stream_split : (in_map : Bool) (form : NilForm) (s : SentStream) (rest left : List ℕ)
    → left ≡ stream_bytes in_map form s ++ rest → left ≡ stream_head in_map ++ behind_head form s rest
unfolding stream_bytes
stream_split in_map form s rest left is =
    let head = stream_head in_map in
    is ∙ append_assoc head (bulk_bytes s.name ++ rows_bytes form s.entries) rest
    ∙ ap (λ (z : List ℕ). head ++ z) (append_assoc (bulk_bytes s.name) (rows_bytes form s.entries) rest)

pub no_head_in_map : (rest left : List ℕ) → left ≡ stream_head true ++ rest → left ≡ rest
unfolding stream_head
no_head_in_map rest left is = is

pub two_in_array : (limits : Limits) (rest left : List ℕ) → AllowsRows limits → left ≡ stream_head false ++ rest
    → BeginsWithArray limits left 2 rest
unfolding stream_head
two_in_array limits rest left a is = head_begins limits a left 42 2 rest (omega (arith, a.row)) is

pub nil_is : (form : NilForm) (ss : List SentStream) (rest left : List ℕ)
    → left ≡ streams_bytes as_nil form ss ++ rest → left ≡ nil_bytes form ++ rest
unfolding streams_bytes
nil_is form ss rest left is = is

pub array_is : (form : NilForm) (ss : List SentStream) (rest left : List ℕ)
    → left ≡ streams_bytes as_array form ss ++ rest
    → left ≡ count_bytes 42 (length ss) ++ (flat_map (stream_bytes false form) ss ++ rest)
unfolding streams_bytes
array_is form ss rest left is =
    is ∙ append_assoc (count_bytes 42 (length ss)) (flat_map (stream_bytes false form) ss) rest

pub map_is : (form : NilForm) (ss : List SentStream) (rest left : List ℕ)
    → left ≡ streams_bytes as_map form ss ++ rest
    → left ≡ count_bytes 37 (length ss) ++ (flat_map (stream_bytes true form) ss ++ rest)
unfolding streams_bytes
map_is form ss rest left is =
    is ∙ append_assoc (count_bytes 37 (length ss)) (flat_map (stream_bytes true form) ss) rest

-- if no nil was found, the streams of the bytes are an array or a map
pub by_form : (limits : Limits) (claim : Bool) (bytes : List ℕ) (ss : List SentStream) (len : ℕ) (C : Type 0)
    → ((rest : List ℕ) → BeginsWithNil limits bytes rest → ⊥) → (BeginsAs limits as_array claim bytes ss → C)
    → (BeginsAs limits as_map claim bytes ss → C) → BeginsWithStreams limits claim bytes ss len → C
by_form limits claim bytes ss len C none in_array in_map b = by b.told b.is
  where
    by : (told : ReadForm) → bytes ≡ streams_bytes told b.form ss ++ b.rest → C
    by as_nil is =
        absurd (none b.rest (nil_begins limits b.allows bytes b.form b.rest (nil_is b.form ss b.rest bytes is)))
    by as_array is =
        in_array (record { form = b.form; rest = b.rest; is = is; allows = b.allows; within = b.within })
    by as_map is =
        in_map (record { form = b.form; rest = b.rest; is = is; allows = b.allows; within = b.within })

-- an array of streams begins with its header
pub array_begins : (limits : Limits) (claim : Bool) (bytes : List ℕ) (ss : List SentStream)
    → (b : BeginsAs limits as_array claim bytes ss)
    → BeginsWithArray limits bytes (length ss) (flat_map (stream_bytes false b.form) ss ++ b.rest)
array_begins limits claim bytes ss b =
    head_begins limits b.allows bytes 42 (length ss) (flat_map (stream_bytes false b.form) ss ++ b.rest)
    b.within.few (array_is b.form ss b.rest bytes b.is)

-- and so does a map of them
pub map_begins : (limits : Limits) (claim : Bool) (bytes : List ℕ) (ss : List SentStream)
    → (b : BeginsAs limits as_map claim bytes ss)
    → BeginsWithMap limits bytes (length ss) (flat_map (stream_bytes true b.form) ss ++ b.rest)
map_begins limits claim bytes ss b =
    head_begins limits b.allows bytes 37 (length ss) (flat_map (stream_bytes true b.form) ss ++ b.rest)
    b.within.few (map_is b.form ss b.rest bytes b.is)

-- ---- how they are read

-- the tree of the streams
abbrev read_tree : ReadForm → List SentStream → Tree
read_tree as_nil ss = nil
read_tree as_array ss = array (trees (map stream_tree ss))
read_tree as_map ss = map_of_pairs (pairs (map stream_pair ss))

module _ (limits : Limits) (allows : AllowsRows limits) (claim : Bool) (form : NilForm) where
  -- the name and the rows
  both_read : (d : ℕ) (s : SentStream) (rest : List ℕ) → IsStreamOf limits claim s
      → many (value_at limits (suc (suc (suc (suc d))))) 2 (behind_head form s rest)
      ≡ Ok (values (bulk s.name ∷ rows_tree s.entries ∷ []), rest)
  both_read d s rest h =
      let inner = value_at limits (suc (suc (suc (suc d)))) in
      let middle = rows_bytes form s.entries ++ rest in
      many_first inner 1 (behind_head form s rest) (bulk s.name) middle (rows_tree s.entries ∷ []) rest
      (text_reads limits allows (suc (suc (suc d))) s.name middle (behind_head form s rest) h.name.within refl)
      (many_first inner 0 middle (rows_tree s.entries) rest [] rest
      (rows_read limits allows d claim form s.entries rest middle h.entries refl) (no_more inner rest))

  stream_reads : (d : ℕ) (s : SentStream) (rest left : List ℕ) → IsStreamOf limits claim s
      → left ≡ stream_bytes false form s ++ rest
      → value_at limits (suc (suc (suc (suc (suc d))))) left ≡ Ok (value (stream_tree s), rest)
  unfolding stream_head
  stream_reads d s rest left h is =
      array_reads limits allows (suc (suc (suc (suc d)))) 2 (behind_head form s rest) rest left
      (bulk s.name ∷ rows_tree s.entries ∷ []) (omega (arith, allows.row)) (stream_split false form s rest left is)
      (both_read d s rest h)

  array_members : (d : ℕ) (ss : List SentStream) (rest : List ℕ) → AllByRecursion (IsStreamOf limits claim) ss
      → many (value_at limits (suc (suc (suc (suc (suc d)))))) (length ss)
      (flat_map (stream_bytes false form) ss ++ rest) ≡ Ok (values (map stream_tree ss), rest)
  array_members d [] rest h = no_more (value_at limits (suc (suc (suc (suc (suc d)))))) rest
  array_members d (s ∷ ss) rest h =
      let inner = value_at limits (suc (suc (suc (suc (suc d))))) in
      let behind = flat_map (stream_bytes false form) ss ++ rest in
      let whole = (stream_bytes false form s ++ flat_map (stream_bytes false form) ss) ++ rest in
      many_first inner (length ss) whole (stream_tree s) behind (map stream_tree ss) rest
      (stream_reads d s behind whole h.0
      (append_assoc (stream_bytes false form s) (flat_map (stream_bytes false form) ss) rest))
      (array_members d ss rest h.1)

  pairs_in_turn : (d : ℕ) (ss : List SentStream) (rest : List ℕ) → AllByRecursion (IsStreamOf limits claim) ss
      → many (value_at limits (suc (suc (suc (suc (suc d)))))) (2 * length ss)
      (flat_map (stream_bytes true form) ss ++ rest) ≡ Ok (values (flat_map (stream_members true) ss), rest)
  pairs_in_turn d [] rest h = no_more (value_at limits (suc (suc (suc (suc (suc d)))))) rest
  pairs_in_turn d (s ∷ ss) rest h =
      let inner = value_at limits (suc (suc (suc (suc (suc d))))) in
      let behind = flat_map (stream_bytes true form) ss ++ rest in
      let whole = (stream_bytes true form s ++ flat_map (stream_bytes true form) ss) ++ rest in
      let middle = rows_bytes form s.entries ++ behind in
      let others = flat_map (stream_members true) ss in
      let split : whole ≡ behind_head form s behind = no_head_in_map (behind_head form s behind) whole
      (stream_split true form s behind whole
      (append_assoc (stream_bytes true form s) (flat_map (stream_bytes true form) ss) rest)) in
      let n : 2 * suc (length ss) ≡ suc (suc (2 * length ss)) = omega arith in
      let last = many_first inner (2 * length ss) middle (rows_tree s.entries) behind others rest
      (rows_read limits allows (suc d) claim form s.entries behind middle h.0.entries refl)
      (pairs_in_turn d ss rest h.1) in
      ap (λ (k : ℕ). many inner k whole) n
      ∙ many_first inner (suc (2 * length ss)) whole (bulk s.name) middle (rows_tree s.entries ∷ others) rest
      (text_reads limits allows (suc (suc (suc (suc d)))) s.name middle whole h.0.name.within split) last

  map_head : (d n : ℕ) (rest left : List ℕ) → BeginsWithMap limits left n rest
      → value_at limits (suc d) left ≡ group_body_at (value_at limits d) Map (Some n) rest
  unfolding level by_kind group_value_at
  map_head d n rest left h =
      let e : suc d - 1 ≡ d = omega arith in rw (h.is, one_level limits (suc d) (omega arith), e, h.len) refl

  streams_read : (d : ℕ) (told : ReadForm) (ss : List SentStream) (rest left : List ℕ)
      → AreStreamsOf limits claim ss → left ≡ streams_bytes told form ss ++ rest
      → value_at limits (suc (suc (suc (suc (suc (suc d)))))) left ≡ Ok (value (read_tree told ss), rest)
  streams_read d as_nil ss rest left h is =
      nil_reads limits (suc (suc (suc (suc (suc d))))) left rest
      (nil_begins limits allows left form rest (nil_is form ss rest left is))
  streams_read d as_array ss rest left h is =
      array_reads limits allows (suc (suc (suc (suc (suc d))))) (length ss)
      (flat_map (stream_bytes false form) ss ++ rest) rest left (map stream_tree ss) h.few
      (array_is form ss rest left is) (array_members d ss rest h.each)
  streams_read d as_map ss rest left h is =
      let behind = flat_map (stream_bytes true form) ss ++ rest in
      map_head (suc (suc (suc (suc (suc d))))) (length ss) behind left
      (head_begins limits allows left 37 (length ss) behind h.few (map_is form ss rest left is))
      ∙ map_of (value_at limits (suc (suc (suc (suc (suc d)))))) (length ss) behind
      (flat_map (stream_members true) ss) (map stream_pair ss) rest (pairs_in_turn d ss rest h.each) (map_members ss)

-- a map of streams is not an array
pub map_is_no_array : (limits : Limits) (claim : Bool) (bytes : List ℕ) (ss : List SentStream) (count after : ℕ)
    → BeginsAs limits as_map claim bytes ss → IsArrayAt limits bytes 0 count after → ⊥
map_is_no_array limits claim bytes ss count after b head =
    no_array_is limits bytes 0 count after head (read_tree as_map ss) (λ ts e. cc) 5 b.rest
    (streams_read limits b.allows claim b.form 0 as_map ss b.rest bytes b.within b.is)

-- ---- the streams of the trees

same_stream : (s t : SentStream) → s.name ≡ t.name → rows_tree s.entries ≡ rows_tree t.entries → s ≡ t
same_stream s t name rows =
    ap (λ (x : List ℕ). record { name = x; entries = s.entries }) name
    ∙ ap (λ (x : List SentEntry). record { name = t.name; entries = x })
    (same_rows_tree s.entries t.entries rows)

same_in_array : (ss us : List SentStream) → map stream_tree ss ≡ map stream_tree us → ss ≡ us
same_in_array [] [] e = refl
same_in_array [] (u ∷ us) e = absurd cc
same_in_array (s ∷ ss) [] e = absurd cc
same_in_array (s ∷ ss) (u ∷ us) e =
    let first : stream_tree s ≡ stream_tree u = cc in
    let rest : map stream_tree ss ≡ map stream_tree us = cc in
    let inner : trees (bulk s.name ∷ rows_tree s.entries ∷ []) ≡ trees (bulk u.name ∷ rows_tree u.entries ∷ []) =
    cc in
    let both = same_trees (bulk s.name ∷ rows_tree s.entries ∷ []) (bulk u.name ∷ rows_tree u.entries ∷ []) inner in
    let name : s.name ≡ u.name = cc in
    let rows : rows_tree s.entries ≡ rows_tree u.entries = cc in
    ap (λ (x : SentStream). x ∷ ss) (same_stream s u name rows)
    ∙ ap (λ (z : List SentStream). u ∷ z) (same_in_array ss us rest)

same_in_map : (ss us : List SentStream) → map stream_pair ss ≡ map stream_pair us → ss ≡ us
same_in_map [] [] e = refl
same_in_map [] (u ∷ us) e = absurd cc
same_in_map (s ∷ ss) [] e = absurd cc
same_in_map (s ∷ ss) (u ∷ us) e =
    let first : stream_pair s ≡ stream_pair u = cc in
    let rest : map stream_pair ss ≡ map stream_pair us = cc in
    let key : bulk s.name ≡ bulk u.name = ap (λ (x : Tree × Tree). x.0) first in
    let name : s.name ≡ u.name = cc in
    let rows : rows_tree s.entries ≡ rows_tree u.entries = ap (λ (x : Tree × Tree). x.1) first in
    ap (λ (x : SentStream). x ∷ ss) (same_stream s u name rows)
    ∙ ap (λ (z : List SentStream). u ∷ z) (same_in_map ss us rest)

same_told : (told : ReadForm) (ss us : List SentStream) → IsToldAs told us → IsReadTree ss (read_tree told us)
    → ss ≡ us
same_told as_nil ss us none is = is ∙ sym none
same_told as_array ss us h is = same_in_array ss us (sym (same_trees (map stream_tree us) (map stream_tree ss) is))
same_told as_map ss us h is = same_in_map ss us (sym (sym (listed_pairs (map stream_pair us))
    ∙ ap list_of_pairs is ∙ listed_pairs (map stream_pair ss)))

-- the streams of a reply are those that were written
pub streams_same : (limits : Limits) (claim : Bool) (bytes : List ℕ) (ss us : List SentStream) (n len : ℕ)
    → IsRead limits bytes ss n → BeginsWithStreams limits claim bytes us len → (ss ≡ us) × (n ≡ len)
streams_same limits claim bytes ss us n len r b =
    let d : suc (suc (suc (suc (suc (suc (limits.depth - 6)))))) ≡ limits.depth = omega (arith, b.deep) in
    let read = streams_read limits b.allows claim b.form (limits.depth - 6) b.told us b.rest bytes b.within b.is in
    let one = one_reply limits (suc (suc (suc (suc (suc (suc (limits.depth - 6))))))) bytes b.rest
    (value (read_tree b.told us)) (value r.tree) n d r.within read r.reply in
    let same : r.tree ≡ read_tree b.told us = cc (one.0) in (
      same_told b.told ss us b.told_is (subst (λ (t : Tree). IsReadTree ss t) same r.is),
      len_same bytes (streams_bytes b.told b.form us) b.rest n len r.within b.is one.1 b.len_is,
    )

-- and if the tables are empty, they have the counts of these streams
pub nil_counted : (limits : Limits) (bytes : List ℕ) (claim : Bool) (n : ℕ) (held : Held) (us : List SentStream)
    (len : ℕ) → held ≡ none_held → IsFilled limits bytes claim n held → BeginsWithStreams limits claim bytes us len
    → HoldSoMany held us
nil_counted limits bytes claim n held us len none filled b =
    let ss = map (stream_in bytes held.entries held.fields) held.streams in
    let same : ss ≡ us =
    (streams_same limits claim bytes ss us n len (read_is limits bytes claim n held ss filled refl) b).0 in
    let empty : us ≡ [] =
    sym same ∙ ap (λ (h : Held). map (stream_in bytes h.entries h.fields) h.streams) none in
    rw (none, empty) (record { entries = refl; fields = refl })
