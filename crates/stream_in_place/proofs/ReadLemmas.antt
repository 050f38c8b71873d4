-- Streams that are found are those of a reply.
use Rattle.std.proofs.Common.{◌≡◌, ◌≤◌, ◌-◌, ◌*◌, ◌∙◌, ℕ, suc, List, [], ◌∷◌, map, flat_map, length, drop, Bool, true}
use Rattle.std.proofs.Common.{false, Option, Some, None, Ok, option_map, refl, ap, sym, subst, arith}
use Rattle.std.specs.List.{AllByRecursion}
use Rattle.std.specs.Str.{is_utf8}
use Rattle.redis_resp.specs.Tree.{Tree, nil, int, bulk, array, simple, okay, map_of_pairs, attribute, set, boolean}
use Rattle.redis_resp.specs.Tree.{verbatim, push, trees, pairs, single, two_by_two}
use Rattle.redis_resp.specs.Reading.{traverse}
use Rattle.redis_resp.specs.Table.{table_reading}
use Rattle.redis_resp.proofs.TreeLemmas.{listed_trees, listed_pairs}
use Rattle.redis_wire.specs.declared.limits.Limits.{Limits}
use Rattle.redis_wire.specs.declared.kind.GroupKind.TheVariants.{Map}
use Rattle.redis_wire.specs.Reading.{Read}
use Rattle.redis_wire.specs.Reply.{Answer, value, values}
use Rattle.redis_wire.specs.Group.{many, group_tree}
use Rattle.redis_wire.specs.Level.{group_body_at, value_at}
use Rattle.redis_wire.specs.Place.{IsArrayAt, IsMapAt, IsNilAt}
use Rattle.stream_entries.specs.Rows.{joined, standard_entries, entries_reading}
use Rattle.stream_entries.specs.Entry.{Entry}
use Rattle.stream_entries.specs.Read.{Streams, claim_entries, streams_reading, standard_reading, claim_reading}
use Rattle.stream_entries.specs.Read.{read_reading}
use Rattle.stream_in_place.specs.declared.places.FieldPlace.{FieldPlace}
use Rattle.stream_in_place.specs.declared.places.EntryPlace.{EntryPlace}
use Rattle.stream_in_place.specs.declared.places.StreamPlace.{StreamPlace}
use Rattle.stream_in_place.specs.Held.{Held, none_held}
use Rattle.stream_in_place.specs.Sent.{SentStream, rows_tree, stream_tree, stream_pair, IsReadTree, IsTextStream}
use Rattle.stream_in_place.specs.Sent.{IsStandard, IsClaimed, AreAllNamed}
use Rattle.stream_in_place.specs.Copied.{copied, copied_stream, copied_streams}
use Rattle.stream_in_place.specs.Placed.{own_entries, stream_in, IsField, IsEntry, IsStream}
use Rattle.stream_in_place.specs.Added.{stream_members, IsForm, StreamsAdded, IsFilled}
use Rattle.stream_in_place.specs.Range.{IsRead}
use Rattle.stream_in_place.proofs.FillLemmas.{array_of}
use Rattle.stream_in_place.proofs.RangeLemmas.{all_taken, all_dropped, sent_told, standard_told, claimed_told, reply_is}
use Rattle.stream_in_place.proofs.SentLemmas.{IsSentStream, named_streams, sent_streams_read}
use Rattle.stream_in_place.proofs.RowLemmas.{range_entries, claimed_entries, claimed_standard}
use Rattle.stream_in_place.proofs.AgreeLemmas.{Agrees, agrees_map, agrees_all, agrees_or}

-- ---- the reply

array_members : (ss : List SentStream) → flat_map (stream_members false) ss ≡ map stream_tree ss
array_members [] = refl
array_members (s ∷ ss) = ap (λ (ts : List Tree). stream_tree s ∷ ts) (array_members ss)

pub map_members : (ss : List SentStream) → two_by_two (flat_map (stream_members true) ss) ≡ Some (map stream_pair ss)
map_members [] = refl
map_members (s ∷ ss) = rw (map_members ss) refl

pub map_of : (inner : List ℕ → Read Answer) (n : ℕ) (bytes : List ℕ) (ts : List Tree) (ps : List (Tree × Tree))
    (after : List ℕ) → many inner (2 * n) bytes ≡ Ok (values ts, after)
    → two_by_two ts ≡ Some ps → group_body_at inner Map (Some n) bytes ≡ Ok (value (map_of_pairs (pairs ps)), after)
unfolding group_body_at group_tree
map_of inner n bytes ts ps after h p = rw (h, p) refl

module _ (limits : Limits) (bytes : List ℕ) (claim : Bool) (deep : 6 ≤ limits.depth) where
  pub nil_filled : (len : ℕ) (held : Held) → held ≡ none_held → IsNilAt limits bytes 0 len
      → IsFilled limits bytes claim len held
  nil_filled len held none h =
      let d : suc (limits.depth - 1) ≡ limits.depth = omega arith in
      rw none (record {
        within = record { streams = tt; entries = tt; forms = tt; fields = tt };
        end = h.end;
        tree = nil;
        is = refl;
        reply = reply_is limits (suc (limits.depth - 1)) bytes nil len d h.end (h.reads (limits.depth - 1));
      })

  pub array_filled : (at count len : ℕ) (held : Held) → IsArrayAt limits bytes 0 count at
      → StreamsAdded limits bytes at false claim count len held → IsFilled limits bytes claim len held
  array_filled at count len held head h =
      let ss = map (stream_in bytes held.entries held.fields) held.streams in
      let d : suc (suc (suc (suc (suc (suc (limits.depth - 6)))))) ≡ limits.depth = omega arith in
      let n : 1 * count ≡ count = omega arith in
      let inner = value_at limits (suc (suc (suc (suc (suc (limits.depth - 6)))))) in
      let each : many inner count (drop at bytes) ≡ Ok (values (map stream_tree ss), drop len bytes) =
      rw (n, array_members ss) at (h.reads (limits.depth - 6)) in
      let read = head.reads (suc (suc (suc (suc (suc (limits.depth - 6))))))
      ∙ array_of inner count (drop at bytes) (map stream_tree ss) (drop len bytes) each in
      record {
        within = h.within;
        end = h.end;
        tree = array (trees (map stream_tree ss));
        is = refl;
        reply = reply_is limits (suc (suc (suc (suc (suc (suc (limits.depth - 6))))))) bytes
            (array (trees (map stream_tree ss))) len d h.end read;
      }

  pub map_filled : (at count len : ℕ) (held : Held) → IsMapAt limits bytes 0 count at
      → StreamsAdded limits bytes at true claim count len held → IsFilled limits bytes claim len held
  map_filled at count len held head h =
      let ss = map (stream_in bytes held.entries held.fields) held.streams in
      let d : suc (suc (suc (suc (suc (suc (limits.depth - 6)))))) ≡ limits.depth = omega arith in
      let inner = value_at limits (suc (suc (suc (suc (suc (limits.depth - 6)))))) in
      let read = head.reads (suc (suc (suc (suc (suc (limits.depth - 6))))))
      ∙ map_of inner count (drop at bytes) (flat_map (stream_members true) ss) (map stream_pair ss) (drop len bytes)
      (h.reads (limits.depth - 6)) (map_members ss) in
      record {
        within = h.within;
        end = h.end;
        tree = map_of_pairs (pairs (map stream_pair ss));
        is = refl;
        reply = reply_is limits (suc (suc (suc (suc (suc (suc (limits.depth - 6))))))) bytes
            (map_of_pairs (pairs (map stream_pair ss))) len d h.end read;
      }

-- ---- its reading

abbrev one_stream : SentStream → Streams
one_stream s = copied_stream s ∷ []

-- a pair of a map as a map of one pair
abbrev pair_tree : SentStream → Tree
pair_tree s = single (stream_pair s)

stream_from : (reading : Tree → Option (List Entry)) (s : SentStream) (o : Option (List Entry))
    → is_utf8 s.name ≡ true → reading (rows_tree s.entries) ≡ o
    → table_reading reading (stream_tree s) ≡ option_map (λ es. (s.name, es) ∷ []) o
stream_from reading s None text is = rw (text, is) refl
stream_from reading s (Some es) text is = rw (text, is) refl

pair_from : (reading : Tree → Option (List Entry)) (s : SentStream) (o : Option (List Entry))
    → is_utf8 s.name ≡ true → reading (rows_tree s.entries) ≡ o
    → table_reading reading (pair_tree s) ≡ option_map (λ es. (s.name, es) ∷ []) o
pair_from reading s None text is = rw (text, is) refl
pair_from reading s (Some es) text is = rw (text, is) refl

singles : (ss : List SentStream) → map single (map stream_pair ss) ≡ map pair_tree ss
singles [] = refl
singles (s ∷ ss) = ap (λ (ts : List Tree). pair_tree s ∷ ts) (singles ss)

joined_streams : (ss : List SentStream) → joined (map one_stream ss) ≡ copied_streams ss
joined_streams [] = refl
joined_streams (s ∷ ss) = ap (λ (xs : Streams). copied_stream s ∷ xs) (joined_streams ss)

-- if rows have entries, they are those
module _ (form : Tree → Option (List Entry)) where
  stream_agrees : (s : SentStream) → is_utf8 s.name ≡ true
      → Agrees (entries_reading form (rows_tree s.entries)) (map copied s.entries)
      → Agrees (table_reading (entries_reading form) (stream_tree s)) (one_stream s)
  stream_agrees s text h =
      let o = entries_reading form (rows_tree s.entries) in
      subst (λ x. Agrees x (one_stream s)) (sym (stream_from (entries_reading form) s o text refl))
      (agrees_map (λ es. (s.name, es) ∷ []) o (map copied s.entries) h)

  pair_agrees : (s : SentStream) → is_utf8 s.name ≡ true
      → Agrees (entries_reading form (rows_tree s.entries)) (map copied s.entries)
      → Agrees (table_reading (entries_reading form) (pair_tree s)) (one_stream s)
  pair_agrees s text h =
      let o = entries_reading form (rows_tree s.entries) in
      subst (λ x. Agrees x (one_stream s)) (sym (pair_from (entries_reading form) s o text refl))
      (agrees_map (λ es. (s.name, es) ∷ []) o (map copied s.entries) h)

  -- the streams of a reply, one by one
  module _ (tree_of : SentStream → Tree) (ss : List SentStream)
      (h : AllByRecursion (λ s. Agrees (table_reading (entries_reading form) (tree_of s)) (one_stream s)) ss) where
    all_agree : Agrees (option_map joined (traverse (table_reading (entries_reading form)) (map tree_of ss)))
        (copied_streams ss)
    all_agree =
        let o = traverse (table_reading (entries_reading form)) (map tree_of ss) in
        subst (Agrees (option_map joined o)) (joined_streams ss) (agrees_map joined o (map one_stream ss)
        (agrees_all (table_reading (entries_reading form)) tree_of one_stream ss h))

  abbrev HasRows : SentStream → Type 0
  HasRows s = Agrees (entries_reading form (rows_tree s.entries)) (map copied s.entries)

  arrays : (ss : List SentStream) → AllByRecursion IsTextStream ss → AllByRecursion HasRows ss
      → AllByRecursion (λ s. Agrees (table_reading (entries_reading form) (stream_tree s)) (one_stream s)) ss
  arrays [] h f = tt
  arrays (s ∷ ss) h f = (stream_agrees s h.0.name f.0, arrays ss h.1 f.1)

  maps : (ss : List SentStream) → AllByRecursion IsTextStream ss → AllByRecursion HasRows ss
      → AllByRecursion (λ s. Agrees (table_reading (entries_reading form) (pair_tree s)) (one_stream s)) ss
  maps [] h f = tt
  maps (s ∷ ss) h f = (pair_agrees s h.0.name f.0, maps ss h.1 f.1)

  tree_agrees : (ss : List SentStream) (t : Tree) → IsReadTree ss t → AllByRecursion IsTextStream ss
      → AllByRecursion HasRows ss → Agrees (streams_reading form t) (copied_streams ss)
  tree_agrees ss nil is h f = rw is refl
  tree_agrees ss (array ts) is h f =
      rw (is, listed_trees (map stream_tree ss)) (all_agree stream_tree ss (arrays ss h f))
  tree_agrees ss (map_of_pairs ps) is h f =
      rw (is, listed_pairs (map stream_pair ss), singles ss) (all_agree pair_tree ss (maps ss h f))
  tree_agrees ss (int z) is h f = absurd is
  tree_agrees ss (bulk b) is h f = absurd is
  tree_agrees ss (simple b) is h f = absurd is
  tree_agrees ss okay is h f = absurd is
  tree_agrees ss (attribute t ps) is h f = absurd is
  tree_agrees ss (set ts) is h f = absurd is
  tree_agrees ss (boolean b) is h f = absurd is
  tree_agrees ss (verbatim a b) is h f = absurd is
  tree_agrees ss (push k ts) is h f = absurd is

-- if all rows have entries, the reply has these streams
module _ (form : Tree → Option (List Entry)) where
  abbrev HasEntries : SentStream → Type 0
  HasEntries s = entries_reading form (rows_tree s.entries) ≡ Some (map copied s.entries)

  trees_told : (ss : List SentStream) → AllByRecursion IsTextStream ss → AllByRecursion HasEntries ss
      → traverse (table_reading (entries_reading form)) (map stream_tree ss) ≡ Some (map one_stream ss)
  trees_told [] h f = refl
  trees_told (s ∷ ss) h f =
      rw (stream_from (entries_reading form) s (Some (map copied s.entries)) h.0.name f.0, trees_told ss h.1 f.1) refl

  pairs_told : (ss : List SentStream) → AllByRecursion IsTextStream ss → AllByRecursion HasEntries ss
      → traverse (table_reading (entries_reading form)) (map pair_tree ss) ≡ Some (map one_stream ss)
  pairs_told [] h f = refl
  pairs_told (s ∷ ss) h f =
      rw (pair_from (entries_reading form) s (Some (map copied s.entries)) h.0.name f.0, pairs_told ss h.1 f.1) refl

  tree_read : (ss : List SentStream) (t : Tree) → IsReadTree ss t → AllByRecursion IsTextStream ss
      → AllByRecursion HasEntries ss → streams_reading form t ≡ Some (copied_streams ss)
  tree_read ss nil is h f = rw is refl
  tree_read ss (array ts) is h f =
      rw (is, listed_trees (map stream_tree ss), trees_told ss h f, joined_streams ss) refl
  tree_read ss (map_of_pairs ps) is h f =
      rw (is, listed_pairs (map stream_pair ss), singles ss, pairs_told ss h f, joined_streams ss) refl
  tree_read ss (int z) is h f = absurd is
  tree_read ss (bulk b) is h f = absurd is
  tree_read ss (simple b) is h f = absurd is
  tree_read ss okay is h f = absurd is
  tree_read ss (attribute t ps) is h f = absurd is
  tree_read ss (set ts) is h f = absurd is
  tree_read ss (boolean b) is h f = absurd is
  tree_read ss (verbatim a b) is h f = absurd is
  tree_read ss (push k ts) is h f = absurd is

-- ---- both forms

abbrev IsStandardStream : SentStream → Type 0
IsStandardStream s = AllByRecursion IsStandard s.entries

abbrev IsClaimedStream : SentStream → Type 0
IsClaimedStream s = AllByRecursion IsClaimed s.entries

standard_rows : (ss : List SentStream) → AllByRecursion IsTextStream ss → AllByRecursion IsStandardStream ss
    → AllByRecursion (HasEntries standard_entries) ss
standard_rows [] h f = tt
standard_rows (s ∷ ss) h f = (range_entries s.entries h.0.entries f.0, standard_rows ss h.1 f.1)

claimed_rows : (ss : List SentStream) → AllByRecursion IsTextStream ss → AllByRecursion IsClaimedStream ss
    → AllByRecursion (HasEntries claim_entries) ss
claimed_rows [] h f = tt
claimed_rows (s ∷ ss) h f = (claimed_entries s.entries h.0.entries f.0, claimed_rows ss h.1 f.1)

no_standard_rows : (ss : List SentStream) → AllByRecursion IsTextStream ss → AllByRecursion IsClaimedStream ss
    → AllByRecursion (HasRows standard_entries) ss
no_standard_rows [] h f = tt
no_standard_rows (s ∷ ss) h f = (claimed_standard s.entries h.0.entries f.0, no_standard_rows ss h.1 f.1)

standard_read : (ss : List SentStream) (t : Tree) → IsReadTree ss t → AllByRecursion IsTextStream ss
    → AllByRecursion IsStandardStream ss → read_reading t ≡ Some (copied_streams ss)
unfolding standard_reading
standard_read ss t is h f = rw (tree_read standard_entries ss t is h (standard_rows ss h f)) refl

claimed_read : (ss : List SentStream) (t : Tree) → IsReadTree ss t → AllByRecursion IsTextStream ss
    → AllByRecursion IsClaimedStream ss → read_reading t ≡ Some (copied_streams ss)
unfolding standard_reading claim_reading
claimed_read ss t is h f = agrees_or (streams_reading standard_entries t) (streams_reading claim_entries t)
    (copied_streams ss) (tree_agrees standard_entries ss t is h (no_standard_rows ss h f))
    (tree_read claim_entries ss t is h (claimed_rows ss h f))

module _ (bytes : List ℕ) (entries : List EntryPlace) (fields : List FieldPlace)
    (each : AllByRecursion (IsField bytes) fields) where
  own_forms : (claim : Bool) → AllByRecursion (IsForm claim) entries → (s : StreamPlace)
      → AllByRecursion (IsForm claim) (own_entries entries s)
  own_forms claim forms s =
      all_taken (IsForm claim) (s.to - s.from) (drop s.from entries) (all_dropped (IsForm claim) s.from entries forms)

  sent_streams : AllByRecursion (IsEntry bytes (length fields)) entries → (claim : Bool)
      → AllByRecursion (IsForm claim) entries → (ss : List StreamPlace)
      → AllByRecursion (IsStream bytes (length entries)) ss
      → AllByRecursion IsSentStream (map (stream_in bytes entries fields) ss)
  sent_streams all claim forms [] h = tt
  sent_streams all claim forms (s ∷ ss) h =
      let own = all_taken (IsEntry bytes (length fields)) (s.to - s.from) (drop s.from entries)
      (all_dropped (IsEntry bytes (length fields)) s.from entries all) in (
        record {
          name = h.0.is_text;
          entries = sent_told bytes fields each claim (own_entries entries s) own (own_forms claim forms s);
        },
        sent_streams all claim forms ss h.1,
      )

  standard_streams : AllByRecursion (IsForm false) entries → (ss : List StreamPlace)
      → AllByRecursion IsStandardStream (map (stream_in bytes entries fields) ss)
  standard_streams forms [] = tt
  standard_streams forms (s ∷ ss) =
      (standard_told bytes fields each (own_entries entries s) (own_forms false forms s), standard_streams forms ss)

  claimed_streams : AllByRecursion (IsForm true) entries → (ss : List StreamPlace)
      → AllByRecursion IsClaimedStream (map (stream_in bytes entries fields) ss)
  claimed_streams forms [] = tt
  claimed_streams forms (s ∷ ss) =
      (claimed_told bytes fields each (own_entries entries s) (own_forms true forms s), claimed_streams forms ss)

sent_by : (limits : Limits) (bytes : List ℕ) (claim : Bool) (len : ℕ) (held : Held)
    → IsFilled limits bytes claim len held
    → AllByRecursion IsSentStream (map (stream_in bytes held.entries held.fields) held.streams)
sent_by limits bytes claim len held h =
    let w = h.within in
    sent_streams bytes held.entries held.fields w.fields w.entries claim w.forms held.streams w.streams

read_by : (limits : Limits) (bytes : List ℕ) (claim : Bool) (len : ℕ) (held : Held)
    → (h : IsFilled limits bytes claim len held)
    → AreAllNamed (map (stream_in bytes held.entries held.fields) held.streams)
    → read_reading h.tree ≡ Some (copied_streams (map (stream_in bytes held.entries held.fields) held.streams))
read_by limits bytes false len held h named =
    let w = h.within in
    let ss = map (stream_in bytes held.entries held.fields) held.streams in
    standard_read ss h.tree h.is (named_streams ss (sent_by limits bytes false len held h) named)
    (standard_streams bytes held.entries held.fields w.fields w.forms held.streams)
read_by limits bytes true len held h named =
    let w = h.within in
    let ss = map (stream_in bytes held.entries held.fields) held.streams in
    claimed_read ss h.tree h.is (named_streams ss (sent_by limits bytes true len held h) named)
    (claimed_streams bytes held.entries held.fields w.fields w.forms held.streams)

-- the streams of either form
pub read_is : (limits : Limits) (bytes : List ℕ) (claim : Bool) (len : ℕ) (held : Held) (ss : List SentStream)
    → IsFilled limits bytes claim len held → ss ≡ map (stream_in bytes held.entries held.fields) held.streams
    → IsRead limits bytes ss len
read_is limits bytes claim len held ss h is =
    rw is (record {
      within = h.end;
      tree = h.tree;
      is = h.is;
      reply = h.reply;
      sent = sent_streams_read (map (stream_in bytes held.entries held.fields) held.streams) h.tree h.is
          (sent_by limits bytes claim len held h);
      reading = read_by limits bytes claim len held h;
    })
