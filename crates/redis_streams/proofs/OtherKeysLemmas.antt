-- A pair with a key that is not named changes no named field.
use Rattle.std.proofs.Common.{◌≡◌, ℕ, false, cond, List, [], ◌∷◌, ◌++◌, Option, Some, None, option_map, option_and_then}
use Rattle.std.proofs.Common.{refl, ap, codes}
use Rattle.std.specs.Bool.{⊤}
use Rattle.std.specs.Option.{option_or}
use Rattle.std.specs.Str.{bytes_eq}
use Rattle.redis_resp.specs.Tree.{Tree, pairs_in}
use Rattle.redis_resp.specs.Text.{text_reading}
use Rattle.redis_resp.specs.Reading.{traverse}
use Rattle.redis_resp.specs.Table.{entry_reading, last_with}
use Rattle.redis_streams.specs.Info.{NamedFields, stream_of, stream_reading, tracked_of, tracked_reading}
use Rattle.redis_streams.specs.Info.{consumer_of_fields, consumer_reading, group_of, group_reading}
use Rattle.redis_streams.specs.InfoFull.{full_consumer_of, full_consumer_reading, full_group_of, full_group_reading}
use Rattle.redis_streams.specs.InfoFull.{full_reading, full_stream_of}
use Rattle.redis_streams.specs.OtherKeys.{stream_names, tracked_names, consumer_names, group_names, full_consumer_names}
use Rattle.redis_streams.specs.OtherKeys.{full_group_names, full_names, IsOther, HasOtherKey, OtherKeysChangeNothing}

abbrev pub ReadPairs : Type 0
ReadPairs = Option (List (List ℕ × Tree))

abbrev pub pairs_read : List (Tree × Tree) → ReadPairs
pairs_read ps = traverse (entry_reading (λ u. Some u)) ps

-- both are refused, or have the same last value of each key but this
abbrev Alike : List ℕ → ReadPairs → ReadPairs → Type 0
Alike key None None = ⊤
Alike key (Some more) (Some ps) = (name : List ℕ) → bytes_eq name key ≡ false → last_with name more ≡ last_with name ps
Alike key None (Some ps) = ⊥
Alike key (Some more) None = ⊥

or_none : {A : Type 0} (o : Option A) → option_or o None ≡ o
or_none None = refl
or_none (Some a) = refl

put_first : (key : List ℕ) (value : Tree) (o : ReadPairs) → Alike key (option_map (λ ps. (key, value) ∷ ps) o) o
put_first key value None = tt
put_first key value (Some ps) = λ name apart. rw apart (or_none (last_with name ps))

one_before : (key : List ℕ) (p : List ℕ × Tree) (more o : ReadPairs) → Alike key more o
    → Alike key (option_map (λ ps. p ∷ ps) more) (option_map (λ ps. p ∷ ps) o)
one_before key p None None alike = tt
one_before key p None (Some ps) alike = absurd alike
one_before key p (Some ms) None alike = absurd alike
one_before key p (Some ms) (Some ps) alike =
    λ name apart. ap (λ o. option_or o (cond (bytes_eq name p.0) (Some p.1) None)) (alike name apart)

still_alike : (before after : List (Tree × Tree)) (key value : Tree) (text : List ℕ) → text_reading key ≡ Some text
    → Alike text (pairs_read (before ++ (key, value) ∷ after)) (pairs_read (before ++ after))
still_alike [] after key value text is = rw is (put_first text value (pairs_read after))
still_alike (p ∷ before) after key value text is =
    by (entry_reading (λ u. Some u) p) (still_alike before after key value text is)
  where
    by : (o : Option (List ℕ × Tree)) → Alike text (pairs_read (before ++ (key, value) ∷ after))
        (pairs_read (before ++ after))
        → Alike text (option_and_then (λ m. option_map (λ ms. m ∷ ms) (pairs_read (before ++ (key, value) ∷ after))) o)
        (option_and_then (λ m. option_map (λ ms. m ∷ ms) (pairs_read (before ++ after))) o)
    by None rest = tt
    by (Some m) rest = one_before text m (pairs_read (before ++ (key, value) ∷ after))
        (pairs_read (before ++ after)) rest

-- a record of named fields is the same if it reads only these names
abbrev LooksAt : {M : Type 0} → List (List ℕ) → (NamedFields → Option M) → Type 0
LooksAt names of = (f g : NamedFields) (key : List ℕ) → IsOther names key
    → ((name : List ℕ) → bytes_eq name key ≡ false → f name ≡ g name) → of f ≡ of g

module _ {M : Type 0} (names : List (List ℕ)) (of : NamedFields → Option M) (looks : LooksAt names of) where
  same : (key : List ℕ) (more o : ReadPairs) → IsOther names key → Alike key more o
      → option_and_then of (option_map (λ ps name. last_with name ps) more)
      ≡ option_and_then of (option_map (λ ps name. last_with name ps) o)
  same key None None other alike = refl
  same key None (Some ps) other alike = absurd alike
  same key (Some ms) None other alike = absurd alike
  same key (Some ms) (Some ps) other alike =
      looks (λ name. last_with name ms) (λ name. last_with name ps) key other alike

  change_nothing : OtherKeysChangeNothing names
      (λ t. option_and_then of (option_map (λ ps name. last_with name ps)
      (option_and_then (traverse (entry_reading (λ u. Some u))) (pairs_in t))))
  change_nothing t more h = rw (h.pairs, h.more_pairs)
      (same h.text (pairs_read (h.before ++ (h.key, h.value) ∷ h.after)) (pairs_read (h.before ++ h.after)) h.is_other
      (still_alike h.before h.after h.key h.value h.text h.is_text))

stream_looks : LooksAt stream_names stream_of
stream_looks f g key o e = rw (
  e (codes "last-generated-id") o.0,
  e (codes "radix-tree-keys") o.1.0,
  e (codes "radix-tree-nodes") o.1.1.0,
  e (codes "groups") o.1.1.1.0,
  e (codes "length") o.1.1.1.1.0,
  e (codes "first-entry") o.1.1.1.1.1.0,
  e (codes "last-entry") o.1.1.1.1.1.1.0,
) refl

tracked_looks : LooksAt tracked_names tracked_of
tracked_looks f g key o e = rw (
  e (codes "idmp-duration") o.0,
  e (codes "idmp-maxsize") o.1.0,
  e (codes "pids-tracked") o.1.1.0,
  e (codes "iids-tracked") o.1.1.1.0,
  e (codes "iids-added") o.1.1.1.1.0,
  e (codes "iids-duplicates") o.1.1.1.1.1.0,
  stream_looks f g key o.1.1.1.1.1.1 e,
) refl

consumer_looks : LooksAt consumer_names consumer_of_fields
consumer_looks f g key o e = rw (e (codes "name") o.0, e (codes "pending") o.1.0, e (codes "idle") o.1.1.0) refl

group_looks : LooksAt group_names group_of
group_looks f g key o e = rw (
  e (codes "name") o.0,
  e (codes "consumers") o.1.0,
  e (codes "pending") o.1.1.0,
  e (codes "last-delivered-id") o.1.1.1.0,
  e (codes "entries-read") o.1.1.1.1.0,
  e (codes "lag") o.1.1.1.1.1.0,
) refl

pub stream_law : OtherKeysChangeNothing stream_names stream_reading
stream_law = change_nothing stream_names stream_of stream_looks

pub tracked_law : OtherKeysChangeNothing tracked_names tracked_reading
tracked_law = change_nothing tracked_names tracked_of tracked_looks

pub consumer_law : OtherKeysChangeNothing consumer_names consumer_reading
consumer_law = change_nothing consumer_names consumer_of_fields consumer_looks

pub group_law : OtherKeysChangeNothing group_names group_reading
group_law = change_nothing group_names group_of group_looks

full_consumer_looks : LooksAt full_consumer_names full_consumer_of
full_consumer_looks f g key o e = rw (
  e (codes "name") o.0,
  e (codes "seen-time") o.1.0,
  e (codes "active-time") o.1.1.0,
  e (codes "pel-count") o.1.1.1.0,
  e (codes "pending") o.1.1.1.1.0,
) refl

full_group_looks : LooksAt full_group_names full_group_of
full_group_looks f g key o e = rw (
  e (codes "name") o.0,
  e (codes "last-delivered-id") o.1.0,
  e (codes "entries-read") o.1.1.0,
  e (codes "lag") o.1.1.1.0,
  e (codes "pel-count") o.1.1.1.1.0,
  e (codes "pending") o.1.1.1.1.1.0,
  e (codes "consumers") o.1.1.1.1.1.1.0,
) refl

full_looks : LooksAt full_names full_stream_of
full_looks f g key o e = rw (
  e (codes "length") o.0,
  e (codes "radix-tree-keys") o.1.0,
  e (codes "radix-tree-nodes") o.1.1.0,
  e (codes "last-generated-id") o.1.1.1.0,
  e (codes "max-deleted-entry-id") o.1.1.1.1.0,
  e (codes "entries-added") o.1.1.1.1.1.0,
  e (codes "recorded-first-entry-id") o.1.1.1.1.1.1.0,
  e (codes "entries") o.1.1.1.1.1.1.1.0,
  e (codes "groups") o.1.1.1.1.1.1.1.1.0,
) refl

pub full_consumer_law : OtherKeysChangeNothing full_consumer_names full_consumer_reading
full_consumer_law = change_nothing full_consumer_names full_consumer_of full_consumer_looks

pub full_group_law : OtherKeysChangeNothing full_group_names full_group_reading
full_group_law = change_nothing full_group_names full_group_of full_group_looks

pub full_law : OtherKeysChangeNothing full_names full_reading
full_law = change_nothing full_names full_stream_of full_looks
