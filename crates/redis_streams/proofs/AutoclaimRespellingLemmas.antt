-- The properties of an automatic claim that a respelling keeps.
use Rattle.std.proofs.Common.{◌≡◌, inl, inr, ℕ, List, [], ◌∷◌, length, Option, Some, None, option_map, option_and_then}
use Rattle.std.proofs.Common.{refl, sym, ◌∙◌, ap, flat_map}
use Rattle.redis_resp.specs.Tree.{Tree, nil, array, map_of_pairs, array_of_plain}
use Rattle.redis_resp.specs.Text.{text_reading}
use Rattle.redis_resp.specs.Reading.{traverse, list_reading, option_reading}
use Rattle.stream_entries.specs.Rows.{joined, standard_entries, rows_reading}
use Rattle.stream_entries.specs.AutoClaim.{ClaimedKind, nils, ids, rows, kind_of_items, shape_of_items}
use Rattle.stream_entries.specs.AutoClaim.{claimed_by_shape, claimed_reading, entries_by_kind, id_entries, two_or_three}
use Rattle.stream_entries.specs.AutoClaim.{autoclaim_of, autoclaim_reading, AutoClaim}
use Rattle.stream_entries.specs.Respelling.{Alike, BothAlike, IsArray, IsMap, ClaimedAlike, ArraysAlike, AlikeAtSecond}
use Rattle.stream_entries.specs.Respelling.{AutoclaimAlike}
use Rattle.stream_entries.specs.RespellingLaws.{HoldsOfEqual, IsSymmetric, KeepsRecord}
use Rattle.redis_streams.proofs.AutoClaimLawLemmas.{items_of_array}
use Rattle.stream_entries.proofs.RespellingLemmas.{alike_back, both_back, rows_back, traverse_alike, standard_alike}

-- The relation in the other direction.

claimed_back : IsSymmetric ClaimedAlike
claimed_back v w (inl e) = inl (sym e)
claimed_back v w (inr (r, inl k)) = inr (rows_back v w r, inl (k.1, k.0))
claimed_back v w (inr (r, inr k)) = inr (rows_back v w r, inr (k.1, k.0))

arrays_back : (R : List Tree → List Tree → Type 0) → ((xs ys : List Tree) → R xs ys → R ys xs)
    → IsSymmetric (ArraysAlike R)
arrays_back R h v w (inl e) = inl (sym e)
arrays_back R h v w (inr a) = inr (both_back R R h (array_of_plain v) (array_of_plain w) a)

second_back : (R : Tree → Tree → Type 0) → IsSymmetric R → (xs ys : List Tree) → AlikeAtSecond R xs ys
    → AlikeAtSecond R ys xs
second_back R h (x ∷ v ∷ xs) (y ∷ w ∷ ys) a = (sym a.0, h v w a.1, sym a.2)
second_back R h [] [] a = refl
second_back R h [] (y ∷ []) a = sym a
second_back R h [] (y ∷ w ∷ ys) a = sym a
second_back R h (x ∷ []) [] a = sym a
second_back R h (x ∷ []) (y ∷ []) a = sym a
second_back R h (x ∷ []) (y ∷ w ∷ ys) a = sym a
second_back R h (x ∷ v ∷ xs) [] a = sym a
second_back R h (x ∷ v ∷ xs) (y ∷ []) a = sym a

pub autoclaim_back : IsSymmetric AutoclaimAlike
autoclaim_back v w a = arrays_back (AlikeAtSecond (ArraysAlike (Alike ClaimedAlike)))
    (second_back (ArraysAlike (Alike ClaimedAlike))
    (arrays_back (Alike ClaimedAlike) (alike_back ClaimedAlike ClaimedAlike claimed_back))) v w a

pub autoclaim_of_equal : HoldsOfEqual AutoclaimAlike
autoclaim_of_equal v w e = inl e

-- The kind of a claimed list is the same for every list that is alike.

array_decides : (x : Tree) (xs : List Tree) → IsArray x → kind_of_items (x ∷ xs) ≡ Some rows
array_decides (array ts) xs a = refl
array_decides _ xs a = absurd a

map_decides : (x : Tree) (xs : List Tree) → IsMap x → kind_of_items (x ∷ xs) ≡ None
map_decides (map_of_pairs ps) xs a = refl
map_decides _ xs a = absurd a

kind_behind : (x : Tree) (xs ys : List Tree) → kind_of_items xs ≡ kind_of_items ys
    → kind_of_items (x ∷ xs) ≡ kind_of_items (x ∷ ys)
kind_behind nil xs ys h = h
kind_behind _ xs ys h = refl

kind_alike : (xs ys : List Tree) → Alike ClaimedAlike xs ys → kind_of_items xs ≡ kind_of_items ys
kind_alike [] [] a = refl
kind_alike [] (y ∷ ys) a = absurd a
kind_alike (x ∷ xs) [] a = absurd a
kind_alike (x ∷ xs) (y ∷ ys) a = by (kind_alike xs ys a.1) a.0
  where
    by : kind_of_items xs ≡ kind_of_items ys → ClaimedAlike x y → kind_of_items (x ∷ xs) ≡ kind_of_items (y ∷ ys)
    by h (inl e) = kind_behind x xs ys h ∙ ap (λ t. kind_of_items (t ∷ ys)) e
    by h (inr (r, inl k)) = array_decides x xs k.0 ∙ sym (array_decides y ys k.1)
    by h (inr (r, inr k)) = map_decides x xs k.0 ∙ sym (map_decides y ys k.1)

length_alike : (xs ys : List Tree) → Alike ClaimedAlike xs ys → length xs ≡ length ys
length_alike [] [] a = refl
length_alike [] (y ∷ ys) a = absurd a
length_alike (x ∷ xs) [] a = absurd a
length_alike (x ∷ xs) (y ∷ ys) a = rw (length_alike xs ys a.1) refl

-- Its entries are the same by each kind.

array_is_no_id : (x : Tree) → IsArray x → option_reading text_reading x ≡ None
array_is_no_id (array ts) a = refl
array_is_no_id _ a = absurd a

map_is_no_id : (x : Tree) → IsMap x → option_reading text_reading x ≡ None
map_is_no_id (map_of_pairs ps) a = refl
map_is_no_id _ a = absurd a

claimed_id : KeepsRecord ClaimedAlike (option_reading text_reading)
claimed_id x y (inl e) = ap (option_reading text_reading) e
claimed_id x y (inr (r, inl k)) = array_is_no_id x k.0 ∙ sym (array_is_no_id y k.1)
claimed_id x y (inr (r, inr k)) = map_is_no_id x k.0 ∙ sym (map_is_no_id y k.1)

claimed_row : KeepsRecord ClaimedAlike standard_entries
claimed_row x y (inl e) = ap standard_entries e
claimed_row x y (inr (r, k)) = standard_alike x y r

-- two claimed lists that are alike
module _ (c d : Tree) (xs ys : List Tree) (of_c : array_of_plain c ≡ Some xs) (of_d : array_of_plain d ≡ Some ys)
    (alike : Alike ClaimedAlike xs ys) where
  list_of : {M : Type 0} (f : Tree → Option M) → KeepsRecord ClaimedAlike f → list_reading f c ≡ list_reading f d
  list_of f h = ap (option_and_then (traverse f)) (items_of_array c xs of_c)
      ∙ traverse_alike ClaimedAlike f h xs ys alike ∙ sym (ap (option_and_then (traverse f)) (items_of_array d ys of_d))

  rows_of : rows_reading c ≡ rows_reading d
  unfolding rows_reading
  rows_of = ap (option_map joined) (list_of standard_entries claimed_row)

  entries_of : (kind : ClaimedKind) → entries_by_kind kind c ≡ entries_by_kind kind d
  entries_of nils = refl
  entries_of ids = ap (option_map (flat_map id_entries)) (list_of (option_reading text_reading) claimed_id)
  entries_of rows = rows_of

  by_shape : (o : Option ClaimedKind) (n : ℕ) → option_and_then (claimed_by_shape c) (option_map (λ kind. (kind, n)) o)
      ≡ option_and_then (claimed_by_shape d) (option_map (λ kind. (kind, n)) o)
  by_shape None n = refl
  by_shape (Some kind) n = rw (entries_of kind) refl

  claimed_of : claimed_reading c ≡ claimed_reading d
  claimed_of = ap (λ o. option_and_then (claimed_by_shape c) (option_and_then shape_of_items o)) of_c
      ∙ by_shape (kind_of_items xs) (length xs)
      ∙ rw (kind_alike xs ys alike, length_alike xs ys alike) refl
      ∙ sym (ap (λ o. option_and_then (claimed_by_shape d) (option_and_then shape_of_items o)) of_d)

claimed_alike : KeepsRecord (ArraysAlike (Alike ClaimedAlike)) claimed_reading
claimed_alike c d (inl e) = ap claimed_reading e
claimed_alike c d (inr a) = by (array_of_plain c) (array_of_plain d) refl refl a
  where
    by : (o p : Option (List Tree)) → array_of_plain c ≡ o → array_of_plain d ≡ p → BothAlike (Alike ClaimedAlike) o p
        → claimed_reading c ≡ claimed_reading d
    by None p e f b = absurd b
    by (Some xs) None e f b = absurd b
    by (Some xs) (Some ys) e f b = claimed_of c d xs ys e f b

-- The law.

abbrev of_members : List Tree → Option AutoClaim
of_members ts = option_and_then autoclaim_of (two_or_three ts)

parts_alike : (x v w : Tree) (ts : List Tree) → claimed_reading v ≡ claimed_reading w
    → of_members (x ∷ v ∷ ts) ≡ of_members (x ∷ w ∷ ts)
parts_alike x v w [] h = rw h refl
parts_alike x v w (d ∷ []) h = rw h refl
parts_alike x v w (d ∷ e ∷ ts) h = refl

members_alike : (xs ys : List Tree) → AlikeAtSecond (ArraysAlike (Alike ClaimedAlike)) xs ys
    → of_members xs ≡ of_members ys
members_alike (x ∷ v ∷ xs) (y ∷ w ∷ ys) a = parts_alike x v w xs (claimed_alike v w a.1)
    ∙ ap (λ t. of_members (t ∷ w ∷ xs)) a.0 ∙ ap (λ ts. of_members (y ∷ w ∷ ts)) a.2
members_alike [] ys a = ap of_members a
members_alike (x ∷ []) ys a = ap of_members a
members_alike (x ∷ v ∷ xs) [] a = ap of_members a
members_alike (x ∷ v ∷ xs) (y ∷ []) a = ap of_members a

abbrev of_array : Option (List Tree) → Option AutoClaim
of_array o = option_and_then autoclaim_of (option_and_then two_or_three o)

both_arrays : (o p : Option (List Tree)) → BothAlike (AlikeAtSecond (ArraysAlike (Alike ClaimedAlike))) o p
    → of_array o ≡ of_array p
both_arrays None p a = absurd a
both_arrays (Some xs) None a = absurd a
both_arrays (Some xs) (Some ys) a = members_alike xs ys a

pub autoclaim_respells : KeepsRecord AutoclaimAlike autoclaim_reading
autoclaim_respells v w (inl e) = ap autoclaim_reading e
autoclaim_respells v w (inr a) = both_arrays (array_of_plain v) (array_of_plain w) a

pub ruleset autoclaim_laws = (autoclaim_respells, autoclaim_of_equal, autoclaim_back)
