-- Lists of claimed entries.
use Rattle.std.proofs.Common.{◌≡◌, inl, inr, ℕ, List, ◌∷◌, length, nat_lt, Bool, Option, Some, None, option_map}
use Rattle.std.proofs.Common.{option_and_then, map, flat_map, Vec, String, string_bytes, Global, refl, sym, ◌∙◌, ap}
use Rattle.redis_resp.specs.Tree.{Tree, array_of_plain}
use Rattle.redis_resp.specs.Text.{text_reading}
use Rattle.redis_resp.specs.Reading.{list_reading, option_reading}
use Rattle.redis_resp.specs.Value.{tree}
use Rattle.redis_resp.specs.declared.value.Value.{Value, BulkString, Array}
use Rattle.redis_resp.proofs.TreeLemmas.{tree-Array, tree-BulkString, listed_trees}
use Rattle.std.proofs.lemmas.List.{length-map}
use Rattle.stream_entries.specs.Entry.{Entry}
use Rattle.stream_entries.specs.AutoClaim.{ClaimedKind, ids, rows, kind_of_items, claimed_shape, claimed_reading}
use Rattle.stream_entries.specs.AutoClaim.{entries_by_kind, id_entries, Parts, two_or_three, parts_in, deleted_reading}
use Rattle.stream_entries.specs.AutoClaim.{autoclaim_of, autoclaim_reading}
use Rattle.std.specs.Prelude.{MatchOption}
use Rattle.redis_resp.specs.Refusal.{Refuses}
use Rattle.redis_resp.specs.declared.value.error.ParsingError.{ParsingError}
use Rattle.redis_resp.specs.declared.value.error.ParsingError.TheVariants.{NotArray, WrongItemCount}
use Rattle.stream_entries.specs.Refusal.{RefusesClaimed, RefusesDeleted, RefusesPart, RefusesParts, RefusesTextIn}
use Rattle.stream_entries.specs.Refusal.{RefusesAutoClaim}
use Rattle.stream_entries.proofs.RowsLemmas.{flat_map-map}

pub kind_of_bulk : (v : Value) (b : Vec ℕ Global) (ts : List Tree) → v ≡ BulkString b
    → kind_of_items (tree v ∷ ts) ≡ Some ids
kind_of_bulk v b ts is = ap (λ t. kind_of_items (t ∷ ts)) (ap tree is ∙ tree-BulkString b)

pub kind_of_array : (v : Value) (w : Vec Value Global) (ts : List Tree) → v ≡ Array w
    → kind_of_items (tree v ∷ ts) ≡ Some rows
kind_of_array v w ts is = ap (λ t. kind_of_items (t ∷ ts)) (ap tree is ∙ tree-Array w)

shape_of_array : (v : Value) (w : Vec Value Global) → v ≡ Array w
    → claimed_shape (tree v) ≡ option_map (λ kind. (kind, length (map tree w.items))) (kind_of_items (map tree w.items))
shape_of_array v w is = ap claimed_shape (ap tree is ∙ tree-Array w)
    ∙ ap (λ ts. option_map (λ kind. (kind, length ts)) (kind_of_items ts)) (listed_trees (map tree w.items))

pub shape_there : (v : Value) (w : Vec Value Global) (xs : List Value) (kind : ClaimedKind) (count : ℕ) → v ≡ Array w
    → xs ≡ w.items → Some kind ≡ kind_of_items (map tree xs) → count ≡ length w.items
    → Some (kind, count) ≡ claimed_shape (tree v)
shape_there v w xs kind count is same there many =
    sym (shape_of_array v w is ∙ ap (option_map (λ k. (k, length (map tree w.items))))
    (ap (λ l. kind_of_items (map tree l)) (sym same) ∙ sym there)
    ∙ ap (λ n. Some (kind, n)) (length-map w.items tree ∙ sym many))

pub shape_missing : (v : Value) (w : Vec Value Global) (xs : List Value) → v ≡ Array w → xs ≡ w.items
    → None ≡ kind_of_items (map tree xs) → None ≡ claimed_shape (tree v)
shape_missing v w xs is same missing =
    sym (shape_of_array v w is ∙ ap (option_map (λ k. (k, length (map tree w.items))))
    (ap (λ l. kind_of_items (map tree l)) (sym same) ∙ sym missing))

pub ids_read : (t : Tree) (texts : List (Option (String Global))) (entries : List Entry)
    → list_reading (option_reading text_reading) t ≡ Some (map (option_map string_bytes) texts)
    → entries ≡ flat_map (λ id. id_entries (option_map string_bytes id)) texts → entries_by_kind ids t ≡ Some entries
ids_read t texts entries h e = ap (option_map (flat_map id_entries)) h
    ∙ ap Some (flat_map-map id_entries (option_map string_bytes) texts ∙ sym e)

pub ids_refused : (t : Tree) → list_reading (option_reading text_reading) t ≡ None → entries_by_kind ids t ≡ None
ids_refused t h = ap (option_map (flat_map id_entries)) h

pub claimed_read : (t : Tree) (kind : ClaimedKind) (count : ℕ) (entries : List Entry)
    → claimed_shape t ≡ Some (kind, count) → entries_by_kind kind t ≡ Some entries
    → claimed_reading t ≡ Some (entries, nat_lt (length entries) count)
claimed_read t kind count entries s e = rw (s, e) refl

pub claimed_refused : (t : Tree) (kind : ClaimedKind) (count : ℕ) → claimed_shape t ≡ Some (kind, count)
    → entries_by_kind kind t ≡ None → claimed_reading t ≡ None
claimed_refused t kind count s e = rw (s, e) refl

-- a reply is read from its parts, and refused if one of them is
module _ (t : Tree) (parts : Parts) (there : parts_in t ≡ Some parts) where
  by_parts : autoclaim_reading t ≡ autoclaim_of parts
  by_parts = ap (option_and_then autoclaim_of) there

  pub autoclaim_read : (claimed : List Entry) (deleted : List (List ℕ)) (next : List ℕ) (invalid : Bool)
      → claimed_reading parts.1 ≡ Some (claimed, invalid) → deleted_reading parts.2 ≡ Some deleted
      → text_reading parts.0 ≡ Some next → autoclaim_reading t ≡ Some
      (record { next = next; claimed = claimed; deleted = deleted; invalid = invalid })
  autoclaim_read claimed deleted next invalid c d n = by_parts ∙ rw (c, d, n) refl

  -- if the parts of a reply are there, its error is that of one of them
  module _ (error : ParsingError) where
    told : RefusesPart parts error → RefusesAutoClaim t error
    told p = in_parts (array_of_plain t) there
      where
        in_parts : (o : Option (List Tree)) → option_and_then two_or_three o ≡ Some parts
            → MatchOption o (error ≡ NotArray) (λ ts. MatchOption (two_or_three ts) (error ≡ WrongItemCount (length ts))
            (λ q. RefusesPart q error))
        in_parts None is = absurd cc
        in_parts (Some ts) is = rw is p

    pub claimed_part : Refuses claimed_reading RefusesClaimed parts.1 error
        → Refuses autoclaim_reading RefusesAutoClaim t error
    claimed_part r = (told (inl r.0), λ h. by_parts ∙ rw (r.1 h) refl)

    module _ (claimed : List Entry × Bool) (c : claimed_reading parts.1 ≡ Some claimed) where
      pub deleted_part : Refuses deleted_reading RefusesDeleted parts.2 error
          → Refuses autoclaim_reading RefusesAutoClaim t error
      deleted_part r = (told (inr (inl r.0)), λ h. by_parts ∙ rw (c, r.1 h) refl)

      pub next_part : (deleted : List (List ℕ)) → deleted_reading parts.2 ≡ Some deleted → RefusesTextIn parts.0 error
          → Refuses autoclaim_reading RefusesAutoClaim t error
      next_part deleted d r = (told (inr (inr r)), λ h. by_parts ∙ rw (c, d, r.1 h) refl)

-- a value that has no such parts
pub no_parts : (t : Tree) (error : ParsingError) → Refuses parts_in (RefusesParts (λ _ _. ⊥)) t error
    → Refuses autoclaim_reading RefusesAutoClaim t error
no_parts t error r = (by (array_of_plain t) r.0, λ h. ap (option_and_then autoclaim_of) (r.1 h))
  where
    inside : (count : ℕ) (o : Option Parts) → MatchOption o (error ≡ WrongItemCount count) (λ _. ⊥)
        → MatchOption o (error ≡ WrongItemCount count) (λ q. RefusesPart q error)
    inside count None e = e
    inside count (Some q) e = absurd e

    by : (o : Option (List Tree)) → MatchOption o (error ≡ NotArray)
        (λ ts. MatchOption (two_or_three ts) (error ≡ WrongItemCount (length ts)) (λ _. ⊥))
        → MatchOption o (error ≡ NotArray) (λ ts. MatchOption (two_or_three ts) (error ≡ WrongItemCount (length ts))
        (λ q. RefusesPart q error))
    by None e = e
    by (Some ts) e = inside (length ts) (two_or_three ts) e
