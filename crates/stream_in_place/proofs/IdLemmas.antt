-- Ids that are found one after the other.
use Rattle.std.proofs.Common.{◌≡◌, ◌≤◌, ◌+◌, ◌∙◌, ℕ, suc, List, [], ◌∷◌, ◌++◌, map, length, drop, true, false}
use Rattle.std.proofs.Common.{refl, sym, ap, append_assoc, append-nil}
use Rattle.std.specs.List.{AllByRecursion}
use Rattle.std.specs.Str.{is_utf8}
use Rattle.redis_resp.specs.Tree.{bulk}
use Rattle.redis_wire.specs.declared.limits.Limits.{Limits}
use Rattle.redis_wire.specs.declared.place.Span.{Span}
use Rattle.redis_wire.specs.Level.{value_at}
use Rattle.redis_wire.specs.Place.{text_in, IsTextAt, IsArrayAt}
use Rattle.stream_entries.proofs.SkeletonLemmas.{all_append}
use Rattle.stream_in_place.specs.declared.places.EntryPlace.{EntryPlace}
use Rattle.stream_in_place.specs.Held.{Held}
use Rattle.stream_in_place.specs.AutoClaim.{ids_tree}
use Rattle.stream_in_place.specs.ClaimPlaced.{id_at, IsId}
use Rattle.stream_in_place.specs.AddedIds.{IdsAdded, DeletedAdded}
use Rattle.stream_in_place.proofs.ManyLemmas.{no_more, many_first, many_append}
use Rattle.stream_in_place.proofs.FillLemmas.{array_of, map_more, with_entries}

pub ids_told : (bytes : List ℕ) (es : List EntryPlace) → AllByRecursion (IsId bytes) es
    → AllByRecursion (λ i. is_utf8 i ≡ true) (map (id_at bytes) es)
ids_told bytes [] h = tt
ids_told bytes (e ∷ es) h = (h.0.is_text, ids_told bytes es h.1)

module _ (limits : Limits) (bytes : List ℕ) (at : ℕ) (old : Held) where
  pub ids_start : at ≤ length bytes → IdsAdded limits bytes at 0 at old old
  ids_start within = record {
    grown = record {
      more = [];
      is = ap (λ (es : List EntryPlace). with_entries old es old.fields) (sym (append-nil old.entries));
      each = tt;
    };
    end = within;
    reads = λ d. no_more (value_at limits (suc d)) (drop at bytes);
  }

  pub ids_more : (i behind after : ℕ) (id : Span) (e : EntryPlace) (before new : Held)
      → IdsAdded limits bytes at i behind old before
      → IsTextAt limits bytes behind id after → is_utf8 (text_in bytes id) ≡ true → id ≡ e.id
      → new ≡ with_entries before (before.entries ++ e ∷ []) before.fields
      → IdsAdded limits bytes at (i + 1) after old new
  ids_more i behind after id e before new h stands told is pushed =
      let g = h.grown in
      let named : IsTextAt limits bytes behind e.id after = rw is at stands in
      let text : is_utf8 (text_in bytes e.id) ≡ true = rw is at told in
      record {
        grown = record {
          more = g.more ++ e ∷ [];
          is = pushed ∙ ap (λ (y : Held). with_entries y (y.entries ++ e ∷ []) y.fields) g.is
              ∙ ap (λ (es : List EntryPlace). with_entries old es old.fields)
              (append_assoc old.entries g.more (e ∷ []));
          each = all_append (IsId bytes) g.more (e ∷ []) g.each (record { id = named.within; is_text = text }, tt);
        };
        end = named.end;
        reads = λ d.
            let inner = value_at limits (suc d) in
            let one = many_first inner 0 (drop behind bytes) (bulk (id_at bytes e)) (drop after bytes) []
            (drop after bytes) (named.reads d) (no_more inner (drop after bytes)) in
            let b = many_append inner i 1 (drop at bytes) (map bulk (map (id_at bytes) g.more)) (drop behind bytes)
            (bulk (id_at bytes e) ∷ []) (drop after bytes) (h.reads d) one in
            let all : map bulk (map (id_at bytes) (g.more ++ e ∷ []))
            ≡ map bulk (map (id_at bytes) g.more) ++ bulk (id_at bytes e) ∷ [] =
            ap (map bulk) (map_more (id_at bytes) g.more e)
            ∙ map_more bulk (map (id_at bytes) g.more) (id_at bytes e) in
            rw all b;
      }

  pub deleted_untold : at ≤ length bytes → DeletedAdded limits bytes at false at old old
  deleted_untold within = record {
    grown = record {
      more = [];
      is = ap (λ (es : List EntryPlace). with_entries old es old.fields) (sym (append-nil old.entries));
      each = tt;
    };
    none = λ _. refl;
    end = within;
    reads = λ d. no_more (value_at limits (suc (suc d))) (drop at bytes);
  }

  pub deleted_told : (count head after : ℕ) (new : Held) → IsArrayAt limits bytes at count head
      → IdsAdded limits bytes head count after old new → DeletedAdded limits bytes at true after old new
  deleted_told count head after new top h = record {
    grown = h.grown;
    none = λ e. absurd cc;
    end = h.end;
    reads = λ d.
        let inner = value_at limits (suc (suc d)) in
        let read = top.reads (suc d) ∙ array_of (value_at limits (suc d)) count (drop head bytes) _ (drop after bytes)
        (h.reads d) in
        many_first inner 0 (drop at bytes) (ids_tree (map (id_at bytes) h.grown.more)) (drop after bytes) []
        (drop after bytes) read (no_more inner (drop after bytes));
  }
