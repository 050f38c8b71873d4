-- Entries that are appended as the items of a list are read, and the entries of one item.
use Rattle.std.proofs.Common.{◌≡◌, ◌≢◌, inl, inr, ⊎_elim, ℕ, List, [], ◌∷◌, ◌++◌, map, Option, Some, None, option_map}
use Rattle.std.proofs.Common.{option_and_then, refl, sym, ◌∙◌, ap, subst, append_assoc}
use Rattle.std.proofs.lemmas.List.{append-nil}
use Rattle.std.proofs.lemmas.Option.{none-some, same_Some}
use Rattle.std.specs.Prelude.{MatchOption}
use Rattle.redis_resp.specs.Tree.{Tree, pairs_in}
use Rattle.redis_resp.specs.Text.{text_reading}
use Rattle.redis_resp.specs.Reading.{traverse, option_reading}
use Rattle.redis_resp.specs.Table.{Fields, entry_reading, table_of}
use Rattle.redis_resp.specs.Refusal.{Refuses, MemoryOr, OneRefused, RefusesEntry}
use Rattle.redis_resp.specs.declared.value.error.ParsingError.{ParsingError}
use Rattle.redis_resp.specs.declared.value.error.ParsingError.TheVariants.{NotPairs, Memory}
use Rattle.redis_resp.proofs.ReadLemmas.{ReadSoFar, read_start, read_next, read_all, read_refused, any_behind}
use Rattle.stream_entries.specs.AutoClaim.{entries_by_kind, id_entries, ids}
use Rattle.stream_entries.specs.Entry.{Entry, entry_of}
use Rattle.stream_entries.specs.ItemsLeft.{exactly_one, pair_in}
use Rattle.stream_entries.specs.Refusal.{RefusesFields, RefusesRow}
use Rattle.stream_entries.specs.Rows.{appended, entries_reading, field_reading, items_entries, joined, row_reading}
use Rattle.stream_entries.specs.Rows.{rows_reading, standard_entries}
use Rattle.stream_entries.proofs.RowsLemmas.{list_shown}

joined_more : {A : Type 0} (done : List (List A)) (es : List A) → joined (done ++ es ∷ []) ≡ joined done ++ es
joined_more [] es = append-nil es
joined_more (d ∷ done) es = ap (λ r. d ++ r) (joined_more done es) ∙ sym (append_assoc d (joined done) es)

-- what was read so far; its entries are there in order
pub record EntriesSoFar (form : Tree → Option (List Entry)) (all rest : List Tree) (entries : List Entry) : Type 0 where
  pub done : List (List Entry)
  pub read : ReadSoFar form all rest done
  pub is : entries ≡ joined done

module _ (form : Tree → Option (List Entry)) (all : List Tree) where
  pub entries_start : (entries : List Entry) → entries ≡ [] → EntriesSoFar form all all entries
  entries_start entries e = record { done = []; read = read_start form all [] refl; is = e }

  pub entries_next : (left rest : List Tree) (x : Tree) (old new : List Entry) → left ≡ x ∷ rest
      → appended old (form x) ≡ Some new → EntriesSoFar form all left old → EntriesSoFar form all rest new
  entries_next left rest x old new steps is r = by (form x) refl is
    where
      by : (o : Option (List Entry)) → form x ≡ o → appended old o ≡ Some new → EntriesSoFar form all rest new
      by None e h = absurd cc
      by (Some es) e h = record {
        done = r.done ++ es ∷ [];
        read = read_next form all left rest x es r.done (r.done ++ es ∷ []) steps e refl r.read;
        is = sym (same_Some (old ++ es) new h) ∙ ap (λ l. l ++ es) r.is ∙ sym (joined_more r.done es);
      }

  pub entries_all : (left : List Tree) (entries : List Entry) → left ≡ [] → EntriesSoFar form all left entries
      → items_entries form all ≡ Some entries
  entries_all left entries e r = ap (option_map joined) (read_all form all left r.done e r.read) ∙ ap Some (sym r.is)

  -- an item is refused
  pub entries_refused : (refuses : Tree → ParsingError → Type 0) (error : ParsingError) (left rest : List Tree)
      (x : Tree) (entries : List Entry) → left ≡ x ∷ rest → Refuses form (MemoryOr refuses) x error
      → EntriesSoFar form all left entries → Refuses (items_entries form) (OneRefused refuses) all error
  entries_refused refuses error left rest x entries steps why r =
      let told = read_refused form all refuses error left rest x r.done steps why r.read in
      (told.0, λ h. ap (option_map joined) (told.1 h))

-- a row of exactly one pair
module _ (t : Tree) where
  -- the pair of a value that has exactly one is the only one
  pub only_pair : (p : Tree × Tree) → pair_in t ≡ Some p → pairs_in t ≡ Some (p ∷ [])
  only_pair p is = by (pairs_in t) is
    where
      by : (o : Option (List (Tree × Tree))) → option_and_then exactly_one o ≡ Some p → o ≡ Some (p ∷ [])
      by None e = absurd (none-some p e)
      by (Some []) e = absurd (none-some p e)
      by (Some (q ∷ [])) e = ap (λ r. Some (r ∷ [])) (same_Some q p e)
      by (Some (q ∷ r ∷ qs)) e = absurd (none-some p e)

  module _ (p : Tree × Tree) (is : pairs_in t ≡ Some (p ∷ [])) where
    pub one_pair : (old new : List Entry) → option_map (λ m. old ++ entry_of m ∷ []) (entry_reading field_reading p)
        ≡ Some new → appended old (standard_entries t) ≡ Some new
    one_pair old new h =
        ap
        (λ o. appended old
        (option_map (map entry_of)
        (option_map table_of (option_and_then (traverse (entry_reading field_reading)) o)))) is
        ∙ by (entry_reading field_reading p) ∙ h
      where
        by : (o : Option (List ℕ × Fields Tree))
            → option_map (λ es. old ++ es)
            (option_map (map entry_of)
            (option_map table_of (option_and_then (λ m. option_map (λ ms. m ∷ ms) (Some [])) o)))
            ≡ option_map (λ m. old ++ entry_of m ∷ []) o
        by None = refl
        by (Some m) = refl

    pub one_refused : (error : ParsingError)
        → Refuses (entry_reading field_reading) (MemoryOr (RefusesEntry (Refuses field_reading RefusesFields))) p error
        → Refuses standard_entries (MemoryOr (Refuses row_reading RefusesRow)) t error
    one_refused error why = (⊎_elim inl (λ r. inr (pairs r, none)) why.0, λ h. ap (option_map (map entry_of)) (none h))
      where
        none : error ≢ Memory → row_reading t ≡ None
        none h = ap (λ o. option_map table_of (option_and_then (traverse (entry_reading field_reading)) o)) is
            ∙ ap (λ o. option_map table_of (option_and_then (λ m. option_map (λ ms. m ∷ ms) (Some [])) o)) (why.1 h)

        pairs : RefusesEntry (Refuses field_reading RefusesFields) p error → RefusesRow t error
        pairs r =
            subst
            (λ o. MatchOption o (error ≡ NotPairs)
            (λ ps. OneRefused (RefusesEntry (Refuses field_reading RefusesFields)) ps error)) (sym is)
            (inr (any_behind (λ q. RefusesEntry (Refuses field_reading RefusesFields) q error) [] p [] r))

-- lists of rows and of ids are read item by item
pub rows_are_entries : (t : Tree) → rows_reading t ≡ entries_reading standard_entries t
unfolding rows_reading
rows_are_entries t = refl

pub ids_are_entries : (t : Tree) → entries_by_kind ids t
    ≡ entries_reading (λ u. option_map id_entries (option_reading text_reading u)) t
ids_are_entries t = sym (list_shown (option_reading text_reading) id_entries t)
