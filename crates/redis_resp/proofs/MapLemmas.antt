-- Maps into which pairs are inserted as they are read.
use Rattle.std.proofs.Common.{◌≡◌, ℕ, Bool, true, false, cond, List, [], ◌∷◌, ◌++◌, sym, ◌∙◌, ap, refl, Option, Some}
use Rattle.std.proofs.Common.{None, option_map, Global, String, string_bytes}
use Rattle.std.specs.Option.{option_or}
use Rattle.std.specs.Str.{bytes_eq}
use Rattle.std.specs.String.{string_eq}
use Rattle.std.specs.Cmp.Lexicographic.{nat_list_cmp_total}
use Rattle.std.specs.HashMap.{HashMap, Updates, get_by_text}
use Rattle.std.specs.FinMap.{from_entries, same_map, get-from_entries, slice_cmp-IsAntisymmetric}
use Rattle.std.specs.FinMap.{nat_cmp-IsAntisymmetric}
use Rattle.std.proofs.lemmas.Map.Text.{hash_map_updates_text}
use Rattle.indexmap.specs.IndexMap.{insert_entry}
use Rattle.redis_resp.specs.Tree.{Tree}
use Rattle.redis_resp.specs.Reading.{traverse}
use Rattle.redis_resp.specs.Refusal.{Refuses, OneRefused, RefusesEntry}
use Rattle.redis_resp.specs.Table.{entry_reading, entries_meaning, fields_of_read, last_with, table_of}
use Rattle.redis_resp.specs.declared.value.error.ParsingError.{ParsingError}
use Rattle.redis_resp.proofs.ReadLemmas.{ReadSoFar, read_start, read_next, read_all, read_refused, also_memory}
use Rattle.redis_resp.proofs.TableLemmas.{put, table_snoc, find_table, get_of_fields, flip_bytes}

-- what was read so far, of which a table holds each key once
pub record TableSoFar {M : Type 0} (reading : Tree → Option M) (all rest : List (Tree × Tree))
    (table : List (List ℕ × M)) : Type 0 where
  pub done : List (List ℕ × M)
  pub read : ReadSoFar (entry_reading reading) all rest done
  pub is : table ≡ table_of done

-- what was read so far, of which a map holds the last value of each key
pub record FieldsSoFar {M : Type 0} (reading : Tree → Option M) (all rest : List (Tree × Tree))
    (at : List ℕ → Option M) : Type 0 where
  pub done : List (List ℕ × M)
  pub read : ReadSoFar (entry_reading reading) all rest done
  pub is : (q : List ℕ) → at q ≡ last_with q done

last_snoc : {M : Type 0} (q : List ℕ) (ps : List (List ℕ × M)) (k : List ℕ) (m : M)
    → last_with q (ps ++ (k, m) ∷ []) ≡ cond (bytes_eq q k) (Some m) (last_with q ps)
last_snoc q [] k m = refl
last_snoc {M} q (p ∷ ps) k m = ap (λ o. option_or o (cond (bytes_eq q p.0) (Some p.1) None)) (last_snoc q ps k m)
    ∙ by (bytes_eq q k) (last_with q ps)
  where
    by : (b : Bool) (o : Option M) → option_or (cond b (Some m) o) (cond (bytes_eq q p.0) (Some p.1) None)
        ≡ cond b (Some m) (option_or o (cond (bytes_eq q p.0) (Some p.1) None))
    by true o = refl
    by false o = refl

mapped_cond : {A B : Type 0} (f : A → B) (b : Bool) (x y : A) → f (cond b x y) ≡ cond b (f x) (f y)
mapped_cond f true x y = refl
mapped_cond f false x y = refl

module _ {T M : Type 0} (meaning : T → M) where
  pub meaning_insert : (es : List (String Global × T)) (k : String Global) (v : T)
      → entries_meaning meaning (insert_entry string_eq es k v)
      ≡ put (entries_meaning meaning es) (string_bytes k) (meaning v)
  meaning_insert [] k v = refl
  meaning_insert (e ∷ es) k v = mapped_cond (entries_meaning meaning) (string_eq k e.0) _ _
      ∙ rw (meaning_insert es k v) refl

  pub meaning_inserted : (es more : List (String Global × T)) (k : String Global) (v : T)
      → more ≡ insert_entry string_eq es k v
      → entries_meaning meaning more ≡ put (entries_meaning meaning es) (string_bytes k) (meaning v)
  meaning_inserted es more k v is = ap (entries_meaning meaning) is ∙ meaning_insert es k v

  -- the value under a key, by its meaning
  abbrev pub at_key : {S : Type 0} → HashMap (String Global) T S → List ℕ → Option M
  at_key m q = option_map meaning (get_by_text m q)

  pub at_key_updates : {S : Type 0} (m n : HashMap (String Global) T S) (k : String Global) (v : T)
      → Updates string_eq m n k (Some v) → (q : List ℕ)
      → at_key n q ≡ cond (bytes_eq q (string_bytes k)) (Some (meaning v)) (at_key m q)
  at_key_updates m n k v h q = ap (option_map meaning) (hash_map_updates_text (string_bytes k) m n (Some v) h q)
      ∙ mapped_cond (option_map meaning) (bytes_eq (string_bytes k) q) (Some v) (get_by_text m q)
      ∙ ap (λ b. cond b (Some (meaning v)) (at_key m q)) (flip_bytes (string_bytes k) q _ _ refl refl)

module _ {M : Type 0} (reading : Tree → Option M) (all : List (Tree × Tree)) where
  pub table_start : (table : List (List ℕ × M)) → table ≡ [] → TableSoFar reading all all table
  table_start table e = record { done = []; read = read_start (entry_reading reading) all [] refl; is = e }

  pub table_next : (left rest : List (Tree × Tree)) (x : Tree × Tree) (k : List ℕ) (m : M)
      (table more : List (List ℕ × M)) → left ≡ x ∷ rest → entry_reading reading x ≡ Some (k, m)
      → more ≡ put table k m → TableSoFar reading all left table → TableSoFar reading all rest more
  table_next left rest x k m table more steps is into r = record {
    done = r.done ++ (k, m) ∷ [];
    read = read_next (entry_reading reading) all left rest x (k, m) r.done _ steps is refl r.read;
    is = into ∙ ap (λ d. put d k m) r.is ∙ sym (table_snoc r.done k m);
  }

  pub table_all : (left : List (Tree × Tree)) (table : List (List ℕ × M)) → left ≡ []
      → TableSoFar reading all left table → option_map table_of (traverse (entry_reading reading) all) ≡ Some table
  table_all left table e r = ap (option_map table_of) (read_all (entry_reading reading) all left r.done e r.read)
      ∙ ap Some (sym r.is)

  pub fields_start : (at : List ℕ → Option M) → ((q : List ℕ) → at q ≡ None) → FieldsSoFar reading all all at
  fields_start at e = record { done = []; read = read_start (entry_reading reading) all [] refl; is = e }

  pub fields_next : (left rest : List (Tree × Tree)) (x : Tree × Tree) (k : List ℕ) (m : M)
      (at more : List ℕ → Option M) → left ≡ x ∷ rest → entry_reading reading x ≡ Some (k, m)
      → ((q : List ℕ) → more q ≡ cond (bytes_eq q k) (Some m) (at q)) → FieldsSoFar reading all left at
      → FieldsSoFar reading all rest more
  fields_next left rest x k m at more steps is into r = record {
    done = r.done ++ (k, m) ∷ [];
    read = read_next (entry_reading reading) all left rest x (k, m) r.done _ steps is refl r.read;
    is = λ q. into q ∙ ap (cond (bytes_eq q k) (Some m)) (r.is q) ∙ sym (last_snoc q r.done k m);
  }

  -- one pair is refused
  module _ (refuses : Tree → ParsingError → Type 0) (error : ParsingError) (left rest : List (Tree × Tree))
      (x : Tree × Tree) (steps : left ≡ x ∷ rest)
      (why : Refuses (entry_reading reading) (RefusesEntry refuses) x error) where
    pub table_refused : (table : List (List ℕ × M)) → TableSoFar reading all left table
        → Refuses (traverse (entry_reading reading)) (OneRefused (RefusesEntry refuses)) all error
    table_refused table r = read_refused (entry_reading reading) all
        (RefusesEntry refuses) error left rest x r.done steps
        (also_memory (entry_reading reading) (RefusesEntry refuses) x error why) r.read

    pub fields_refused : (at : List ℕ → Option M) → FieldsSoFar reading all left at
        → Refuses (traverse (entry_reading reading)) (OneRefused (RefusesEntry refuses)) all error
    fields_refused at r = read_refused (entry_reading reading) all (RefusesEntry refuses) error left rest x r.done steps
        (also_memory (entry_reading reading) (RefusesEntry refuses) x error why) r.read

module _ {T M : Type 0} (reading : Tree → Option M) (meaning : T → M) (all : List (Tree × Tree)) where
  pub fields_all : {S : Type 0} (left : List (Tree × Tree)) (m : HashMap (String Global) T S) → left ≡ []
      → FieldsSoFar reading all left (at_key meaning m)
      → fields_of_read (traverse (entry_reading reading) all) ≡ Some (from_entries (entries_meaning meaning m.entries))
  fields_all left m e r = ap fields_of_read (read_all (entry_reading reading) all left r.done e r.read)
      ∙ ap Some (same_map nat_list_cmp_total (slice_cmp-IsAntisymmetric nat_cmp-IsAntisymmetric) _ _ (λ q.
      get-from_entries nat_list_cmp_total (table_of r.done) q ∙ find_table q r.done ∙ sym (r.is q)
      ∙ sym (get_of_fields meaning m q)))
