-- Streams that are read in both forms at once.
use Rattle.std.proofs.Common.{◌≡◌, ◌≢◌, ◌⊎◌, inl, inr, ◌++◌, ◌&&◌, ◌<◌, length, arith, ℕ, Bool, true, false, List, []}
use Rattle.std.proofs.Common.{◌∷◌, map, Option, Some, None, option_map, option_and_then, refl, sym, ◌∙◌, ap, String}
use Rattle.std.proofs.Common.{Vec, Global, string_bytes}
use Rattle.std.proofs.lemmas.List.{map-append}
use Rattle.std.proofs.lemmas.List.Folds.{list_all-map}
use Rattle.std.specs.List.{list_all}
use Rattle.std.specs.Option.{is_some, option_or}
use Rattle.redis_resp.specs.Tree.{Tree, items, pairs_in}
use Rattle.redis_resp.specs.Refusal.{Refuses}
use Rattle.redis_resp.specs.Text.{text_reading}
use Rattle.redis_resp.specs.declared.value.error.ParsingError.{ParsingError}
use Rattle.redis_resp.specs.declared.value.error.ParsingError.TheVariants.{Memory, UnknownReadFormat}
use Rattle.redis_resp.specs.Reading.{traverse, both_read}
use Rattle.redis_resp.specs.Table.{entry_reading, entries_meaning, pairs_reading, table_reading, table_of, on_values}
use Rattle.redis_resp.proofs.TableLemmas.{table_values, meaning_of_named}
use Rattle.redis_resp.proofs.TraverseLemmas.{traverse_then, traverse_same}
use Rattle.stream_entries.specs.Entry.{Entry}
use Rattle.stream_entries.specs.Rows.{joined, entries_reading, standard_entries}
use Rattle.stream_entries.specs.Read.{Streams, claim_entries, standard_reading, claim_reading, read_reading}
use Rattle.stream_entries.specs.InForms.{InForms, behind, behind_in_forms, entries_in_forms, pair_in_forms}
use Rattle.stream_entries.specs.InForms.{row_in_forms, rows_in_forms, some_form}
use Rattle.stream_entries.specs.InFormsMeaning.{entries_held, held_in, list_or_none, keys_in, only_if, streams_held}
use Rattle.stream_entries.specs.ItemsLeft.{pair_in}
use Rattle.stream_entries.specs.Refusal.{HasItems, RefusesRead}
use Rattle.stream_entries.specs.declared.entries.Entries.{Entries}
use Rattle.stream_entries.specs.declared.overlap.Form.{Form}
use Rattle.stream_entries.specs.declared.overlap.Form.TheVariants.{Standard, Claim}
use Rattle.stream_entries.specs.declared.streams.OpenStreams.{OpenStreams}
use Rattle.stream_entries.proofs.InFormsLemmas.{in_both}
use Rattle.stream_entries.proofs.ItemsLeftLemmas.{table_of_pair}

-- Streams after streams, each under its condition.

kept_both : {A : Type 0} (b c : Bool) (done more : List A)
    → behind (only_if b done) (only_if c more) ≡ only_if (b && c) (done ++ more)
kept_both true true done more = refl
kept_both true false done more = refl
kept_both false c done more = refl

kept_one : (key : List ℕ) (o : Option (List Entry))
    → option_map {T = List ℕ × List Entry} (λ k. k ∷ []) (option_map (λ es. (key, es)) o)
    ≡ only_if (is_some o) ((key, list_or_none o) ∷ [])
kept_one key None = refl
kept_one key (Some es) = refl

-- nothing is read, and both forms are open
pub no_streams : (keys : Vec (String Global × Entries) Global) → keys.items ≡ []
    → streams_held (record { forms = record { standard = true; claim = true }; keys = keys }) ≡ (Some [], Some [])
no_streams keys e =
    ap
    (λ (es : List (String Global × Entries)). (
      Some (entries_meaning (λ e. list_or_none (held_in Standard (entries_held e))) es),
      Some (entries_meaning (λ e. list_or_none (held_in Claim (entries_held e))) es),
    )) e

-- A row of one stream.

pub one_of_row : (t : Tree) (p : Tree × Tree) → pair_in t ≡ Some p → row_in_forms t ≡ pair_in_forms p
one_of_row t p is = in_both _ _ _ _ (table_of_pair (entries_reading standard_entries) t p is)
    (table_of_pair (entries_reading claim_entries) t p is)

no_entry : (k : Option (List ℕ)) (o : Option (List Entry)) → o ≡ None → option_map (λ e. e ∷ []) (both_read k o) ≡ None
no_entry None o e = refl
no_entry (Some k) None e = refl
no_entry (Some k) (Some es) e = cc

no_name : (k : Option (List ℕ)) (o : Option (List Entry)) → k ≡ None → option_map (λ e. e ∷ []) (both_read k o) ≡ None
no_name None o e = refl
no_name (Some k) o e = cc

pub no_key : (p : Tree × Tree) → text_reading p.0 ≡ None → pair_in_forms p ≡ (None, None)
no_key p e = in_both _ None _ None (no_name (text_reading p.0) (entries_reading standard_entries p.1) e)
    (no_name (text_reading p.0) (entries_reading claim_entries p.1) e)

pub no_list : (p : Tree × Tree) → entries_in_forms p.1 ≡ (None, None) → pair_in_forms p ≡ (None, None)
no_list p e =
    in_both _ None _ None
    (no_entry (text_reading p.0) (entries_reading standard_entries p.1) (ap (λ (h : InForms (List Entry)). h.0) e))
    (no_entry (text_reading p.0) (entries_reading claim_entries p.1) (ap (λ (h : InForms (List Entry)). h.1) e))

module _ (form : Form) (reading : Tree → Option (List Entry)) where
  -- one stream more, in a form
  one_more : (b : Bool) (keys new : List (String Global × Entries)) (key : String Global) (entries : Entries)
      (p : Tree × Tree) → text_reading p.0 ≡ Some (string_bytes key)
      → entries_reading reading p.1 ≡ held_in form (entries_held entries)
      → new ≡ keys ++ (key, entries) ∷ []
      → only_if (b && is_some (held_in form (entries_held entries)))
      (entries_meaning (λ e. list_or_none (held_in form (entries_held e))) new)
      ≡ behind (only_if b (entries_meaning (λ e. list_or_none (held_in form (entries_held e))) keys))
      (option_map (λ k. k ∷ []) (entry_reading (entries_reading reading) p))
  one_more b keys new key entries p text is pushed =
      let F : String Global × Entries → List ℕ × List Entry =
      λ e. (string_bytes e.0, list_or_none (held_in form (entries_held e.1))) in
      let o : Option (List Entry) = held_in form (entries_held entries) in
      let D = λ (m : Option Streams). behind (only_if b (map F keys)) m in
      ap (λ (n : List (String Global × Entries)). only_if (b && is_some o) (map F n)) pushed
      ∙ ap (only_if (b && is_some o)) (map-append F keys ((key, entries) ∷ []))
      ∙ sym (kept_both b (is_some o) (map F keys) ((string_bytes key, list_or_none o) ∷ []))
      ∙ ap D (sym (kept_one (string_bytes key) o))
      ∙ ap
      (λ (r : Option (List Entry)). D (option_map {T = List ℕ × List Entry} (λ k. k ∷ [])
      (option_map (λ es. (string_bytes key, es)) r))) (sym is)
      ∙ ap
      (λ (r : Option (List ℕ)). D (option_map {T = List ℕ × List Entry} (λ k. k ∷ [])
      (both_read r (entries_reading reading p.1)))) (sym text)

pub with_one : (s new : OpenStreams) (key : String Global) (entries : Entries) (p : Tree × Tree)
    → text_reading p.0 ≡ Some (string_bytes key) → entries_in_forms p.1 ≡ entries_held entries
    → new.keys.items ≡ s.keys.items ++ (key, entries) ∷ []
    → new.forms.standard ≡ (s.forms.standard && is_some (held_in Standard (entries_held entries)))
    → new.forms.claim ≡ (s.forms.claim && is_some (held_in Claim (entries_held entries)))
    → streams_held new ≡ behind_in_forms (streams_held s) (pair_in_forms p)
with_one s new key entries p text is pushed standard claim =
    in_both _ _ _ _ (ap (λ (b : Bool). only_if b (keys_in Standard new.keys)) standard
    ∙ one_more Standard standard_entries s.forms.standard s.keys.items new.keys.items key entries p text
    (ap (λ (h : InForms (List Entry)). h.0) is) pushed)
    (ap (λ (b : Bool). only_if b (keys_in Claim new.keys)) claim
    ∙ one_more Claim claim_entries s.forms.claim s.keys.items new.keys.items key entries p text
    (ap (λ (h : InForms (List Entry)). h.1) is) pushed)

-- A row of several.

abbrev forms_reading : Tree → Option (InForms (List Entry))
forms_reading t = some_form (entries_in_forms t)

abbrev picked : Form → List ℕ × InForms (List Entry) → Option (List ℕ × List Entry)
picked form q = option_map (λ es. (q.0, es)) (held_in form q.1)

module _ (form : Form) (reading : Tree → Option (List Entry))
    (h : (x : Tree) → entries_reading reading x ≡ option_and_then (held_in form) (forms_reading x)) where
  picked_pair : (p : Tree × Tree) → entry_reading (entries_reading reading) p
      ≡ option_and_then (picked form) (entry_reading forms_reading p)
  picked_pair p = ap (both_read (text_reading p.0)) (h p.1) ∙ by (text_reading p.0) (forms_reading p.1)
    where
      by : (k : Option (List ℕ)) (o : Option (InForms (List Entry)))
          → both_read k (option_and_then (held_in form) o) ≡ option_and_then (picked form) (both_read k o)
      by None o = refl
      by (Some k) None = refl
      by (Some k) (Some x) = refl

  picked_row : (t : Tree) → table_reading (entries_reading reading) t
      ≡ option_map table_of (option_and_then (traverse (picked form)) (pairs_reading forms_reading t))
  picked_row t = by (pairs_in t)
    where
      by : (o : Option (List (Tree × Tree)))
          → option_map table_of (option_and_then (traverse (entry_reading (entries_reading reading))) o)
          ≡ option_map table_of
          (option_and_then (traverse (picked form)) (option_and_then (traverse (entry_reading forms_reading)) o))
      by None = refl
      by (Some ps) = ap (option_map table_of)
          (traverse_same (entry_reading (entries_reading reading))
          (λ p. option_and_then (picked form) (entry_reading forms_reading p)) picked_pair ps
          ∙ traverse_then (entry_reading forms_reading) (picked form) ps)

  picked_all : (qs : List (List ℕ × InForms (List Entry))) → traverse (picked form) qs
      ≡ only_if (list_all (λ q. is_some (held_in form q.1)) qs) (on_values (λ x. list_or_none (held_in form x)) qs)
  picked_all [] = refl
  picked_all (q ∷ qs) =
      ap
      (λ (r : Option (List (List ℕ × List Entry))). option_and_then (λ m. option_map (λ ms. m ∷ ms) r) (picked form q))
      (picked_all qs)
      ∙ by (held_in form q.1) (list_all (λ q. is_some (held_in form q.1)) qs)
    where
      by : (o : Option (List Entry)) (b : Bool)
          → option_and_then
          (λ m. option_map (λ ms. m ∷ ms) (only_if b (on_values (λ x. list_or_none (held_in form x)) qs)))
          (option_map (λ es. (q.0, es)) o)
          ≡ only_if (is_some o && b) ((q.0, list_or_none o) ∷ on_values (λ x. list_or_none (held_in form x)) qs)
      by None b = refl
      by (Some es) true = refl
      by (Some es) false = refl

  only_table : (b : Bool) (qs : List (List ℕ × InForms (List Entry)))
      → option_map table_of (only_if b (on_values (λ x. list_or_none (held_in form x)) qs))
      ≡ only_if b (on_values (λ x. list_or_none (held_in form x)) (table_of qs))
  only_table true qs = ap Some (table_values (λ x. list_or_none (held_in form x)) qs)
  only_table false qs = refl

  -- the streams of a row, in a form
  row_read : (t : Tree) (qs : List (List ℕ × InForms (List Entry))) → pairs_reading forms_reading t ≡ Some qs
      → table_reading (entries_reading reading) t ≡ only_if (list_all (λ q. is_some (held_in form q.1)) qs)
      (on_values (λ x. list_or_none (held_in form x)) (table_of qs))
  row_read t qs is = picked_row t ∙ ap (λ o. option_map table_of (option_and_then (traverse (picked form)) o)) is
      ∙ ap (option_map table_of) (picked_all qs) ∙ only_table (list_all (λ q. is_some (held_in form q.1)) qs) qs

  no_row_read : (t : Tree) → pairs_reading forms_reading t ≡ None → table_reading (entries_reading reading) t ≡ None
  no_row_read t is = picked_row t ∙ ap (λ o. option_map table_of (option_and_then (traverse (picked form)) o)) is

  -- these after others, by the table that the code holds
  many_more : (b c : Bool) (keys new es ps : List (String Global × Entries)) (t : Tree)
      → pairs_reading forms_reading t ≡ Some (entries_meaning entries_held ps)
      → entries_meaning (λ x. x) es ≡ table_of (entries_meaning (λ x. x) ps) → new ≡ keys ++ es
      → c ≡ list_all (λ p. is_some (held_in form (entries_held p.1))) ps
      → only_if (b && c) (entries_meaning (λ e. list_or_none (held_in form (entries_held e))) new)
      ≡ behind (only_if b (entries_meaning (λ e. list_or_none (held_in form (entries_held e))) keys))
      (table_reading (entries_reading reading) t)
  many_more b c keys new es ps t is table pushed all =
      let F : String Global × Entries → List ℕ × List Entry =
      λ e. (string_bytes e.0, list_or_none (held_in form (entries_held e.1))) in
      let shown : map F es ≡ on_values (λ x. list_or_none (held_in form x))
      (table_of (entries_meaning entries_held ps)) =
      sym (meaning_of_named (λ e. list_or_none (held_in form (entries_held e))) es)
      ∙ ap (on_values (λ e. list_or_none (held_in form (entries_held e)))) table
      ∙ sym (table_values (λ e. list_or_none (held_in form (entries_held e))) (entries_meaning (λ x. x) ps))
      ∙ ap table_of (seen ps)
      ∙ table_values (λ x. list_or_none (held_in form x)) (entries_meaning entries_held ps) in
      let L : Bool = list_all (λ q. is_some (held_in form q.1)) (entries_meaning entries_held ps) in
      let G : String Global × Entries → List ℕ × InForms (List Entry) = λ e. (string_bytes e.0, entries_held e.1) in
      let told : c ≡ L =
      all ∙ sym (list_all-map (λ (q : List ℕ × InForms (List Entry)). is_some (held_in form q.1)) G ps) in
      ap (λ (n : List (String Global × Entries)). only_if (b && c) (map F n)) pushed
      ∙ ap (only_if (b && c)) (map-append F keys es)
      ∙ ap (λ (d : Bool). only_if (b && d) (map F keys ++ map F es)) told ∙ sym (kept_both b L (map F keys) (map F es))
      ∙ ap (λ (m : Streams). behind (only_if b (map F keys)) (only_if L m)) shown
      ∙ ap (behind (only_if b (map F keys))) (sym (row_read t (entries_meaning entries_held ps) is))
    where
      seen : (qs : List (String Global × Entries))
          → on_values (λ e. list_or_none (held_in form (entries_held e))) (entries_meaning (λ x. x) qs)
          ≡ on_values (λ x. list_or_none (held_in form x)) (entries_meaning entries_held qs)
      seen [] = refl
      seen (q ∷ qs) = ap (λ r. (string_bytes q.0, list_or_none (held_in form (entries_held q.1))) ∷ r) (seen qs)

standard_picked : (x : Tree) → entries_reading standard_entries x ≡ option_and_then (held_in Standard) (forms_reading x)
standard_picked x = by (entries_reading standard_entries x) (entries_reading claim_entries x)
  where
    by : (s c : Option (List Entry)) → s ≡ option_and_then (held_in Standard) (some_form (s, c))
    by None None = refl
    by None (Some c) = refl
    by (Some s) c = refl

claim_picked : (x : Tree) → entries_reading claim_entries x ≡ option_and_then (held_in Claim) (forms_reading x)
claim_picked x = by (entries_reading standard_entries x) (entries_reading claim_entries x)
  where
    by : (s c : Option (List Entry)) → c ≡ option_and_then (held_in Claim) (some_form (s, c))
    by None None = refl
    by None (Some c) = refl
    by (Some s) c = refl

pub with_many : (s new : OpenStreams) (es ps : List (String Global × Entries)) (t : Tree)
    → pairs_reading forms_reading t ≡ Some (entries_meaning entries_held ps)
    → entries_meaning (λ x. x) es ≡ table_of (entries_meaning (λ x. x) ps) → new.keys.items ≡ s.keys.items ++ es
    → new.forms.standard ≡ (s.forms.standard && list_all (λ p. is_some (held_in Standard (entries_held p.1))) ps)
    → new.forms.claim ≡ (s.forms.claim && list_all (λ p. is_some (held_in Claim (entries_held p.1))) ps)
    → streams_held new ≡ behind_in_forms (streams_held s) (row_in_forms t)
with_many s new es ps t is table pushed standard claim =
    in_both _ _ _ _
    (ap (λ (b : Bool). only_if b (keys_in Standard new.keys)) standard
    ∙ many_more Standard standard_entries standard_picked s.forms.standard
    (list_all
    (λ p. is_some
    (held_in Standard (entries_held p.1))) ps) s.keys.items new.keys.items es ps t is table pushed refl)
    (ap (λ (b : Bool). only_if b (keys_in Claim new.keys)) claim
    ∙ many_more Claim claim_entries claim_picked s.forms.claim
    (list_all
    (λ p. is_some (held_in Claim (entries_held p.1))) ps) s.keys.items new.keys.items es ps t is table pushed refl)

-- the forms that all lists have
pub told_of_all : (form : Form) (before after all : Bool) (lent ps : List (String Global × Entries))
    → after ≡ (before && all) → all ≡ list_all (λ p. is_some (held_in form (entries_held p.1))) lent → lent ≡ ps
    → after ≡ (before && list_all (λ p. is_some (held_in form (entries_held p.1))) ps)
told_of_all form before after all lent ps e f g = e ∙ ap (λ (b : Bool). before && b) f
    ∙ ap (λ (qs : List (String Global × Entries)). before
    && list_all (λ p. is_some (held_in form (entries_held p.1))) qs) g

pub no_row : (t : Tree) → pairs_reading forms_reading t ≡ None → row_in_forms t ≡ (None, None)
no_row t is = in_both _ None _ None (no_row_read Standard standard_entries standard_picked t is)
    (no_row_read Claim claim_entries claim_picked t is)

-- The whole reply.

pub reply_read : (t : Tree) (ts : List Tree) (h : InForms Streams) → items t ≡ Some ts → rows_in_forms ts ≡ h
    → read_reading t ≡ option_or h.0 h.1
unfolding standard_reading claim_reading
reply_read t ts h is e =
    ap
    (λ (o : Option (List Tree)). option_or
    (option_map joined (option_and_then (traverse (table_reading (entries_reading standard_entries))) o))
    (option_map joined (option_and_then (traverse (table_reading (entries_reading claim_entries))) o))) is
    ∙ ap (λ (r : InForms Streams). option_or r.0 r.1) e

pub no_reply : (t : Tree) → items t ≡ None → read_reading t ≡ None
unfolding standard_reading claim_reading
no_reply t is =
    ap
    (λ (o : Option (List Tree)). option_or
    (option_map joined (option_and_then (traverse (table_reading (entries_reading standard_entries))) o))
    (option_map joined (option_and_then (traverse (table_reading (entries_reading claim_entries))) o))) is

-- no rows are no streams
pub no_rows : (t : Tree) (ts : List Tree) → items t ≡ Some ts → length ts ≡ 0 → read_reading t ≡ Some []
no_rows t [] is e = reply_read t [] (Some [], Some []) is refl
no_rows t (x ∷ ts) is e = absurd (omega (arith, e))

-- rows are something to read
some_rows : (t : Tree) (ts : List Tree) → items t ≡ Some ts → 0 < length ts → HasItems t
some_rows t ts is some = rw is some

-- the errors of a reply
pub no_items : (t : Tree) → items t ≡ None → Refuses read_reading RefusesRead t UnknownReadFormat
no_items t is = (inl refl, λ _. no_reply t is)

pub walk_refused : (t : Tree) (ts : List Tree) (error told : ParsingError) → items t ≡ Some ts → 0 < length ts
    → (error ≢ Memory → rows_in_forms ts ≡ (None, None))
    → ((error ≡ Memory) × (told ≡ Memory)) ⊎ ((error ≢ Memory) × (told ≡ UnknownReadFormat))
    → Refuses read_reading RefusesRead t told
walk_refused t ts error told is some none (inl m) = (inr (m.1, some_rows t ts is some), λ n. absurd (n m.1))
walk_refused t ts error told is some none (inr u) = (inl u.1, λ _. reply_read t ts (None, None) is (none u.0))

pub reply_refused : (t : Tree) (ts : List Tree) (h : InForms Streams) (error : ParsingError) → items t ≡ Some ts
    → 0 < length ts → rows_in_forms ts ≡ h
    → (error ≡ Memory) ⊎ ((error ≡ UnknownReadFormat) × (option_or h.0 h.1 ≡ None))
    → Refuses read_reading RefusesRead t error
reply_refused t ts h error is some e (inl m) = (inr (m, some_rows t ts is some), λ n. absurd (n m))
reply_refused t ts h error is some e (inr u) = (inl u.0, λ _. reply_read t ts h is e ∙ u.1)

pub ruleset one_stream = (no_key, no_list, with_one)

pub ruleset several_streams = (no_row, with_many)
