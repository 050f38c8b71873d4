-- Fields by name, and those that are left after one is removed.
use Rattle.std.proofs.Common.{◌≡◌, ◌<◌, ℕ, Bool, true, false, cond, List, [], ◌∷◌, length, arith, inl, Option, Some}
use Rattle.std.proofs.Common.{None, option_map, option_and_then, String, string_bytes, Global, refl, ap, sym, subst}
use Rattle.std.proofs.Common.{◌∙◌, Result, Ok, Err, IfErr, IsErrAnd}
use Rattle.std.specs.Map.{update}
use Rattle.std.specs.HashMap.{HashMap, UpdatesBy, get_by_text}
use Rattle.std.specs.Str.{bytes_eq}
use Rattle.std.specs.String.{string_eq}
use Rattle.std.proofs.lemmas.Map.Text.{hash_map_updates_text}
use Rattle.std.specs.Prelude.{MatchOption}
use Rattle.redis_resp.specs.Tree.{Tree, items, pairs_in}
use Rattle.redis_resp.specs.Reading.{list_reading, traverse}
use Rattle.redis_resp.specs.Refusal.{OneRefused, RefusesList}
use Rattle.redis_resp.specs.declared.value.error.ParsingError.{ParsingError}
use Rattle.redis_resp.specs.declared.value.error.ParsingError.TheVariants.{Memory, NotList}
use Rattle.std.proofs.lemmas.Option.{none-some, same_Some}
use Rattle.redis_resp.specs.Table.{pairs_reading, entries_meaning, entry_reading, last_with}
use Rattle.redis_resp.proofs.TableLemmas.{fields_last}
use Rattle.redis_streams.specs.Info.{NamedFields, fields_in, stream_of, tracked_of}
use Rattle.redis_streams.specs.InfoMeaning.{fields_by_name}

none_seen : {V : Type 0} (seen : V → Tree) (b : Bool) (o : Option V)
    → option_map seen (cond b None o) ≡ cond b None (option_map seen o)
none_seen seen true o = refl
none_seen seen false o = refl

pub named_removed : {V S : Type 0} (seen : V → Tree) (m n : HashMap (String Global) V S) (name : List ℕ)
    → UpdatesBy string_eq (λ k. bytes_eq name (string_bytes k)) m n None
    → fields_by_name seen n ≡ update bytes_eq (fields_by_name seen m) name None
unfolding fields_by_name
named_removed seen m n name updates =
    λ i q. (ap (option_map seen) (hash_map_updates_text name m n None updates q)
    ∙ none_seen seen (bytes_eq name q) (get_by_text m q)) i

-- the fields of a value are those of a map that has each key's last value
pub fields_found : (t : Tree) (fields : NamedFields)
    → ((name : List ℕ) → Some (fields name) ≡ option_map (last_with name) (pairs_reading (λ u. Some u) t))
    → fields_in t ≡ Some fields
fields_found t fields each = by (pairs_reading (λ u. Some u) t) each
  where
    by : (o : Option (List (List ℕ × Tree))) → ((name : List ℕ) → Some (fields name) ≡ option_map (last_with name) o)
        → option_map (λ pairs name. last_with name pairs) o ≡ Some fields
    by None e = absurd (none-some (fields []) (sym (e [])))
    by (Some pairs) e = λ i. Some (λ name. same_Some (last_with name pairs) (fields name) (sym (e name)) i)

-- a map that has each key's last value holds the fields of a value
pub fields_of_map : {V S : Type 0} (seen : V → Tree) (t : Tree) (m : HashMap (String Global) V S)
    → ((name : List ℕ) → Some (option_map seen (get_by_text m name))
    ≡ option_map (last_with name) (pairs_reading (λ u. Some u) t))
    → fields_in t ≡ Some (fields_by_name seen m)
unfolding fields_by_name
fields_of_map seen t m each = fields_found t (fields_by_name seen m) each

-- the fields of a value are those of the map of its pairs
pub fields_of_pairs : {V S : Type 0} (seen : V → Tree) (t : Tree) (pairs : List (String Global × V))
    (m : HashMap (String Global) V S) → pairs_reading (λ u. Some u) t ≡ Some (entries_meaning seen pairs)
    → ((name : List ℕ) → get_by_text m name ≡ last_with name (entries_meaning (λ x. x) pairs))
    → fields_in t ≡ Some (fields_by_name seen m)
unfolding fields_by_name
fields_of_pairs seen t pairs m read last =
    fields_found t (fields_by_name seen m) (fields_last (λ u. Some u) seen t pairs read m last)

pub never : {A B : Type 0} (o : Option A) → option_and_then (λ _. let none : Option B = None in none) o ≡ None
never None = refl
never (Some a) = refl

-- a stream and its producers have no record if the stream has none
pub no_base : (f : NamedFields) → stream_of f ≡ None → tracked_of f ≡ None
no_base f h = simp (h, never)

-- a list of length 0 is empty
pub none_of : {A : Type 0} (xs : List A) → length xs ≡ 0 → xs ≡ []
none_of [] e = refl
none_of (x ∷ xs) e = absurd (omega (arith, e))

-- no pairs are no fields
pub no_fields : {V S : Type 0} (seen : V → Tree) (t : Tree) (ps : List (Tree × Tree)) (m : HashMap (String Global) V S)
    → pairs_in t ≡ Some ps → length ps ≡ 0 → m.entries ≡ [] → fields_in t ≡ Some (fields_by_name seen m)
no_fields seen t ps m is zero empty =
    fields_of_pairs seen t [] m (ap (option_and_then (traverse (entry_reading (λ u. Some u))))
    (is ∙ ap Some (none_of ps zero))) (λ name. rw empty refl)

-- a property of an error is a property of a result that returns it
pub passed_on : {T E : Type 0} (P : E → Type 0) (error : E) (r : Result T E) → IsErrAnd r (λ e. e ≡ error) → P error
    → IfErr r P
passed_on P error (Ok x) is holds = tt
passed_on P error (Err e) is holds = subst P (sym is) holds

-- reading a list that is not empty may run out of memory
pub list_wants_memory : {M : Type 0} (reading : Tree → Option M) (refuses : Tree → ParsingError → Type 0) (t : Tree)
    (ms : List M) → list_reading reading t ≡ Some ms → 0 < length ms → RefusesList refuses t Memory
list_wants_memory reading refuses t ms is some = by (items t) is
  where
    by : (o : Option (List Tree)) → option_and_then (traverse reading) o ≡ Some ms
        → MatchOption o (Memory ≡ NotList) (λ ts. OneRefused refuses ts Memory)
    by None h = absurd (none-some ms h)
    by (Some []) h = absurd (omega (arith, some, ap length (same_Some [] ms h)))
    by (Some (x ∷ ts)) h = inl (refl, omega arith)
