-- Streams that are asked for, one after the other.
use Rattle.std.proofs.Common.{◌≡◌, ◌∙◌, ◌+◌, ◌∷◌, ◌++◌, ◌||◌, [], ℕ, Bool, List, add-one, ap, false, if◌then◌else◌, map, refl, subst, sym, true}
use Rattle.std.specs.List.{list_any}
use Rattle.std.specs.Prelude.{fold}
use Rattle.std.specs.Str.{bytes_eq}
use Rattle.redis_connection.specs.Link.{Link}
use Rattle.stream_top.specs.Asked.{Measures, MeasuresAndWaits, MeasuresEach, MeasuresOften, WaitsFor, first_keys, with_key}
use Rattle.stream_top.specs.Measured.{each_once, is_of, key_of, name_of, with_name}
use Rattle.stream_top.specs.Options.{key_bytes}
use Rattle.stream_top.specs.declared.figures.StreamFigures.{StreamFigures}
use Rattle.stream_top.specs.declared.options.Key.{Key}

-- ---- the keys

-- one more stream after the others
pub measures_more : (keys : List (List ℕ)) (key : List ℕ) (old between new : Link) → MeasuresEach keys old between
    → Measures key between new → MeasuresEach (keys ++ key ∷ []) old new
measures_more [] key old between new same one = (new, subst (λ (l : Link). Measures key l new) same one, refl)
measures_more (k ∷ keys) key old between new each one =
    (each.0, each.1, measures_more keys key each.0 between new each.2 one)

map_more : {X Y : Type 0} (f : X → Y) (xs : List X) (x : X) → map f (xs ++ x ∷ []) ≡ map f xs ++ f x ∷ []
map_more f [] x = refl
map_more f (y ∷ xs) x = ap (λ ys. f y ∷ ys) (map_more f xs x)

-- the names with one more key
names_with : (first : List Key) (key : Key) → map name_of (with_key first key) ≡ with_name (map name_of first) (name_of key)
names_with first key = by (list_any (bytes_eq (name_of key)) (map name_of first))
  where
    by : (is_there : Bool) → map name_of (if is_there then first else first ++ key ∷ [])
        ≡ (if is_there then map name_of first else map name_of first ++ name_of key ∷ [])
    by true = refl
    by false = map_more name_of first key

names_after : (first keys : List Key) → map name_of (fold with_key first keys) ≡ fold with_name (map name_of first) (map name_of keys)
names_after first [] = refl
names_after first (key ∷ keys) = names_after (with_key first key) keys
    ∙ ap (λ names. fold with_name names (map name_of keys)) (names_with first key)

-- the first keys have each name once
pub names_once : (keys : List Key) → map name_of (first_keys keys) ≡ each_once (map name_of keys)
names_once keys = names_after [] keys

-- a name is among the keys if it is measured
pub any-key_of : (name : List ℕ) (streams : List StreamFigures)
    → list_any (bytes_eq name) (map key_of streams) ≡ list_any (is_of name) streams
any-key_of name [] = refl
any-key_of name (s ∷ ss) = ap (λ b. bytes_eq name (key_of s) || b) (any-key_of name ss)

-- one more key, which is asked for unless its name is measured
module _ (keys : List Key) (key : Key) (streams : List StreamFigures) (start old new : Link)
    (same : map key_of streams ≡ map name_of keys)
    (each : MeasuresEach (map key_bytes keys) start old) where
  with_one : (is_there : Bool) → list_any (is_of (name_of key)) streams ≡ is_there
      → with_key keys key ≡ (if is_there then keys else keys ++ key ∷ [])
  with_one is_there is = ap (λ b. if b then keys else keys ++ key ∷ [])
      (ap (list_any (bytes_eq (name_of key))) (sym same) ∙ (any-key_of (name_of key) streams ∙ is))

  pub asked_before : list_any (is_of (name_of key)) streams ≡ true → new ≡ old
      → MeasuresEach (map key_bytes (with_key keys key)) start new
  asked_before is stays = subst (λ (ks : List Key). MeasuresEach (map key_bytes ks) start new) (sym (with_one true is))
      (subst (λ (l : Link). MeasuresEach (map key_bytes keys) start l) (sym stays) each)

  pub asked_now : list_any (is_of (name_of key)) streams ≡ false → Measures (key_bytes key) old new
      → MeasuresEach (map key_bytes (with_key keys key)) start new
  asked_now is one = subst (λ (ks : List Key). MeasuresEach (map key_bytes ks) start new) (sym (with_one false is))
      (subst (λ (ks : List (List ℕ)). MeasuresEach ks start new) (sym (map_more key_bytes keys key))
      (measures_more (map key_bytes keys) (key_bytes key) start old new each one))

-- ---- the tables

-- one more table, and a wait
pub one_more_wait : (key : List ℕ) (n : ℕ) (old between asked new : Link) → MeasuresAndWaits key n old between
    → Measures key between asked → WaitsFor key asked new → MeasuresAndWaits key (n + 1) old new
one_more_wait key n old between asked new before table waits =
    subst (λ (k : ℕ). MeasuresAndWaits key k old new) (sym (add-one n)) (between, asked, before, table, waits)

-- the last table
pub last_table : (key : List ℕ) (n rounds : ℕ) (old between new : Link) → rounds ≡ n + 1
    → MeasuresAndWaits key n old between → Measures key between new → MeasuresOften key rounds old new
last_table key n rounds old between new is before table =
    subst (λ (k : ℕ). MeasuresOften key k old new) (sym (is ∙ add-one n)) (between, before, table)
