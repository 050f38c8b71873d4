-- The texts and the fields of values of JSON.
use Rattle.std.proofs.Common.{◌≡◌, ◌≢◌, ◌+◌, ◌<◌, ℕ, suc, zero, Bool, true, false, List, [], ◌∷◌, ◌++◌, drop, get_or, length, map, Option, Some, None, option_map, refl, sym, ◌∙◌, ap, arith, Vec, Global, append_assoc, if◌then◌else◌}
use Rattle.std.proofs.lemmas.List.{map-append}
use Rattle.std.proofs.lemmas.Str.{IsUtf8-from_is_utf8, is_utf8-from_IsUtf8}
use Rattle.std.specs.Str.{IsUtf8, is_utf8}
use Rattle.std.specs.Borrow.{Bor}
use Rattle.json.specs.Json.{Json, document}
use Rattle.json.specs.Value.{items_view, members_view, value_view}
use Rattle.json.specs.declared.error.Error.{Error}
use Rattle.json.specs.declared.error.Error.TheVariants as errors
use Rattle.json.specs.declared.value.Value.{Value, Array, Object}
use Rattle.json.proofs.Trees.{view-Array, view-Object}
use Rattle.worker_producer.specs.Records.{field_of, fields_of}
use Rattle.stream_fill.specs.JsonRecord.{field_of_member, field_of_pair, field_of_two, fields_of_members, fields_of_object, fields_of_pairs, fields_of_value, first_and_rest, IsNoValue, only_decoded, pairs_of, reason_of, text_of, value_of_line}
use Rattle.stream_fill.specs.Taken.{Record}

-- ---- values of another number of members or items

not_one : {A : Type 0} (ms : List (Bor (List ℕ) × Value A)) → length ms ≢ 1 → only_decoded (members_view ms) ≡ None
not_one [] ne = refl
not_one (m ∷ []) ne = absurd (ne refl)
not_one (m ∷ n ∷ ms) ne = refl

pub no_only_member : {A : Type 0} (value : Value A) (v : Vec (Bor (List ℕ) × Value A) A) (ms : List (Bor (List ℕ) × Value A))
    → value ≡ Object v → ms ≡ v.items → length ms ≢ 1 → text_of (value_view value) ≡ None
no_only_member value v ms is same ne =
    ap (λ w. text_of (value_view w)) is ∙ ap text_of (view-Object v)
    ∙ ap (λ ns. only_decoded (members_view ns)) (sym same) ∙ not_one ms ne

not_two : {A : Type 0} (vs : List (Value A)) → length vs ≢ 2 → field_of_two (items_view vs) ≡ None
not_two [] ne = refl
not_two (a ∷ []) ne = refl
not_two (a ∷ b ∷ []) ne = absurd (ne refl)
not_two (a ∷ b ∷ c ∷ vs) ne = refl

pub no_two_items : {A : Type 0} (value : Value A) (v : Vec (Value A) A) (vs : List (Value A))
    → value ≡ Array v → vs ≡ v.items → length vs ≢ 2 → field_of_pair (value_view value) ≡ None
no_two_items value v vs is same ne =
    ap (λ w. field_of_pair (value_view w)) is ∙ ap field_of_pair (view-Array v)
    ∙ ap (λ ws. field_of_two (items_view ws)) (sym same) ∙ not_two vs ne

pub no_pairs : {A : Type 0} (ms : List (Bor (List ℕ) × Value A)) → length ms ≢ 2 → pairs_of (members_view ms) ≡ None
no_pairs [] ne = refl
no_pairs (a ∷ []) ne = refl
no_pairs (a ∷ b ∷ []) ne = absurd (ne refl)
no_pairs (a ∷ b ∷ c ∷ ms) ne = refl

-- ---- the fields of an object

pub fields_of_members_of : {A : Type 0} (value : Value A) (v : Vec (Bor (List ℕ) × Value A) A)
    (ms : List (Bor (List ℕ) × Value A)) → value ≡ Object v → ms ≡ v.items
    → fields_of_object (members_view ms) ≡ fields_of_value (value_view value)
fields_of_members_of value v ms is same =
    ap (λ ns. fields_of_object (members_view ns)) same
    ∙ sym (ap (λ w. fields_of_value (value_view w)) is ∙ ap fields_of_value (view-Object v))

-- ---- one field more

-- the fields of each of these, if each has one
abbrev pub each_of : {A B : Type 0} → (A → Option B) → List A → Option (List B)
each_of f [] = Some []
each_of f (x ∷ xs) = first_and_rest (f x) (each_of f xs)

-- these, and then the rest, if that is there
abbrev pub and_rest : {B : Type 0} → List B → Option (List B) → Option (List B)
and_rest ys rest = option_map (λ zs. ys ++ zs) rest

nothing_before : {B : Type 0} (rest : Option (List B)) → rest ≡ and_rest [] rest
nothing_before None = refl
nothing_before (Some ys) = refl

one_more : {B : Type 0} (ys : List B) (y : B) (rest : Option (List B))
    → and_rest ys (first_and_rest (Some y) rest) ≡ and_rest (ys ++ y ∷ []) rest
one_more ys y None = refl
one_more ys y (Some zs) = ap Some (sym (append_assoc ys (y ∷ []) zs))

at_head : {A B : Type 0} (f : A → Option B) (xs : List A) (i : ℕ) (x : A) → i < length xs → x ≡ get_or xs i x
    → each_of f (drop i xs) ≡ first_and_rest (f x) (each_of f (drop (i + 1) xs))
at_head f [] i x lt is = absurd (omega (arith, lt))
at_head f (y ∷ xs) zero x lt is = ap (λ z. first_and_rest (f z) (each_of f xs)) (sym is)
at_head f (y ∷ xs) (suc i) x lt is =
    at_head f xs i x (omega (arith, lt)) is ∙ ap (λ (k : ℕ). first_and_rest (f x) (each_of f (drop k (y ∷ xs))))
    (let e : suc (i + 1) ≡ suc i + 1 = omega arith in e)

pub each_more : {A B : Type 0} (f : A → Option B) (all : Option (List B)) (xs : List A) (ys : List B) (i : ℕ) (x : A)
    (y : B) (new : List B) → i < length xs → x ≡ get_or xs i x → f x ≡ Some y → new ≡ ys ++ y ∷ []
    → all ≡ and_rest ys (each_of f (drop i xs)) → all ≡ and_rest new (each_of f (drop (i + 1) xs))
each_more f all xs ys i x y new lt at is more was =
    let rest = each_of f (drop (i + 1) xs) in
    was ∙ ap (and_rest ys) (at_head f xs i x lt at ∙ ap (λ o. first_and_rest o rest) is) ∙ one_more ys y rest
    ∙ ap (λ zs. and_rest zs rest) (sym more)

pub one_field_more : (old new : Record) (f : Vec ℕ Global × Vec ℕ Global) → new.items ≡ old.items ++ f ∷ []
    → fields_of new ≡ fields_of old ++ field_of f ∷ []
one_field_more old new f more = ap (map field_of) more ∙ map-append field_of old.items (f ∷ [])

-- ---- the same of values

pairs_each : {A : Type 0} (vs : List (Value A))
    → fields_of_pairs (items_view vs) ≡ each_of (λ v. field_of_pair (value_view v)) vs
pairs_each [] = refl
pairs_each (v ∷ vs) = ap (first_and_rest (field_of_pair (value_view v))) (pairs_each vs)

members_each : {A : Type 0} (ms : List (Bor (List ℕ) × Value A))
    → fields_of_members (members_view ms) ≡ each_of (λ m. field_of_member m.0.now (value_view m.1)) ms
members_each [] = refl
members_each (m ∷ ms) = ap (first_and_rest (field_of_member m.0.now (value_view m.1))) (members_each ms)

pub pairs_begun : {A : Type 0} (vs : List (Value A)) (r : Record) → r.items ≡ []
    → fields_of_pairs (items_view vs) ≡ and_rest (fields_of r) (each_of (λ v. field_of_pair (value_view v)) vs)
pairs_begun vs r none = pairs_each vs ∙ nothing_before (each_of (λ v. field_of_pair (value_view v)) vs)
    ∙ ap (λ xs. and_rest (map field_of xs) (each_of (λ v. field_of_pair (value_view v)) vs)) (sym none)

pub members_begun : {A : Type 0} (ms : List (Bor (List ℕ) × Value A)) (r : Record) → r.items ≡ []
    → fields_of_members (members_view ms)
    ≡ and_rest (fields_of r) (each_of (λ m. field_of_member m.0.now (value_view m.1)) ms)
members_begun ms r none =
    members_each ms ∙ nothing_before (each_of (λ m. field_of_member m.0.now (value_view m.1)) ms)
    ∙ ap (λ xs. and_rest (map field_of xs) (each_of (λ m. field_of_member m.0.now (value_view m.1)) ms)) (sym none)

-- ---- the value of a line

pub value_there : (line : List ℕ) (j : Json) → IsUtf8 line → document line ≡ Some j → value_of_line line ≡ Some j
value_there line j text is = ap (λ b. if b then document line else None) (is_utf8-from_IsUtf8 line text) ∙ is

value_not : (line : List ℕ) → (IsUtf8 line → document line ≡ None) → value_of_line line ≡ None
value_not line none = by (is_utf8 line) refl
  where
    by : (b : Bool) → is_utf8 line ≡ b → (if b then document line else None) ≡ None
    by true is = none (IsUtf8-from_is_utf8 line is)
    by false is = refl

pub no_value : (line : List ℕ) (e : Error) → (e ≡ errors.Invalid → IsUtf8 line → document line ≡ None)
    → e ≢ errors.TooLong → e ≢ errors.DuplicateKey → IsNoValue line (reason_of e)
no_value line errors.Invalid none long twice = value_not line (none refl)
no_value line errors.OutOfMemory none long twice = tt
no_value line errors.TooLong none long twice = absurd (long refl)
no_value line errors.DuplicateKey none long twice = absurd (twice refl)
