-- Lists of arguments that are the fields of an entry.
use Rattle.std.specs.Prelude.{◌≡◌, ℕ, List, [], ◌∷◌, ◌++◌, length, Option, Some, None}
use Rattle.std.specs.List.{flat_map}
use Rattle.std.proofs.Common.{sym, ◌∙◌, ap, refl}
use Rattle.std.proofs.lemmas.Grind.{flat_map-append}
use Rattle.redis_args.specs.Clause.{clause}
use Rattle.stream_commands.specs.NonEmpty.{NonEmpty, all}
use Rattle.stream_commands.specs.Single.{the_one}

-- `field value`
abbrev pub field_sentence : List ℕ × List ℕ → List (List ℕ)
field_sentence field = field.0 ∷ field.1 ∷ []

-- a list of pairs, each the name of a field and its value, and at least one pair
pub record AreFields (args : List (List ℕ)) : Type 0 where
  pub fields : NonEmpty (List ℕ × List ℕ)
  pub are : args ≡ flat_map field_sentence (all fields)

-- a name and a value are a field
pub one_field : (name value : List (List ℕ)) → length name ≡ 1 → length value ≡ 1 → AreFields (name ++ value)
one_field name value n v =
    let a = the_one name n in
    let b = the_one value v in
    record {
      fields = record { first = (a.arg, b.arg); rest = [] };
      are = ap (λ args. args ++ value) a.is ∙ ap (λ args. a.arg ∷ args) b.is;
    }

module _ {T : Type 0} (args : T → List (List ℕ)) (each : (x : T) → AreFields (args x)) where
  -- the fields of all items
  abbrev fields_in : List T → List (List ℕ × List ℕ)
  fields_in [] = []
  fields_in (x ∷ xs) = all (each x).fields ++ fields_in xs

  are_in : (xs : List T) → flat_map args xs ≡ flat_map field_sentence (fields_in xs)
  are_in [] = refl
  are_in (x ∷ xs) =
      ap (λ first. first ++ flat_map args xs) (each x).are
      ∙ (ap (λ rest. flat_map field_sentence (all (each x).fields) ++ rest) (are_in xs)
      ∙ sym (flat_map-append field_sentence (all (each x).fields) (fields_in xs)))

  -- the fields of all items of a non-empty list are fields
  pub fields_joined : (xs : NonEmpty T) → AreFields (flat_map args (all xs))
  fields_joined xs = record {
    fields = record {
      first = (each xs.first).fields.first;
      rest = (each xs.first).fields.rest ++ fields_in xs.rest;
    };
    are = are_in (all xs);
  }

-- a list of pairs, each the name of a field and its value, or nothing
pub record AreAnyFields (args : List (List ℕ)) : Type 0 where
  pub fields : List (List ℕ × List ℕ)
  pub are : args ≡ flat_map field_sentence fields

-- fields are also fields or nothing
pub any_fields : {args : List (List ℕ)} → AreFields args → AreAnyFields args
any_fields are = record { fields = all are.fields; are = are.are }

-- the fields of all items of a list are fields or nothing
pub each_joined : {T : Type 0} (args : T → List (List ℕ)) (each : (x : T) → AreFields (args x)) (xs : List T)
    → AreAnyFields (flat_map args xs)
each_joined args each xs = record { fields = fields_in args each xs; are = are_in args each xs }

-- the fields of an optional value are fields or nothing
pub those_set : {T : Type 0} (args : T → List (List ℕ)) (each : (x : T) → AreFields (args x)) (value : Option T)
    → AreAnyFields (clause args value)
those_set args each (Some x) = any_fields (each x)
those_set args each None = record { fields = []; are = refl }

-- a list followed by a non-empty list
abbrev followed : {A : Type 0} → List A → NonEmpty A → NonEmpty A
followed [] behind = behind
followed (x ∷ xs) behind = record { first = x; rest = xs ++ all behind }

all_followed : {A : Type 0} (xs : List A) (behind : NonEmpty A) → all (followed xs behind) ≡ xs ++ all behind
all_followed [] behind = refl
all_followed (x ∷ xs) behind = refl

-- fields or nothing, followed by fields, are fields
pub then_fields : (front behind : List (List ℕ)) → AreAnyFields front → AreFields behind → AreFields (front ++ behind)
then_fields front behind a b = record {
  fields = followed a.fields b.fields;
  are = ap (λ args. args ++ behind) a.are
      ∙ (ap (λ args. flat_map field_sentence a.fields ++ args) b.are
      ∙ (sym (flat_map-append field_sentence a.fields (all b.fields))
      ∙ ap (flat_map field_sentence) (sym (all_followed a.fields b.fields))));
}
