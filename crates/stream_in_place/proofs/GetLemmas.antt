-- The value of the last field of a name.
use Rattle.std.proofs.Common.{◌≡◌, ◌<◌, ◌+◌, ◌∙◌, ℕ, List, ◌∷◌, true, false, cond, map, length, drop, Option, Some}
use Rattle.std.proofs.Common.{None, refl, sym, ap, add-one}
use Rattle.std.specs.List.{AllByRecursion}
use Rattle.std.specs.Option.{option_or}
use Rattle.std.specs.Str.{bytes_eq}
use Rattle.std.proofs.Math.ListN.{get_or}
use Rattle.std.proofs.Math.Seq.{drop-cons}
use Rattle.redis_resp.specs.Table.{last_with}
use Rattle.redis_wire.specs.Place.{text_in}
use Rattle.stream_in_place.specs.declared.places.FieldPlace.{FieldPlace}
use Rattle.stream_in_place.specs.Placed.{field_in, IsField}

abbrev pub any_field : FieldPlace
any_field = record { name = record { start = 0; len = 0 }; value = record { start = 0; len = 0 } }

or_assoc : (a b c : Option (List ℕ)) → option_or (option_or a b) c ≡ option_or a (option_or b c)
or_assoc None b c = refl
or_assoc (Some x) b c = refl

module _ (bytes name : List ℕ) (fields : List FieldPlace) (i : ℕ) (d : FieldPlace) (old : Option (List ℕ))
    (total : Option (List ℕ)) (lt : i < length fields)
    (each : AllByRecursion (IsField bytes) (drop i fields))
    (so_far : option_or (last_with name (map (field_in bytes) (drop i fields))) old ≡ total) where
  next_is : drop i fields ≡ get_or fields i d ∷ drop (i + 1) fields
  next_is = drop-cons fields i d lt ∙ ap (λ (n : ℕ). get_or fields i d ∷ drop n fields) (sym (add-one i))

  pub each_left : AllByRecursion (IsField bytes) (drop (i + 1) fields)
  each_left = (rw next_is at each).1

  got : (new : Option (List ℕ)) → option_or
      (cond (bytes_eq name (text_in bytes (get_or fields i d).name))
      (Some (text_in bytes (get_or fields i d).value)) None) old ≡ new
      → option_or (last_with name (map (field_in bytes) (drop (i + 1) fields))) new ≡ total
  got new is =
      let f = get_or fields i d in
      let here : Option (List ℕ) = cond (bytes_eq name (text_in bytes f.name)) (Some (text_in bytes f.value)) None in
      let left = last_with name (map (field_in bytes) (drop (i + 1) fields)) in
      let step : option_or (option_or left here) old ≡ total =
      sym (ap (λ (fs : List FieldPlace). option_or (last_with name (map (field_in bytes) fs)) old) next_is)
      ∙ so_far in
      ap (option_or left) (sym is) ∙ sym (or_assoc left here old) ∙ step

  pub got_it : (text : List ℕ) (new : Option (List ℕ)) → text ≡ text_in bytes (get_or fields i d).name
      → bytes_eq name text ≡ true → new ≡ Some (text_in bytes (get_or fields i d).value)
      → option_or (last_with name (map (field_in bytes) (drop (i + 1) fields))) new ≡ total
  got_it text new is same found = got new (rw (← is, same) (sym found))

  pub got_other : (text : List ℕ) (new : Option (List ℕ)) → text ≡ text_in bytes (get_or fields i d).name
      → bytes_eq name text ≡ false → new ≡ old
      → option_or (last_with name (map (field_in bytes) (drop (i + 1) fields))) new ≡ total
  got_other text new is apart kept = got new (rw (← is, apart) (sym kept))
