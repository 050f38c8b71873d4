-- Texts at places, read one after the other.
use Rattle.std.proofs.Common.{◌≡◌, ◌<◌, ◌≤◌, ◌+◌, ◌∙◌, ℕ, List, [], ◌∷◌, ◌++◌, length, drop, Option, Some, None}
use Rattle.std.proofs.Common.{sym, ap, add-one, false, refl}
use Rattle.std.proofs.Math.ListN.{get_or, drop_of_length-le}
use Rattle.std.proofs.Math.Seq.{drop-cons}
use Rattle.redis_resp.specs.Reading.{traverse, both_read}
use Rattle.redis_resp.proofs.ReadLemmas.{ReadSoFar, read_next, read_all}
use Rattle.redis_wire.specs.declared.place.Span.{Span}
use Rattle.stream_in_place.specs.declared.places.FieldPlace.{FieldPlace}
use Rattle.stream_in_place.specs.declared.places.EntryPlace.{EntryPlace}

abbrev pub nowhere : Span
nowhere = record { start = 0; len = 0 }

abbrev pub any_field : FieldPlace
any_field = record { name = nowhere; value = nowhere }

abbrev pub any_entry : EntryPlace
any_entry =
    record { id = nowhere; from = 0; to = 0; deleted = false; delivered = false; elapsed = 0; count = 0 }

module _ {A M : Type 0} (f : A → Option M) (xs : List A) (i : ℕ) (d : A) where
  next_is : i < length xs → drop i xs ≡ get_or xs i d ∷ drop (i + 1) xs
  next_is lt = drop-cons xs i d lt ∙ ap (λ (n : ℕ). get_or xs i d ∷ drop n xs) (sym (add-one i))

  -- the text at one more place
  pub place_read : (done more : List M) (m : M) → i < length xs → f (get_or xs i d) ≡ Some m → more ≡ done ++ m ∷ []
      → ReadSoFar f xs (drop i xs) done → ReadSoFar f xs (drop (i + 1) xs) more
  place_read done more m lt is pushed r =
      read_next f xs (drop i xs) (drop (i + 1) xs) (get_or xs i d) m done more (next_is lt) is pushed r

  -- a place that is not within the bytes
  pub place_outside : (done : List M) → i < length xs → f (get_or xs i d) ≡ None → ReadSoFar f xs (drop i xs) done
      → traverse f xs ≡ None
  place_outside done lt is r = sym (rw (next_is lt, is) at r.so_far)

  -- no place is left
  pub places_read : (done : List M) → length xs ≤ i → ReadSoFar f xs (drop i xs) done → traverse f xs ≡ Some done
  places_read done le r = read_all f xs (drop i xs) done (drop_of_length-le xs le) r

-- both texts are there
pub both_there : {M N : Type 0} (a : Option M) (b : Option N) (m : M) (n : N) → a ≡ Some m → b ≡ Some n
    → both_read a b ≡ Some (m, n)
both_there a b m n is also = rw (is, also) refl
