-- Items that are checked one by one for a property, and why no record is made of them.
use Rattle.std.proofs.Common.{◌≡◌, ◌<◌, ◌+◌, ◌∙◌, ℕ, List, [], ◌∷◌, map, length, drop, inl, inr}
use Rattle.std.proofs.Common.{⊎_elim, ap, sym, add-one}
use Rattle.std.specs.List.{AllByRecursion}
use Rattle.std.proofs.Math.ListN.{get_or}
use Rattle.std.proofs.Math.Seq.{drop-cons}
use Rattle.redis_resp.specs.declared.value.error.ParsingError.{ParsingError}
use Rattle.stream_in_place.specs.declared.places.FieldPlace.{FieldPlace}
use Rattle.stream_in_place.specs.Copied.{NotOwned}
use Rattle.stream_in_place.specs.Placed.{field_in}

-- the error of a part is an error of the whole
pub not_owned_whole : (part whole : Type 0) (error : ParsingError) → (whole → part) → NotOwned part error
    → NotOwned whole error
not_owned_whole part whole error down r = ⊎_elim (λ x. inl (x.0, λ h. x.1 (down h))) inr r

-- all items have the property exactly if those that are left have it
pub record AllIfLeft {A : Type 0} (P : A → Type 0) (left all : List A) : Type 0 where
  pub whole : AllByRecursion P left → AllByRecursion P all
  pub part : AllByRecursion P all → AllByRecursion P left

module _ {A : Type 0} (P : A → Type 0) where
  pub left_starts : (left all : List A) → left ≡ all → AllIfLeft P left all
  left_starts left all is = rw is (record { whole = λ h. h; part = λ h. h })

  pub left_goes : (items left all : List A) (x : A) → items ≡ x ∷ left → P x → AllIfLeft P items all
      → AllIfLeft P left all
  left_goes items left all x next p h =
      let at : AllIfLeft P (x ∷ left) all = rw next at h in
      record { whole = λ each. at.whole (p, each); part = λ each. (at.part each).1 }

  pub left_ends : (left all : List A) → left ≡ [] → AllIfLeft P left all → AllByRecursion P all
  left_ends left all none h = h.whole (rw none tt)

  pub left_stops : (items left all : List A) (x : A) (error : ParsingError) → items ≡ x ∷ left → NotOwned (P x) error
      → AllIfLeft P items all → NotOwned (AllByRecursion P all) error
  left_stops items left all x error next r h =
      let at : AllIfLeft P (x ∷ left) all = rw next at h in
      not_owned_whole (P x) (AllByRecursion P all) error (λ each. (at.part each).0) r

-- the next field
pub next_field : (bytes : List ℕ) (places : List FieldPlace) (i : ℕ) (d : FieldPlace) → i < length places
    → map (field_in bytes) (drop i places)
    ≡ field_in bytes (get_or places i d) ∷ map (field_in bytes) (drop (i + 1) places)
next_field bytes places i d lt =
    ap (map (field_in bytes)) (drop-cons places i d lt ∙ ap (λ (n : ℕ). get_or places i d ∷ drop n places)
    (sym (add-one i)))
