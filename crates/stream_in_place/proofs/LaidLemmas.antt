-- Names and values that are written one after the other, and their places.
use Rattle.std.proofs.Common.{◌≡◌, ◌≤◌, ◌+◌, ◌∙◌, ℕ, List, [], ◌∷◌, ◌++◌, map, flat_map, length, take, drop, sym}
use Rattle.std.proofs.Common.{ap, arith, append_assoc, drop-drop}
use Rattle.std.specs.List.{AllByRecursion}
use Rattle.std.proofs.lemmas.List.{length-append, length-drop}
use Rattle.std.proofs.Math.Seq.{take-append_seam, drop-append_seam}
use Rattle.redis_wire.specs.Place.{text_in}
use Rattle.stream_entries.proofs.SkeletonLemmas.{all_append}
use Rattle.stream_in_place.specs.declared.places.FieldPlace.{FieldPlace}
use Rattle.stream_in_place.specs.declared.sent.Octets.{Octets}
use Rattle.stream_in_place.specs.Sent.{Pairs}
use Rattle.stream_in_place.specs.SentMeaning.{joined_pair, octet_pair}
use Rattle.stream_in_place.specs.Placed.{field_in, IsField}
use Rattle.stream_in_place.proofs.FillLemmas.{map_more}

-- the bytes of names and values
abbrev pub laid_bytes : List (Octets × Octets) → List ℕ
laid_bytes ps = flat_map joined_pair (map octet_pair ps)

-- The fields found so far, with those whose bytes are at `at` and after, are all.
pub record IsLaid (bytes : List ℕ) (all : Pairs) (fields : List FieldPlace) (left : List (Octets × Octets))
    (at : ℕ) : Type 0 where
  pub are : map (field_in bytes) fields ++ map octet_pair left ≡ all
  pub rest : drop at bytes ≡ laid_bytes left
  pub within : at ≤ length bytes
  pub each : AllByRecursion (IsField bytes) fields

module _ (bytes : List ℕ) (all : Pairs) (items left : List (Octets × Octets)) (p : Octets × Octets)
    (next : items ≡ p ∷ left) (fields : List FieldPlace) (at : ℕ) (h : IsLaid bytes all fields items at) where
  name_and_rest : drop at bytes ≡ p.0.0.items ++ (p.1.0.items ++ laid_bytes left)
  name_and_rest =
      let is : drop at bytes ≡ (p.0.0.items ++ p.1.0.items) ++ laid_bytes left = rw next at h.rest in
      is ∙ append_assoc p.0.0.items p.1.0.items (laid_bytes left)

  value_and_rest : drop (at + length p.0.0.items) bytes ≡ p.1.0.items ++ laid_bytes left
  value_and_rest =
      sym (drop-drop (length p.0.0.items) at bytes) ∙ ap (drop (length p.0.0.items)) name_and_rest
      ∙ drop-append_seam p.0.0.items (p.1.0.items ++ laid_bytes left)

  rest_left : drop ((at + length p.0.0.items) + length p.1.0.items) bytes ≡ laid_bytes left
  rest_left =
      sym (drop-drop (length p.1.0.items) (at + length p.0.0.items) bytes)
      ∙ ap (drop (length p.1.0.items)) value_and_rest ∙ drop-append_seam p.1.0.items (laid_bytes left)

  -- there is room for the pair
  pub pair_within : (at + length p.0.0.items) + length p.1.0.items ≤ length bytes
  pair_within =
      omega (
        arith,
        ap length name_and_rest,
        length-append p.0.0.items (p.1.0.items ++ laid_bytes left),
        length-append p.1.0.items (laid_bytes left),
        length-drop at bytes,
        h.within,
      )

  pub laid_more : (middle after n m : ℕ) (f : FieldPlace) (more : List FieldPlace)
      → middle ≡ at + length p.0.0.items → after ≡ middle + length p.1.0.items
      → n ≡ length p.0.0.items → m ≡ length p.1.0.items
      → f ≡ record { name = record { start = at; len = n }; value = record { start = middle; len = m } }
      → more ≡ fields ++ f ∷ [] → IsLaid bytes all more left after
  laid_more middle after n m f more middle_is after_is n_is m_is f_is more_is =
      let end : after ≡ (at + length p.0.0.items) + length p.1.0.items =
      after_is ∙ ap (λ (x : ℕ). x + length p.1.0.items) middle_is in
      let name : text_in bytes f.name ≡ p.0.0.items =
      ap (λ (x : FieldPlace). text_in bytes x.name) f_is ∙ ap (λ (x : ℕ). take x (drop at bytes)) n_is
      ∙ ap (take (length p.0.0.items)) name_and_rest
      ∙ take-append_seam p.0.0.items (p.1.0.items ++ laid_bytes left) in
      let val : text_in bytes f.value ≡ p.1.0.items =
      ap (λ (x : FieldPlace). text_in bytes x.value) f_is ∙ ap (λ (x : ℕ). take x (drop middle bytes)) m_is
      ∙ ap (λ (x : ℕ). take (length p.1.0.items) (drop x bytes)) middle_is
      ∙ ap (take (length p.1.0.items)) value_and_rest ∙ take-append_seam p.1.0.items (laid_bytes left) in
      let field : field_in bytes f ≡ octet_pair p =
      ap (λ (x : List ℕ). (x, text_in bytes f.value)) name ∙ ap (λ (x : List ℕ). (p.0.0.items, x)) val in
      let fields_are : map (field_in bytes) more ≡ map (field_in bytes) fields ++ octet_pair p ∷ [] =
      ap (map (field_in bytes)) more_is ∙ map_more (field_in bytes) fields f
      ∙ ap (λ (x : List ℕ × List ℕ). map (field_in bytes) fields ++ x ∷ []) field in
      let before : map (field_in bytes) fields ++ octet_pair p ∷ map octet_pair left ≡ all = rw next at h.are in
      let in_bytes : IsField bytes f = rw f_is (record {
        name = omega (arith, n_is, pair_within);
        value = omega (arith, m_is, middle_is, pair_within);
      }) in
      record {
        are = ap (λ (x : Pairs). x ++ map octet_pair left) fields_are
            ∙ append_assoc (map (field_in bytes) fields) (octet_pair p ∷ []) (map octet_pair left) ∙ before;
        rest = ap (λ (x : ℕ). drop x bytes) end ∙ rest_left;
        within = omega (arith, end, pair_within);
        each = rw more_is (all_append (IsField bytes) fields (f ∷ []) h.each (in_bytes, tt));
      }
