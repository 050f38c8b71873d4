-- An additional field in a part of a reply does not change the reading of the whole.
use Rattle.std.proofs.Common.{◌≡◌, ◌⊎◌, ℕ, Bool, true, false, cond, List, [], ◌∷◌, ◌++◌, Option, Some, None, option_map}
use Rattle.std.proofs.Common.{option_and_then, refl, sym, ◌∙◌, ap, codes, inl, inr, true≢false}
use Rattle.std.specs.Bool.{⊤}
use Rattle.std.specs.Option.{option_or}
use Rattle.std.specs.Str.{bytes_eq}
use Rattle.redis_resp.specs.Tree.{Tree, items, pairs_in}
use Rattle.redis_resp.specs.Text.{text_reading}
use Rattle.redis_resp.specs.Reading.{traverse, list_reading}
use Rattle.redis_resp.specs.Table.{entry_reading, last_with}
use Rattle.redis_streams.specs.Info.{NamedFields, field_or}
use Rattle.redis_streams.specs.InfoFull.{full_consumer_reading, full_group_of, full_group_reading, full_reading}
use Rattle.redis_streams.specs.InfoFull.{full_stream_of}
use Rattle.redis_streams.specs.OtherKeys.{HasOtherItem, HasOtherKey, HasOtherValue, HasMoreInGroup, HasMoreInStream}
use Rattle.redis_streams.specs.OtherKeys.{MoreChangesNothing, full_consumer_names}
use Rattle.redis_streams.proofs.OtherKeysLemmas.{ReadPairs, pairs_read, full_consumer_law, full_group_law, full_law}

traverse_same : {A M : Type 0} (f : A → Option M) (before after : List A) (x y : A) → f y ≡ f x
    → traverse f (before ++ y ∷ after) ≡ traverse f (before ++ x ∷ after)
traverse_same f [] after x y e = ap (λ o. option_and_then (λ m. option_map (λ ms. m ∷ ms) (traverse f after)) o) e
traverse_same f (p ∷ ps) after x y e =
    ap (λ o. option_and_then (λ m. option_map (λ ms. m ∷ ms) o) (f p)) (traverse_same f ps after x y e)

-- a list has the same reading after one item is exchanged for one with the same reading
list_same : {M : Type 0} (reading : Tree → Option M) (IsMore : Tree → Tree → Type 0) → MoreChangesNothing IsMore reading
    → MoreChangesNothing (HasOtherItem IsMore) (list_reading reading)
list_same reading IsMore law t more h =
    rw (h.items_are, h.more_items_are)
    (traverse_same reading h.before h.after h.item h.changed (law h.item h.changed h.is_more))

-- both are refused, or both have the same last value of each key but this, which may have one value or the other
abbrev Exchanged : List ℕ → Tree → Tree → ReadPairs → ReadPairs → Type 0
Exchanged name value changed None None = ⊤
Exchanged name value changed (Some more) (Some ps) =
    (n : List ℕ) → (last_with n more ≡ last_with n ps)
    ⊎ ((bytes_eq n name ≡ true) × (last_with n ps ≡ Some value) × (last_with n more ≡ Some changed))
Exchanged name value changed None (Some ps) = ⊥
Exchanged name value changed (Some more) None = ⊥

put_first : (name : List ℕ) (value changed : Tree) (o : ReadPairs)
    → Exchanged name value changed (option_map (λ ps. (name, changed) ∷ ps) o) (option_map (λ ps. (name, value) ∷ ps) o)
put_first name value changed None = tt
put_first name value changed (Some ps) = λ n. by (bytes_eq n name) (last_with n ps)
  where
    by : (b : Bool) (o : Option Tree)
        → (option_or o (cond b (Some changed) None) ≡ option_or o (cond b (Some value) None))
        ⊎ ((b ≡ true) × (option_or o (cond b (Some value) None) ≡ Some value)
        × (option_or o (cond b (Some changed) None) ≡ Some changed))
    by false o = inl refl
    by true None = inr (refl, refl, refl)
    by true (Some x) = inl refl

one_before : (name : List ℕ) (value changed : Tree) (p : List ℕ × Tree) (more o : ReadPairs)
    → Exchanged name value changed more o
    → Exchanged name value changed (option_map (λ ps. p ∷ ps) more) (option_map (λ ps. p ∷ ps) o)
one_before name value changed p None None alike = tt
one_before name value changed p None (Some ps) alike = absurd alike
one_before name value changed p (Some ms) None alike = absurd alike
one_before name value changed p (Some ms) (Some ps) alike = λ n. by n (alike n)
  where
    by : (n : List ℕ) → (last_with n ms ≡ last_with n ps)
        ⊎ ((bytes_eq n name ≡ true) × (last_with n ps ≡ Some value) × (last_with n ms ≡ Some changed))
        → (last_with n (p ∷ ms) ≡ last_with n (p ∷ ps))
        ⊎ ((bytes_eq n name ≡ true) × (last_with n (p ∷ ps) ≡ Some value) × (last_with n (p ∷ ms) ≡ Some changed))
    by n (inl e) = inl (ap (λ o. option_or o (cond (bytes_eq n p.0) (Some p.1) None)) e)
    by n (inr h) = inr (
      h.0,
      ap (λ o. option_or o (cond (bytes_eq n p.0) (Some p.1) None)) h.1,
      ap (λ o. option_or o (cond (bytes_eq n p.0) (Some p.1) None)) h.2,
    )

still_exchanged : (before after : List (Tree × Tree)) (key value changed : Tree) (name : List ℕ)
    → text_reading key ≡ Some name
    → Exchanged name value changed (pairs_read (before ++ (key, changed) ∷ after))
    (pairs_read (before ++ (key, value) ∷ after))
still_exchanged [] after key value changed name is = rw is (put_first name value changed (pairs_read after))
still_exchanged (p ∷ before) after key value changed name is =
    by (entry_reading (λ u. Some u) p) (still_exchanged before after key value changed name is)
  where
    by : (o : Option (List ℕ × Tree)) → Exchanged name value changed (pairs_read (before ++ (key, changed) ∷ after))
        (pairs_read (before ++ (key, value) ∷ after))
        → Exchanged name value changed
        (option_and_then (λ m. option_map (λ ms. m ∷ ms) (pairs_read (before ++ (key, changed) ∷ after))) o)
        (option_and_then (λ m. option_map (λ ms. m ∷ ms) (pairs_read (before ++ (key, value) ∷ after))) o)
    by None rest = tt
    by (Some m) rest = one_before name value changed m (pairs_read (before ++ (key, changed) ∷ after))
        (pairs_read (before ++ (key, value) ∷ after)) rest

-- a record of named fields is the same if the list of this name has the same reading, and all other fields are the
-- same
abbrev LooksThrough : {M N : Type 0} → List ℕ → (Tree → Option N) → (NamedFields → Option M) → Type 0
LooksThrough name reading of = (f g : NamedFields) → ((n : List ℕ) → bytes_eq n name ≡ false → f n ≡ g n)
    → field_or [] (list_reading reading) (f name) ≡ field_or [] (list_reading reading) (g name) → of f ≡ of g

module _ {M N : Type 0} (name : List ℕ) (reading : Tree → Option N) (of : NamedFields → Option M)
    (looks : LooksThrough name reading of) where
  same : (value changed : Tree) (more o : ReadPairs) → list_reading reading changed ≡ list_reading reading value
      → Exchanged name value changed more o
      → option_and_then of (option_map (λ ps n. last_with n ps) more)
      ≡ option_and_then of (option_map (λ ps n. last_with n ps) o)
  same value changed None None e alike = refl
  same value changed None (Some ps) e alike = absurd alike
  same value changed (Some ms) None e alike = absurd alike
  same value changed (Some ms) (Some ps) e alike =
      looks (λ n. last_with n ms) (λ n. last_with n ps) (λ n apart. others n apart (alike n)) (through (alike name))
    where
      others : (n : List ℕ) → bytes_eq n name ≡ false → (last_with n ms ≡ last_with n ps)
          ⊎ ((bytes_eq n name ≡ true) × (last_with n ps ≡ Some value) × (last_with n ms ≡ Some changed))
          → last_with n ms ≡ last_with n ps
      others n apart (inl e) = e
      others n apart (inr h) = absurd (true≢false (sym h.0 ∙ apart))

      through : (last_with name ms ≡ last_with name ps)
          ⊎ ((bytes_eq name name ≡ true) × (last_with name ps ≡ Some value) × (last_with name ms ≡ Some changed))
          → field_or [] (list_reading reading) (last_with name ms)
          ≡ field_or [] (list_reading reading) (last_with name ps)
      through (inl e) = ap (field_or [] (list_reading reading)) e
      through (inr h) = ap (field_or [] (list_reading reading)) h.2 ∙ e
          ∙ sym (ap (field_or [] (list_reading reading)) h.1)

  value_same : (IsMore : Tree → Tree → Type 0) → MoreChangesNothing IsMore (list_reading reading)
      → MoreChangesNothing (HasOtherValue name IsMore)
      (λ t. option_and_then of (option_map (λ ps n. last_with n ps)
      (option_and_then (traverse (entry_reading (λ u. Some u))) (pairs_in t))))
  value_same IsMore law t more h =
      rw (h.pairs, h.more_pairs) (same h.value h.changed (pairs_read (h.before ++ (h.key, h.changed) ∷ h.after))
      (pairs_read (h.before ++ (h.key, h.value) ∷ h.after))
      (law h.value h.changed h.is_more) (still_exchanged h.before h.after h.key h.value h.changed name h.is_name))

group_looks : LooksThrough (codes "consumers") full_consumer_reading full_group_of
group_looks f g e same = rw (
  e (codes "name") refl,
  e (codes "last-delivered-id") refl,
  e (codes "entries-read") refl,
  e (codes "lag") refl,
  e (codes "pel-count") refl,
  e (codes "pending") refl,
  same,
) refl

stream_looks : LooksThrough (codes "groups") full_group_reading full_stream_of
stream_looks f g e same = rw (
  e (codes "length") refl,
  e (codes "radix-tree-keys") refl,
  e (codes "radix-tree-nodes") refl,
  e (codes "last-generated-id") refl,
  e (codes "max-deleted-entry-id") refl,
  e (codes "entries-added") refl,
  e (codes "recorded-first-entry-id") refl,
  e (codes "entries") refl,
  same,
) refl

group_law : MoreChangesNothing HasMoreInGroup full_group_reading
group_law t more (inl h) = full_group_law t more h
group_law t more (inr h) =
    value_same (codes "consumers") full_consumer_reading full_group_of group_looks
    (HasOtherItem (HasOtherKey full_consumer_names))
    (list_same full_consumer_reading (HasOtherKey full_consumer_names) full_consumer_law) t more h

pub stream_law : MoreChangesNothing HasMoreInStream full_reading
stream_law t more (inl h) = full_law t more h
stream_law t more (inr h) =
    value_same (codes "groups") full_group_reading full_stream_of stream_looks (HasOtherItem HasMoreInGroup)
    (list_same full_group_reading HasMoreInGroup group_law) t more h
