-- The tag of a key.
use Rattle.std.proofs.Common.{◌≡◌, ◌≢◌, ◌<◌, ◌%◌, ◌^◌, ◌+◌, ℕ, List, [], ◌∷◌, ◌++◌, refl, sym, ◌∙◌, ap, subst, arith, decimal}
use Rattle.std.proofs.Common.{Option, Some, None, append_assoc, length}
use Rattle.std.proofs.lemmas.Fmt.{decimal_nonempty}
use Rattle.std.specs.Option.{option_and_then, unwrap_or}
use Rattle.redis_client.specs.Cluster.Crc.{crc16}
use Rattle.redis_client.specs.Cluster.Slot.{if_any, hash_tag, hashed, key_slot}
use Rattle.redis_client.specs.Cluster.Split.{split_first, Lacks}
use Rattle.redis_client.specs.Cluster.Partition.{SlotsOfPartitions, partition_name}
use Rattle.redis_client.specs.Cluster.Tag.{HasTag, TagsDecide, WholeKeysDecide}
use Rattle.redis_client.proofs.ClusterLemmas.SplitLemmas.{behind_front, parts}
use Rattle.redis_client.proofs.ClusterLemmas.PlaceLemmas.{digits_lack, number_fits}

abbrev Parts : Type 0
Parts = List ℕ × List ℕ

-- the tag after the opening brace
abbrev closing : Parts → Option (List ℕ)
closing x = option_and_then (λ y. if_any y.0) (split_first 125 x.1)

any_of : (tag : List ℕ) → tag ≢ [] → if_any tag ≡ Some tag
any_of [] some = absurd (some refl)
any_of (b ∷ rest) some = refl

tag_is : (front tag rest : List ℕ) → Lacks 123 front → Lacks 125 tag → tag ≢ []
    → hash_tag (front ++ 123 ∷ (tag ++ 125 ∷ rest)) ≡ Some tag
tag_is front tag rest lf lt some =
    ap (option_and_then closing) (behind_front 123 front (tag ++ 125 ∷ rest) lf)
    ∙ ap (option_and_then (λ (y : Parts). if_any y.0)) (behind_front 125 tag rest lt)
    ∙ any_of tag some

pub tags_decide : TagsDecide
tags_decide key tag h =
    ap (λ k. hashed k) h.is ∙ ap (λ o. unwrap_or o (h.front ++ 123 ∷ (tag ++ 125 ∷ h.rest)))
    (tag_is h.front tag h.rest h.first_opening h.first_closing h.not_empty)

-- ---- a tag that is found is there

any_is : (xs tag : List ℕ) → if_any xs ≡ Some tag → (xs ≡ tag) × (tag ≢ [])
any_is [] tag is = absurd cc
any_is (b ∷ rest) tag is =
    let same : b ∷ rest ≡ tag = grind arith in (same, λ e. let none : b ∷ rest ≡ [] = same ∙ e in absurd cc)

closed : (key tag : List ℕ) (x : Parts) (o : Option Parts) → split_first 123 key ≡ Some (x.0, x.1)
    → split_first 125 x.1 ≡ o → option_and_then (λ y. if_any y.0) o ≡ Some tag → HasTag key tag
closed key tag x None opened is found = absurd cc
closed key tag x (Some y) opened is found =
    let outer = parts 123 key x.0 x.1 opened in
    let inner = parts 125 x.1 y.0 y.1 is in
    let any = any_is y.0 tag found in
    record {
      front = x.0;
      rest = y.1;
      is = outer.is ∙ ap (λ t. x.0 ++ 123 ∷ t) (inner.is ∙ ap (λ t. t ++ 125 ∷ y.1) any.0);
      first_opening = outer.lacks;
      first_closing = subst (Lacks 125) any.0 inner.lacks;
      not_empty = any.1;
    }

opened : (key tag : List ℕ) (o : Option Parts) → split_first 123 key ≡ o → option_and_then closing o ≡ Some tag
    → HasTag key tag
opened key tag None is found = absurd cc
opened key tag (Some x) is found = closed key tag x (split_first 125 x.1) is refl found

pub whole_keys_decide : WholeKeysDecide
whole_keys_decide key none = elim (hash_tag key) as (λ o. hash_tag key ≡ o → unwrap_or o key ≡ key) [
  | None ↦ λ e. refl
  | Some tag ↦ λ e. absurd (none tag (opened key tag (split_first 123 key) refl e))
] refl

-- ---- partitions

no_closing : (d : ℕ) → d < 10 → 48 + d ≢ 125
no_closing d lt = omega arith

some_digit : (n : ℕ) → n < 2 ^ 64 → decimal n ≢ []
some_digit n small e = let none : 0 < 0 = subst (λ ds. 0 < length ds) e (decimal_nonempty n small) in absurd (omega (arith, none))

lacks_colon : (name : List ℕ) → Lacks 123 name → Lacks 123 (name ++ 58 ∷ [])
lacks_colon [] lacks = (omega arith, tt)
lacks_colon (b ∷ name) lacks = (lacks.0, lacks_colon name lacks.1)

pub slots_of_partitions : SlotsOfPartitions
slots_of_partitions name n lacks small =
    let long = number_fits n small in
    let text : partition_name name n ≡ (name ++ 58 ∷ []) ++ 123 ∷ (decimal n ++ 125 ∷ []) =
    sym (append_assoc name (58 ∷ []) (123 ∷ (decimal n ++ 125 ∷ []))) in
    ap (λ key. key_slot key) text
    ∙ ap (λ o. crc16 (unwrap_or o ((name ++ 58 ∷ []) ++ 123 ∷ (decimal n ++ 125 ∷ []))) % 16384)
    (tag_is (name ++ 58 ∷ []) (decimal n) [] (lacks_colon name lacks) (digits_lack 125 no_closing n long) (some_digit n long))
