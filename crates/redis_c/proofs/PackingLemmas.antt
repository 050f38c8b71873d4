-- Commands of texts at places.
use Rattle.std.proofs.Common.{◌≡◌, ℕ, List, [], ◌∷◌, map, Option, Some, None, refl, sym, ap, subst}
use Rattle.std.specs.List.{flat_map}
use Rattle.redis_c.specs.Packing.{IsPacking, IsPackingOf, IsPackingWith, IsPackingBy}
use Rattle.redis_c.specs.declared.argument.Argument.{Argument}
use Rattle.redis_c.specs.declared.packing.Packing.{Packing}
use Rattle.redis_c.specs.declared.packing.Packing.TheVariants as packings

-- the command of the texts is packed
pub packed_of : {A : Type 0} (args : List A → List (List ℕ)) (texts : Option (List A)) (ts : List A)
    (command : List (List ℕ)) (out : List ℕ) (p : Packing) → texts ≡ Some ts → command ≡ args ts
    → IsPacking command out p → IsPackingOf args texts out p
packed_of {A} args texts ts command out p is same packed =
    subst (λ t. IsPackingOf args t out p) (sym is) (by p (subst (λ c. IsPacking c out p) same packed))
  where
    by : (p : Packing) → IsPacking (args ts) out p → IsPackingOf args (Some ts) out p
    by packings.Memory i = i
    by packings.TooLarge i = i
    by (packings.Written len) i = i
    by (packings.Room len) i = i
    by packings.Outside i = elim i [ ]
    by packings.Nothing i = elim i [ ]
    by packings.Refused i = elim i [ ]

abbrev pub texts_of : Argument × Argument → List ℕ × List ℕ
texts_of field = (field.0.0.now, field.1.0.now)

-- the command of the settings is packed
pub packed_with : {S : Type 0} (args : S → List (List ℕ)) (settings : Option S) (s : S) (out : List ℕ) (p : Packing)
    → settings ≡ Some s → IsPacking (args s) out p → IsPackingWith args settings out p
packed_with {S} args settings s out p is packed =
    subst (λ o. IsPackingWith args o out p) (sym is) (by p packed)
  where
    by : (p : Packing) → IsPacking (args s) out p → IsPackingWith args (Some s) out p
    by packings.Memory i = i
    by packings.TooLarge i = i
    by (packings.Written len) i = i
    by (packings.Room len) i = i
    by packings.Outside i = elim i [ ]
    by packings.Nothing i = elim i [ ]
    by packings.Refused i = elim i [ ]

-- the command of the settings and the texts is packed
pub packed_by : {S A : Type 0} (args : S → List A → List (List ℕ)) (settings : Option S) (s : S)
    (texts : Option (List A)) (out : List ℕ) (p : Packing) → settings ≡ Some s → IsPackingOf (args s) texts out p
    → IsPackingBy args settings texts out p
packed_by {S} {A} args settings s texts out p is packed =
    subst (λ o. IsPackingBy args o texts out p) (sym is) (by p texts packed)
  where
    by : (p : Packing) (texts : Option (List A)) → IsPackingOf (args s) texts out p
        → IsPackingBy args (Some s) texts out p
    by packings.Memory texts i = i
    by packings.TooLarge texts i = i
    by (packings.Written len) texts i = i
    by (packings.Room len) texts i = i
    by packings.Outside texts i = i
    by packings.Nothing texts i = i
    by packings.Refused None i = elim i [ ]
    by packings.Refused (Some ts) i = elim i [ ]

-- the keys of streams
pub keys_of : (streams : List (Argument × Argument))
    → flat_map (λ s. s.0.0.now ∷ []) streams ≡ map (λ s. s.0) (map texts_of streams)
keys_of [] = refl
keys_of (s ∷ streams) = ap (λ keys. s.0.0.now ∷ keys) (keys_of streams)

-- the ids of streams
pub ids_of : (streams : List (Argument × Argument))
    → flat_map (λ s. s.1.0.now ∷ []) streams ≡ map (λ s. s.1) (map texts_of streams)
ids_of [] = refl
ids_of (s ∷ streams) = ap (λ ids. s.1.0.now ∷ ids) (ids_of streams)
