-- Values that are written one after the other.
use Rattle.std.proofs.Common.{◌≡◌, ℕ, ◌+◌, ◌<◌, suc, List, [], ◌∷◌, ◌++◌, length, get_or, take, map, refl, sym, ap, ◌∙◌}
use Rattle.std.proofs.Common.{append_assoc, append-nil, rules, arith}
use Rattle.std.proofs.lemmas.List.{map_more, length-map}
use Rattle.std.specs.Prelude.{Result, OnOk, string_bytes}
use Rattle.std.proofs.lemmas.Result.{on_ok_weaker}
use Rattle.redis_resp.specs.Tree.{Tree, push, trees, pairs}
use Rattle.std.proofs.Common.{Vec, Global, Box, String}
use Rattle.redis_resp.specs.Value.{tree, tree_of_pair}
use Rattle.redis_resp.specs.declared.value.Value.{Value, the_lemmas}
use Rattle.redis_resp.specs.declared.value.Value.TheVariants as v
use Rattle.redis_resp.proofs.TreeLemmas.{tree-Array, tree-Set, tree-Map, tree-Attribute}
use Rattle.redis_wire.specs.declared.written.Protocol.{Protocol}
use Rattle.redis_wire.specs.Packed.{bulk_bytes}
use Rattle.redis_wire.specs.Written.{count_bytes, attributes_bytes, set_head, map_head, tree_count, pair_count}
use Rattle.redis_wire.specs.Written.{tree_bytes, trees_bytes, pairs_bytes}

pub tree_count_is : (ts : List Tree) → tree_count (trees ts) ≡ length ts
tree_count_is [] = refl
tree_count_is (t ∷ ts) = let e = tree_count_is ts in omega (arith, e)

pub pair_count_is : (ps : List (Tree × Tree)) → pair_count (pairs ps) ≡ length ps
pair_count_is [] = refl
pair_count_is (x ∷ ps) = let e = pair_count_is ps in omega (arith, e)

pub trees_push : (p : Protocol) (ts : List Tree) (t : Tree)
    → trees_bytes p (trees (ts ++ t ∷ [])) ≡ trees_bytes p (trees ts) ++ tree_bytes p t
trees_push p [] t = append-nil (tree_bytes p t)
trees_push p (u ∷ ts) t = ap (λ (z : List ℕ). tree_bytes p u ++ z) (trees_push p ts t)
    ∙ sym (append_assoc (tree_bytes p u) (trees_bytes p (trees ts)) (tree_bytes p t))

pub pairs_push : (p : Protocol) (ps : List (Tree × Tree)) (x : Tree × Tree)
    → pairs_bytes p (pairs (ps ++ x ∷ [])) ≡ pairs_bytes p (pairs ps) ++ (tree_bytes p x.0 ++ tree_bytes p x.1)
pairs_push p [] x = ap (λ (z : List ℕ). tree_bytes p x.0 ++ z) (append-nil (tree_bytes p x.1))
pairs_push p (y ∷ ps) x =
    let rest = pairs_bytes p (pairs ps) in
    let new = tree_bytes p x.0 ++ tree_bytes p x.1 in
    ap (λ (z : List ℕ). tree_bytes p y.0 ++ (tree_bytes p y.1 ++ z)) (pairs_push p ps x)
    ∙ ap (λ (z : List ℕ). tree_bytes p y.0 ++ z) (sym (append_assoc (tree_bytes p y.1) rest new))
    ∙ sym (append_assoc (tree_bytes p y.0) (tree_bytes p y.1 ++ rest) new)

-- the first i of some values were written after the start, and the next one is written after them
module _ {A B : Type 0} (f : A → B) (bytes : List B → List ℕ) (one : B → List ℕ)
    (push : (bs : List B) (b : B) → bytes (bs ++ b ∷ []) ≡ bytes bs ++ one b) where
  pub written_more : (from : List A) (start to new : List ℕ) (x : A) (i : ℕ) → i < length from → x ≡ get_or from i x
      → to ≡ start ++ bytes (map f (take i from)) → new ≡ to ++ one (f x)
      → new ≡ start ++ bytes (map f (take (i + 1) from))
  written_more from start to new x i lt is so_far grown =
      grown
      ∙ ap (λ (z : List ℕ). z ++ one (f x)) so_far
      ∙ append_assoc start (bytes (map f (take i from))) (one (f x))
      ∙ ap (λ (z : List ℕ). start ++ z) (sym (
      ap bytes (map_more f from i x lt ∙ ap (λ (y : A). map f (take i from) ++ f y ∷ []) (sym is))
      ∙ push (map f (take i from)) (f x)))

-- one text after another
pub two_more : (a b c x y : List ℕ) → b ≡ a ++ x → c ≡ b ++ y → c ≡ a ++ (x ++ y)
two_more a b c x y p q = q ∙ ap (λ (z : List ℕ). z ++ y) p ∙ append_assoc a x y

pub on_two : {T E : Type 0} (r : Result T E) (a b c x y z : List ℕ) → b ≡ a ++ x → OnOk r (c ≡ b ++ y) → x ++ y ≡ z
    → OnOk r (c ≡ a ++ z)
on_two r a b c x y z p q same = on_ok_weaker r (λ s. two_more a b c x y p s ∙ ap (λ (w : List ℕ). a ++ w) same) q

-- ---- a count, and what follows it

count_trees : (vs : List Value) (n : ℕ) → n ≡ length vs → n ≡ tree_count (trees (map tree vs))
count_trees vs n len = len ∙ sym (length-map vs tree) ∙ sym (tree_count_is (map tree vs))

pub count_pairs : (vs : List (Value × Value)) (n : ℕ) → n ≡ length vs → n ≡ pair_count (pairs (map tree_of_pair vs))
count_pairs vs n len = len ∙ sym (length-map vs tree_of_pair) ∙ sym (pair_count_is (map tree_of_pair vs))

tree-Push : (k : String Global) (vs : Vec Value Global)
    → tree (v.Push k vs) ≡ push (string_bytes k) (trees (map tree vs.items))
tree-Push k vs = search (rules, the_lemmas)

module _ (p : Protocol) (x : Value) (n : ℕ) where
  pub array_is : (vs : Vec Value Global) → x ≡ v.Array vs → n ≡ length vs.items
      → count_bytes 42 n ++ trees_bytes p (trees (map tree vs.items)) ≡ tree_bytes p (tree x)
  array_is vs is len =
      ap (λ (m : ℕ). count_bytes 42 m ++ trees_bytes p (trees (map tree vs.items))) (count_trees vs.items n len)
      ∙ ap (tree_bytes p) (sym (tree-Array vs)) ∙ ap (λ (y : Value). tree_bytes p (tree y)) (sym is)

  pub set_is : (vs : Vec Value Global) → x ≡ v.Set vs → n ≡ length vs.items
      → set_head p n ++ trees_bytes p (trees (map tree vs.items)) ≡ tree_bytes p (tree x)
  set_is vs is len =
      ap (λ (m : ℕ). set_head p m ++ trees_bytes p (trees (map tree vs.items))) (count_trees vs.items n len)
      ∙ ap (tree_bytes p) (sym (tree-Set vs)) ∙ ap (λ (y : Value). tree_bytes p (tree y)) (sym is)

  pub map_is : (vs : Vec (Value × Value) Global) → x ≡ v.Map vs → n ≡ length vs.items
      → map_head p n ++ pairs_bytes p (pairs (map tree_of_pair vs.items)) ≡ tree_bytes p (tree x)
  map_is vs is len =
      ap (λ (m : ℕ). map_head p m ++ pairs_bytes p (pairs (map tree_of_pair vs.items))) (count_pairs vs.items n len)
      ∙ ap (tree_bytes p) (sym (tree-Map vs)) ∙ ap (λ (y : Value). tree_bytes p (tree y)) (sym is)

  pub push_is : (k : String Global) (vs : Vec Value Global) → x ≡ v.Push k vs → n ≡ length vs.items
      → (count_bytes 42 (n + 1) ++ bulk_bytes (string_bytes k)) ++ trees_bytes p (trees (map tree vs.items))
      ≡ tree_bytes p (tree x)
  push_is k vs is len =
      append_assoc (count_bytes 42 (n + 1)) (bulk_bytes (string_bytes k)) (trees_bytes p (trees (map tree vs.items)))
      ∙ (let e = count_trees vs.items n len in
      let more : n + 1 ≡ suc (tree_count (trees (map tree vs.items))) = omega (arith, e) in
      ap (λ (m : ℕ). count_bytes 42 m ++ (bulk_bytes (string_bytes k) ++ trees_bytes p (trees (map tree vs.items))))
      more)
      ∙ ap (tree_bytes p) (sym (tree-Push k vs)) ∙ ap (λ (y : Value). tree_bytes p (tree y)) (sym is)

  pub attribute_is : (b : Box Value Global) (vs : Vec (Value × Value) Global) (y : Value) → x ≡ v.Attribute b vs
      → y ≡ b.value
      → attributes_bytes p (pair_count (pairs (map tree_of_pair vs.items)))
      (pairs_bytes p (pairs (map tree_of_pair vs.items))) ++ tree_bytes p (tree y) ≡ tree_bytes p (tree x)
  attribute_is b vs y is same =
      ap (λ (z : Value). attributes_bytes p (pair_count (pairs (map tree_of_pair vs.items)))
      (pairs_bytes p (pairs (map tree_of_pair vs.items))) ++ tree_bytes p (tree z)) same
      ∙ ap (tree_bytes p) (sym (tree-Attribute b vs)) ∙ ap (λ (z : Value). tree_bytes p (tree z)) (sym is)
