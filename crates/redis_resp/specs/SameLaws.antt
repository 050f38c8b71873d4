-- The test of two trees is true exactly if they are equal, and so `==` of values is an equivalence.
use Rattle.std.specs.Prelude.{◌≡◌, Bool, true, false, ◌&&◌, refl}
use Rattle.std.specs.Bool.{Decides}
use Rattle.std.specs.Cmp.{IsEquivalence, booleans_Decides, both_ways, on_equiv}
use Rattle.std.proofs.Common.{sym, ◌∙◌, ap, subst, true≢false}
use Rattle.std.proofs.lemmas.Bool.{and_parts}
use Rattle.std.proofs.lemmas.Bool.Decides.{Decides-int_eq}
use Rattle.std.proofs.lemmas.Slice.Eq.{bytes_eq-Decides}
use Rattle.std.specs.Str.{bytes_eq}
use Rattle.redis_resp.specs.Tree.{Tree, nil, int, bulk, array, simple, okay, map_of_pairs, attribute, set, boolean}
use Rattle.redis_resp.specs.Tree.{verbatim, push, Trees, no_trees, more_trees, Pairs, no_pairs, more_pairs}
use Rattle.redis_resp.specs.Same.{same, same_each, same_pairs}
use Rattle.redis_resp.specs.Value.{tree}
use Rattle.redis_resp.specs.declared.value.Value.{Value}

neither : {P : Type 0} → false ≡ true → P
neither h = absurd (true≢false (sym h))

both : (a b : Bool) → a ≡ true → b ≡ true → (a && b) ≡ true
both a b p q = subst (λ c. (c && b) ≡ true) (sym p) q

mutual
  same_true : (a b : Tree) → same a b ≡ true → a ≡ b
  same_true nil nil h = refl
  same_true (int x) (int y) h = ap int ((Decides-int_eq x y).0 h)
  same_true (bulk x) (bulk y) h = ap bulk ((bytes_eq-Decides x y).0 h)
  same_true (array x) (array y) h = ap array (each_true x y h)
  same_true (simple x) (simple y) h = ap simple ((bytes_eq-Decides x y).0 h)
  same_true okay okay h = refl
  same_true (map_of_pairs x) (map_of_pairs y) h = ap map_of_pairs (pairs_true x y h)
  same_true (attribute x m) (attribute y n) h =
      let p = and_parts (same x y) (same_pairs m n) h in
      ap (λ t. attribute t m) (same_true x y p.0) ∙ ap (λ ps. attribute y ps) (pairs_true m n p.1)
  same_true (set x) (set y) h = ap set (each_true x y h)
  same_true (boolean x) (boolean y) h = ap boolean ((booleans_Decides x y).0 h)
  same_true (verbatim f x) (verbatim g y) h =
      let p = and_parts (bytes_eq f g) (bytes_eq x y) h in
      ap (λ k. verbatim k x) ((bytes_eq-Decides f g).0 p.0) ∙ ap (λ s. verbatim g s) ((bytes_eq-Decides x y).0 p.1)
  same_true (push f x) (push g y) h =
      let p = and_parts (bytes_eq f g) (same_each x y) h in
      ap (λ k. push k x) ((bytes_eq-Decides f g).0 p.0) ∙ ap (λ ts. push g ts) (each_true x y p.1)
  same_true _ _ h = neither h

  each_true : (a b : Trees) → same_each a b ≡ true → a ≡ b
  each_true no_trees no_trees h = refl
  each_true (more_trees t ts) (more_trees u us) h =
      let p = and_parts (same t u) (same_each ts us) h in
      ap (λ s. more_trees s ts) (same_true t u p.0) ∙ ap (λ ss. more_trees u ss) (each_true ts us p.1)
  each_true _ _ h = neither h

  pairs_true : (a b : Pairs) → same_pairs a b ≡ true → a ≡ b
  pairs_true no_pairs no_pairs h = refl
  pairs_true (more_pairs k x ps) (more_pairs l y qs) h =
      let p = and_parts (same k l) (same x y && same_pairs ps qs) h in
      let q = and_parts (same x y) (same_pairs ps qs) p.1 in
      ap (λ t. more_pairs t x ps) (same_true k l p.0) ∙ ap (λ t. more_pairs l t ps) (same_true x y q.0)
      ∙ ap (λ rs. more_pairs l y rs) (pairs_true ps qs q.1)
  pairs_true _ _ h = neither h

mutual
  same_refl : (a : Tree) → same a a ≡ true
  same_refl nil = refl
  same_refl (int x) = (Decides-int_eq x x).1 refl
  same_refl (bulk x) = (bytes_eq-Decides x x).1 refl
  same_refl (array x) = each_refl x
  same_refl (simple x) = (bytes_eq-Decides x x).1 refl
  same_refl okay = refl
  same_refl (map_of_pairs x) = pairs_refl x
  same_refl (attribute x m) = both _ _ (same_refl x) (pairs_refl m)
  same_refl (set x) = each_refl x
  same_refl (boolean x) = (booleans_Decides x x).1 refl
  same_refl (verbatim f x) = both _ _ ((bytes_eq-Decides f f).1 refl) ((bytes_eq-Decides x x).1 refl)
  same_refl (push f x) = both _ _ ((bytes_eq-Decides f f).1 refl) (each_refl x)

  each_refl : (a : Trees) → same_each a a ≡ true
  each_refl no_trees = refl
  each_refl (more_trees t ts) = both _ _ (same_refl t) (each_refl ts)

  pairs_refl : (a : Pairs) → same_pairs a a ≡ true
  pairs_refl no_pairs = refl
  pairs_refl (more_pairs k x ps) = both _ _ (same_refl k) (both _ _ (same_refl x) (pairs_refl ps))

-- the test is true exactly for equal trees
pub same-Decides : (a b : Tree) → Decides (same a b) (a ≡ b)
same-Decides a b = (same_true a b, λ e. subst (λ c. same a c ≡ true) e (same_refl a))

-- the test is an equivalence
pub same_equiv : IsEquivalence same
same_equiv = record {
  refl = same_refl;
  symm = λ a b. both_ways (same a b) (same b a)
      (λ p. (same-Decides b a).1 (sym (same_true a b p)))
      (λ p. (same-Decides a b).1 (sym (same_true b a p)));
  congr = λ a b c p. subst (λ d. same a c ≡ same d c) (same_true a b p) refl;
}

-- the laws of `==` of values
pub same_value_laws : IsEquivalence {K = Value} (λ a b. same (tree a) (tree b))
same_value_laws = on_equiv tree same_equiv
