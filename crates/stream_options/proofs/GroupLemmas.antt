-- How a series of writes of kept arguments stops.
use Rattle.std.proofs.Common.{◌≡◌, ◌<◌, ℕ, List, [], ◌∷◌, ◌++◌, map, take, length, get_or, refl, sym, ◌∙◌, ap, subst}
use Rattle.std.specs.Global.{Vec}
use Rattle.std.specs.List.{flat_map}
use Rattle.redis_args.specs.Writer.{StopsWithin}
use Rattle.redis_args.proofs.WriterLemmas.{stops_in_element}

-- one argument of each, joined
flat_map-one : (xs : List (Vec ℕ)) → flat_map (λ arg. arg.items ∷ []) xs ≡ map (λ arg. arg.items) xs
flat_map-one [] = refl
flat_map-one (x ∷ xs) = ap (λ args. x.items ∷ args) (flat_map-one xs)

-- the run wrote the first arguments, and stopped at the argument with index i
pub stops_at_argument : {E : Type 0} (xs : List (Vec ℕ)) (i : ℕ)
    (x : Vec ℕ) {old mid new : List (List ℕ)} {may_refuse : List ℕ → E → Type 0} {e : E}
    → i < length xs → x ≡ get_or xs i x → mid ≡ old ++ map (λ arg. arg.items) (take i xs)
    → StopsWithin mid (x.items ∷ []) new may_refuse e → StopsWithin old (map (λ arg. arg.items) xs) new may_refuse e
stops_at_argument xs i x {old = old} {new = new} {may_refuse = r} {e = e} lt is w s =
    subst (λ args. StopsWithin old args new r e) (flat_map-one xs)
    (stops_in_element (λ arg. arg.items ∷ []) xs i x lt is
    (w ∙ ap (λ args. old ++ args) (sym (flat_map-one (take i xs)))) s)
