-- Lists of one argument.
use Rattle.std.specs.Prelude.{◌≡◌, ℕ, List, [], ◌∷◌, length, refl, ⊤}
use Rattle.std.proofs.Common.{sym, subst, zero, suc}

-- the argument of such a list
pub record One (args : List (List ℕ)) : Type 0 where
  pub arg : List ℕ
  pub is : args ≡ arg ∷ []

-- the number is one
abbrev IsOne : ℕ → Type 0
IsOne zero = ⊥
IsOne (suc zero) = ⊤
IsOne (suc (suc n)) = ⊥

-- a list of one argument has that argument
pub the_one : (args : List (List ℕ)) → length args ≡ 1 → One args
the_one [] e = absurd (subst IsOne (sym e) tt)
the_one (arg ∷ []) e = record { arg = arg; is = refl }
the_one (arg ∷ next ∷ rest) e = absurd (subst IsOne (sym e) tt)
