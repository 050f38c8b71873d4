-- What a policy's clause reads.
use Rattle.std.proofs.Common.{◌≡◌, ℕ, Bool, true, false, ◌||◌, cond, List, ◌∷◌, codes, Option, Some, None, refl}
use Rattle.std.specs.Option.{option_map}
use Rattle.std.specs.Str.{bytes_eq}
use Rattle.stream_options.specs.Policy.{Policy, keep_ref, del_ref, acked}
use Rattle.stream_options.specs.ReadBack.{one, set, unset, policy_of, policy_clause}

-- the policy of the three tests
abbrev tested : Bool → Bool → Bool → Option Policy
tested a b c = cond a (Some keep_ref) (cond b (Some del_ref) (cond c (Some acked) None))

-- the clause of the three tests
abbrev read_by : Bool → Bool → Bool → List ℕ → List (List ℕ) → Option (Option Policy × List (List ℕ))
read_by a b c arg rest = cond (a || (b || (c || false))) (option_map set (one (λ x. x) (tested a b c) rest))
    (Some (unset (arg ∷ rest)))

there : (a b c : Bool) (arg : List ℕ) (rest : List (List ℕ)) (p : Policy) → Some p ≡ tested a b c
    → read_by a b c arg rest ≡ Some (Some p, rest)
there true b c arg rest p e = rw (← e) refl
there false true c arg rest p e = rw (← e) refl
there false false true arg rest p e = rw (← e) refl
there false false false arg rest p e = absurd cc

missing : (a b c : Bool) (arg : List ℕ) (rest : List (List ℕ)) → None ≡ tested a b c
    → read_by a b c arg rest ≡ Some (None, arg ∷ rest)
missing true b c arg rest e = absurd cc
missing false true c arg rest e = absurd cc
missing false false true arg rest e = absurd cc
missing false false false arg rest e = refl

-- the first argument is a word of a policy
pub policy_there : (arg : List ℕ) (rest : List (List ℕ)) (p : Policy) → Some p ≡ policy_of arg
    → policy_clause (arg ∷ rest) ≡ Some (Some p, rest)
policy_there arg rest p e = there (bytes_eq arg (codes "KEEPREF")) (bytes_eq arg (codes "DELREF"))
    (bytes_eq arg (codes "ACKED")) arg rest p e

-- none does
pub policy_missing : (arg : List ℕ) (rest : List (List ℕ)) → None ≡ policy_of arg
    → policy_clause (arg ∷ rest) ≡ Some (None, arg ∷ rest)
policy_missing arg rest e = missing (bytes_eq arg (codes "KEEPREF")) (bytes_eq arg (codes "DELREF"))
    (bytes_eq arg (codes "ACKED")) arg rest e
