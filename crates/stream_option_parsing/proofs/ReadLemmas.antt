-- A read is one with a group, or one without.
use Rattle.std.proofs.Common.{◌≡◌, ℕ, true, false, List, [], ◌∷◌, codes, Option, Some, None, refl}
use Rattle.std.specs.Option.{option_map}
use Rattle.stream_options.specs.ReadBack.{seen, reading_as, read_at, read_with, grouped_with, grouped_at}
use Rattle.stream_options.specs.ReadBack.{ungrouped_with, ungrouped_at}
use Rattle.stream_options.specs.Words.{begins}

-- one view after the other is one view
fuse : {A B C : Type 0} (f : A → B) (g : B → C) (h : A → C) → ((a : A) → g (f a) ≡ h a)
    → (o : Option (A × List (List ℕ))) → option_map (seen g) (option_map (seen f) o) ≡ option_map (seen h) o
fuse f g h same None = refl
fuse f g h same (Some x) = rw (same x.0) refl

-- with a group
pub read_grouped : (args : List (List ℕ)) → begins (codes "GROUP" ∷ []) args ≡ true
    → read_at args ≡ reading_as grouped_with grouped_at args
read_grouped args e = rw e (fuse _ read_with grouped_with (λ _. refl) (grouped_at args))

-- without
pub read_ungrouped : (args : List (List ℕ)) → begins (codes "GROUP" ∷ []) args ≡ false
    → read_at args ≡ reading_as ungrouped_with ungrouped_at args
read_ungrouped args e = rw e (fuse _ read_with ungrouped_with (λ _. refl) (ungrouped_at args))

pub ruleset forms = (read_grouped, read_ungrouped)
