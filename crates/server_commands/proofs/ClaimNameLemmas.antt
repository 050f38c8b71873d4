-- The names of consumers after one is seen.
use Rattle.std.proofs.Math.Seq.{map-set_same}
use Rattle.std.proofs.Common.{◌≡◌, ◌<◌, ◌≤◌, ◌+◌, ◌++◌, ℕ, true, false, List, [], ◌∷◌, drop, take, length, get_or, subst, refl, sym, ap, ◌∙◌, inl, inr, arith}
use Rattle.std.proofs.lemmas.Bool.{cases_Bool}
use Rattle.std.proofs.lemmas.Bool.Decides.{nat_tests}
use Rattle.std.proofs.lemmas.List.{get_or-map, length-map, map-append, take-append-drop}
use Rattle.std.specs.Prelude.{◌==◌}
use Rattle.std.specs.List.{AllByRecursion}
use Rattle.model_server.specs.Group.Group.{Name}
use Rattle.server_store.specs.Consumers.{IsNewcomer, IsSeen, IsSeenAgain}
use Rattle.server_store.specs.declared.group.Consumer.{Consumer}
use Rattle.server_store.specs.declared.group.Group.{Group}
use Rattle.server_commands.specs.Acknowledging.{names_of}
use Rattle.server_commands.specs.Model.{AreNumbered, name_of}
use Rattle.server_commands.proofs.ClaimLemmas.{all_at, all_so}

-- the names after a consumer is seen: it has its own, and the others have theirs
pub record AreSeenNames (consumer : Name) (number : ℕ) (names after : List (ℕ × Name)) (next next_after : ℕ) : Type 0 where
  pub numbered : name_of number after ≡ consumer
  pub others : (n : ℕ) → n < next → name_of n after ≡ name_of n names
  pub found : AllByRecursion (λ c. name_of c.0 after ≡ c.1) after
  pub below : AllByRecursion (λ c. c.0 < next_after) after
  pub number_below : number < next_after
  pub grows : next ≤ next_after

-- ---- one more name among others

all_left : {A : Type 0} (P : A → Type 0) (xs ys : List A) → AllByRecursion P (xs ++ ys) → AllByRecursion P xs
all_left P [] ys all = tt
all_left P (x ∷ xs) ys all = (all.0, all_left P xs ys all.1)

all_between : {A : Type 0} (P : A → Type 0) (xs ys : List A) (y : A) → AllByRecursion P (xs ++ ys) → P y → AllByRecursion P (xs ++ y ∷ ys)
all_between P [] ys y all is = (is, all)
all_between P (x ∷ xs) ys y all is = (all.0, all_between P xs ys y all.1 is)

differs : (a b : ℕ) → a < b → (a == b) ≡ false
differs a b lt = grind (arith, nat_tests, lt)

differs_above : (a b : ℕ) → a < b → (b == a) ≡ false
differs_above a b lt = grind (arith, nat_tests, lt)

itself : (n : ℕ) → (n == n) ≡ true
itself n = grind (arith, nat_tests)

module _ (number : ℕ) (name : Name) where
  other_name : (n : ℕ) (xs ys : List (ℕ × Name)) → (number == n) ≡ false → name_of n (xs ++ (number, name) ∷ ys) ≡ name_of n (xs ++ ys)
  other_name n [] ys differ = rw differ refl
  other_name n (x ∷ xs) ys differ = elim (cases_Bool (x.0 == n)) [
    | inl t ↦ rw t refl
    | inr f ↦ rw f (other_name n xs ys differ)
  ]

  new_name : (xs ys : List (ℕ × Name)) → AllByRecursion (λ c. c.0 < number) xs → name_of number (xs ++ (number, name) ∷ ys) ≡ name
  new_name [] ys below = rw (itself number) refl
  new_name (x ∷ xs) ys below = rw (differs x.0 number below.0) (new_name xs ys below.1)

  with_new : (xs ys : List (ℕ × Name)) → AllByRecursion (λ c. c.0 < number) (xs ++ ys)
      → AllByRecursion (λ c. name_of c.0 (xs ++ ys) ≡ c.1) (xs ++ ys)
      → AreSeenNames name number (xs ++ ys) (xs ++ (number, name) ∷ ys) number (number + 1)
  with_new xs ys below found = record {
    numbered = new_name xs ys (all_left (λ c. c.0 < number) xs ys below);
    others = λ n lt. other_name n xs ys (differs_above n number lt);
    found = all_between (λ c. name_of c.0 (xs ++ (number, name) ∷ ys) ≡ c.1) xs ys (number, name)
        (all_two (λ c. c.0 < number) (λ c. name_of c.0 (xs ++ ys) ≡ c.1) (λ c. name_of c.0 (xs ++ (number, name) ∷ ys) ≡ c.1)
        (λ c lt is. other_name c.0 xs ys (differs_above c.0 number lt) ∙ is) (xs ++ ys) below found)
        (new_name xs ys (all_left (λ c. c.0 < number) xs ys below));
    below = all_between (λ c. c.0 < number + 1) xs ys (number, name)
        (all_so (λ c. c.0 < number) (λ c. c.0 < number + 1) (λ c lt. omega (arith, lt)) (xs ++ ys) below) (omega arith);
    number_below = omega arith;
    grows = omega arith;
  }
    where
      all_two : (P Q R : ℕ × Name → Type 0) → ((x : ℕ × Name) → P x → Q x → R x) → (xs : List (ℕ × Name)) → AllByRecursion P xs
          → AllByRecursion Q xs → AllByRecursion R xs
      all_two P Q R f [] all more = tt
      all_two P Q R f (x ∷ xs) all more = (f x all.0 more.0, all_two P Q R f xs all.1 more.1)

abbrev named_as : Consumer → ℕ × Name
named_as c = (c.number, c.name.items)

seen_again : (consumer : Name) (now number : ℕ) (old seen : Group) → IsSeenAgain consumer now number old seen → AreNumbered old
    → AreSeenNames consumer number (names_of old.consumers.items) (names_of seen.consumers.items) old.next_number seen.next_number
seen_again consumer now number old seen again numbered =
    let stay : names_of seen.consumers.items ≡ names_of old.consumers.items =
    ap names_of again.consumers
    ∙ map-set_same named_as old.consumers.items again.index (record again.was { seen_at = now }) again.was
    (ap named_as (sym again.there.stood)) in
    let within : again.index < length (names_of old.consumers.items) = omega (arith, again.there.within, length-map old.consumers.items named_as) in
    let at : get_or (names_of old.consumers.items) again.index (named_as again.was) ≡ named_as again.was =
    get_or-map named_as old.consumers.items again.index again.was (named_as again.was) again.there.within ∙ ap named_as again.there.stood in
    let found : name_of again.was.number (names_of old.consumers.items) ≡ again.was.name.items =
    rw at at (all_at (λ (c : ℕ × Name). name_of c.0 (names_of old.consumers.items) ≡ c.1) (names_of old.consumers.items) numbered.found again.index (named_as again.was) within) in
    let below : again.was.number < old.next_number =
    rw at at (all_at (λ (c : ℕ × Name). c.0 < old.next_number) (names_of old.consumers.items) numbered.below again.index (named_as again.was) within) in
    rw (stay, again.next, again.numbered) (record {
      numbered = found ∙ again.there.named;
      others = λ n lt. refl;
      found = numbered.found;
      below = numbered.below;
      number_below = below;
      grows = omega arith;
    })

newcomer : (consumer : Name) (now number : ℕ) (old seen : Group) → IsNewcomer consumer now number old seen → AreNumbered old
    → old.next_number < 18446744073709551615
    → AreSeenNames consumer number (names_of old.consumers.items) (names_of seen.consumers.items) old.next_number seen.next_number
newcomer consumer now number old seen new numbered room =
    let xs = names_of (take new.index old.consumers.items) in
    let ys = names_of (drop new.index old.consumers.items) in
    let before : names_of old.consumers.items ≡ xs ++ ys =
    ap names_of (sym (take-append-drop new.index old.consumers.items))
    ∙ map-append named_as (take new.index old.consumers.items) (drop new.index old.consumers.items) in
    let who : named_as new.is ≡ (number, consumer) = rw (new.numbered.1, new.named) refl in
    let after : names_of seen.consumers.items ≡ xs ++ (number, consumer) ∷ ys =
    ap names_of new.consumers
    ∙ map-append named_as (take new.index old.consumers.items) (new.is ∷ drop new.index old.consumers.items)
    ∙ ap (λ (c : ℕ × Name). xs ++ c ∷ ys) who in
    let is : number ≡ old.next_number = new.numbered.0 in
    let next : seen.next_number ≡ number + 1 = omega (arith, new.next, is, room) in
    let all : AreSeenNames consumer number (xs ++ ys) (xs ++ (number, consumer) ∷ ys) number (number + 1) =
    with_new number consumer xs ys
    (subst (AllByRecursion (λ c. c.0 < number)) before
    (subst (λ (n : ℕ). AllByRecursion (λ c. c.0 < n) (names_of old.consumers.items)) (sym is) numbered.below))
    (subst (λ (names : List (ℕ × Name)). AllByRecursion (λ c. name_of c.0 names ≡ c.1) names) before numbered.found) in
    rw (before, after, next, sym is) all

pub seen_names : (consumer : Name) (now number : ℕ) (old seen : Group) → IsSeen consumer now number old seen → AreNumbered old
    → old.next_number < 18446744073709551615
    → AreSeenNames consumer number (names_of old.consumers.items) (names_of seen.consumers.items) old.next_number seen.next_number
seen_names consumer now number old seen (inl again) numbered room = seen_again consumer now number old seen again numbered
seen_names consumer now number old seen (inr new) numbered room = newcomer consumer now number old seen new numbered room
