-- What was read for a consumer is put into the group.
use Rattle.std.proofs.Common.{◌≡◌, ◌+◌, ℕ, List, [], ◌∷◌, map, length, refl, sym, ap, ◌∙◌, arith}
use Rattle.std.proofs.lemmas.List.{nil_from_length}
use Rattle.std.specs.Prelude.{Result, Ok, Err, OnErr, OnOk}
use Rattle.server_store.specs.Consumers.{IsSeen}
use Rattle.server_store.specs.Pending.{IsGiven}
use Rattle.server_store.specs.Room.{IsOpenFor}
use Rattle.server_store.specs.declared.group.Group.{Group}
use Rattle.server_store.specs.declared.group.Pending.{Pending}
use Rattle.server_commands.specs.Giving.{AreGiven, IsPut, for_consumer}

-- with memory for it, it is done
done_with_room : {T E : Type 0} (X Y : Type 0) (r : Result T E) → OnOk r X → OnErr r (Y → ⊥) → Y → X
done_with_room X Y (Ok t) ok err room = ok
done_with_room X Y (Err e) ok err room = absurd (err room)

given_first : (number : ℕ) (p : Pending) (old between new : Group) (es rest : List Pending) → rest ≡ p ∷ es
    → IsGiven (for_consumer number p) old between
    → between ≡ record old { pending = between.pending; consumers = between.consumers }
    → AreGiven (map (for_consumer number) es) between new → AreGiven (map (for_consumer number) rest) old new
given_first number p old between new es rest is given others so = rw is (between, given, others, so)

one_free : (p : Pending) (es rest : List Pending) (g : Group) → rest ≡ p ∷ es → IsOpenFor (length rest) g
    → IsOpenFor (length es + 1) g × IsOpenFor 1 g
one_free p es rest g is free =
    let long : length rest ≡ length (p ∷ es) = ap length is in
    (omega (arith, long, free), omega (arith, long, free))

-- one more is given
pub put_more : {T E : Type 0} (r : Result T E) (number : ℕ) (p : Pending) (first old between : Group) (all es rest : List Pending)
    → rest ≡ p ∷ es → OnOk r (IsGiven (for_consumer number p) old between) → OnErr r (IsOpenFor 1 old → ⊥)
    → ((more : ℕ) → IsOpenFor (more + 1) old → IsOpenFor more between)
    → between ≡ record old { pending = between.pending; consumers = between.consumers }
    → (IsOpenFor (length all) first → IsOpenFor (length rest) old)
    × (IsOpenFor (length all) first → (new : Group) → AreGiven (map (for_consumer number) rest) old new
    → AreGiven (map (for_consumer number) all) first new)
    → (IsOpenFor (length all) first → IsOpenFor (length es) between)
    × (IsOpenFor (length all) first → (new : Group) → AreGiven (map (for_consumer number) es) between new
    → AreGiven (map (for_consumer number) all) first new)
put_more r number p first old between all es rest is ok err places others (free, so) = (
  λ room. places (length es) (one_free p es rest old is (free room)).0,
  λ room new more. so room new (given_first number p old between new es rest is
      (done_with_room (IsGiven (for_consumer number p) old between) (IsOpenFor 1 old) r ok err (one_free p es rest old is (free room)).1)
      others more),
)

nothing_given : (number : ℕ) (rest : List Pending) (g : Group) → length rest ≡ 0 → AreGiven (map (for_consumer number) rest) g g
nothing_given number rest g none = rw (nil_from_length rest none) refl

-- if nothing is left, the part is put into the group
pub put_all : (name : List ℕ) (now number : ℕ) (part old between new : Group) (all rest : List Pending)
    → IsSeen name now number (record old { last_id = part.last_id; entries_read = part.entries_read }) between
    → between.pending.items ≡ old.pending.items
    → between ≡ record old {
      last_id = part.last_id;
      entries_read = part.entries_read;
      pending = between.pending;
      consumers = between.consumers;
      next_number = between.next_number;
    }
    → all ≡ part.pending.items → IsOpenFor (length part.pending.items) between
    → (IsOpenFor (length all) between → (g : Group) → AreGiven (map (for_consumer number) rest) new g
    → AreGiven (map (for_consumer number) all) between g)
    → length rest ≡ 0 → IsPut name now part old new
put_all name now number part old between new all rest seen stays others is room so none = record {
  number = number;
  between = between;
  seen = seen;
  stays = stays;
  others = others;
  given = rw is at (so (rw is room) new (nothing_given number rest new none));
}
