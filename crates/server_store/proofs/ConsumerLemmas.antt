-- A consumer who is seen.
use Rattle.std.proofs.Common.{◌≡◌, ℕ, ◌<◌, List, length, get_or, sym, ap, ◌∙◌, inr}
use Rattle.std.specs.Prelude.{Result, Ok, Err, IfOk}
use Rattle.std.specs.List.{HoldsAt}
use Rattle.server_store.specs.Consumers.{IsNewcomer, IsSeen, IsThere}
use Rattle.server_store.specs.declared.group.Consumer.{Consumer}
use Rattle.server_store.specs.declared.group.Group.{Group}

-- the consumer that a search by name found
pub found_there : (g : Group) (name : List ℕ) (i : ℕ) (c : Consumer) → i < length g.consumers.items
    → c ≡ get_or g.consumers.items i c → HoldsAt (λ x. x.name.items ≡ name) g.consumers.items i → IsThere name i c g
found_there g name i c within is found = record {
  within = within;
  stood = sym is;
  named = ap (λ (x : Consumer). x.name.items) is ∙ found c;
}

-- a newcomer of a group that has the same consumers is seen
pub newcomer_seen : {E : Type 0} (r : Result ℕ E) (name : List ℕ) (now : ℕ) (moved old new : Group)
    → moved.consumers.items ≡ old.consumers.items → moved.next_number ≡ old.next_number
    → IfOk r (λ number. IsNewcomer name now number moved new) → IfOk r (λ number. IsSeen name now number old new)
newcomer_seen (Ok number) name now moved old new same next h = inr (record {
  index = h.index;
  is = h.is;
  within = rw same at h.within;
  consumers = rw same at h.consumers;
  named = h.named;
  numbered = (h.numbered.0 ∙ next, h.numbered.1);
  seen = h.seen;
  pending = h.pending;
  next = h.next;
})
newcomer_seen (Err e) name now moved old new same next h = tt
