-- The group in which a consumer claims, among the others.
use Rattle.std.proofs.Common.{◌≡◌, ◌<◌, ◌*◌, ◌-◌, ◌^◌, ℕ, List, false, drop, get_or, length, map, set, subst, take, refl, sym, ap, ◌∙◌, arith}
use Rattle.std.proofs.lemmas.List.{get_or_default, length-take}
use Rattle.std.specs.Global.{Vec}
use Rattle.std.specs.Prelude.{min}
use Rattle.std.specs.List.{AllByRecursion, Contains, HoldsAt}
use Rattle.std.specs.Vec.{with_item}
use Rattle.server_store.specs.Consumers.{HasRoom}
use Rattle.server_store.specs.Laws.{AreInOrder, IsInOrder}
use Rattle.server_store.specs.declared.entry_id.EntryId.{EntryId}
use Rattle.server_store.specs.declared.group.Group.{Group}
use Rattle.server_store.specs.declared.group.Pending.{Pending}
use Rattle.server_store.specs.declared.room.Room.{Room}
use Rattle.server_store.specs.declared.stream.Stream.{Stream}
use Rattle.server_commands.specs.Claiming.{Claims, IsXautoclaim, Settles, entries_with, ids_of, sent_claim, sent_claimed}
use Rattle.server_commands.specs.Sent.{sent}
use Rattle.server_commands.specs.Stalled.{Found, IsFound}
use Rattle.server_commands.specs.declared.answer.Answer.{Answer}
use Rattle.server_commands.specs.declared.commands.stalled.Claim.{Claim}
use Rattle.server_commands.specs.declared.commands.stalled.Stalled.{Stalled}
use Rattle.server_commands.proofs.ClaimLemmas.{all_drop, all_found, all_of}

-- no more of none is none
pub none_taken : (n : ℕ) (words : List (Vec ℕ)) → length words ≡ 0 → length (take n words) ≡ 0
none_taken n words none = omega (arith, none, length-take n words)

pub contained : (ps : List Pending) → AllByRecursion (Contains ps) ps
contained ps = all_of (Contains ps) ps (λ k d lt. (k, lt, get_or_default ps k (get_or ps k d) d lt))

-- what is found to claim is pending
claimed_pending : (s : Stream) (g : Group) (claim : Claim) (stalled : Stalled)
    → IsFound s g claim (min (claim.most * 10) (2 ^ 64 - 1)) stalled → AreInOrder s.entries.items
    → AllByRecursion (Contains g.pending.items) stalled.claimed.items
claimed_pending s g claim stalled found up =
    let all = all_found s.entries.items claim.now claim.least_idle (Contains g.pending.items) (λ (id : EntryId). Unit {0}) (λ p is. tt)
    (min (claim.most * 10) (2 ^ 64 - 1)) claim.most (drop found.start g.pending.items)
    (all_drop (Contains g.pending.items) found.start g.pending.items (contained g.pending.items)) in
    subst (AllByRecursion (Contains g.pending.items)) (sym (ap (λ (f : Found). f.claimed) (found.is up))) all.claimed

module _ (key name : List ℕ) (claim : Claim) (answer : Answer) (streams : List Stream) (index : ℕ) (d e f : Stream) (place : ℕ)
    (g was is : Group) (stalled : Stalled) (room : Room) (within : index < length streams)
    (inside : place < length (get_or streams index e).groups.items)
    (g_is : g ≡ get_or (get_or streams index f).groups.items place g)
    (was_is : was ≡ get_or (get_or streams index d).groups.items place was)
    (found : IsFound (get_or streams index f) g claim (min (claim.most * 10) (2 ^ 64 - 1)) stalled)
    (enough : HasRoom room g)
    (answered : AreInOrder (get_or streams index f).entries.items → sent answer
    ≡ sent_claim stalled.next (map (sent_claimed claim.only_ids) (entries_with (ids_of stalled.claimed.items) (get_or streams index f).entries.items))
    stalled.gone.items)
    (settled : HasRoom room was → IsInOrder was → AllByRecursion (Contains was.pending.items) stalled.claimed.items
    → Settles room.name.items claim stalled was is) where
  same_stream : get_or streams index f ≡ get_or streams index d
  same_stream = get_or_default streams index f d within

  there : place < length (get_or streams index d).groups.items
  there = subst (λ (s : Stream). place < length s.groups.items) (get_or_default streams index e d within) inside

  same_group : g ≡ was
  same_group = g_is ∙ ap (λ (s : Stream). get_or s.groups.items place g) same_stream
      ∙ get_or_default (get_or streams index d).groups.items place g was there ∙ sym was_is

  found_there : IsFound (get_or streams index d) was claim (min (claim.most * 10) (2 ^ 64 - 1)) stalled
  found_there = subst (λ (h : Group). IsFound (get_or streams index d) h claim (min (claim.most * 10) (2 ^ 64 - 1)) stalled) same_group
      (subst (λ (s : Stream). IsFound s g claim (min (claim.most * 10) (2 ^ 64 - 1)) stalled) same_stream found)

  claims : Claims room.name.items claim answer (get_or streams index d) was is
  claims = record {
    stalled = stalled;
    found = found_there;
    settled = λ up rises. settled (subst (HasRoom room) same_group enough) rises
        (claimed_pending (get_or streams index d) was claim stalled found_there up);
    answered = subst (λ (s : Stream). AreInOrder s.entries.items → sent answer
        ≡ sent_claim stalled.next (map (sent_claimed claim.only_ids) (entries_with (ids_of stalled.claimed.items) s.entries.items))
        stalled.gone.items) same_stream answered;
  }

  -- it is a claim of the command's
  pub claimed_in : (arguments : List (Vec ℕ)) (now : ℕ) → HoldsAt (λ word. word.items ≡ key) arguments 0
      → HoldsAt (λ word. word.items ≡ name) arguments 1 → HoldsAt (λ word. word.items ≡ room.name.items) arguments 2
      → claim.now ≡ now → (length (drop 5 arguments) ≡ 0 → claim.only_ids ≡ false)
      → HoldsAt (λ s. s.key.items ≡ key) streams index
      → HoldsAt (λ h. h.name.items ≡ name) (get_or streams index e).groups.items place
      → IsXautoclaim arguments now answer streams
      (set streams index (record (get_or streams index d) { groups = with_item (get_or streams index d).groups place is }))
  claimed_in arguments now keyed named by moment plain at at_place =
      let at_group = subst (λ (s : Stream). HoldsAt (λ h. h.name.items ≡ name) s.groups.items place) (get_or_default streams index e d within) at_place in
      record {
        key = key;
        name = name;
        consumer = room.name.items;
        claim = claim;
        keyed = keyed;
        named = named;
        by = by;
        at = moment;
        plain = plain;
        how = record {
          index = index;
          was = get_or streams index d;
          is = record (get_or streams index d) { groups = with_item (get_or streams index d).groups place is };
          within = within;
          stood = get_or_default streams index (get_or streams index d) d within;
          named = at d;
          how = record {
            index = place;
            was = was;
            is = is;
            within = there;
            stood = sym was_is;
            named = ap (λ (h : Group). h.name.items) was_is ∙ at_group was;
            how = claims;
            groups = refl;
            others = refl;
          };
          changed = refl;
        };
      }
