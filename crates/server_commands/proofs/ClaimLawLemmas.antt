-- XAUTOCLAIM is the event of the model of a group in which a consumer claims.
use Rattle.std.specs.Global.{Vec}
use Rattle.std.proofs.Math.Seq.{map-set_same}
use Rattle.std.proofs.lemmas.List.{get_or_default, length-set}
use Rattle.std.proofs.Common.{◌≡◌, ◌<◌, ℕ, List, [], ◌∷◌, map, length, get_or, set, get_or-set_same, subst, sym, ap, ◌∙◌, arith}
use Rattle.model_server.specs.Group.World.{World, happens}
use Rattle.server_store.specs.EntryId.{id_text}
use Rattle.server_store.specs.Stream.{Seen, seen_stream}
use Rattle.server_store.specs.declared.entry_id.EntryId.{EntryId}
use Rattle.server_store.specs.declared.group.Group.{Group}
use Rattle.server_store.specs.declared.stream.Stream.{Stream}
use Rattle.std.specs.List.{HoldsAt}
use Rattle.server_commands.specs.Changed.{IsChangedAt, IsGroupChangedAt}
use Rattle.server_commands.specs.Claiming.{Claims, ids_of}
use Rattle.server_commands.specs.IdWords.{texts_of}
use Rattle.server_commands.specs.Model.{AreNumbered, Fields, IsModelIn, IsModelOf}
use Rattle.server_commands.specs.ModelClaiming.{PendingIsSeen, XautoclaimClaims, XautoclaimIsTheEvent, claiming, is_picked}
use Rattle.server_commands.specs.Places.{AreInOrder}
use Rattle.server_commands.specs.declared.answer.Answer.{Answer}
use Rattle.server_commands.specs.declared.commands.stalled.Claim.{Claim}
use Rattle.server_commands.proofs.ClaimEventLemmas.{GroupClaims, group_claims}
use Rattle.server_commands.proofs.ModelLemmas.{changed_model, changed_was}
use Rattle.server_commands.proofs.NameLemmas.{one_place}

module _ (key name consumer : List ℕ) (claim : Claim) (answer : Answer) (old new : List Stream) (w : World Fields)
    (model : IsModelIn key name (map seen_stream old) w) (known : PendingIsSeen w) (numbered : AreNumbered model.group)
    (room : model.group.next_number < 18446744073709551615)
    (how : IsChangedAt key (λ was is. IsGroupChangedAt name (Claims consumer claim answer was) was is) old new) where
  abbrev How : Stream → Stream → Type 0
  How was is = IsGroupChangedAt name (Claims consumer claim answer was) was is

  same : seen_stream how.was ≡ model.stream
  same = changed_was key name How old new w model how

  groups_same : how.was.groups.items ≡ model.stream.groups
  groups_same = ap (λ (s : Seen). s.groups) same

  group_here : how.how.index ≡ model.place
  group_here = one_place (λ g. g.name.items) model.stream.groups name how.how.index model.place how.how.was
      (rw groups_same at how.how.within) model.inside model.names
      (ap (λ (g : Group). g.name.items) (rw groups_same at how.how.stood) ∙ how.how.named)
      (ap (λ (g : Group). g.name.items)
      (get_or_default model.stream.groups model.place how.how.was model.group model.inside ∙ model.stands) ∙ model.named)

  group_same : how.how.was ≡ model.group
  group_same = sym (rw groups_same at how.how.stood) ∙ ap (λ (n : ℕ). get_or model.stream.groups n how.how.was) group_here
      ∙ get_or_default model.stream.groups model.place how.how.was model.group model.inside ∙ model.stands

  entries_same : how.was.entries.items ≡ model.stream.entries
  entries_same = ap (λ (s : Seen). s.entries) same

  last_same : how.was.last_id ≡ model.stream.last_id
  last_same = ap (λ (s : Seen). s.last_id) same

  before : IsModelOf how.was.entries.items how.was.last_id how.how.was w
  before = rw (entries_same, last_same, group_same) model.is

  claims : GroupClaims consumer claim.only_ids (ids_of how.how.how.stalled.claimed.items) how.how.how.stalled.gone.items
      how.how.how.stalled.next answer how.was how.how.was how.how.is w
  claims = group_claims how.was how.how.was how.how.is w before known (rw group_same numbered)
      (rw group_same room) consumer claim answer how.how.how

  name_stays : how.how.is.name.items ≡ model.group.name.items
  name_stays = ap (λ (v : Vec ℕ). v.items) claims.name ∙ ap (λ (g : Group). g.name.items) group_same

  groups_after : (seen_stream how.is).groups ≡ set model.stream.groups model.place how.how.is
  groups_after = how.how.groups ∙ ap (λ (gs : List Group). set gs how.how.index how.how.is) groups_same
      ∙ ap (λ (n : ℕ). set model.stream.groups n how.how.is) group_here

  names_after : map (λ g. g.name.items) (seen_stream how.is).groups ≡ map (λ g. g.name.items) model.stream.groups
  names_after = ap (map (λ g. g.name.items)) groups_after
      ∙ map-set_same (λ (g : Group). g.name.items) model.stream.groups model.place how.how.is model.group
      (name_stays ∙ ap (λ (g : Group). g.name.items) (sym model.stands))

  entries_stay : (seen_stream how.is).entries ≡ how.was.entries.items
  entries_stay = ap (λ (s : Stream). s.entries.items) how.how.others

  last_stays : (seen_stream how.is).last_id ≡ how.was.last_id
  last_stays = ap (λ (s : Stream). s.last_id) how.how.others

  pub claims_so : XautoclaimClaims key name consumer claim.only_ids (ids_of how.how.how.stalled.claimed.items)
      how.how.how.stalled.gone.items how.how.how.stalled.next answer (map seen_stream new) w
  unfolding changed_model
  claims_so = record {
    model = changed_model key name How old new w model how
        (ap (λ (s : Stream). s.key.items) how.how.others ∙ ap (λ (s : Seen). s.key) same)
        (happens w (claiming claim.only_ids consumer
        (is_picked (ids_of how.how.how.stalled.claimed.items) how.how.how.stalled.gone.items) (id_text how.how.how.stalled.next)))
        model.place how.how.is (subst AreInOrder (sym names_after) model.names)
        (rw groups_after (omega (arith, model.inside, length-set model.stream.groups model.place how.how.is)))
        (ap (λ (gs : List Group). get_or gs model.place how.how.is) groups_after
        ∙ get_or-set_same model.stream.groups model.place how.how.is how.how.is model.inside)
        (name_stays ∙ model.named) (rw (entries_stay, last_stays) claims.model);
    numbered = claims.numbered;
    seen = claims.seen;
    deleted = claims.deleted;
    answered = claims.answered;
  }

-- what is claimed of the group that the words name
claimed_so : (key name consumer : List ℕ) (claim : Claim) (answer : Answer) (old new : List Stream) (w : World Fields)
    (model : IsModelIn key name (map seen_stream old) w) → PendingIsSeen w → AreNumbered model.group
    → model.group.next_number < 18446744073709551615
    → IsChangedAt key (λ was is. IsGroupChangedAt name (Claims consumer claim answer was) was is) old new
    → (claimed : List EntryId) × (gone : List EntryId) × (next : EntryId)
    × XautoclaimClaims key name consumer claim.only_ids claimed gone next answer (map seen_stream new) w
claimed_so key name consumer claim answer old new w model known numbered room how = (
  ids_of how.how.how.stalled.claimed.items,
  how.how.how.stalled.gone.items,
  how.how.how.stalled.next,
  claims_so key name consumer claim answer old new w model known numbered room how,
)

-- the first three words are these
words_are : (key name consumer : List ℕ) (others : List (List ℕ)) (arguments : List (Vec ℕ))
    → texts_of arguments ≡ key ∷ name ∷ consumer ∷ others → (k n c : List ℕ)
    → HoldsAt (λ (word : Vec ℕ). word.items ≡ k) arguments 0 → HoldsAt (λ (word : Vec ℕ). word.items ≡ n) arguments 1
    → HoldsAt (λ (word : Vec ℕ). word.items ≡ c) arguments 2 → (k ≡ key) × (n ≡ name) × (c ≡ consumer)
words_are key name consumer others [] texts k n c keyed named by = absurd (omega (arith, ap length texts))
words_are key name consumer others (x ∷ []) texts k n c keyed named by = absurd (omega (arith, ap length texts))
words_are key name consumer others (x ∷ y ∷ []) texts k n c keyed named by = absurd (omega (arith, ap length texts))
words_are key name consumer others (x ∷ y ∷ z ∷ words) texts k n c keyed named by = (
  sym (keyed x) ∙ ap (λ (ts : List (List ℕ)). get_or ts 0 []) texts,
  sym (named x) ∙ ap (λ (ts : List (List ℕ)). get_or ts 1 []) texts,
  sym (by x) ∙ ap (λ (ts : List (List ℕ)). get_or ts 2 []) texts,
)

pub xautoclaim_is_the_event : XautoclaimIsTheEvent
xautoclaim_is_the_event key name consumer others arguments now answer old new w texts does model numbered room known =
    let is : (does.key ≡ key) × (does.name ≡ name) × (does.consumer ≡ consumer) =
    words_are key name consumer others arguments texts does.key does.name does.consumer does.keyed does.named does.by in
    claimed_so key name consumer does.claim answer old new w model known numbered room
    (rw (is.0, is.1, is.2) at does.how)
