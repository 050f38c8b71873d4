-- XREADGROUP of one key with an id is the event of the model of a group in which a consumer reads its own again.
use Rattle.std.proofs.Math.Seq.{map-set_same}
use Rattle.std.proofs.lemmas.List.{get_or_default, length-set}
use Rattle.std.proofs.Common.{◌≡◌, ◌<◌, ℕ, List, map, get_or, get_or-set_same, set, length, subst, sym, ap, ◌∙◌, arith}
use Rattle.model_server.specs.Group.Group.{listed}
use Rattle.model_server.specs.Group.World.{World, Reread, happens}
use Rattle.server_store.specs.Stream.{Seen, seen_stream}
use Rattle.server_store.specs.declared.entry_id.EntryId.{EntryId}
use Rattle.server_store.specs.declared.group.Group.{Group}
use Rattle.server_store.specs.declared.stream.Entry.{Entry}
use Rattle.server_store.specs.declared.stream.Stream.{Stream}
use Rattle.server_commands.specs.Changed.{IsChangedAt, IsGroupChangedAt}
use Rattle.server_commands.specs.Claiming.{ids_of}
use Rattle.server_commands.specs.IdWords.{words_of_ids}
use Rattle.server_commands.specs.Model.{AreNumbered, Fields, IsModelIn, IsModelOf}
use Rattle.server_commands.specs.ModelClaiming.{PendingIsSeen}
use Rattle.server_commands.specs.ModelRereading.{SeenAscends, XreadgroupRereads, XreadgroupWithAnIdIsTheEvent}
use Rattle.server_commands.specs.Places.{AreInOrder, consumer_names}
use Rattle.server_commands.specs.Rereading.{IsRereadIn, ReadsOwn, Rereads}
use Rattle.server_commands.specs.declared.answer.Answer.{Answer}
use Rattle.server_commands.proofs.ModelLemmas.{changed_model, changed_was}
use Rattle.server_commands.proofs.NameLemmas.{one_place}
use Rattle.server_commands.proofs.RereadModelLemmas.{GroupRereads, group_rereads}

module _ (key name consumer : List ℕ) (now most : ℕ) (behind : EntryId) (answer : Answer) (old new : List Stream) (w : World Fields)
    (how : IsRereadIn key consumer now most behind name answer old new) (model : IsModelIn key name (map seen_stream old) w)
    (numbers : AreNumbered model.group) (room : model.group.next_number < 18446744073709551615)
    (names : AreInOrder (consumer_names model.group)) (known : PendingIsSeen w) (log : SeenAscends w) where
  abbrev Reads : Stream → Stream → Type 0
  Reads was is = IsGroupChangedAt name (ReadsOwn key consumer now most behind answer was) was is

  same : seen_stream how.was ≡ model.stream
  same = changed_was key name Reads old new w model how

  groups_same : how.was.groups.items ≡ model.stream.groups
  groups_same = ap (λ (s : Seen). s.groups) same

  group_here : how.how.index ≡ model.place
  group_here = one_place (λ g. g.name.items) model.stream.groups name how.how.index model.place how.how.was
      (rw groups_same at how.how.within) model.inside model.names
      (ap (λ (g : Group). g.name.items) (rw groups_same at how.how.stood) ∙ how.how.named)
      (ap (λ (g : Group). g.name.items)
      (get_or_default model.stream.groups model.place how.how.was model.group model.inside ∙ model.stands) ∙ model.named)

  group_same : how.how.was ≡ model.group
  group_same = sym (rw groups_same at how.how.stood) ∙ ap (λ (n : ℕ). get_or model.stream.groups n how.how.was) group_here
      ∙ get_or_default model.stream.groups model.place how.how.was model.group model.inside ∙ model.stands

  entries_same_as : how.was.entries.items ≡ model.stream.entries
  entries_same_as = ap (λ (s : Seen). s.entries) same

  pub reads : Rereads key consumer now most behind answer model.stream.entries model.group how.how.is
  reads = (rw (group_same, entries_same_as) at how.how.how) model.is.entries_ascend model.is.pending_ascends names numbers

  done : GroupRereads key consumer (ids_of reads.own) answer model.stream.entries model.stream.last_id model.group how.how.is w
  done = group_rereads key consumer now most behind answer model.stream.entries model.stream.last_id model.group how.how.is w model.is numbers
      room known log reads

  groups_after : (seen_stream how.is).groups ≡ set model.stream.groups model.place how.how.is
  groups_after = how.how.groups ∙ ap (λ (gs : List Group). set gs how.how.index how.how.is) groups_same
      ∙ ap (λ (n : ℕ). set model.stream.groups n how.how.is) group_here

  names_after : map (λ g. g.name.items) (seen_stream how.is).groups ≡ map (λ g. g.name.items) model.stream.groups
  names_after = ap (map (λ g. g.name.items)) groups_after
      ∙ map-set_same (λ (g : Group). g.name.items) model.stream.groups model.place how.how.is model.group
      (done.named ∙ ap (λ (g : Group). g.name.items) (sym model.stands))

  entries_stay : (seen_stream how.is).entries ≡ model.stream.entries
  entries_stay = ap (λ (s : Stream). s.entries.items) how.how.others ∙ ap (λ (s : Seen). s.entries) same

  last_stays : (seen_stream how.is).last_id ≡ model.stream.last_id
  last_stays = ap (λ (s : Stream). s.last_id) how.how.others ∙ ap (λ (s : Seen). s.last_id) same

  abbrev World_after : World Fields
  World_after = happens w (Reread consumer (listed (words_of_ids (ids_of reads.own))))

  pub rereads : XreadgroupRereads key name consumer (ids_of reads.own) answer (map seen_stream new) w
  unfolding changed_model
  rereads = record {
    model = changed_model key name Reads old new w model how
        (ap (λ (s : Stream). s.key.items) how.how.others ∙ ap (λ (s : Seen). s.key) same)
        World_after model.place how.how.is
        (subst AreInOrder (sym names_after) model.names)
        (rw groups_after (omega (arith, model.inside, length-set model.stream.groups model.place how.how.is)))
        (ap (λ (gs : List Group). get_or gs model.place how.how.is) groups_after
        ∙ get_or-set_same model.stream.groups model.place how.how.is how.how.is model.inside)
        (done.named ∙ model.named)
        (subst (λ (es : List Entry). IsModelOf es (seen_stream how.is).last_id how.how.is World_after) (sym entries_stay)
        (subst (λ (id : EntryId). IsModelOf model.stream.entries id how.how.is World_after) (sym last_stays) done.model));
    numbered = done.numbered;
    seen = done.seen;
    answered = done.answered;
  }

pub xreadgroup_with_an_id_is_the_event : XreadgroupWithAnIdIsTheEvent
xreadgroup_with_an_id_is_the_event key group consumer now most behind answer old new w how model numbers room names known log = (
  ids_of (reads key group consumer now most behind answer old new w how model numbers room names known log).own,
  rereads key group consumer now most behind answer old new w how model numbers room names known log,
)
