-- XREADGROUP of one key with `>` is the event of the model of a group that reads new entries.
use Rattle.std.proofs.Math.Seq.{map-set_same}
use Rattle.std.proofs.lemmas.List.{get_or_default, length-map, length-set}
use Rattle.std.proofs.Common.{◌≡◌, ◌<◌, ℕ, zero, suc, false, List, [], ◌∷◌, map, get_or, get_or-set_same, set, take, length, subst, refl, sym, ap, ◌∙◌, arith}
use Rattle.model_server.specs.Group.Group.{Name, given}
use Rattle.model_server.specs.Group.Worker as worker_model
use Rattle.model_server.specs.Group.World.{World, Read, happens}
use Rattle.server_store.specs.Laws.{AreInOrder as EntriesAscend}
use Rattle.server_store.specs.Stream.{Seen, seen_stream}
use Rattle.server_store.specs.declared.entry_id.EntryId.{EntryId}
use Rattle.server_store.specs.declared.group.Group.{Group}
use Rattle.server_store.specs.declared.stream.Entry.{Entry}
use Rattle.server_store.specs.declared.stream.Stream.{Stream}
use Rattle.server_commands.specs.Changed.{IsChangedAt, IsGroupChangedAt}
use Rattle.server_commands.specs.Delivering.{AreDelivered, HandsOut, entries_behind}
use Rattle.server_commands.specs.Model.{AreNumbered, Fields, IsModelIn, IsModelOf, as_entry}
use Rattle.server_commands.specs.ModelReading.{IsAnswerWith, XreadgroupIsTheEvent, XreadgroupReads, sent_whole}
use Rattle.server_commands.specs.Places.{AreInOrder}
use Rattle.server_commands.specs.ReadingOne.{IsAnswered, IsReadIn, ReadsNews}
use Rattle.server_commands.specs.Sent.{Sent, array_of, item_list, more_rows, no_rows, rows_of, sent}
use Rattle.server_commands.specs.declared.answer.Answer.{Answer}
use Rattle.server_commands.proofs.ModelLemmas.{changed_model, changed_was}
use Rattle.server_commands.proofs.NameLemmas.{one_place}
use Rattle.server_commands.proofs.ReadAnswerLemmas.{entries_same, none_given, nothing_read}
use Rattle.server_commands.proofs.ReadModelLemmas.{handing_out_is_the_event}

-- ---- one group

delivered_named : (number now : ℕ) (es : List Entry) (old new : Group) → AreDelivered number now false es old new
    → new.name.items ≡ old.name.items
delivered_named number now [] old new is = ap (λ (g : Group). g.name.items) is
delivered_named number now (e ∷ es) old new (between, first, rest) =
    delivered_named number now es between new rest ∙ ap (λ (g : Group). g.name.items) first.others

record IsReadOf (key consumer : List ℕ) (most : ℕ) (answer : Answer) (entries : List Entry) (last_id : EntryId) (old new : Group) (w : World Fields) : Type 0 where
  pub model : IsModelOf entries last_id new (happens w (Read consumer most))
  pub numbered : AreNumbered new
  pub named : new.name.items ≡ old.name.items
  pub answered : IsAnswerWith key (given w.deleted most w.fresh) answer

module _ (key consumer : List ℕ) (now : ℕ) (answer : Answer) (entries : List Entry) (last_id : EntryId) (old new : Group) (w : World Fields)
    (model : IsModelOf entries last_id old w) (numbers : AreNumbered old) (room : old.next_number < 18446744073709551615) where
  -- the entries that are delivered
  answer_with : (most : ℕ) (e : Entry) (es : List Entry) → 0 < most
      → sent answer ≡ rows_of (more_rows key (array_of (item_list (map sent_whole (map as_entry (take most (e ∷ es)))))) no_rows)
      → IsAnswerWith key (map as_entry (take most (e ∷ es))) answer
  answer_with zero e es some is = absurd (omega (arith, some))
  answer_with (suc m) e es some is = is

  read_of : (most : ℕ) (news : List Entry) → 0 < most → entries_behind old.last_id entries ≡ news
      → IsAnswered key consumer now most answer entries old new news
      → IsReadOf key consumer most answer entries last_id old new w
  read_of most [] some none (same, is) = record {
    model = subst (λ (g : Group). IsModelOf entries last_id g (happens w (Read consumer most))) (sym same)
        (nothing_read consumer most entries last_id old w model none);
    numbered = subst AreNumbered (sym same) numbers;
    named = ap (λ (g : Group). g.name.items) same;
    answered = rw (none_given consumer most entries last_id old w model none) is;
  }
  read_of most (e ∷ es) some are (how, is) =
      let so = handing_out_is_the_event consumer now most entries last_id old new w how model numbers room in
      let given_so : map as_entry (take most (e ∷ es)) ≡ given w.deleted most w.fresh =
      ap (λ (xs : List Entry). map as_entry (take most xs)) (sym are) ∙ so.given in
      record {
        model = so.model;
        numbered = so.numbered;
        named = delivered_named how.number now (take most (entries_behind old.last_id entries)) how.between new
            (how.delivered model.entries_ascend) ∙ ap (λ (g : Group). g.name.items) how.others;
        answered = subst (λ (gs : List (worker_model.Entry Fields)). IsAnswerWith key gs answer) given_so
            (answer_with most e es some (is ∙ ap (λ (xs : List Sent). rows_of (more_rows key (array_of (item_list xs)) no_rows))
            (entries_same (take most (e ∷ es)))));
      }

-- ---- among the streams

module _ (key name consumer : List ℕ) (now most : ℕ) (answer : Answer) (old new : List Stream) (w : World Fields) (some : 0 < most)
    (how : IsReadIn key consumer now most name answer old new) (model : IsModelIn key name (map seen_stream old) w)
    (numbers : AreNumbered model.group) (room : model.group.next_number < 18446744073709551615) where
  abbrev Reads : Stream → Stream → Type 0
  Reads was is = IsGroupChangedAt name (ReadsNews key consumer now most answer was) was is

  same : seen_stream how.was ≡ model.stream
  same = changed_was key name Reads old new w model how

  groups_same : how.was.groups.items ≡ model.stream.groups
  groups_same = ap (λ (s : Seen). s.groups) same

  group_here : how.how.index ≡ model.place
  group_here = one_place (λ g. g.name.items) model.stream.groups name how.how.index model.place how.how.was
      (rw groups_same at how.how.within) model.inside model.names
      (ap (λ (g : Group). g.name.items) (rw groups_same at how.how.stood) ∙ how.how.named)
      (ap (λ (g : Group). g.name.items)
      (get_or_default model.stream.groups model.place how.how.was model.group model.inside ∙ model.stands) ∙ model.named)

  group_same : how.how.was ≡ model.group
  group_same = sym (rw groups_same at how.how.stood) ∙ ap (λ (n : ℕ). get_or model.stream.groups n how.how.was) group_here
      ∙ get_or_default model.stream.groups model.place how.how.was model.group model.inside ∙ model.stands

  entries_same_as : how.was.entries.items ≡ model.stream.entries
  entries_same_as = ap (λ (s : Seen). s.entries) same

  answered_so : IsAnswered key consumer now most answer model.stream.entries model.group how.how.is
      (entries_behind model.group.last_id model.stream.entries)
  answered_so = (rw (group_same, entries_same_as) at how.how.how) model.is.entries_ascend

  done : IsReadOf key consumer most answer model.stream.entries model.stream.last_id model.group how.how.is w
  done = read_of key consumer now answer model.stream.entries model.stream.last_id model.group how.how.is w model.is numbers room most
      (entries_behind model.group.last_id model.stream.entries) some refl answered_so

  groups_after : (seen_stream how.is).groups ≡ set model.stream.groups model.place how.how.is
  groups_after = how.how.groups ∙ ap (λ (gs : List Group). set gs how.how.index how.how.is) groups_same
      ∙ ap (λ (n : ℕ). set model.stream.groups n how.how.is) group_here

  names_after : map (λ g. g.name.items) (seen_stream how.is).groups ≡ map (λ g. g.name.items) model.stream.groups
  names_after = ap (map (λ g. g.name.items)) groups_after
      ∙ map-set_same (λ (g : Group). g.name.items) model.stream.groups model.place how.how.is model.group
      (done.named ∙ ap (λ (g : Group). g.name.items) (sym model.stands))

  entries_stay : (seen_stream how.is).entries ≡ model.stream.entries
  entries_stay = ap (λ (s : Stream). s.entries.items) how.how.others ∙ ap (λ (s : Seen). s.entries) same

  last_stays : (seen_stream how.is).last_id ≡ model.stream.last_id
  last_stays = ap (λ (s : Stream). s.last_id) how.how.others ∙ ap (λ (s : Seen). s.last_id) same

  reads : XreadgroupReads key name consumer most answer (map seen_stream new) w
  unfolding changed_model
  reads = record {
    model = changed_model key name Reads old new w model how
        (ap (λ (s : Stream). s.key.items) how.how.others ∙ ap (λ (s : Seen). s.key) same)
        (happens w (Read consumer most)) model.place how.how.is (subst AreInOrder (sym names_after) model.names)
        (rw groups_after (omega (arith, model.inside, length-set model.stream.groups model.place how.how.is)))
        (ap (λ (gs : List Group). get_or gs model.place how.how.is) groups_after
        ∙ get_or-set_same model.stream.groups model.place how.how.is how.how.is model.inside)
        (done.named ∙ model.named) (rw (entries_stay, last_stays) done.model);
    numbered = done.numbered;
    answered = done.answered;
  }

pub xreadgroup_is_the_event : XreadgroupIsTheEvent
xreadgroup_is_the_event key group consumer now most answer old new w some how model numbers room =
    reads key group consumer now most answer old new w some how model numbers room
