-- The reply with new entries is what the model of a group gives.
use Rattle.std.proofs.Common.{◌≡◌, ◌<◌, ℕ, zero, suc, List, [], ◌∷◌, ◌++◌, map, take, drop, subst, refl, sym, ap, ◌∙◌, append_assoc, append-nil}
use Rattle.std.proofs.lemmas.List.Elements.{filter-append}
use Rattle.std.specs.Global.{Vec}
use Rattle.std.specs.Prelude.{not, Option, Some, None, false}
use Rattle.redis_resp.specs.Tree.{bulk}
use Rattle.model_server.specs.Group.Group as group_model
use Rattle.model_server.specs.Group.Group.{Name, behind, given, ids_of, listed, newly_pending, passed}
use Rattle.model_server.specs.Group.Worker as worker_model
use Rattle.model_server.specs.Group.World.{World, Read, happens}
use Rattle.server_store.specs.declared.entry_id.EntryId.{EntryId}
use Rattle.server_store.specs.declared.group.Group.{Group}
use Rattle.server_store.specs.declared.stream.Entry.{Entry}
use Rattle.server_commands.specs.Acknowledging.{names_of}
use Rattle.server_commands.specs.Delivering.{HandsOut, entries_behind}
use Rattle.server_commands.specs.Model.{AreNumbered, Fields, IsModelOf, as_entry, as_pending, capped, entries_until, left_of}
use Rattle.server_commands.specs.ModelReading.{NewsAreRead, ReadingNewsIsTheEvent, sent_whole}
use Rattle.server_commands.specs.Reading.{AreNews}
use Rattle.server_commands.specs.Claiming.{sent_entry, sent_fields}
use Rattle.server_commands.specs.Sent.{Sent, array_of, item_list, plain, sent}
use Rattle.server_commands.specs.declared.answer.Answer.{Answer}
use Rattle.server_commands.proofs.ReadModelLemmas.{handing_out_is_the_event, subtract_len, left_given, left_passed, passed_on}

take_none : {A : Type 0} (n : ℕ) (xs : List A) → xs ≡ [] → take n xs ≡ []
take_none zero xs none = refl
take_none (suc n) xs none = rw none refl

drop_none : {A : Type 0} (n : ℕ) (xs : List A) → xs ≡ [] → drop n xs ≡ []
drop_none zero xs none = none
drop_none (suc n) xs none = rw none refl

fields_same : (fields : List (Vec ℕ)) → map (λ f. plain (bulk f.items)) fields ≡ map (λ f. plain (bulk f)) (map (λ v. v.items) fields)
fields_same [] = refl
fields_same (f ∷ fields) = ap (λ (xs : List Sent). plain (bulk f.items) ∷ xs) (fields_same fields)

pub entries_same : (es : List Entry) → map sent_entry es ≡ map sent_whole (map as_entry es)
entries_same [] = refl
entries_same (e ∷ es) = rw (fields_same e.fields.items) (ap (λ (xs : List Sent). sent_whole (as_entry e) ∷ xs) (entries_same es))

-- ---- nothing is new

module _ (consumer : Name) (most : ℕ) (entries : List Entry) (last_id : EntryId) (group : Group) (w : World Fields)
    (model : IsModelOf entries last_id group w) (none : entries_behind group.last_id entries ≡ []) where
  none_left : left_of w.deleted w.fresh ≡ []
  none_left = sym model.fresh ∙ ap (map as_entry) none

  pub none_given : given w.deleted most w.fresh ≡ []
  none_given = left_given w.deleted most w.fresh ∙ take_none most (left_of w.deleted w.fresh) none_left

  none_passed : left_of w.deleted (passed w.deleted most w.fresh) ≡ []
  none_passed = left_passed w.deleted most w.fresh ∙ take_none most (left_of w.deleted w.fresh) none_left

  none_behind : left_of w.deleted (behind w.deleted most w.fresh) ≡ []
  none_behind = subtract_len w.deleted most w.fresh ∙ drop_none most (left_of w.deleted w.fresh) none_left

  log_same : (w.seen ++ passed w.deleted most w.fresh) ++ behind w.deleted most w.fresh ≡ w.seen ++ w.fresh
  log_same = append_assoc w.seen (passed w.deleted most w.fresh) (behind w.deleted most w.fresh)
      ∙ ap (λ (es : List (worker_model.Entry Fields)). w.seen ++ es) (passed_on w.deleted most w.fresh)

  pub nothing_read : IsModelOf entries last_id group (happens w (Read consumer most))
  nothing_read = record {
    seen = model.seen ∙ sym (append-nil (left_of w.deleted w.seen))
        ∙ ap (λ (es : List (worker_model.Entry Fields)). left_of w.deleted w.seen ++ es) (sym none_passed)
        ∙ sym (filter-append (λ e. not (listed w.deleted e.0)) w.seen (passed w.deleted most w.fresh));
    fresh = model.fresh ∙ none_left ∙ sym none_behind;
    last = model.last;
    pending = model.pending ∙ ap (map capped) (sym (append-nil w.pending)
        ∙ ap (λ (es : List (worker_model.Entry Fields)). w.pending ++ newly_pending consumer es) (sym none_given));
    entries_ascend = model.entries_ascend;
    pending_ascends = model.pending_ascends;
    added = model.added;
    delivered = model.delivered;
    reached = model.reached;
    none_above = λ n above fit. (
      subst (λ (es : List (worker_model.Entry Fields)). listed (ids_of es) (group_model.id_text n) ≡ false)
          (sym log_same) (model.none_above n above fit).0,
      (model.none_above n above fit).1,
    );
  }

-- -- new entries are read

pub reading_news_is_the_event : ReadingNewsIsTheEvent
reading_news_is_the_event consumer now most entries last_id old new w None (same, found) model numbers room = record {
  model = subst (λ (g : Group). IsModelOf entries last_id g (happens w (Read consumer most))) (sym same)
      (nothing_read consumer most entries last_id old w model (found model.entries_ascend));
  numbered = subst AreNumbered (sym same) numbers;
  answered = none_given consumer most entries last_id old w model (found model.entries_ascend);
}
reading_news_is_the_event consumer now most entries last_id old new w (Some answers) (how, found) model numbers room =
    let so = handing_out_is_the_event consumer now most entries last_id old new w how model numbers room in
    record {
      model = so.model;
      numbered = so.numbered;
      answered = (found model.entries_ascend).1 ∙ entries_same (take most (entries_behind old.last_id entries))
          ∙ ap (map sent_whole) so.given;
    }
