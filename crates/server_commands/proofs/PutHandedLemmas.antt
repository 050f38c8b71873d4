-- Entries that are delivered to the part of a group, which is then put into the group, are delivered to the group.
use Rattle.std.proofs.Common.{◌≡◌, ◌<◌, ℕ, true, false, arith, List, [], ◌∷◌, ◌++◌, map, take, subst, inl, inr, refl, sym, ap, ◌∙◌}
use Rattle.std.specs.Prelude.{ℤ, Option}
use Rattle.std.specs.List.{AllByRecursion}
use Rattle.std.specs.Ordering.{is_lt}
use Rattle.server_store.specs.Consumers.{IsSeen}
use Rattle.server_store.specs.Laws.{AreInOrder, IsInOrder}
use Rattle.server_store.specs.Order.{id_order, IsAscending}
use Rattle.server_store.specs.Pending.{IsGiven}
use Rattle.server_store.specs.declared.entry_id.EntryId.{EntryId}
use Rattle.server_store.specs.declared.group.Group.{Group}
use Rattle.server_store.specs.declared.group.Pending.{Pending}
use Rattle.server_store.specs.declared.stream.Entry.{Entry}
use Rattle.server_commands.specs.Delivering.{AreDelivered, HandsOut, IsDelivered, entries_behind}
use Rattle.server_commands.specs.Giving.{AreGiven, IsPut, for_consumer}
use Rattle.server_commands.proofs.ReadModelLemmas.{Above, AllAbove, AreAtEnd, NotAbove, above_so, all_so, all_taken, behind_ascends, delivered_at_end, filter_holds, last_of, pending_of, taken_ascends}

-- what is given and who is seen do not depend on what was delivered last
given_like : (p : Pending) (old new : Group) (l m : EntryId) (r s : Option ℤ) → IsGiven p old new
    → IsGiven p (record old { last_id = l; entries_read = r }) (record new { last_id = m; entries_read = s })
given_like p old new l m r s (inl g) = inl (record {
  index = g.index;
  was = g.was;
  within = g.within;
  stood = g.stood;
  named = g.named;
  is = g.is;
  counts = g.counts;
})
given_like p old new l m r s (inr g) = inr (record { index = g.index; within = g.within; place = g.place; is = g.is; counts = g.counts })

seen_like : (name : List ℕ) (now number : ℕ) (old new : Group) (l m n : EntryId) (r s t : Option ℤ)
    → IsSeen name now number (record old { last_id = l; entries_read = r }) new
    → IsSeen name now number (record old { last_id = n; entries_read = t }) (record new { last_id = m; entries_read = s })
seen_like name now number old new l m n r s t (inl g) = inl (record {
  index = g.index;
  was = g.was;
  there = record { within = g.there.within; stood = g.there.stood; named = g.there.named };
  numbered = g.numbered;
  consumers = g.consumers;
  next = g.next;
})
seen_like name now number old new l m n r s t (inr g) = inr (record {
  index = g.index;
  is = g.is;
  within = g.within;
  consumers = g.consumers;
  named = g.named;
  numbered = g.numbered;
  seen = g.seen;
  pending = g.pending;
  next = g.next;
})

-- these are given one after the other, so they are delivered one after the other
given_delivered : (number now : ℕ) (last : EntryId) (count : Option ℤ) (es : List Entry) (old new : Group)
    → AreGiven (map (pending_of number now) es) old new → old.last_id ≡ last_of last es → (es ≡ [] → old.entries_read ≡ count)
    → AreDelivered number now false es (record old { last_id = last; entries_read = count }) new
given_delivered number now last count [] old new is at read = is ∙ rw (sym at, sym (read refl)) refl
given_delivered number now last count (e ∷ es) old new (between, given, others, rest) at read =
    let p : Pending = pending_of number now e in
    let same_read : between.entries_read ≡ old.entries_read = ap (λ (g : Group). g.entries_read) others in
    let same_last : between.last_id ≡ last_of e.id es = ap (λ (g : Group). g.last_id) others ∙ at in
    let first : IsDelivered number now false e.id (record old { last_id = last; entries_read = count })
    (record between { last_id = e.id; entries_read = between.entries_read }) = record {
      last_id = refl;
      pending = given_like p old between last e.id count between.entries_read given;
      others = ap (λ (g : Group). record g { last_id = e.id; entries_read = between.entries_read }) others;
    } in (
      record between { last_id = e.id; entries_read = between.entries_read },
      first,
      given_delivered number now e.id between.entries_read es between new rest same_last (λ none. refl),
    )

renumbered : (number m now : ℕ) (es : List Entry) → map (for_consumer number) (map (pending_of m now) es) ≡ map (pending_of number now) es
renumbered number m now [] = refl
renumbered number m now (e ∷ es) = ap (λ (ps : List Pending). pending_of number now e ∷ ps) (renumbered number m now es)

module _ (name : List ℕ) (now most : ℕ) (entries : List Entry) (old start part new : Group) (same_last : start.last_id ≡ old.last_id)
    (same_read : start.entries_read ≡ old.entries_read) (none : start.pending.items ≡ [])
    (how : HandsOut name now most false entries start part) (put : IsPut name now part old new) where
  abbrev news : List Entry
  news = take most (entries_behind old.last_id entries)

  between_last : how.between.last_id ≡ old.last_id
  between_last = ap (λ (g : Group). g.last_id) how.others ∙ same_last

  nothing_pending : how.between.pending.items ≡ []
  nothing_pending = how.stays ∙ none

  module _ (up : AreInOrder entries) where
    to_part : AreDelivered how.number now false news how.between part
    to_part = subst (λ (id : EntryId). AreDelivered how.number now false (take most (entries_behind id entries)) how.between part)
        same_last (how.delivered up)

    behind_above : AllAbove old.last_id (entries_behind old.last_id entries)
    behind_above = all_so (λ e. is_lt (id_order old.last_id e.id) ≡ true) (λ e. Above old.last_id e.id) (λ e is. above_so old.last_id e.id is)
        (entries_behind old.last_id entries) (filter_holds (λ e. is_lt (id_order old.last_id e.id)) entries)

    at_end : AreAtEnd how.number now news how.between part
    at_end = delivered_at_end how.number now news how.between part to_part
        (taken_ascends most (entries_behind old.last_id entries) (behind_ascends old.last_id entries up))
        (rw between_last (all_taken (λ e. Above old.last_id e.id) most (entries_behind old.last_id entries) behind_above))
        (subst (λ (ps : List Pending). IsAscending (λ p. p.id) ps) (sym nothing_pending) (λ i j d lt bound. absurd (omega (arith, bound))))
        (subst (λ (ps : List Pending). AllByRecursion (λ q. NotAbove how.between.last_id q.id) ps) (sym nothing_pending) tt)

    part_pending : part.pending.items ≡ map (pending_of how.number now) news
    part_pending = at_end.pending ∙ ap (λ (ps : List Pending). ps ++ map (pending_of how.number now) news) nothing_pending

    part_last : part.last_id ≡ last_of old.last_id news
    part_last = at_end.last_id ∙ ap (λ (id : EntryId). last_of id news) between_last

    given : AreGiven (map (pending_of put.number now) news) put.between new
    given = subst (λ (ps : List Pending). AreGiven ps put.between new)
        (ap (map (for_consumer put.number)) part_pending ∙ renumbered put.number how.number now news) put.given

    read_same : (es : List Entry) → AreDelivered how.number now false es how.between part → es ≡ [] → put.between.entries_read ≡ old.entries_read
    read_same [] is empty = ap (λ (g : Group). g.entries_read) put.others ∙ ap (λ (g : Group). g.entries_read) is
        ∙ ap (λ (g : Group). g.entries_read) how.others ∙ same_read
    read_same (e ∷ es) is empty = absurd (let t : e ∷ es ≡ [] = empty in cc)

    to_group : AreDelivered put.number now false news (record put.between { last_id = old.last_id; entries_read = old.entries_read }) new
    to_group = given_delivered put.number now old.last_id old.entries_read news put.between new given
        (ap (λ (g : Group). g.last_id) put.others ∙ part_last) (read_same news to_part)

  pub put_handed : HandsOut name now most false entries old new
  put_handed = record {
    number = put.number;
    between = record put.between { last_id = old.last_id; entries_read = old.entries_read };
    seen = seen_like name now put.number old put.between part.last_id old.last_id old.last_id part.entries_read old.entries_read old.entries_read put.seen;
    stays = put.stays;
    others = ap (λ (g : Group). record g { last_id = old.last_id; entries_read = old.entries_read }) put.others;
    delivered = to_group;
  }
