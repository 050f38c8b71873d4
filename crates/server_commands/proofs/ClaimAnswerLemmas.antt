-- The bytes of the replies to a claim.
use Rattle.std.proofs.Common.{◌≡◌, ◌<◌, ◌+◌, ◌++◌, ℕ, zero, suc, Bool, false, List, [], ◌∷◌, map, take, length, get_or, refl, sym, ap, ◌∙◌, append_assoc, append-nil, arith}
use Rattle.std.proofs.Common.{◌≢◌, subst, inl, inr}
use Rattle.std.proofs.lemmas.List.{map-append, take_more}
use Rattle.std.proofs.lemmas.Bool.{cases_Bool}
use Rattle.std.specs.List.{Contains}
use Rattle.std.specs.Ordering.{is_eq}
use Rattle.std.specs.declared.cmp.Ordering.TheVariants.{Less}
use Rattle.server_store.specs.Laws.{AreInOrder}
use Rattle.server_store.specs.Order.{IsNowhere, id_order}
use Rattle.server_store.specs.declared.entry_id.EntryId.{EntryId}
use Rattle.server_store.specs.declared.group.Pending.{Pending}
use Rattle.server_store.specs.declared.stream.Entry.{Entry}
use Rattle.server_commands.specs.Claiming.{entries_with, entry_with, ids_of, sent_claimed}
use Rattle.server_commands.specs.Sent.{Sent, sent}
use Rattle.server_commands.specs.declared.answer.Answer.{Answer}
use Rattle.server_commands.proofs.ClaimLemmas.{EntriesRise, all_at, apart_up, entries_rise, equal, is_same}

-- ---- the entries of what is claimed

not_this : (a b : EntryId) → a ≢ b → is_eq (id_order a b) ≡ false
not_this a b differ = elim (cases_Bool (is_eq (id_order a b))) [ inl t ↦ absurd (differ (is_same a b t)) | inr f ↦ f ]

pub none_with : (id : EntryId) (es : List Entry) → IsNowhere (λ e. e.id) id es → entry_with id es ≡ []
none_with id [] nowhere = refl
none_with id (e ∷ es) nowhere =
    rw (not_this e.id id (nowhere 0 e (omega arith))) (none_with id es (λ k d lt. nowhere (suc k) d (omega (arith, lt))))

pub one_with : (id : EntryId) (es : List Entry) (k : ℕ) (e : Entry) → EntriesRise es → k < length es → get_or es k e ≡ e → e.id ≡ id
    → entry_with id es ≡ e ∷ []
one_with id [] k e up lt at is = absurd (omega (arith, lt))
one_with id (x ∷ es) zero e up lt at is = rw (equal x.id id (ap (λ (y : Entry). y.id) at ∙ is)) (ap (λ (y : Entry). y ∷ []) at)
one_with id (x ∷ es) (suc k) e up lt at is =
    let less : id_order x.id e.id ≡ Less =
    subst (λ (y : Entry). id_order x.id y.id ≡ Less) at (all_at (λ y. id_order x.id y.id ≡ Less) es up.0 k e (omega (arith, lt))) in
    let differ : is_eq (id_order x.id id) ≡ false = subst (λ (i : EntryId). is_eq (id_order x.id i) ≡ false) is (apart_up x.id e.id less) in
    rw differ (one_with id es k e up.1 (omega (arith, lt)) at is)

with_more : (ids : List EntryId) (id : EntryId) (es : List Entry) → entries_with (ids ++ id ∷ []) es ≡ entries_with ids es ++ entry_with id es
with_more [] id es = append-nil (entry_with id es)
with_more (x ∷ ids) id es =
    ap (λ (ys : List Entry). entry_with x es ++ ys) (with_more ids id es)
    ∙ sym (append_assoc (entry_with x es) (entries_with ids es) (entry_with id es))

module _ (only_ids : Bool) (es : List Entry) (ps : List Pending) (i : ℕ) (p : Pending) (lt : i < length ps) (up : AreInOrder es)
    (answers : List Answer) (so_far : map sent answers ≡ map (sent_claimed only_ids) (entries_with (ids_of (take i ps)) es)) where
  grows : entries_with (ids_of (take (i + 1) ps)) es ≡ entries_with (ids_of (take i ps)) es ++ entry_with (get_or ps i p).id es
  grows =
      ap (λ (qs : List Pending). entries_with (ids_of qs) es) (take_more ps i p lt)
      ∙ ap (λ (ids : List EntryId). entries_with ids es) (map-append (λ (q : Pending). q.id) (take i ps) (get_or ps i p ∷ []))
      ∙ with_more (ids_of (take i ps)) (get_or ps i p).id es

  -- an entry more
  pub claimed_more : (e : Entry) (answer : Answer) (new : List Answer) → e.id ≡ (get_or ps i p).id → Contains es e
      → new ≡ answers ++ answer ∷ [] → sent answer ≡ sent_claimed only_ids e
      → map sent new ≡ map (sent_claimed only_ids) (entries_with (ids_of (take (i + 1) ps)) es)
  claimed_more e answer new named there grown is =
      ap (map sent) grown
      ∙ map-append sent answers (answer ∷ [])
      ∙ ap (λ (ss : List Sent). ss ++ sent answer ∷ []) so_far
      ∙ ap (λ (s : Sent). map (sent_claimed only_ids) (entries_with (ids_of (take i ps)) es) ++ s ∷ []) is
      ∙ sym (map-append (sent_claimed only_ids) (entries_with (ids_of (take i ps)) es) (e ∷ []))
      ∙ ap (λ (xs : List Entry). map (sent_claimed only_ids) (entries_with (ids_of (take i ps)) es ++ xs))
      (sym (one_with (get_or ps i p).id es there.0 e (entries_rise es up) there.1 there.2 named))
      ∙ ap (map (sent_claimed only_ids)) (sym grows)

  -- or none
  pub claimed_none : IsNowhere (λ e. e.id) (get_or ps i p).id es
      → map sent answers ≡ map (sent_claimed only_ids) (entries_with (ids_of (take (i + 1) ps)) es)
  claimed_none nowhere =
      so_far
      ∙ ap (map (sent_claimed only_ids)) (sym (append-nil (entries_with (ids_of (take i ps)) es))
      ∙ ap (λ (xs : List Entry). entries_with (ids_of (take i ps)) es ++ xs) (sym (none_with (get_or ps i p).id es nowhere))
      ∙ sym grows)
