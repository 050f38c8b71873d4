-- The entries that are read again are those that the model of a group delivers again.
use Rattle.std.proofs.Common.{◌≡◌, ◌<◌, ◌+◌, ℕ, zero, suc, Bool, true, false, List, [], ◌∷◌, map, filter, take, drop, length, get_or, subst, refl, sym, ap, ◌∙◌, inl, inr, arith}
use mathlib.Core.Bool.{true≢false}
use Rattle.std.proofs.lemmas.Bool.{cases_Bool}
use Rattle.std.proofs.lemmas.Bool.Decides.{nat_tests}
use Rattle.std.proofs.lemmas.List.{get_or_default}
use Rattle.std.proofs.lemmas.Slice.Eq.{bytes_eq-Decides}
use Rattle.std.specs.Prelude.{not, min, ◌&&◌, ◌==◌, if◌then◌else◌}
use Rattle.std.specs.List.{AllByRecursion, Contains}
use Rattle.std.specs.Ordering.{is_eq}
use Rattle.std.specs.Str.{bytes_eq}
use Rattle.std.specs.declared.cmp.Ordering.TheVariants.{Less}
use Rattle.model_server.specs.Group.Group as group_model
use Rattle.model_server.specs.Group.Group.{Name, as_it_is, listed, own, pending_ids, raised, raised_one, reread}
use Rattle.model_server.specs.Group.Worker as worker_model
use Rattle.model_server.specs.Group.World.{World, Reread, happens}
use Rattle.server_store.specs.EntryId.{id_text}
use Rattle.server_store.specs.Laws.{AreInOrder, IsInOrder}
use Rattle.server_store.specs.Order.{id_order}
use Rattle.server_store.specs.declared.entry_id.EntryId.{EntryId}
use Rattle.server_store.specs.declared.group.Group.{Group}
use Rattle.server_store.specs.declared.group.Pending.{Pending}
use Rattle.server_store.specs.declared.stream.Entry.{Entry}
use Rattle.server_commands.specs.Acknowledging.{names_of}
use Rattle.server_commands.specs.Claiming.{after_claim, entry_with, ids_of, is_among, sent_entry}
use Rattle.server_commands.specs.IdWords.{AreFit, Fits, words_of_ids}
use Rattle.server_commands.specs.Model.{AreNumbered, Fields, IsModelOf, IsUpTo, as_entry, as_pending, capped, entries_until, left_of, name_of}
use Rattle.server_commands.specs.ModelClaiming.{PendingIsSeen}
use Rattle.server_commands.specs.ModelReading.{sent_whole}
use Rattle.server_commands.specs.ModelRereading.{AscendIds, SeenAscends, sent_again}
use Rattle.server_commands.specs.Rereading.{Rereads, own_behind, sent_first, sent_own, sent_row, with_entries}
use Rattle.server_commands.specs.Sent.{Sent, sent}
use Rattle.server_commands.specs.Stalled.{has_entry}
use Rattle.server_commands.specs.declared.answer.Answer.{Answer}
use Rattle.server_commands.proofs.ClaimAnswerLemmas.{one_with}
use Rattle.server_commands.proofs.ClaimCodeLemmas.{one_index}
use Rattle.server_commands.proofs.ClaimEventLemmas.{IsPendingId, IsWorldAfter, after_id, all_pending, ascends_after, of_among, sent_same}
use Rattle.server_commands.proofs.ClaimLemmas.{Rises, all_both, all_of, all_so, among_above, apart_down, entries_rise, equal, filter_holds, is_same, not_among, over, rises_of}
use Rattle.server_commands.proofs.ClaimModelLemmas.{gone_deleted, of_map, there_stays, to_map, words_among}
use Rattle.server_commands.proofs.ClaimNameLemmas.{AreSeenNames, seen_names}
use Rattle.server_commands.proofs.ClaimPlaceLemmas.{contained}
use Rattle.server_commands.proofs.ModelLemmas.{all_filter, apart, filter_same}
use Rattle.server_commands.proofs.RereadLemmas.{all_own, all_taken}

-- ---- what is pending after

min_more : (n m : ℕ) → n ≡ min m 18446744073709551615 → min (n + 1) 18446744073709551615 ≡ min (m + 1) 18446744073709551615
min_more n m is = omega (arith, is)

-- of what is pending, whose it is and whether its entry is there
pub record IsPartOf (entries : List Entry) (deleted : List worker_model.Id) (names after : List (ℕ × Name)) (consumer : Name) (own_ids live : List EntryId) (p : Pending) : Type 0 where
  pub fit : Fits p.id
  pub named : name_of p.consumer after ≡ name_of p.consumer names
  pub here : has_entry p.id entries ≡ true → listed deleted (id_text p.id) ≡ false
  pub out : has_entry p.id entries ≡ false → listed deleted (id_text p.id) ≡ true
  pub mine : is_among own_ids p.id ≡ true → name_of p.consumer names ≡ consumer
  pub live_so : is_among live p.id ≡ (is_among own_ids p.id && has_entry p.id entries)

module _ (entries : List Entry) (deleted : List worker_model.Id) (names after : List (ℕ × Name)) (consumer : Name) (own_ids live : List EntryId)
    (number now : ℕ) (own_fit : AreFit own_ids) (numbered : name_of number after ≡ consumer) where
  abbrev Picks : worker_model.Id → Bool
  Picks = listed (words_of_ids own_ids)

  abbrev After : Pending → Pending
  After = after_claim number now false live

  one_raised : (p : Pending) (q : group_model.Pending) → IsPartOf entries deleted names after consumer own_ids live p → as_pending names p ≡ capped q
      → as_pending after (After p) ≡ capped (raised_one Picks consumer deleted q)
  one_raised p q is same =
      let id_is : q.id ≡ id_text p.id = sym (ap (λ (r : group_model.Pending). r.id) same) in
      let name_is : q.consumer ≡ name_of p.consumer names = sym (ap (λ (r : group_model.Pending). r.consumer) same) in
      let count_is : p.deliveries ≡ min q.count 18446744073709551615 = ap (λ (r : group_model.Pending). r.count) same in
      let picked : Picks q.id ≡ is_among own_ids p.id = ap Picks id_is ∙ words_among own_ids p.id own_fit is.fit in
      elim (cases_Bool (is_among own_ids p.id)) [
        | inl t ↦ elim (cases_Bool (has_entry p.id entries)) [
          | inl there ↦
              let left : listed deleted q.id ≡ false = ap (listed deleted) id_is ∙ is.here there in
              let pick : Picks q.id ≡ true = picked ∙ t in
              let whose : q.consumer ≡ consumer = name_is ∙ is.mine t in
              let his : bytes_eq q.consumer consumer ≡ true = (bytes_eq-Decides q.consumer consumer).1 whose in
              let lives : is_among live p.id ≡ true = is.live_so ∙ rw (t, there) refl in
              let sum = min_more p.deliveries q.count count_is in
              rw (pick, his, left, lives, numbered, sum, id_is, whose) refl
          | inr none ↦
              let away : listed deleted q.id ≡ true = ap (listed deleted) id_is ∙ is.out none in
              let pick : Picks q.id ≡ true = picked ∙ t in
              let lives : is_among live p.id ≡ false = is.live_so ∙ rw (t, none) refl in
              let his : (b : Bool) → (if (true && (b && not true)) then record q { count = q.count + 1 } else q) ≡ q =
              λ b. elim (cases_Bool b) [ inl y ↦ rw y refl | inr n ↦ rw n refl ] in
              rw (pick, away, lives, is.named, his (bytes_eq q.consumer consumer)) same
        ]
        | inr f ↦
            let pick : Picks q.id ≡ false = picked ∙ f in
            let lives : is_among live p.id ≡ false = is.live_so ∙ rw f refl in
            rw (pick, lives, is.named) same
      ]

  pub all_raised : (ps : List Pending) (qs : List group_model.Pending) → AllByRecursion (IsPartOf entries deleted names after consumer own_ids live) ps
      → map (as_pending names) ps ≡ map capped qs
      → map (as_pending after) (map After ps) ≡ map capped (raised Picks consumer deleted qs)
  all_raised [] [] all same = refl
  all_raised [] (q ∷ qs) all same = absurd (omega (arith, ap length same))
  all_raised (p ∷ ps) [] all same = absurd (omega (arith, ap length same))
  all_raised (p ∷ ps) (q ∷ qs) all same =
      let first : as_pending after (After p) ≡ capped (raised_one Picks consumer deleted q) =
      one_raised p q all.0 (ap (λ (rs : List group_model.Pending). get_or rs 0 (capped q)) same) in
      let rest = all_raised ps qs all.1 (ap (λ (rs : List group_model.Pending). drop 1 rs) same) in
      ap (λ (r : group_model.Pending). r ∷ map (as_pending after) (map After ps)) first
      ∙ ap (λ (rs : List group_model.Pending). capped (raised_one Picks consumer deleted q) ∷ rs) rest

-- -- the reply

none_entry : (id : EntryId) (es : List Entry) → has_entry id es ≡ false → entry_with id es ≡ []
none_entry id [] none = refl
none_entry id (e ∷ es) none = elim (cases_Bool (is_eq (id_order e.id id))) [
  | inl t ↦ absurd (true≢false (rw t at none))
  | inr f ↦ rw f (none_entry id es (rw f at none))
]

same_as_id : (a b : EntryId) → Fits a → Fits b → id_text a ≡ id_text b → a ≡ b
same_as_id a b a_fits b_fits is =
    sym (is_same b a (sym (apart a b a_fits b_fits) ∙ (bytes_eq-Decides (id_text a) (id_text b)).1 is))

module _ (entries : List Entry) (last_id : EntryId) (group : Group) (w : World Fields) (model : IsModelOf entries last_id group w) where
  -- the reply for an entry of the world is that for the entry of the stream with its id, if there is one
  abbrev pub Shows : worker_model.Entry Fields → Type 0
  Shows e = (id : EntryId) → Fits id → e.0 ≡ id_text id → sent_again (as_it_is w.deleted e) ≡ sent_first id (entry_with id entries)

  abbrev ShowsWhole : worker_model.Entry Fields → Type 0
  ShowsWhole e = (id : EntryId) → Fits id → e.0 ≡ id_text id → sent_whole e ≡ sent_first id (entry_with id entries)

  one_whole : (x : Entry) → Contains entries x → IsUpTo last_id x.id → ShowsWhole (as_entry x)
  one_whole x there up id fit is =
      let same : x.id ≡ id = same_as_id x.id id up.0 fit is in
      sent_same false x
      ∙ ap (λ (xs : List Entry). sent_first id xs) (sym (one_with id entries there.0 x (entries_rise entries model.entries_ascend) there.1 there.2 same))

  all_there : AllByRecursion (Contains entries) entries
  all_there = all_of (Contains entries) entries (λ k d lt. (k, lt, get_or_default entries k (get_or entries k d) d lt))

  of_left : (deleted : List worker_model.Id) (es : List (worker_model.Entry Fields)) → AllByRecursion ShowsWhole (left_of deleted es)
      → AllByRecursion (λ e. listed deleted e.0 ≡ false → ShowsWhole e) es
  of_left deleted [] all = tt
  of_left deleted (e ∷ es) all = elim (cases_Bool (listed deleted e.0)) [
    | inl t ↦ (λ f. absurd (true≢false (sym t ∙ f)), of_left deleted es (rw t at all))
    | inr f ↦
        let both = rw f at all in
        (λ g. both.0, of_left deleted es both.1)
  ]

  left_shown : AllByRecursion (λ e. listed w.deleted e.0 ≡ false → ShowsWhole e) w.seen
  left_shown = of_left w.deleted w.seen (subst (AllByRecursion ShowsWhole) model.seen
      (to_map ShowsWhole as_entry (entries_until group.last_id entries)
      (all_filter (λ x. ShowsWhole (as_entry x)) _ entries
      (all_both (Contains entries) (λ x. IsUpTo last_id x.id) (λ x. ShowsWhole (as_entry x)) one_whole entries all_there model.added))))

  show_one : (e : worker_model.Entry Fields) → (listed w.deleted e.0 ≡ false → ShowsWhole e) → Shows e
  show_one e left id fit is = elim (cases_Bool (listed w.deleted e.0)) [
    | inl t ↦
        let away : listed w.deleted (id_text id) ≡ true = ap (listed w.deleted) (sym is) ∙ t in
        let none : has_entry id entries ≡ false = elim (cases_Bool (has_entry id entries)) [
          | inl y ↦ absurd (true≢false (sym away ∙ there_stays entries last_id group w model id y))
          | inr n ↦ n
        ] in
        let nothing : entry_with id entries ≡ [] = none_entry id entries none in
        rw (t, nothing, is) refl
    | inr f ↦ rw f (left f id fit is)
  ]

  pub all_shown : AllByRecursion Shows w.seen
  all_shown = all_so (λ e. listed w.deleted e.0 ≡ false → ShowsWhole e) Shows show_one w.seen left_shown

-- ---- the same entries in the same order

none_picked : {A : Type 0} (xs : List A) → filter (λ x. false) xs ≡ []
none_picked [] = refl
none_picked (x ∷ xs) = none_picked xs

-- those that follow an id have other texts
texts_apart : (i : EntryId) (es : List (worker_model.Entry Fields)) (ids : List EntryId) → Fits i → AreFit ids
    → group_model.ids_of es ≡ words_of_ids ids → AllByRecursion (λ x. id_order i x ≡ Less) ids
    → AllByRecursion (λ e. bytes_eq (id_text i) e.0 ≡ false) es
texts_apart i [] ids fit all are above = tt
texts_apart i (e ∷ es) [] fit all are above = absurd (omega (arith, ap length are))
texts_apart i (e ∷ es) (x ∷ ids) fit all are above =
    let first : e.0 ≡ id_text x = ap (λ (ts : List worker_model.Id). get_or ts 0 e.0) are in
    let rest : group_model.ids_of es ≡ words_of_ids ids = ap (λ (ts : List worker_model.Id). drop 1 ts) are in
    (ap (bytes_eq (id_text i)) first ∙ apart i x fit all.0 ∙ apart_down i x above.0, texts_apart i es ids fit all.1 rest above.1)

ids_above : (a : EntryId) (ps : List Pending) → AllByRecursion (λ (q : Pending). id_order a q.id ≡ Less) ps → AllByRecursion (λ x. id_order a x ≡ Less) (ids_of ps)
ids_above a ps all = to_map (λ x. id_order a x ≡ Less) (λ (p : Pending). p.id) ps all

module _ (deleted : List worker_model.Id) (entries : List Entry) where
  abbrev ShowsSo : worker_model.Entry Fields → Type 0
  ShowsSo e = (id : EntryId) → Fits id → e.0 ≡ id_text id → sent_again (as_it_is deleted e) ≡ sent_first id (entry_with id entries)

  abbrev Sends : List Pending → List (worker_model.Entry Fields) → List Sent
  Sends ps es = map sent_again (map (as_it_is deleted) (filter (λ e. listed (words_of_ids (ids_of ps)) e.0) es))

  pub merged : (es : List (worker_model.Entry Fields)) (ids : List EntryId) (ps : List Pending) → group_model.ids_of es ≡ words_of_ids ids
      → AreFit ids → AscendIds ids → Rises ps → AllByRecursion (λ (p : Pending). Fits p.id) ps → AllByRecursion (λ (p : Pending). is_among ids p.id ≡ true) ps
      → AllByRecursion ShowsSo es → Sends ps es ≡ map (sent_own entries) ps
  merged es ids [] are fit up rise fits among shows =
      ap (λ (xs : List (worker_model.Entry Fields)). map sent_again (map (as_it_is deleted) xs)) (none_picked es)
  merged [] [] (p ∷ ps) are fit up rise fits among shows = absurd (true≢false (sym among.0))
  merged [] (i ∷ ids) (p ∷ ps) are fit up rise fits among shows = absurd (omega (arith, ap length are))
  merged (e ∷ es) [] (p ∷ ps) are fit up rise fits among shows = absurd (omega (arith, ap length are))
  merged (e ∷ es) (i ∷ ids) (p ∷ ps) are fit up rise fits among shows =
      let first : e.0 ≡ id_text i = ap (λ (ts : List worker_model.Id). get_or ts 0 e.0) are in
      let rest : group_model.ids_of es ≡ words_of_ids ids = ap (λ (ts : List worker_model.Id). drop 1 ts) are in
      elim (cases_Bool (is_eq (id_order p.id i))) [
        | inl t ↦
            let same : p.id ≡ i = is_same p.id i t in
            let named : e.0 ≡ id_text p.id = first ∙ ap id_text (sym same) in
            let picks : bytes_eq (id_text p.id) e.0 ≡ true = (bytes_eq-Decides (id_text p.id) e.0).1 (sym named) in
            let others : AllByRecursion (λ x. bytes_eq (id_text p.id) x.0 ≡ false) es =
            subst (λ (a : EntryId). AllByRecursion (λ x. bytes_eq (id_text a) x.0 ≡ false) es) (sym same) (texts_apart i es ids fit.0 fit.1 rest up.0) in
            let less : filter (λ x. listed (words_of_ids (ids_of (p ∷ ps))) x.0) es ≡ filter (λ x. listed (words_of_ids (ids_of ps)) x.0) es =
            filter_same (λ x. listed (words_of_ids (ids_of (p ∷ ps))) x.0) (λ x. listed (words_of_ids (ids_of ps)) x.0) es
            (all_so (λ x. bytes_eq (id_text p.id) x.0 ≡ false) (λ x. listed (words_of_ids (ids_of (p ∷ ps))) x.0 ≡ listed (words_of_ids (ids_of ps)) x.0)
            (λ x f. rw f refl) es others) in
            let still : AllByRecursion (λ (q : Pending). is_among ids q.id ≡ true) ps =
            all_both (λ (q : Pending). id_order p.id q.id ≡ Less) (λ (q : Pending). is_among (i ∷ ids) q.id ≡ true) (λ (q : Pending). is_among ids q.id ≡ true)
            (λ q above in_all. rw (subst (λ (a : EntryId). is_eq (id_order q.id a) ≡ false) same (apart_down p.id q.id above)) at in_all)
            ps rise.0 among.1 in
            let so : Sends ps es ≡ map (sent_own entries) ps = merged es ids ps rest fit.1 up.1 rise.1 fits.1 still shows.1 in
            let kept : Sends (p ∷ ps) (e ∷ es) ≡ sent_again (as_it_is deleted e)
            ∷ map sent_again (map (as_it_is deleted) (filter (λ x. listed (words_of_ids (ids_of (p ∷ ps))) x.0) es)) = rw picks refl in
            kept
            ∙ ap (λ (xs : List (worker_model.Entry Fields)). sent_again (as_it_is deleted e) ∷ map sent_again (map (as_it_is deleted) xs)) less
            ∙ ap (λ (xs : List Sent). sent_again (as_it_is deleted e) ∷ xs) so
            ∙ ap (λ (x : Sent). x ∷ map (sent_own entries) ps) (shows.0 p.id fits.0 named)
        | inr f ↦
            let later : is_among ids p.id ≡ true = rw f at among.0 in
            let below : id_order i p.id ≡ Less = among_above i p.id ids up.0 later in
            let all_above : AllByRecursion (λ (q : Pending). id_order i q.id ≡ Less) (p ∷ ps) =
            (below, all_so (λ (q : Pending). id_order p.id q.id ≡ Less) (λ (q : Pending). id_order i q.id ≡ Less) (λ q more. over i p.id q.id below more) ps rise.0) in
            let none : listed (words_of_ids (ids_of (p ∷ ps))) e.0 ≡ false =
            ap (listed (words_of_ids (ids_of (p ∷ ps)))) first
            ∙ words_among (ids_of (p ∷ ps)) i (to_map Fits (λ (q : Pending). q.id) (p ∷ ps) fits) fit.0
            ∙ not_among i (ids_of (p ∷ ps)) (ids_above i (p ∷ ps) all_above) in
            let still : AllByRecursion (λ (q : Pending). is_among ids q.id ≡ true) (p ∷ ps) =
            all_both (λ (q : Pending). id_order i q.id ≡ Less) (λ (q : Pending). is_among (i ∷ ids) q.id ≡ true) (λ (q : Pending). is_among ids q.id ≡ true)
            (λ q above in_all. rw (apart_down i q.id above) at in_all) (p ∷ ps) all_above among in
            let so : Sends (p ∷ ps) es ≡ map (sent_own entries) (p ∷ ps) = merged es ids (p ∷ ps) rest fit.1 up.1 rise fits still shows.1 in
            let gone : Sends (p ∷ ps) (e ∷ es) ≡ Sends (p ∷ ps) es = rw none refl in
            gone ∙ so
      ]

-- ---- one group

-- one of a consumer's own: it is in the list, and has this consumer's number
pub record IsOf (ps : List Pending) (number : ℕ) (q : Pending) : Type 0 where
  pub there : Contains ps q
  pub his : (q.consumer == number) ≡ true

rises_filter : (f : Pending → Bool) (ps : List Pending) → Rises ps → Rises (filter f ps)
rises_filter f [] up = tt
rises_filter f (p ∷ ps) up = elim (cases_Bool (f p)) [
  | inl t ↦ rw t (all_filter (λ (q : Pending). id_order p.id q.id ≡ Less) f ps up.0, rises_filter f ps up.1)
  | inr n ↦ rw n (rises_filter f ps up.1)
]

rises_take : (n : ℕ) (ps : List Pending) → Rises ps → Rises (take n ps)
rises_take zero [] up = tt
rises_take zero (p ∷ ps) up = tt
rises_take (suc n) [] up = tt
rises_take (suc n) (p ∷ ps) up = (all_taken (λ (q : Pending). id_order p.id q.id ≡ Less) n ps up.0, rises_take n ps up.1)

-- of the ids of what is its own, those of which the entry is there
among_live : (entries : List Entry) (ps : List Pending) (id : EntryId)
    → is_among (ids_of (with_entries entries ps)) id ≡ (is_among (ids_of ps) id && has_entry id entries)
among_live entries [] id = refl
among_live entries (p ∷ ps) id =
    let rest = among_live entries ps id in
    elim (cases_Bool (is_eq (id_order id p.id))) [
      | inl t ↦
          let same : id ≡ p.id = is_same id p.id t in
          elim (cases_Bool (has_entry p.id entries)) [
            | inl y ↦
                let here : has_entry id entries ≡ true = ap (λ (a : EntryId). has_entry a entries) same ∙ y in
                rw (y, t, here) refl
            | inr n ↦
                let none : has_entry id entries ≡ false = ap (λ (a : EntryId). has_entry a entries) same ∙ n in
                let off : (b : Bool) → (b && false) ≡ false = λ b. elim (cases_Bool b) [ inl y ↦ rw y refl | inr z ↦ rw z refl ] in
                rw (n, t, none) (rest ∙ rw none (off (is_among (ids_of ps) id)))
          ]
      | inr f ↦ elim (cases_Bool (has_entry p.id entries)) [
        | inl y ↦ rw (y, f) rest
        | inr n ↦ rw (n, f) rest
      ]
    ]

-- what is pending for a consumer is its own in the model
own_listed : (names : List (ℕ × Name)) (consumer : Name) (ps : List Pending) (qs : List group_model.Pending)
    → map (as_pending names) ps ≡ map capped qs
    → AllByRecursion (λ (p : Pending). name_of p.consumer names ≡ consumer → listed (own consumer qs) (id_text p.id) ≡ true) ps
own_listed names consumer [] qs same = tt
own_listed names consumer (p ∷ ps) [] same = absurd (omega (arith, ap length same))
own_listed names consumer (p ∷ ps) (q ∷ qs) same =
    let first : as_pending names p ≡ capped q = ap (λ (rs : List group_model.Pending). get_or rs 0 (capped q)) same in
    let id_is : q.id ≡ id_text p.id = sym (ap (λ (r : group_model.Pending). r.id) first) in
    let name_is : q.consumer ≡ name_of p.consumer names = sym (ap (λ (r : group_model.Pending). r.consumer) first) in
    let rest = own_listed names consumer ps qs (ap (λ (rs : List group_model.Pending). drop 1 rs) same) in
    let more : (t : worker_model.Id) → listed (own consumer qs) t ≡ true → listed (own consumer (q ∷ qs)) t ≡ true =
    λ t is. elim (cases_Bool (bytes_eq q.consumer consumer)) [
      | inl y ↦ rw (y, is) (or_else (bytes_eq q.id t))
      | inr n ↦ rw n is
    ] in (
      λ is.
          let his : bytes_eq q.consumer consumer ≡ true = (bytes_eq-Decides q.consumer consumer).1 (name_is ∙ is) in
          let yes : bytes_eq q.id (id_text p.id) ≡ true = (bytes_eq-Decides q.id (id_text p.id)).1 id_is in
          rw (his, yes) refl,
      all_so (λ (r : Pending). name_of r.consumer names ≡ consumer → listed (own consumer qs) (id_text r.id) ≡ true)
          (λ (r : Pending). name_of r.consumer names ≡ consumer → listed (own consumer (q ∷ qs)) (id_text r.id) ≡ true)
          (λ r f is. more (id_text r.id) (f is)) ps rest,
    )
  where
    or_else : (b : Bool) → (if b then true else true) ≡ true
    or_else true = refl
    or_else false = refl

-- what holds of the texts of these ids holds of a text that is listed
of_listed : (P : worker_model.Id → Type 0) (ids : List EntryId) → AllByRecursion (λ id. P (id_text id)) ids → (t : worker_model.Id)
    → listed (words_of_ids ids) t ≡ true → P t
of_listed P [] all t is = absurd (true≢false (sym is))
of_listed P (id ∷ ids) all t is = elim (cases_Bool (bytes_eq (id_text id) t)) [
  | inl y ↦ subst P ((bytes_eq-Decides (id_text id) t).0 y) all.0
  | inr n ↦ of_listed P ids all.1 t (rw n at is)
]

-- one that passes the first test passes the second too
first_alone : {A : Type 0} (a b : A → Bool) → ((x : A) → a x ≡ true → b x ≡ true) → (xs : List A) → filter (λ x. a x && b x) xs ≡ filter a xs
first_alone a b also [] = refl
first_alone {A} a b also (x ∷ xs) = elim (cases_Bool (a x)) [
  | inl t ↦ rw (also x t, t) (ap (λ (ys : List A). x ∷ ys) (first_alone a b also xs))
  | inr f ↦ rw f (first_alone a b also xs)
]

-- the group of a stream after its consumer read its own again, and the reply, are those of the world
pub record GroupRereads (key consumer : List ℕ) (own_ids : List EntryId) (answer : Answer) (entries : List Entry) (last_id : EntryId) (old new : Group) (w : World Fields) : Type 0 where
  pub named : new.name.items ≡ old.name.items
  pub model : IsModelOf entries last_id new (happens w (Reread consumer (listed (words_of_ids own_ids))))
  pub numbered : AreNumbered new
  pub seen : PendingIsSeen (happens w (Reread consumer (listed (words_of_ids own_ids))))
  pub answered : sent answer
      ≡ sent_row key (map sent_again (reread (listed (words_of_ids own_ids)) consumer w.pending w.deleted w.seen))

module _ (key consumer : List ℕ) (now most : ℕ) (behind : EntryId) (answer : Answer) (entries : List Entry) (last_id : EntryId) (old new : Group)
    (w : World Fields) (model : IsModelOf entries last_id old w) (numbered : AreNumbered old) (room : old.next_number < 18446744073709551615)
    (known : PendingIsSeen w) (log : SeenAscends w) (read : Rereads key consumer now most behind answer entries old new) where
  abbrev ps : List Pending
  ps = old.pending.items

  abbrev number : ℕ
  number = read.delivered.number

  abbrev own_ids : List EntryId
  own_ids = ids_of read.own

  abbrev live : List EntryId
  live = ids_of (with_entries entries read.own)

  abbrev names : List (ℕ × Name)
  names = names_of old.consumers.items

  abbrev after : List (ℕ × Name)
  after = names_of new.consumers.items

  seen : AreSeenNames consumer number names (names_of read.delivered.seen.consumers.items) old.next_number read.delivered.seen.next_number
  seen = seen_names consumer now number old read.delivered.seen read.delivered.how numbered room

  numbered_so : name_of number after ≡ consumer
  numbered_so = ap (name_of number) read.delivered.names ∙ seen.numbered

  others_so : (n : ℕ) → n < old.next_number → name_of n after ≡ name_of n names
  others_so n lt = ap (name_of n) read.delivered.names ∙ seen.others n lt

  pends : AllByRecursion (λ (p : Pending). IsPendingId old.last_id w p.id) ps
  pends = all_pending entries last_id old w model known

  own_of_it : AllByRecursion (IsOf ps number) read.own
  own_of_it = subst (AllByRecursion (IsOf ps number)) (sym read.are_own)
      (all_both (Contains ps) (λ (q : Pending). (q.consumer == number) ≡ true) (IsOf ps number) (λ q a b. record { there = a; his = b }) (own_behind number behind most ps)
      (all_own (Contains ps) number behind most ps (contained ps))
      (all_taken (λ (q : Pending). (q.consumer == number) ≡ true) most _ (filter_holds (λ (q : Pending). q.consumer == number) _)))

  own_fits : AllByRecursion (λ (p : Pending). Fits p.id) read.own
  own_fits = subst (AllByRecursion (λ (p : Pending). Fits p.id)) (sym read.are_own)
      (all_own (λ (p : Pending). Fits p.id) number behind most ps (all_so (λ (p : Pending). IsPendingId old.last_id w p.id) (λ (p : Pending). Fits p.id) (λ p is. is.up_to.0) ps pends))

  own_rises : Rises read.own
  own_rises = subst Rises (sym read.are_own) (rises_take most _ (rises_filter _ _ (rises_filter _ ps (rises_of ps model.pending_ascends))))

  own_fit : AreFit own_ids
  own_fit = to_map Fits (λ (p : Pending). p.id) read.own own_fits

  -- an entry that is its own is that one
  pub record IsOne (id : EntryId) : Type 0 where
    pub one : Pending
    pub of : IsOf ps number one
    pub named : one.id ≡ id

  whose : (p : Pending) → Contains ps p → p.consumer < old.next_number → is_among own_ids p.id ≡ true → name_of p.consumer names ≡ consumer
  whose p there below among =
      let one : IsOne p.id = of_among IsOne own_ids (to_map IsOne (λ (q : Pending). q.id) read.own
      (all_so (IsOf ps number) (λ (q : Pending). IsOne q.id) (λ q is. record { one = q; of = is; named = refl }) read.own own_of_it)) p.id among in
      let at : (get_or ps there.0 p).id ≡ (get_or ps one.of.there.0 p).id =
      ap (λ (q : Pending). q.id) there.2 ∙ sym one.named
      ∙ ap (λ (q : Pending). q.id) (sym one.of.there.2 ∙ get_or_default ps one.of.there.0 one.one p one.of.there.1) in
      let here : there.0 ≡ one.of.there.0 = one_index number now false ps there.0 one.of.there.0 p model.pending_ascends there.1 one.of.there.1 at in
      let same : p ≡ one.one = sym there.2 ∙ ap (λ (k : ℕ). get_or ps k p) here
      ∙ get_or_default ps one.of.there.0 p one.one one.of.there.1 ∙ one.of.there.2 in
      let his : p.consumer ≡ number = ap (λ (q : Pending). q.consumer) same ∙ grind (arith, nat_tests, one.of.his) in
      sym (others_so p.consumer below) ∙ ap (λ (n : ℕ). name_of n after) his ∙ numbered_so

  parts : AllByRecursion (IsPartOf entries w.deleted names after consumer own_ids live) ps
  parts = all_both (λ (p : Pending). IsPendingId old.last_id w p.id) (λ (p : Pending). (p.consumer < old.next_number) × Contains ps p)
      (IsPartOf entries w.deleted names after consumer own_ids live)
      (λ p is more. record {
        fit = is.up_to.0;
        named = others_so p.consumer more.0;
        here = there_stays entries last_id old w model p.id;
        out = gone_deleted entries last_id old w model p.id is.up_to.0 is.seen;
        mine = whose p more.1 more.0;
        live_so = among_live entries read.own p.id;
      }) ps pends
      (all_both (λ (p : Pending). p.consumer < old.next_number) (Contains ps) (λ (p : Pending). (p.consumer < old.next_number) × Contains ps p) (λ p a b. (a, b)) ps
      numbered.pending (contained ps))

  abbrev Picked : worker_model.Id → Bool
  Picked = listed (words_of_ids own_ids)

  abbrev World_after : World Fields
  World_after = happens w (Reread consumer Picked)

  abbrev Again : Pending → Pending
  Again = after_claim number now false live

  pending_so : map (as_pending after) new.pending.items ≡ map capped (raised Picked consumer w.deleted w.pending)
  pending_so = ap (map (as_pending after)) read.delivered.pending
      ∙ all_raised entries w.deleted names after consumer own_ids live number now own_fit numbered_so ps w.pending parts model.pending

  last_same : new.last_id ≡ old.last_id
  last_same = ap (λ (g : Group). g.last_id) read.delivered.others

  model_so : IsModelOf entries last_id new World_after
  model_so = record {
    seen = rw last_same model.seen;
    fresh = rw last_same model.fresh;
    last = model.last;
    pending = pending_so;
    entries_ascend = model.entries_ascend;
    pending_ascends = rw read.delivered.pending (ascends_after Again (after_id number now false live) ps model.pending_ascends);
    added = model.added;
    delivered = rw (last_same, read.delivered.pending)
        (to_map (λ (p : Pending). IsUpTo old.last_id p.id) Again ps
        (all_so (λ (p : Pending). IsUpTo old.last_id p.id) (λ (p : Pending). IsUpTo old.last_id (Again p).id)
        (λ p up. subst (IsUpTo old.last_id) (sym (after_id number now false live p)) up) ps model.delivered));
    reached = rw last_same model.reached;
    none_above = model.none_above;
  }

  numbered_after : AreNumbered new
  numbered_after =
      let next : new.next_number ≡ read.delivered.seen.next_number = read.delivered.next in
      record {
        found = subst (λ (ns : List (ℕ × Name)). AllByRecursion (λ c. name_of c.0 ns ≡ c.1) ns) (sym read.delivered.names) seen.found;
        below = rw (read.delivered.names, next) seen.below;
        pending = rw (read.delivered.pending, next) (to_map (λ (p : Pending). p.consumer < read.delivered.seen.next_number) Again ps
            (all_so (λ (p : Pending). p.consumer < old.next_number) (λ (p : Pending). (Again p).consumer < read.delivered.seen.next_number) still ps numbered.pending));
      }
    where
      still : (p : Pending) → p.consumer < old.next_number → (Again p).consumer < read.delivered.seen.next_number
      still p below = elim (cases_Bool (is_among live p.id)) [
        | inl t ↦ rw t seen.number_below
        | inr f ↦ rw f (omega (arith, below, seen.grows))
      ]

  seen_still : PendingIsSeen World_after
  seen_still = to_map (λ (q : group_model.Pending). listed (group_model.ids_of w.seen) q.id ≡ true) (raised_one Picked consumer w.deleted) w.pending
      (all_so (λ (q : group_model.Pending). listed (group_model.ids_of w.seen) q.id ≡ true)
      (λ (q : group_model.Pending). listed (group_model.ids_of w.seen) (raised_one Picked consumer w.deleted q).id ≡ true)
      (λ q is. ap (listed (group_model.ids_of w.seen)) (raised_id q) ∙ is) w.pending known)
    where
      raised_id : (q : group_model.Pending) → (raised_one Picked consumer w.deleted q).id ≡ q.id
      raised_id q = elim (cases_Bool (Picked q.id && (bytes_eq q.consumer consumer && not (listed w.deleted q.id)))) [
        | inl t ↦ rw t refl
        | inr f ↦ rw f refl
      ]

  -- what is picked is its own
  also : (e : worker_model.Entry Fields) → Picked e.0 ≡ true → listed (own consumer w.pending) e.0 ≡ true
  also e is = of_listed (λ t. listed (own consumer w.pending) t ≡ true) own_ids (to_map (λ id. listed (own consumer w.pending) (id_text id) ≡ true)
      (λ (p : Pending). p.id) read.own (subst (AllByRecursion (λ (p : Pending). listed (own consumer w.pending) (id_text p.id) ≡ true)) (sym read.are_own)
      (all_both (λ (p : Pending). (p.consumer == number) ≡ true) (λ (p : Pending). (p.consumer < old.next_number) × (name_of p.consumer names ≡ consumer
      → listed (own consumer w.pending) (id_text p.id) ≡ true)) (λ (p : Pending). listed (own consumer w.pending) (id_text p.id) ≡ true) mine
      (own_behind number behind most ps) (all_taken (λ (q : Pending). (q.consumer == number) ≡ true) most _ (filter_holds (λ (q : Pending). q.consumer == number) _))
      (all_own (λ (p : Pending). (p.consumer < old.next_number) × (name_of p.consumer names ≡ consumer → listed (own consumer w.pending) (id_text p.id) ≡ true))
      number behind most ps (all_both (λ (p : Pending). p.consumer < old.next_number)
      (λ (p : Pending). name_of p.consumer names ≡ consumer → listed (own consumer w.pending) (id_text p.id) ≡ true)
      (λ (p : Pending). (p.consumer < old.next_number) × (name_of p.consumer names ≡ consumer → listed (own consumer w.pending) (id_text p.id) ≡ true))
      (λ p a b. (a, b)) ps numbered.pending (own_listed names consumer ps w.pending model.pending)))))) e.0 is
    where
      mine : (p : Pending) → (p.consumer == number) ≡ true → (p.consumer < old.next_number) × (name_of p.consumer names ≡ consumer
          → listed (own consumer w.pending) (id_text p.id) ≡ true) → listed (own consumer w.pending) (id_text p.id) ≡ true
      mine p h both =
          let his : p.consumer ≡ number = grind (arith, nat_tests, h) in
          both.1 (sym (others_so p.consumer both.0) ∙ ap (λ (n : ℕ). name_of n after) his ∙ numbered_so)

  own_among : AllByRecursion (λ (p : Pending). is_among log.ids p.id ≡ true) read.own
  own_among = subst (AllByRecursion (λ (p : Pending). is_among log.ids p.id ≡ true)) (sym read.are_own)
      (all_own (λ (p : Pending). is_among log.ids p.id ≡ true) number behind most ps
      (all_so (λ (p : Pending). IsPendingId old.last_id w p.id) (λ (p : Pending). is_among log.ids p.id ≡ true)
      (λ p is. sym (words_among log.ids p.id log.fit is.up_to.0) ∙ ap (λ (ts : List worker_model.Id). listed ts (id_text p.id)) (sym log.are) ∙ is.seen)
      ps pends))

  rereads_so : map sent_again (reread Picked consumer w.pending w.deleted w.seen) ≡ map (sent_own entries) read.own
  rereads_so =
      ap (λ (es : List (worker_model.Entry Fields)). map sent_again (map (as_it_is w.deleted) es))
      (first_alone (λ e. Picked e.0) (λ e. listed (own consumer w.pending) e.0) also w.seen)
      ∙ merged w.deleted entries w.seen log.ids read.own log.are log.fit log.ascend own_rises own_fits own_among
      (all_shown entries last_id old w model)

  pub group_rereads : GroupRereads key consumer own_ids answer entries last_id old new w
  group_rereads = record {
    named = ap (λ (g : Group). g.name.items) read.delivered.others;
    model = model_so;
    numbered = numbered_after;
    seen = seen_still;
    answered = read.answered ∙ ap (sent_row key) (sym rereads_so);
  }
