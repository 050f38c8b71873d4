-- A claim of stalled entries is what the model of a group does.
use Rattle.std.proofs.Common.{◌≡◌, ◌+◌, ◌++◌, ℕ, Bool, true, false, List, [], ◌∷◌, map, filter, drop, length, get_or, subst, refl, sym, ap, ◌∙◌, inl, inr, arith}
use mathlib.Core.Bool.{true≢false}
use Rattle.std.proofs.lemmas.Bool.{cases_Bool}
use Rattle.std.proofs.lemmas.Bool.Decides.{nat_tests}
use Rattle.std.proofs.lemmas.List.{map-append}
use Rattle.std.proofs.lemmas.Slice.Eq.{bytes_eq-Decides}
use Rattle.std.specs.Prelude.{not, min, if◌then◌else◌}
use Rattle.std.specs.List.{AllByRecursion}
use Rattle.std.specs.Ordering.{is_eq, is_lt}
use Rattle.std.specs.Str.{bytes_eq}
use Rattle.model_server.specs.Group.Group as group_model
use Rattle.model_server.specs.Group.Group.{Name, claimed, claimed_one, listed}
use Rattle.model_server.specs.Group.Worker as worker_model
use Rattle.model_server.specs.Group.World.{World}
use Rattle.server_store.specs.EntryId.{id_text}
use Rattle.server_store.specs.Order.{id_order}
use Rattle.server_store.specs.declared.entry_id.EntryId.{EntryId}
use Rattle.server_store.specs.declared.group.Group.{Group}
use Rattle.server_store.specs.declared.group.Pending.{Pending}
use Rattle.server_store.specs.declared.stream.Entry.{Entry}
use Rattle.server_commands.specs.Claiming.{after_claim, is_among, times_more}
use Rattle.server_commands.specs.Delivering.{entries_behind}
use Rattle.server_commands.specs.IdWords.{AreFit, Fits, words_of_ids}
use Rattle.server_commands.specs.Model.{Fields, IsModelOf, IsUpTo, as_entry, as_pending, capped, entries_until, left_of, name_of}
use Rattle.server_commands.specs.ModelClaiming.{is_picked}
use Rattle.server_commands.specs.Stalled.{has_entry}
use Rattle.server_commands.proofs.ClaimLemmas.{all_parts, all_so, filter_holds, is_same}
use Rattle.server_commands.proofs.ModelLemmas.{apart}

-- ---- what was deleted has no entry

abbrev IsLeft : List worker_model.Id → worker_model.Entry Fields → Type 0
IsLeft deleted e = listed deleted e.0 ≡ false

not_true : (b : Bool) → not b ≡ true → b ≡ false
not_true true e = absurd (true≢false (sym e))
not_true false e = refl

left_is_left : (deleted : List worker_model.Id) (xs : List (worker_model.Entry Fields)) → AllByRecursion (IsLeft deleted) (left_of deleted xs)
left_is_left deleted xs = all_so (λ e. not (listed deleted e.0) ≡ true) (IsLeft deleted) (λ e t. not_true (listed deleted e.0) t)
    (left_of deleted xs) (filter_holds (λ e. not (listed deleted e.0)) xs)

pub of_map : {A B : Type 0} (P : B → Type 0) (f : A → B) (xs : List A) → AllByRecursion P (map f xs) → AllByRecursion (λ x. P (f x)) xs
of_map P f [] all = tt
of_map P f (x ∷ xs) all = (all.0, of_map P f xs all.1)

pub to_map : {A B : Type 0} (P : B → Type 0) (f : A → B) (xs : List A) → AllByRecursion (λ x. P (f x)) xs → AllByRecursion P (map f xs)
to_map P f [] all = tt
to_map P f (x ∷ xs) all = (all.0, to_map P f xs all.1)

module _ (deleted : List worker_model.Id) where
  abbrev Stays : Entry → Type 0
  Stays e = listed deleted (id_text e.id) ≡ false

  -- an id with an entry that is left was not deleted
  is_left : (id : EntryId) (es : List Entry) → AllByRecursion Stays es → has_entry id es ≡ true → listed deleted (id_text id) ≡ false
  is_left id [] all there = absurd (true≢false (sym there))
  is_left id (e ∷ es) all there = elim (cases_Bool (is_eq (id_order e.id id))) [
    | inl t ↦ rw (sym (is_same e.id id t)) all.0
    | inr f ↦ is_left id es all.1 (rw f at there)
  ]

  -- one of the entries that are left has the id, if one has it and it was not deleted
  kept : (t : worker_model.Id) (xs : List (worker_model.Entry Fields)) → listed (group_model.ids_of xs) t ≡ true → listed deleted t ≡ false
      → listed (group_model.ids_of (left_of deleted xs)) t ≡ true
  kept t [] there stays = there
  kept t (x ∷ xs) there stays = elim (cases_Bool (bytes_eq x.0 t)) [
    | inl e ↦
        let is : x.0 ≡ t = (bytes_eq-Decides x.0 t).0 e in
        let left : listed deleted x.0 ≡ false = ap (listed deleted) is ∙ stays in
        rw (left, e) refl
    | inr f ↦
        let rest : listed (group_model.ids_of (left_of deleted xs)) t ≡ true = kept t xs (rw f at there) stays in
        elim (cases_Bool (listed deleted x.0)) [
          | inl gone ↦ rw gone rest
          | inr left ↦ rw (left, f) rest
        ]
  ]

-- an id whose text is that of an entry has an entry
has_text : (id : EntryId) (es : List Entry) → Fits id → AllByRecursion (λ e. Fits e.id) es
    → listed (group_model.ids_of (map as_entry es)) (id_text id) ≡ true → has_entry id es ≡ true
has_text id [] fit all there = there
has_text id (e ∷ es) fit all there = elim (cases_Bool (bytes_eq (id_text e.id) (id_text id))) [
  | inl t ↦
      let is : e.id ≡ id = sym (is_same id e.id (sym (apart e.id id all.0 fit) ∙ t)) in
      rw (equal_ids e.id id is) refl
  | inr f ↦ elim (cases_Bool (is_eq (id_order e.id id))) [
    | inl t ↦ rw t refl
    | inr none ↦ rw none (has_text id es fit all.1 (rw f at there))
  ]
]
  where
    equal_ids : (a b : EntryId) → a ≡ b → is_eq (id_order a b) ≡ true
    equal_ids a b is = grind (arith, nat_tests, is)

-- an entry of some of the entries is one of all
has_more : (p : Entry → Bool) (id : EntryId) (es : List Entry) → has_entry id (filter p es) ≡ true → has_entry id es ≡ true
has_more p id [] there = there
has_more p id (e ∷ es) there = elim (cases_Bool (is_eq (id_order e.id id))) [
  | inl t ↦ rw t refl
  | inr f ↦ rw f (elim (cases_Bool (p e)) [
    | inl t ↦ has_more p id es (rw f at (rw t at there))
    | inr none ↦ has_more p id es (rw none at there)
  ])
]

module _ (entries : List Entry) (last_id : EntryId) (group : Group) (w : World Fields) (model : IsModelOf entries last_id group w) where
  stay : AllByRecursion (Stays w.deleted) entries
  stay = all_parts (Stays w.deleted) (λ e. is_lt (id_order group.last_id e.id)) entries
      (of_map (IsLeft w.deleted) as_entry (entries_until group.last_id entries)
      (subst (AllByRecursion (IsLeft w.deleted)) (sym model.seen) (left_is_left w.deleted w.seen)))
      (of_map (IsLeft w.deleted) as_entry (entries_behind group.last_id entries)
      (subst (AllByRecursion (IsLeft w.deleted)) (sym model.fresh) (left_is_left w.deleted w.fresh)))

  pub there_stays : (id : EntryId) → has_entry id entries ≡ true → listed w.deleted (id_text id) ≡ false
  there_stays id there = is_left w.deleted id entries stay there

  pub gone_deleted : (id : EntryId) → Fits id → listed (group_model.ids_of w.seen) (id_text id) ≡ true → has_entry id entries ≡ false
      → listed w.deleted (id_text id) ≡ true
  gone_deleted id fit seen none = elim (cases_Bool (listed w.deleted (id_text id))) [
    | inl t ↦ t
    | inr f ↦
        let left : listed (group_model.ids_of (map as_entry (entries_until group.last_id entries))) (id_text id) ≡ true =
        ap (λ (xs : List (worker_model.Entry Fields)). listed (group_model.ids_of xs) (id_text id)) model.seen
        ∙ kept w.deleted (id_text id) w.seen seen f in
        let fits_all : AllByRecursion (λ e. Fits e.id) (entries_until group.last_id entries) =
        all_filtered (λ e. Fits e.id) (λ e. not (is_lt (id_order group.last_id e.id))) entries
        (all_so (λ e. IsUpTo last_id e.id) (λ e. Fits e.id) (λ e is. is.0) entries model.added) in
        let there : has_entry id (entries_until group.last_id entries) ≡ true = has_text id (entries_until group.last_id entries) fit fits_all left in
        absurd (true≢false (sym (has_more (λ e. not (is_lt (id_order group.last_id e.id))) id entries there) ∙ none))
  ]
    where
      all_filtered : (P : Entry → Type 0) (p : Entry → Bool) (xs : List Entry) → AllByRecursion P xs → AllByRecursion P (filter p xs)
      all_filtered P p [] all = tt
      all_filtered P p (x ∷ xs) all = elim (cases_Bool (p x)) [
        | inl t ↦ rw t (all.0, all_filtered P p xs all.1)
        | inr f ↦ rw f (all_filtered P p xs all.1)
      ]

-- ---- which ids are picked

pub words_among : (ids : List EntryId) (id : EntryId) → AreFit ids → Fits id → listed (words_of_ids ids) (id_text id) ≡ is_among ids id
words_among [] id all fit = refl
words_among (x ∷ ids) id all fit = rw (apart x id all.0 fit, words_among ids id all.1 fit) refl

-- ---- what is pending after

capped_sum : (n m more : ℕ) → n ≡ min m 18446744073709551615 → min (n + more) 18446744073709551615 ≡ min (m + more) 18446744073709551615
capped_sum n m more is = omega (arith, is)

-- Of what is pending: its id fits, its consumer has the name that it had, and it was deleted if it has no entry.
pub record IsPart (entries : List Entry) (deleted : List worker_model.Id) (names names_after : List (ℕ × Name)) (p : Pending) : Type 0 where
  pub fit : Fits p.id
  pub named : name_of p.consumer names_after ≡ name_of p.consumer names
  pub here : has_entry p.id entries ≡ true → listed deleted (id_text p.id) ≡ false
  pub out : has_entry p.id entries ≡ false → listed deleted (id_text p.id) ≡ true

module _ (entries : List Entry) (deleted : List worker_model.Id) (taken gone : List EntryId) (number now : ℕ) (only_ids : Bool)
    (consumer : Name) (names names_after : List (ℕ × Name))
    (taken_fit : AreFit taken) (gone_fit : AreFit gone)
    (taken_there : (id : EntryId) → is_among taken id ≡ true → has_entry id entries ≡ true)
    (gone_out : (id : EntryId) → is_among gone id ≡ true → has_entry id entries ≡ false)
    (numbered : (id : EntryId) → is_among taken id ≡ true → name_of number names_after ≡ consumer) where
  abbrev Pick : worker_model.Id → Bool
  Pick = is_picked taken gone

  pick_is : (id : EntryId) → Fits id → Pick (id_text id) ≡ (if is_among taken id then true else is_among gone id)
  pick_is id fit = rw (words_among taken id taken_fit fit, words_among gone id gone_fit fit) refl

  abbrev After : Pending → Pending
  After = after_claim number now only_ids taken

  stays_named : (p : Pending) → (After p).id ≡ p.id
  stays_named p = elim (cases_Bool (is_among taken p.id)) [ inl t ↦ rw t refl | inr f ↦ rw f refl ]

  abbrev LeavesOne : Pending → group_model.Pending → Type 0
  LeavesOne p q = map (as_pending names_after) (filter (λ x. not (is_among gone x.id)) (After p ∷ []))
      ≡ map capped (claimed_one (times_more only_ids) Pick consumer deleted q)

  one_after : (p : Pending) (q : group_model.Pending) → IsPart entries deleted names names_after p → as_pending names p ≡ capped q → LeavesOne p q
  one_after p q is same =
      let id_is : q.id ≡ id_text p.id = sym (ap (λ (r : group_model.Pending). r.id) same) in
      let count_is : p.deliveries ≡ min q.count 18446744073709551615 = ap (λ (r : group_model.Pending). r.count) same in
      let picked : Pick q.id ≡ (if is_among taken p.id then true else is_among gone p.id) = ap Pick id_is ∙ pick_is p.id is.fit in
      elim (cases_Bool (is_among gone p.id)) [
        | inl t ↦
            let none : has_entry p.id entries ≡ false = gone_out p.id t in
            let away : listed deleted q.id ≡ true = ap (listed deleted) id_is ∙ is.out none in
            let untaken : is_among taken p.id ≡ false =
            elim (cases_Bool (is_among taken p.id)) [ inl y ↦ absurd (true≢false (sym (taken_there p.id y) ∙ none)) | inr f ↦ f ] in
            let pick : Pick q.id ≡ true = picked ∙ rw (untaken, t) refl in
            rw (pick, away, untaken, t) refl
        | inr stays ↦ elim (cases_Bool (is_among taken p.id)) [
          | inl t ↦
              let left : listed deleted q.id ≡ false = ap (listed deleted) id_is ∙ is.here (taken_there p.id t) in
              let pick : Pick q.id ≡ true = picked ∙ rw t refl in
              let sum = capped_sum p.deliveries q.count (times_more only_ids) count_is in
              rw (pick, left, t, stays, numbered p.id t, sum, id_is) refl
          | inr f ↦
              let pick : Pick q.id ≡ false = picked ∙ rw (f, stays) refl in
              rw (pick, f, stays, is.named) (ap (λ (r : group_model.Pending). r ∷ []) same)
        ]
      ]

  pub all_after : (ps : List Pending) (qs : List group_model.Pending) → AllByRecursion (IsPart entries deleted names names_after) ps
      → map (as_pending names) ps ≡ map capped qs
      → map (as_pending names_after) (filter (λ x. not (is_among gone x.id)) (map After ps))
      ≡ map capped (claimed (times_more only_ids) Pick consumer deleted qs)
  all_after [] [] all same = refl
  all_after [] (q ∷ qs) all same = absurd (omega (arith, ap length same))
  all_after (p ∷ ps) [] all same = absurd (omega (arith, ap length same))
  all_after (p ∷ ps) (q ∷ qs) all same =
      let first : LeavesOne p q = one_after p q all.0 (ap (λ (rs : List group_model.Pending). get_or rs 0 (capped q)) same) in
      let rest = all_after ps qs all.1 (ap (λ (rs : List group_model.Pending). drop 1 rs) same) in
      ap (map (as_pending names_after)) (filter_first (λ x. not (is_among gone x.id)) (After p) (map After ps))
      ∙ map-append (as_pending names_after) (filter (λ x. not (is_among gone x.id)) (After p ∷ [])) (filter (λ x. not (is_among gone x.id)) (map After ps))
      ∙ ap (λ (rs : List group_model.Pending). rs ++ map (as_pending names_after) (filter (λ x. not (is_among gone x.id)) (map After ps))) first
      ∙ ap (λ (rs : List group_model.Pending). map capped (claimed_one (times_more only_ids) Pick consumer deleted q) ++ rs) rest
      ∙ sym (map-append capped (claimed_one (times_more only_ids) Pick consumer deleted q) (claimed (times_more only_ids) Pick consumer deleted qs))
    where
      filter_first : (f : Pending → Bool) (x : Pending) (xs : List Pending) → filter f (x ∷ xs) ≡ filter f (x ∷ []) ++ filter f xs
      filter_first f x xs = elim (cases_Bool (f x)) [ inl t ↦ rw t refl | inr none ↦ rw none refl ]
