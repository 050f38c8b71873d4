-- What a consumer reads again is its own.
use Rattle.std.proofs.Common.{◌≡◌, ◌≤◌, ◌<◌, ◌+◌, ◌-◌, ◌++◌, ℕ, zero, suc, Bool, true, false, List, [], ◌∷◌, map, filter, take, drop, length, get_or, subst, refl, sym, ap, ◌∙◌, inl, inr, append_assoc, append-nil, arith, rules, Bor}
use Rattle.std.proofs.Common.{Option, Some, None, Result, Ok, Err, IfOk}
use mathlib.Core.Bool.{true≢false}
use Rattle.std.proofs.lemmas.Bool.{cases_Bool}
use Rattle.std.proofs.lemmas.Bool.Decides.{nat_tests}
use Rattle.std.proofs.lemmas.List.{get_or-map, get_or_default, length-map, map-append, map_more, take_more}
use Rattle.std.proofs.lemmas.List.Elements.{filter-append}
use Rattle.std.specs.Global.{Vec}
use Rattle.std.specs.Option.{is_some}
use Rattle.std.specs.Prelude.{◌==◌, IfNone, IfSome}
use Rattle.std.specs.List.{AllByRecursion, Contains, HoldsAt}
use Rattle.std.specs.Ordering.{is_lt}
use Rattle.server_store.specs.Consumers.{HasRoom, IsSeen}
use Rattle.server_store.specs.Laws.{AreInOrder, IsInOrder}
use Rattle.server_store.specs.Order.{IsNowhere, id_order}
use Rattle.server_store.specs.PendingList.{pending_behind}
use Rattle.server_store.specs.declared.entry_id.EntryId.{EntryId}
use Rattle.server_store.specs.declared.group.Consumer.{Consumer}
use Rattle.server_store.specs.declared.group.Group.{Group}
use Rattle.server_store.specs.declared.group.Pending.{Pending}
use Rattle.server_store.specs.declared.stream.Entry.{Entry}
use Rattle.server_store.specs.declared.stream.Stream.{Stream}
use Rattle.server_commands.specs.Acknowledging.{names_of}
use Rattle.server_commands.specs.Claiming.{after_claim, entry_with, ids_of, sent_entry}
use Rattle.server_commands.specs.Model.{AreNumbered}
use Rattle.server_commands.specs.Places.{IsMissing, consumer_names}
use Rattle.server_commands.specs.Places.{AreInOrder as NamesAscend}
use Rattle.server_commands.specs.Rereading.{AreOwn, DeliversAgain, IsReadyAgain, IsSeenAlone, ReadsOwn, own_behind}
use Rattle.server_commands.specs.Rereading.{pending_for, sent_first, sent_own, with_entries}
use Rattle.server_commands.specs.Sent.{Sent, array_of, item_list, no_array, sent}
use Rattle.server_commands.specs.Stalled.{has_entry}
use Rattle.server_commands.specs.declared.answer.Answer.{Answer, the_lemmas}
use Rattle.server_commands.specs.declared.answer.Answer.TheVariants as a
use Rattle.server_commands.specs.declared.commands.read.own.Rereading.{Rereading}
use Rattle.server_commands.proofs.ClaimAnswerLemmas.{none_with, one_with}
use Rattle.server_commands.proofs.ClaimLemmas.{entries_rise}
use Rattle.server_commands.proofs.ClaimPlaceLemmas.{contained}
use Rattle.server_commands.proofs.ModelLemmas.{all_filter}
use Rattle.server_commands.proofs.NameLemmas.{one_place}
use Rattle.server_commands.proofs.ReadLemmas.{sent-Id}
use Rattle.server_commands.proofs.StalledLemmas.{has_at, has_none}

-- -- the reply

nil_sent : sent a.NilArray ≡ no_array
nil_sent = search (rules, the_lemmas)

pub answered_some : {E : Type 0} (r : Result Answer E) (id : EntryId) (es : List Entry) (e : Entry) → e.id ≡ id → Contains es e
    → IfOk r (λ x. sent x ≡ sent_entry e) → IfOk r (λ x. AreInOrder es → sent x ≡ sent_first id (entry_with id es))
answered_some (Ok x) id es e named there is = λ up.
    is ∙ ap (λ (xs : List Entry). sent_first id xs) (sym (one_with id es there.0 e (entries_rise es up) there.1 there.2 named))
answered_some (Err f) id es e named there is = tt

pub answered_none : {E : Type 0} (r : Result Answer E) (id : EntryId) (es : List Entry) → (AreInOrder es → IsNowhere (λ e. e.id) id es)
    → IfOk r (λ x. sent x ≡ array_of (item_list (map sent (a.Id id ∷ a.NilArray ∷ []))))
    → IfOk r (λ x. AreInOrder es → sent x ≡ sent_first id (entry_with id es))
answered_none (Ok x) id es none is = λ up.
    let step : array_of (item_list (map sent (a.Id id ∷ a.NilArray ∷ []))) ≡ sent_first id [] = rw (sent-Id id, nil_sent) refl in
    is ∙ step ∙ ap (λ (xs : List Entry). sent_first id xs) (sym (none_with id es (none up)))
answered_none (Err f) id es none is = tt

-- one more reply
pub own_more : (es : List Entry) (ps : List Pending) (i : ℕ) (p : Pending) (old new : List Answer) (x : Answer) → i < length ps
    → new ≡ old ++ x ∷ [] → sent x ≡ sent_first (get_or ps i p).id (entry_with (get_or ps i p).id es)
    → map sent old ≡ map (sent_own es) (take i ps) → map sent new ≡ map (sent_own es) (take (i + 1) ps)
own_more es ps i p old new x lt grown is so =
    ap (map sent) grown ∙ map-append sent old (x ∷ [])
    ∙ ap (λ (ys : List Sent). ys ++ sent x ∷ []) so
    ∙ ap (λ (y : Sent). map (sent_own es) (take i ps) ++ y ∷ []) is
    ∙ sym (map_more (sent_own es) ps i p lt)

-- ---- of which the entry is there

pub is_absent : (es : List Entry) (id : EntryId) (r : Option (Bor Entry)) → is_some r ≡ false
    → IfNone r (AreInOrder es → IsNowhere (λ e. e.id) id es) → AreInOrder es → has_entry id es ≡ false
is_absent es id None e h up = has_none id es (h up)
is_absent es id (Some x) e h up = absurd (true≢false e)

pub is_present : (es : List Entry) (id : EntryId) (r : Option (Bor Entry)) → is_some r ≡ true
    → IfSome r (λ e. e.now.id ≡ id) → IfSome r (λ e. Contains es e.now) → has_entry id es ≡ true
is_present es id None e named there = absurd (true≢false (sym e))
is_present es id (Some x) e named there = has_at id es there.0 x.now there.1 there.2 named

pub kept_so : (es : List Entry) (p : Pending) (old new : List Pending) → has_entry p.id es ≡ true → new ≡ old ++ p ∷ []
    → new ≡ old ++ with_entries es (p ∷ [])
kept_so es p old new here grown =
    let one : p ∷ [] ≡ with_entries es (p ∷ []) = rw here refl in
    grown ∙ ap (λ (qs : List Pending). old ++ qs) one

pub passed_so : (es : List Entry) (p : Pending) (old : List Pending) → has_entry p.id es ≡ false → old ≡ old ++ with_entries es (p ∷ [])
passed_so es p old none =
    let one : [] ≡ with_entries es (p ∷ []) = rw none refl in
    sym (append-nil old) ∙ ap (λ (qs : List Pending). old ++ qs) one

-- one more is looked at
pub there_next : (es : List Entry) (ps : List Pending) (i : ℕ) (p : Pending) (old new : List Pending) → i < length ps
    → new ≡ old ++ with_entries es (get_or ps i p ∷ []) → old ≡ with_entries es (take i ps) → new ≡ with_entries es (take (i + 1) ps)
there_next es ps i p old new lt grown so =
    grown ∙ ap (λ (qs : List Pending). qs ++ with_entries es (get_or ps i p ∷ [])) so
    ∙ sym (ap (with_entries es) (take_more ps i p lt) ∙ filter-append (λ q. has_entry q.id es) (take i ps) (get_or ps i p ∷ []))

-- ---- what is pending for a consumer

pub nothing_own : (own total : List Pending) → own ≡ [] → own ++ total ≡ total
nothing_own own total none = rw none refl

one_more : (n : ℕ) → (n ≡ 0 → ⊥) → n ≡ suc (n - 1)
one_more zero some = absurd (some refl)
one_more (suc n) some = omega arith

pub own_found : (number left : ℕ) (p : Pending) (ps rest own new total : List Pending) → (left ≡ 0 → ⊥) → rest ≡ p ∷ ps
    → p.consumer ≡ number → new ≡ own ++ p ∷ [] → own ++ take left (pending_for number rest) ≡ total
    → new ++ take (left - 1) (pending_for number ps) ≡ total
own_found number left p ps rest own new total some is mine grown so =
    let yes : (p.consumer == number) ≡ true = grind (arith, nat_tests, mine) in
    let first : pending_for number (p ∷ ps) ≡ p ∷ pending_for number ps = rw yes refl in
    let step : take left (pending_for number rest) ≡ p ∷ take (left - 1) (pending_for number ps) =
    ap (λ (n : ℕ). take n (pending_for number rest)) (one_more left some)
    ∙ ap (λ (qs : List Pending). take (suc (left - 1)) (pending_for number qs)) is
    ∙ ap (λ (qs : List Pending). take (suc (left - 1)) qs) first in
    ap (λ (qs : List Pending). qs ++ take (left - 1) (pending_for number ps)) grown
    ∙ append_assoc own (p ∷ []) (take (left - 1) (pending_for number ps))
    ∙ ap (λ (qs : List Pending). own ++ qs) (sym step) ∙ so

pub own_passed : (number left : ℕ) (p : Pending) (ps rest own total : List Pending) → rest ≡ p ∷ ps → (p.consumer ≡ number → ⊥)
    → own ++ take left (pending_for number rest) ≡ total → own ++ take left (pending_for number ps) ≡ total
own_passed number left p ps rest own total is other so =
    let no : (p.consumer == number) ≡ false =
    elim (cases_Bool (p.consumer == number)) [ inl t ↦ absurd (other (grind (arith, nat_tests, t))) | inr f ↦ f ] in
    let first : pending_for number (p ∷ ps) ≡ pending_for number ps = rw no refl in
    ap (λ (qs : List Pending). own ++ take left qs) (sym first)
    ∙ ap (λ (qs : List Pending). own ++ take left (pending_for number qs)) (sym is) ∙ so

pub own_none : (number left : ℕ) (rest : List Pending) → length rest ≡ 0 → take left (pending_for number rest) ≡ []
own_none number zero [] none = refl
own_none number (suc left) [] none = refl
own_none number left (p ∷ rest) none = absurd (omega (arith, none))

take_zero : (xs : List Pending) → take 0 xs ≡ []
take_zero [] = refl
take_zero (x ∷ xs) = refl

pub own_left : (number left : ℕ) (rest : List Pending) → left ≡ 0 → take left (pending_for number rest) ≡ []
own_left number left rest none = ap (λ (n : ℕ). take n (pending_for number rest)) none ∙ take_zero (pending_for number rest)

-- if nothing is left, all is found
pub own_all : (number : ℕ) (behind : EntryId) (most left start : ℕ) (pending all rest own : List Pending) → all ≡ drop start pending
    → drop start pending ≡ pending_behind behind pending
    → own ++ take left (pending_for number rest) ≡ take most (pending_for number all) → take left (pending_for number rest) ≡ []
    → own ≡ own_behind number behind most pending
own_all number behind most left start pending all rest own are from so none =
    sym (append-nil own) ∙ ap (λ (qs : List Pending). own ++ qs) (sym none) ∙ so
    ∙ ap (λ (qs : List Pending). take most (pending_for number qs)) (are ∙ from)

-- ---- whose it is

pub all_taken : {A : Type 0} (P : A → Type 0) (n : ℕ) (xs : List A) → AllByRecursion P xs → AllByRecursion P (take n xs)
all_taken P zero [] all = tt
all_taken P zero (x ∷ xs) all = tt
all_taken P (suc n) [] all = tt
all_taken P (suc n) (x ∷ xs) all = (all.0, all_taken P n xs all.1)

-- what holds of all that is pending holds of what is its own
pub all_own : (P : Pending → Type 0) (number : ℕ) (behind : EntryId) (most : ℕ) (ps : List Pending) → AllByRecursion P ps
    → AllByRecursion P (own_behind number behind most ps)
all_own P number behind most ps all =
    all_taken P most (pending_for number (pending_behind behind ps))
    (all_filter P (λ p. p.consumer == number) (pending_behind behind ps) (all_filter P (λ p. is_lt (id_order behind p.id)) ps all))

pub own_contained : {E : Type 0} (r : Result (Vec Pending) E) (number : ℕ) (behind : EntryId) (most : ℕ) (group : Group)
    → IfOk r (λ own. IsInOrder group → own.items ≡ own_behind number behind most group.pending.items)
    → IfOk r (λ own. IsInOrder group → AllByRecursion (Contains group.pending.items) own.items)
own_contained (Ok own) number behind most group is = λ up.
    rw (is up) (all_own (Contains group.pending.items) number behind most group.pending.items (contained group.pending.items))
own_contained (Err e) number behind most group is = tt

module _ (name : List ℕ) (behind : EntryId) (most : ℕ) (group : Group) where
  found_so : (index : ℕ) (c : Consumer) (own : List Pending) → index < length group.consumers.items → c ≡ get_or group.consumers.items index c
      → HoldsAt (λ x. x.name.items ≡ name) group.consumers.items index
      → (IsInOrder group → own ≡ own_behind c.number behind most group.pending.items) → AreOwn name behind most group own
  found_so index c own within at named is now number seen (inl again) up names numbered =
      let here : again.index ≡ index = one_place (λ x. x.name.items) group.consumers.items name again.index index c again.there.within within names
      (ap (λ (x : Consumer). x.name.items) (get_or_default group.consumers.items again.index c again.was again.there.within ∙ again.there.stood)
      ∙ again.there.named) (named c) in
      let same : again.was ≡ c = sym again.there.stood ∙ ap (λ (k : ℕ). get_or group.consumers.items k again.was) here
      ∙ get_or_default group.consumers.items index again.was c within ∙ sym at in
      is up ∙ ap (λ (n : ℕ). own_behind n behind most group.pending.items) (sym (again.numbered ∙ ap (λ (x : Consumer). x.number) same))
  found_so index c own within at named is now number seen (inr new) up names numbered =
      absurd (new.1 names index [] (omega (arith, within, length-map group.consumers.items (λ (x : Consumer). x.name.items)))
      (get_or-map (λ (x : Consumer). x.name.items) group.consumers.items index c [] within ∙ named c))

  pub found_own : {E : Type 0} (r : Result (Vec Pending) E) (index : ℕ) (c : Consumer) → index < length group.consumers.items
      → c ≡ get_or group.consumers.items index c → HoldsAt (λ x. x.name.items ≡ name) group.consumers.items index
      → IfOk r (λ own. IsInOrder group → own.items ≡ own_behind c.number behind most group.pending.items)
      → IfOk r (λ own. AreOwn name behind most group own.items)
  found_own (Ok own) index c within at named is = found_so index c own.items within at named is
  found_own (Err e) index c within at named is = tt

  none_for : (ps : List Pending) (n : ℕ) → AllByRecursion (λ p. p.consumer < n) ps → pending_for n ps ≡ []
  none_for [] n below = refl
  none_for (p ∷ ps) n below =
      let no : (p.consumer == n) ≡ false = grind (arith, nat_tests, below.0) in
      rw no (none_for ps n below.1)

  take_none : (n : ℕ) (xs : List Pending) → xs ≡ [] → take n xs ≡ []
  take_none zero xs none = take_zero xs
  take_none (suc n) xs none = rw none refl

  -- a consumer that is not there has nothing
  pub missed : (own : List Pending) → own ≡ [] → (NamesAscend (consumer_names group) → IsMissing name (consumer_names group))
      → AreOwn name behind most group own
  missed own none missing now number seen (inl again) up names numbered =
      absurd (missing names again.index []
      (omega (arith, again.there.within, length-map group.consumers.items (λ (x : Consumer). x.name.items)))
      (get_or-map (λ (x : Consumer). x.name.items) group.consumers.items again.index again.was [] again.there.within
      ∙ ap (λ (x : Consumer). x.name.items) again.there.stood ∙ again.there.named))
  missed own none missing now number seen (inr new) up names numbered =
      none
      ∙ sym (take_none most (pending_for number (pending_behind behind group.pending.items))
      (none_for (pending_behind behind group.pending.items) number
      (subst (λ (n : ℕ). AllByRecursion (λ p. p.consumer < n) (pending_behind behind group.pending.items)) (sym new.0.numbered.0)
      (all_filter (λ p. p.consumer < group.next_number) (λ p. is_lt (id_order behind p.id)) group.pending.items numbered.pending))))

-- ---- it is delivered once more

seen_of : (name : List ℕ) (now number : ℕ) (old new : Group) → IsSeenAlone name now number old new → IsSeen name now number old new
seen_of name now number old new (inl again) = inl again
seen_of name now number old new (inr new_one) = inr new_one.0

pub delivers_so : (name : List ℕ) (now number : ℕ) (ids : List EntryId) (old seen new : Group)
    → IsSeenAlone name now number old seen → seen.pending.items ≡ old.pending.items
    → seen ≡ record old { pending = seen.pending; consumers = seen.consumers; next_number = seen.next_number }
    → new.pending.items ≡ map (after_claim number now false ids) seen.pending.items
    → names_of new.consumers.items ≡ names_of seen.consumers.items
    → new ≡ record seen { pending = new.pending; consumers = new.consumers }
    → DeliversAgain name now ids old new
delivers_so name now number ids old seen new how same others pending names rest = record {
  takes = record {
    number = number;
    seen = seen;
    how = seen_of name now number old seen how;
    pending = pending ∙ ap (map (after_claim number now false ids)) same;
    names = names;
    next = ap (λ (g : Group). g.next_number) rest;
    others = rest ∙ ap (λ (g : Group). record g { pending = new.pending; consumers = new.consumers; next_number = seen.next_number }) others
        ∙ ap (λ (n : ℕ). record old { pending = new.pending; consumers = new.consumers; next_number = n }) (sym (ap (λ (g : Group). g.next_number) rest));
  };
  alone = how;
}

-- what is ready is read again
pub own_ready : (key name : List ℕ) (now most : ℕ) (behind : EntryId) (answer : Answer) (stream : Stream) (old new : Group) (read : Rereading)
    → IsReadyAgain key name most behind stream.entries.items old read → answer ≡ read.answer
    → (HasRoom read.room old → IsInOrder old → AllByRecursion (Contains old.pending.items) read.delivered.items
    → DeliversAgain read.room.name.items now (ids_of read.delivered.items) old new)
    → ReadsOwn key name now most behind answer stream old new
own_ready key name now most behind answer stream old new read ready is give up rises names numbered =
    let there : read.delivered.items ≡ with_entries stream.entries.items ready.own = ready.delivered up in
    let all : AllByRecursion (Contains old.pending.items) read.delivered.items =
    subst (AllByRecursion (Contains old.pending.items)) (sym there)
    (all_filter (Contains old.pending.items) (λ p. has_entry p.id stream.entries.items) ready.own (ready.contained rises)) in
    let gives : DeliversAgain name now (ids_of (with_entries stream.entries.items ready.own)) old new =
    rw (ready.named, there) at (give ready.has_room rises all) in
    record {
      own = ready.own;
      delivered = gives.takes;
      are_own = ready.are_own now gives.takes.number gives.takes.seen gives.alone rises names numbered;
      answered = ap sent is ∙ ready.answered up;
    }
