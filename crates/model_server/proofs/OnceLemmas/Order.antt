-- Where one consumer reads all, its file is the first entries of the log, in order.
use Rattle.std.proofs.Common.{◌≡◌, inl, inr, refl, sym, ap, subst, ◌∙◌, ℕ, ◌+◌, ◌-◌, zero, suc}
use Rattle.std.proofs.Common.{Bool, true, false, not, ◌&&◌, List, [], ◌∷◌, ◌++◌, map, filter, length, take, drop}
use Rattle.std.proofs.Common.{append_assoc, Option, Some, None, if◌then◌else◌}
use Rattle.std.specs.Str.{bytes_eq}
use Rattle.std.proofs.lemmas.Slice.Eq.{bytes_eq-Decides}
use Rattle.std.proofs.lemmas.List.{take-append-drop}
use Rattle.std.specs.Option.{is_none}
use Rattle.model_server.specs.Group.Worker.{Id, Entry, Delivered, Verdict, done, left_pending, stop, Phase, own, claiming}
use Rattle.model_server.specs.Group.Worker.{reading, Answer, acknowledged, own_pending, taken_over, news, entries_in, handled_in}
use Rattle.model_server.specs.Group.Worker.{acks_in, ending, Ending, went_through, stopped, cut_off, phase_at, phase_after, still}
use Rattle.model_server.specs.Group.Worker.{after_own, after_claim, after_news}
use Rattle.model_server.specs.Group.Group.{Name, Pending, Numbers, is_below, fits, id_text, listed, ids_of, given, passed}
use Rattle.model_server.specs.Group.Group.{own as own_ids}
use Rattle.model_server.specs.Group.Group.{newly_pending, whole, as_it_is, reread, claim_answer, pending_ids, pending_after}
use Rattle.model_server.specs.Group.Group.{raised, claimed}
use Rattle.model_server.specs.Group.World.{log_of, item, appended, ack_comes, Append, Delete, Read, Reread, Claim, Claim_ids}
use Rattle.model_server.specs.Group.World.{Comes, Commit, Acknowledge, Ack_comes, Go_back, Crash}
use Rattle.model_server.specs.Group.World as group
use Rattle.model_server.specs.Group.Law.{Among}
use Rattle.model_server.proofs.GroupLemmas.Among.{among_left, among_right, among_split, among_filtered}
use Rattle.model_server.proofs.GroupLemmas.Among.{among_item, listed_among, among_filter, and_left, and_right}
use Rattle.model_server.proofs.GroupLemmas.Steps.{raised_ids, ids_append}
use Rattle.model_server.specs.Once.Feed.{Numbered, Request, ask_last, batch}
use Rattle.model_server.specs.Once.Producer.{add_all, filled, filled_by}
use Rattle.model_server.specs.Once.Consumer.{last_added, Consumer, is_empty, is_idle, after_asking, answer_for, takes, syncs, restarts}
use Rattle.model_server.specs.Once.Consumer.{reconnects}
use Rattle.model_server.specs.Once.World.{Setting, World, first_world, Event, Send, Arrive, Arrive_late, Hear, Break}
use Rattle.model_server.specs.Once.World.{Ask, Take, Sync, Acknowledge_now, Acknowledge_later, Reconnect, Restart, Else, asked}
use Rattle.model_server.specs.Once.World.{acknowledges, happens, run}
use Rattle.model_server.specs.Once.Order.{LeavesNone, FromFirst, KeepsOrder, InOrder, AllInOrder}
use Rattle.model_server.specs.Once.Law.{log, after, AreFirst, Once, FileIsFirstOfLog, IsDrained, WhatGoesInComesOut}
use Rattle.model_server.proofs.OnceLemmas.Ids.{added_then}
use Rattle.model_server.proofs.OnceLemmas.Fill.{append_nil, done_is_all, quiet_if}
use Rattle.model_server.proofs.OnceLemmas.Apart.{once_left, once_apart, among_listed, ids_both, id_among}
use Rattle.model_server.proofs.OnceLemmas.Write.{Writes, Good, writes, at_start, empty_if_none}
use Rattle.model_server.proofs.OnceLemmas.Write.{new_ids, given_fresh, always_good}

-- filters
filter_both : {A : Type 0} (p : A → Bool) (xs ys : List A) → filter p (xs ++ ys) ≡ filter p xs ++ filter p ys
filter_both p [] ys = refl
filter_both p (x ∷ xs) ys =
    let case : (b : Bool) → (if b then x ∷ filter p (xs ++ ys) else filter p (xs ++ ys))
    ≡ (if b then x ∷ filter p xs else filter p xs) ++ filter p ys
    = λ b. elim b as (λ b. (if b then x ∷ filter p (xs ++ ys) else filter p (xs ++ ys))
    ≡ (if b then x ∷ filter p xs else filter p xs) ++ filter p ys)
    [ true ↦ ap (λ l. x ∷ l) (filter_both p xs ys) | false ↦ filter_both p xs ys ] in
    case (p x)

filter_none : {A : Type 0} (p : A → Bool) (xs : List A) → ((x : A) → Among x xs → p x ≡ false) → filter p xs ≡ []
filter_none p [] h = refl
filter_none p (x ∷ xs) h =
    ap (λ b. if b then x ∷ filter p xs else filter p xs) (h x (inl refl)) ∙ filter_none p xs (λ y m. h y (inr m))

filter_all : {A : Type 0} (p : A → Bool) (xs : List A) → ((x : A) → Among x xs → p x ≡ true) → filter p xs ≡ xs
filter_all p [] h = refl
filter_all p (x ∷ xs) h =
    ap (λ b. if b then x ∷ filter p xs else filter p xs) (h x (inl refl))
    ∙ ap (λ l. x ∷ l) (filter_all p xs (λ y m. h y (inr m)))

map_take : {A B : Type 0} (f : A → B) (n : ℕ) (xs : List A) → take n (map f xs) ≡ map f (take n xs)
map_take f zero xs = refl
map_take f (suc n) [] = refl
map_take f (suc n) (x ∷ xs) = ap (λ l. f x ∷ l) (map_take f n xs)

-- what is not listed is not among them
unlisted : (ids : List Id) (id : Id) → (Among id ids → ⊥) → listed ids id ≡ false
unlisted ids id h =
    let case : (b : Bool) → listed ids id ≡ b → listed ids id ≡ false
    = λ b. elim b as (λ b. listed ids id ≡ b → listed ids id ≡ false)
    [ true ↦ λ q. absurd (h (listed_among ids id q)) | false ↦ λ q. q ] in
    case (listed ids id) refl

listed_both : (xs ys : List Id) (id : Id) → listed (xs ++ ys) id ≡ (if listed xs id then true else listed ys id)
listed_both [] ys id = refl
listed_both (x ∷ xs) ys id =
    let case : (b : Bool) → (if b then true else listed (xs ++ ys) id)
    ≡ (if (if b then true else listed xs id) then true else listed ys id)
    = λ b. elim b as (λ b. (if b then true else listed (xs ++ ys) id)
    ≡ (if (if b then true else listed xs id) then true else listed ys id))
    [ true ↦ refl | false ↦ listed_both xs ys id ] in
    case (bytes_eq x id)

-- the ids that are not among these
abbrev pub unacked : List Id → List Id → List Id
unacked acked ids = filter (λ id. not (listed acked id)) ids

unacked_both : (xs bs ids : List Id) → unacked bs (unacked xs ids) ≡ unacked (xs ++ bs) ids
unacked_both xs bs [] = refl
unacked_both xs bs (x ∷ ids) =
    let old : List Id = unacked xs ids in
    let new : List Id = unacked (xs ++ bs) ids in
    let rest : unacked bs old ≡ new = unacked_both xs bs ids in
    let inner : (b : Bool) → (if not b then x ∷ unacked bs old else unacked bs old) ≡ (if not b then x ∷ new else new)
    = λ b. elim b as (λ b. (if not b then x ∷ unacked bs old else unacked bs old) ≡ (if not b then x ∷ new else new))
    [ true ↦ rest | false ↦ ap (λ l. x ∷ l) rest ] in
    let outer : (b : Bool) → unacked bs (if not b then x ∷ old else old)
    ≡ (if not (if b then true else listed bs x) then x ∷ new else new)
    = λ b. elim b as (λ b. unacked bs (if not b then x ∷ old else old)
    ≡ (if not (if b then true else listed bs x) then x ∷ new else new))
    [ true ↦ rest | false ↦ inner (listed bs x) ] in
    outer (listed xs x) ∙ ap (λ b. if not b then x ∷ new else new) (sym (listed_both xs bs x))

pending_unacked : (ids : List Id) (ps : List Pending) → pending_ids (pending_after ids ps) ≡ unacked ids (pending_ids ps)
pending_unacked ids [] = refl
pending_unacked ids (p ∷ ps) =
    let case : (b : Bool) → pending_ids (if not b then p ∷ pending_after ids ps else pending_after ids ps)
    ≡ (if not b then p.id ∷ unacked ids (pending_ids ps) else unacked ids (pending_ids ps))
    = λ b. elim b as (λ b. pending_ids (if not b then p ∷ pending_after ids ps else pending_after ids ps)
    ≡ (if not b then p.id ∷ unacked ids (pending_ids ps) else unacked ids (pending_ids ps)))
    [ true ↦ pending_unacked ids ps | false ↦ ap (λ l. p.id ∷ l) (pending_unacked ids ps) ] in
    case (listed ids p.id)

no_pending : (ps : List Pending) → pending_ids ps ≡ [] → ps ≡ []
no_pending [] h = refl
no_pending (p ∷ ps) h = absurd (let t : p.id ∷ pending_ids ps ≡ [] = h in cc)

not_cut : cut_off ≡ went_through → ⊥
not_cut e = absurd (let t : cut_off ≡ went_through = e in cc)

not_stopped : stopped ≡ went_through → ⊥
not_stopped e = absurd (let t : stopped ≡ went_through = e in cc)

module _ {F : Type 0} where
  -- if nothing is deleted, what is given is what is passed by
  given_all : (n : ℕ) (es : List (Entry F)) → given [] n es ≡ passed [] n es
  given_all n [] = refl
  given_all zero (x ∷ es) = refl
  given_all (suc n) (x ∷ es) = ap (λ l. x ∷ l) (given_all n es)

  -- a handler that leaves none pending does the first of the entries
  pub record Did (es : List (Entry F)) (vs : List Verdict) : Type 0 where
    pub did : List (Entry F)
    pub rest : List (Entry F)
    pub all : es ≡ did ++ rest
    pub handled : handled_in (map whole es) vs ≡ did
    pub acks : acks_in (map whole es) vs ≡ ids_of did
    pub through : (ending (map whole es) vs ≡ went_through) → rest ≡ []

  does : (es : List (Entry F)) (vs : List Verdict) → LeavesNone vs → Did es vs
  does [] vs h = record { did = []; rest = []; all = refl; handled = refl; acks = refl; through = λ q. refl }
  does (e ∷ es) [] h = record {
    did = [];
    rest = e ∷ es;
    all = refl;
    handled = refl;
    acks = refl;
    through = λ q. absurd (not_cut q);
  }
  does (e ∷ es) (done ∷ vs) h =
      let d = does es vs h in
      record {
        did = e ∷ d.did;
        rest = d.rest;
        all = ap (λ l. e ∷ l) d.all;
        handled = ap (λ l. e ∷ l) d.handled;
        acks = ap (λ l. e.0 ∷ l) d.acks;
        through = d.through;
      }
  does (e ∷ es) (left_pending ∷ vs) h = absurd h
  does (e ∷ es) (stop ∷ vs) h = record {
    did = [];
    rest = e ∷ es;
    all = refl;
    handled = refl;
    acks = refl;
    through = λ q. absurd (not_stopped q);
  }

  -- if it does not request its own pending entries, all that it got is in its file
  abbrev pub PhaseIs : Phase → List (Entry F) → Type 0
  PhaseIs (own behind) rest = Unit {0}
  PhaseIs (claiming from) rest = rest ≡ []
  PhaseIs (reading rounds) rest = rest ≡ []

  any_phase : (p : Phase) (rest : List (Entry F)) → rest ≡ [] → PhaseIs p rest
  any_phase (own behind) rest h = tt
  any_phase (claiming from) rest h = h
  any_phase (reading rounds) rest h = h

  -- the reply on the way delivers the next of what it got
  pub record First (rest : List (Entry F)) (ds : List (Delivered F)) : Type 0 where
    pub front : List (Entry F)
    pub back : List (Entry F)
    pub all : rest ≡ front ++ back
    pub is : ds ≡ map whole front
    pub some : front ≡ [] → rest ≡ []

  abbrev pub MayFollow : Phase → List (Entry F) → Option (Answer F) → Type 0
  MayFollow p rest None = PhaseIs p rest
  MayFollow p rest (Some acknowledged) = PhaseIs p rest
  MayFollow p rest (Some (own_pending es)) = First rest es
  MayFollow p rest (Some (taken_over next es)) = (es ≡ []) × (rest ≡ [])
  MayFollow p rest (Some (news es)) = es ≡ map whole rest

  module _ (me : Name) where
    pub record Line (w : group.World F) (r : Consumer F) : Type 0 where
      pub rest : List (Entry F)  -- what it was given and has not handled
      pub all : w.seen ≡ (r.file ++ r.lines) ++ rest
      pub pending : pending_ids w.pending ≡ unacked w.acknowledged_ids (ids_of w.seen)
      pub mine : (p : Pending) → Among p w.pending → bytes_eq p.consumer me ≡ true
      pub acked : (id : Id) → Among id w.acknowledged_ids → Among id (ids_of r.file)
      pub sent : (a : Name × List Id) → Among a w.acks → (id : Id) → Among id a.1 → Among id (ids_of r.file)
      pub to_ack : (id : Id) → Among id r.machine.to_acknowledge → Among id (ids_of r.file)
      pub to_commit : (id : Id) → Among id r.machine.to_commit → Among id (ids_of r.lines)
      pub whole_log : w.deleted ≡ []
      pub follows : MayFollow r.machine.phase rest r.answer

    -- an acknowledgement of what is in the file comes
    abbrev ack_line : (w : group.World F) (r : Consumer F) → Line w r → (a : Name × List Id)
        → ((id : Id) → Among id a.1 → Among id (ids_of r.file)) → Line (ack_comes w (Some a)) r
    ack_line w r l a h = record {
      rest = l.rest;
      all = l.all;
      pending = pending_unacked a.1 w.pending
          ∙ (ap (unacked a.1) l.pending ∙ unacked_both w.acknowledged_ids a.1 (ids_of w.seen));
      mine = λ p m. l.mine p (among_filtered (λ q. not (listed a.1 q.id)) p w.pending m);
      acked = λ id m. elim (among_split id w.acknowledged_ids a.1 m) [ inl b ↦ l.acked id b | inr b ↦ h id b ];
      sent = l.sent;
      to_ack = l.to_ack;
      to_commit = l.to_commit;
      whole_log = l.whole_log;
      follows = l.follows;
    }

    appended_line : (w : group.World F) (r : Consumer F) → Line w r → (n : Numbers) (f : F) (b : Bool)
        → Line (if b then record w { fresh = w.fresh ++ (id_text n, f) ∷ []; last = n } else w) r
    appended_line w r l n f false = l
    appended_line w r l n f true = record {
      rest = l.rest;
      all = l.all;
      pending = l.pending;
      mine = l.mine;
      acked = l.acked;
      sent = l.sent;
      to_ack = l.to_ack;
      to_commit = l.to_commit;
      whole_log = l.whole_log;
      follows = l.follows;
    }

    batch_line : (b : List (Numbered F)) (w : group.World F) (r : Consumer F) → Line w r → Line (add_all w b) r
    batch_line [] w r l = l
    batch_line (x ∷ b) w r l =
        batch_line b (appended w x.0 x.1) r (appended_line w r l x.0 x.1 (is_below w.last x.0 && fits x.0))

    request_line : (executes : Bool) (q : Request F) (w : group.World F) (r : Consumer F) → Line w r
        → Line (filled executes w q) r
    request_line executes ask_last w r l = l
    request_line true (batch b) w r l = batch_line b w r l
    request_line false (batch b) w r l = l

    filled_line : (executes : Bool) (o : Option (Request F)) (w : group.World F) (r : Consumer F) → Line w r
        → Line (filled_by executes w o) r
    filled_line executes None w r l = l
    filled_line executes (Some q) w r l = request_line executes q w r l

    late_line : (w : group.World F) (r : Consumer F) → Line w r → (k : ℕ) (o : Option (Name × List Id)) → item w.acks k ≡ o
        → Line (ack_comes w o) r
    late_line w r l k None q = l
    late_line w r l k (Some a) q = ack_line w r l a (λ id m. l.sent a (among_item w.acks k a q) id m)

    else_line : (w : group.World F) (r : Consumer F) → Line w r → (e : group.Event F) → KeepsOrder e
        → Line (group.happens w e) r
    else_line w r l (Ack_comes k) h = late_line w r l k (item w.acks k) refl
    else_line w r l (Append n f) h = appended_line w r l n f (is_below w.last n && fits n)
    else_line w r l (Delete id) h = absurd h
    else_line w r l (Read c n) h = absurd h
    else_line w r l (Reread c pick) h = absurd h
    else_line w r l (Claim c pick next) h = absurd h
    else_line w r l (Claim_ids c pick) h = absurd h
    else_line w r l (Comes k vs) h = absurd h
    else_line w r l (Commit c) h = absurd h
    else_line w r l (Acknowledge c) h = absurd h
    else_line w r l (Go_back c) h = absurd h
    else_line w r l (Crash c every keeps ids) h = absurd h

    acks_line : (w : World F) → Line w.stream w.consumer → (b : Bool) → is_none w.consumer.answer ≡ b
        → Line (if b then acknowledges me w else w).stream (if b then acknowledges me w else w).consumer
    acks_line w l false q = l
    acks_line w l true q =
        let r : Consumer F = w.consumer in
        let k = ack_line w.stream r l (me, r.machine.to_acknowledge) l.to_ack in
        let P : Option (Answer F) → Type 0 = λ o. MayFollow r.machine.phase l.rest o in
        record {
          rest = k.rest;
          all = k.all;
          pending = k.pending;
          mine = k.mine;
          acked = k.acked;
          sent = k.sent;
          to_ack = k.to_ack;
          to_commit = k.to_commit;
          whole_log = k.whole_log;
          follows = subst P (quiet_if r.answer q) l.follows;
        }

    sent_line : (w : World F) → Line w.stream w.consumer
        → Line (record w.stream { acks = (me, w.consumer.machine.to_acknowledge) ∷ w.stream.acks }) w.consumer
    sent_line w l = record {
      rest = l.rest;
      all = l.all;
      pending = l.pending;
      mine = l.mine;
      acked = l.acked;
      sent = λ a h id m. elim h [
        | inl e ↦ l.to_ack id (let P : Name × List Id → Type 0 = λ x. Among id x.1 in subst P (sym e) m)
        | inr b ↦ l.sent a b id m
      ];
      to_ack = l.to_ack;
      to_commit = l.to_commit;
      whole_log = l.whole_log;
      follows = l.follows;
    }

    in_more : (r : Consumer F) (id : Id) → Among id (ids_of r.file) → Among id (ids_of (r.file ++ r.lines))
    in_more r id h =
        let P : List Id → Type 0 = λ l. Among id l in
        subst P (sym (ids_both r.file r.lines)) (among_left id (ids_of r.file) (ids_of r.lines) h)

    in_lines : (r : Consumer F) (id : Id) → Among id (ids_of r.lines) → Among id (ids_of (r.file ++ r.lines))
    in_lines r id h =
        let P : List Id → Type 0 = λ l. Among id l in
        subst P (sym (ids_both r.file r.lines)) (among_right id (ids_of r.file) (ids_of r.lines) h)

    sync_line : (w : group.World F) (r : Consumer F) → Line w r → (b : Bool)
        → (is_none r.answer && is_empty r.machine.to_acknowledge) ≡ b → Line w (if b then syncs r else r)
    sync_line w r l false q = l
    sync_line w r l true q =
        let P : Option (Answer F) → Type 0 = λ o. MayFollow r.machine.phase l.rest o in
        record {
          rest = l.rest;
          all = l.all ∙ ap (λ x. x ++ l.rest) (sym (append_nil (r.file ++ r.lines)));
          pending = l.pending;
          mine = l.mine;
          acked = λ id h. in_more r id (l.acked id h);
          sent = λ a h id m. in_more r id (l.sent a h id m);
          to_ack = λ id h. elim (among_split id r.machine.to_acknowledge r.machine.to_commit h) [
            | inl b ↦ in_more r id (l.to_ack id b)
            | inr b ↦ in_lines r id (l.to_commit id b)
          ];
          to_commit = λ id h. absurd h;
          whole_log = l.whole_log;
          follows = l.follows;
        }

    dropped_within : (k : ℕ) (es : List (Entry F)) (id : Id) → Among id (ids_of (drop k es)) → Among id (ids_of es)
    dropped_within zero es id h = h
    dropped_within (suc k) [] id h = h
    dropped_within (suc k) (x ∷ es) id h = inr (dropped_within k es id h)

    restart_line : (w : group.World F) (r : Consumer F) (every kept more : ℕ) → Line w r → Line w (restarts every kept more r)
    restart_line w r every kept more l =
        let some : List (Entry F) = take kept r.lines in
        let others : List (Entry F) = drop kept r.lines in
        let lines_are : some ++ others ≡ r.lines = take-append-drop kept r.lines in
        let in_file : (id : Id) → Among id (ids_of r.file) → Among id (ids_of (r.file ++ some))
        = λ id h. (let P : List Id → Type 0 = λ x. Among id x in
        subst P (sym (ids_both r.file some)) (among_left id (ids_of r.file) (ids_of some) h)) in
        record {
          rest = others ++ l.rest;
          all = l.all
              ∙ (ap (λ x. (r.file ++ x) ++ l.rest) (sym lines_are)
              ∙ (ap (λ x. x ++ l.rest) (sym (append_assoc r.file some others))
              ∙ (append_assoc (r.file ++ some) others l.rest
              ∙ ap (λ x. x ++ (others ++ l.rest)) (sym (append_nil (r.file ++ some))))));
          pending = l.pending;
          mine = l.mine;
          acked = λ id h. in_file id (l.acked id h);
          sent = λ a h id m. in_file id (l.sent a h id m);
          to_ack = λ id h. dropped_within
              (length (r.file ++ some) - (last_added r.last_commit some + more)) (r.file ++ some) id h;
          to_commit = λ id h. absurd h;
          whole_log = l.whole_log;
          follows = tt;
        }

    reconnect_line : (w : group.World F) (r : Consumer F) → Line w r → Line w (reconnects r)
    reconnect_line w r l = record {
      rest = l.rest;
      all = l.all;
      pending = l.pending;
      mine = l.mine;
      acked = l.acked;
      sent = l.sent;
      to_ack = l.to_ack;
      to_commit = l.to_commit;
      whole_log = l.whole_log;
      follows = tt;
    }

    -- a reply arrives
    still_within : (ids : List Id) (a : Answer F) (id : Id) → Among id (still ids a) → Among id ids
    still_within ids acknowledged id h = absurd h
    still_within ids (own_pending es) id h = h
    still_within ids (taken_over next es) id h = h
    still_within ids (news es) id h = h

    took : (w : group.World F) (r : Consumer F) (vs : List Verdict) → LeavesNone vs → (l : Line w r) → (a : Answer F)
        → (front back : List (Entry F)) → entries_in a ≡ map whole front → l.rest ≡ front ++ back
        → PhaseIs (phase_after r.machine.every r.machine.phase a) back → Line w (takes vs (Some a) r)
    took w r vs none l a front back is all next =
        let d = does front vs none in
        let handled : handled_in (entries_in a) vs ≡ d.did = ap (λ es. handled_in es vs) is ∙ d.handled in
        let acks : acks_in (entries_in a) vs ≡ ids_of d.did = ap (λ es. acks_in es vs) is ∙ d.acks in
        let ends : ending (entries_in a) vs ≡ ending (map whole front) vs = ap (λ es. ending es vs) is in
        let X : List (Entry F) = r.file ++ r.lines in
        let q : Phase = phase_after r.machine.every r.machine.phase a in
        let phase : (e : Ending) → ending (map whole front) vs ≡ e → PhaseIs (phase_at e q) (d.rest ++ back)
        = λ e. elim e as (λ e. ending (map whole front) vs ≡ e → PhaseIs (phase_at e q) (d.rest ++ back)) [
          | went_through ↦ λ t.
              (let P : List (Entry F) → Type 0 = λ x. PhaseIs q (x ++ back) in subst P (sym (d.through t)) next)
          | stopped ↦ λ t. tt
          | cut_off ↦ λ t. tt
        ] in
        record {
          rest = d.rest ++ back;
          all = l.all
              ∙ (ap (λ x. X ++ x) (all ∙ (ap (λ x. x ++ back) d.all ∙ append_assoc d.did d.rest back))
              ∙ (sym (append_assoc X d.did (d.rest ++ back))
              ∙ (ap (λ x. x ++ (d.rest ++ back)) (append_assoc r.file r.lines d.did)
              ∙ ap (λ x. (r.file ++ (r.lines ++ x)) ++ (d.rest ++ back)) (sym handled))));
          pending = l.pending;
          mine = l.mine;
          acked = l.acked;
          sent = l.sent;
          to_ack = λ id h. l.to_ack id (still_within r.machine.to_acknowledge a id h);
          to_commit = λ id h.
              let P : List Id → Type 0 = λ x. Among id x in
              let Q : List (Entry F) → Type 0 = λ x. Among id (ids_of x) in
              subst P (sym (ids_both r.lines (handled_in (entries_in a) vs)))
              (elim (among_split id r.machine.to_commit (acks_in (entries_in a) vs) h) [
                | inl b ↦ among_left id (ids_of r.lines) _ (l.to_commit id b)
                | inr b ↦ among_right id (ids_of r.lines) _ (subst Q (sym handled) (subst P acks b))
              ]);
          whole_log = l.whole_log;
          follows = (let P : Ending → Type 0 = λ e. PhaseIs (phase_at e q) (d.rest ++ back) in
              subst P (sym ends) (phase (ending (map whole front) vs) refl));
        }

    take_line : (w : group.World F) (r : Consumer F) (vs : List Verdict) → LeavesNone vs → (l : Line w r)
        → (o : Option (Answer F)) → MayFollow r.machine.phase l.rest o → Line w (takes vs o r)
    take_line w r vs none l None f = l
    take_line w r vs none l (Some acknowledged) f = took w r vs none l acknowledged [] l.rest refl refl f
    take_line w r vs none l (Some (own_pending es)) f =
        let case : (front : List (Entry F)) → l.rest ≡ front ++ f.back → (front ≡ [] → l.rest ≡ [])
        → PhaseIs (after_own (map whole front)) f.back
        = λ front. elim front as (λ front. l.rest ≡ front ++ f.back → (front ≡ [] → l.rest ≡ [])
        → PhaseIs (after_own (map whole front)) f.back)
        [ [] ↦ λ a s. sym a ∙ s refl | x ∷ xs ↦ λ a s. tt ] in
        let P : List (Delivered F) → Type 0 = λ x. PhaseIs (after_own x) f.back in
        took w r vs none l (own_pending es) f.front f.back f.is f.all (subst P (sym f.is) (case f.front f.all f.some))
    take_line w r vs none l (Some (taken_over next es)) f =
        took w r vs none l (taken_over next es) [] l.rest f.0 refl (any_phase (after_claim next) l.rest f.1)
    take_line w r vs none l (Some (news es)) f =
        took w r vs none l (news es) l.rest [] f (sym (append_nil l.rest))
        (any_phase (after_news r.machine.every r.machine.phase) [] refl)

    -- it requests if all that it did is acknowledged, so the pending entries are those that it has not handled
    module _ (w : group.World F) (r : Consumer F) (l : Line w r) (once : Once (ids_of (log_of w)))
        (none : r.lines ≡ []) (clear : (id : Id) → Among id (ids_of r.file) → Among id (pending_ids w.pending) → ⊥) where
      seen_is : w.seen ≡ r.file ++ l.rest
      seen_is = l.all ∙ ap (λ x. x ++ l.rest) (ap (λ x. r.file ++ x) none ∙ append_nil r.file)

      ids_is : ids_of w.seen ≡ ids_of r.file ++ ids_of l.rest
      ids_is = ap ids_of seen_is ∙ ids_both r.file l.rest

      seen_once : Once (ids_of w.seen)
      seen_once = once_left (ids_of w.seen) (ids_of w.fresh) (subst Once (ids_both w.seen w.fresh) once)

      -- what is not acknowledged of what is given is pending
      is_pending : (id : Id) → Among id (ids_of w.seen) → listed w.acknowledged_ids id ≡ false
          → Among id (pending_ids w.pending)
      is_pending id h q =
          let P : List Id → Type 0 = λ x. Among id x in
          subst P (sym l.pending) (among_filter (λ i. not (listed w.acknowledged_ids i)) id (ids_of w.seen) h (ap not q))

      file_acked : (id : Id) → Among id (ids_of r.file) → not (listed w.acknowledged_ids id) ≡ false
      file_acked id h =
          let P : List Id → Type 0 = λ x. Among id x in
          let case : (b : Bool) → listed w.acknowledged_ids id ≡ b → not (listed w.acknowledged_ids id) ≡ false
          = λ b. elim b as (λ b. listed w.acknowledged_ids id ≡ b → not (listed w.acknowledged_ids id) ≡ false) [
            | true ↦ λ q. ap not q
            | false ↦ λ q. absurd (clear id h (is_pending id
                (subst P (sym ids_is) (among_left id (ids_of r.file) (ids_of l.rest) h)) q))
          ] in
          case (listed w.acknowledged_ids id) refl

      rest_unacked : (id : Id) → Among id (ids_of l.rest) → not (listed w.acknowledged_ids id) ≡ true
      rest_unacked id h =
          ap not (unlisted w.acknowledged_ids id (λ m. once_apart (ids_of r.file) (ids_of l.rest) id
          (subst Once ids_is seen_once) (l.acked id m) h))

      pending_is : pending_ids w.pending ≡ ids_of l.rest
      pending_is =
          l.pending
          ∙ (ap (unacked w.acknowledged_ids) ids_is
          ∙ (filter_both (λ i. not (listed w.acknowledged_ids i)) (ids_of r.file) (ids_of l.rest)
          ∙ (ap (λ x. x ++ unacked w.acknowledged_ids (ids_of l.rest))
          (filter_none (λ i. not (listed w.acknowledged_ids i)) (ids_of r.file) file_acked)
          ∙ filter_all (λ i. not (listed w.acknowledged_ids i)) (ids_of l.rest) rest_unacked)))

      own_is : own_ids me w.pending ≡ ids_of l.rest
      own_is = ap pending_ids (filter_all (λ (p : Pending). bytes_eq p.consumer me) w.pending l.mine) ∙ pending_is

      all_own : reread (λ id. true) me w.pending w.deleted w.seen ≡ map whole l.rest
      all_own =
          let p : Entry F → Bool = λ e. listed (own_ids me w.pending) e.0 in
          let picked : filter p w.seen ≡ l.rest =
          ap (filter p) seen_is
          ∙ (filter_both p r.file l.rest
          ∙ (ap (λ x. x ++ filter p l.rest)
          (filter_none p r.file (λ e h. unlisted (own_ids me w.pending) e.0
          (λ m. clear e.0 (id_among e r.file h)
          (let P : List Id → Type 0 = λ x. Among e.0 x in subst P (own_is ∙ sym pending_is) m))))
          ∙ filter_all p l.rest (λ e h. among_listed (own_ids me w.pending) e.0
          (let P : List Id → Type 0 = λ x. Among e.0 x in subst P (sym own_is) (id_among e l.rest h))))) in
          ap (λ d. map (as_it_is d) (filter p w.seen)) l.whole_log ∙ ap (map whole) picked

      raised_mine : (pick : Id → Bool) (d : List Id) (ps : List Pending)
          → ((p : Pending) → Among p ps → bytes_eq p.consumer me ≡ true)
          → (p : Pending) → Among p (raised pick me d ps) → bytes_eq p.consumer me ≡ true
      raised_mine pick d [] h p m = absurd m
      raised_mine pick d (x ∷ ps) h p (inr m) = raised_mine pick d ps (λ q k. h q (inr k)) p m
      raised_mine pick d (x ∷ ps) h p (inl e) =
          let case : (b : Bool) → (if b then record x { count = x.count + 1 } else x).consumer ≡ x.consumer
          = λ b. elim b as (λ b. (if b then record x { count = x.count + 1 } else x).consumer ≡ x.consumer)
          [ true ↦ refl | false ↦ refl ] in
          ap (λ c. bytes_eq c me) (sym (ap (λ (q : Pending). q.consumer) e)
          ∙ case (pick x.id && (bytes_eq x.consumer me && not (listed d x.id)))) ∙ h x (inl refl)

      own_line : (n : ℕ) (pick : Id → Bool) (next behind : Id) → FromFirst me n pick (own behind) w
          → Line (after_asking me n pick next (own behind) w)
          (record r { answer = Some (answer_for me n pick next (own behind) w) })
      own_line n pick next behind h =
          let some : (x : List (Entry F)) → take (suc n) x ≡ [] → x ≡ []
          = λ x. elim x as (λ x. take (suc n) x ≡ [] → x ≡ [])
          [ [] ↦ λ e. refl | y ∷ ys ↦ λ e. absurd (let t : y ∷ take n ys ≡ [] = e in cc) ] in
          record {
            rest = l.rest;
            all = l.all;
            pending = raised_ids pick me w.deleted w.pending ∙ l.pending;
            mine = raised_mine pick w.deleted w.pending l.mine;
            acked = l.acked;
            sent = l.sent;
            to_ack = l.to_ack;
            to_commit = l.to_commit;
            whole_log = l.whole_log;
            follows = record {
              front = take (suc n) l.rest;
              back = drop (suc n) l.rest;
              all = sym (take-append-drop (suc n) l.rest);
              is = h ∙ (ap (take (suc n)) all_own ∙ map_take whole (suc n) l.rest);
              some = some l.rest;
            };
          }

      claim_line : (n : ℕ) (pick : Id → Bool) (next from : Id) → l.rest ≡ []
          → Line (after_asking me n pick next (claiming from) w)
          (record r { answer = Some (answer_for me n pick next (claiming from) w) })
      claim_line n pick next from h =
          let ids_none : pending_ids w.pending ≡ [] = pending_is ∙ ap ids_of h in
          let nil : w.pending ≡ [] = no_pending w.pending ids_none in
          let no : (b : Bool) → (b && false) ≡ false = λ b. elim b as (λ b. (b && false) ≡ false)
          [ true ↦ refl | false ↦ refl ] in
          let empty : claim_answer pick w.pending w.deleted w.seen ≡ [] =
          ap (λ ps. claim_answer pick ps w.deleted w.seen) nil
          ∙ ap (map whole) (filter_none (λ e. pick e.0 && (false && not (listed w.deleted e.0))) w.seen
          (λ e m. no (pick e.0))) in
          let P : List Pending → Type 0 = λ ps. (p : Pending) → Among p (claimed 1 pick me w.deleted ps)
          → bytes_eq p.consumer me ≡ true in
          record {
            rest = l.rest;
            all = l.all;
            pending = ap (λ ps. pending_ids (claimed 1 pick me w.deleted ps)) nil ∙ (sym ids_none ∙ l.pending);
            mine = subst P (sym nil) (λ p m. absurd m);
            acked = l.acked;
            sent = l.sent;
            to_ack = l.to_ack;
            to_commit = l.to_commit;
            whole_log = l.whole_log;
            follows = (empty, h);
          }

      newly_mine : (es : List (Entry F)) (p : Pending) → Among p (newly_pending me es) → bytes_eq p.consumer me ≡ true
      newly_mine [] p m = absurd m
      newly_mine (x ∷ es) p (inr m) = newly_mine es p m
      newly_mine (x ∷ es) p (inl e) =
          ap (λ c. bytes_eq c me) (sym (ap (λ (q : Pending). q.consumer) e)) ∙ (bytes_eq-Decides me me).1 refl

      news_line : (n : ℕ) (pick : Id → Bool) (next : Id) (rounds : ℕ) → l.rest ≡ []
          → Line (after_asking me n pick next (reading rounds) w)
          (record r { answer = Some (answer_for me n pick next (reading rounds) w) })
      news_line n pick next rounds h =
          let es : List (Entry F) = given w.deleted n w.fresh in
          let more : List (Entry F) = passed w.deleted n w.fresh in
          let same : es ≡ more = ap (λ d. given d n w.fresh) l.whole_log
          ∙ (given_all n w.fresh ∙ ap (λ d. passed d n w.fresh) (sym l.whole_log)) in
          let p : Id → Bool = λ i. not (listed w.acknowledged_ids i) in
          let in_seen : (id : Id) → Among id (ids_of r.file) → Among id (ids_of w.seen)
          = λ id m. (let P : List Id → Type 0 = λ x. Among id x in
          subst P (sym ids_is) (among_left id (ids_of r.file) (ids_of l.rest) m)) in
          let new : (id : Id) → Among id (ids_of es) → p id ≡ true
          = λ id m. ap not (unlisted w.acknowledged_ids id (λ k.
          once_apart (ids_of w.seen) (ids_of w.fresh) id (subst Once (ids_both w.seen w.fresh) once)
          (in_seen id (l.acked id k)) (given_fresh w n id m))) in
          record {
            rest = more;
            all = ap (λ x. x ++ more) (l.all ∙ (ap (λ x. (r.file ++ r.lines) ++ x) h ∙ append_nil (r.file ++ r.lines)));
            pending =
                ids_append w.pending (newly_pending me es)
                ∙ (ap (λ x. x ++ pending_ids (newly_pending me es)) l.pending
                ∙ (ap (λ x. unacked w.acknowledged_ids (ids_of w.seen) ++ x)
                (new_ids me es ∙ sym (filter_all p (ids_of es) new))
                ∙ (sym (filter_both p (ids_of w.seen) (ids_of es))
                ∙ ap (unacked w.acknowledged_ids)
                (sym (ids_both w.seen es) ∙ ap (λ x. ids_of (w.seen ++ x)) same))));
            mine = λ q m. elim (among_split q w.pending (newly_pending me es) m) [
              | inl b ↦ l.mine q b
              | inr b ↦ newly_mine es q b
            ];
            acked = l.acked;
            sent = l.sent;
            to_ack = l.to_ack;
            to_commit = l.to_commit;
            whole_log = l.whole_log;
            follows = ap (map whole) same;
          }

      served_line : (n : ℕ) (pick : Id → Bool) (next : Id) (p : Phase) → PhaseIs p l.rest → FromFirst me n pick p w
          → Line (after_asking me n pick next p w) (record r { answer = Some (answer_for me n pick next p w) })
      served_line n pick next (own behind) f h = own_line n pick next behind h
      served_line n pick next (claiming from) f h = claim_line n pick next from f
      served_line n pick next (reading rounds) f h = news_line n pick next rounds f

    no_lines : (es : List (Entry F)) → ((id : Id) → Among id (ids_of es) → ⊥) → es ≡ []
    no_lines [] h = refl
    no_lines (x ∷ es) h = absurd (h x.0 (inl refl))

    ask_line : (n : ℕ) (pick : Id → Bool) (next : Id) (w : World F) → Once (ids_of (log w)) → Writes w.stream w.consumer
        → Line w.stream w.consumer → FromFirst me n pick w.consumer.machine.phase w.stream
        → (b : Bool) → is_idle w.consumer ≡ b
        → Line (if b then asked me n pick next w else w).stream (if b then asked me n pick next w else w).consumer
    ask_line n pick next w o i l h false q = l
    ask_line n pick next w o i l h true q =
        let r : Consumer F = w.consumer in
        let idle : (is_empty r.machine.to_commit && is_empty r.machine.to_acknowledge) ≡ true =
        and_right (is_none r.answer) _ q in
        let no_commit : r.machine.to_commit ≡ [] =
        empty_if_none r.machine.to_commit (and_left (is_empty r.machine.to_commit) _ idle) in
        let no_ack : r.machine.to_acknowledge ≡ [] =
        empty_if_none r.machine.to_acknowledge (and_right (is_empty r.machine.to_commit) _ idle) in
        let quiet : r.answer ≡ None = quiet_if r.answer (and_left (is_none r.answer) _ q) in
        let none : r.lines ≡ [] = no_lines r.lines (λ id m.
        let P : List Id → Type 0 = λ x. Among id x in subst P no_commit (i.done id m)) in
        let clear : (id : Id) → Among id (ids_of r.file) → Among id (pending_ids w.stream.pending) → ⊥
        = λ id m k. (let P : List Id → Type 0 = λ x. Among id x in subst P no_ack (i.held id m k)) in
        let P : Option (Answer F) → Type 0 = λ a. MayFollow r.machine.phase l.rest a in
        served_line w.stream r l o none clear n pick next r.machine.phase (subst P quiet l.follows) h

module _ {F : Type 0} (s : Setting F) where
  lined : (w : World F) → Good s w → Line s.name w.stream w.consumer → (e : Event F) → InOrder s w e
      → Line s.name (happens s w e).stream (happens s w e).consumer
  lined w g l (Send n) h = l
  lined w g l (Arrive b) h = filled_line s.name b w.producer.sent w.stream w.consumer l
  lined w g l (Arrive_late k b) h = filled_line s.name b (item w.producer.late k) w.stream w.consumer l
  lined w g l Hear h = l
  lined w g l Break h = l
  lined w g l (Ask n pick next) h =
      ask_line s.name n pick next w g.0.once g.1 l h (is_idle w.consumer) refl
  lined w g l (Take vs) h = take_line s.name w.stream w.consumer vs h l w.consumer.answer l.follows
  lined w g l Sync h =
      sync_line s.name w.stream w.consumer l (is_none w.consumer.answer && is_empty w.consumer.machine.to_acknowledge) refl
  lined w g l Acknowledge_now h = acks_line s.name w l (is_none w.consumer.answer) refl
  lined w g l Acknowledge_later h = sent_line s.name w l
  lined w g l Reconnect h = reconnect_line s.name w.stream w.consumer l
  lined w g l (Restart every kept more) h = restart_line s.name w.stream w.consumer every kept more l
  lined w g l (Else e) h = else_line s.name w.stream w.consumer l e h

  line_over : (es : List (Event F)) (w : World F) → Good s w → Line s.name w.stream w.consumer
      → AllInOrder s w es → Line s.name (run s es w).stream (run s es w).consumer
  line_over [] w g l h = l
  line_over (e ∷ es) w g l h =
      line_over es (happens s w e) (added_then s w e g.0, writes s w g e) (lined w g l e h.0) h.1

  at_first_line : Line {F = F} s.name first_world.stream first_world.consumer
  at_first_line = record {
    rest = [];
    all = refl;
    pending = refl;
    mine = λ p m. absurd m;
    acked = λ id m. absurd m;
    sent = λ a m id k. absurd m;
    to_ack = λ id m. absurd m;
    to_commit = λ id m. absurd m;
    whole_log = refl;
    follows = tt;
  }

  pub always_line : (es : List (Event F)) → AllInOrder s first_world es
      → Line s.name (after s es).stream (after s es).consumer
  always_line es h = line_over es first_world (at_start s) at_first_line h

  -- the log is the file and the rest
  pub log_split : (es : List (Event F)) (h : AllInOrder s first_world es)
      → log (after s es) ≡ (after s es).consumer.file ++ ((after s es).consumer.lines
      ++ ((always_line es h).rest ++ (after s es).stream.fresh))
  log_split es h =
      let w : World F = after s es in
      let r : Consumer F = w.consumer in
      let l = always_line es h in
      ap (λ x. x ++ w.stream.fresh) (l.all ∙ append_assoc r.file r.lines l.rest)
      ∙ (append_assoc r.file (r.lines ++ l.rest) w.stream.fresh
      ∙ ap (λ x. r.file ++ x) (append_assoc r.lines l.rest w.stream.fresh))

  pub first_of_log : (es : List (Event F)) → AllInOrder s first_world es
      → AreFirst (after s es).consumer.file (log (after s es))
  first_of_log es h = (
    (after s es).consumer.lines ++ ((always_line es h).rest ++ (after s es).stream.fresh),
    sym (log_split es h),
  )

  -- if nothing is pending all that was given is in the file
  pub all_of_log : (es : List (Event F)) → AllInOrder s first_world es → IsDrained (after s es)
      → (after s es).consumer.file ≡ log (after s es)
  all_of_log es h d =
      let w : World F = after s es in
      let r : Consumer F = w.consumer in
      let l = always_line es h in
      let left : List (Entry F) = r.lines ++ l.rest in
      let seen_is : w.stream.seen ≡ r.file ++ left = l.all ∙ append_assoc r.file r.lines l.rest in
      let ids_is : ids_of w.stream.seen ≡ ids_of r.file ++ ids_of left = ap ids_of seen_is ∙ ids_both r.file left in
      let once : Once (ids_of r.file ++ ids_of left) =
      subst Once ids_is (once_left (ids_of w.stream.seen) (ids_of w.stream.fresh)
      (subst Once (ids_both w.stream.seen w.stream.fresh) (always_good s es).0.once)) in
      let acked : List Id = w.stream.acknowledged_ids in
      let none : (id : Id) → Among id (ids_of left) → ⊥
      = λ id m.
      (let seen : Among id (ids_of w.stream.seen) = let P : List Id → Type 0 = λ x. Among id x in
      subst P (sym ids_is) (among_right id (ids_of r.file) (ids_of left) m) in
      let no : listed acked id ≡ false =
      unlisted acked id (λ k. once_apart (ids_of r.file) (ids_of left) id once (l.acked id k) m) in
      let pending : Among id (unacked acked (ids_of w.stream.seen)) =
      among_filter (λ i. not (listed acked i)) id (ids_of w.stream.seen) seen (ap not no) in
      let P : List Id → Type 0 = λ x. Among id x in
      subst P (sym l.pending ∙ ap pending_ids d.0) pending) in
      let nothing : left ≡ [] = no_lines s.name left none in
      sym (ap (λ x. x ++ w.stream.fresh) seen_is
      ∙ (ap (λ x. (r.file ++ left) ++ x) d.1
      ∙ (append_nil (r.file ++ left) ∙ (ap (λ x. r.file ++ x) nothing ∙ append_nil r.file))))

pub file_is_first_of_log : {F : Type 0} → FileIsFirstOfLog F
file_is_first_of_log s es h = first_of_log s es h

pub what_goes_in_comes_out : {F : Type 0} → WhatGoesInComesOut F
what_goes_in_comes_out s fit es none h all_in drained = all_of_log s es h drained ∙ done_is_all s fit es none all_in
