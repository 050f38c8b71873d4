-- What was pending for a worker that starts over is redelivered to it, and acknowledged.
use Rattle.std.proofs.Common.{◌≡◌, ◌⊎◌, inl, inr, refl, sym, ap, subst, ◌∙◌, ℕ, zero, suc, ◌+◌, ◌-◌, ◌*◌, ◌≤◌, arith}
use Rattle.std.proofs.Common.{Bool, true, false, ◌&&◌, List, [], ◌∷◌, ◌++◌, map, filter, append_assoc, codes, Some}
use Rattle.std.proofs.Common.{None, if◌then◌else◌}
use Rattle.std.specs.Str.{bytes_eq}
use Rattle.model_server.specs.Group.Worker.{Id, Entry, Delivered, Machine, Phase, claiming, reading, ending, phase_at, acks_in}
use Rattle.model_server.specs.Group.Worker.{Ending, handled_in, handled_one, follows, done, after_own, last_id}
use Rattle.model_server.specs.Group.Worker as worker
use Rattle.model_server.specs.Group.Group.{Name, Pending, listed, ids_of, own, raised, reread, as_it_is, pending_after}
use Rattle.model_server.specs.Group.Group.{id_text}
use Rattle.model_server.specs.Group.World.{World, Event, run, empty_world, log_of}
use Rattle.model_server.specs.Group.Law.{Among}
use Rattle.model_server.proofs.GroupLemmas.Among.{listed_among, among_of_map, among_left, among_right, among_filter, among_map}
use Rattle.model_server.proofs.GroupLemmas.Unique.{placed}
use Rattle.model_server.specs.Rounds.Page.{behind_id, beyond, how_many, own_page}
use Rattle.model_server.specs.Rounds.Rounds.{all_done, events_of_round, round, rounds}
use Rattle.model_server.specs.Rounds.Bound.{pages, held_for}
use Rattle.model_server.specs.Rounds.Law.{LostIsHandedOutAgain}
use Rattle.model_server.proofs.RoundsLemmas.Lists as lists
use Rattle.model_server.proofs.RoundsLemmas.Lists.{AreDistinct, clash, not_true, among_listed}
use Rattle.model_server.proofs.RoundsLemmas.Measure.{pages_less, one_page}
use Rattle.model_server.proofs.RoundsLemmas.Still.{still_mine, acked_mine, held_less, mine_not}
use Rattle.model_server.proofs.RoundsLemmas.View.{View, view, step, round_seen}
use Rattle.model_server.proofs.RoundsLemmas.Good.{IsGood, always_good}
use Rattle.model_server.proofs.RoundsLemmas.Parts as parts
use Rattle.model_server.proofs.RoundsLemmas.Parts.{ids_in}
use Rattle.model_server.proofs.RoundsLemmas.Left.{NoEnd}
use Rattle.model_server.proofs.RoundsLemmas.OwnStep.{and_both, are_the_page, page_falls}
use Rattle.model_server.proofs.RoundsLemmas.Drained.{no_end_seen, round_reached}

-- an id is no `0`
not_zero : (xs ys : List ℕ) → xs ++ 45 ∷ ys ≡ 48 ∷ [] → ⊥
not_zero [] ys h =
    let t : 45 ∷ ys ≡ 48 ∷ [] = h in
    let first : List ℕ → ℕ = λ l. elim l [ [] ↦ 0 | x ∷ xs ↦ x ] in
    let s : first (45 ∷ ys) ≡ 48 = ap first t in absurd (omega (arith, s))
not_zero (x ∷ []) ys h = absurd (let t : x ∷ 45 ∷ ys ≡ 48 ∷ [] = h in cc)
not_zero (x ∷ z ∷ xs) ys h = absurd (let t : x ∷ z ∷ (xs ++ 45 ∷ ys) ≡ 48 ∷ [] = h in cc)

module _ {F : Type 0} where
  no_zero : (es : List (Event F)) → listed (ids_of (log_of (run es empty_world))) (codes "0") ≡ false
  no_zero es =
      let log : List (Entry F) = log_of (run es empty_world) in
      let o = placed es in
      not_true (listed (ids_of log) (codes "0")) (λ h.
      let P : List Id → Type 0 = λ l. Among (codes "0") l in
      let s = among_of_map id_text (codes "0") o.ns (subst P o.texts (listed_among (ids_of log) (codes "0") h)) in
      not_zero _ _ s.is)

  behind_nowhere : (id : Id) (es : List (Entry F)) → listed (ids_of es) id ≡ false → behind_id id es ≡ es
  behind_nowhere id [] h = refl
  behind_nowhere id (e ∷ es) h =
      let case : (a b : Bool) → (if b then true else a) ≡ false
      → (if a then behind_id id es else (if b then es else e ∷ es)) ≡ e ∷ es
      = λ a b. elim b as (λ w. (if w then true else a) ≡ false
      → (if a then behind_id id es else (if w then es else e ∷ es)) ≡ e ∷ es) [
        | true ↦ λ q. absurd (clash true refl q)
        | false ↦ elim a as (λ v. v ≡ false → (if v then behind_id id es else e ∷ es) ≡ e ∷ es)
            [ true ↦ λ q. absurd (clash true refl q) | false ↦ λ q. refl ]
      ] in
      case (listed (ids_of es) id) (bytes_eq e.0 id) h

  listed_left : (es fs : List (Entry F)) (x : Id) → listed (ids_of es) x ≡ true → listed (ids_of (es ++ fs)) x ≡ true
  listed_left es fs x h =
      let s = among_of_map (λ (e : Entry F). e.0) x es (listed_among (ids_of es) x h) in
      let P : Id → Type 0 = λ i. Among i (ids_of (es ++ fs)) in
      among_listed x (ids_of (es ++ fs)) (subst P s.is (among_map (λ (e : Entry F). e.0) s.x (es ++ fs)
      (among_left s.x es fs s.within)))

  -- a delivered entry that was not deleted is handled
  handled_of : (deleted : List Id) (e : Entry F) (es : List (Entry F)) → Among e es → listed deleted e.0 ≡ false
      → Among e (handled_in (map (as_it_is deleted) es) (all_done (map (as_it_is deleted) es)))
  handled_of deleted e [] h k = absurd h
  handled_of deleted e (x ∷ es) h k =
      let ds : List (Delivered F) = map (as_it_is deleted) es in
      let case : (b : Bool) → listed deleted x.0 ≡ b
      → Among e (handled_one x.0 (if b then None else Some x.1) done
      ++ (if follows (if b then None else Some x.1) done then handled_in ds (all_done ds) else []))
      = λ b. elim b as (λ v. listed deleted x.0 ≡ v
      → Among e (handled_one x.0 (if v then None else Some x.1) done
      ++ (if follows (if v then None else Some x.1) done then handled_in ds (all_done ds) else []))) [
        | true ↦ λ q. elim h [
          | inl i ↦ absurd (clash (listed deleted e.0) (ap (λ (z : Entry F). listed deleted z.0) (sym i) ∙ q) k)
          | inr i ↦ handled_of deleted e es i k
        ]
        | false ↦ λ q. elim h [ inl i ↦ inl i | inr i ↦ inr (handled_of deleted e es i k) ]
      ] in
      case (listed deleted x.0) refl

module _ {F : Type 0} (n : ℕ) (name : Name) (some : 1 ≤ n) (e : Entry F) (old : List (Entry F)) where
  -- only more was handled
  abbrev Grew : List (Entry F) → Type 0
  Grew handled = (since : List (Entry F)) × (handled ≡ old ++ since)

  abbrev WasHandled : List Id → List (Entry F) → Type 0
  WasHandled deleted handled =
      ((since : List (Entry F)) × (handled ≡ old ++ since) × Among e since) ⊎ (listed deleted e.0 ≡ true)

  -- it is still to be redelivered, and this number of rounds is left for that
  abbrev Waits : Phase → List Id → List Id → List Pending → (seen handled : List (Entry F)) → ℕ → Type 0
  Waits (worker.own id) a c ps seen handled k =
      Among e (behind_id id seen) × (listed (own name ps) e.0 ≡ true) × (listed (a ++ c) e.0 ≡ false) × Grew handled
      × (held_for a c + 2 * pages n (how_many (still_mine (a ++ c) name ps) (behind_id id seen)) ≤ k)
  Waits (claiming id) a c ps seen handled k = ⊥
  Waits (reading rounds) a c ps seen handled k = ⊥

  -- or it was handled, and is to be acknowledged, or is acknowledged
  abbrev Fate : Phase → List Id → List Id → List Pending → (seen : List (Entry F)) → (deleted : List Id)
      → (handled : List (Entry F)) → (acknowledged_ids : List Id) → ℕ → Type 0
  Fate phase a c ps seen deleted handled acks k =
      Waits phase a c ps seen handled k
      ⊎ (WasHandled deleted handled × (listed (a ++ c) e.0 ≡ true) × (held_for a c ≤ k)
      ⊎ WasHandled deleted handled × Among e.0 acks)

  abbrev fate : View F → ℕ → Type 0
  fate v k = Fate v.machine.phase v.machine.to_acknowledge v.machine.to_commit v.pending v.seen v.deleted v.handled
      v.acknowledged_ids k

  abbrev grows : (handled more : List (Entry F)) → Grew handled → Grew (handled ++ more)
  grows handled more g =
      (g.0 ++ more, ap (λ (l : List (Entry F)). l ++ more) g.1 ∙ append_assoc old g.0 more)

  stays : (deleted : List Id) (handled more : List (Entry F)) → WasHandled deleted handled
      → WasHandled deleted (handled ++ more)
  stays deleted handled more (inl g) =
      inl (
        g.0 ++ more,
        ap (λ (l : List (Entry F)). l ++ more) g.1 ∙ append_assoc old g.0 more,
        among_left e g.0 more g.2,
      )
  stays deleted handled more (inr d) = inr d

  -- what is acknowledged is pending for it no more, and all else is
  fewer_behind : (named kept : List Id) (ps : List Pending) (es : List (Entry F))
      → how_many (still_mine kept name (pending_after named ps)) es ≤ how_many (still_mine (named ++ kept) name ps) es
  fewer_behind named kept ps es =
      lists.count_less (still_mine kept name (pending_after named ps)) (still_mine (named ++ kept) name ps) es
      (λ x h. sym (acked_mine name named kept ps x) ∙ h)

  still_there : (named kept : List Id) (ps : List Pending) → listed (own name ps) e.0 ≡ true
      → listed (named ++ kept) e.0 ≡ false
      → (listed (own name (pending_after named ps)) e.0 ≡ true) × (listed kept e.0 ≡ false)
  still_there named kept ps h k =
      let both : (if listed named e.0 then true else listed kept e.0) ≡ false =
      sym (parts.listed_both named kept e.0) ∙ k in
      let case : (b : Bool) → listed named e.0 ≡ b → (if b then true else listed kept e.0) ≡ false
      → (listed (own name (pending_after named ps)) e.0 ≡ true) × (listed kept e.0 ≡ false)
      = λ b. elim b as (λ v. listed named e.0 ≡ v → (if v then true else listed kept e.0) ≡ false
      → (listed (own name (pending_after named ps)) e.0 ≡ true) × (listed kept e.0 ≡ false)) [
        | true ↦ λ q z. absurd (clash true refl z)
        | false ↦ λ q z. (
          parts.mine_after name named ps e.0 ∙ (ap (λ v. if v then false else listed (own name ps) e.0) q ∙ h),
          z,
        )
      ] in
      case (listed named e.0) refl both

  -- an acknowledgement of what is committed
  committed_step : (phase : Phase) (i : Id) (ids : List Id) (ps : List Pending) (seen : List (Entry F))
      (deleted : List Id) (handled : List (Entry F)) (acks : List Id) (k : ℕ)
      → Fate phase [] (i ∷ ids) ps seen deleted handled acks (suc k)
      → Fate phase [] [] (pending_after (i ∷ ids) ps) seen deleted (handled ++ []) (acks ++ i ∷ ids) k
  committed_step (worker.own id) i ids ps seen deleted handled acks k (inl w) =
      let same : (i ∷ ids) ++ [] ≡ i ∷ ids = parts.none_more (i ∷ ids) in
      let there = still_there (i ∷ ids) [] ps w.1 (ap (λ (l : List Id). listed l e.0) same ∙ w.2) in
      let count : how_many (still_mine [] name (pending_after (i ∷ ids) ps)) (behind_id id seen)
      ≤ how_many (still_mine (i ∷ ids) name ps) (behind_id id seen) =
      subst (λ (l : List Id). how_many (still_mine [] name (pending_after (i ∷ ids) ps)) (behind_id id seen)
      ≤ how_many (still_mine l name ps) (behind_id id seen)) same (fewer_behind (i ∷ ids) [] ps (behind_id id seen)) in
      inl (
        w.0,
        there.0,
        refl,
        grows handled [] w.3,
        omega (
          arith,
          w.4,
          pages_less n (how_many (still_mine [] name (pending_after (i ∷ ids) ps)) (behind_id id seen))
              (how_many (still_mine (i ∷ ids) name ps) (behind_id id seen)) some count,
        ),
      )
  committed_step (claiming id) i ids ps seen deleted handled acks k (inl w) = absurd w
  committed_step (reading r) i ids ps seen deleted handled acks k (inl w) = absurd w
  committed_step phase i ids ps seen deleted handled acks k (inr (inl h)) =
      inr (inr (stays deleted handled [] h.0, among_right e.0 acks (i ∷ ids) (listed_among (i ∷ ids) e.0 h.1)))
  committed_step phase i ids ps seen deleted handled acks k (inr (inr h)) =
      inr (inr (stays deleted handled [] h.0, among_left e.0 acks (i ∷ ids) h.1))

  acked_step : (phase : Phase) (i : Id) (ids c : List Id) (ps : List Pending) (seen : List (Entry F))
      (deleted : List Id) (handled : List (Entry F)) (acks : List Id) (k : ℕ)
      → Fate phase (i ∷ ids) c ps seen deleted handled acks (suc k)
      → Fate phase [] (c ++ []) (pending_after (i ∷ ids) ps) seen deleted (handled ++ []) (acks ++ i ∷ ids) k
  acked_step (worker.own id) i ids c ps seen deleted handled acks k (inl w) =
      let same : c ++ [] ≡ c = parts.none_more c in
      let there = still_there (i ∷ ids) c ps w.1 w.2 in
      let here : List (Entry F) = behind_id id seen in
      let count : how_many (still_mine (c ++ []) name (pending_after (i ∷ ids) ps)) here
      ≤ how_many (still_mine ((i ∷ ids) ++ c) name ps) here =
      subst (λ (l : List Id). how_many (still_mine l name (pending_after (i ∷ ids) ps)) here
      ≤ how_many (still_mine ((i ∷ ids) ++ c) name ps) here) (sym same) (fewer_behind (i ∷ ids) c ps here) in
      inl (
        w.0,
        there.0,
        ap (λ (l : List Id). listed l e.0) same ∙ there.1,
        grows handled [] w.3,
        omega (
          arith,
          w.4,
          held_less i ids c,
          pages_less n (how_many (still_mine (c ++ []) name (pending_after (i ∷ ids) ps)) here)
              (how_many (still_mine ((i ∷ ids) ++ c) name ps) here) some count,
        ),
      )
  acked_step (claiming id) i ids c ps seen deleted handled acks k (inl w) = absurd w
  acked_step (reading r) i ids c ps seen deleted handled acks k (inl w) = absurd w
  acked_step phase i ids c ps seen deleted handled acks k (inr (inl h)) =
      let both : (if listed (i ∷ ids) e.0 then true else listed c e.0) ≡ true =
      sym (parts.listed_both (i ∷ ids) c e.0) ∙ h.1 in
      let case : (b : Bool) → listed (i ∷ ids) e.0 ≡ b → (if b then true else listed c e.0) ≡ true
      → Fate phase [] (c ++ []) (pending_after (i ∷ ids) ps) seen deleted (handled ++ []) (acks ++ i ∷ ids) k
      = λ b. elim b as (λ v. listed (i ∷ ids) e.0 ≡ v → (if v then true else listed c e.0) ≡ true
      → Fate phase [] (c ++ []) (pending_after (i ∷ ids) ps) seen deleted (handled ++ []) (acks ++ i ∷ ids) k) [
        | true ↦ λ q z.
            inr (inr (stays deleted handled [] h.0, among_right e.0 acks (i ∷ ids) (listed_among (i ∷ ids) e.0 q)))
        | false ↦ λ q z.
            inr (inl (
              stays deleted handled [] h.0,
              ap (λ (l : List Id). listed l e.0) (parts.none_more c) ∙ z,
              omega (arith, h.2, held_less i ids c),
            ))
      ] in
      case (listed (i ∷ ids) e.0) refl both
  acked_step phase i ids c ps seen deleted handled acks k (inr (inr h)) =
      inr (inr (stays deleted handled [] h.0, among_left e.0 acks (i ∷ ids) h.1))

  costs_one : (xs : List Id) → held_for [] xs ≤ 1
  costs_one [] = omega arith
  costs_one (x ∷ xs) = omega arith

  -- its own page comes
  module _ (ps : List Pending) (seen : List (Entry F)) (deleted : List Id) (no_end : NoEnd {F = F} n name seen)
      (distinct : AreDistinct seen) (id : Id) where
    abbrev mine : Id → Bool
    mine = listed (own name ps)

    abbrev page : Id → Bool
    page = listed (ids_of (own_page n name id ps seen))

    abbrev here : List (Entry F)
    here = behind_id id seen

    abbrev out : List (Entry F)
    out = filter (λ z. page z.0 && mine z.0) seen

    abbrev answer : List (Delivered F)
    answer = reread page name ps deleted seen

    abbrev IsPage : List Id → Type 0
    IsPage ids = ((x : Id) → listed ids x ≡ true → page x ≡ true) × ((x : Id) → page x ≡ true → listed ids x ≡ true)

    is_page : IsPage (ids_in answer)
    is_page = are_the_page n name some 0 ps seen [] deleted no_end id

    on_page : (handled : List (Entry F)) (acks : List Id) (k : ℕ)
        → Waits (worker.own id) [] [] ps seen handled (suc k) → page e.0 ≡ true
        → Fate (after_own answer) [] (ids_in answer) (raised page name deleted ps) seen deleted
        (handled ++ handled_in answer (all_done answer)) acks k
    on_page handled acks k w p =
        let is_seen : Among e seen = lists.end_among e here seen (lists.behind_end id seen) w.0 in
        let is_out : Among e out =
        among_filter (λ (z : Entry F). page z.0 && mine z.0) e seen is_seen (and_both (page e.0) (mine e.0) p w.1) in
        let was : (b : Bool) → listed deleted e.0 ≡ b
        → WasHandled deleted (handled ++ handled_in answer (all_done answer))
        = λ b. elim b as (λ v. listed deleted e.0 ≡ v
        → WasHandled deleted (handled ++ handled_in answer (all_done answer))) [
          | true ↦ λ q. inr q
          | false ↦ λ q.
              let more = grows handled (handled_in answer (all_done answer)) w.3 in
              inl (
                more.0,
                more.1,
                among_right e w.3.0 (handled_in answer (all_done answer))
                    (handled_of deleted e out is_out q),
              )
        ] in
        let one : 1 ≤ pages n (how_many mine here) = one_page n (how_many mine here) some
        (lists.count_some mine here e.0 (among_listed e.0 (ids_of here)
        (among_map (λ (z : Entry F). z.0) e here w.0)) w.1) in
        inr (inl (was (listed deleted e.0) refl, is_page.1 e.0 p, omega (arith, costs_one (ids_in answer), one, w.4)))

    off_page : (ds : List (Delivered F)) → IsPage (ids_in ds) → (handled more : List (Entry F)) (acks : List Id) (k : ℕ)
        → Waits (worker.own id) [] [] ps seen handled (suc k) → page e.0 ≡ false
        → Fate (after_own ds) [] (ids_in ds) (raised page name deleted ps) seen deleted (handled ++ more) acks k
    off_page [] is handled more acks k w p =
        let none : how_many mine here ≤ how_many mine here - n =
        lists.page_taken n mine mine here (λ x h. h) (λ x h. absurd (clash false (is.1 x h) refl)) in
        let one : 1 ≤ how_many mine here =
        lists.count_some mine here e.0 (among_listed e.0 (ids_of here)
        (among_map (λ (z : Entry F). z.0) e here w.0)) w.1 in
        absurd (omega (arith, none, one, some))
    off_page (d ∷ ds) is handled more acks k w p =
        let ids : List Id = ids_in (d ∷ ds) in
        let last : Id = last_id ds d.0 in
        let last_out : page last ≡ true = is.0 last (parts.last_listed ds d.0) in
        let is_end = lists.behind_end id seen in
        let beyond_it : Among e (beyond n mine here) = lists.beyond_has n mine here e w.0 w.1 p in
        let behind_last : Among e (behind_id last here) =
        lists.end_among e (beyond n mine here) (behind_id last here)
        (lists.beyond_behind n mine here last (lists.end_distinct here seen is_end distinct) last_out) beyond_it in
        let same : behind_id last seen ≡ behind_id last here =
        lists.behind_in_end last here seen is_end (lists.page_within n mine here last last_out) in
        inl (
          subst (λ (l : List (Entry F)). Among e l) (sym same) behind_last,
          ap (λ (l : List Id). listed l e.0) (parts.mine_raised page name deleted ps) ∙ w.1,
          not_true (listed ids e.0) (λ h. clash (page e.0) (is.0 e.0 h) p),
          grows handled more w.3,
          omega (arith, w.4, page_falls n name some 0 ps seen [] deleted no_end id d ds is),
        )

    own_fate : (handled : List (Entry F)) (acks : List Id) (k : ℕ)
        → Fate (worker.own id) [] [] ps seen deleted handled acks (suc k)
        → Fate (phase_at (ending answer (all_done answer)) (after_own answer)) [] (acks_in answer (all_done answer))
        (raised page name deleted ps) seen deleted (handled ++ handled_in answer (all_done answer)) acks k
    own_fate handled acks k (inr (inl h)) = absurd (clash false h.1 refl)
    own_fate handled acks k (inr (inr h)) =
        inr (inr (stays deleted handled (handled_in answer (all_done answer)) h.0, h.1))
    own_fate handled acks k (inl w) =
        let case : (b : Bool) → page e.0 ≡ b
        → Fate (after_own answer) [] (ids_in answer) (raised page name deleted ps) seen deleted
        (handled ++ handled_in answer (all_done answer)) acks k
        = λ b. elim b as (λ v. page e.0 ≡ v
        → Fate (after_own answer) [] (ids_in answer) (raised page name deleted ps) seen deleted
        (handled ++ handled_in answer (all_done answer)) acks k) [
          | true ↦ λ q. on_page handled acks k w q
          | false ↦ λ q. off_page answer is_page handled (handled_in answer (all_done answer)) acks k w q
        ] in
        subst (λ (how : Ending). Fate (phase_at how (after_own answer)) [] (acks_in answer (all_done answer))
        (raised page name deleted ps) seen deleted (handled ++ handled_in answer (all_done answer)) acks k)
        (sym (parts.all_through answer))
        (subst (λ (l : List Id). Fate (after_own answer) [] l
        (raised page name deleted ps) seen deleted (handled ++ handled_in answer (all_done answer)) acks k)
        (sym (parts.all_acked answer)) (case (page e.0) refl))

  -- each round brings it on
  brings_on : (every : ℕ) (phase : Phase) (to_commit to_acknowledge : List Id) (ps : List Pending)
      (seen fresh : List (Entry F)) (deleted : List Id) (handled : List (Entry F)) (acknowledged_ids : List Id)
      → IsGood ps seen fresh → (k : ℕ) →
      let v : View F = record {
        machine = record {
          every = every;
          phase = phase;
          to_commit = to_commit;
          to_acknowledge = to_acknowledge;
        };
        pending = ps;
        seen = seen;
        fresh = fresh;
        deleted = deleted;
        handled = handled;
        acknowledged_ids = acknowledged_ids;
      } in
      fate v (suc k) → fate (step n name v) k
  brings_on every (worker.own id) [] [] ps seen fresh deleted handled acks good k h =
      own_fate ps seen deleted (no_end_seen n name some ps seen fresh good)
      (parts.distinct_left seen fresh good.distinct) id handled acks k h
  brings_on every (claiming id) [] [] ps seen fresh deleted handled acks good k (inl w) = absurd w
  brings_on every (claiming id) [] [] ps seen fresh deleted handled acks good k (inr (inl h)) =
      absurd (clash false h.1 refl)
  brings_on every (claiming id) [] [] ps seen fresh deleted handled acks good k (inr (inr h)) =
      inr (inr (stays deleted handled _ h.0, h.1))
  brings_on every (reading r) [] [] ps seen fresh deleted handled acks good k (inl w) = absurd w
  brings_on every (reading r) [] [] ps seen fresh deleted handled acks good k (inr (inl h)) =
      absurd (clash false h.1 refl)
  brings_on every (reading r) [] [] ps seen fresh deleted handled acks good k (inr (inr h)) =
      inr (inr (stays deleted handled _ h.0, h.1))
  brings_on every phase (i ∷ ids) [] ps seen fresh deleted handled acks good k h =
      committed_step phase i ids ps seen deleted handled acks k h
  brings_on every phase to_commit (i ∷ ids) ps seen fresh deleted handled acks good k h =
      acked_step phase i ids to_commit ps seen deleted handled acks k h

  -- if no round is left, it was handled and is acknowledged
  at_last : (phase : Phase) (a c : List Id) (ps : List Pending) (seen : List (Entry F)) (deleted : List Id)
      (handled : List (Entry F)) (acks : List Id) → Fate phase a c ps seen deleted handled acks 0
      → WasHandled deleted handled × Among e.0 acks
  at_last (worker.own id) a c ps seen deleted handled acks (inl w) =
      let here : List (Entry F) = behind_id id seen in
      let q : Id → Bool = still_mine (a ++ c) name ps in
      let yes : q e.0 ≡ true =
      ap (λ b. if b then false else listed (own name ps) e.0) w.2 ∙ w.1 in
      let one : 1 ≤ pages n (how_many q here) = one_page n (how_many q here) some
      (lists.count_some q here e.0 (among_listed e.0 (ids_of here)
      (among_map (λ (z : Entry F). z.0) e here w.0)) yes) in
      absurd (omega (arith, one, w.4))
  at_last (claiming id) a c ps seen deleted handled acks (inl w) = absurd w
  at_last (reading r) a c ps seen deleted handled acks (inl w) = absurd w
  at_last phase [] [] ps seen deleted handled acks (inr (inl h)) = absurd (clash false h.1 refl)
  at_last phase [] (i ∷ ids) ps seen deleted handled acks (inr (inl h)) = absurd (omega (arith, h.2))
  at_last phase (i ∷ ids) [] ps seen deleted handled acks (inr (inl h)) = absurd (omega (arith, h.2))
  at_last phase (i ∷ ids) (j ∷ js) ps seen deleted handled acks (inr (inl h)) = absurd (omega (arith, h.2))
  at_last phase a c ps seen deleted handled acks (inr (inr h)) = h

  in_the_end : (k : ℕ) (es : List (Event F)) →
      let w : World F = run es empty_world in
      fate (view name w) k → fate (view name (rounds k n name w)) 0
  in_the_end zero es h = h
  in_the_end (suc k) es h =
      let w : World F = run es empty_world in
      let m : Machine = w.workers name in
      let further : List (Event F) = es ++ events_of_round n name w in
      let reached : round n name w ≡ run further empty_world = round_reached n name some es in
      let next : fate (view name (round n name w)) k =
      subst (λ (v : View F). fate v k) (sym (round_seen n name w))
      (brings_on m.every m.phase m.to_commit m.to_acknowledge w.pending w.seen w.fresh w.deleted w.handled
      w.acknowledged_ids (always_good es) k h) in
      subst (λ (v : World F). fate (view name (rounds k n name v)) 0) (sym reached)
      (in_the_end k further (subst (λ (v : World F). fate (view name v) k) reached next))

nothing_more : {A : Type 0} (xs : List A) → xs ≡ xs ++ []
nothing_more [] = refl
nothing_more (x ∷ xs) = ap (λ l. x ∷ l) (nothing_more xs)

pub lost_is_handed_out_again : {F : Type 0} → LostIsHandedOutAgain F
lost_is_handed_out_again {F} es name n some k begins l e is_seen is_mine not_held =
    let w : World F = run es empty_world in
    let a : List Id = (w.workers name).to_acknowledge in
    let c : List Id = (w.workers name).to_commit in
    let mine : Id → Bool = listed (own name w.pending) in
    let q : Id → Bool = still_mine (a ++ c) name w.pending in
    let no : listed (ids_of w.seen) (codes "0") ≡ false =
    not_true (listed (ids_of w.seen) (codes "0")) (λ h.
    clash (listed (ids_of (log_of w)) (codes "0")) (listed_left w.seen w.fresh (codes "0") h) (no_zero es)) in
    let all : behind_id (codes "0") w.seen ≡ w.seen = behind_nowhere (codes "0") w.seen no in
    let behind_it : Among e (behind_id (codes "0") w.seen) =
    subst (λ (z : List (Entry F)). Among e z) (sym all) is_seen in
    let fewer : how_many q (behind_id (codes "0") w.seen) ≤ how_many mine w.seen =
    subst (λ (z : List (Entry F)). how_many q z ≤ how_many mine w.seen) (sym all)
    (lists.count_less q mine w.seen (λ x h. (mine_not name (a ++ c) w.pending x h).1)) in
    let waits : Waits n name some e w.handled (worker.own (codes "0")) a c w.pending w.seen w.handled k = (
      behind_it,
      among_listed e.0 (own name w.pending) is_mine,
      not_true (listed (a ++ c) e.0) (λ h. not_held (listed_among (a ++ c) e.0 h)),
      ([], nothing_more w.handled),
      omega (arith, l, pages_less n (how_many q (behind_id (codes "0") w.seen)) (how_many mine w.seen) some fewer),
    ) in
    let first : fate n name some e w.handled (view name w) k =
    subst (λ (p : Phase). Fate n name some e w.handled p a c w.pending w.seen w.deleted w.handled w.acknowledged_ids k)
    (sym begins) (inl waits) in
    let v : World F = rounds k n name w in
    let m : Machine = v.workers name in
    let r = at_last n name some e w.handled m.phase m.to_acknowledge m.to_commit v.pending v.seen v.deleted v.handled
    v.acknowledged_ids (in_the_end n name some e w.handled k es first) in
    (elim r.0 [ inl g ↦ inl g | inr d ↦ inr (listed_among v.deleted e.0 d) ], r.1)
