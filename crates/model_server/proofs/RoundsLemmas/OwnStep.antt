-- A round that reads its own pending entries again leaves one round less.
use Rattle.std.proofs.Common.{◌≡◌, refl, sym, ap, ◌∙◌, ℕ, ◌+◌, ◌-◌, ◌≤◌, arith, Bool, true}
use Rattle.std.proofs.Common.{false, ◌&&◌, List, [], ◌∷◌, filter, length}
use Rattle.model_server.specs.Group.Worker.{Id, Entry, Delivered, Phase, ending, phase_at, acks_in, after_own, last_id}
use Rattle.model_server.specs.Group.Worker as worker
use Rattle.model_server.specs.Group.Group.{Name, Pending, listed, ids_of, own, raised, reread, pending_ids}
use Rattle.model_server.proofs.GroupLemmas.Among.{and_left}
use Rattle.model_server.proofs.GroupLemmas.Steps.{raised_ids}
use Rattle.model_server.specs.Rounds.Page.{behind_id, how_many, own_page}
use Rattle.model_server.specs.Rounds.Rounds.{all_done}
use Rattle.model_server.specs.Rounds.Bound.{pages}
use Rattle.model_server.proofs.RoundsLemmas.Lists as lists
use Rattle.model_server.proofs.RoundsLemmas.Lists.{clash, not_true, LeavesPage}
use Rattle.model_server.proofs.RoundsLemmas.Measure as measure
use Rattle.model_server.proofs.RoundsLemmas.Measure.{left_own, left_claiming, pages_less, pages_fall}
use Rattle.model_server.proofs.RoundsLemmas.Still.{still_pending, still_mine, held_not, mine_not}
use Rattle.model_server.proofs.RoundsLemmas.Left.{measure_of, NoEnd, from_the_first, gone_through}
use Rattle.model_server.proofs.RoundsLemmas.Parts as parts
use Rattle.model_server.proofs.RoundsLemmas.Parts.{ids_in}

pub and_both : (a b : Bool) → a ≡ true → b ≡ true → (a && b) ≡ true
and_both true b h k = k
and_both false b h k = absurd (clash false h refl)

module _ {F : Type 0} (n : ℕ) (name : Name) (some : 1 ≤ n) (every : ℕ) (ps : List Pending)
    (seen fresh : List (Entry F)) (deleted : List Id) (no_end : NoEnd {F = F} n name seen) (id : Id) where
  abbrev pub mine : Id → Bool
  mine = listed (own name ps)

  abbrev pub page : Id → Bool
  page = listed (ids_of (own_page n name id ps seen))

  abbrev pub again : List Pending
  again = raised page name deleted ps

  abbrev before : ℕ
  before = measure_of n name every (worker.own id) [] [] ps seen fresh

  abbrev pub AreThePage : List Id → Type 0
  AreThePage ids = ((x : Id) → listed ids x ≡ true → page x ≡ true) × ((x : Id) → page x ≡ true → listed ids x ≡ true)

  fewer : (ids : List Id) (x : Id) → still_pending ids again x ≡ true → listed (pending_ids ps) x ≡ true
  fewer ids x h =
      ap (λ (l : List Id). listed l x) (sym (raised_ids page name deleted ps)) ∙ (held_not ids again x h).1

  pub fewer_mine : (ids : List Id) (x : Id) → still_mine ids name again x ≡ true → mine x ≡ true
  fewer_mine ids x h =
      ap (λ (l : List Id). listed l x) (sym (parts.mine_raised page name deleted ps)) ∙ (mine_not name ids again x h).1

  -- a page of its own less is left
  pub page_falls : (d : Delivered F) (ds : List (Delivered F)) → AreThePage (ids_in (d ∷ ds))
      → pages n (how_many (still_mine (ids_in (d ∷ ds)) name again) (behind_id (last_id ds d.0) seen)) + 1
      ≤ pages n (how_many mine (behind_id id seen))
  page_falls d ds e =
      let ids : List Id = ids_in (d ∷ ds) in
      let last : Id = last_id ds d.0 in
      let q : Id → Bool = still_mine ids name again in
      let here : List (Entry F) = behind_id id seen in
      let on_page : page last ≡ true = e.0 last (parts.last_listed ds d.0) in
      let is_mine : mine last ≡ true = lists.page_meant n mine here last on_page in
      let is_here : listed (ids_of here) last ≡ true = lists.page_within n mine here last on_page in
      let one_mine : 1 ≤ how_many mine here = lists.count_some mine here last is_here is_mine in
      let leaves : LeavesPage n mine q here
      = λ x h. not_true (q x) (λ z. clash (listed ids x) (e.1 x h) (mine_not name ids again x z).0) in
      let taken : how_many q here ≤ how_many mine here - n =
      lists.page_taken n mine q here (fewer_mine ids) leaves in
      let further : how_many q (behind_id last seen) ≤ how_many q here =
      lists.end_count q (behind_id last seen) here (lists.behind_further id last seen is_here) in
      pages_fall n (how_many q (behind_id last seen)) (how_many mine here) some one_mine
      (omega (arith, taken, further))

  by_answer : (ds : List (Delivered F)) → AreThePage (ids_in ds)
      → measure_of n name every (after_own ds) [] (ids_in ds) again seen fresh ≤ before - 1
  by_answer [] e =
      let p : Id → Bool = still_pending [] again in
      let o : ℕ = pages n (how_many mine (behind_id id seen)) in
      let k : ℕ = pages n (how_many (listed (pending_ids ps)) seen) in
      let k2 : ℕ = pages n (how_many p seen) in
      let f : ℕ = pages n (length fresh) in
      let less : k2 ≤ k = pages_less n (how_many p seen) (how_many (listed (pending_ids ps)) seen) some
      (lists.count_less p (listed (pending_ids ps)) seen (fewer [])) in
      let ends : left_claiming every false k2 k2 f ≤ left_own every o k f - 1 = measure.own_ends every o k f k2 k2 less in
      omega (arith, ends, from_the_first n name every p (still_mine [] name again) seen fresh no_end)
  by_answer (d ∷ ds) e =
      let ids : List Id = ids_in (d ∷ ds) in
      let last : Id = last_id ds d.0 in
      let p : Id → Bool = still_pending ids again in
      let q : Id → Bool = still_mine ids name again in
      let here : List (Entry F) = behind_id id seen in
      let o : ℕ = pages n (how_many mine here) in
      let k : ℕ = pages n (how_many (listed (pending_ids ps)) seen) in
      let o2 : ℕ = pages n (how_many q (behind_id last seen)) in
      let k2 : ℕ = pages n (how_many p seen) in
      let f : ℕ = pages n (length fresh) in
      let on_page : page last ≡ true = e.0 last (parts.last_listed ds d.0) in
      let is_mine : mine last ≡ true = lists.page_meant n mine here last on_page in
      let is_here : listed (ids_of here) last ≡ true = lists.page_within n mine here last on_page in
      let is_seen : listed (ids_of seen) last ≡ true =
      lists.end_listed here seen last (lists.behind_end id seen) is_here in
      let one : 1 ≤ k = measure.one_page n (how_many (listed (pending_ids ps)) seen) some
      (lists.count_some (listed (pending_ids ps)) seen last is_seen (parts.mine_is_pending name ps last is_mine)) in
      let less : k2 ≤ k = pages_less n (how_many p seen) (how_many (listed (pending_ids ps)) seen) some
      (lists.count_less p (listed (pending_ids ps)) seen (fewer ids)) in
      let falls : o2 + 1 ≤ o = page_falls d ds e in
      let all : 1 + left_own every o2 k2 f ≤ left_own every o k f - 1 = measure.own_falls every o k f o2 k2 one falls less in
      omega (arith, all)

  abbrev pub answer : List (Delivered F)
  answer = reread page name ps deleted seen

  pub are_the_page : AreThePage (ids_in answer)
  are_the_page =
      let g : Id → Bool = λ x. page x && mine x in
      let same : ids_in answer ≡ ids_of (filter (λ e. g e.0) seen) =
      parts.as_it_is_ids deleted (filter (λ e. g e.0) seen) in
      let here : List (Entry F) = behind_id id seen in (
        λ x h. and_left (page x) (mine x)
            (parts.listed_filtered g seen x (ap (λ (l : List Id). listed l x) (sym same) ∙ h)).0,
        λ x h. ap (λ (l : List Id). listed l x) same ∙ parts.filtered_listed g seen x
            (lists.end_listed here seen x (lists.behind_end id seen) (lists.page_within n mine here x h))
            (and_both (page x) (mine x) h (lists.page_meant n mine here x h)),
      )

  pub own_step : measure_of n name every (phase_at (ending answer (all_done answer)) (after_own answer)) []
      (acks_in answer (all_done answer)) again seen fresh ≤ before - 1
  own_step =
      omega (arith, gone_through n name every (after_own answer) answer again seen fresh, by_answer answer are_the_page)
