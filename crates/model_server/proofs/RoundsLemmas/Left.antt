-- What is left, by the parts of a round; and an acknowledgement leaves one round less.
use Rattle.std.proofs.Common.{◌≡◌, ap, ◌∙◌, ℕ, ◌+◌, ◌-◌, ◌≤◌}
use Rattle.std.proofs.Common.{arith, nat_lt, Bool, false, List, [], ◌∷◌, ◌++◌, length, codes}
use Rattle.std.proofs.Math.Path.{fun_ext}
use Rattle.model_server.specs.Group.Worker.{Id, Entry, Delivered, Machine, Phase, Ending, went_through, ending, claiming, reading}
use Rattle.model_server.specs.Group.Worker.{phase_at, acks_in, after_own, after_claim, after_news, last_id}
use Rattle.model_server.specs.Group.Worker as worker
use Rattle.model_server.specs.Group.Group.{Name, Pending, listed, ids_of}
use Rattle.model_server.specs.Group.Group.{pending_after}
use Rattle.model_server.specs.Rounds.Page.{from_id, behind_id, how_many}
use Rattle.model_server.specs.Rounds.Rounds.{all_done}
use Rattle.model_server.specs.Rounds.Bound.{pages, held_for}
use Rattle.model_server.proofs.RoundsLemmas.Lists as lists
use Rattle.model_server.proofs.RoundsLemmas.Lists.{clash, not_true}
use Rattle.model_server.proofs.RoundsLemmas.Measure.{left_own, left_claiming, left_reading}
use Rattle.model_server.proofs.RoundsLemmas.View.{View}
use Rattle.model_server.proofs.RoundsLemmas.Still.{still_pending, still_mine, acked_pending, acked_mine, held_less, not_less}
use Rattle.model_server.proofs.RoundsLemmas.Parts as parts
use Rattle.model_server.proofs.RoundsLemmas.Parts.{ids_in}

module _ {F : Type 0} (n : ℕ) (name : Name) where
  -- what is left, if it is at this point and this is pending
  abbrev pub left : ℕ → Phase → (all mine : Id → Bool) (seen fresh : List (Entry F)) → ℕ
  left every (worker.own id) all mine seen fresh =
      left_own every (pages n (how_many mine (behind_id id seen))) (pages n (how_many all seen)) (pages n (length fresh))
  left every (claiming id) all mine seen fresh =
      left_claiming every (nat_lt (how_many all (from_id id seen)) (how_many all seen))
      (pages n (how_many all (from_id id seen))) (pages n (how_many all seen)) (pages n (length fresh))
  left every (reading rounds) all mine seen fresh =
      left_reading every rounds (pages n (how_many all seen)) (pages n (length fresh))

  -- the measure of these parts
  abbrev pub measure_of : ℕ → Phase → (to_acknowledge to_commit : List Id) → List Pending → (seen fresh : List (Entry F))
      → ℕ
  measure_of every phase to_acknowledge to_commit ps seen fresh =
      held_for to_acknowledge to_commit
      + left every phase (still_pending (to_acknowledge ++ to_commit) ps)
      (still_mine (to_acknowledge ++ to_commit) name ps) seen fresh

  abbrev pub measure_at : View F → ℕ
  measure_at v = measure_of v.machine.every v.machine.phase v.machine.to_acknowledge v.machine.to_commit v.pending
      v.seen v.fresh

  same_left : (every : ℕ) (phase : Phase) (p q o r : Id → Bool) (seen fresh : List (Entry F))
      → ((x : Id) → p x ≡ q x) → ((x : Id) → o x ≡ r x)
      → left every phase p o seen fresh ≡ left every phase q r seen fresh
  same_left every phase p q o r seen fresh h k =
      let e : p ≡ q = fun_ext h in
      let f : o ≡ r = fun_ext k in
      ap (λ (z : Id → Bool). left every phase z o seen fresh) e ∙ ap (λ (z : Id → Bool). left every phase q z seen fresh) f

  -- what a commit held, an acknowledgement names
  pub after_commit_acked : (every : ℕ) (phase : Phase) (i : Id) (ids : List Id) (ps : List Pending)
      (seen fresh : List (Entry F))
      → measure_of every phase [] [] (pending_after (i ∷ ids) ps) seen fresh
      ≤ measure_of every phase [] (i ∷ ids) ps seen fresh - 1
  after_commit_acked every phase i ids ps seen fresh =
      let all : (x : Id) → still_pending [] (pending_after (i ∷ ids) ps) x ≡ still_pending (i ∷ ids) ps x
      = λ x. acked_pending (i ∷ ids) [] ps x
      ∙ ap (λ l. still_pending l ps x) (parts.none_more (i ∷ ids)) in
      let mine : (x : Id) → still_mine [] name (pending_after (i ∷ ids) ps) x ≡ still_mine (i ∷ ids) name ps x
      = λ x. acked_mine name (i ∷ ids) [] ps x
      ∙ ap (λ l. still_mine l name ps x) (parts.none_more (i ∷ ids)) in
      omega (
        arith,
        same_left every phase (still_pending [] (pending_after (i ∷ ids) ps)) (still_pending (i ∷ ids) ps)
            (still_mine [] name (pending_after (i ∷ ids) ps)) (still_mine (i ∷ ids) name ps) seen fresh all mine,
      )

  pub acked : (every : ℕ) (phase : Phase) (i : Id) (ids to_commit : List Id) (ps : List Pending)
      (seen fresh : List (Entry F))
      → measure_of every phase [] (to_commit ++ []) (pending_after (i ∷ ids) ps) seen fresh
      ≤ measure_of every phase (i ∷ ids) to_commit ps seen fresh - 1
  acked every phase i ids to_commit ps seen fresh =
      let all : (x : Id) → still_pending (to_commit ++ []) (pending_after (i ∷ ids) ps) x
      ≡ still_pending ((i ∷ ids) ++ to_commit) ps x
      = λ x. ap (λ l. still_pending l (pending_after (i ∷ ids) ps) x) (parts.none_more to_commit)
      ∙ acked_pending (i ∷ ids) to_commit ps x in
      let mine : (x : Id) → still_mine (to_commit ++ []) name (pending_after (i ∷ ids) ps) x
      ≡ still_mine ((i ∷ ids) ++ to_commit) name ps x
      = λ x. ap (λ l. still_mine l name (pending_after (i ∷ ids) ps) x) (parts.none_more to_commit)
      ∙ acked_mine name (i ∷ ids) to_commit ps x in
      omega (
        arith,
        held_less i ids to_commit,
        same_left every phase (still_pending (to_commit ++ []) (pending_after (i ∷ ids) ps))
            (still_pending ((i ∷ ids) ++ to_commit) ps)
            (still_mine (to_commit ++ []) name (pending_after (i ∷ ids) ps))
            (still_mine ((i ∷ ids) ++ to_commit) name ps) seen fresh all mine,
      )

  abbrev pub NoEnd : List (Entry F) → Type 0
  NoEnd es = listed (ids_of es) (codes "0-0") ≡ false

  -- a claim from the first on means all that is pending
  pub from_the_first : (every : ℕ) (all mine : Id → Bool) (seen fresh : List (Entry F)) → NoEnd seen
      → left every (claiming (codes "0-0")) all mine seen fresh
      ≡ left_claiming every false (pages n (how_many all seen)) (pages n (how_many all seen)) (pages n (length fresh))
  from_the_first every all mine seen fresh h =
      ap (λ (es : List (Entry F)). left_claiming every (nat_lt (how_many all es) (how_many all seen))
      (pages n (how_many all es)) (pages n (how_many all seen)) (pages n (length fresh)))
      (lists.from_nowhere (codes "0-0") seen h)
      ∙ ap (λ b. left_claiming every b (pages n (how_many all seen)) (pages n (how_many all seen)) (pages n (length fresh)))
      (not_less (how_many all seen) (how_many all seen) (omega arith))

  -- the measure after a reply, if all its entries are handled and done
  pub gone_through : (every : ℕ) (next : Phase) (ds : List (Delivered F)) (ps : List Pending) (seen fresh : List (Entry F))
      → measure_of every (phase_at (ending ds (all_done ds)) next) [] (acks_in ds (all_done ds)) ps seen fresh
      ≡ measure_of every next [] (ids_in ds) ps seen fresh
  gone_through every next ds ps seen fresh =
      ap (λ (e : Ending). measure_of every (phase_at e next) [] (acks_in ds (all_done ds)) ps seen fresh)
      (parts.all_through ds)
      ∙ ap (λ (l : List Id). measure_of every next [] l ps seen fresh) (parts.all_acked ds)
