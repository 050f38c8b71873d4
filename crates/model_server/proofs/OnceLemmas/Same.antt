-- Nothing but an XADD changes the log and the last id.
use Rattle.std.proofs.Common.{◌≡◌, refl, ap, ◌∙◌, ℕ, zero, suc, Bool, true, false, List, [], ◌∷◌, ◌++◌, append_assoc}
use Rattle.std.proofs.Common.{Option, Some, None, if◌then◌else◌}
use Rattle.model_server.specs.Group.Worker.{Id, Entry, Phase, own, claiming, reading}
use Rattle.model_server.specs.Group.Group.{Name, listed, ids_of, passed, behind}
use Rattle.model_server.specs.Group.World.{World, Reply, Event, Append, Delete, Read, Reread, Claim, Claim_ids, Comes, Commit}
use Rattle.model_server.specs.Group.World.{Acknowledge, Ack_comes, Go_back, Crash, item, comes, ack_comes, log_of, happens, read}
use Rattle.model_server.specs.Once.World.{Else}
use Rattle.model_server.specs.Once.Law.{NoOtherAdd}
use Rattle.model_server.specs.Once.Consumer.{after_asking}

pub passed_behind : {F : Type 0} (deleted : List Id) (n : ℕ) (es : List (Entry F))
    → passed deleted n es ++ behind deleted n es ≡ es
passed_behind deleted n [] = refl
passed_behind deleted zero (x ∷ es) = refl
passed_behind deleted (suc n) (x ∷ es) =
    let case : (b : Bool) → (x ∷ (if b then passed deleted (suc n) es else passed deleted n es))
    ++ (if b then behind deleted (suc n) es else behind deleted n es) ≡ x ∷ es
    = λ b. elim b as (λ v. (x ∷ (if v then passed deleted (suc n) es else passed deleted n es))
    ++ (if v then behind deleted (suc n) es else behind deleted n es) ≡ x ∷ es) [
      | true ↦ ap (λ r. x ∷ r) (passed_behind deleted (suc n) es)
      | false ↦ ap (λ r. x ∷ r) (passed_behind deleted n es)
    ] in
    case (listed deleted x.0)

module _ {F : Type 0} where
  -- the log and the last id are the same
  abbrev pub Same : World F → World F → Type 0
  Same v w = (log_of v ≡ log_of w) × (v.last ≡ w.last)

  same_deleted : (w : World F) (id : Id) (b : Bool) → Same (if b then record w { deleted = id ∷ w.deleted } else w) w
  same_deleted w id true = (refl, refl)
  same_deleted w id false = (refl, refl)

  same_comes : (w : World F) (k : ℕ) (o : Option (Reply F)) (vs : List _) → Same (comes w k o vs) w
  same_comes w k None vs = (refl, refl)
  same_comes w k (Some r) vs = (refl, refl)

  same_acked : (w : World F) (o : Option (Name × List Id)) → Same (ack_comes w o) w
  same_acked w None = (refl, refl)
  same_acked w (Some a) = (refl, refl)

  pub same_read : (w : World F) (me : Name) (n : ℕ) → Same (read w me n) w
  same_read w me n = (
    append_assoc w.seen (passed w.deleted n w.fresh) (behind w.deleted n w.fresh)
        ∙ ap (λ l. w.seen ++ l) (passed_behind w.deleted n w.fresh),
    refl,
  )

  pub same_else : (w : World F) (e : Event F) → NoOtherAdd (Else e) → Same (happens w e) w
  same_else w (Append id fields) h = absurd h
  same_else w (Delete id) h = same_deleted w id (listed (ids_of (log_of w)) id)
  same_else w (Read c n) h = same_read w c n
  same_else w (Reread c pick) h = (refl, refl)
  same_else w (Claim c pick next) h = (refl, refl)
  same_else w (Claim_ids c pick) h = (refl, refl)
  same_else w (Comes k vs) h = same_comes w k (item w.replies k) vs
  same_else w (Commit c) h = (refl, refl)
  same_else w (Acknowledge c) h = (refl, refl)
  same_else w (Ack_comes k) h = same_acked w (item w.acks k)
  same_else w (Go_back c) h = (refl, refl)
  same_else w (Crash c every keeps ids) h = (refl, refl)

  pub same_asked : (me : Name) (n : ℕ) (pick : Id → Bool) (next : Id) (p : Phase) (w : World F)
      → Same (after_asking me n pick next p w) w
  same_asked me n pick next (own behind) w = (refl, refl)
  same_asked me n pick next (claiming from) w = (refl, refl)
  same_asked me n pick next (reading rounds) w = same_read w me n
