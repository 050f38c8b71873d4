-- No id is twice in the log, in any state that the server may return to, whoever adds to it.
use Rattle.std.proofs.Common.{◌≡◌, inl, inr, refl, subst, ℕ, Bool, true, false, List, [], Option, Some, None}
use Rattle.std.proofs.Common.{if◌then◌else◌}
use Rattle.model_server.specs.Group.Group.{ids_of}
use Rattle.model_server.specs.Group.World.{item}
use Rattle.model_server.specs.Group.World as group
use Rattle.model_server.specs.Group.Law.{Among}
use Rattle.model_server.proofs.GroupLemmas.Among.{among_item}
use Rattle.model_server.specs.Once.World.{Setting, Arrive, Break, Ask, Take, Reconnect}
use Rattle.model_server.specs.Once.World as once
use Rattle.model_server.specs.Once.Law.{Once, log}
use Rattle.model_server.proofs.OnceLemmas.Ids.{AddedIn, added_then, none_added}
use Rattle.model_server.specs.Failover.World.{World, Event, Plain, Arrive_waits, Ask_waits, Failover, fails_over}
use Rattle.model_server.specs.Failover.World.{remembers, is_confirmed, plainly, happens, first_world}

module _ {F : Type 0} where
  -- of the present state, and of those that are kept with it
  pub record Distinct (w : World F) : Type 0 where
    pub now : AddedIn w.now.stream
    pub each : (k : group.World F) → Among k w.kept → AddedIn k

  plain_added : (s : Setting F) (w : once.World F) (e : once.Event F) → AddedIn w.stream → AddedIn (plainly s w e).stream
  plain_added s w (Take vs) a = a
  plain_added s w e a = added_then s w e a

  remembered : (kept : List (group.World F)) (w : once.World F) → AddedIn w.stream
      → ((k : group.World F) → Among k kept → AddedIn k) → Distinct (remembers kept w)
  remembered kept w a f = record {
    now = a;
    each = λ k h. elim h [
      | inl e ↦ (let P : group.World F → Type 0 = λ k. AddedIn k in subst P e a)
      | inr b ↦ f k b
    ];
  }

  -- after a WAIT that was confirmed, or not
  waiting : (kept : List (group.World F)) (v cut : once.World F) (b : Bool) → AddedIn v.stream → AddedIn cut.stream
      → ((k : group.World F) → Among k kept → AddedIn k)
      → Distinct (remembers (if b then [] else kept) (if b then v else cut))
  waiting kept v cut true a c f = remembered [] v a (λ k h. absurd h)
  waiting kept v cut false a c f = remembered kept cut c f

  fails : (w : World F) (j : ℕ) (o : Option (group.World F)) → item w.kept j ≡ o → Distinct w → Distinct (fails_over w o)
  fails w j None q i = i
  fails w j (Some k) q i = (
      let a = i.each k (among_item w.kept j k q) in
      record { now = record { once = a.once; up_to = a.up_to }; each = i.each }
      )

  pub distinct_after : (s : Setting F) (w : World F) (e : Event F) → Distinct w → Distinct (happens s w e)
  distinct_after s w (Plain e) i = remembered w.kept (plainly s w.now e) (plain_added s w.now e i.now) i.each
  distinct_after s w (Arrive_waits b asked said) i =
      let v : once.World F = once.happens s w.now (Arrive b) in
      let a = added_then s w.now (Arrive b) i.now in
      waiting w.kept v (once.happens s v Break) (is_confirmed asked said) a a i.each
  distinct_after s w (Ask_waits n pick next asked said) i =
      let v : once.World F = once.happens s w.now (Ask n pick next) in
      let a = added_then s w.now (Ask n pick next) i.now in
      waiting w.kept v (once.happens s v Reconnect) (is_confirmed asked said) a a i.each
  distinct_after s w (Failover j) i = fails w j (item w.kept j) refl i

  pub first_distinct : Distinct (first_world {F = F})
  first_distinct = remembered [] first_world.now none_added (λ k h. absurd h)

  pub once_in_log : (w : World F) → Distinct w → Once (ids_of (log w.now))
  once_in_log w i = i.now.once
