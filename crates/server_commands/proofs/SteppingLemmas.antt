-- From what a command's function does to what `Server::step` does.
use Rattle.std.proofs.Common.{◌≡◌, ◌≢◌, ◌<◌, ℕ, List, [], ◌∷◌, drop, get_or, length, map, set, inl, inr, refl, sym, ap, subst, ◌∙◌, arith}
use Rattle.std.proofs.lemmas.List.{get_or-map, get_or-set_other, get_or_default, length-drop, length-map, length-set, map-set}
use Rattle.std.specs.Global.{Vec}
use Rattle.std.specs.Prelude.{IfOk, Result, Ok, Err, Some, codes}
use Rattle.model_server.specs.Group.Group.{Name}
use Rattle.model_server.specs.Group.World.{World, Delete, run}
use Rattle.server_store.specs.EntryId.{id_text}
use Rattle.server_store.specs.Stream.{Seen, seen_stream}
use Rattle.server_store.specs.declared.entry_id.EntryId.{EntryId}
use Rattle.server_store.specs.declared.stream.Stream.{Stream}
use Rattle.server_commands.specs.Acknowledging.{AcknowledgesIn, count_answer}
use Rattle.server_commands.specs.Adding.{IsXadd}
use Rattle.server_commands.specs.Changed.{IsChangedAt}
use Rattle.server_commands.specs.Claiming.{IsXautoclaim}
use Rattle.server_commands.specs.Commands.{IsNamed, Replies, event_called, least_of, lower_case}
use Rattle.server_commands.specs.Deleting.{DeletesIn}
use Rattle.server_commands.specs.IdWords.{AreFit, texts_of, words_of_ids}
use Rattle.server_commands.specs.Model.{Fields, IsModelIn, XackComes}
use Rattle.server_commands.specs.Stepping.{OthersStay, XackSteps, XaddSteps, XautoclaimSteps, XdelSteps}
use Rattle.server_commands.specs.declared.answer.Answer.{Answer}
use Rattle.server_commands.specs.declared.answer.Reply.{Reply}
use Rattle.server_commands.specs.declared.answer.Reply.TheVariants.{Done, Refused, Executed}
use Rattle.server_commands.specs.declared.commands.Change.{Change}
use Rattle.server_commands.specs.declared.commands.Change.TheVariants as changes
use Rattle.server_commands.proofs.AddModelLemmas.{never, xadd_is_the_event}
use Rattle.server_commands.proofs.ClaimLawLemmas.{xautoclaim_is_the_event}
use Rattle.server_commands.proofs.DeleteLemmas.{xdel_is_the_events}
use Rattle.server_commands.proofs.ModelLemmas.{xack_is_the_event}

-- what follows of an outcome
pub ok_so : {T E : Type 0} (r : Result T E) (P Q : T → Type 0) → IfOk r P → ((x : T) → P x → Q x) → IfOk r Q
ok_so (Ok x) P Q p so = so x p
ok_so (Err e) P Q p so = tt

module _ (key : List ℕ) (old new : List Stream) where
  -- one stream of the key is changed
  module _ (How : Stream → Stream → Type 0) (how : IsChangedAt key How old new) where
    there : (d : Seen) → get_or (map seen_stream old) how.index d ≡ seen_stream how.was
    there d =
        get_or_default (map seen_stream old) how.index d (seen_stream how.was) (omega (arith, how.within, length-map old seen_stream))
        ∙ get_or-map seen_stream old how.index how.was (seen_stream how.was) how.within ∙ ap seen_stream how.stood

    after : map seen_stream new ≡ set (map seen_stream old) how.index (seen_stream how.is)
    after = ap (map seen_stream) how.changed ∙ map-set seen_stream old how.index how.is

    pub others_stay : OthersStay key (map seen_stream old) (map seen_stream new)
    others_stay = record {
      count = ap length after ∙ length-set (map seen_stream old) how.index (seen_stream how.is);
      same = λ k d lt other.
          let apart : k ≢ how.index = λ at.
          other (ap (λ (n : ℕ). (get_or (map seen_stream old) n d).key) at ∙ ap (λ (s : Seen). s.key) (there d) ∙ how.named) in
          ap (λ (ss : List Seen). get_or ss k d) after
          ∙ get_or-set_other (map seen_stream old) how.index k (seen_stream how.is) d apart;
    }

  -- none is changed
  pub all_stay : new ≡ old → OthersStay key (map seen_stream old) (map seen_stream new)
  all_stay same = record {
    count = ap (λ (ss : List Stream). length (map seen_stream ss)) same;
    same = λ k d lt other. ap (λ (ss : List Stream). get_or (map seen_stream ss) k d) same;
  }

-- the first word names the command
pub named_so : (a : Vec ℕ) (words : List (Vec ℕ)) (name text : List ℕ) (change : Change) → a.items ≡ name
    → lower_case name ≡ text → event_called text ≡ Some change → IsNamed change (a ∷ words)
named_so a words name text change is low called d =
    ap (λ (n : List ℕ). event_called (lower_case n)) is ∙ ap event_called low ∙ called

module _ (now : ℕ) (old new : List Stream) where
  abbrev pub Answers : List (Vec ℕ) → Reply → Type 0
  Answers words reply = (change : Change) → IsNamed change words → least_of change < length words
      → Replies change words now old new reply

  acknowledged_others : (key : List ℕ) (others : List (List ℕ)) (a : Vec ℕ) (words : List (Vec ℕ)) (answer : Answer)
      → texts_of (a ∷ words) ≡ key ∷ others → AcknowledgesIn (a ∷ words) answer old new
      → OthersStay key (map seen_stream old) (map seen_stream new)
  acknowledged_others key others a words answer same (inl x) =
      let key_is : x.key ≡ key = sym (x.keyed a) ∙ ap (λ (ts : List (List ℕ)). get_or ts 0 []) same in
      subst (λ (k : List ℕ). OthersStay k (map seen_stream old) (map seen_stream new)) key_is (others_stay x.key old new _ x.how)
  acknowledged_others key others a words answer same (inr x) = all_stay key old new x.same

  deleted_others : (key : List ℕ) (others : List (List ℕ)) (a : Vec ℕ) (words : List (Vec ℕ)) (answer : Answer)
      → texts_of (a ∷ words) ≡ key ∷ others → DeletesIn (a ∷ words) answer old new
      → OthersStay key (map seen_stream old) (map seen_stream new)
  deleted_others key others a words answer same (inl x) =
      let key_is : x.key ≡ key = sym (x.keyed a) ∙ ap (λ (ts : List (List ℕ)). get_or ts 0 []) same in
      subst (λ (k : List ℕ). OthersStay k (map seen_stream old) (map seen_stream new)) key_is (others_stay x.key old new _ x.how)
  deleted_others key others a words answer same (inr x) = all_stay key old new x.same

  added_others : (key name : List ℕ) (a b : Vec ℕ) (words : List (Vec ℕ)) (answer : Answer) (w : World Fields)
      → IsModelIn key name (map seen_stream old) w → b.items ≡ key → IsXadd (a ∷ b ∷ words) now answer old new
      → OthersStay key (map seen_stream old) (map seen_stream new)
  added_others key name a b words answer w model same x =
      let key_is : x.key ≡ key = sym (x.keyed a) ∙ same in
      elim x.how [
        | inl how ↦ subst (λ (k : List ℕ). OthersStay k (map seen_stream old) (map seen_stream new)) key_is (others_stay x.key old new _ how)
        | inr none ↦ absurd (never key name old w model (rw key_is at none.none))
      ]

  acknowledged_reply : (key name : List ℕ) (ids : List EntryId) (consumer : Name) (a b c : Vec ℕ) (words : List (Vec ℕ)) (reply : Reply)
      (w : World Fields) → AreFit ids → texts_of (b ∷ c ∷ words) ≡ key ∷ name ∷ words_of_ids ids
      → IsModelIn key name (map seen_stream old) w → Replies changes.Acknowledge (a ∷ b ∷ c ∷ words) now old new reply
      → (n : ℕ) × (reply ≡ Done (count_answer n)) × XackComes key name ids consumer n (map seen_stream new) w
      × OthersStay key (map seen_stream old) (map seen_stream new)
  acknowledged_reply key name ids consumer a b c words (Done answer) w fit same model does =
      let law = xack_is_the_event key name ids consumer (b ∷ c ∷ words) answer old new w fit same does model in
      (law.0, ap Done law.1, law.2, acknowledged_others key (name ∷ words_of_ids ids) b (c ∷ words) answer same does)
  acknowledged_reply key name ids consumer a b c words (Refused text) w fit same model (e, apart, may) =
      absurd (apart (may (omega arith) ids fit (ap (λ (ts : List (List ℕ)). drop 2 ts) same)))
  acknowledged_reply key name ids consumer a b c words (Executed outcomes) w fit same model never = absurd never

  pub xack_steps : (words : List (Vec ℕ)) (reply : Reply) → Answers words reply
      → XackSteps words reply (map seen_stream old) (map seen_stream new)
  xack_steps [] reply replies command key name ids consumer w is some fit same model = absurd (omega (arith, ap length same))
  xack_steps (a ∷ []) reply replies command key name ids consumer w is some fit same model = absurd (omega (arith, ap length same))
  xack_steps (a ∷ b ∷ []) reply replies command key name ids consumer w is some fit same model = absurd (omega (arith, ap length same))
  xack_steps (a ∷ b ∷ c ∷ words) reply replies command key name ids consumer w is some fit same model =
      let named : IsNamed changes.Acknowledge (a ∷ b ∷ c ∷ words) = named_so a (b ∷ c ∷ words) command (codes "xack")
      changes.Acknowledge (ap (λ (ts : List (List ℕ)). get_or ts 0 []) same) is refl in
      let long : length words ≡ length ids =
      sym (length-map words (λ (v : Vec ℕ). v.items)) ∙ ap (λ (ts : List (List ℕ)). length (drop 3 ts)) same ∙ length-map ids id_text in
      acknowledged_reply key name ids consumer a b c words reply w fit (ap (λ (ts : List (List ℕ)). drop 1 ts) same) model
      (replies changes.Acknowledge named (omega (arith, some, long)))

  deleted_reply : (key name : List ℕ) (ids : List EntryId) (a b : Vec ℕ) (words : List (Vec ℕ)) (reply : Reply) (w : World Fields)
      → AreFit ids → texts_of (b ∷ words) ≡ key ∷ words_of_ids ids
      → IsModelIn key name (map seen_stream old) w → Replies changes.DeleteEntries (a ∷ b ∷ words) now old new reply
      → (n : ℕ) × (reply ≡ Done (count_answer n)) × IsModelIn key name (map seen_stream new) (run (map Delete (words_of_ids ids)) w)
      × OthersStay key (map seen_stream old) (map seen_stream new)
  deleted_reply key name ids a b words (Done answer) w fit same model does =
      let law = xdel_is_the_events key name ids (b ∷ words) answer old new w fit same does model in
      (law.0, ap Done law.1, law.2, deleted_others key (words_of_ids ids) b words answer same does)
  deleted_reply key name ids a b words (Refused text) w fit same model (e, apart, may) =
      absurd (apart (may (omega arith) ids fit (ap (λ (ts : List (List ℕ)). drop 1 ts) same)))
  deleted_reply key name ids a b words (Executed outcomes) w fit same model never = absurd never

  pub xdel_steps : (words : List (Vec ℕ)) (reply : Reply) → Answers words reply
      → XdelSteps words reply (map seen_stream old) (map seen_stream new)
  xdel_steps [] reply replies command key name ids w is some fit same model = absurd (omega (arith, ap length same))
  xdel_steps (a ∷ []) reply replies command key name ids w is some fit same model = absurd (omega (arith, ap length same))
  xdel_steps (a ∷ b ∷ words) reply replies command key name ids w is some fit same model =
      let named : IsNamed changes.DeleteEntries (a ∷ b ∷ words) = named_so a (b ∷ words) command (codes "xdel")
      changes.DeleteEntries (ap (λ (ts : List (List ℕ)). get_or ts 0 []) same) is refl in
      let long : length words ≡ length ids =
      sym (length-map words (λ (v : Vec ℕ). v.items)) ∙ ap (λ (ts : List (List ℕ)). length (drop 2 ts)) same ∙ length-map ids id_text in
      deleted_reply key name ids a b words reply w fit (ap (λ (ts : List (List ℕ)). drop 1 ts) same) model
      (replies changes.DeleteEntries named (omega (arith, some, long)))

  pub xadd_steps : (words : List (Vec ℕ)) (reply : Reply) → Answers words reply
      → XaddSteps words reply (map seen_stream old) (map seen_stream new)
  xadd_steps [] reply replies command key name asked fields answer w is some same model done = absurd (omega (arith, ap length same))
  xadd_steps (a ∷ []) reply replies command key name asked fields answer w is some same model done = absurd (omega (arith, ap length same))
  xadd_steps (a ∷ b ∷ words) reply replies command key name asked fields answer w is some same model done =
      let named : IsNamed changes.Add (a ∷ b ∷ words) = named_so a (b ∷ words) command (codes "xadd")
      changes.Add (ap (λ (ts : List (List ℕ)). get_or ts 0 []) same) is refl in
      let long : length words ≡ length (asked ∷ fields) =
      sym (length-map words (λ (v : Vec ℕ). v.items)) ∙ ap (λ (ts : List (List ℕ)). length (drop 2 ts)) same in
      let does : IsXadd (a ∷ b ∷ words) now answer old new =
      subst (Replies changes.Add (a ∷ b ∷ words) now old new) done (replies changes.Add named (omega (arith, some, long))) in
      let law = xadd_is_the_event key name command asked fields (a ∷ b ∷ words) now answer old new w same does model in
      (law.0, law.1, added_others key name a b words answer w model (ap (λ (ts : List (List ℕ)). get_or ts 1 []) same) does)

  pub xautoclaim_steps : (words : List (Vec ℕ)) (reply : Reply) → Answers words reply
      → XautoclaimSteps words reply (map seen_stream old) (map seen_stream new)
  xautoclaim_steps [] reply replies command key name consumer others answer w is some same model numbered room known done =
      absurd (omega (arith, ap length same))
  xautoclaim_steps (a ∷ []) reply replies command key name consumer others answer w is some same model numbered room known done =
      absurd (omega (arith, ap length same))
  xautoclaim_steps (a ∷ b ∷ words) reply replies command key name consumer others answer w is some same model numbered room known done =
      let named : IsNamed changes.AutoClaim (a ∷ b ∷ words) = named_so a (b ∷ words) command (codes "xautoclaim")
      changes.AutoClaim (ap (λ (ts : List (List ℕ)). get_or ts 0 []) same) is refl in
      let texts : texts_of (b ∷ words) ≡ key ∷ name ∷ consumer ∷ others = ap (λ (ts : List (List ℕ)). drop 1 ts) same in
      let long : length words ≡ length (name ∷ consumer ∷ others) =
      sym (length-map words (λ (v : Vec ℕ). v.items)) ∙ ap (λ (ts : List (List ℕ)). length (drop 2 ts)) same in
      let does : IsXautoclaim (b ∷ words) now answer old new =
      subst (Replies changes.AutoClaim (a ∷ b ∷ words) now old new) done (replies changes.AutoClaim named (omega (arith, some, long))) in
      let law = xautoclaim_is_the_event key name consumer others (b ∷ words) now answer old new w texts does model numbered room known in
      let key_is : does.key ≡ key = sym (does.keyed b) ∙ ap (λ (ts : List (List ℕ)). get_or ts 0 []) texts in (
        does.claim.only_ids,
        law.0,
        law.1,
        law.2,
        λ none. does.plain (length-drop 5 (b ∷ words) ∙ omega (arith, none, long)),
        law.3,
        subst (λ (k : List ℕ). OthersStay k (map seen_stream old) (map seen_stream new)) key_is
            (others_stay does.key old new _ does.how),
      )
