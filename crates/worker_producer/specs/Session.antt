-- A session of a producer over a connection: rounds, in each of which it sends commands and takes all replies.
use Rattle.std.specs.Prelude.{◌≡◌, Bool, true, false, ℕ, zero, suc, ◌<◌, ◌≤◌, List, [], ◌∷◌, length, Option}
use Rattle.redis_wire.specs.Reply as wire
use Rattle.redis_connection.specs.Link.{Link, Sends, SendsFront, IsEnded, IsFaulty}
use Rattle.redis_connection.specs.Passing.{ReceivesAnswer, AwaitsAnswer}
use Rattle.model_server.specs.Once.Feed.{knows}
use Rattle.worker_producer.specs.Learnt.{Took, Untaken}
use Rattle.worker_producer.specs.Machine.{Standing, idle, Asks, AsksNone}
use Rattle.worker_producer.specs.Records.{Fields, AreAll}
use Rattle.worker_producer.specs.declared.error.RunError.{RunError}
use Rattle.worker_producer.specs.declared.error.RunError.TheVariants as causes
use Rattle.worker_producer.specs.declared.settings.Settings.{Settings}
use Rattle.worker_producer.specs.declared.stage.Asked.{Asked}
use Rattle.worker_producer.specs.declared.stage.Asked.TheVariants as asked

-- these bytes begin with `+`
abbrev pub BeginsAsLine : List ℕ → Type 0
BeginsAsLine [] = ⊥
BeginsAsLine (b ∷ bytes) = b ≡ 43

module _ (base count : ℕ) where
  -- a reply was received, and was taken
  abbrev pub HearsOne : Link → Link → Standing → Standing → Type 0
  HearsOne old new w x = (a : wire.Answer) × ReceivesAnswer old new a × Took base count w x a

  -- this number of replies were received, and each was taken
  abbrev pub Hears : ℕ → Link → Link → Standing → Standing → Type 0
  Hears zero old new w x = (new ≡ old) × (x ≡ w)
  Hears (suc n) old new w x = (l : Link) × (y : Standing) × (a : wire.Answer) × Hears n old l w y
      × ReceivesAnswer l new a × Took base count y x a

  -- all expected replies were received
  abbrev pub HearsAll : Link → Link → Standing → Standing → Type 0
  HearsAll old new w x = Hears w.coming old new w x

  -- a reply was not received, for the reason in the error; or it was, and was refused
  abbrev pub Unheard : Link → Link → Standing → RunError → Type 0
  Unheard old new w (causes.Request e) = ⊥
  Unheard old new w (causes.Send e) = ⊥
  Unheard old new w (causes.Receive e) = AwaitsAnswer old new × (IsEnded new e × IsFaulty new.held e)
  Unheard old new w (causes.Answer e) = (x : Standing) × (a : wire.Answer) × ReceivesAnswer old new a
      × Untaken base count w x a e

  -- some replies were taken, and the next one was not received, or was refused
  abbrev pub FailsToHear : Link → Link → Standing → RunError → Type 0
  FailsToHear old new w e = (n : ℕ) × (l : Link) × (x : Standing) × Hears n old l w x × Unheard l new x e

module _ (s : Settings) (known : Option (List Fields)) (count : ℕ) where
  -- a round: it sent this command, and all replies were received
  pub record IsRound (old new : Link) (w x : Standing) (a : Asked) : Type 0 where
    pub bytes : List ℕ
    pub link : Link
    pub standing : Standing
    pub asks : Asks s known [] bytes w standing a
    pub sends : Sends old link bytes
    pub hears : HearsAll s.base count link new standing x

  -- its commands were not sent completely
  pub record IsUnsent (old new : Link) (w : Standing) : Type 0 where
    pub bytes : List ℕ
    pub standing : Standing
    pub asked : Asked
    pub asks : Asks s known [] bytes w standing asked
    pub sends : SendsFront old new bytes

  -- its commands were sent, and not all replies were received
  pub record IsUnanswered (old new : Link) (w : Standing) (e : RunError) : Type 0 where
    pub bytes : List ℕ
    pub link : Link
    pub standing : Standing
    pub asked : Asked
    pub asks : Asks s known [] bytes w standing asked
    pub sends : Sends old link bytes
    pub fails : FailsToHear s.base count link new standing e

  -- how a round breaks off
  abbrev pub Breaks : Link → Link → Standing → RunError → Type 0
  Breaks old new w (causes.Request e) = AsksNone s known w e × (new ≡ old)
  Breaks old new w (causes.Send e) = IsUnsent old new w
  Breaks old new w e = IsUnanswered old new w e

  -- this number of rounds, one after the other, each of which sent something
  abbrev pub Rounds : ℕ → Link → Link → Standing → Standing → Type 0
  Rounds zero old new w x = (new ≡ old) × (x ≡ w)
  Rounds (suc n) old new w x = (l : Link) × (y : Standing) × (a : Asked) × Rounds n old l w y × IsRound l new y x a

  -- no record is left after those that it knows to be added
  abbrev pub AllIn : Standing → Type 0
  AllIn x = (m : ℕ) × (x ≡ record { stage = knows m; coming = 0 })
      × ((all : List Fields) × AreAll known all × (0 < s.batch → length all ≤ m))

  -- it started without the last id, made some rounds, and the next one sent nothing
  pub record Finished (old new : Link) : Type 0 where
    pub count_of : ℕ
    pub link : Link
    pub standing : Standing
    pub ends : Standing
    pub rounds : Rounds count_of old link idle standing
    pub last : IsRound link new standing ends asked.Nothing

  -- it started so, and made rounds until one sent nothing, since all records were added, or as many as were allowed
  pub record Ran (most : ℕ) (old new : Link) (x : Standing) (done : Bool) : Type 0 where
    pub count_of : ℕ
    pub rounds : Rounds count_of old new idle x
    pub all : done ≡ true → AllIn x
    pub finished : done ≡ true → Finished old new
    pub whole : done ≡ false → count_of ≡ most

  -- it started so, made some rounds, and the next one broke off
  pub record Broke (old new : Link) (e : RunError) : Type 0 where
    pub count_of : ℕ
    pub link : Link
    pub standing : Standing
    pub rounds : Rounds count_of old link idle standing
    pub breaks : Breaks link new standing e
