-- WAIT, the meaning of its reply, and rounds with one after each.
use Rattle.std.specs.Prelude.{◌≡◌, ℕ, zero, suc, List, Option, Some, None}
use Rattle.redis_connection.specs.Link.{Link}
use Rattle.redis_connection.specs.Wait.{IsConfirmed, IsUnconfirmed}
use Rattle.redis_connection.specs.declared.confirming.ConfirmError.{ConfirmError}
use Rattle.redis_connection.specs.declared.wait.Wait.{Wait}
use Rattle.worker_producer.specs.Machine.{Standing, idle}
use Rattle.worker_producer.specs.Records.{Fields}
use Rattle.worker_producer.specs.Session.{IsRound, Breaks, Finished, Broke}
use Rattle.worker_producer.specs.declared.confirmed.ConfirmedError.{ConfirmedError}
use Rattle.worker_producer.specs.declared.confirmed.ConfirmedError.TheVariants as ends
use Rattle.worker_producer.specs.declared.error.RunError.{RunError}
use Rattle.worker_producer.specs.declared.settings.Settings.{Settings}
use Rattle.worker_producer.specs.declared.stage.Asked.{Asked}
use Rattle.worker_producer.specs.declared.stage.Asked.TheVariants as asked

-- after a round with this command, its writes are confirmed, if a WAIT is given and it sent anything
abbrev pub Confirms : Option Wait → Asked → Link → Link → Type 0
Confirms None a old new = new ≡ old
Confirms (Some w) asked.Nothing old new = new ≡ old
Confirms (Some w) asked.LastId old new = IsConfirmed w old new
Confirms (Some w) asked.Records old new = IsConfirmed w old new

-- after a round with this command, its writes are not confirmed, though a WAIT is given
abbrev pub ConfirmsNot : Option Wait → Asked → Link → Link → ConfirmError → Type 0
ConfirmsNot None a old new e = ⊥
ConfirmsNot (Some w) asked.Nothing old new e = ⊥
ConfirmsNot (Some w) asked.LastId old new e = IsUnconfirmed w old new e
ConfirmsNot (Some w) asked.Records old new e = IsUnconfirmed w old new e

module _ (wait : Option Wait) (s : Settings) (known : Option (List Fields)) (count : ℕ) where
  -- a round that is confirmed
  pub record IsConfirmedRound (old new : Link) (v x : Standing) (a : Asked) : Type 0 where
    pub link : Link
    pub round : IsRound s known count old link v x a
    pub confirms : Confirms wait a link new

  -- a round that is not confirmed
  pub record IsUnconfirmedRound (old new : Link) (v : Standing) (e : ConfirmError) : Type 0 where
    pub link : Link
    pub standing : Standing
    pub asked : Asked
    pub round : IsRound s known count old link v standing asked
    pub confirms_not : ConfirmsNot wait asked link new e

  -- how such a round breaks off
  abbrev pub BreaksConfirmed : Link → Link → Standing → ConfirmedError → Type 0
  BreaksConfirmed old new v (ends.Round e) = Breaks s known count old new v e
  BreaksConfirmed old new v (ends.Unconfirmed e) = IsUnconfirmedRound old new v e

  -- this number of rounds, one after the other, each of which sent something and is confirmed
  abbrev pub ConfirmedRounds : ℕ → Link → Link → Standing → Standing → Type 0
  ConfirmedRounds zero old new v x = (new ≡ old) × (x ≡ v)
  ConfirmedRounds (suc n) old new v x = (l : Link) × (y : Standing) × (a : Asked) × ConfirmedRounds n old l v y
      × IsConfirmedRound l new y x a

  -- it started without the last id, made such rounds, and the next one sent nothing
  pub record FinishedConfirmed (old new : Link) : Type 0 where
    pub count_of : ℕ
    pub link : Link
    pub standing : Standing
    pub ends : Standing
    pub rounds : ConfirmedRounds count_of old link idle standing
    pub last : IsConfirmedRound link new standing ends asked.Nothing

  -- it started without the last id, made such rounds, and the next one broke off
  pub record BrokeConfirmed (old new : Link) (e : ConfirmedError) : Type 0 where
    pub count_of : ℕ
    pub link : Link
    pub standing : Standing
    pub rounds : ConfirmedRounds count_of old link idle standing
    pub breaks : BreaksConfirmed link new standing e

-- without a WAIT such a session is one of rounds
abbrev pub UnconfirmedAreRounds : Type 0
UnconfirmedAreRounds = (s : Settings) (known : Option (List Fields)) (count : ℕ) (old new : Link)
    → FinishedConfirmed None s known count old new → Finished s known count old new

-- the same if a round breaks off
abbrev pub UnconfirmedBreakOff : Type 0
UnconfirmedBreakOff = (s : Settings) (known : Option (List Fields)) (count : ℕ) (old new : Link) (e : RunError)
    → BrokeConfirmed None s known count old new (ends.Round e) → Broke s known count old new e

-- without a WAIT no round is unconfirmed
abbrev pub NoneIsUnconfirmed : Type 0
NoneIsUnconfirmed = (s : Settings) (known : Option (List Fields)) (count : ℕ) (old new : Link) (e : ConfirmError)
    → BrokeConfirmed None s known count old new (ends.Unconfirmed e) → ⊥
