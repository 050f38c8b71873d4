-- Settings in which every unset value is 0.
use Rattle.std.specs.Prelude.{◌≡◌, ℕ, Bool, false}
use Rattle.redis_wire.specs.declared.place.Span.{Span}
use Rattle.redis_c.specs.declared.commands.ReadSettings.{ReadSettings}
use Rattle.redis_c.specs.declared.server.GroupPlace.{GroupPlace}
use Rattle.redis_c.specs.declared.settings.AddSettings.{AddSettings}
use Rattle.redis_c.specs.declared.settings.AutoClaimSettings.{AutoClaimSettings}
use Rattle.redis_c.specs.declared.settings.ClaimSettings.{ClaimSettings}
use Rattle.redis_c.specs.declared.settings.TrimSettings.{TrimSettings}
use Rattle.redis_c.specs.Outcome.{nowhere}

-- the number is 0 if it is not set
abbrev pub IsZeroUnless : Bool → ℕ → Type 0
IsZeroUnless is_set n = is_set ≡ false → n ≡ 0

-- the place is empty if it is not set
abbrev pub IsNowhereUnless : Bool → Span → Type 0
IsNowhereUnless is_set place = is_set ≡ false → place ≡ nowhere

-- only the chosen bound is set, and a limit and `~` only with a bound
pub record IsPlainTrim (s : TrimSettings) : Type 0 where
  pub maxlen : (s.bound ≡ 1 → ⊥) → s.maxlen ≡ 0
  pub minid : (s.bound ≡ 2 → ⊥) → s.minid ≡ nowhere
  pub mode : s.bound ≡ 0 → s.approximate ≡ false
  pub limited : s.bound ≡ 0 → s.has_limit ≡ false
  pub limit : IsZeroUnless s.has_limit s.limit

-- only the texts for detecting duplicates in this way are set
pub record IsPlainAdd (s : AddSettings) : Type 0 where
  pub producer : s.idempotency ≡ 0 → s.producer ≡ nowhere
  pub idempotent_id : (s.idempotency ≡ 1 → ⊥) → s.idempotent_id ≡ nowhere
  pub trim : IsPlainTrim s.trim

-- the same for a claim
pub record IsPlainClaim (s : ClaimSettings) : Type 0 where
  pub idle : IsZeroUnless s.has_idle s.idle
  pub time : IsZeroUnless s.has_time s.time
  pub retry : IsZeroUnless s.has_retry s.retry
  pub lastid : IsNowhereUnless s.has_lastid s.lastid

-- the same for an automatic claim
pub record IsPlainAutoClaim (s : AutoClaimSettings) : Type 0 where
  pub count : IsZeroUnless s.has_count s.count

-- the same for a read
pub record IsPlainRead (s : ReadSettings) : Type 0 where
  pub count : IsZeroUnless s.has_count s.count
  pub block : IsZeroUnless s.has_block s.block
  pub claim : IsZeroUnless s.has_claim s.claim

-- the same for a group
pub record IsPlainGroup (place : GroupPlace) : Type 0 where
  pub group : IsNowhereUnless place.has_group place.group
  pub consumer : IsNowhereUnless place.has_group place.consumer
