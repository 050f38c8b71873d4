-- A run of the program, in terms of its options and of its arguments.
use Rattle.std.specs.Prelude.{◌≡◌, ◌⊎◌, ◌++◌, [], ℕ, Bool, IfSome, IsTrue, List, None, Option, Some, codes, false, length, string_bytes, true}
use Rattle.std.specs.Option.{ForSome}
use Rattle.command_lines.specs.Words.{Text}
use Rattle.redis_connection.specs.Link.{Link}
use Rattle.stream_options.specs.declared.options.trim.StreamTrimStrategy.{StreamTrimStrategy}
use Rattle.worker_journal.specs.LastLines.{lines_of}
use Rattle.worker_producer.specs.Confirmed.{FinishedConfirmed}
use Rattle.worker_producer.specs.Last.{IsUntold, LastIs}
use Rattle.worker_producer.specs.Records.{Fields}
use Rattle.worker_producer.specs.declared.error.RunError.{RunError}
use Rattle.worker_producer.specs.declared.settings.Settings.{Settings}
use Rattle.stream_fill.specs.Base.{Keeps}
use Rattle.stream_fill.specs.Filled.{FillsNot}
use Rattle.stream_fill.specs.Options.{AreOptionsOf}
use Rattle.stream_fill.specs.Placed.{torn_of}
use Rattle.stream_fill.specs.Taken.{records_of}
use Rattle.stream_fill.specs.declared.options.Options.{Options}

-- the settings with this trimming of each XADD, if there is one
abbrev pub trimmed : Option StreamTrimStrategy → Settings → Settings
trimmed None settings = settings
trimmed (Some strategy) settings = record settings { trim = Some strategy }

-- the file of the base contains `base`, if its bytes are known, and no command was sent
pub record IsKeptIn (key : Text) (kept : Option Text) (old new : Link) (base : ℕ) : Type 0 where
  pub line : IfSome kept (λ bytes. Keeps key bytes (Some base))
  pub unasked : new ≡ old

-- The file of the base contains no base yet. `XINFO STREAM KEY` returned a last id whose first number is
-- `base`.
pub record IsLastOf (key : Text) (kept : Option Text) (old new : Link) (base : ℕ) : Type 0 where
  pub none : IfSome kept (λ bytes. Keeps key bytes None)
  pub second : ℕ
  pub last : LastIs key old new (base, second)

-- the settings have the base that was found for their stream, in the file or from the last id
pub record HasFoundBase (kept : Option Text) (first : Settings) (old new : Link) (settings : Settings) : Type 0 where
  pub base : ℕ
  pub based : settings ≡ record first { base = base }
  pub found : IsKeptIn (string_bytes first.key) kept old new base ⊎ IsLastOf (string_bytes first.key) kept old new base

-- Without `--onto` a session has the first settings, and no command was sent. With `--onto` it has the base
-- that was found for FILE.onto.
pub record StartsAt (content : Text → Option Text) (path : Text) (is_onto : Bool) (first : Settings) (old new : Link)
    (settings : Settings) : Type 0 where
  pub plain : is_onto ≡ false → (settings ≡ first) × (new ≡ old)
  pub onto : is_onto ≡ true → HasFoundBase (content (path ++ codes ".onto")) first old new settings

-- A run with these options found its base and counted the lines of FILE. `way` holds for its session with the
-- records of these lines.
pub record HasSession (way : Settings → Option (List Fields) → ℕ → Link → Link → Type 0) (content : Text → Option Text)
    (o : Options) (old new : Link) : Type 0 where
  pub settings : Settings
  pub begun : Link
  pub starts : StartsAt content (string_bytes o.path) o.is_onto (trimmed o.trim o.settings) old begun settings
  pub count : ℕ
  pub counted : ForSome (content (string_bytes o.path)) (λ bytes. count ≡ length (lines_of bytes))
  pub went : way settings (records_of o.form (content (string_bytes o.path))) count begun new

-- a run with these options added the records of all lines of FILE, which has no bytes after its last line feed
pub record FillsBy (content : Text → Option Text) (o : Options) (old new : Link) : Type 0 where
  pub session : HasSession (FinishedConfirmed o.wait) content o old new
  pub whole : ForSome (content (string_bytes o.path)) (λ bytes. torn_of bytes ≡ [])

-- Only `XINFO STREAM KEY` was sent. It returned a last id, or the error says why there is none.
abbrev pub AsksLast : Text → Link → Link → Type 0
AsksLast key old new = ((last : ℕ × ℕ) × LastIs key old new last) ⊎ ((e : RunError) × IsUntold key old new e)

-- a run with `--onto` ended before its session, and sent only `XINFO STREAM KEY`
pub record StopsAtBase (is_onto : Bool) (key : Text) (old new : Link) : Type 0 where
  pub onto : IsTrue is_onto
  pub asks : AsksLast key old new

-- a run with these options ended before its session, or its session did not add all lines
abbrev pub StopsBy : (Text → Option Text) → Options → Link → Link → Type 0
StopsBy content o old new = StopsAtBase o.is_onto (string_bytes (trimmed o.trim o.settings).key) old new
    ⊎ HasSession (FillsNot o.wait) content o old new

-- the arguments specify options, and a run with them added all lines
pub record FillsAsSaid (content : Text → Option Text) (words : List Text) (old new : Link) : Type 0 where
  pub options : Options
  pub said : AreOptionsOf words options
  pub fills : FillsBy content options old new

-- the arguments specify options, and a run with them did not add all lines
pub record StopsAsSaid (content : Text → Option Text) (words : List Text) (old new : Link) : Type 0 where
  pub options : Options
  pub said : AreOptionsOf words options
  pub stops : StopsBy content options old new
