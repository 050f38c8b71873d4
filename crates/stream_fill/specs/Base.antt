-- The base of records that are added after the entries of a stream. The base is stored in a file.
use Rattle.std.specs.Prelude.{◌≡◌, ◌⊎◌, ℕ, ◌<◌, ◌^◌, List, [], ◌∷◌, ◌++◌, decimal, Option, Some, None, IfSome}
use Rattle.worker_journal.specs.Device.{Only}
use Rattle.worker_journal.specs.Log.{IsOfSync}
use Rattle.worker_journal.specs.declared.error.LogError.TheVariants as logs
use Rattle.redis_connection.specs.Link.{Link}
use Rattle.worker_producer.specs.Last.{LastIs, IsUntold}
use Rattle.stream_fill.specs.declared.kept_base.BaseError.{BaseError}
use Rattle.stream_fill.specs.declared.kept_base.BaseError.TheVariants as causes

-- the line of a base: the digits, a space, the key and a line feed
abbrev pub base_line : List ℕ → ℕ → List ℕ
base_line key base = decimal base ++ 32 ∷ (key ++ 10 ∷ [])

-- the bytes begin with the number `n`, up to a space or the end. For no bytes `n` is 0.
abbrev pub BeginsWithNumber : List ℕ → ℕ → Type 0
BeginsWithNumber bytes n =
    ((bytes ≡ []) × (n ≡ 0)) ⊎ ((bytes ≡ decimal n) ⊎ ((rest : List ℕ) × (bytes ≡ decimal n ++ 32 ∷ rest)))

-- `bytes` and then `rest` are the line of some base
abbrev pub IsFront : List ℕ → List ℕ → List ℕ → Type 0
IsFront key bytes rest = (base : ℕ) × (base < 2 ^ 64) × (base_line key base ≡ bytes ++ rest)

-- the base in the bytes for the stream `key`. It is `None` if the bytes are the beginning of the line of a
-- base.
abbrev pub Keeps : List ℕ → List ℕ → Option ℕ → Type 0
Keeps key bytes (Some base) = bytes ≡ base_line key base
Keeps key bytes None = (next : ℕ) × (rest : List ℕ) × IsFront key bytes (next ∷ rest)

-- the bytes are other content: the line of no base begins with them
abbrev pub IsOther : List ℕ → List ℕ → Type 0
IsOther key bytes = (rest : List ℕ) → IsFront key bytes rest → ⊥

-- why the bytes have no base
abbrev pub IsUnkept : List ℕ → List ℕ → BaseError → Type 0
IsUnkept key bytes causes.OtherFile = IsOther key bytes
IsUnkept key bytes (causes.File e) = e ≡ logs.Memory
IsUnkept key bytes (causes.Ask e) = ⊥

-- why the base could not be read: the file has other content, or could not be read
abbrev pub IsUnread : Option (List ℕ) → List ℕ → BaseError → Type 0
IsUnread seen key causes.OtherFile = IfSome seen (IsOther key)
IsUnread seen key (causes.File e) = Unit {0}
IsUnread seen key (causes.Ask e) = ⊥

-- the error is that of the file, or memory ran out
abbrev pub IsOfFile : BaseError → Type 0
IsOfFile causes.OtherFile = ⊥
IsOfFile (causes.File e) = Unit {0}
IsOfFile (causes.Ask e) = ⊥

module _ {D : Type 0} (seen : D → Option (List ℕ)) (may_leave : D → List ℕ → Type 0) (is_sound : D → Type 0)
    (key : List ℕ) where
  -- The file has this base, also after a crash if the file is sound. No command was sent, and its bytes are unchanged.
  pub record IsKept (file file' : D) (old new : Link) (base : ℕ) : Type 0 where
    pub line : IfSome (seen file) (λ bytes. Keeps key bytes (Some base))
    pub same : seen file' ≡ seen file
    pub durable : is_sound file → IfSome (seen file) (λ bytes. Only bytes (may_leave file'))
    pub unasked : new ≡ old

  -- The file had no base. The base is the first number of the stream's last id, and the file now has it, also
  -- after a crash.
  pub record IsAsked (file file' : D) (old new : Link) (base : ℕ) : Type 0 where
    pub none : IfSome (seen file) (λ bytes. Keeps key bytes None)
    pub second : ℕ
    pub last : LastIs key old new (base, second)
    pub line : IfSome (seen file) (λ _. seen file' ≡ Some (base_line key base))
    pub durable : IfSome (seen file) (λ _. Only (base_line key base) (may_leave file'))

  -- a base was found in the file, or was read from the server
  abbrev pub FindsBase : D → D → Link → Link → ℕ → Type 0
  FindsBase file file' old new base = IsKept file file' old new base ⊎ IsAsked file file' old new base

module _ {D : Type 0} (seen : D → Option (List ℕ)) (key : List ℕ) where
  -- Why there is no base. `OtherFile`: the file has other content, and is unchanged. `File`: no command was sent, and
  -- the file could not be read and is unchanged, or could not be synced and has the same bytes; or it could not be
  -- written after the command. `Ask`: the last id could not be read from the server, and the file is unchanged.
  abbrev pub HasNoBase : D → D → Link → Link → BaseError → Type 0
  HasNoBase file file' old new causes.OtherFile = IfSome (seen file) (IsOther key) × (file' ≡ file) × (new ≡ old)
  HasNoBase file file' old new (causes.File e) =
      ((new ≡ old) × ((file' ≡ file) ⊎ (IsOfSync e × (seen file' ≡ seen file))))
      ⊎ ((last : ℕ × ℕ) × LastIs key old new last)
  HasNoBase file file' old new (causes.Ask e) =
      IfSome (seen file) (λ bytes. Keeps key bytes None) × (file' ≡ file) × IsUntold key old new e
