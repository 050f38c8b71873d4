-- The result that C receives for a packed command.
use Rattle.std.specs.Prelude.{◌≡◌, ◌<◌, ℕ, List, [], length, take, Option, Some, None}
use Rattle.redis_wire.specs.Packed.{command_bytes}
use Rattle.redis_wire.specs.PackedArgs.{IsTooLarge}
use Rattle.redis_c.specs.declared.packing.Packing.{Packing}
use Rattle.redis_c.specs.declared.packing.Packing.TheVariants as packings

-- the status code of packing; no two kinds have the same
abbrev pub number : Packing → ℕ
number (packings.Written len) = 0
number (packings.Room len) = 1
number packings.Memory = 5
number packings.TooLarge = 6
number packings.Outside = 7
number packings.Nothing = 8
number packings.Refused = 9

-- the number of bytes that were written, or are needed
abbrev pub len_of : Packing → ℕ
len_of (packings.Written len) = len
len_of (packings.Room len) = len
len_of packings.Memory = 0
len_of packings.TooLarge = 0
len_of packings.Outside = 0
len_of packings.Nothing = 0
len_of packings.Refused = 0

-- the buffer begins with the bytes, and their number is returned; or more are needed than it has room for, and that
-- number is returned
abbrev pub IsWritten : List ℕ → List ℕ → Packing → Type 0
IsWritten bytes out (packings.Written len) = (length bytes ≡ len) × (take len out ≡ bytes)
IsWritten bytes out (packings.Room len) = (length bytes ≡ len) × (length out < len)
IsWritten bytes out _ = ⊥

-- The buffer begins with the command of these arguments, or more bytes are needed for it, whose number is returned;
-- memory ran out; or an argument is too large.
abbrev pub IsPacking : List (List ℕ) → List ℕ → Packing → Type 0
IsPacking args out packings.Memory = Unit {0}
IsPacking args out packings.TooLarge = IsTooLarge args
IsPacking args out p = IsWritten (command_bytes args) out p

-- Of texts at places: a place is outside the bytes, or there is no text, or the command of the
-- texts is packed.
abbrev pub IsPackingOf : {A : Type 0} → (List A → List (List ℕ)) → Option (List A) → List ℕ → Packing → Type 0
IsPackingOf args texts out packings.Memory = Unit {0}
IsPackingOf args texts out packings.Outside = texts ≡ None
IsPackingOf args texts out packings.Nothing = texts ≡ Some []
IsPackingOf args None out p = ⊥
IsPackingOf args (Some ts) out p = IsPacking (args ts) out p

-- Of settings: they are invalid, or their command is packed.
abbrev pub IsPackingWith : {S : Type 0} → (S → List (List ℕ)) → Option S → List ℕ → Packing → Type 0
IsPackingWith args settings out packings.Memory = Unit {0}
IsPackingWith args settings out packings.Refused = settings ≡ None
IsPackingWith args None out p = ⊥
IsPackingWith args (Some s) out p = IsPacking (args s) out p

-- Of settings and of texts at places: the settings are invalid, or the command of them and of the texts is packed.
abbrev pub IsPackingBy : {S A : Type 0} → (S → List A → List (List ℕ)) → Option S → Option (List A) → List ℕ → Packing
    → Type 0
IsPackingBy args settings texts out packings.Memory = Unit {0}
IsPackingBy args settings texts out packings.Refused = settings ≡ None
IsPackingBy args None texts out p = ⊥
IsPackingBy args (Some s) texts out p = IsPackingOf (args s) texts out p

-- The status code of packing is returned to C, and the number of bytes that were written or are needed.
pub record IsPackedAs (P : Packing → Type 0) (n count : ℕ) : Type 0 where
  pub packing : Packing
  pub told : n ≡ number packing
  pub counted : count ≡ len_of packing
  pub is : P packing
