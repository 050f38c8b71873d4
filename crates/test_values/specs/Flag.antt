-- A flag of a user's own: the text `yes` or `no`.
use Rattle.std.specs.Prelude.{◌≡◌, refl, ℕ, List, Bool, true, false, Option, Some, None, codes, if◌then◌else◌}
use Rattle.std.specs.Str.{bytes_eq}
use Rattle.redis_resp.specs.Tree.{Tree, bulk, simple, verbatim, plain}

-- the word of a flag
abbrev pub flag_word : Bool → List ℕ
flag_word flag = if flag then codes "yes" else codes "no"

-- a word as a flag
abbrev pub flag_in : List ℕ → Option Bool
flag_in word = if bytes_eq word (codes "yes") then Some true
    else (if bytes_eq word (codes "no") then Some false else None)

-- the flag of a value with no attribute around it; `OK` and decimals, which are texts too, are not flags
abbrev pub flag_of_plain : Tree → Option Bool
flag_of_plain (bulk bytes) = flag_in bytes
flag_of_plain (simple text) = flag_in text
flag_of_plain (verbatim _ text) = flag_in text
flag_of_plain _ = None

-- a flag as a text
abbrev pub flag_reading : Tree → Option Bool
flag_reading t = flag_of_plain (plain t)

-- a flag that was written is read back
pub written_and_read : (flag : Bool) → flag_reading (bulk (flag_word flag)) ≡ Some flag
written_and_read true = refl
written_and_read false = refl
