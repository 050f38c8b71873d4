-- Values of fields that are read as text or as numbers.
use Rattle.std.specs.Prelude.{ℕ, ℤ, List, Option, Some, None, Result, Ok, Err, ok_or, option_and_then, if◌then◌else◌}
use Rattle.std.specs.Str.{is_utf8}
use Rattle.redis_resp.specs.Number.{unsigned_of, signed_of, within, signed_within}
use Rattle.stream_in_place.specs.declared.field_value.FieldError.{FieldError}
use Rattle.stream_in_place.specs.declared.field_value.FieldError.TheVariants.{Missing, NotText, NotNumber}

-- the value as text, which is UTF-8
abbrev pub text_value : Option (List ℕ) → Result (List ℕ) FieldError
text_value None = Err Missing
text_value (Some v) = if is_utf8 v then Ok v else Err NotText

-- the value as a number of 64 bits
abbrev pub unsigned_value : Option (List ℕ) → Result ℕ FieldError
unsigned_value None = Err Missing
unsigned_value (Some v) = ok_or (option_and_then (within 64) (unsigned_of v)) NotNumber

-- the value as a number of 63 bits and a sign
abbrev pub signed_value : Option (List ℕ) → Result ℤ FieldError
signed_value None = Err Missing
signed_value (Some v) = ok_or (option_and_then (signed_within 63) (signed_of v)) NotNumber
