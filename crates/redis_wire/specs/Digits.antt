-- Digits at the start of bytes.
use Rattle.std.specs.Prelude.{◌≡◌, ℕ, List, ◌++◌, true}
use Rattle.std.specs.Str.{all_ascii_digits}
use Rattle.redis_resp.specs.Number.{number_of_digits}

-- ASCII digits that write this number, or nothing for 0
pub record AreDigits (digits : List ℕ) (number : ℕ) : Type 0 where
  pub each : all_ascii_digits digits ≡ true
  pub weighs : number_of_digits digits ≡ number

-- the bytes are the digits of this number, or none for 0, and then the rest
pub record DigitsAt (bytes : List ℕ) (number : ℕ) (rest : List ℕ) : Type 0 where
  pub digits : List ℕ
  pub is : bytes ≡ digits ++ rest
  pub are : AreDigits digits number
