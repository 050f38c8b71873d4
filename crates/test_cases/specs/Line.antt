-- How the bytes of an outcome are printed on one line.
use Rattle.std.specs.Prelude.{ℕ, ◌+◌, ◌/◌, ◌%◌, ◌==◌, List, [], ◌∷◌, ◌++◌, codes, nat_lt, if◌then◌else◌}

-- the code of a hexadecimal digit
abbrev pub digit_code : ℕ → ℕ
digit_code digit = if nat_lt digit 10 then digit + 48 else digit + 87

-- a line feed as `\n`, a tab as `\t`, another control character as `\xNN`, any other byte as it is
abbrev pub escape : ℕ → List ℕ
escape byte =
    if byte == 10 then codes "\\n"
    else if byte == 9 then codes "\\t"
    else if nat_lt byte 32 then codes "\\x" ++ digit_code (byte / 16) ∷ digit_code (byte % 16) ∷ []
    else byte ∷ []
