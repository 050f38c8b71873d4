-- The escapes of a text in a line.
use Rattle.std.specs.Prelude.{◌≡◌, ◌≢◌, ℕ, List, [], ◌∷◌, if◌then◌else◌, ◌==◌}
use Rattle.std.specs.List.{flat_map, AllByRecursion}

-- the escape of a byte. A backslash, a tab, a line feed and a carriage return are written as `\\`, `\t`, `\n`
-- and `\r`. Other bytes stay as they are
abbrev pub escaped_byte : ℕ → List ℕ
escaped_byte b =
    if b == 92 then 92 ∷ 92 ∷ []
    else if b == 9 then 92 ∷ 116 ∷ []
    else if b == 10 then 92 ∷ 110 ∷ []
    else if b == 13 then 92 ∷ 114 ∷ []
    else b ∷ []

-- the text with each byte escaped
abbrev pub escaped : List ℕ → List ℕ
escaped text = flat_map escaped_byte text

-- the byte of an escape, where `c` is the byte after the backslash
abbrev pub byte_of : ℕ → ℕ
byte_of c = if c == 116 then 9 else if c == 110 then 10 else if c == 114 then 13 else c

-- the text without its escapes
abbrev pub unescaped : List ℕ → List ℕ
unescaped [] = []
unescaped (b ∷ []) = b ∷ []
unescaped (b ∷ c ∷ rest) = if b == 92 then byte_of c ∷ unescaped rest else b ∷ unescaped (c ∷ rest)

-- the byte is not a tab, a line feed or a carriage return
abbrev pub IsPlain : ℕ → Type 0
IsPlain b = (b ≢ 9) × (b ≢ 10) × (b ≢ 13)

-- the law: unescaping an escaped text returns the text
abbrev pub TextsComeBack : Type 0
TextsComeBack = (text : List ℕ) → unescaped (escaped text) ≡ text

-- the law: an escaped text has no tab, no line feed and no carriage return
abbrev pub TextsArePlain : Type 0
TextsArePlain = (text : List ℕ) → AllByRecursion IsPlain (escaped text)
