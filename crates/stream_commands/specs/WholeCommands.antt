-- Whole commands by their parts, and what their arguments determine.
use Rattle.std.specs.Prelude.{◌≡◌, ◌<◌, ◌^◌, ℕ, false, List, [], ◌∷◌, ◌++◌, map, codes, decimal}
use Rattle.stream_commands.specs.Read.{read_word}
use Rattle.stream_options.specs.Add.{Add, AddFits, add_sentence, add_words}
use Rattle.stream_options.specs.AutoClaim.{AutoClaim, AutoClaimFits, autoclaim_sentence}
use Rattle.stream_options.specs.Claim.{Claim, ClaimFits, claim_sentence, claim_words}
use Rattle.stream_options.specs.Read.{Read, ReadFits, CountAlike, read_sentence}
use Rattle.stream_options.specs.Trim.{Trim, TrimFits, trim_sentence}
use Rattle.stream_options.specs.Words.{among, IsUsize}

-- the arguments of a command determine its parts, as far as they are compared
abbrev pub IsDetermined : {T : Type 0} → (T → Type 0) → (T → List (List ℕ)) → (T → T → Type 0) → Type 0
IsDetermined {T = T} Fits list Alike = (a b : T) → Fits a → Fits b → list a ≡ list b → Alike a b

-- the argument is none of the fixed words of the options, as is true of the id of an entry
abbrev pub IsApart : List (List ℕ) → List ℕ → Type 0
IsApart words arg = among words arg ≡ false

-- so is each text that begins with a number, such as an id of a time and a sequence number
abbrev pub NumbersAreApart : List (List ℕ) → Type 0
NumbersAreApart words = (n : ℕ) (rest : List ℕ) → n < 2 ^ 64 → IsApart words (decimal n ++ rest)

-- each of the arguments is
abbrev pub AreApart : List (List ℕ) → List (List ℕ) → Type 0
AreApart words [] = Unit {0}
AreApart words (arg ∷ args) = IsApart words arg × AreApart words args

-- ---- XADD

-- its key, its settings, the id and the fields of the entry
pub record AddParts : Type 0 where
  pub key : List ℕ
  pub options : Add
  pub id : List ℕ
  pub fields : List (List ℕ)

-- `XADD key [options] id field value ..`
abbrev pub add_list : AddParts → List (List ℕ)
add_list c = codes "XADD" ∷ c.key ∷ (add_sentence c.options ++ c.id ∷ c.fields)

-- the settings are in their ranges, and the id is no fixed word
pub record AddPartsFit (c : AddParts) : Type 0 where
  pub options : AddFits c.options
  pub id : IsApart add_words c.id

-- all parts are equal
pub record SameAdd (a b : AddParts) : Type 0 where
  pub key : a.key ≡ b.key
  pub options : a.options ≡ b.options
  pub id : a.id ≡ b.id
  pub fields : a.fields ≡ b.fields

-- ---- XTRIM

-- its key and its settings
pub record TrimParts : Type 0 where
  pub key : List ℕ
  pub options : Trim

-- `XTRIM key options`
abbrev pub trim_list : TrimParts → List (List ℕ)
trim_list c = codes "XTRIM" ∷ c.key ∷ trim_sentence c.options

-- the settings are in their ranges
abbrev pub TrimPartsFit : TrimParts → Type 0
TrimPartsFit c = TrimFits c.options

-- all parts are equal
pub record SameTrim (a b : TrimParts) : Type 0 where
  pub key : a.key ≡ b.key
  pub options : a.options ≡ b.options

-- ---- XREAD and XREADGROUP

-- its settings, and of each stream the key and the id
pub record ReadParts : Type 0 where
  pub options : Read
  pub streams : List (List ℕ × List ℕ)

-- `XREAD [options] STREAMS key .. id ..`, or `XREADGROUP` if a group is set
abbrev pub read_list : ReadParts → List (List ℕ)
read_list c =
    read_word c.options
    ∷ (read_sentence c.options ++ codes "STREAMS" ∷ (map (λ s. s.0) c.streams ++ map (λ s. s.1) c.streams))

-- the settings are in their ranges, and the names are single
abbrev pub ReadPartsFit : ReadParts → Type 0
ReadPartsFit c = ReadFits c.options

-- the settings that count are equal, and the streams
pub record SameRead (a b : ReadParts) : Type 0 where
  pub options : CountAlike a.options b.options
  pub streams : a.streams ≡ b.streams

-- ---- XCLAIM

-- its key, group, consumer and least idle time, the ids of the entries, and its settings
pub record ClaimParts : Type 0 where
  pub key : List ℕ
  pub group : List ℕ
  pub consumer : List ℕ
  pub min_idle : ℕ
  pub ids : List (List ℕ)
  pub options : Claim

-- `XCLAIM key group consumer min-idle id .. [options]`
abbrev pub claim_list : ClaimParts → List (List ℕ)
claim_list c =
    codes "XCLAIM" ∷ c.key ∷ c.group ∷ c.consumer ∷ decimal c.min_idle ∷ (c.ids ++ claim_sentence c.options)

-- numbers are in their ranges, and no id is a fixed word
pub record ClaimPartsFit (c : ClaimParts) : Type 0 where
  pub min_idle : IsUsize c.min_idle
  pub ids : AreApart claim_words c.ids
  pub options : ClaimFits c.options

-- all parts are equal
pub record SameClaim (a b : ClaimParts) : Type 0 where
  pub key : a.key ≡ b.key
  pub group : a.group ≡ b.group
  pub consumer : a.consumer ≡ b.consumer
  pub min_idle : a.min_idle ≡ b.min_idle
  pub ids : a.ids ≡ b.ids
  pub options : a.options ≡ b.options

-- ---- XAUTOCLAIM

-- its key, group, consumer and least idle time, the id that it starts from, and its settings
pub record AutoClaimParts : Type 0 where
  pub key : List ℕ
  pub group : List ℕ
  pub consumer : List ℕ
  pub min_idle : ℕ
  pub start : List ℕ
  pub options : AutoClaim

-- `XAUTOCLAIM key group consumer min-idle start [options]`
abbrev pub autoclaim_list : AutoClaimParts → List (List ℕ)
autoclaim_list c =
    codes "XAUTOCLAIM" ∷ c.key ∷ c.group ∷ c.consumer ∷ decimal c.min_idle ∷ c.start ∷ autoclaim_sentence c.options

-- numbers are in their ranges
pub record AutoClaimPartsFit (c : AutoClaimParts) : Type 0 where
  pub min_idle : IsUsize c.min_idle
  pub options : AutoClaimFits c.options

-- all parts are equal
pub record SameAutoClaim (a b : AutoClaimParts) : Type 0 where
  pub key : a.key ≡ b.key
  pub group : a.group ≡ b.group
  pub consumer : a.consumer ≡ b.consumer
  pub min_idle : a.min_idle ≡ b.min_idle
  pub start : a.start ≡ b.start
  pub options : a.options ≡ b.options
