-- The error with which a value is refused that holds no such entries.
use Rattle.std.specs.Prelude.{◌≡◌, ◌⊎◌, MatchOption}
use Rattle.redis_resp.specs.Number.{unsigned_reading}
use Rattle.redis_resp.specs.Reading.{list_reading, option_reading, two_in, four_in}
use Rattle.redis_resp.specs.Refusal.{Refuses, OneRefused, RefusesText, RefusesNumber, RefusesList, RefusesOption}
use Rattle.redis_resp.specs.Refusal.{RefusesPairs, RefusesTwo, RefusesThree, RefusesFour}
use Rattle.redis_resp.specs.Table.{pairs_reading}
use Rattle.redis_resp.specs.Text.{text_reading}
use Rattle.redis_resp.specs.Tree.{Tree, pairs_in}
use Rattle.redis_resp.specs.declared.value.error.ParsingError.{ParsingError}
use Rattle.redis_resp.specs.declared.value.error.ParsingError.TheVariants.{NotText, NotPairs, Memory}
use Rattle.stream_in_place.specs.SentReading.{octets_reading, octet_pairs_reading, sent_fields_reading, sent_row_reading}
use Rattle.stream_in_place.specs.SentReading.{claimed_rows_reading}

-- bytes: `NotText` if there are none, and else only out of memory
abbrev pub RefusesOctets : Tree → ParsingError → Type 0
RefusesOctets t error = MatchOption (octets_reading t) (error ≡ NotText) (λ _. error ≡ Memory)

-- a name or its value
abbrev pub RefusesOctetPair : Tree × Tree → ParsingError → Type 0
RefusesOctetPair p error =
    Refuses octets_reading RefusesOctets p.0 error ⊎ Refuses octets_reading RefusesOctets p.1 error

-- names and values: `NotPairs` if there are none, and else the error of one of them
abbrev pub RefusesOctetPairs : Tree → ParsingError → Type 0
RefusesOctetPairs t error = MatchOption (pairs_in t) (error ≡ NotPairs) (λ ps. OneRefused RefusesOctetPair ps error)

-- fields or nil
abbrev pub RefusesSentFields : Tree → ParsingError → Type 0
RefusesSentFields t error = RefusesOption (Refuses octet_pairs_reading RefusesOctetPairs) t error

-- a row: `NotTuple(2)` if it is not an array of two or four, and else the error of one of its elements
abbrev pub RefusesSentRow : Tree → ParsingError → Type 0
RefusesSentRow t error = MatchOption (four_in t)
    (RefusesTwo (Refuses text_reading RefusesText) (Refuses sent_fields_reading RefusesSentFields) t error)
    (λ _. RefusesFour (Refuses text_reading RefusesText) (Refuses sent_fields_reading RefusesSentFields)
    (Refuses (unsigned_reading 64) RefusesNumber) (Refuses (unsigned_reading 64) RefusesNumber) t error)

-- rows
abbrev pub RefusesSentRows : Tree → ParsingError → Type 0
RefusesSentRows t error = RefusesList (Refuses sent_row_reading RefusesSentRow) t error

-- streams
abbrev pub RefusesSentStreams : Tree → ParsingError → Type 0
RefusesSentStreams t error = RefusesList (Refuses (pairs_reading (list_reading sent_row_reading))
    (RefusesPairs (Refuses (list_reading sent_row_reading) RefusesSentRows))) t error

-- the rows of a claim, any of which may be nil
abbrev pub RefusesClaimedRows : Tree → ParsingError → Type 0
RefusesClaimedRows t error = RefusesList (Refuses (option_reading sent_row_reading)
    (RefusesOption (Refuses sent_row_reading RefusesSentRow))) t error

-- the reply of XAUTOCLAIM: `NotTuple(3)` if it is not an array of two or three, and else the error of one of its
-- elements
abbrev pub RefusesSentAutoClaim : Tree → ParsingError → Type 0
RefusesSentAutoClaim t error = MatchOption (two_in t)
    (RefusesThree (Refuses text_reading RefusesText) (Refuses claimed_rows_reading RefusesClaimedRows)
    (Refuses (list_reading text_reading) (RefusesList (Refuses text_reading RefusesText))) t error)
    (λ _. RefusesTwo (Refuses text_reading RefusesText) (Refuses claimed_rows_reading RefusesClaimedRows) t error)
