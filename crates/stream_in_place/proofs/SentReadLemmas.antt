-- Decoded claims that are read by the number of their elements.
use Rattle.std.proofs.Common.{◌≡◌, ◌∙◌, ℕ, List, [], true, false, Option, Some, None, option_map, MatchOption}
use Rattle.std.proofs.Common.{option_and_then, Result, Ok, Err, IfErr, refl, ap, sym, subst}
use Rattle.std.specs.Result.{IsErrAnd}
use Rattle.std.specs.Option.{is_some}
use Rattle.redis_resp.specs.Reading.{list_reading, two_in, two_of, two_reading, three_reading}
use Rattle.redis_resp.specs.Refusal.{Refuses, RefusesText, RefusesList, RefusesTwo, RefusesThree}
use Rattle.redis_resp.specs.Text.{text_reading}
use Rattle.redis_resp.specs.Tree.{Tree}
use Rattle.redis_resp.specs.declared.value.error.ParsingError.{ParsingError}
use Rattle.stream_in_place.specs.Sent.{SentEntry}
use Rattle.stream_in_place.specs.SentReading.{there, claimed_rows_reading, claim_of_two, claim_of_three, claim_by}
use Rattle.stream_in_place.specs.SentReading.{sent_autoclaim_reading}
use Rattle.stream_in_place.specs.SentRefusal.{RefusesClaimedRows, RefusesSentAutoClaim}

claim_two : (o : Option (Tree × Tree)) (t : Tree) → is_some o ≡ true
    → claim_by o t ≡ option_map claim_of_two (option_and_then (two_of text_reading claimed_rows_reading) o)
claim_two None t h = absurd cc
claim_two (Some q) t h = refl

claim_three : (o : Option (Tree × Tree)) (t : Tree) → is_some o ≡ false
    → claim_by o t ≡ option_map claim_of_three (three_reading text_reading claimed_rows_reading
    (list_reading text_reading) t)
claim_three None t h = refl
claim_three (Some q) t h = absurd cc

pub claim_of_rows : (t : Tree) (next : List ℕ) (rows : List (Option SentEntry)) (claimed : List SentEntry)
    → is_some (two_in t) ≡ true → two_reading text_reading claimed_rows_reading t ≡ Some (next, rows)
    → claimed ≡ there rows
    → sent_autoclaim_reading t ≡ Some (record { next = next; claimed = claimed; deleted = [] })
unfolding sent_autoclaim_reading
claim_of_rows t next rows claimed two is found =
    rw found (claim_two (two_in t) t two ∙ ap (option_map claim_of_two) is)

pub claim_of_ids : (t : Tree) (next : List ℕ) (rows : List (Option SentEntry)) (claimed : List SentEntry)
    (deleted : List (List ℕ)) → is_some (two_in t) ≡ false
    → three_reading text_reading claimed_rows_reading (list_reading text_reading) t ≡ Some (next, rows, deleted)
    → claimed ≡ there rows
    → sent_autoclaim_reading t ≡ Some (record { next = next; claimed = claimed; deleted = deleted })
unfolding sent_autoclaim_reading
claim_of_ids t next rows claimed deleted other is found =
    rw found (claim_three (two_in t) t other ∙ ap (option_map claim_of_three) is)

abbrev RefusesClaimOfTwo : Tree → ParsingError → Type 0
RefusesClaimOfTwo t error =
    RefusesTwo (Refuses text_reading RefusesText) (Refuses claimed_rows_reading RefusesClaimedRows) t error

abbrev RefusesClaimOfThree : Tree → ParsingError → Type 0
RefusesClaimOfThree t error = RefusesThree (Refuses text_reading RefusesText)
    (Refuses claimed_rows_reading RefusesClaimedRows)
    (Refuses (list_reading text_reading) (RefusesList (Refuses text_reading RefusesText))) t error

abbrev RefusesClaimBy : Option (Tree × Tree) → Tree → ParsingError → Type 0
RefusesClaimBy o t error = MatchOption o (RefusesClaimOfThree t error) (λ _. RefusesClaimOfTwo t error)

refused_claim_two : (o : Option (Tree × Tree)) (t : Tree) (error : ParsingError) → is_some o ≡ true
    → RefusesClaimOfTwo t error → RefusesClaimBy o t error
refused_claim_two None t error h r = absurd cc
refused_claim_two (Some q) t error h r = r

refused_claim_three : (o : Option (Tree × Tree)) (t : Tree) (error : ParsingError) → is_some o ≡ false
    → RefusesClaimOfThree t error → RefusesClaimBy o t error
refused_claim_three None t error h r = r
refused_claim_three (Some q) t error h r = absurd cc

pub claim_refused_two : (t : Tree) (error : ParsingError) → is_some (two_in t) ≡ true
    → Refuses (two_reading text_reading claimed_rows_reading) RefusesClaimOfTwo t error
    → Refuses sent_autoclaim_reading RefusesSentAutoClaim t error
unfolding sent_autoclaim_reading
claim_refused_two t error two r = (
  refused_claim_two (two_in t) t error two r.0,
  λ e. claim_two (two_in t) t two ∙ ap (option_map claim_of_two) (r.1 e),
)

pub claim_refused_three : (t : Tree) (error : ParsingError) → is_some (two_in t) ≡ false
    → Refuses (three_reading text_reading claimed_rows_reading (list_reading text_reading)) RefusesClaimOfThree t error
    → Refuses sent_autoclaim_reading RefusesSentAutoClaim t error
unfolding sent_autoclaim_reading
claim_refused_three t error other r = (
  refused_claim_three (two_in t) t error other r.0,
  λ e. claim_three (two_in t) t other ∙ ap (option_map claim_of_three) (r.1 e),
)

-- the error that is passed on
pub err_is : {A : Type 0} (r : Result A ParsingError) (error : ParsingError) (P : ParsingError → Type 0)
    → IsErrAnd r (λ e. e ≡ error) → P error → IfErr r P
err_is (Ok x) error P is p = tt
err_is (Err e) error P is p = subst P (sym is) p
