-- The reply of an automatic claim with `JUSTID` is read from its parts, and copied.
use Rattle.std.proofs.Common.{◌≡◌, inl, ℕ, List, [], ◌∷◌, length, map, Option, Some, None, option_and_then, refl, ◌∙◌}
use Rattle.std.proofs.Common.{ap}
use Rattle.std.specs.Prelude.{MatchOption, String, Vec, string_bytes}
use Rattle.std.specs.List.{AllZip}
use Rattle.std.specs.declared.alloc.Global.{Global}
use Rattle.redis_resp.specs.Reading.{list_reading}
use Rattle.redis_resp.specs.Refusal.{Refuses, RefusesList}
use Rattle.redis_resp.specs.Text.{text_reading}
use Rattle.redis_resp.specs.Tree.{Tree, array_of_plain}
use Rattle.redis_resp.specs.declared.value.error.ParsingError.{ParsingError}
use Rattle.redis_resp.specs.declared.value.error.ParsingError.TheVariants.{NotArray, WrongItemCount}
use Rattle.stream_entries.specs.AutoClaim.{Parts, two_or_three, parts_in, deleted_reading}
use Rattle.stream_entries.specs.AutoClaimMeaning.{text_bytes_of}
use Rattle.stream_entries.specs.Refusal.{RefusesTextIn}
use Rattle.stream_entries.specs.JustId.{justid_of, justid_reading, RefusesIds, RefusesJustId}

module _ (t : Tree) (parts : Parts) (there : parts_in t ≡ Some parts) where
  by_parts : justid_reading t ≡ justid_of parts
  by_parts = ap (option_and_then justid_of) there

  pub justid_read : (claimed deleted : List (List ℕ)) (next : List ℕ) → list_reading text_reading parts.1 ≡ Some claimed
      → deleted_reading parts.2 ≡ Some deleted
      → text_reading parts.0 ≡ Some next → justid_reading t
      ≡ Some (record { next = next; claimed = claimed; deleted = deleted })
  justid_read claimed deleted next c d n = by_parts ∙ rw (c, d, n) refl

  -- if the parts of a reply are there, its error is that of one of them
  module _ (error : ParsingError) where
    told : RefusesIds parts error → RefusesJustId t error
    told p = in_parts (array_of_plain t) there
      where
        in_parts : (o : Option (List Tree)) → option_and_then two_or_three o ≡ Some parts
            → MatchOption o (error ≡ NotArray) (λ ts. MatchOption (two_or_three ts) (error ≡ WrongItemCount (length ts))
            (λ q. RefusesIds q error))
        in_parts None is = absurd cc
        in_parts (Some ts) is = rw is p

    pub claimed_part : Refuses (list_reading text_reading) (RefusesList RefusesTextIn) parts.1 error
        → Refuses justid_reading RefusesJustId t error
    claimed_part r = (told (inl r.0), λ h. by_parts ∙ rw (r.1 h) refl)
