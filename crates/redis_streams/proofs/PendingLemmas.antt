-- The parts that the records of XPENDING are read from.
use Rattle.std.proofs.Common.{◌≡◌, ℕ, List, unwrap_or, Result, Ok, Err, ap, sym}
use Rattle.std.specs.Result.{result_unwrap_or}
use Rattle.std.specs.Str.Parse.{ParsesUnsigned}
use Rattle.redis_resp.proofs.NumberLemmas.{unsigned_parsed}
use Rattle.redis_streams.specs.Pending.{number_in}

-- the number that `parse` reads from a text, or 0
pub number_parsed : {E : Type 0} (text : List ℕ) (r : Result ℕ E) → ParsesUnsigned 64 10 text r
    → result_unwrap_or r 0 ≡ number_in text
number_parsed {E} text (Ok n) p = sym (ap (λ o. unwrap_or o 0) (unsigned_parsed {E = E} 64 text (Ok n) p))
number_parsed text (Err e) p = sym (ap (λ o. unwrap_or o 0) (unsigned_parsed 64 text (Err e) p))
