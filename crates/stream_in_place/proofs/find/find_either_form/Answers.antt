use Rattle.std.proofs.Common.{◌≡◌, ℕ, List, true, false}
use Rattle.stream_in_place.specs.Sent.{SentStream}
use Rattle.stream_in_place.specs.Shapes.{BeginsWithStreams}
use Rattle.stream_in_place.proofs.find.find_either_form.Goals as goal

pub returns-in-None-clause-found : goal.returns-in-None-clause-found
returns-in-None-clause-found g c = λ claim.
    elim claim as (λ v. (ss : List SentStream) (len : ℕ) → BeginsWithStreams c.args.limits v c.args.bytes.now ss len
    → false ≡ true) [
      | false ↦ λ ss len b. rw c.in_default.is at (c.in_ok-len.ensures.found ss len b)
      | true ↦ λ ss len b. rw c.in-None.is at (c.in_ok-find_form.ensures.found ss len b)
    ]
