-- The errors of reading a text and bytes.
use Rattle.std.proofs.Common.{◌≡◌, inl, inr, ℕ, List, Option, Some, None, MatchOption, refl}
use Rattle.redis_resp.specs.Tree.{Tree}
use Rattle.redis_resp.specs.Text.{text_reading}
use Rattle.redis_resp.specs.Bytes.{bytes_reading}
use Rattle.redis_resp.specs.Refusal.{Refuses, OrMemory, RefusesText, RefusesBytes}
use Rattle.redis_resp.specs.declared.value.error.ParsingError.{ParsingError}
use Rattle.redis_resp.specs.declared.value.error.ParsingError.TheVariants.{NotText, NotBytes, Memory}

-- whatever the tree: `NotText`, or out of memory
pub text_refusal : (t : Tree) (error : ParsingError) → RefusesText t error → OrMemory NotText error
text_refusal t error r = by (text_reading t) r
  where
    by : (o : Option (List ℕ)) → MatchOption o (error ≡ NotText) (λ _. error ≡ Memory) → OrMemory NotText error
    by None e = inl e
    by (Some s) e = inr e

pub bytes_refusal : (t : Tree) (error : ParsingError) → RefusesBytes t error → OrMemory NotBytes error
bytes_refusal t error r = by (bytes_reading t) r
  where
    by : (o : Option (List ℕ)) → MatchOption o (error ≡ NotBytes) (λ _. error ≡ Memory) → OrMemory NotBytes error
    by None e = inl e
    by (Some s) e = inr e

-- a tree without a text
pub no_text : (t : Tree) → text_reading t ≡ None → Refuses text_reading RefusesText t NotText
no_text t none = (rw none refl, λ _. none)

-- a tree with a text
pub text_wants_memory : (t : Tree) (s : List ℕ) → text_reading t ≡ Some s → Refuses text_reading RefusesText t Memory
text_wants_memory t s some = (rw some refl, λ h. absurd (h refl))

-- the same of bytes
pub no_bytes : (t : Tree) → bytes_reading t ≡ None → Refuses bytes_reading RefusesBytes t NotBytes
no_bytes t none = (rw none refl, λ _. none)

pub bytes_want_memory : (t : Tree) (s : List ℕ) → bytes_reading t ≡ Some s → Refuses bytes_reading RefusesBytes t Memory
bytes_want_memory t s some = (rw some refl, λ h. absurd (h refl))

pub ruleset text_refusals = (no_text, text_wants_memory)

pub ruleset bytes_refusals = (no_bytes, bytes_want_memory)
