-- 0 is no port.
use Rattle.std.proofs.Common.{◌≡◌, ◌<◌, ◌^◌, ℕ, List, Some, decimal, sym, ◌∙◌, arith}
use Rattle.std.proofs.lemmas.Fmt.{decimal_injective}
use Rattle.redis_client.specs.Said.{IsPort}

-- a text that writes 0 writes no port
pub zero_is_no_port : (text : List ℕ) (n : ℕ) → decimal 0 ≡ text → IsPort (Some text) n → ⊥
zero_is_no_port text n e p =
    let small : n < 2 ^ 64 = omega arith in
    let same : 0 ≡ n = decimal_injective 0 n (omega arith) small (e ∙ sym p.0) in omega arith
