-- Short bulk strings and short array headers.
use Rattle.std.proofs.Common.{◌≡◌, ◌≤◌, ◌+◌, ◌-◌, ◌∙◌, ◌∷◌, ℕ, List, length, take, drop, Option, Some, Ok, sym, ap, arith}
use Rattle.std.proofs.lemmas.List.{length-drop, drop-drop}
use Rattle.redis_wire.specs.declared.limits.Limits.{Limits}
use Rattle.redis_wire.specs.Place.{IsHeadAt, IsTextAt, BeginsWithHead, BeginsWithText}
use Rattle.redis_wire.proofs.HeadLemmas.{blob_is}
use Rattle.redis_wire.proofs.PlaceLemmas.{text_place, text_found}

-- the header with which the bytes from `at` on begin is at `at`
pub head_stands : (limits : Limits) (bytes left : List ℕ) (at first k : ℕ) (n : Option ℕ)
    → BeginsWithHead limits left first n (drop k left) → left ≡ drop at bytes → at + k ≤ length bytes
    → IsHeadAt limits bytes at first n (at + k)
head_stands limits bytes left at first k n h same le = record {
  behind = h.behind;
  is = sym same ∙ h.is;
  len = h.len ∙ ap (λ (xs : List ℕ). Ok (n, xs)) (ap (drop k) same ∙ drop-drop k at bytes);
  end = le;
}

-- ---- a text and its end

module _ (limits : Limits) (bytes : List ℕ) (at start n : ℕ) (head : IsHeadAt limits bytes at 36 (Some n) start)
    (ends : drop (start + n) bytes ≡ 13 ∷ 10 ∷ drop (start + n + 2) bytes) (room : start + n + 2 ≤ length bytes) where
  after : length bytes - length (drop (start + n + 2) bytes) ≡ start + n + 2
  after = omega (arith, length-drop (start + n + 2) bytes, room)

  pub text_stands : IsTextAt limits bytes at (record { start = start; len = n }) (start + n + 2)
  text_stands = rw after at (text_place limits bytes (take n (drop start bytes)) (drop (start + n + 2) bytes) at n start
      head (blob_is bytes start n ends room))

  pub text_stands_found : (other rest : List ℕ) → BeginsWithText limits (drop at bytes) other rest
      → (take n (drop start bytes) ≡ other) × (drop (start + n + 2) bytes ≡ rest)
  text_stands_found other rest b = rw after at (text_found limits bytes (take n (drop start bytes))
      (drop (start + n + 2) bytes) at n start head (blob_is bytes start n ends room) other rest b)
