-- The page of pending entries that a server returns with COUNT `n`: the first `n` of them, in the order of the log.
use Rattle.std.specs.Prelude.{ℕ, zero, suc, Bool, List, [], ◌∷◌, ◌+◌, codes, if◌then◌else◌}
use Rattle.std.specs.Str.{bytes_eq}
use Rattle.model_server.specs.Group.Worker.{Id, Entry}
use Rattle.model_server.specs.Group.Group.{Name, Pending, listed, ids_of, own, pending_ids}

module _ {F : Type 0} where
  -- the entries from the one of this id on; all of them if none has this id
  abbrev pub from_id : Id → List (Entry F) → List (Entry F)
  from_id id [] = []
  from_id id (e ∷ es) = if listed (ids_of es) id then from_id id es else e ∷ es

  -- the entries after the one of this id; all of them if none has this id
  abbrev pub behind_id : Id → List (Entry F) → List (Entry F)
  behind_id id [] = []
  behind_id id (e ∷ es) =
      if listed (ids_of es) id then behind_id id es else (if bytes_eq e.0 id then es else e ∷ es)

  -- the first `n` entries that `meant` selects
  abbrev pub first_of : ℕ → (Id → Bool) → List (Entry F) → List (Entry F)
  first_of n meant [] = []
  first_of zero meant (e ∷ es) = []
  first_of (suc n) meant (e ∷ es) = if meant e.0 then e ∷ first_of n meant es else first_of (suc n) meant es

  -- the entries after those of `first_of`, from the next one on that `meant` selects
  abbrev pub beyond : ℕ → (Id → Bool) → List (Entry F) → List (Entry F)
  beyond n meant [] = []
  beyond zero meant (e ∷ es) = if meant e.0 then e ∷ es else beyond zero meant es
  beyond (suc n) meant (e ∷ es) = if meant e.0 then beyond n meant es else beyond (suc n) meant es

  -- the number of entries that `meant` selects
  abbrev pub how_many : (Id → Bool) → List (Entry F) → ℕ
  how_many meant [] = 0
  how_many meant (e ∷ es) = if meant e.0 then 1 + how_many meant es else how_many meant es

  -- the id of the first entry, or `0-0` if there is none
  abbrev pub first_id : List (Entry F) → Id
  first_id [] = codes "0-0"
  first_id (e ∷ es) = e.0

  -- the page of XREADGROUP with `id` and COUNT `n`: the first `n` entries after `id` that are pending for the consumer
  abbrev pub own_page : ℕ → Name → Id → List Pending → List (Entry F) → List (Entry F)
  own_page n name id pending seen = first_of n (listed (own name pending)) (behind_id id seen)

  -- the page of XAUTOCLAIM with the start `id` and COUNT `n`: the first `n` entries from `id` on that are pending
  abbrev pub claim_page : ℕ → Id → List Pending → List (Entry F) → List (Entry F)
  claim_page n id pending seen = first_of n (listed (pending_ids pending)) (from_id id seen)

  -- the start of the next XAUTOCLAIM: the id of the first pending entry after the page, or `0-0` if there is none
  abbrev pub next_claim : ℕ → Id → List Pending → List (Entry F) → Id
  next_claim n id pending seen = first_id (beyond n (listed (pending_ids pending)) (from_id id seen))
