-- The id behind which a worker's own pending entries go on.
use Rattle.std.proofs.Common.{◌≡◌, refl, sym, ap, ◌∙◌, ◌-◌, ◌<◌, ℕ, get_or, length, arith, List, [], ◌∷◌, ◌++◌, map}
use Rattle.std.proofs.Common.{Option, Some, None, codes}
use Rattle.model_server.specs.Group.Worker.{Delivered, Phase, last_id, own, claiming, after_own}
use Rattle.stream_in_place.specs.Sent.{SentEntry}
use Rattle.worker.specs.Taking.{all_delivered, delivered_of}
use Rattle.worker.proofs.TakingLemmas.{delivered_more}

last_of : {T : Type 0} (f : T → SentEntry) (y : T) (xs : List T) (d : T)
    → last_id (all_delivered (map f xs)) (f y).id ≡ (f (get_or (y ∷ xs) (length xs) d)).id
last_of f y [] d = refl
last_of f y (x ∷ xs) d = last_of f x xs d

pub after_last : {T : Type 0} (f : T → SentEntry) (xs : List T) (x : T) → 0 < length xs → x ≡ get_or xs (length xs - 1) x
    → after_own (all_delivered (map f xs)) ≡ own (f x).id
after_last f [] x l e = absurd (omega arith)
after_last f (y ∷ xs) x l e =
    let n : length (y ∷ xs) - 1 ≡ length xs = omega arith in
    ap own (last_of f y xs x ∙ sym (ap (λ z. (f z).id) (e ∙ ap (λ k. get_or (y ∷ xs) k x) n)))

last_more : {F : Type 0} (ds : List (Delivered F)) (d : Delivered F) (first : List ℕ) → last_id (ds ++ d ∷ []) first ≡ d.0
last_more [] d first = refl
last_more (e ∷ ds) d first = last_more ds d e.0

-- behind the last of entries so far
abbrev pub phase_behind : Option (List ℕ) → Phase
phase_behind None = claiming (codes "0-0")
phase_behind (Some id) = own id

behind_more : {F : Type 0} (ds : List (Delivered F)) (d : Delivered F) → after_own (ds ++ d ∷ []) ≡ own d.0
behind_more [] d = refl
behind_more (e ∷ ds) d = ap own (last_more ds d e.0)

-- an entry more
pub behind_next : (xs : List SentEntry) (x : SentEntry)
    → after_own (all_delivered (xs ++ x ∷ [])) ≡ phase_behind (Some x.id)
behind_next xs x = ap after_own (delivered_more xs (x ∷ [])) ∙ behind_more (all_delivered xs) (delivered_of x)
