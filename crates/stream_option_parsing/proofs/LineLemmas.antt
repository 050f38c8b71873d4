-- Pieces, and bytes prepended to them.
use denote.Ref.{Bor}
use Rattle.std.specs.Global.{Vec}
use Rattle.std.proofs.lemmas.List.{map-append, nil_from_length}
use Rattle.std.proofs.Common.{◌≡◌, ℕ, suc, ◌+◌, ◌-◌, ◌<◌, ◌≤◌, Bool, true, false, cond, eqb, List, [], ◌∷◌, ◌++◌}
use Rattle.std.proofs.Common.{length, take, drop, get_or, refl, sym, ◌∙◌, ap, arith, append_assoc, add-one, drop-cons}
use Rattle.std.proofs.Common.{◌≢◌, length-append, Option, Some, None}
use Rattle.std.proofs.lemmas.Grind.{common_steps}
use Rattle.std.proofs.Math.Seq.{take-suc}
use Rattle.stream_option_parsing.specs.Lines.{onto, pieces, lines_of, parts_of, with_front, pieces_from, parts_left}
use Rattle.stream_option_parsing.specs.Split.{arguments}

with_front-push : (xs : List ℕ) (b : ℕ) (lines : List (List ℕ))
    → with_front (xs ++ b ∷ []) lines ≡ with_front xs (onto b lines)
with_front-push [] b lines = refl
with_front-push (x ∷ xs) b lines = ap (onto x) (with_front-push xs b lines)

with_front-empty : (xs : List ℕ) (lines : List (List ℕ)) → with_front xs ([] ∷ lines) ≡ xs ∷ lines
with_front-empty [] lines = refl
with_front-empty (x ∷ xs) lines = ap (onto x) (with_front-empty xs lines)

-- the last line
with_front-nil : (x : ℕ) (xs : List ℕ) → with_front (x ∷ xs) [] ≡ (x ∷ xs) ∷ []
with_front-nil x [] = refl
with_front-nil x (y ∷ xs) = ap (onto x) (with_front-nil y xs)

here : (mark : ℕ) (end : List (List ℕ)) (bytes : List ℕ) (i : ℕ) (q : Bool) → i < length bytes
    → eqb (get_or bytes i 0) mark ≡ q
    → pieces mark end (drop i bytes) ≡ cond q ([] ∷ pieces mark end (drop (i + 1) bytes))
    (onto (get_or bytes i 0) (pieces mark end (drop (i + 1) bytes)))
here mark end bytes i q lt e = rw (add-one, drop-cons bytes i 0, e) refl

take_next : (bytes : List ℕ) (i : ℕ) → i < length bytes → take (i + 1) bytes ≡ take i bytes ++ get_or bytes i 0 ∷ []
take_next bytes i lt = rw add-one (take-suc bytes i 0 lt)

-- all that is left
pub tail_is : (bytes : List ℕ) (n : ℕ) → take (length bytes - n) (drop n bytes) ≡ drop n bytes
tail_is bytes n = grind (arith, common_steps)

-- another byte prepended
pub front_more : (mark : ℕ) (end : List (List ℕ)) (bytes : List ℕ) (i : ℕ) → i < length bytes
    → eqb (get_or bytes i 0) mark ≡ false
    → with_front (take i bytes) (pieces mark end (drop i bytes))
    ≡ with_front (take (i + 1) bytes) (pieces mark end (drop (i + 1) bytes))
front_more mark end bytes i lt e = ap (with_front (take i bytes)) (here mark end bytes i false lt e)
    ∙ sym (with_front-push (take i bytes) (get_or bytes i 0) (pieces mark end (drop (i + 1) bytes)))
    ∙ ap (λ t. with_front t (pieces mark end (drop (i + 1) bytes))) (sym (take_next bytes i lt))

-- the piece ends here
pub front_ends : (mark : ℕ) (end : List (List ℕ)) (bytes : List ℕ) (i : ℕ) → i < length bytes
    → eqb (get_or bytes i 0) mark ≡ true
    → with_front (take i bytes) (pieces mark end (drop i bytes)) ≡ take i bytes
    ∷ pieces mark end (take (length bytes - (i + 1)) (drop (i + 1) bytes))
front_ends mark end bytes i lt e = ap (with_front (take i bytes)) (here mark end bytes i true lt e)
    ∙ with_front-empty (take i bytes) (pieces mark end (drop (i + 1) bytes))
    ∙ ap (λ t. take i bytes ∷ pieces mark end t) (sym (tail_is bytes (i + 1)))

-- the piece is all
pub front_all : (mark : ℕ) (end : List (List ℕ)) (bytes : List ℕ) (i : ℕ) → length bytes ≤ i
    → with_front (take i bytes) (pieces mark end (drop i bytes)) ≡ with_front bytes end
front_all mark end bytes i le =
    let whole : take i bytes ≡ bytes = grind (arith, common_steps) in
    let none : drop i bytes ≡ [] = grind (arith, common_steps) in
    rw (whole, none) refl

-- the last line is all of the bytes
pub last_line : (bytes front : List ℕ) (after : Option (Bor (List ℕ))) → 0 < length bytes
    → pieces 10 [] bytes ≡ pieces_from 10 [] front after
    → (after ≡ None → front ≡ bytes) → after ≡ None → lines_of bytes ≡ front ∷ []
last_line [] front after pos e whole none = absurd (omega arith)
last_line (b ∷ bytes) front None pos e whole none = e ∙ ap (λ t. with_front t []) (whole refl) ∙ with_front-nil b bytes
    ∙ ap (λ t. t ∷ []) (sym (whole refl))
last_line (b ∷ bytes) front (Some after) pos e whole none = absurd cc

-- the parts by the first of them
pub parts_are : (bytes front : List ℕ) (after : Option (Bor (List ℕ)))
    → pieces 32 ([] ∷ []) bytes ≡ pieces_from 32 ([] ∷ []) front after
    → parts_of bytes ≡ front ∷ parts_left after
parts_are bytes front None e = e ∙ with_front-empty front []
parts_are bytes front (Some after) e = e

-- how many bytes are left, and one for the end
abbrev pub bytes_left : Option (Bor (List ℕ)) → ℕ
bytes_left None = 0
bytes_left (Some rest) = suc (length rest.now)

-- a part more is an argument
pub args_more : (args new : List (Vec ℕ)) (arg : Vec ℕ) (front : List ℕ) (rest : Bor (List ℕ))
    (left after : Option (Bor (List ℕ))) (all : List (List ℕ))
    → arguments args ++ parts_left left ≡ all → left ≡ Some rest
    → pieces 32 ([] ∷ []) rest.now ≡ pieces_from 32 ([] ∷ []) front after
    → arg.items ≡ front → new ≡ args ++ arg ∷ [] → arguments new ++ parts_left after ≡ all
args_more args new arg front rest left after all so_far is e f g = rw (g, map-append (λ a. a.items) args (arg ∷ []), f)
    (append_assoc (arguments args) (front ∷ []) (parts_left after)
    ∙ ap (λ t. arguments args ++ t) (sym (parts_are rest.now front after e))
    ∙ ap (λ t. arguments args ++ parts_left t) (sym is) ∙ so_far)

-- if a part is left there is an argument
pub some_left : (args : List (Vec ℕ)) (front : List ℕ) (rest : Bor (List ℕ)) (left after : Option (Bor (List ℕ)))
    (all : List (List ℕ)) → arguments args ++ parts_left left ≡ all → left ≡ Some rest
    → pieces 32 ([] ∷ []) rest.now ≡ pieces_from 32 ([] ∷ []) front after → all ≢ []
some_left args front rest left after all so_far is e none =
    let parts : parts_left left ≡ front ∷ parts_left after = ap parts_left is ∙ parts_are rest.now front after e in
    omega (arith, ap length (so_far ∙ none), length-append (arguments args) (parts_left left), ap length parts)

-- a line with an argument is not a single part
pub not_alone : (line front : List ℕ) (after : Option (Bor (List ℕ)))
    → pieces 32 ([] ∷ []) line ≡ pieces_from 32 ([] ∷ []) front after → parts_left after ≢ [] → parts_of line ≢ line ∷ []
not_alone line front after e some alone =
    some (nil_from_length _ (omega (arith, ap length (sym (parts_are line front after e) ∙ alone))))
