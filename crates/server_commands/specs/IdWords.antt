-- The ids that words mean.
use Rattle.std.specs.Prelude.{◌≡◌, ◌<◌, ◌^◌, ◌==◌, ℕ, Bool, not, List, [], ◌∷◌, map}
use Rattle.std.specs.Global.{Vec}
use Rattle.std.specs.List.{AllByRecursion}
use Rattle.server_store.specs.EntryId.{id_text}
use Rattle.server_store.specs.declared.entry_id.EntryId.{EntryId}
use Rattle.server_commands.specs.declared.refusal.Refusal.{Refusal}
use Rattle.server_commands.specs.declared.refusal.Refusal.TheVariants.{Memory}

-- a byte before the first `-`
abbrev pub is_of_part : ℕ → Bool
is_of_part b = not (b == 45)

-- both numbers of an id have 64 bits
abbrev pub Fits : EntryId → Type 0
Fits id = (id.milliseconds < 2 ^ 64) × (id.sequence < 2 ^ 64)

-- both numbers of each of these ids have 64 bits
abbrev pub AreFit : List EntryId → Type 0
AreFit = AllByRecursion Fits

-- the bytes of words
abbrev pub texts_of : List (Vec ℕ) → List (List ℕ)
texts_of words = map (λ word. word.items) words

-- ids as words
abbrev pub words_of_ids : List EntryId → List (List ℕ)
words_of_ids ids = map id_text ids

-- the word is this id, if it is the text of one
abbrev pub IsRead : Vec ℕ → EntryId → Type 0
IsRead word id = (i : EntryId) → Fits i → word.items ≡ id_text i → id ≡ i

-- each word is the id at its index, if it is the text of one
abbrev pub AreRead : List (Vec ℕ) → List EntryId → Type 0
AreRead [] [] = Unit {0}
AreRead [] (id ∷ ids) = ⊥
AreRead (word ∷ words) [] = ⊥
AreRead (word ∷ words) (id ∷ ids) = IsRead word id × AreRead words ids

-- memory is refused, or one of the words is not the text of an id
abbrev pub IsRefusedFor : List (Vec ℕ) → Refusal → Type 0
IsRefusedFor words e = (ids : List EntryId) → AreFit ids → texts_of words ≡ words_of_ids ids → e ≡ Memory
