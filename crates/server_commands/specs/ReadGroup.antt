-- What XREADGROUP of one stream does.
use Rattle.std.specs.Prelude.{◌≡◌, ◌≢◌, ◌<◌, ℕ, List, [], ◌∷◌, codes, map}
use Rattle.std.specs.Char.{to_ascii_lowercase}
use Rattle.std.specs.Global.{Vec}
use Rattle.server_store.specs.declared.entry_id.EntryId.{EntryId}
use Rattle.server_store.specs.declared.stream.Stream.{Stream}
use Rattle.server_commands.specs.IdWords.{Fits}
use Rattle.server_commands.specs.ReadingOne.{IsReadIn}
use Rattle.server_commands.specs.Rereading.{IsRereadIn, IsWordOf, largest}
use Rattle.server_commands.specs.declared.answer.Answer.{Answer}

-- the word in lower case is this
abbrev pub IsCalled : Vec ℕ → List ℕ → Type 0
IsCalled word name = map to_ascii_lowercase word.items ≡ name

-- a consumer reads of the stream of this key: what is new, or what is its own after the id that the text is
pub record ReadsOne (group consumer : List ℕ) (most now : ℕ) (key text : List ℕ) (answer : Answer) (old new : List Stream) : Type 0 where
  pub news : text ≡ codes ">" → IsReadIn key consumer now most group answer old new
  pub own : (id : EntryId) → Fits id → id ≢ largest → IsWordOf id text → IsRereadIn key consumer now most id group answer old new

-- the words `GROUP group consumer STREAMS key id` read one stream, and the same words with `COUNT n` of some number
pub record ReadsGroup (words : List (Vec ℕ)) (now : ℕ) (answer : Answer) (old new : List Stream) : Type 0 where
  pub plain : (a group consumer b key text : Vec ℕ) → words ≡ a ∷ group ∷ consumer ∷ b ∷ key ∷ text ∷ []
      → IsCalled a (codes "group") → IsCalled b (codes "streams")
      → ReadsOne group.items consumer.items 18446744073709551615 now key.items text.items answer old new
  pub counted : (a group consumer b number c key text : Vec ℕ)
      → words ≡ a ∷ group ∷ consumer ∷ b ∷ number ∷ c ∷ key ∷ text ∷ []
      → IsCalled a (codes "group") → IsCalled b (codes "count") → IsCalled c (codes "streams")
      → (most : ℕ) × (0 < most) × ReadsOne group.items consumer.items most now key.items text.items answer old new
