-- The notes on replies after which an entry stays pending.
use Rattle.std.specs.Prelude.{◌≡◌, ℕ, List, [], ◌∷◌, ◌++◌, Bool, true, false, string_bytes}
use Rattle.worker_jobs.specs.declared.jobs.Note.{Note}
use Rattle.worker_jobs.specs.declared.reply.Reply.{Reply}
use Rattle.worker_jobs.specs.declared.reply.Reply.TheVariants.{Done, Later, Dead, Stop}

-- one note was added: it contains `id`, `dead` and `text`
pub record KeepsNote (id : List ℕ) (dead : Bool) (text : List ℕ) (old new : List Note) : Type 0 where
  pub note : Note
  pub more : new ≡ old ++ note ∷ []
  pub of : string_bytes note.id ≡ id
  pub given_up : note.dead ≡ dead
  pub with_text : note.text.items ≡ text

-- a note was added, unless the text is empty and the entry should not be given up
abbrev pub IsNoted : List ℕ → Bool → List ℕ → List Note → List Note → Type 0
IsNoted id false [] old new = new ≡ old
IsNoted id true [] old new = KeepsNote id true [] old new
IsNoted id dead (b ∷ text) old new = KeepsNote id dead (b ∷ text) old new

-- the notes after a reply: only `Later` and `Dead` may add one
abbrev pub IsNotedFor : Reply → List ℕ → List ℕ → List Note → List Note → Type 0
IsNotedFor Done id text old new = new ≡ old
IsNotedFor Later id text old new = IsNoted id false text old new
IsNotedFor Dead id text old new = IsNoted id true text old new
IsNotedFor Stop id text old new = new ≡ old
