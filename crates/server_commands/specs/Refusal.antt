-- The text of a refusal.
use Rattle.std.specs.Prelude.{ℕ, List, []}
use Rattle.server_commands.specs.declared.refusal.Refusal.{Refusal}
use Rattle.server_commands.specs.declared.refusal.Refusal.TheVariants.{Memory, Fixed, Text}

-- its text; nothing if an allocation failed
abbrev pub refusal_text : Refusal → List ℕ
refusal_text Memory = []
refusal_text (Fixed text) = text.now
refusal_text (Text text) = text.items
