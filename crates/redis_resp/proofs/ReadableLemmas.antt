-- Whether a value can be read, without its record.
use Rattle.std.proofs.Common.{◌≡◌, ◌&&◌, ℕ, List, ◌∷◌, Bool, true, false, Option, Some, None, option_map}
use Rattle.std.proofs.Common.{option_and_then, refl, ◌∙◌, ap, Vec, Global}
use Rattle.std.specs.Option.{is_some}
use Rattle.std.specs.Str.{IsUtf8}
use Rattle.redis_resp.specs.Tree.{Tree, plain, pairs_in}
use Rattle.redis_resp.specs.Reading.{traverse}
use Rattle.redis_resp.specs.Table.{entry_reading, fields_reading, pairs_reading}
use Rattle.redis_resp.specs.Text.{text_reading}
use Rattle.redis_resp.specs.Value.{tree}
use Rattle.redis_resp.specs.declared.value.Value.{Value, BulkString}
use Rattle.redis_resp.proofs.TextLemmas.{text_of_bulk, no_text_of_bulk}
use Rattle.redis_resp.proofs.TraverseLemmas.{is_some_map}

-- bytes are a text if they are UTF-8
pub bulk_reads : (t : Tree) (w : Value) (b : Vec ℕ Global) → tree w ≡ plain t → w ≡ BulkString b → IsUtf8 b.items
    → is_some (text_reading t) ≡ true
bulk_reads t w b h is utf8 = ap is_some (text_of_bulk t w b b.items h is refl utf8)

pub bulk_not_read : (t : Tree) (w : Value) (b : Vec ℕ Global) → tree w ≡ plain t → w ≡ BulkString b → ¬ IsUtf8 b.items
    → is_some (text_reading t) ≡ false
bulk_not_read t w b h is apart = ap is_some (no_text_of_bulk t w b h is apart)

-- whether the pairs read, each a text and any value
abbrev pub fields_read : List (Tree × Tree) → Bool
fields_read ps = is_some (traverse (entry_reading (λ t. Some t)) ps)

any_value : (p : Tree × Tree) (ps : List (Tree × Tree))
    → fields_read (p ∷ ps) ≡ (is_some (text_reading p.0) && fields_read ps)
any_value p ps = by (text_reading p.0) (traverse (entry_reading (λ t. Some t)) ps)
  where
    by : (k : Option (List ℕ)) (o : Option (List (List ℕ × Tree)))
        → is_some (option_and_then (λ m. option_map (λ ms. m ∷ ms) o) (option_and_then (λ x. Some (x, p.1)) k))
        ≡ (is_some k && is_some o)
    by None o = refl
    by (Some k) None = refl
    by (Some k) (Some ms) = refl

-- if the first pair has a text as its key, the rest decides
pub next_reads : (left rest : List (Tree × Tree)) (p : Tree × Tree) → left ≡ p ∷ rest
    → is_some (text_reading p.0) ≡ true → fields_read left ≡ fields_read rest
next_reads left rest p steps is = rw steps (any_value p rest ∙ ap (λ b. b && fields_read rest) is)

-- if it has none, the pairs are not read
pub next_not_read : (left rest : List (Tree × Tree)) (p : Tree × Tree) → left ≡ p ∷ rest
    → is_some (text_reading p.0) ≡ false → fields_read left ≡ false
next_not_read left rest p steps is = rw steps (any_value p rest ∙ ap (λ b. b && fields_read rest) is)

-- fields are read if there are pairs that read
pub fields_there : (t : Tree) (ps : List (Tree × Tree)) → pairs_in t ≡ Some ps
    → is_some (fields_reading (λ u. Some u) t) ≡ fields_read ps
fields_there t ps is = is_some_map _ _ ∙ is_some_map _ (pairs_reading (λ u. Some u) t)
    ∙ ap (λ o. is_some (option_and_then (traverse (entry_reading (λ u. Some u))) o)) is

pub no_fields : (t : Tree) → pairs_in t ≡ None → is_some (fields_reading (λ u. Some u) t) ≡ false
no_fields t is = is_some_map _ _ ∙ is_some_map _ (pairs_reading (λ u. Some u) t)
    ∙ ap (λ o. is_some (option_and_then (traverse (entry_reading (λ u. Some u))) o)) is

pub ruleset fields_told = (next_reads, next_not_read, fields_there, no_fields)
