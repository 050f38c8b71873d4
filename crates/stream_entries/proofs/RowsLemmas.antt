-- Lists of rows, and the entries that they hold.
use Rattle.std.proofs.Common.{◌≡◌, List, [], ◌∷◌, ◌++◌, Option, Some, None, option_map, option_and_then, refl, sym, ◌∙◌}
use Rattle.std.proofs.Common.{ap, map, flat_map, String, Global}
use Rattle.std.specs.HashMap.{HashMap}
use Rattle.redis_resp.specs.Tree.{Tree, items}
use Rattle.redis_resp.specs.Reading.{traverse, list_reading}
use Rattle.redis_resp.specs.declared.value.Value.{Value}
use Rattle.stream_entries.specs.Entry.{Entry, entry_of}
use Rattle.stream_entries.specs.Rows.{joined, row_reading, rows_reading}
use Rattle.stream_entries.specs.EntryMeaning.{row_of}

-- items that are read and then converted: the joined list is what its items convert to
module _ {A M : Type 0} (item : Tree → Option M) (shown : M → List A) where
  each_shown : (ts : List Tree) → option_map joined (traverse (λ t. option_map shown (item t)) ts)
      ≡ option_map (flat_map shown) (traverse item ts)
  each_shown [] = refl
  each_shown (t ∷ ts) = by (item t) _ _ (each_shown ts)
    where
      by : (o : Option M) (es : Option (List (List A))) (ms : Option (List M))
          → option_map joined es ≡ option_map (flat_map shown) ms
          → option_map joined (option_and_then (λ e. option_map (λ r. e ∷ r) es) (option_map shown o))
          ≡ option_map (flat_map shown) (option_and_then (λ m. option_map (λ r. m ∷ r) ms) o)
      by None es ms h = refl
      by (Some m) None None h = refl
      by (Some m) (Some es) (Some ms) h = ap (option_map (λ r. shown m ++ r)) h
      by (Some m) None (Some ms) h = cc
      by (Some m) (Some es) None h = cc

  pub list_shown : (t : Tree) → option_map joined (list_reading (λ u. option_map shown (item u)) t)
      ≡ option_map (flat_map shown) (list_reading item t)
  list_shown t = by (items t)
    where
      by : (o : Option (List Tree)) → option_map joined (option_and_then (traverse (λ u. option_map shown (item u))) o)
          ≡ option_map (flat_map shown) (option_and_then (traverse item) o)
      by None = refl
      by (Some ts) = each_shown ts

pub flat_map-map : {A B C : Type 0} (g : B → List C) (f : A → B) (xs : List A)
    → flat_map g (map f xs) ≡ flat_map (λ x. g (f x)) xs
flat_map-map g f [] = refl
flat_map-map g f (x ∷ xs) = ap (λ r. g (f x) ++ r) (flat_map-map g f xs)

pub rows_read : {S W : Type 0} (t : Tree) (rows : List (HashMap (String Global) (HashMap (String Global) Value S) W))
    (ids : List Entry)
    → list_reading row_reading t ≡ Some (map row_of rows) → ids ≡ flat_map (λ row. map entry_of (row_of row)) rows
    → rows_reading t ≡ Some ids
unfolding rows_reading
rows_read t rows ids h e = list_shown row_reading (map entry_of) t ∙ ap (option_map (flat_map (map entry_of))) h
    ∙ ap Some (flat_map-map (map entry_of) row_of rows ∙ sym e)

pub rows_refused : (t : Tree) → list_reading row_reading t ≡ None → rows_reading t ≡ None
unfolding rows_reading
rows_refused t h = list_shown row_reading (map entry_of) t ∙ ap (option_map (flat_map (map entry_of))) h
