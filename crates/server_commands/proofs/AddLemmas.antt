-- An entry is added to a stream.
use Rattle.std.proofs.Common.{◌≡◌, ℕ, ◌+◌, ◌-◌, ◌<◌, ◌≤◌, List, [], ◌∷◌, length, get_or, set, drop, take, inl, inr, refl, sym, ap, subst, ◌∙◌, codes, arith}
use Rattle.std.proofs.lemmas.List.{get_or_default, length-drop, length-map, take_all}
use Rattle.std.specs.Prelude.{Result, Ok, Err, IfOk, true, false, insert}
use Rattle.std.specs.Global.{Vec}
use Rattle.std.specs.List.{HoldsAt}
use Rattle.server_store.specs.declared.stream.Stream.{Stream}
use Rattle.server_store.specs.EntryId.{id_text}
use Rattle.server_store.specs.declared.entry_id.EntryId.{EntryId}
use Rattle.server_commands.specs.Adding.{AreOptions, IsAdded, IsXadd, id_alone}
use Rattle.server_commands.specs.IdWords.{Fits, texts_of}
use Rattle.server_commands.specs.Places.{AreInOrder, IsMissing, keys_of}
use Rattle.server_commands.specs.Shown.{text_before_nul}
use Rattle.server_commands.specs.declared.answer.Answer.{Answer}
use Rattle.server_commands.specs.declared.answer.Answer.TheVariants.{Nil}
use Rattle.server_commands.specs.declared.commands.new_ids.NewId.TheVariants.{Automatic, Given}
use Rattle.server_commands.specs.declared.commands.retention.Retention.{Retention}
use Rattle.server_commands.proofs.IdWordLemmas.{id_whole, parts_of}

-- `*` is the text of no id
pub not_automatic : (id : EntryId) (text : List ℕ) → Fits id → text ≡ id_text id → text_before_nul text ≡ codes "*" → ⊥
not_automatic id text fit is star =
    let whole : codes "*" ≡ id_text id = sym star ∙ id_whole id text fit is ∙ is in
    omega (arith, ap length (parts_of id (codes "*") fit whole).1)

-- no word is the first of none
pub none_first : (words : List (Vec ℕ)) (text : List ℕ) (others : List (List ℕ)) → length words < 1
    → texts_of words ≡ text ∷ others → ⊥
none_first words text others none is = omega (arith, none, ap length is, length-map words (λ (w : Vec ℕ). w.items))

-- the text of the first word
pub first_text : (words : List (Vec ℕ)) (word : Vec ℕ) (text : List ℕ) (others : List (List ℕ)) → word ≡ get_or words 0 word
    → texts_of words ≡ text ∷ others → word.items ≡ text
first_text [] word text others at is = absurd (omega (arith, ap length is))
first_text (w ∷ words) word text others at is =
    ap (λ (v : Vec ℕ). v.items) at ∙ ap (λ (ts : List (List ℕ)). get_or ts 0 []) is

-- what a call of `retention_in` ensures of its words
pub options_read : {E : Type 0} (words rest : List (Vec ℕ)) (r : Result Retention E) (options : Retention) → r ≡ Ok options
    → words ≡ rest
    → ((id : EntryId) (others : List (List ℕ)) → true ≡ true → Fits id → texts_of words ≡ id_text id ∷ others
    → r ≡ Ok (id_alone (Given id)))
    → ((others : List (List ℕ)) → true ≡ true → texts_of words ≡ codes "*" ∷ others → r ≡ Ok (id_alone Automatic))
    → AreOptions rest options
options_read {E} words rest r options was same given automatic =
    let taken : (o : Retention) → r ≡ Ok o → options ≡ o =
    λ o is. ap (λ (r : Result Retention E). elim r [ Ok x ↦ x | Err e ↦ options ]) (sym was ∙ is) in
    subst (λ (ws : List (Vec ℕ)). AreOptions ws options) same (record {
      given = λ id others fit is. taken (id_alone (Given id)) (given id others refl fit is);
      automatic = λ others is. taken (id_alone Automatic) (automatic others refl is);
    })

-- the last words, as a slice has them
pub last_words : (words : List (Vec ℕ)) → take (length words - 2) (drop 2 words) ≡ drop 2 words
last_words words = take_all (length words - 2) (drop 2 words) (omega (arith, length-drop 2 words))

-- the word that was copied as the key
pub key_at : (words : List (Vec ℕ)) (item key : Vec ℕ) → 2 ≤ length words → item ≡ get_or words 1 item
    → key.items ≡ item.items → HoldsAt (λ word. word.items ≡ key.items) words 1
key_at words item key two is same d =
    ap (λ (w : Vec ℕ). w.items) (get_or_default words 1 d item (omega (arith, two)) ∙ sym is) ∙ sym same

module _ (words : List (Vec ℕ)) (now : ℕ) (options : Retention) (key : List ℕ) (fields : Vec (Vec ℕ))
    (keyed : HoldsAt (λ word. word.items ≡ key) words 1) (read : AreOptions (drop 2 words) options) (fielded : fields.items ≡ drop (2 + options.len) words)
    (streams : List Stream) (index : ℕ) where
  -- to the stream at the index
  pub added_at : {E : Type 0} (r : Result Answer E) (was is : Stream) → index < length streams → was ≡ get_or streams index was
      → HoldsAt (λ s. s.key.items ≡ key) streams index
      → IfOk r (λ answer. IsAdded fields options now answer was is)
      → IfOk r (λ answer. IsXadd words now answer streams (set streams index is))
  added_at (Ok answer) was is within at named how = record {
    key = key;
    options = options;
    fields = fields;
    keyed = keyed;
    read = read;
    fielded = fielded;
    how = inl (record {
      index = index;
      was = was;
      is = is;
      within = within;
      stood = sym at;
      named = ap (λ (s : Stream). s.key.items) at ∙ named was;
      how = how;
      changed = refl;
    });
  }
  added_at (Err e) was is within at named how = tt

  -- to a new one, which comes in at the index
  pub added_new : (answer : Answer) (empty is : Stream) → (AreInOrder (keys_of streams) → IsMissing key (keys_of streams)) → index ≤ length streams → empty.key.items ≡ key
      → empty.entries.items ≡ [] → empty.groups.items ≡ [] → IsAdded fields options now answer empty is
      → IsXadd words now answer streams (insert streams index is)
  added_new answer empty is none within named no_entries no_groups how = record {
    key = key;
    options = options;
    fields = fields;
    keyed = keyed;
    read = read;
    fielded = fielded;
    how = inr (record {
      none = none;
      how = inl (record {
        index = index;
        empty = empty;
        is = is;
        within = within;
        named = named;
        no_entries = no_entries;
        no_groups = no_groups;
        how = how;
        made = refl;
      });
    });
  }

  -- to none
  pub added_nowhere : (AreInOrder (keys_of streams) → IsMissing key (keys_of streams)) → options.makes_stream ≡ false
      → IsXadd words now Nil streams streams
  added_nowhere none asked = record {
    key = key;
    options = options;
    fields = fields;
    keyed = keyed;
    read = read;
    fielded = fielded;
    how = inr (record { none = none; how = inr (record { asked = asked; same = refl; answered = refl }) });
  }
