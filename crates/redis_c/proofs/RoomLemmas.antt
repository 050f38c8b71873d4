-- The result returned for places that are found, and for tables that have too little room for them.
use Rattle.std.proofs.Common.{◌≡◌, ◌≤◌, ◌+◌, ◌∙◌, ℕ, List, length, take, drop, map, refl, sym, ap, arith, subst, inl, inr}
use Rattle.std.proofs.Common.{Option, Some, None}
use Rattle.std.proofs.lemmas.List.{length-append, length-map, length-take, take-append-drop}
use Rattle.std.specs.Prelude.{IfSome, IsSomeAnd}
use Rattle.stream_in_place.specs.Held.{Held}
use Rattle.stream_in_place.specs.Lent.{Lent}
use Rattle.redis_c.specs.Outcome.{code, found}
use Rattle.redis_c.specs.Told.{HasCounts, IsRoom, IsTooMuch, IsWanting, TellsPlaces}
use Rattle.redis_c.specs.declared.outcome.Counts.{Counts}
use Rattle.redis_c.specs.declared.outcome.Found.{Found}
use Rattle.redis_c.specs.declared.outcome.Outcome.{Outcome}
use Rattle.redis_c.specs.declared.outcome.Outcome.TheVariants as outcomes

module _ (len : ℕ) (counts room : Counts) where
  -- the number of places that is needed is the number returned
  pub wanting_is : (In : List ℕ → ℕ → Held → Type 0) (bytes : List ℕ) (held : Held) (o : Outcome)
      → IsWanting len counts room o → In bytes len held → HasCounts counts held → IsRoom In bytes room o
  wanting_is In bytes held (outcomes.Room l c) w at many = (
    held,
    subst (λ (n : ℕ). In bytes n held) (sym w.0) at,
    subst (λ (x : Counts). HasCounts x held) (sym w.1) many,
    subst (λ (x : Counts). IsTooMuch x room) (sym w.1) w.2,
  )
  wanting_is In bytes held outcomes.Memory w at many = tt
  wanting_is In bytes held (outcomes.InPlace l c) w at many = absurd w
  wanting_is In bytes held outcomes.Incomplete w at many = absurd w
  wanting_is In bytes held (outcomes.ServerError l text) w at many = absurd w
  wanting_is In bytes held (outcomes.OtherShape l) w at many = absurd w
  wanting_is In bytes held (outcomes.Fault f) w at many = absurd w

  -- this number of entries is needed
  pub entries_wanted : (some rows n : ℕ) (o : Outcome) → IsWanting len counts room o → len ≡ n → counts.entries ≡ rows
      → TellsPlaces some rows n (code o) (found o).len (found o).entries
  entries_wanted some rows n (outcomes.Room l c) w same many =
      inr (inr refl, (w.0 ∙ same, ap (λ (x : Counts). x.entries) w.1 ∙ many))
  entries_wanted some rows n outcomes.Memory w same many = inl refl
  entries_wanted some rows n (outcomes.InPlace l c) w same many = absurd w
  entries_wanted some rows n outcomes.Incomplete w same many = absurd w
  entries_wanted some rows n (outcomes.ServerError l text) w same many = absurd w
  entries_wanted some rows n (outcomes.OtherShape l) w same many = absurd w
  entries_wanted some rows n (outcomes.Fault f) w same many = absurd w

  -- this number of streams is needed
  pub streams_wanted : (some rows n : ℕ) (o : Outcome) → IsWanting len counts room o → len ≡ n → counts.streams ≡ rows
      → TellsPlaces some rows n (code o) (found o).len (found o).streams
  streams_wanted some rows n (outcomes.Room l c) w same many =
      inr (inr refl, (w.0 ∙ same, ap (λ (x : Counts). x.streams) w.1 ∙ many))
  streams_wanted some rows n outcomes.Memory w same many = inl refl
  streams_wanted some rows n (outcomes.InPlace l c) w same many = absurd w
  streams_wanted some rows n outcomes.Incomplete w same many = absurd w
  streams_wanted some rows n (outcomes.ServerError l text) w same many = absurd w
  streams_wanted some rows n (outcomes.OtherShape l) w same many = absurd w
  streams_wanted some rows n (outcomes.Fault f) w same many = absurd w

  -- this number of fields is needed
  pub fields_wanted : (some rows n : ℕ) (o : Outcome) → IsWanting len counts room o → len ≡ n → counts.fields ≡ rows
      → TellsPlaces some rows n (code o) (found o).len (found o).fields
  fields_wanted some rows n (outcomes.Room l c) w same many =
      inr (inr refl, (w.0 ∙ same, ap (λ (x : Counts). x.fields) w.1 ∙ many))
  fields_wanted some rows n outcomes.Memory w same many = inl refl
  fields_wanted some rows n (outcomes.InPlace l c) w same many = absurd w
  fields_wanted some rows n outcomes.Incomplete w same many = absurd w
  fields_wanted some rows n (outcomes.ServerError l text) w same many = absurd w
  fields_wanted some rows n (outcomes.OtherShape l) w same many = absurd w
  fields_wanted some rows n (outcomes.Fault f) w same many = absurd w

-- this number of places is in a table that has room for them
pub places_there : (some rows n told_len told_places : ℕ) → told_len ≡ n → told_places ≡ rows → told_places ≤ some
    → TellsPlaces some rows n 0 told_len told_places
places_there some rows n told_len told_places same many fits =
    inr (inl (refl, omega (arith, many, fits)), (same, many))

-- as many rows as there are places
pub as_many : {A B : Type 0} (f : A → B) (places : List A) (rows : List B) (count : ℕ) → map f places ≡ rows
    → count ≡ length places → count ≡ length rows
as_many f places rows count is many = many ∙ sym (length-map places f) ∙ ap length is

-- as many as in two parts
pub as_many_parts : {A B C : Type 0} (f : A → B) (g : A → C) (places : List A) (k : ℕ) (bs : List B) (cs : List C)
    (count : ℕ) → map f (take k places) ≡ bs → map g (drop k places) ≡ cs → count ≡ length places
    → count ≡ length bs + length cs
as_many_parts f g places k bs cs count first second many =
    many ∙ ap length (sym (take-append-drop k places)) ∙ length-append (take k places) (drop k places)
    ∙ ap (λ (n : ℕ). n + length (drop k places)) (as_many f (take k places) bs (length (take k places)) first refl)
    ∙ ap (λ (n : ℕ). length bs + n) (as_many g (drop k places) cs (length (drop k places)) second refl)

-- how many entries, streams or fields the slices have room for
abbrev pub entry_room : Option Lent → ℕ
entry_room None = 0
entry_room (Some lent) = lent.entry_room

abbrev pub stream_room : Option Lent → ℕ
stream_room None = 0
stream_room (Some lent) = lent.stream_room

abbrev pub field_room : Option Lent → ℕ
field_room None = 0
field_room (Some lent) = lent.field_room

-- no more are held in a table than it has room for
pub held_fits : {A : Type 0} (k : ℕ) (table : List A) (count room : ℕ) → count ≡ length (take k table)
    → length table ≡ room → count ≤ room
held_fits k table count room many whole = omega (arith, many, whole, length-take k table)

-- C receives the result of the outcome
pub told_places : (of : Found → ℕ) (o : Outcome) (n : ℕ) (f : Found) (some rows len : ℕ) → n ≡ code o → f ≡ found o
    → TellsPlaces some rows len (code o) (found o).len (of (found o)) → TellsPlaces some rows len n f.len (of f)
told_places of o n f some rows len number beside tells =
    subst (λ (x : ℕ). TellsPlaces some rows len x f.len (of f)) (sym number)
    (subst (λ (x : Found). TellsPlaces some rows len (code o) x.len (of x)) (sym beside) tells)

-- nothing is found where something is
pub none_found : {A : Type 0} (o : Option A) (P : A → Type 0) → o ≡ None → IsSomeAnd o P → ⊥
none_found None P is some = some
none_found (Some x) P is some = absurd cc

-- what is found is this
pub some_found : {A : Type 0} (o : Option A) (x : A) (P : A → Type 0) → o ≡ Some x → IsSomeAnd o P → P x
some_found {A} o x P is some = subst (λ (z : Option A). IsSomeAnd z P) is some

-- what holds of what is found holds of this
pub found_so : {A : Type 0} (o : Option A) (x : A) (P : A → Type 0) → o ≡ Some x → IfSome o P → P x
found_so {A} o x P is holds = subst (λ (z : Option A). IfSome z P) is holds
