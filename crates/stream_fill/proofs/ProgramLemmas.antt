-- A run of the program, by its outcome.
use Rattle.std.proofs.Common.{◌≡◌, ◌≢◌, ◌≤◌, ◌↔◌, ◌⊎◌, ◌∙◌, ◌∷◌, ◌++◌, [], ℕ, Bool, Err, IfOk, IsErr, IsTrue, List, Ok, OnErr, OnOk, Option, Result, ap, ap₂, arith, codes, cond, false, inl, inr, nat_eq, refl, string_bytes, subst, sym, true, ◌-◌, ◌^◌, length}
use Rattle.std.specs.Option.{ForSome}
use Rattle.command_lines.specs.Words.{Text}
use Rattle.redis_connection.specs.Link.{Link}
use Rattle.worker_journal.specs.LastLines.{lines_of}
use Rattle.worker_producer.specs.Checked.{based}
use Rattle.worker_producer.specs.Confirmed.{FinishedConfirmed}
use Rattle.worker_producer.specs.Records.{Fields}
use Rattle.worker_producer.specs.declared.settings.Settings.{Settings}
use Rattle.worker_producer.specs.declared.settings.SettingsError.{SettingsError}
use Rattle.worker_producer.specs.declared.settings.SettingsError.TheVariants.{LargeBase}
use Rattle.stream_fill.specs.Base.{FindsBase, HasNoBase}
use Rattle.stream_fill.specs.Filled.{FillsNot}
use Rattle.stream_fill.specs.Options.{AreOptionsOf}
use Rattle.stream_fill.specs.Placed.{torn_of}
use Rattle.stream_fill.specs.Program.{AsksLast, FillsAsSaid, FillsBy, HasFoundBase, HasSession, IsKeptIn, IsLastOf, StartsAt, StopsAsSaid, StopsAtBase, StopsBy, trimmed}
use Rattle.stream_fill.specs.Taken.{records_of}
use Rattle.stream_fill.specs.declared.kept_base.BaseError.{BaseError}
use Rattle.stream_fill.specs.declared.kept_base.BaseError.TheVariants as causes
use Rattle.stream_fill.specs.declared.lines.Form.{Form}
use Rattle.stream_fill.specs.declared.options.Options.{Options}

-- ---- the exit status, if a failure is an error

module _ {C F : Type 0} (status : C → ℕ) where
  pub at_most_two : {A E : Type 0} (ended : Result A E) (result : Result C F)
      → OnOk ended (IfOk result (λ code. status code ≡ 0)) → OnErr ended (IsErr result)
      → IfOk result (λ code. status code ≤ 2)
  at_most_two (Ok a) (Ok code) zero failed = omega arith
  at_most_two (Ok a) (Err f) zero failed = tt
  at_most_two (Err e) (Ok code) zero failed = let h : false ≡ true = failed in cc
  at_most_two (Err e) (Err f) zero failed = tt

  pub at_zero : {A E : Type 0} (P : Type 0) (ended : Result A E) (result : Result C F) → OnOk ended P
      → OnErr ended (IsErr result) → IfOk result (λ code. status code ≡ 0 → P)
  at_zero P (Ok a) (Ok code) p failed = λ is. p
  at_zero P (Ok a) (Err f) p failed = tt
  at_zero P (Err e) (Ok code) p failed = λ is. let h : false ≡ true = failed in cc
  at_zero P (Err e) (Err f) p failed = tt

  pub at_no_other : {A E : Type 0} (P : Type 0) (ended : Result A E) (result : Result C F)
      → OnOk ended (IfOk result (λ code. status code ≡ 0)) → OnErr ended (IsErr result)
      → IfOk result (λ code. status code ≢ 0 → P)
  at_no_other P (Ok a) (Ok code) zero failed = λ other. absurd (other zero)
  at_no_other P (Ok a) (Err f) zero failed = tt
  at_no_other P (Err e) (Ok code) zero failed = λ other. let h : false ≡ true = failed in cc
  at_no_other P (Err e) (Err f) zero failed = tt

pub on_err : {A E P : Type 0} (r : Result A E) → P → OnErr r P
on_err (Ok a) p = tt
on_err (Err e) p = p

-- ---- the base

chosen : (b : Bool) (e : SettingsError) (s x : Settings) → Ok x ≡ cond b (Err e) (Ok s) → x ≡ s
chosen true e s x is = absurd (let h : Ok x ≡ Err e = is in cc)
chosen false e s x is = let h : Ok x ≡ Ok s = is in cc

asks_of : (old new : Link) (key wanted : Text) → key ≡ wanted → AsksLast key old new → (new ≡ old) ⊎ AsksLast wanted old new
asks_of old new key wanted of asks = inr (subst (λ (k : Text). AsksLast k old new) of asks)

module _ {D : Type 0} (seen : D → Option (List ℕ)) (may_leave : D → List ℕ → Type 0) (is_sound : D → Type 0)
    (file file' : D) (old new : Link) (s : Settings) (key : Text) (of : key ≡ string_bytes s.key) where
  in_file : (base : ℕ) → FindsBase seen may_leave is_sound key file file' old new base
      → IsKeptIn key (seen file) old new base ⊎ IsLastOf key (seen file) old new base
  in_file base (inl kept) = inl (record { line = kept.line; unasked = kept.unasked })
  in_file base (inr asked) = inr (record { none = asked.none; second = asked.second; last = asked.last })

  pub found_so : (base : ℕ) (x : Settings) → FindsBase seen may_leave is_sound key file file' old new base → Ok x ≡ based s base
      → HasFoundBase (seen file) s old new x
  found_so base x finds is = record {
    base = base;
    based = chosen (nat_eq base (2 ^ 64 - 1)) LargeBase (record s { base = base }) x is;
    found = subst (λ (k : Text). IsKeptIn k (seen file) old new base ⊎ IsLastOf k (seen file) old new base) of
        (in_file base finds);
  }

  pub asked_then : (base : ℕ) → FindsBase seen may_leave is_sound key file file' old new base
      → (new ≡ old) ⊎ AsksLast (string_bytes s.key) old new
  asked_then base (inl kept) = inl kept.unasked
  asked_then base (inr asked) = asks_of old new key (string_bytes s.key) of (inl ((base, asked.second), asked.last))

  pub none_found : (e : BaseError) → HasNoBase seen key file file' old new e
      → (new ≡ old) ⊎ AsksLast (string_bytes s.key) old new
  none_found causes.OtherFile why = inl why.2
  none_found (causes.File e) (inl untouched) = inl untouched.0
  none_found (causes.File e) (inr last) = asks_of old new key (string_bytes s.key) of (inl last)
  none_found (causes.Ask e) why = asks_of old new key (string_bytes s.key) of (inr (e, why.2))

module _ (content : Text → Option Text) (path : Text) (is_onto : Bool) (s : Settings) (old : Link) where
  pub starts_plainly : is_onto ≡ false → StartsAt content path is_onto s old old s
  starts_plainly off = record {
    plain = λ is. (refl, refl);
    onto = λ is. absurd (let h : false ≡ true = sym off ∙ is in cc);
  }

  pub starts_onto : (new : Link) (x : Settings) (kept : Option Text) → is_onto ≡ true
      → kept ≡ content (path ++ codes ".onto") → HasFoundBase kept s old new x → StartsAt content path is_onto s old new x
  starts_onto new x kept on of found = record {
    plain = λ is. absurd (let h : true ≡ false = sym on ∙ is in cc);
    onto = λ is. subst (λ (k : Option Text). HasFoundBase k s old new x) of found;
  }

pub stops_onto : (is_onto : Bool) (key : Text) (old new : Link) → is_onto ≡ true → (new ≡ old) ⊎ AsksLast key old new
    → (new ≡ old) ⊎ StopsAtBase is_onto key old new
stops_onto is_onto key old new on (inl same) = inl same
stops_onto is_onto key old new on (inr asks) = inr (record { onto = on; asks = asks })

-- ---- a run by options

not_torn : (is_torn : Bool) (torn : List ℕ) → IsTrue is_torn ↔ (torn ≢ []) → is_torn ≡ false → torn ≡ []
not_torn is_torn [] both whole = refl
not_torn is_torn (b ∷ bs) both whole =
    let torn : is_torn ≡ true = both.1 (λ none. let h : b ∷ bs ≡ [] = none in cc) in
    absurd (let h : false ≡ true = sym whole ∙ torn in cc)

pub stops_first : (content : Text → Option Text) (o : Options) (first : Settings) (old new : Link)
    → first ≡ trimmed o.trim o.settings → (new ≡ old) ⊎ StopsAtBase o.is_onto (string_bytes first.key) old new
    → (new ≡ old) ⊎ StopsBy content o old new
stops_first content o first old new trims (inl same) = inl same
stops_first content o first old new trims (inr stops) =
    inr (inl (subst (λ (s : Settings). StopsAtBase o.is_onto (string_bytes s.key) old new) trims stops))

module _ (content : Text → Option Text) (o : Options) (path : Text) (of : path ≡ string_bytes o.path)
    (first : Settings) (trims : first ≡ trimmed o.trim o.settings)
    (old begun new : Link) (s : Settings) (starts : StartsAt content path o.is_onto first old begun s)
    (form : Form) (has_form : form ≡ o.form) (known : Option Text) (is_known : known ≡ content path)
    (count : ℕ) (counted : ForSome known (λ bytes. count ≡ length (lines_of bytes))) where
  content_is : known ≡ content (string_bytes o.path)
  content_is = is_known ∙ ap content of

  session : (way : Settings → Option (List Fields) → ℕ → Link → Link → Type 0)
      → way s (records_of form known) count begun new → HasSession way content o old new
  session way went = record {
    settings = s;
    begun = begun;
    starts = subst (λ (p : Text). StartsAt content p o.is_onto (trimmed o.trim o.settings) old begun s) of
        (subst (λ (x : Settings). StartsAt content path o.is_onto x old begun s) trims starts);
    count = count;
    counted = subst (λ (k : Option Text). ForSome k (λ bytes. count ≡ length (lines_of bytes))) content_is counted;
    went = subst (λ (k : Option (List Fields)). way s k count begun new) (ap₂ records_of has_form content_is) went;
  }

  pub fills_by : {A E : Type 0} (r : Result A E) (is_torn : Bool)
      → ForSome known (λ bytes. IsTrue is_torn ↔ (torn_of bytes ≢ []))
      → OnOk r (FinishedConfirmed o.wait s (records_of form known) count begun new) → OnOk r (is_torn ≡ false)
      → OnOk r (FillsBy content o old new)
  fills_by (Ok a) is_torn torn all whole = record {
    session = session (FinishedConfirmed o.wait) all;
    whole = λ bytes is. not_torn is_torn (torn_of bytes) (torn bytes (content_is ∙ is)) whole;
  }
  fills_by (Err e) is_torn torn all whole = tt

  pub fills_not : {A E : Type 0} (r : Result A E) → OnErr r (FillsNot o.wait s (records_of form known) count begun new)
      → OnErr r ((new ≡ old) ⊎ StopsBy content o old new)
  fills_not (Ok a) why = tt
  fills_not (Err e) why = inr (inr (session (FillsNot o.wait) why))

-- ---- a run by words

module _ {A E : Type 0} (content : Text → Option Text) (words : List Text) (o : Options) (said : AreOptionsOf words o)
    (old new : Link) where
  pub fills_as_said : (r : Result A E) → OnOk r (FillsBy content o old new) → OnOk r (FillsAsSaid content words old new)
  fills_as_said (Ok a) fills = record { options = o; said = said; fills = fills }
  fills_as_said (Err e) fills = tt

  pub stops_as_said : (r : Result A E) → OnErr r ((new ≡ old) ⊎ StopsBy content o old new)
      → OnErr r ((new ≡ old) ⊎ StopsAsSaid content words old new)
  stops_as_said (Ok a) stops = tt
  stops_as_said (Err e) (inl same) = inl same
  stops_as_said (Err e) (inr stops) = inr (record { options = o; said = said; stops = stops })
