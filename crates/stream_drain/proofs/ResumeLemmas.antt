-- The steps of a program that begins with what its file tells.
use Rattle.std.proofs.Common.{◌≡◌, ◌+◌, ◌<◌, ◌∙◌, sym, ap, subst, ℕ, Bool, List, [], ◌∷◌, ◌++◌, drop}
use Rattle.std.proofs.Common.{length, map, take, take-suc, add-one, get_or, string_bytes, Option, Some, None, IfSome, IfOk, Result, Ok, Err, Vec}
use Rattle.std.proofs.Common.{◌≤◌, append-nil, refl}
use Rattle.std.proofs.Math.Seq.{drop-length}
use Rattle.std.proofs.lemmas.List.Folds.{drop_split}
use Rattle.std.specs.List.{slice_range}
use Rattle.std.specs.declared.alloc.AllocError.{AllocError}
use Rattle.std.proofs.lemmas.List.{map-append}
use Rattle.std.specs.Prelude.{String}
use Rattle.std.specs.declared.alloc.Global.{Global}
use Rattle.worker_journal.specs.LastLines.{last_of, lines_of}
use Rattle.worker_journal.specs.LineTexts.{bytes_of}
use Rattle.model_server.specs.Group.Worker.{Id, Machine, start}
use Rattle.worker.specs.Session.{Standing}
use Rattle.worker.specs.declared.state.Asked.{Asked}
use Rattle.worker.specs.declared.state.Asked.TheVariants.{Nothing}
use Rattle.worker.specs.declared.state.GroupState.{GroupState}
use Rattle.worker.specs.declared.state.GroupState.TheVariants.{Unknown}
use Rattle.worker.specs.declared.state.Settings.{Settings}
use Rattle.stream_drain.specs.Resumed.{BeginsSo, BeginsWithLast, TellEach, Tells}
use Rattle.stream_drain.specs.Counts.{has_any}
use Rattle.stream_drain.specs.Known.{Known}
use Rattle.stream_drain.specs.Written.{Written}
use Rattle.stream_drain.proofs.ResumedLemmas.{begins_so, begins_with_last}
use Rattle.stream_drain.proofs.TellLemmas.{tell_more}

-- a line more of a list of lines, and its id
pub told_one_more : (json : Bool) (lines : List (Vec ℕ Global)) (i : ℕ) (line : Vec ℕ Global)
    (ids more : List (String Global)) (id : String Global) → i < length lines → line ≡ get_or lines i line
    → more ≡ ids ++ id ∷ [] → TellEach json (bytes_of (take i lines)) (map string_bytes ids)
    → Tells json line.items (string_bytes id) → TellEach json (bytes_of (take (i + 1) lines)) (map string_bytes more)
told_one_more json lines i line ids more id lt is pushed each tells =
    let taken : take (i + 1) lines ≡ take i lines ++ line ∷ [] =
    rw add-one (take-suc lines i line lt ∙ ap (λ y. take i lines ++ y ∷ []) (sym is)) in
    let bytes : bytes_of (take (i + 1) lines) ≡ bytes_of (take i lines) ++ line.items ∷ [] =
    ap bytes_of taken ∙ map-append (λ (t : Vec ℕ Global). t.items) (take i lines) (line ∷ []) in
    let texts : map string_bytes more ≡ map string_bytes ids ++ string_bytes id ∷ [] =
    ap (map string_bytes) pushed ∙ map-append string_bytes ids (id ∷ []) in
    subst (λ (ls : List (List ℕ)). TellEach json ls (map string_bytes more)) (sym bytes)
    (subst (λ (is : List Id). TellEach json (bytes_of (take i lines) ++ line.items ∷ []) is) (sym texts)
    (tell_more json (bytes_of (take i lines)) (map string_bytes ids) line.items (string_bytes id) each tells))

-- there are ids if there are lines that tell them
each_told : (json : Bool) (lines : List (List ℕ)) (items : List (String Global))
    → TellEach json lines (map string_bytes items) → has_any items ≡ has_any lines
each_told json [] [] tell = refl
each_told json [] (id ∷ ids) tell = absurd tell
each_told json (line ∷ lines) [] tell = absurd tell
each_told json (line ∷ lines) (id ∷ ids) tell = refl

-- so it is where the file is known
pub ids_are_there : (json : Bool) (n : ℕ) (committed : Option (List ℕ)) (items : List (String Global)) (b : Bool)
    → b ≡ has_any items
    → IfSome committed (λ bytes. TellEach json (last_of n (lines_of bytes)) (map string_bytes items))
    → IfSome committed (λ bytes. b ≡ has_any (last_of n (lines_of bytes)))
ids_are_there json n None items b is tell = tell
ids_are_there json n (Some bytes) items b is tell =
    is ∙ (each_told json (last_of n (lines_of bytes)) items tell)

-- where a worker stands at its beginning, with so much in its file
abbrev begun_with : Settings → Bool → Known → List Id → List ℕ → Option (List ℕ) → Standing Written
begun_with settings json known ids loose committed = record {
  machine = record (start settings.every) { to_acknowledge = ids };
  group = Unknown;
  asked = Nothing;
  history = record { json = json; known = known; loose = loose; committed = committed };
}

-- it is such a worker
abbrev begun_as : Machine → GroupState → Asked → Bool → Known → List ℕ → Option (List ℕ) → Standing Written
begun_as machine group asked json known loose committed = record {
  machine = machine;
  group = group;
  asked = asked;
  history = record { json = json; known = known; loose = loose; committed = committed };
}

begun_is : (settings : Settings) (json : Bool) (known : Known) (ids : List Id) (loose : List ℕ) (committed : Option (List ℕ))
    (machine : Machine) (group : GroupState) (asked : Asked)
    → machine ≡ record (start settings.every) { to_acknowledge = ids } → group ≡ Unknown → asked ≡ Nothing → loose ≡ []
    → begun_as machine group asked json known loose committed ≡ begun_with settings json known ids [] committed
begun_is settings json known ids loose committed machine group asked m g a l =
    ap (λ (x : Machine). begun_as x group asked json known loose committed) m
    ∙ (ap (λ (y : GroupState). begun_as (record (start settings.every) { to_acknowledge = ids }) y asked json known loose committed) g
    ∙ (ap (λ (z : Asked). begun_as (record (start settings.every) { to_acknowledge = ids }) Unknown z json known loose committed) a
    ∙ ap (λ (x : List ℕ). begun_with settings json known ids x committed) l))

pub it_begins_so : (number : ℕ) (settings : Settings) (json : Bool) (known : Known) (ids : List Id) (loose : List ℕ)
    (committed : Option (List ℕ)) (machine : Machine) (group : GroupState) (asked : Asked)
    → machine ≡ record (start settings.every) { to_acknowledge = ids } → group ≡ Unknown → asked ≡ Nothing → loose ≡ []
    → IfSome committed (λ bytes. TellEach json (last_of number (lines_of bytes)) ids)
    → IfSome committed (λ bytes. BeginsSo number settings json known bytes
    (begun_as machine group asked json known loose committed))
it_begins_so number settings json known ids loose None machine group asked m g a l each = tt
it_begins_so number settings json known ids loose (Some bytes) machine group asked m g a l each =
    subst (λ (w : Standing Written). BeginsSo number settings json known bytes w)
    (sym (begun_is settings json known ids loose (Some bytes) machine group asked m g a l))
    (begins_so number settings json known bytes ids each)

-- so it begins with the ids of the last lines
pub it_begins_with_last : (number : ℕ) (settings : Settings) (json : Bool) (known : Known) (ids : List Id) (loose : List ℕ)
    (committed : Option (List ℕ)) (machine : Machine) (group : GroupState) (asked : Asked)
    → machine ≡ record (start settings.every) { to_acknowledge = ids } → group ≡ Unknown → asked ≡ Nothing → loose ≡ []
    → IfSome committed (λ bytes. TellEach json (last_of number (lines_of bytes)) ids)
    → IfSome committed (λ bytes. BeginsWithLast number settings json known bytes
    (begun_as machine group asked json known loose committed))
it_begins_with_last number settings json known ids loose None machine group asked m g a l each = tt
it_begins_with_last number settings json known ids loose (Some bytes) machine group asked m g a l each = λ es is.
    begun_is settings json known ids loose (Some bytes) machine group asked m g a l
    ∙ begins_with_last number settings json known bytes ids each es is

-- what is found of the text of an id holds of an id that tells
pub told_by : (json : Bool) (line id : List ℕ) (r : Result (Option (String Global)) AllocError) → Tells json line id
    → IfOk r (λ o. IfSome o (λ text. string_bytes text ≡ id))
    → IfOk r (λ o. IfSome o (λ text. Tells json line (string_bytes text)))
told_by json line id (Ok None) tells is = tt
told_by json line id (Ok (Some text)) tells is = subst (λ (x : List ℕ). Tells json line x) (sym is) tells
told_by json line id (Err e) tells is = tt

-- what a slice has from a place on
pub from_on : (xs : List ℕ) (a : ℕ) → a ≤ length xs → slice_range xs a (length xs) ≡ drop a xs
from_on xs a le = sym (drop_split xs a (length xs) le
    ∙ (ap (λ (ys : List ℕ). slice_range xs a (length xs) ++ ys) (drop-length xs) ∙ append-nil (slice_range xs a (length xs))))
