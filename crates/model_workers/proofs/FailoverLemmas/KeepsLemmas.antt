-- A handler that keeps entries, and looks each up, does as the consumer of the model.
use Rattle.std.proofs.Common.{◌≡◌, ◌∙◌, refl, sym, ap, ap₂, Bool, true, false, List, [], ◌∷◌, ◌++◌, Some, None}
use Rattle.std.proofs.Common.{append_assoc, append-nil, if◌then◌else◌}
use Rattle.std.specs.Str.{bytes_eq}
use Rattle.model_server.specs.Failover.Lookup.{unwritten}
use Rattle.model_workers.specs.Files.Files.{Fields}
use Rattle.model_server.specs.Group.Group.{ids_of, listed}
use Rattle.model_server.specs.Group.Worker.{Delivered, Entry, Id, Verdict, done, handled_in, left_pending, stop, told_in}
use Rattle.model_server.proofs.OnceLemmas.Apart.{ids_both}
use Rattle.worker.specs.Gathered.{Doings}
use Rattle.worker.specs.Handling.{with_all}
use Rattle.model_workers.specs.Failover.Keeps.{EntriesLookUp, looked_too}

-- these are gathered over this file
abbrev over : (lines file : List (Entry Fields)) → Doings
over lines file = record { loose = lines; committed = file }

-- one id more, wherever it is
last_listed : (ids : List Id) (x id : Id) → listed (ids ++ x ∷ []) id ≡ listed (x ∷ ids) id
last_listed [] x id = refl
last_listed (y ∷ ids) x id =
    ap (λ (b : Bool). if bytes_eq y id then true else b) (last_listed ids x id)
    ∙ by (bytes_eq y id) (bytes_eq x id) (listed ids id)
  where
    by : (a b c : Bool) → (if a then true else (if b then true else c)) ≡ (if b then true else (if a then true else c))
    by true true c = refl
    by true false c = refl
    by false true c = refl
    by false false c = refl

-- the lines of more entries, if the same ids are listed
same_unwritten : (xs ys : List Id) (es : List (Entry Fields)) → ((id : Id) → listed xs id ≡ listed ys id)
    → unwritten xs es ≡ unwritten ys es
same_unwritten xs ys [] same = refl
same_unwritten xs ys (e ∷ es) same =
    let more : (id : Id) → listed (e.0 ∷ xs) id ≡ listed (e.0 ∷ ys) id =
    λ id. ap (λ (b : Bool). if bytes_eq e.0 id then true else b) (same id) in
    ap (λ (b : Bool). if b then unwritten xs es else e ∷ unwritten (e.0 ∷ xs) es) (same e.0)
    ∙ ap₂ (λ (ls ms : List (Entry Fields)). if listed ys e.0 then ls else e ∷ ms) (same_unwritten xs ys es same)
    (same_unwritten (e.0 ∷ xs) (e.0 ∷ ys) es more)

ids_last : (file lines : List (Entry Fields)) (e : Entry Fields)
    → ids_of (file ++ (lines ++ e ∷ [])) ≡ ids_of (file ++ lines) ++ e.0 ∷ []
ids_last file lines e = ap ids_of (sym (append_assoc file lines (e ∷ []))) ∙ ids_both (file ++ lines) (e ∷ [])

-- the entries of a reply
abbrev Takes : (lines file : List (Entry Fields)) → List (Delivered Fields) → List Verdict → Type 0
Takes lines file ds vs = with_all looked_too (over lines file) (told_in ds vs)
    ≡ over (lines ++ unwritten (ids_of (file ++ lines)) (handled_in ds vs)) file

none_taken : (lines file : List (Entry Fields)) → over lines file ≡ over (lines ++ []) file
none_taken lines file = ap (λ (ls : List (Entry Fields)). over ls file) (sym (append-nil lines))

one_taken : (lines file : List (Entry Fields)) (e : Entry Fields) (ds : List (Delivered Fields)) (vs : List Verdict)
    → Takes lines file ds vs → Takes (lines ++ e ∷ []) file ds vs
    → with_all looked_too (looked_too (over lines file) e done) (told_in ds vs)
    ≡ over (lines ++ unwritten (ids_of (file ++ lines)) (e ∷ handled_in ds vs)) file
one_taken lines file e ds vs here more =
    let ids : List Id = ids_of (file ++ lines) in
    let next : List (Entry Fields) = handled_in ds vs in
    let same : (lines ++ e ∷ []) ++ unwritten (ids_of (file ++ (lines ++ e ∷ []))) next
    ≡ lines ++ e ∷ unwritten (e.0 ∷ ids) next =
    ap (λ (xs : List (Entry Fields)). (lines ++ e ∷ []) ++ xs)
    (same_unwritten (ids_of (file ++ (lines ++ e ∷ []))) (e.0 ∷ ids) next
    (λ id. ap (λ (is : List Id). listed is id) (ids_last file lines e) ∙ last_listed ids e.0 id))
    ∙ append_assoc lines (e ∷ []) (unwritten (e.0 ∷ ids) next) in
    elim (listed ids e.0)
    as (λ b. with_all looked_too (if b then over lines file else over (lines ++ e ∷ []) file) (told_in ds vs)
    ≡ over (lines ++ (if b then unwritten ids next else e ∷ unwritten (e.0 ∷ ids) next)) file) [
      | true ↦ here
      | false ↦ more ∙ ap (λ (ls : List (Entry Fields)). over ls file) same
    ]

taken : (lines file : List (Entry Fields)) (ds : List (Delivered Fields)) (vs : List Verdict) → Takes lines file ds vs
taken lines file [] vs = none_taken lines file
taken lines file (d ∷ ds) [] = none_taken lines file
taken lines file ((id, None) ∷ ds) (v ∷ vs) = taken lines file ds vs
taken lines file ((id, Some fields) ∷ ds) (done ∷ vs) = one_taken lines file (id, fields) ds vs
    (taken lines file ds vs) (taken (lines ++ (id, fields) ∷ []) file ds vs)
taken lines file ((id, Some fields) ∷ ds) (left_pending ∷ vs) = taken lines file ds vs
taken lines file ((id, Some fields) ∷ ds) (stop ∷ vs) = none_taken lines file

pub entries_look_up : EntriesLookUp
entries_look_up = record { reply = taken; commit = λ lines file. refl }
