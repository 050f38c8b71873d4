-- What a handler that looks up has written, beside the consumer of the model.
use Rattle.std.proofs.Common.{◌≡◌, ◌∙◌, refl, sym, ap, ap₂, Bool, true, false, ℕ, List, [], ◌∷◌, ◌++◌, Some, None}
use Rattle.std.proofs.Common.{append_assoc, append-nil, if◌then◌else◌, take}
use Rattle.std.specs.Prelude.{◌||◌}
use Rattle.std.specs.Str.{bytes_eq}
use Rattle.std.proofs.Math.Path.{fun_ext}
use Rattle.worker_journal.specs.EntryLine.{Entry}
use Rattle.model_server.specs.Failover.Lookup.{unwritten}
use Rattle.model_server.specs.Group.Group.{ids_of, listed}
use Rattle.model_server.specs.Group.Worker.{Delivered, Id, Verdict, done, entries_in, handled_in, left_pending, stop, told_in}
use Rattle.stream_in_place.specs.Sent.{Pairs}
use Rattle.model_server.specs.Once.Consumer.{Consumer}
use Rattle.model_server.proofs.OnceLemmas.Apart.{ids_both}
use Rattle.worker.specs.Handling.{with_all}
use Rattle.stream_drain.specs.Known.{Known, known_too, lines_for}
use Rattle.stream_drain.specs.Line.{line_in}
use Rattle.stream_drain.specs.Once.{LooksUpAsTheModel}
use Rattle.stream_drain.specs.Written.{Written, line_too, lines_in, written_too}
use Rattle.stream_drain.proofs.UniqueLemmas.{as_unwritten, listed_both, too_listed}
use Rattle.stream_drain.proofs.WrittenLemmas.{lines_both}

-- these lines are gathered over this file
abbrev over : Bool → List Entry → List Entry → Written
over json file lines = record {
  json = json;
  known = Some (listed (ids_of (file ++ lines)));
  loose = lines_in json lines;
  committed = Some (lines_in json file);
}

-- one id more, wherever it stands
last_listed : (ids : List Id) (id : Id) → listed (ids ++ id ∷ []) ≡ listed (id ∷ ids)
last_listed ids id = fun_ext (λ other. listed_both ids (id ∷ []) other ∙ by (listed ids other) (bytes_eq id other))
  where
    by : (a b : Bool) → (a || (if b then true else false)) ≡ (if b then true else a)
    by true true = refl
    by true false = refl
    by false true = refl
    by false false = refl

-- the lines of more entries, if the same ids are known
same_unwritten : (xs ys : List Id) (es : List Entry) → listed xs ≡ listed ys → unwritten xs es ≡ unwritten ys es
same_unwritten xs ys es same = sym (as_unwritten xs es)
    ∙ (ap (λ (k : Id → Bool). lines_for (Some k) es) same ∙ as_unwritten ys es)

ids_last : (file lines : List Entry) (e : Entry) → ids_of (file ++ (lines ++ e ∷ [])) ≡ ids_of (file ++ lines) ++ e.0 ∷ []
ids_last file lines e = ap ids_of (sym (append_assoc file lines (e ∷ []))) ∙ ids_both (file ++ lines) (e ∷ [])

-- the line of one more
line_more : (json : Bool) (file lines : List Entry) (e : Entry)
    → line_too (over json file lines) e ≡ over json file (lines ++ e ∷ [])
line_more json file lines e =
    let ids = ids_of (file ++ lines) in
    let known : known_too (Some (listed ids)) e.0 ≡ Some (listed (ids_of (file ++ (lines ++ e ∷ [])))) =
    too_listed ids e.0 ∙ ap (λ (k : Id → Bool). Some k) (sym (ap listed (ids_last file lines e) ∙ last_listed ids e.0)) in
    let loose : lines_in json lines ++ (line_in json e ++ 10 ∷ []) ≡ lines_in json (lines ++ e ∷ []) =
    sym (lines_both json lines (e ∷ [])
    ∙ ap (λ (xs : List ℕ). lines_in json lines ++ xs) (append-nil (line_in json e ++ 10 ∷ []))) in
    ap₂ (λ (k : Known) (xs : List ℕ). record { json = json; known = k; loose = xs; committed = Some (lines_in json file) })
    known loose

-- the entries of a reply
abbrev Takes : Bool → List Entry → List Entry → List (Delivered Pairs) → List Verdict → Type 0
Takes json file lines ds vs = with_all written_too (over json file lines) (told_in ds vs)
    ≡ over json file (lines ++ unwritten (ids_of (file ++ lines)) (handled_in ds vs))

none_taken : (json : Bool) (file lines : List Entry) → over json file lines ≡ over json file (lines ++ [])
none_taken json file lines = ap (over json file) (sym (append-nil lines))

one_taken : (json : Bool) (file lines : List Entry) (e : Entry) (ds : List (Delivered Pairs)) (vs : List Verdict)
    → Takes json file lines ds vs → Takes json file (lines ++ e ∷ []) ds vs
    → with_all written_too (written_too (over json file lines) e done) (told_in ds vs)
    ≡ over json file (lines ++ unwritten (ids_of (file ++ lines)) (e ∷ handled_in ds vs))
one_taken json file lines e ds vs here more =
    let ids = ids_of (file ++ lines) in
    let next = handled_in ds vs in
    let same : (lines ++ e ∷ []) ++ unwritten (ids_of (file ++ (lines ++ e ∷ []))) next
    ≡ lines ++ e ∷ unwritten (e.0 ∷ ids) next =
    ap (λ (xs : List Entry). (lines ++ e ∷ []) ++ xs) (same_unwritten (ids_of (file ++ (lines ++ e ∷ []))) (e.0 ∷ ids) next
    (ap listed (ids_last file lines e) ∙ last_listed ids e.0))
    ∙ append_assoc lines (e ∷ []) (unwritten (e.0 ∷ ids) next) in
    elim (listed ids e.0)
    as (λ b. with_all written_too (if b then over json file lines else line_too (over json file lines) e) (told_in ds vs)
    ≡ over json file (lines ++ (if b then unwritten ids next else e ∷ unwritten (e.0 ∷ ids) next))) [
      | true ↦ here
      | false ↦ ap (λ (w : Written). with_all written_too w (told_in ds vs)) (line_more json file lines e)
          ∙ (more ∙ ap (over json file) same)
    ]

taken : (json : Bool) (file lines : List Entry) (ds : List (Delivered Pairs)) (vs : List Verdict) → Takes json file lines ds vs
taken json file lines [] vs = none_taken json file lines
taken json file lines (d ∷ ds) [] = none_taken json file lines
taken json file lines ((id, None) ∷ ds) (v ∷ vs) = taken json file lines ds vs
taken json file lines ((id, Some fields) ∷ ds) (done ∷ vs) = one_taken json file lines (id, fields) ds vs
    (taken json file lines ds vs) (taken json file (lines ++ (id, fields) ∷ []) ds vs)
taken json file lines ((id, Some fields) ∷ ds) (left_pending ∷ vs) = taken json file lines ds vs
taken json file lines ((id, Some fields) ∷ ds) (stop ∷ vs) = none_taken json file lines

pub looks_up_as_the_model : LooksUpAsTheModel
looks_up_as_the_model = record {
  reply = λ json c a verdicts. taken json c.file c.lines (entries_in a) verdicts;
  commit = λ json c. ap₂ (λ (xs : List Entry) (ys : List ℕ).
      record { json = json; known = Some (listed (ids_of xs)); loose = []; committed = Some ys })
      (sym (append-nil (c.file ++ c.lines))) (sym (lines_both json c.file c.lines));
  start = λ json every kept more c. ap (λ (xs : List Entry).
      record { json = json; known = Some (listed (ids_of xs)); loose = []; committed = Some (lines_in json (restarts_file c kept)) })
      (sym (append-nil (restarts_file c kept)));
}
  where
    restarts_file : Consumer Pairs → ℕ → List Entry
    restarts_file c kept = c.file ++ take kept c.lines
