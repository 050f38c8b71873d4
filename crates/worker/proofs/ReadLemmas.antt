-- From decoded streams to those of an answer.
use Rattle.std.proofs.Common.{◌≡◌, ◌∙◌, refl, sym, ap, List, [], ◌∷◌, ◌++◌, map, flat_map, option_map, Option, Some, None, String}
use Rattle.std.proofs.Common.{Global, Bool, true, false, ℕ, ◌+◌, ◌<◌, get_or, length, take, string_bytes, if◌then◌else◌}
use Rattle.std.specs.Option.{is_some}
use Rattle.std.specs.Prelude.{Vec, ◌&&◌, not}
use Rattle.std.proofs.lemmas.List.{map-append, take_more}
use Rattle.redis_resp.specs.Reading.{list_reading}
use Rattle.redis_resp.specs.Table.{entries_meaning, pairs_reading}
use Rattle.redis_resp.specs.Tree.{Tree}
use Rattle.redis_resp.specs.declared.value.pair.PairList.{PairList}
use Rattle.redis_resp.specs.Refusal.{Refuses}
use Rattle.redis_resp.specs.declared.value.error.ParsingError.{ParsingError}
use Rattle.stream_entries.specs.Rows.{joined}
use Rattle.stream_in_place.specs.Sent.{SentEntry, is_none}
use Rattle.stream_in_place.specs.SentMeaning.{octet_pairs, sent_all, sent_of}
use Rattle.stream_in_place.specs.declared.sent.OctetPairs.{OctetPairs}
use Rattle.stream_in_place.specs.SentReading.{sent_row_reading, sent_stream, sent_streams_reading}
use Rattle.stream_in_place.specs.SentRefusal.{RefusesSentStreams}
use Rattle.stream_in_place.specs.declared.sent.SentRow.{SentRow}
use Rattle.worker.specs.Answers.{all_there, first_nil}
use Rattle.worker.specs.Read.{named, streams_named}
use Rattle.worker.proofs.TakingLemmas.{split}

-- one list of names and rows
named_each : (es : List (String Global × Vec SentRow Global)) → map sent_stream (entries_meaning sent_all es) ≡ map named es
named_each [] = refl
named_each (e ∷ es) = ap (λ r. named e ∷ r) (named_each es)

-- all lists, one behind the other
named_all : (ls : List (PairList (Vec SentRow Global)))
    → map sent_stream (joined (map (λ l. entries_meaning sent_all l.0.items) ls)) ≡ flat_map (λ l. map named l.0.items) ls
named_all [] = refl
named_all (l ∷ ls) =
    map-append sent_stream (entries_meaning sent_all l.0.items) (joined (map (λ m. entries_meaning sent_all m.0.items) ls))
    ∙ ap (λ r. r ++ map sent_stream (joined (map (λ m. entries_meaning sent_all m.0.items) ls))) (named_each l.0.items)
    ∙ ap (λ r. map named l.0.items ++ r) (named_all ls)

-- what a value is read as
pub streams_read : (t : Tree) (lists : Vec (PairList (Vec SentRow Global)) Global)
    → list_reading (pairs_reading (list_reading sent_row_reading)) t
    ≡ Some (map (λ l. entries_meaning sent_all l.0.items) lists.items)
    → sent_streams_reading t ≡ Some (streams_named lists)
unfolding sent_streams_reading
streams_read t lists h =
    ap (option_map (λ ls. map sent_stream (joined ls))) h ∙ ap Some (named_all lists.items)

-- what a value is refused as
pub streams_refused : (t : Tree) (p : ParsingError)
    → Refuses (list_reading (pairs_reading (list_reading sent_row_reading))) RefusesSentStreams t p
    → Refuses sent_streams_reading RefusesSentStreams t p
unfolding sent_streams_reading
streams_refused t p h = (h.0, λ other. ap (option_map (λ ls. map sent_stream (joined ls))) (h.1 other))

-- ---- entries with nil in place of their fields

-- what the first entries come to, if the first one has fields
passed : (b : Bool) (id : List ℕ) (o p q : Option (List ℕ)) → (if b then Some id else o) ≡ None → (o ≡ None → p ≡ q)
    → (if b then Some id else p) ≡ q
passed true id o p q h f = let both : Some id ≡ None = h in absurd cc
passed false id o p q h f = f h

pub none_more : (es : List SentEntry) (e : SentEntry) → first_nil es ≡ None → is_none e.fields ≡ false
    → first_nil (es ++ e ∷ []) ≡ None
none_more [] e h f = ap (λ (b : Bool). if b then Some e.id else None) f
none_more (d ∷ es) e h f =
    passed (is_none d.fields) d.id (first_nil es) (first_nil (es ++ e ∷ [])) None h (λ g. none_more es e g f)

pub nil_found : (es rest : List SentEntry) (e : SentEntry) → first_nil es ≡ None → is_none e.fields ≡ true
    → first_nil (es ++ e ∷ rest) ≡ Some e.id
nil_found [] rest e h f = ap (λ (b : Bool). if b then Some e.id else first_nil rest) f
nil_found (d ∷ es) rest e h f =
    passed (is_none d.fields) d.id (first_nil es) (first_nil (es ++ e ∷ rest)) (Some e.id) h
    (λ g. nil_found es rest e g f)

there_one : (b c : Bool) (id : List ℕ) (o : Option (List ℕ)) → (if b then Some id else o) ≡ None
    → (o ≡ None → c ≡ true) → (not b && c) ≡ true
there_one true c id o h f = let both : Some id ≡ None = h in absurd cc
there_one false c id o h f = f h

-- if there is no such entry, all have fields
pub there_all : (es : List SentEntry) → first_nil es ≡ None → all_there es ≡ true
there_all [] h = refl
there_all (e ∷ es) h =
    there_one (is_none e.fields) (all_there es) e.id (first_nil es) h (λ g. there_all es g)

nil_one : (b c : Bool) (d id : List ℕ) (o : Option (List ℕ)) → (if b then Some d else o) ≡ Some id
    → (o ≡ Some id → c ≡ false) → (not b && c) ≡ false
nil_one true c d id o h f = refl
nil_one false c d id o h f = f h

-- and if there is one, not all have
pub there_not : (es : List SentEntry) (id : List ℕ) → first_nil es ≡ Some id → all_there es ≡ false
there_not [] id h = let both : None ≡ Some id = h in absurd cc
there_not (e ∷ es) id h =
    nil_one (is_none e.fields) (all_there es) e.id id (first_nil es) h (λ g. there_not es id g)

-- ---- the same of rows

fields_none : (o : Option OctetPairs) → is_none (option_map octet_pairs o) ≡ not (is_some o)
fields_none None = refl
fields_none (Some ps) = refl

pub rows_more : (rows : List SentRow) (i : ℕ) (r : SentRow) → i < length rows → r ≡ get_or rows i r
    → first_nil (map sent_of (take i rows)) ≡ None → is_some r.fields ≡ true
    → first_nil (map sent_of (take (i + 1) rows)) ≡ None
rows_more rows i r l e none there =
    let more : map sent_of (take (i + 1) rows) ≡ map sent_of (take i rows) ++ sent_of r ∷ [] =
    ap (map sent_of) (take_more rows i r l ∙ ap (λ y. take i rows ++ y ∷ []) (sym e))
    ∙ map-append sent_of (take i rows) (r ∷ []) in
    ap first_nil more ∙ none_more (map sent_of (take i rows)) (sent_of r) none (fields_none r.fields ∙ ap not there)

pub rows_found : (rows : List SentRow) (i : ℕ) (r : SentRow) → i < length rows → r ≡ get_or rows i r
    → first_nil (map sent_of (take i rows)) ≡ None → is_some r.fields ≡ false
    → first_nil (map sent_of rows) ≡ Some (string_bytes r.id)
rows_found rows i r l e none missing =
    let k = split rows i r l e in
    ap first_nil (ap (map sent_of) k.is ∙ map-append sent_of (take i rows) (r ∷ k.rest))
    ∙ nil_found (map sent_of (take i rows)) (map sent_of k.rest) (sent_of r) none (fields_none r.fields ∙ ap not missing)
