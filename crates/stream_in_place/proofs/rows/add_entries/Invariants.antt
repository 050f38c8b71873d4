use Rattle.std.specs.Prelude.{◌≡◌, ◌+◌, length}
use Rattle.stream_in_place.specs.Added.{EntriesAdded}
use Rattle.stream_in_place.specs.Shapes.{NilForm, entry_bytes, IsEntryOf}
use Rattle.stream_in_place.specs.Sent.{SentEntry, fields_of}
use Rattle.stream_in_place.proofs.BeginLemmas.{IsLeft}
use Rattle.stream_in_place.proofs.CountLemmas.{IsCounted}
use Rattle.stream_in_place.specs.Forms.{is_claim}
use Rattle.stream_in_place.proofs.rows.add_entries.Given as goal

abbrev pub invariant-loop : goal.invariant-loop
invariant-loop g l = record {
  added : EntriesAdded l.limits l.bytes l.at (is_claim l.form) l.counter l.behind (g.P.Places.held l.fn.places)
      (g.P.Places.held l.places);
  left : (form : NilForm) → IsLeft (entry_bytes form) (IsEntryOf l.limits (is_claim l.form)) l.limits l.bytes l.at l.count
      l.counter l.behind;
  counted : length (g.P.Places.held l.places).entries ≡ length (g.P.Places.held l.fn.places).entries + l.counter;
  fields : (form : NilForm) → IsCounted (entry_bytes form) (IsEntryOf l.limits (is_claim l.form))
      (λ (e : SentEntry). fields_of e.fields) l.limits l.bytes l.at l.count l.counter
      (length (g.P.Places.held l.fn.places).fields) (length (g.P.Places.held l.places).fields);
  kept : g.P.Places.lent l.places ≡ g.P.Places.lent l.fn.places;
}
