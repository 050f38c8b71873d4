use Rattle.std.specs.Prelude.{◌≡◌, length}
use Rattle.stream_in_place.specs.Added.{StreamsAdded}
use Rattle.stream_in_place.specs.Shapes.{NilForm, stream_bytes, IsStreamOf}
use Rattle.stream_in_place.specs.Sent.{SentStream, all_fields}
use Rattle.stream_in_place.proofs.BeginLemmas.{IsLeft}
use Rattle.stream_in_place.proofs.CountLemmas.{IsCounted}
use Rattle.stream_in_place.specs.Forms.{is_claim, is_map}
use Rattle.stream_in_place.proofs.streams.add_streams.Given as goal

abbrev pub invariant-loop : goal.invariant-loop
invariant-loop g l = record {
  added : StreamsAdded l.limits l.bytes l.at (is_map l.spelling) (is_claim l.form) l.counter l.behind (g.P.Places.held l.places);
  left : (form : NilForm) → IsLeft (stream_bytes (is_map l.spelling) form) (IsStreamOf l.limits (is_claim l.form)) l.limits l.bytes l.at
      l.count l.counter l.behind;
  counted : length (g.P.Places.held l.places).streams ≡ l.counter;
  entries : (form : NilForm) → IsCounted (stream_bytes (is_map l.spelling) form) (IsStreamOf l.limits (is_claim l.form))
      (λ (s : SentStream). s.entries) l.limits l.bytes l.at l.count l.counter 0
      (length (g.P.Places.held l.places).entries);
  fields : (form : NilForm) → IsCounted (stream_bytes (is_map l.spelling) form) (IsStreamOf l.limits (is_claim l.form))
      (λ (s : SentStream). all_fields s.entries) l.limits l.bytes l.at l.count l.counter 0
      (length (g.P.Places.held l.places).fields);
  kept : g.P.Places.lent l.places ≡ g.P.Places.lent l.fn.places;
}
