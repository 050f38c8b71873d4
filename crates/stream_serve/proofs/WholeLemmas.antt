-- The replies to pieces are those that all of their bytes have in one.
use Rattle.std.proofs.Common.{◌≡◌, ℕ, List, [], ◌∷◌, ◌++◌, Bool, true, false, Option, Some, None, refl, sym, ap, subst, append_assoc, ◌∙◌}
use Rattle.std.proofs.KnownBytes.{Appends-nil, Appends-trans, Consumes-nil, Consumes-trans}
use Rattle.std.proofs.lemmas.List.Concat.{flat_map-append}
use Rattle.std.specs.List.{flat_map}
use Rattle.server_commands.specs.Incoming.{command_at, protocol_error_bytes}
use Rattle.server_commands.specs.Serving.{Answers, AreAnswered, Does, Leaves, Serves, Turn, left_of, state_of, turn_bytes}
use Rattle.server_commands.specs.Session.{SeenSession}
use Rattle.server_commands.specs.Steps.{State}
use Rattle.server_commands.specs.declared.client.Client.{Client}
use Rattle.server_commands.specs.declared.server.Server.{Server}
use Rattle.stream_serve.specs.Served.{Replies, Stage, Whole, beginning}
use Rattle.stream_serve.proofs.CommandLemmas.{command_stays}

-- -- commands

-- more bytes are left if more follow
answered_on : (turns : List Turn) (bytes rest more : List ℕ) (old new : State) → AreAnswered turns bytes rest old new
    → AreAnswered turns (bytes ++ more) (rest ++ more) old new
answered_on [] bytes rest more old new (same, still) = (ap (λ (b : List ℕ). b ++ more) same, still)
answered_on (turn ∷ turns) bytes rest more old new (words, behind, between, read, answered, others) = (
  words,
  behind ++ more,
  between,
  command_stays bytes more words behind read,
  answered,
  answered_on turns behind rest more between new others,
)

-- commands, and those after them
answered_then : (turns others : List Turn) (bytes middle rest : List ℕ) (old between new : State)
    → AreAnswered turns bytes middle old between → AreAnswered others middle rest between new
    → AreAnswered (turns ++ others) bytes rest old new
answered_then [] others bytes middle rest old between new (same, still) later =
    subst (λ (b : List ℕ). AreAnswered others b rest old new) (sym same)
    (subst (λ (s : State). AreAnswered others middle rest s new) still later)
answered_then (turn ∷ turns) others bytes middle rest old between new (words, behind, next, read, answered, more) later =
    (words, behind, next, read, answered, answered_then turns others behind middle rest next between new more later)

-- what was done with some bytes, and then with those that were left and more
module _ (bytes more middle first : List ℕ) (old between : State) (done : Does bytes middle [] first old between) where
  does_on : (rest second : List ℕ) (new : State) → Does (middle ++ more) rest [] second between new
      → Does (bytes ++ more) rest [] (first ++ second) old new
  does_on rest second new d = record {
    turns = done.turns ++ d.turns;
    answered = answered_then done.turns d.turns (bytes ++ more) (middle ++ more) rest old between new
        (answered_on done.turns bytes middle more old between done.answered) d.answered;
    wrote = ap (λ (b : List ℕ). b ++ second) done.wrote ∙ ap (λ (b : List ℕ). flat_map turn_bytes done.turns ++ b) d.wrote
        ∙ sym (flat_map-append turn_bytes done.turns d.turns);
  }

  serves_on : (left : Option (List ℕ)) (second : List ℕ) (new : State) → Serves (middle ++ more) [] second left between new
      → Serves (bytes ++ more) [] (first ++ second) left old new
  serves_on (Some rest) second new (d, ends) = (does_on rest second new d, ends)
  serves_on None second new r = record {
    rest = r.rest;
    between = first ++ r.between;
    error = r.error;
    does = does_on r.rest r.between new r.does;
    fault = r.fault;
    wrote = ap (λ (b : List ℕ). first ++ b) r.wrote ∙ sym (append_assoc first r.between (protocol_error_bytes r.error));
  }

-- -- a client

-- the connection has not ended, so the bytes are looked at
opened : (unread : List ℕ) (ended : Bool) (session : SeenSession) (new : Client) (was is : Server) (bytes replies : List ℕ)
    → ended ≡ false → let old : Client = record { unread = unread; has_ended = ended; session = session } in
    Answers old new was is bytes [] replies → Leaves new (unread ++ bytes) [] replies (state_of was old) (state_of is new)
opened unread true session new was is bytes replies e p = cc
opened unread false session new was is bytes replies e p = p

-- and the other way round
closed : (unread : List ℕ) (ended : Bool) (session : SeenSession) (new : Client) (was is : Server) (bytes replies : List ℕ)
    → ended ≡ false → let old : Client = record { unread = unread; has_ended = ended; session = session } in
    Leaves new (unread ++ bytes) [] replies (state_of was old) (state_of is new) → Answers old new was is bytes [] replies
closed unread true session new was is bytes replies e p = cc
closed unread false session new was is bytes replies e p = p

left_open : (ended : Bool) (unread : List ℕ) → ended ≡ false → left_of ended unread ≡ Some unread
left_open true unread e = cc
left_open false unread e = refl

answers_on : (old now new : Client) (was then is : Server) (bytes more first second : List ℕ) → old.has_ended ≡ false
    → now.has_ended ≡ false → Answers old now was then bytes [] first → Answers now new then is more [] second
    → Answers old new was is (bytes ++ more) [] (first ++ second)
answers_on old now new was then is bytes more first second a b p q =
    let s0 = state_of was old in
    let s1 = state_of then now in
    let one : Serves (old.unread ++ bytes) [] first (Some now.unread) s0 s1 =
    subst (λ (left : Option (List ℕ)). Serves (old.unread ++ bytes) [] first left s0 s1) (left_open now.has_ended now.unread b)
    (opened old.unread old.has_ended old.session now was then bytes first a p) in
    let two = opened now.unread now.has_ended now.session new then is more second b q in
    let all = serves_on (old.unread ++ bytes) more now.unread first s0 s1 one.0 (left_of new.has_ended new.unread) second
    (state_of is new) two in
    closed old.unread old.has_ended old.session new was is (bytes ++ more) (first ++ second) a
    (subst (λ (b : List ℕ). Leaves new b [] (first ++ second) s0 (state_of is new)) (append_assoc old.unread bytes more) all)

-- -- pieces

module _ {R W : Type 0} (remaining : R → Option (List ℕ)) (contents : W → Option (List ℕ)) where
  -- nothing was read
  pub whole_none : (input : R) (output : W) → let start = beginning input output in Whole remaining contents start start
  unfolding command_at
  whole_none input output = record {
    bytes = [];
    read = Consumes-nil (remaining input);
    replies = [];
    gets = (record { turns = []; answered = (refl, refl); wrote = refl }, refl);
    wrote = Appends-nil (contents output);
  }

  -- one piece more
  pub whole_more : (is_flushed : W → Type 0) (old now new : Stage R W) (piece : List ℕ) → old.client.has_ended ≡ false
      → Whole remaining contents old now → Replies remaining contents is_flushed now new piece
      → Whole remaining contents old new
  whole_more is_flushed old now new piece is_open whole next = record {
    bytes = whole.bytes ++ piece;
    read = Consumes-trans _ _ _ whole.bytes piece whole.read next.read;
    replies = whole.replies ++ next.replies;
    gets = answers_on old.client now.client new.client old.server now.server new.server whole.bytes piece whole.replies
        next.replies is_open next.is_open whole.gets next.gets;
    wrote = Appends-trans _ _ _ whole.replies next.replies whole.wrote next.wrote;
  }
