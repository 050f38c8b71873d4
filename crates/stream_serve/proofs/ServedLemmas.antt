-- Lemmas on pieces that were answered.
use Rattle.std.proofs.Common.{◌≡◌, ◌≢◌, ◌<◌, ◌≤◌, ℕ, List, [], ◌∷◌, ◌++◌, Err, Ok, OnErr, Option, Result, ap, arith}
use Rattle.std.proofs.Common.{false, inl, inr, length, refl, subst, take, true}
use Rattle.std.proofs.KnownBytes.{Appends-nil, Consumes-kept, Consumes-nil}
use Rattle.std.proofs.lemmas.List.{length-take-le}
use Rattle.std.specs.Io.KnownBytes.{Appends, Consumes, IsAtEnd, Keeps}
use Rattle.server_commands.specs.Serving.{Answers}
use Rattle.server_commands.specs.declared.client.Client.{Client}
use Rattle.server_commands.specs.declared.server.Server.{Server}
use Rattle.stream_serve.specs.Served.{Ends, Gets, Replies, Served, Serves, Stage, Stops, beginning}
use Rattle.stream_serve.proofs.WholeLemmas.{whole_more, whole_none}

-- the stage of these
abbrev pub stage : {R W : Type 0} → R → W → Server → Client → Stage R W
stage input output server client = record { input = input; output = output; server = server; client = client }

-- what holds anyway
pub on_err : {A E P : Type 0} (r : Result A E) → P → OnErr r P
on_err (Ok x) p = tt
on_err (Err e) p = p

-- the same if the replies begin a list
pub gets_so : {R W : Type 0} (old : Stage R W) (piece before replies : List ℕ) (server : Server) (client : Client)
    → before ≡ [] → Answers old.client client old.server server piece before replies
    → Gets old piece replies server client
gets_so old piece before replies server client none p =
    subst (λ (b : List ℕ). Answers old.client client old.server server piece b replies) none p

-- what was read is no empty piece
pub some_piece : (n : ℕ) (buffer : List ℕ) → n ≢ 0 → n ≤ length buffer → take n buffer ≢ []
some_piece n buffer some within none = some (omega (arith, ap length none, length-take-le n buffer within))

module _ {R W : Type 0} (remaining : R → Option (List ℕ)) (contents : W → Option (List ℕ)) (is_flushed : W → Type 0) where
  -- one piece more
  pieces_more : (pieces : List (List ℕ)) (old between new : Stage R W) (piece : List ℕ)
      → Serves remaining contents is_flushed pieces old between
      → Replies remaining contents is_flushed between new piece
      → Serves remaining contents is_flushed (pieces ++ piece ∷ []) old new
  pieces_more [] old between new piece same replies =
      (new, subst (λ (s : Stage R W). Replies remaining contents is_flushed s new piece) same replies, refl)
  pieces_more (first ∷ pieces) old between new piece (s, here, on) replies =
      (s, here, pieces_more pieces s between new piece on replies)

  -- nothing was read
  pub served_none : (input : R) (output : W)
      → let start = beginning input output in Served remaining contents is_flushed start start
  served_none input output = record {
    pieces = [];
    serves = refl;
    whole = whole_none remaining contents input output;
  }

  -- a piece was read, and had its replies
  pub served_more : (old last new : Stage R W) (n : ℕ) (buffer replies : List ℕ) → old.client.has_ended ≡ false
      → Served remaining contents is_flushed old last → last.client.has_ended ≡ false → n ≢ 0 → n ≤ length buffer
      → Consumes (remaining last.input) (remaining new.input) (take n buffer)
      → Gets last (take n buffer) replies new.server new.client
      → Appends (contents last.output) (contents new.output) replies → is_flushed new.output
      → Served remaining contents is_flushed old new
  served_more old last new n buffer replies begun served is_open some within read gets wrote flushed =
      let next : Replies remaining contents is_flushed last new (take n buffer) = record {
        is_open = is_open;
        some = some_piece n buffer some within;
        read = read;
        replies = replies;
        gets = gets;
        wrote = wrote;
        flushed = flushed;
      } in
      record {
        pieces = served.pieces ++ take n buffer ∷ [];
        serves = pieces_more served.pieces old last new (take n buffer) served.serves next;
        whole = whole_more remaining contents is_flushed old last new (take n buffer) begun served.whole next;
      }

  -- a read found the end of the input
  pub ends_there : (old last : Stage R W) (input : R) (n : ℕ) (buffer : List ℕ)
      → Served remaining contents is_flushed old last → last.client.has_ended ≡ false → n ≡ 0 → 0 < length buffer
      → Consumes (remaining last.input) (remaining input) (take n buffer)
      → (n ≡ 0 → 0 < length buffer → IsAtEnd (remaining input))
      → Ends remaining contents is_flushed old input last.output
  ends_there old last input n buffer served is_open none room read end = record {
    last = last;
    served = served;
    over = inr (
      is_open,
      subst (λ k. Consumes (remaining last.input) (remaining input) (take k buffer)) none read,
      end none room,
    );
    output_is = refl;
  }

  -- the connection ended after the last piece
  pub ends_after : (old last : Stage R W) → Served remaining contents is_flushed old last
      → last.client.has_ended ≡ true → Ends remaining contents is_flushed old last.input last.output
  ends_after old last served ended = record {
    last = last;
    served = served;
    over = inl (ended, refl);
    output_is = refl;
  }

  -- bytes were read, and nothing was written
  pub stops_unsent : (old last : Stage R W) (input : R) (piece : List ℕ)
      → Served remaining contents is_flushed old last → Consumes (remaining last.input) (remaining input) piece
      → Stops remaining contents is_flushed old input last.output
  stops_unsent old last input piece served read = record {
    last = last;
    served = served;
    breaks = record {
      piece = piece;
      read = read;
      sent = [];
      front = inl refl;
      wrote = Appends-nil (contents last.output);
    };
  }

  -- nothing was read, and nothing was written
  pub stops_unread : (old last : Stage R W) (input : R) → Served remaining contents is_flushed old last
      → Keeps (remaining last.input) (remaining input) → Stops remaining contents is_flushed old input last.output
  stops_unread old last input served kept =
      stops_unsent old last input [] served
      (Consumes-kept (remaining last.input) (remaining last.input) (remaining input) []
      (Consumes-nil (remaining last.input)) kept)

  -- the loop came to its bound
  pub stops_there : (old last : Stage R W) → Served remaining contents is_flushed old last
      → Stops remaining contents is_flushed old last.input last.output
  stops_there old last served = stops_unsent old last last.input [] served (Consumes-nil (remaining last.input))

  -- a front of the replies was written
  pub stops_sending : (old last : Stage R W) (input : R) (output : W) (piece replies : List ℕ) (server : Server)
      (client : Client) → Served remaining contents is_flushed old last
      → Consumes (remaining last.input) (remaining input) piece → Gets last piece replies server client
      → (n : ℕ) × Appends (contents last.output) (contents output) (take n replies)
      → Stops remaining contents is_flushed old input output
  stops_sending old last input output piece replies server client served read gets (n, wrote) = record {
    last = last;
    served = served;
    breaks = record {
      piece = piece;
      read = read;
      sent = take n replies;
      front = inr (n, replies, server, client, gets, refl);
      wrote = wrote;
    };
  }
