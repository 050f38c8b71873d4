-- Schedules that refute the wrong definitions of planted/: after each, an entry is not kept. First, one of a queue that
-- meets the premise.
use Rattle.std.proofs.Common.{◌≡◌, inl, inr, refl, sym, ap, ◌∙◌, append-nil, ℕ, true, List, [], ◌∷◌, ◌++◌, codes}
use Rattle.std.specs.Prelude.{drop}
use Rattle.std.specs.Fmt.{digits}
use Rattle.worker_journal.specs.EntryLine.{Entry}
use Rattle.model_server.specs.Group.Group.{Name, id_text, ids_of, listed}
use Rattle.model_server.specs.Group.World.{Append, Read, Claim, Ack_comes}
use Rattle.model_workers.specs.Files.Files.{Fields}
use Rattle.model_workers.specs.Files.Law.{IsLineIn}
use Rattle.model_workers.proofs.FilesLemmas.Whole.{text}
use Rattle.model_workers.specs.System.System.{System, Move, Serves, Posts, Adds_letter, Sends_ack, Settles, first_system}
use Rattle.model_workers.specs.System.System.{first, with_desk, new_desk, moves, run}
use Rattle.model_workers.specs.System.Law.{AllHearTruly, IsInAFile, IsKept}

abbrev ann : Name
ann = codes "ann"

abbrev fields : Fields
fields = (codes "a", codes "b") ∷ []

abbrev entry : Entry
entry = (id_text (1, 0), fields)

-- no worker has a file
abbrev no_bytes : Name → List ℕ
no_bytes name = []

abbrev begin : System
begin = first_system no_bytes

-- an entry is added and read, and the reply is lost; then the queue of ann claims it
abbrev claimed : List Move
claimed = Serves (Append (1, 0) fields) ∷ Serves (Read ann 1) ∷ Serves (Claim ann (λ id. true) (codes "0-0")) ∷ []

-- it is given up: its dead letter is added, and then it is acknowledged
abbrev given_up : List Move
given_up =
    Posts ann 0 entry ∷ Adds_letter ann ∷ Sends_ack ann ∷ Serves (Ack_comes 0) ∷ Settles ann 0 ∷ []

pub all_hear_truly : AllHearTruly text begin (claimed ++ given_up)
unfolding digits
all_hear_truly = (tt, (tt, (tt, ((codes "0-0", refl), (tt, (tt, (tt, (tt, tt))))))))

pub has_a_letter : (run text (claimed ++ given_up) begin).letters ≡ entry ∷ []
has_a_letter = refl

pub is_acknowledged : (run text (claimed ++ given_up) begin).server.acknowledged_ids ≡ id_text (1, 0) ∷ []
unfolding digits
is_acknowledged = refl

pub nothing_is_pending : (run text (claimed ++ given_up) begin).server.pending ≡ []
unfolding digits
nothing_is_pending = refl

pub nothing_waits : (run text (claimed ++ given_up) begin).desks ann ≡ new_desk
unfolding digits
nothing_waits = refl

-- after a crash before the acknowledgement it is pending, and has its dead letter
abbrev not_acknowledged : List Move
not_acknowledged = Posts ann 0 entry ∷ Adds_letter ann ∷ []

pub still_pending : (run text (claimed ++ not_acknowledged) begin).server.acknowledged_ids ≡ []
still_pending = refl

-- ---- wrong queues

none : (line rest : List ℕ) → [] ≡ line ++ 10 ∷ rest → ⊥
none [] rest q = absurd (let z : [] ≡ 10 ∷ rest = q in cc)
none (b ∷ line) rest q = absurd (let z : [] ≡ b ∷ (line ++ 10 ∷ rest) = q in cc)

-- a file without bytes has no line
no_line : (line front rest : List ℕ) → [] ≡ front ++ (line ++ 10 ∷ rest) → ⊥
no_line line [] rest q = none line rest q
no_line line (b ∷ front) rest q = absurd (let z : [] ≡ b ∷ (front ++ (line ++ 10 ∷ rest)) = q in cc)

not_in_a_file : (s : System) (e : Entry) → s.file ≡ begin.file → IsInAFile text s e → ⊥
not_in_a_file s e same h =
    let there : IsLineIn (text.line e) [] = h.1 []
    ([], ap (λ (f : Name → List ℕ). f h.0) (sym same) ∙ sym (append-nil (s.file h.0))) in
    no_line (text.line e) there.0 there.1 there.4

-- it acknowledges the first one at once
abbrev at_once : System → System
at_once s = record s { server = record s.server { acks = (ann, ids_of (first (s.desks ann).waiting)) ∷ s.server.acks } }

abbrev lost_at_once : System
lost_at_once = moves text (at_once (run text (claimed ++ Posts ann 0 entry ∷ []) begin)) (Serves (Ack_comes 0))

pub refutes_at_once : IsKept text lost_at_once entry → ⊥
unfolding digits
refutes_at_once (inl h) = h
refutes_at_once (inr (inl h)) = h
refutes_at_once (inr (inr (inl h))) = not_in_a_file lost_at_once entry refl h
refutes_at_once (inr (inr (inr (inl h)))) = h
refutes_at_once (inr (inr (inr (inr h)))) = h

-- the dead letter counts as added before the reply to it comes
abbrev added_at_once : System → System
added_at_once s = with_desk s ann (record (s.desks ann) { added = true })

abbrev lost_unanswered : System
lost_unanswered =
    run text (Sends_ack ann ∷ Serves (Ack_comes 0) ∷ [])
    (added_at_once (run text (claimed ++ Posts ann 0 entry ∷ []) begin))

pub refutes_unanswered : IsKept text lost_unanswered entry → ⊥
unfolding digits
refutes_unanswered (inl h) = h
refutes_unanswered (inr (inl h)) = h
refutes_unanswered (inr (inr (inl h))) = not_in_a_file lost_unanswered entry refl h
refutes_unanswered (inr (inr (inr (inl h)))) = h
refutes_unanswered (inr (inr (inr (inr h)))) = h

-- without the premise: it posts an entry with other fields than the reply has
abbrev other : Entry
other = (id_text (1, 0), [])

abbrev lost_by_another : System
lost_by_another =
    run text (claimed ++ Posts ann 0 other ∷ Adds_letter ann ∷ Sends_ack ann ∷ Serves (Ack_comes 0) ∷ []) begin

pub refutes_another : IsKept text lost_by_another entry → ⊥
unfolding digits
refutes_another (inl h) = h
refutes_another (inr (inl h)) = h
refutes_another (inr (inr (inl h))) = not_in_a_file lost_by_another entry refl h
refutes_another (inr (inr (inr (inl (inl q))))) =
    absurd (let z : [] ≡ fields = ap (λ (e : Entry). e.1) q in cc)
refutes_another (inr (inr (inr (inl (inr h))))) = h
refutes_another (inr (inr (inr (inr h)))) = h

-- after an acknowledgement the next one counts as added
abbrev keeps_added : System → System
keeps_added s = with_desk s ann (record { waiting = drop 1 (s.desks ann).waiting; added = (s.desks ann).added })

abbrev second : Entry
second = (id_text (2, 0), [])

abbrev two_claimed : List Move
two_claimed =
    Serves (Append (1, 0) fields) ∷ Serves (Append (2, 0) []) ∷ Serves (Read ann 2) ∷
    Serves (Claim ann (listed (id_text (1, 0) ∷ [])) (codes "0-0")) ∷ Posts ann 0 entry ∷
    Serves (Claim ann (listed (id_text (2, 0) ∷ [])) (codes "0-0")) ∷ Posts ann 0 second ∷ []

pub two_hear_truly : AllHearTruly text begin two_claimed
unfolding digits
two_hear_truly = (tt, (tt, (tt, (tt, ((codes "0-0", refl), (tt, ((codes "0-0", refl), tt)))))))

abbrev lost_as_the_next : System
lost_as_the_next =
    run text (Sends_ack ann ∷ Serves (Ack_comes 0) ∷ [])
    (keeps_added (run text (Adds_letter ann ∷ Sends_ack ann ∷ Serves (Ack_comes 0) ∷ []) (run text two_claimed begin)))

pub refutes_the_next : IsKept text lost_as_the_next second → ⊥
unfolding digits
refutes_the_next (inl h) = h
refutes_the_next (inr (inl h)) = h
refutes_the_next (inr (inr (inl h))) = not_in_a_file lost_as_the_next second refl h
refutes_the_next (inr (inr (inr (inl (inl q))))) =
    absurd (let z : fields ≡ [] = ap (λ (e : Entry). e.1) q in cc)
refutes_the_next (inr (inr (inr (inl (inr h))))) = h
refutes_the_next (inr (inr (inr (inr h)))) = h
