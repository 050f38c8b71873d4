-- What is committed is in the file, whatever a crash leaves of it.
use Rattle.std.proofs.Common.{◌≡◌, ◌∙◌, ◌⊎◌, refl, sym, ap, subst, inl, inr, ⊎_elim, ℕ, Bool, true, false, List, [], ◌∷◌, ◌++◌}
use Rattle.std.proofs.Common.{Option, IfSome, append_assoc, if◌then◌else◌}
use Rattle.worker_journal.specs.EntryLine.{Entry}
use Rattle.worker_journal.specs.Holds.{IsHeld}
use Rattle.worker_journal.specs.Lines.{AreLines, EachStartsWith, HasLine, StartsWith}
use Rattle.worker_journal.proofs.LineLemmas.{committed_is_left, later_line, next_line, one_more}
use Rattle.redis_connection.specs.Link.{Link}
use Rattle.model_server.specs.Group.Law.{Among}
use Rattle.model_server.specs.Group.Worker.{Id}
use Rattle.stream_in_place.specs.Sent.{Pairs}
use Rattle.worker.proofs.LifeLemmas.{only_committed}
use Rattle.worker.specs.Gathered.{committed_too}
use Rattle.worker.specs.Machine.{history_at_request}
use Rattle.worker.specs.Session.{Standing, standing_of}
use Rattle.worker.specs.declared.state.Settings.{Settings}
use Rattle.worker.specs.declared.worker.Worker.{Worker}
use Rattle.stream_drain.specs.Filed.{AcknowledgedIsFiled, AreFiled, FiledFrom, IsFiled, with_bytes}
use Rattle.stream_drain.specs.Line.{line_in}
use Rattle.stream_drain.specs.Lived.{Leads}
use Rattle.model_workers.specs.Loops.Shown.{with_doings}
use Rattle.model_workers.specs.Loops.Loop.{Loops, Stops, Drains}
use Rattle.stream_drain.specs.Known.{Known, is_known, known_too, lines_for}
use Rattle.stream_drain.specs.Written.{Written, committed_with, lines_in, written_by}
use Rattle.stream_drain.specs.Written.{written_of}
use Rattle.stream_drain.proofs.KnownLemmas.{known_or}
use Rattle.stream_drain.proofs.LivedLemmas.{commit_of}
use Rattle.stream_drain.proofs.LinesLemmas.{one_line}

-- the line of each of these entries is there
found : (json : Bool) (first : List ℕ) (es : List Entry) (behind : List ℕ) (e : Entry) → AreLines first → Among e es
    → HasLine (line_in json e) (first ++ (lines_in json es ++ behind))
found json first [] behind e whole none = absurd none
found json first (d ∷ es) behind e whole (inl is) =
    subst (λ (x : Entry). HasLine (line_in json x) (first ++ (lines_in json (d ∷ es) ++ behind))) is
    (next_line first (line_in json d) (lines_in json es) behind whole (one_line json d))
found json first (d ∷ es) behind e whole (inr later) =
    later_line first (line_in json e) (line_in json d) (lines_in json es) behind
    (found json (first ++ (line_in json d ++ 10 ∷ [])) es behind e (one_more first (line_in json d)) later)

-- and so it is in what begins with them
pub found_at : (json : Bool) (first : List ℕ) (es : List Entry) (c : List ℕ) → AreLines first
    → StartsWith (first ++ lines_in json es) c → (e : Entry) → Among e es → HasLine (line_in json e) c
found_at json first es c whole starts e among =
    subst (HasLine (line_in json e)) (sym (starts.1 ∙ append_assoc first (lines_in json es) starts.0))
    (found json first es starts.0 e whole among)

found_in : (json : Bool) (first : List ℕ) (es : List Entry) (may_leave : List ℕ → Type 0) → AreLines first
    → EachStartsWith (first ++ lines_in json es) may_leave → AreFiled json first es may_leave
found_in json first es may_leave whole in_order = record {
  in_order = in_order;
  each = λ e among c left. found_at json first es c whole (in_order c left) e among;
}

-- a worker whose log holds what is committed
pub filed_from : {D : Type 0} (seen : D → Option (List ℕ)) (may_leave : D → List ℕ → Type 0) (is_sound : D → Type 0)
    (settings : Settings) (old new : Link) (w : Standing Written) (worker : Worker) (json : Bool) (known : Known)
    (loose : List ℕ) (file : D) (len : ℕ) (is_broken : Bool) → ∥ IsHeld seen may_leave is_sound file len is_broken ∥₁
    → Leads (Drains settings) old new w (standing_of worker (written_by json known loose (seen file) len))
    → FiledFrom settings old new w (standing_of worker (written_by json known loose (seen file) len)) (may_leave file)
filed_from seen may_leave is_sound settings old new w worker json known loose file len is_broken held leads form before first d
    whole is =
    let l = leads (with_bytes form before first) d is in
    let es = lines_for before l.doings.committed in (
      l,
      found_in form first es (may_leave file) whole
          (committed_is_left seen may_leave is_sound (first ++ lines_in form es) file len is_broken held
          (ap (λ (v : Written). v.committed) l.drawn)),
    )

-- the rounds go on, or come to an end
pub with_loops : (settings : Settings) (old new : Link) (w x : Standing Written) → Leads (Loops settings) old new w x
    → Leads (Drains settings) old new w x
with_loops settings old new w x a p d is =
    let l = a p d is in
    record { doings = l.doings; told = l.told; leads = inl l.leads; drawn = l.drawn }

pub with_stops : (settings : Settings) (old new : Link) (w x : Standing Written) → Leads (Stops settings) old new w x
    → Leads (Drains settings) old new w x
with_stops settings old new w x a p d is =
    let l = a p d is in
    record { doings = l.doings; told = l.told; leads = inr l.leads; drawn = l.drawn }

newer : (known : Known) (d e : Entry) (es : List Entry) → (is_known (known_too known d.0) e.0 ≡ true)
    ⊎ ((fields : Pairs) × Among (e.0, fields) (lines_for (known_too known d.0) es))
    → (is_known known e.0 ≡ true) ⊎ ((fields : Pairs) × Among (e.0, fields) (d ∷ lines_for (known_too known d.0) es))
newer known d e es (inl known_then) = elim (known_or known d.0 e.0 known_then) [
  | inl same ↦ inr (d.1, inl (ap (λ (i : Id). (i, d.1)) same))
  | inr before ↦ inl before
]
newer known d e es (inr later) = inr (later.0, inr later.1)

-- an entry that was committed got a line, or its id was known, or is that of one that got a line
line_or_known : (known : Known) (es : List Entry) (e : Entry) → Among e es
    → (is_known known e.0 ≡ true) ⊎ ((fields : Pairs) × Among (e.0, fields) (lines_for known es))
line_or_known known [] e none = absurd none
line_or_known known (d ∷ es) e among =
    let case : (b : Bool) → is_known known d.0 ≡ b → Among e (d ∷ es) → (is_known known e.0 ≡ true)
    ⊎ ((fields : Pairs) × Among (e.0, fields) (if b then lines_for known es else d ∷ lines_for (known_too known d.0) es))
    = λ b. elim b as (λ b. is_known known d.0 ≡ b → Among e (d ∷ es) → (is_known known e.0 ≡ true)
    ⊎ ((fields : Pairs) × Among (e.0, fields) (if b then lines_for known es else d ∷ lines_for (known_too known d.0) es))) [
      | true ↦ λ is a. elim a [
        | inl same ↦ inl (subst (λ (x : Entry). is_known known x.0 ≡ true) same is)
        | inr later ↦ line_or_known known es e later
      ]
      | false ↦ λ is a. elim a [
        | inl same ↦ inr (e.1, inl same)
        | inr later ↦ newer known d e es (line_or_known (known_too known d.0) es e later)
      ]
    ] in
    case (is_known known d.0) refl among

-- what is there first is there later
still_filed : (json : Bool) (id : Id) (first c : List ℕ) → StartsWith first c → IsFiled json id first → IsFiled json id c
still_filed json id first c starts there = (
  there.0,
  record {
    before = there.1.before;
    rest = there.1.rest ++ starts.0;
    split = starts.1 ∙ (ap (λ (xs : List ℕ). xs ++ starts.0) there.1.split
        ∙ (append_assoc there.1.before (line_in json (id, there.0) ++ 10 ∷ there.1.rest) starts.0
        ∙ ap (λ (xs : List ℕ). there.1.before ++ xs)
        (append_assoc (line_in json (id, there.0)) (10 ∷ there.1.rest) starts.0)));
    whole = there.1.whole;
    one_line = there.1.one_line;
  },
)

-- what is committed before a worker asks
pub acknowledged_is_filed : AcknowledgedIsFiled
acknowledged_is_filed settings json known first w deleted c whole there l starts id among =
    let b = with_bytes json known first in
    let d = history_at_request committed_too w.machine l.doings in
    let is : history_at_request committed_with w.machine w.history ≡ written_of b d =
    ap (history_at_request committed_with w.machine) l.written ∙ commit_of settings b w.machine l.doings in
    let es = lines_for known d.committed in
    let in_order : StartsWith (first ++ lines_in json es) c =
    subst (λ (v : Written). IfSome v.committed (λ lines. StartsWith lines c)) is starts in
    let begins : StartsWith first c =
    (lines_in json es ++ in_order.0, in_order.1 ∙ append_assoc first (lines_in json es) in_order.0) in
    ⊎_elim (λ a. inl (⊎_elim (λ before. still_filed json id first c begins (there id before))
    (λ got. (got.0, found_at json first es c whole in_order (id, got.0) got.1))
    (line_or_known known d.committed (id, a.0) a.1))) (λ gone. inr gone)
    (only_committed settings (with_doings w l.doings) deleted l.lives id among)
