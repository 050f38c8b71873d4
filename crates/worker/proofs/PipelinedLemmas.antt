-- Two rounds with one write are two rounds.
use Rattle.std.proofs.Common.{◌≡◌, inl, inr, ℕ, zero, suc, Bool, true, false, List, [], ◌∷◌, ◌++◌, take, Option, Some, None}
use Rattle.std.proofs.Common.{refl, sym, ◌∙◌, ap, subst, append_assoc, if◌then◌else◌}
use Rattle.std.specs.Prelude.{not, ◌&&◌, option_map}
use Rattle.std.specs.Io.KnownBytes.{Appends, append_known}
use Rattle.redis_wire.specs.Packed.{command_bytes}
use Rattle.redis_wire.specs.Reply as wire
use Rattle.redis_resp.specs.Number.{unsigned_reading}
use Rattle.redis_connection.specs.Link.{Link, Receives, Sends, SendsFront, IsEnded}
use Rattle.redis_connection.specs.Passing.{AwaitsAnswer, Passes, ReceivesAnswer}
use Rattle.redis_connection.specs.declared.error.ConnectionError.{ConnectionError}
use Rattle.redis_connection.specs.declared.error.ConnectionError.TheVariants as failures
use Rattle.redis_connection.specs.declared.error.ConnectionError.TheVariants.{TooLong}
use Rattle.model_server.specs.Group.Worker.{Verdict, Machine, Ending, went_through, stopped, cut_off, acknowledged, after_commit}
use Rattle.stream_in_place.specs.Sent.{Pairs}
use Rattle.worker.specs.Answers.{Heard, told, hears, group_after}
use Rattle.worker.specs.Answered.{Took, Went, GoesBy}
use Rattle.worker.specs.Machine.{is_empty, commits, ending_of, machine_of}
use Rattle.worker.specs.Pipelined.{AcknowledgesAll, next_command, next_asked, waiting_for, PassesNext, NamesNext, LeavesNext}
use Rattle.worker.specs.Pipelined.{SentFront, SentNeither, WentPipelined, FirstBreaks, BreaksPipelined}
use Rattle.worker.specs.Pipelined.{FailsPipelined, TakesBoth, BreaksBoth}
use Rattle.worker.specs.Questions.{asks, sentence}
use Rattle.worker.specs.Session.{Standing, asking, command, HasAsked, Turned, machine_after}
use Rattle.worker.specs.Session.{after_failure, standing_of}
use Rattle.worker.specs.Taken.{Takes, TakesNot}
use Rattle.worker.specs.declared.error.RunError.{RunError}
use Rattle.worker.specs.declared.error.RunError.TheVariants as causes
use Rattle.worker.specs.declared.state.Asked.{Asked}
use Rattle.worker.specs.declared.state.Asked.TheVariants.{Acknowledgement}
use Rattle.worker.specs.declared.state.GroupState.{GroupState}
use Rattle.worker.specs.declared.state.Settings.{Settings}
use Rattle.worker.specs.declared.worker.Progress.{Progress}
use Rattle.worker.specs.declared.worker.Progress.TheVariants.{GoesOn, Stopped}
use Rattle.worker.proofs.RoundLemmas.{turned, breaks_so}
use Rattle.worker.specs.declared.worker.Worker.{Worker}
use Rattle.worker.proofs.SessionLemmas.{failing, standing_is}

-- ---- the same connection, on which other bytes had been written

abbrev written_so : Option (List ℕ) → Link → Link
written_so o l = record l { written = o }

receives_so : (o : Option (List ℕ)) (x y : Link) (a : wire.Answer) → Receives x y a
    → Receives (written_so o x) (written_so o y) a
receives_so o x y a r = record {
  taken = r.taken;
  text = r.text;
  consumes = r.consumes;
  bytes = r.bytes;
  reply = r.reply;
  limits = r.limits;
  written = refl;
  passed = r.passed;
}

passes_so : (n : ℕ) (o : Option (List ℕ)) (x y : Link) → Passes n x y → Passes n (written_so o x) (written_so o y)
passes_so zero o x y p = ap (written_so o) p
passes_so (suc n) o x y p = (
  written_so o p.0,
  passes_so n o x p.0 p.1,
  record {
    message = p.2.message;
    is_message = p.2.is_message;
    between = written_so o p.2.between;
    receives = receives_so o p.0 p.2.between p.2.message p.2.receives;
    counted = ap (written_so o) p.2.counted;
  },
)

answer_so : (o : Option (List ℕ)) (x y : Link) (a : wire.Answer) → ReceivesAnswer x y a
    → ReceivesAnswer (written_so o x) (written_so o y) a
answer_so o x y a r = record {
  count = r.count;
  between = written_so o r.between;
  passes = passes_so r.count o x r.between r.passes;
  receives = receives_so o r.between y a r.receives;
  is_answer = r.is_answer;
}

awaits_so : (o : Option (List ℕ)) (x y : Link) → AwaitsAnswer x y → AwaitsAnswer (written_so o x) (written_so o y)
awaits_so o x y r = record {
  count = r.count;
  between = written_so o r.between;
  passes = passes_so r.count o x r.between r.passes;
  waits = (
    r.waits.0,
    record {
      consumes = r.waits.1.consumes;
      bytes = r.waits.1.bytes;
      limits = r.waits.1.limits;
      written = refl;
      passed = r.waits.1.passed;
    },
  );
}

ended_so : (o : Option (List ℕ)) (x : Link) (e : ConnectionError) → IsEnded x e → IsEnded (written_so o x) e
ended_so o x (failures.Write e) h = h
ended_so o x (failures.Read e) h = h
ended_so o x failures.Closed h = h
ended_so o x (failures.Fault f) h = h
ended_so o x failures.Memory h = h
ended_so o x failures.TooLong h = h
ended_so o x failures.NoArguments h = h

-- what comes in changes nothing of what was written
passes_written : (n : ℕ) (x y : Link) → Passes n x y → y.written ≡ x.written
passes_written zero x y p = ap (λ (l : Link). l.written) p
passes_written (suc n) x y p = ap (λ (l : Link). l.written) p.2.counted ∙ p.2.receives.written
    ∙ passes_written n x p.0 p.1

answer_written : (x y : Link) (a : wire.Answer) → ReceivesAnswer x y a → y.written ≡ x.written
answer_written x y a r = r.receives.written ∙ passes_written r.count x r.between r.passes

awaits_written : (x y : Link) → AwaitsAnswer x y → y.written ≡ x.written
awaits_written x y r = r.waits.1.written ∙ passes_written r.count x r.between r.passes

-- ---- two commands that went out in one write went out one after the other

splits : (old new : Option (List ℕ)) (front back : List ℕ) → Appends old new (front ++ back)
    → Appends old (append_known old front) front × Appends (append_known old front) new back
splits None new front back h = (tt, tt)
splits (Some xs) None front back h = absurd h
splits (Some xs) (Some ys) front back h = (refl, h ∙ sym (append_assoc xs front back))

module _ (old sent : Link) (front back : List ℕ) (s : Sends old sent (front ++ back)) where
  abbrev first_written : Option (List ℕ)
  first_written = append_known old.written front

  -- what the connection would be if nothing but the first had gone out
  abbrev with_first : Link → Link
  with_first l = written_so first_written l

  first_sent : Sends old (with_first old) front
  first_sent = record {
    appends = (splits old.written sent.written front back s.appends).0;
    coming = refl;
    held = refl;
    in_place = refl;
    passed = refl;
  }

  then_sent : (here : Link) → here.written ≡ sent.written → Sends (with_first here) here back
  then_sent here same = record {
    appends = subst (λ w. Appends first_written w back) (sym same)
        (splits old.written sent.written front back s.appends).1;
    coming = refl;
    held = refl;
    in_place = refl;
    passed = refl;
  }

  unsent : with_first sent ≡ with_first old
  unsent =
      ap (λ v. let l : Link = record (with_first sent) { coming = v } in l) s.coming
      ∙ ap (λ v. let l : Link = record (with_first sent) { coming = old.coming; held = v } in l) s.held
      ∙ ap (λ v. let l : Link = record (with_first sent) { coming = old.coming; held = old.held; in_place = v } in l)
      s.in_place
      ∙ ap (λ v. let l : Link = record (with_first old) { passed = v } in l) s.passed

  then_answer : (here : Link) (a : wire.Answer) → ReceivesAnswer sent here a
      → ReceivesAnswer (with_first old) (with_first here) a
  then_answer here a r =
      subst (λ (l : Link). ReceivesAnswer l (with_first here) a) unsent (answer_so first_written sent here a r)

  then_awaits : (here : Link) → AwaitsAnswer sent here → AwaitsAnswer (with_first old) (with_first here)
  then_awaits here r =
      subst (λ (l : Link). AwaitsAnswer l (with_first here)) unsent (awaits_so first_written sent here r)

take_both : (n : ℕ) (xs ys : List ℕ) → (k : ℕ) × (take n (xs ++ ys) ≡ take n xs ++ take k ys)
take_both zero [] ys = (0, refl)
take_both (suc n) [] ys = (suc n, refl)
take_both zero (x ∷ xs) ys = (0, refl)
take_both (suc n) (x ∷ xs) ys =
    let r = take_both n xs ys in (r.0, ap (λ l. x ∷ l) r.1)

-- a front of both is a front of the first and one of the second
front_of_both : (old new : Link) (front back : List ℕ) → SendsFront old new (front ++ back)
    → (m : Link) × SendsFront old m front × SendsFront m new back
front_of_both old new front back h =
    let n = h.0 in
    let k = (take_both n front back).0 in
    let s : Sends old new (take n front ++ take k back) =
    subst (λ b. Sends old new b) (take_both n front back).1 h.1 in
    let cut = splits old.written new.written (take n front) (take k back) s.appends in (
      written_so (append_known old.written (take n front)) old,
      (n, record { appends = cut.0; coming = refl; held = refl; in_place = refl; passed = refl }),
      (
        k,
        record { appends = cut.1; coming = s.coming; held = s.held; in_place = s.in_place; passed = s.passed },
      ),
    )

-- ---- what an answer to an acknowledgement does

heard_or : Option Heard → Heard
heard_or None = told acknowledged
heard_or (Some h) = h

progress_of : Ending → Progress
progress_of went_through = GoesOn
progress_of stopped = Stopped
progress_of cut_off = Stopped

pub goes_through : (p : Progress) → ending_of p ≡ went_through → p ≡ GoesOn
unfolding progress_of
goes_through GoesOn h = refl
goes_through Stopped h = ap progress_of h

pub acknowledgement_said : (settings : Settings) (a : wire.Answer) (h : Heard)
    → hears settings Acknowledgement a ≡ Some h → h ≡ told acknowledged
unfolding heard_or
acknowledgement_said settings (wire.value t) h is =
    sym (ap heard_or is)
    ∙ (elim (unsigned_reading 64 t) as (λ o. heard_or (option_map (λ n. told acknowledged) o) ≡ told acknowledged) [
      | None ↦ refl
      | (Some n) ↦ refl
    ])
acknowledgement_said settings (wire.refused text) h is = sym (ap heard_or is)
acknowledgement_said settings (wire.group kind members) h is = sym (ap heard_or is)
acknowledgement_said settings (wire.pushed kind payload) h is = sym (ap heard_or is)

group_kept : (settings : Settings) (group : GroupState) (a : wire.Answer)
    → group_after settings group Acknowledgement a ≡ group
group_kept settings group (wire.value t) = refl
group_kept settings group (wire.refused text) = refl
group_kept settings group (wire.group kind members) = refl
group_kept settings group (wire.pushed kind payload) = refl

-- a worker to whom nothing is left to commit or to acknowledge asks what its phase asks
module _ {R : Type 0} (with_commit : R → R) (settings : Settings) (z : Standing R)
    (none : z.machine.to_commit ≡ []) (answered : z.machine.to_acknowledge ≡ []) where
  abbrev m : Machine
  m = z.machine

  idle : commits m ≡ false
  idle = ap (λ l. is_empty m.to_acknowledge && not (is_empty l)) none ∙ ap (λ l. is_empty l && false) answered

  asks_on : (next : Asked) → next ≡ asks z.group m.phase [] → waiting_for next z ≡ asking with_commit settings z
  asks_on next is =
      ap (λ v. let y : Standing R = record z { asked = v } in y)
      (is ∙ ap (λ l. asks z.group m.phase l) (sym answered))
      ∙ sym (ap
      (λ (b : Bool). let y : Standing R = record {
        machine = if b then after_commit m else m;
        group = z.group;
        asked = asks z.group (if b then after_commit m else m).phase (if b then after_commit m else m).to_acknowledge;
        history = if b then with_commit z.history else z.history;
      } in y) idle)

  command_on : command settings z ≡ sentence settings z.group m.phase []
  command_on =
      ap
      (λ (b : Bool). sentence settings z.group (if b then after_commit m else m).phase
      (if b then after_commit m else m).to_acknowledge) idle
      ∙ ap (λ l. sentence settings z.group m.phase l) answered

-- after the answer to an acknowledgement of all that was done
module _ {R : Type 0} (with_verdict : R → List ℕ × Pairs → Verdict → R) (settings : Settings) (old new : Link)
    (y z : Standing R) (all : AcknowledgesAll y) (p : Progress) (took : Takes with_verdict settings old new y z p) where
  abbrev reply : wire.Answer
  reply = took.0

  went : Went with_verdict settings Acknowledgement reply y.machine z.machine y.history z.history p
  went = subst (λ (q : Asked). Went with_verdict settings q reply y.machine z.machine y.history z.history p) all.0 took.2

  by_it : Took with_verdict acknowledged y.machine z.machine y.history z.history (ending_of p)
  by_it = subst (λ (h : Heard). GoesBy with_verdict h y.machine z.machine y.history z.history p)
      (acknowledgement_said settings reply went.heard went.said) went.goes

  on : p ≡ GoesOn
  on = goes_through p by_it.ended

  group : z.group ≡ y.group
  group = took.3 ∙ ap (λ (q : Asked). group_after settings y.group q reply) all.0 ∙ group_kept settings y.group reply

  phase : z.machine.phase ≡ y.machine.phase
  phase = ap (λ (n : Machine). n.phase) by_it.machine

  left : z.machine.to_commit ≡ []
  left = ap (λ (n : Machine). n.to_commit) by_it.machine ∙ ap (λ l. l ++ []) all.1

  answered : z.machine.to_acknowledge ≡ []
  answered = ap (λ (n : Machine). n.to_acknowledge) by_it.machine

-- ---- both

-- a worker that waits for the answer to this
pub waits_for : {R : Type 0} (w w' : Worker) (r : R) (next : Asked) → machine_of w' ≡ machine_of w
    → w'.group ≡ w.group → w'.asked ≡ next → standing_of w' r ≡ waiting_for next (standing_of w r)
waits_for w w' r next machine group asked = standing_is (standing_of w' r) _ _ _ _ machine group asked refl

module _ {R : Type 0} (with_verdict : R → List ℕ × Pairs → Verdict → R) (settings : Settings) (old mid new : Link)
    (y z v x : Standing R) (next : Asked) (q : Progress) (first : Takes with_verdict settings old mid y z q)
    (is : v ≡ waiting_for next z) (s : Settings) (same : s ≡ settings) where
  pub both_taken : (p : Progress) → Takes with_verdict s mid new v x p
      → TakesBoth with_verdict settings old new y x next next p
  both_taken p took = (
    mid,
    z,
    q,
    first,
    subst (λ (u : Standing R). Takes with_verdict settings mid new u x p) is
        (subst (λ (t : Settings). Takes with_verdict t mid new v x p) same took),
    refl,
  )

  pub second_untaken : (f : RunError) → TakesNot with_verdict s mid new v x f
      → BreaksBoth with_verdict settings old new y x next f
  second_untaken f failed = inr (
    mid,
    z,
    q,
    first,
    subst (λ (u : Standing R). TakesNot with_verdict settings mid new u x f) is
        (subst (λ (t : Settings). TakesNot with_verdict t mid new v x f) same failed),
  )

module _ {R : Type 0} (with_verdict : R → List ℕ × Pairs → Verdict → R) (with_commit : R → R)
    (settings : Settings) (old sent : Link) (w y : Standing R) (is : y ≡ asking with_commit settings w)
    (all : AcknowledgesAll y)
    (s : Sends old sent (command_bytes (command settings w) ++ command_bytes (next_command settings y))) where
  abbrev front : List ℕ
  front = command_bytes (command settings w)

  abbrev back : List ℕ
  back = command_bytes (next_command settings y)

  abbrev seen_first : Link → Link
  seen_first l = with_first old sent front back s l

  asked_first : HasAsked with_commit settings old (seen_first old) w y
  asked_first = (is, first_sent old sent front back s)

  first_turned : (here : Link) (z : Standing R) (p : Progress) → Takes with_verdict settings sent here y z p
      → Turned with_verdict with_commit settings old (seen_first here) w z Acknowledgement GoesOn
  first_turned here z p took =
      subst (λ (q : Progress). Turned with_verdict with_commit settings old (seen_first here) w z Acknowledgement q)
      (on with_verdict settings sent here y z all p took)
      (turned with_verdict with_commit settings old (seen_first old) (seen_first here) w y z asked_first settings refl
      Acknowledgement p (sym all.0)
      (took.0, then_answer old sent front back s here took.0 took.1, took.2, took.3, took.4))

  asked_next : (here : Link) (z : Standing R) (p : Progress) (next : Asked) → next ≡ next_asked y
      → Takes with_verdict settings sent here y z p
      → HasAsked with_commit settings (seen_first here) here z (waiting_for next z)
  asked_next here z p next asked took =
      let group = group with_verdict settings sent here y z all p took in
      let phase = phase with_verdict settings sent here y z all p took in
      let none = left with_verdict settings sent here y z all p took in
      let answered = answered with_verdict settings sent here y z all p took in
      let same : command settings z ≡ next_command settings y =
      command_on with_commit settings z none answered
      ∙ ap (λ k. sentence settings k z.machine.phase []) group ∙ ap (λ k. sentence settings y.group k []) phase in (
        asks_on with_commit settings z none answered next
            (asked ∙ ap (λ k. asks k y.machine.phase []) (sym group) ∙ ap (λ k. asks z.group k []) (sym phase)),
        subst (λ c. Sends (seen_first here) here (command_bytes c)) (sym same)
            (then_sent old sent front back s here (answer_written sent here took.0 took.1)),
      )

  -- the answers to both brought the worker on
  pub went_both : (new : Link) (x : Standing R) (next question : Asked) (p : Progress) → next ≡ next_asked y
      → TakesBoth with_verdict settings sent new y x next question p
      → WentPipelined with_verdict with_commit settings old new w x true question p
  went_both new x next question p asked (here, z, q, first, second, same) = (
    seen_first here,
    z,
    first_turned here z q first,
    turned with_verdict with_commit settings (seen_first here) here new z (waiting_for next z) x
        (asked_next here z q next asked first) settings refl question p same second,
  )

  -- the error names the second command
  names_so : (next : Asked) (e f : RunError) → next ≡ next_asked y → NamesNext next e f
      → NamesNext (next_asked (asking with_commit settings w)) e f
  names_so next e f asked names =
      subst (λ (k : Asked). NamesNext k e f) (asked ∙ ap (λ (v : Standing R). next_asked v) is) names

  first_breaks : (here new : Link) (x : Standing R) (next : Asked) (e f : RunError) → next ≡ next_asked y
      → TakesNot with_verdict settings sent here y x e → PassesNext here new e f → NamesNext next e f
      → FirstBreaks with_verdict with_commit settings old new w x f
  first_breaks here new x next (causes.Request e) f asked n passes names = absurd n
  first_breaks here new x next (causes.Send e) f asked n passes names = absurd n
  first_breaks here new x next (causes.Receive named e) f asked n passes names = (
    seen_first here,
    causes.Receive named e,
    breaks_so with_verdict with_commit settings old (seen_first old) (seen_first here) w y x asked_first settings refl
        (causes.Receive named e) (
          n.0,
          (
            then_awaits old sent front back s here n.1.0,
            ended_so (append_known old.written front) here e n.1.1,
            n.1.2,
            n.1.3,
          ),
        ),
    subst (λ (v : Standing R). LeavesNext (seen_first here) new (next_command settings v) (causes.Receive named e) f) is
        (here, then_sent old sent front back s here (awaits_written sent here n.1.0), passes),
    names_so next (causes.Receive named e) f asked names,
  )
  first_breaks here new x next (causes.Answer e) f asked n passes names = (
    seen_first here,
    causes.Answer e,
    breaks_so with_verdict with_commit settings old (seen_first old) (seen_first here) w y x asked_first settings refl
        (causes.Answer e) (n.0, then_answer old sent front back s here n.0 n.1, n.2, n.3, n.4, n.5),
    subst (λ (v : Standing R). LeavesNext (seen_first here) new (next_command settings v) (causes.Answer e) f) is
        (here, then_sent old sent front back s here (answer_written sent here n.0 n.1), passes),
    names_so next (causes.Answer e) f asked names,
  )

  -- one of them did not
  pub broke_both : (new : Link) (x : Standing R) (next : Asked) (f : RunError) → next ≡ next_asked y
      → BreaksBoth with_verdict settings sent new y x next f
      → BreaksPipelined with_verdict with_commit settings old new w x f
  broke_both new x next f asked (inl first) =
      inr (inl (first_breaks first.0 new x next first.1 f asked first.2 first.3 first.4))
  broke_both new x next f asked (inr second) = inr (inr (
    seen_first second.0,
    second.1,
    first_turned second.0 second.1 second.2 second.3,
    breaks_so with_verdict with_commit settings (seen_first second.0) second.0 new second.1 (waiting_for next second.1) x
        (asked_next second.0 second.1 second.2 next asked second.3) settings refl f second.4,
  ))

module _ {R : Type 0} (with_verdict : R → List ℕ × Pairs → Verdict → R) (with_commit : R → R)
    (settings : Settings) (old new : Link) (w : Standing R) where
  front_broke : (y : Standing R) (e : RunError) → SentFront with_commit settings old new w y e
      → BreaksPipelined with_verdict with_commit settings old new w y e
  front_broke y (causes.Request e) h = absurd h
  front_broke y (causes.Receive named e) h = absurd h
  front_broke y (causes.Answer e) h = absurd h
  front_broke y (causes.Send e) h =
      let cut = front_of_both old new (command_bytes (command settings w)) (command_bytes (next_command settings y)) h.2 in
      inr (inl (
        cut.0,
        causes.Send e,
        (h.0, cut.1, h.3),
        subst (λ (v : Standing R). LeavesNext cut.0 new (next_command settings v) (causes.Send e) (causes.Send e)) h.0
            (refl, cut.2),
        tt,
      ))

  -- no command went out whole
  pub broke_unsent : (y : Standing R) (e : RunError) → SentNeither with_commit settings old new w y e
      → BreaksPipelined with_verdict with_commit settings old new w y e
  broke_unsent y e (inl u) = inl (failing with_verdict with_commit settings old new w y e u)
  broke_unsent y e (inr h) = front_broke y e h

  -- ---- and then the worker begins again

  same_after : (here last : Link) (args : List (List ℕ)) (e f : RunError) (m : Machine)
      → LeavesNext here last args e f → machine_after f m ≡ machine_after e m
  same_after here last args (causes.Request e) f m h = absurd h
  same_after here last args (causes.Send e) f m h = ap (λ (v : RunError). machine_after v m) h.0
  same_after here last args (causes.Receive named e) f m h = ap (λ (v : RunError). machine_after v m) h.2.0
  same_after here last args (causes.Answer e) (causes.Request f) m h = absurd h.2
  same_after here last args (causes.Answer e) (causes.Send f) m h = absurd h.2
  same_after here last args (causes.Answer e) (causes.Receive other f) m h = refl
  same_after here last args (causes.Answer e) (causes.Answer f) m h = refl

  fails_so : (y x : Standing R) (e : RunError) → x ≡ after_failure e y
      → BreaksPipelined with_verdict with_commit settings old new w y e
      → FailsPipelined with_verdict with_commit settings old new w x e
  fails_so y x e is (inl b) = inl (y, b, is)
  fails_so y x e is (inr (inl (here, f, b, leaves, names))) = inr (inl (
    here,
    f,
    (
      y,
      b,
      is ∙ ap (λ (n : Machine). let v : Standing R = record y { machine = n } in v)
          (same_after here new (next_command settings (asking with_commit settings w)) f e y.machine leaves),
    ),
    leaves,
    names,
  ))
  fails_so y x e is (inr (inr (here, z, t, b))) = inr (inr (here, z, t, (y, b, is)))

  pub failed_pipelined : (y x : Standing R) (e f : RunError) → f ≡ e → x ≡ after_failure e y
      → BreaksPipelined with_verdict with_commit settings old new w y e
      → FailsPipelined with_verdict with_commit settings old new w x f
  failed_pipelined y x e f same is b =
      subst (λ (v : RunError). FailsPipelined with_verdict with_commit settings old new w x v) (sym same)
      (fails_so y x e is b)
