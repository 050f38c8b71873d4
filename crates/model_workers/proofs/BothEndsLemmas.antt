-- A producer and a worker over one server.
use Rattle.std.proofs.Common.{◌≡◌, inl, inr, refl, sym, ap, subst, ◌∙◌, ℕ, zero, suc, ◌<◌, arith, List, [], ◌∷◌, ◌++◌}
use Rattle.std.proofs.Common.{append-nil, append_assoc, length, map, Option, Some, None}
use Rattle.std.proofs.lemmas.List.{length-append}
use Rattle.model_server.specs.Group.Worker.{Id, Entry, Phase, own, claiming, reading, Answer, news}
use Rattle.model_server.specs.Group.Group.{Name, Pending, given, ids_of, pending_ids, whole}
use Rattle.model_server.specs.Group.World as group
use Rattle.model_server.specs.Group.Law.{Among}
use Rattle.model_server.proofs.GroupLemmas.Among.{among_left}
use Rattle.model_server.specs.Once.Feed.{entries}
use Rattle.model_server.specs.Once.Law.{AreFirst, Fit, NoOtherAdds, after, log}
use Rattle.model_server.specs.Once.Order.{AllInOrder}
use Rattle.model_server.specs.Once.World.{Event, Setting, World, Take, first_world, happens, run}
use Rattle.model_server.proofs.OnceLemmas.Fill.{log_is_first_records, log_only_grows}
use Rattle.model_server.proofs.OnceLemmas.Grows.{file_grows}
use Rattle.model_server.proofs.OnceLemmas.Order.{Line, MayFollow, PhaseIs, always_line, file_is_first_of_log, log_split}
use Rattle.model_server.proofs.OnceLemmas.Write.{always_good}
use Rattle.worker.specs.Answers.{Heard}
use Rattle.worker.specs.Gathered.{Doings, committed_too, done_too}
use Rattle.worker.specs.Questions.{count_asked}
use Rattle.worker.specs.Session.{Standing, after_turn, asking}
use Rattle.worker_producer.proofs.ScheduleLemmas.{asking_nothing_is_all}
use Rattle.model_workers.specs.Files.Files.{Fields}
use Rattle.model_workers.specs.System.Once.{Fate, IsHeard, comes, comes_not, count, reply_in, reply_to}
use Rattle.model_workers.specs.System.Once.{question_events, turns, until_asked}
use Rattle.model_workers.specs.BothEnds.{EachComesOutOnce, FirstOnesComeOut, IsFilled, NothingComesOutTwice, ReadsNoMore}
use Rattle.model_workers.specs.BothEnds.{WhatGoesInComesOut, to_the_end}
use Rattle.model_workers.proofs.SystemLemmas.OnceLemmas.{Is, Ready, as_is, before_is, code_keeps_each, code_writes_in_order}
use Rattle.model_workers.proofs.SystemLemmas.OnceLemmas.{code_writes_once, code_writes_the_log, is_ready, run_on, runs_are_events}

-- ---- lists

empty_if_none : {A : Type 0} (xs : List A) → length xs ≡ 0 → xs ≡ []
empty_if_none [] h = refl
empty_if_none (x ∷ xs) h = absurd (let t : suc (length xs) ≡ zero = h in cc)

-- two lists are the same if each begins with the other
both_first : {A : Type 0} (xs ys : List A) → AreFirst xs ys → AreFirst ys xs → xs ≡ ys
both_first xs ys f g =
    let one : length (xs ++ f.0) ≡ length ys = ap length f.1 in
    let two : length (ys ++ g.0) ≡ length xs = ap length g.1 in
    let none : length f.0 ≡ 0 = omega (arith, one, two, length-append xs f.0, length-append ys g.0) in
    sym (append-nil xs) ∙ (ap (λ l. xs ++ l) (sym (empty_if_none f.0 none)) ∙ f.1)

no_entries : (es : List (Entry Fields)) → ((id : Id) → Among id (ids_of es) → ⊥) → es ≡ []
no_entries [] h = refl
no_entries (x ∷ es) h = absurd (h x.0 (inl refl))

-- ---- schedules

adds_before : (es more : List (Event Fields)) → NoOtherAdds (es ++ more) → NoOtherAdds es
adds_before [] more h = tt
adds_before (e ∷ es) more h = (h.0, adds_before es more h.1)

-- if all records are in, they stay so
all_stays : (s : Setting Fields) → Fit s → (events more : List (Event Fields))
    → log (after s events) ≡ entries s.base s.records → NoOtherAdds (events ++ more)
    → log (after s (events ++ more)) ≡ entries s.base s.records
all_stays s fit events more all none =
    let later : World Fields = run s more (after s events) in
    let grew : AreFirst (entries s.base s.records) (log later) =
    subst (λ (l : List (Entry Fields)). AreFirst l (log later)) all (log_only_grows s events more) in
    let grown : AreFirst (entries s.base s.records) (log (after s (events ++ more))) =
    subst (λ (w : World Fields). AreFirst (entries s.base s.records) (log w)) (sym (run_on s events more first_world)) grew in
    sym (both_first (entries s.base s.records) (log (after s (events ++ more))) grown
    (log_is_first_records s fit (events ++ more) none))

-- once a producer's last round sent nothing, all records are in, and stay so
filled : (s : Setting Fields) → Fit s → (events more : List (Event Fields)) → IsFilled s events
    → NoOtherAdds (events ++ more) → log (after s (events ++ more)) ≡ entries s.base s.records
filled s fit events more f none =
    all_stays s fit events more
    (asking_nothing_is_all s fit f.settings f.some events f.known f.count f.old f.new f.standing f.ends f.last f.sends
    f.runs (adds_before events more none)) none

pub nothing_comes_out_twice : NothingComesOutTwice
nothing_comes_out_twice s fit events v b none = (
  code_writes_once s b.settings events v b.drains,
  λ e h.
      let front = log_is_first_records s fit events none in
      subst (λ (l : List (Entry Fields)). Among e l) front.1
      (among_left e (log (after s events)) front.0 (code_writes_the_log s b.settings events v b.drains e h)),
)

pub first_ones_come_out : FirstOnesComeOut
first_ones_come_out s fit events v b none order =
    let file = code_writes_in_order s b.settings events v b.drains order in
    let front = log_is_first_records s fit events none in (
      file.0 ++ front.0,
      sym (append_assoc v.history.committed file.0 front.0)
          ∙ (ap (λ (l : List (Entry Fields)). l ++ front.0) file.1 ∙ front.1),
    )

-- ---- the last read

-- a reply without new entries is one to a read, to which the server had nothing to give
pub record ReadNone (n : ℕ) (ids : List Id) (phase : Phase) (stream : group.World Fields) : Type 0 where
  pub nothing : ids ≡ []
  pub rounds : ℕ
  pub reads : phase ≡ reading rounds
  pub given : map whole (given stream.deleted n stream.fresh) ≡ []

read_none : (name : Name) (n : ℕ) (fate : Fate) (ids : List Id) (phase : Phase) (stream : group.World Fields)
    → reply_to name n fate ids phase stream ≡ Some (news []) → ReadNone n ids phase stream
read_none name n (comes pick next) [] (own behind) stream h =
    absurd (let t : reply_to name n (comes pick next) [] (own behind) stream ≡ Some (news []) = h in cc)
read_none name n (comes pick next) [] (claiming from) stream h =
    absurd (let t : reply_to name n (comes pick next) [] (claiming from) stream ≡ Some (news []) = h in cc)
read_none name n (comes pick next) [] (reading rounds) stream h = record {
  nothing = refl;
  rounds = rounds;
  reads = refl;
  given = (let t : Some (news (map whole (given stream.deleted n stream.fresh))) ≡ Some (news []) = h in cc);
}
read_none name n (comes pick next) (i ∷ ids) phase stream h =
    absurd (let t : reply_to name n (comes pick next) (i ∷ ids) phase stream ≡ Some (news []) = h in cc)
read_none name n comes_not ids phase stream h =
    absurd (let t : reply_to name n comes_not ids phase stream ≡ Some (news []) = h in cc)

given_none : (n : ℕ) (es : List (Entry Fields)) → 0 < n → map whole (given [] n es) ≡ [] → es ≡ []
given_none n [] some h = refl
given_none zero (e ∷ es) some h = absurd (omega arith)
given_none (suc n) (e ∷ es) some h = absurd (let t : whole e ∷ map whole (given [] n es) ≡ [] = h in cc)

nothing_to_commit : (s : Setting Fields) (commits acks : List Id) → Ready s commits acks → acks ≡ [] → commits ≡ []
nothing_to_commit s [] acks r e = refl
nothing_to_commit s (i ∷ ids) [] r e = absurd r
nothing_to_commit s (i ∷ ids) (j ∷ js) r e = absurd (let t : j ∷ js ≡ [] = e in cc)

module _ (s : Setting Fields) (events : List (Event Fields)) (r : ReadsNoMore s events)
    (order : AllInOrder s first_world (events ++ until_asked r.settings r.standing r.meantime)) where
  abbrev v : Standing Doings
  v = r.standing

  abbrev u : Standing Doings
  u = asking committed_too r.settings v

  abbrev before : List (Event Fields)
  before = events ++ until_asked r.settings v r.meantime

  abbrev w : World Fields
  w = after s before

  abbrev n : ℕ
  n = count r.settings v r.meantime

  abbrev replied : World Fields → Option (Answer Fields)
  replied z = reply_to s.name n r.meantime.fate u.machine.to_acknowledge u.machine.phase z.stream

  there : w ≡ run s (until_asked r.settings v r.meantime) (after s events)
  there = run_on s events (until_asked r.settings v r.meantime) first_world

  is_worker : Is u.machine None u.history w.consumer
  is_worker = subst (λ (z : World Fields). Is u.machine None u.history z.consumer) (sym there)
      (before_is s r.settings v r.meantime (after s events)
      (as_is v (after s events).consumer (runs_are_events s r.settings events v r.runs)))

  reply_is : replied w ≡ Some (news [])
  reply_is = subst (λ (z : World Fields). replied z ≡ Some (news [])) (sym there)
      (subst (λ (o : Option Heard). IsHeard (reply_in r.settings v r.meantime s (after s events)) o) r.none r.heard)

  read : ReadNone n u.machine.to_acknowledge u.machine.phase w.stream
  read = read_none s.name n r.meantime.fate u.machine.to_acknowledge u.machine.phase w.stream reply_is

  line : Line s.name w.stream w.consumer
  line = always_line s before order

  no_rest : line.rest ≡ []
  no_rest =
      let quiet : MayFollow w.consumer.machine.phase line.rest None =
      subst (λ (o : Option (Answer Fields)). MayFollow w.consumer.machine.phase line.rest o) is_worker.answer line.follows in
      subst (λ (p : Phase). PhaseIs p line.rest) (ap (λ m. m.phase) is_worker.machine ∙ read.reads) quiet

  no_fresh : w.stream.fresh ≡ []
  no_fresh =
      let asked : n ≡ r.settings.count = ap (count_asked r.settings) read.reads in
      given_none n w.stream.fresh (subst (λ (k : ℕ). 0 < k) (sym asked) r.some)
      (subst (λ (d : List Id). map whole (given d n w.stream.fresh) ≡ []) line.whole_log read.given)

  no_lines : w.consumer.lines ≡ []
  no_lines =
      let none : u.machine.to_commit ≡ [] = nothing_to_commit s u.machine.to_commit u.machine.to_acknowledge
      (is_ready s v.machine.every v.machine.phase v.machine.to_commit v.machine.to_acknowledge) read.nothing in
      let nothing : w.consumer.machine.to_commit ≡ [] = ap (λ m. m.to_commit) is_worker.machine ∙ none in
      let good = always_good s before in
      no_entries w.consumer.lines (λ id m. subst (λ (ids : List Id). Among id ids) nothing (good.1.done id m))

  -- as the worker asks for new entries the last time, its file has the whole log
  file_is_the_log : w.consumer.file ≡ log w
  unfolding line
  file_is_the_log =
      let file : List (Entry Fields) = w.consumer.file in
      sym (log_split s before order
      ∙ (ap (λ x. file ++ (x ++ (line.rest ++ w.stream.fresh))) no_lines
      ∙ (ap (λ x. file ++ (x ++ w.stream.fresh)) no_rest
      ∙ (ap (λ x. file ++ x) no_fresh ∙ append-nil file))))

order_before : (s : Setting Fields) (es more : List (Event Fields)) (w : World Fields) → AllInOrder s w (es ++ more)
    → AllInOrder s w es
order_before s [] more w h = tt
order_before s (e ∷ es) more w h = (h.0, order_before s es more (happens s w e) h.1)

pub what_goes_in_comes_out : WhatGoesInComesOut
what_goes_in_comes_out s fit filling more f r none order =
    let events : List (Event Fields) = filling ++ more in
    let asked : List (Event Fields) = until_asked r.settings r.standing r.meantime in
    let u : Standing Doings = asking committed_too r.settings r.standing in
    let question : List (Event Fields) =
    question_events (count r.settings r.standing r.meantime) r.meantime.fate u.machine.to_acknowledge ++ r.meantime.later in
    let take_it : List (Event Fields) = Take r.turn.verdicts ∷ [] in
    let rest : List (Event Fields) = question ++ take_it in
    let all : List (Entry Fields) = entries s.base s.records in
    let split : to_the_end r ≡ (events ++ asked) ++ rest =
    ap (λ (x : List (Event Fields)). events ++ x) (append_assoc asked question take_it)
    ∙ sym (append_assoc events asked rest) in
    let alone : NoOtherAdds ((events ++ asked) ++ rest) = subst NoOtherAdds split none in
    let in_order : AllInOrder s first_world ((events ++ asked) ++ rest) =
    subst (AllInOrder s first_world) split order in
    let before : AllInOrder s first_world (events ++ asked) = order_before s (events ++ asked) rest first_world in_order in
    let alone_before : NoOtherAdds (events ++ asked) = adds_before (events ++ asked) rest alone in
    let at_events : log (after s events) ≡ all =
    filled s fit filling more f (adds_before events asked alone_before) in
    let at_read : log (after s (events ++ asked)) ≡ all = all_stays s fit events asked at_events alone_before in
    let file : (after s (events ++ asked)).consumer.file ≡ all = file_is_the_log s events r before ∙ at_read in
    let at_end : log (after s ((events ++ asked) ++ rest)) ≡ all =
    all_stays s fit (events ++ asked) rest at_read alone in
    let there : World Fields = after s ((events ++ asked) ++ rest) in
    let grew : AreFirst all there.consumer.file =
    subst (λ (w : World Fields). AreFirst all w.consumer.file) (sym (run_on s (events ++ asked) rest first_world))
    (subst (λ (l : List (Entry Fields)). AreFirst l (run s rest (after s (events ++ asked))).consumer.file) file
    (file_grows s (events ++ asked) rest)) in
    let front : AreFirst there.consumer.file all =
    subst (λ (l : List (Entry Fields)). AreFirst there.consumer.file l) at_end
    (file_is_first_of_log s ((events ++ asked) ++ rest) in_order) in
    let same : (after s (to_the_end r)).consumer.file ≡ there.consumer.file =
    ap (λ (es : List (Event Fields)). (after s es).consumer.file) split in
    let x : Standing Doings = after_turn done_too committed_too r.settings r.standing r.turn in
    let i = runs_are_events s r.settings (to_the_end r) x
    (turns r.settings events r.standing r.meantime r.turn r.progress r.ends r.heard r.runs) in
    sym i.file ∙ (same ∙ sym (both_first all there.consumer.file grew front))

-- ---- in any order

pub each_comes_out_once : EachComesOutOnce
each_comes_out_once s fit filling more f settings v runs none acks drained whole =
    let events : List (Event Fields) = filling ++ more in
    let w : World Fields = after s events in
    let all : log w ≡ entries s.base s.records = filled s fit filling more f none in (
      λ e h. elim (code_keeps_each s settings events v runs acks e
          (subst (λ (l : List (Entry Fields)). Among e l) (sym all) h)) [
            | inl fresh ↦ absurd (subst (λ (l : List (Entry Fields)). Among e l) drained.1 fresh)
            | inr later ↦ elim later [
              | inl pending ↦ absurd (subst (λ (ps : List Pending). Among e.0 (pending_ids ps)) drained.0 pending)
              | inr kept ↦ elim kept [
                | inl file ↦ file
                | inr deleted ↦ absurd (subst (λ (ids : List Id). Among e.0 ids) whole deleted)
              ]
            ]
          ],
      (
        λ e h. subst (λ (l : List (Entry Fields)). Among e l) all (code_writes_the_log s settings events v runs e h),
        code_writes_once s settings events v runs,
      ),
    )
