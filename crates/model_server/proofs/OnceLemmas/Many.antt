-- Of several consumers each file has an id once, and no two files have the same.
use Rattle.std.proofs.Common.{inl, inr, sym, subst, Bool, true, false, List, [], ◌∷◌, map, Some, if◌then◌else◌}
use Rattle.std.specs.Option.{is_none}
use Rattle.std.specs.Str.{bytes_eq}
use Rattle.model_server.specs.Group.Worker.{Id}
use Rattle.model_server.specs.Group.Group.{Name, ids_of}
use Rattle.model_server.specs.Group.World.{item}
use Rattle.model_server.specs.Group.Law.{Among}
use Rattle.model_server.proofs.GroupLemmas.Among.{among_left}
use Rattle.model_server.specs.Once.Consumer.{Consumer, is_idle}
use Rattle.model_server.specs.Once.World.{Setting, World, Event, Send, Arrive, Arrive_late, Hear, Break, Ask, Take}
use Rattle.model_server.specs.Once.World.{Sync, Acknowledge_now, Acknowledge_later, Reconnect, Restart, Else, asked, acknowledges}
use Rattle.model_server.specs.Once.World.{happens}
use Rattle.model_server.specs.Once.Law.{Fit, NoOtherAdds, Once}
use Rattle.model_server.specs.Once.Many.{Many, first_many, world_of, setting_of, happens_to, run_many, AllFair}
use Rattle.model_server.specs.Once.Many.{EachFileOnce, EachFileIsOfLog, NoneInTwoFiles, Has}
use Rattle.model_server.proofs.OnceLemmas.Ids.{added_then}
use Rattle.model_server.proofs.OnceLemmas.Fill.{Inv, each, at_first}
use Rattle.model_server.proofs.OnceLemmas.Apart.{once_left, ids_both}
use Rattle.model_server.proofs.OnceLemmas.Write.{Calm, Distinct, Writes, Good, calm_still, calm_filled, calm_served, calm_acked}
use Rattle.model_server.proofs.OnceLemmas.Write.{calm_else, stays, writes, at_start}
use Rattle.model_server.proofs.OnceLemmas.Held.{HeldIn, holds}

module _ {F : Type 0} where
  -- no delivered entry is forgotten, and none becomes pending again, whatever happens
  calm_asked : (name : Name) (n : _) (pick : Id → Bool) (next : Id) (w : World F) → Distinct w.stream → (b : Bool)
      → Calm (if b then asked name n pick next w else w).stream w.stream
  calm_asked name n pick next w o true = calm_served name n pick next w.consumer.machine.phase w.stream o
  calm_asked name n pick next w o false = calm_still w.stream

  calm_now : (name : Name) (w : World F) (b : Bool) → Calm (if b then acknowledges name w else w).stream w.stream
  calm_now name w true = calm_acked w.stream (Some (name, w.consumer.machine.to_acknowledge))
  calm_now name w false = calm_still w.stream

  calm : (s : Setting F) (w : World F) → Distinct w.stream → (e : Event F) → Calm (happens s w e).stream w.stream
  calm s w o (Send n) = calm_still w.stream
  calm s w o (Arrive b) = calm_filled b w.stream w.producer.sent
  calm s w o (Arrive_late k b) = calm_filled b w.stream (item w.producer.late k)
  calm s w o Hear = calm_still w.stream
  calm s w o Break = calm_still w.stream
  calm s w o (Ask n pick next) = calm_asked s.name n pick next w o (is_idle w.consumer)
  calm s w o (Take vs) = calm_still w.stream
  calm s w o Sync = calm_still w.stream
  calm s w o Acknowledge_now = calm_now s.name w (is_none w.consumer.answer)
  calm s w o Acknowledge_later = (λ e h. h, λ id h k. k)
  calm s w o Reconnect = calm_still w.stream
  calm s w o (Restart every kept more) = calm_still w.stream
  calm s w o (Else e) = calm_else w.stream o e

module _ {F : Type 0} (s : Setting F) where
  abbrev pub Goods : Many F → Type 0
  Goods m = (name : Name) → Good (setting_of s name) (world_of m name)

  pub distinct : (m : Many F) (name : Name) → Goods m → Distinct m.stream
  distinct m name g = (g name).0.once

  goods : (m : Many F) (name : Name) (e : Event F) → Goods m → Goods (happens_to s m name e)
  goods m name e g other =
      let w : World F = world_of m name in
      let v : World F = happens (setting_of s name) w e in
      let case : (b : Bool) → Writes v.stream (if b then v.consumer else m.consumers other)
      = λ b. elim b as (λ b. Writes v.stream (if b then v.consumer else m.consumers other)) [
        | true ↦ writes (setting_of s name) w (g name) e
        | false ↦ stays v.stream m.stream (m.consumers other)
            (calm (setting_of s name) w (distinct m name g) e) (g other).1
      ] in
      (added_then (setting_of s name) w e (g name).0, case (bytes_eq name other))

  goods_over : (es : List (Name × Event F)) (m : Many F) → Goods m → Goods (run_many s es m)
  goods_over [] m g = g
  goods_over (e ∷ es) m g = goods_over es (happens_to s m e.0 e.1) (goods m e.0 e.1 g)

  goods_first : Goods first_many
  goods_first name = at_start (setting_of s name)

  pub always : (es : List (Name × Event F)) → Goods (run_many s es first_many)
  always es = goods_over es first_many goods_first

  held_over : (es : List (Name × Event F)) (m : Many F) → Goods m → HeldIn m → AllFair s m es → HeldIn (run_many s es m)
  held_over [] m g i fair = i
  held_over (e ∷ es) m g i fair =
      held_over es (happens_to s m e.0 e.1) (goods m e.0 e.1 g)
      (holds s m (distinct m e.0 g) e.0 e.1 fair.0 i) fair.1

  nobody : (id : Id) (d : Name) → Has {F = F} (first_many.consumers d) id → ⊥
  nobody id d (inl h) = h
  nobody id d (inr h) = h

  pub always_held : (es : List (Name × Event F)) → AllFair s first_many es → HeldIn (run_many s es first_many)
  always_held es fair = held_over es first_many goods_first (record {
    of_seen = λ d id h. absurd (nobody id d h);
    owner = λ p h. absurd h;
    one = λ id a b h k. absurd (nobody id a h);
    pending = λ p h. absurd h;
    once = tt;
  }) fair

  in_file : (c : Consumer F) (id : Id) → Among id (ids_of c.file) → Has c id
  in_file c id h =
      let P : List Id → Type 0 = λ l. Among id l in
      inr (subst P (sym (ids_both c.file c.lines)) (among_left id (ids_of c.file) (ids_of c.lines) h))

-- ---- the producer, if there are no other additions

module _ {F : Type 0} (s : Setting F) (fit : Fit s) where
  -- what is so of the log and the producer is so for each consumer
  for_other : (one other : Name) (v : World F) (c : Consumer F) → Inv (setting_of s one) fit v
      → Inv (setting_of s other) fit (record { stream = v.stream; producer = v.producer; consumer = c })
  for_other one other v c i = record {
    kept = i.kept;
    fed = record {
      late = i.fed.late;
      sent = i.fed.sent;
      answer = i.fed.answer;
      so = i.fed.so;
      one = i.fed.one;
    };
  }

  abbrev Filled : Many F → Type 0
  Filled m = (name : Name) → Inv (setting_of s name) fit (world_of m name)

  filled_over : (es : List (Name × Event F)) (m : Many F) → NoOtherAdds (map (λ e. e.1) es) → Filled m
      → Filled (run_many s es m)
  filled_over [] m h i = i
  filled_over (e ∷ es) m h i =
      filled_over es (happens_to s m e.0 e.1) h.1
      (λ other. for_other e.0 other (happens (setting_of s e.0) (world_of m e.0) e.1) _
      (each (setting_of s e.0) fit (world_of m e.0) (i e.0) e.1 h.0).inv)

  pub always_filled : (es : List (Name × Event F)) → NoOtherAdds (map (λ e. e.1) es)
      → Filled (run_many s es first_many)
  always_filled es h = filled_over es first_many h (λ name. at_first (setting_of s name) fit)

pub each_file_once : {F : Type 0} → EachFileOnce F
each_file_once s es name =
    let c = (run_many s es first_many).consumers name in
    once_left (ids_of c.file) (ids_of c.lines) (subst Once (ids_both c.file c.lines) (always s es name).1.once)

pub each_file_of_log : {F : Type 0} → EachFileIsOfLog F
each_file_of_log s es name e h =
    let m = run_many s es first_many in
    let c = m.consumers name in
    among_left e m.stream.seen m.stream.fresh
    ((always s es name).1.of_seen e (among_left e c.file c.lines h))

pub none_in_two_files : {F : Type 0} → NoneInTwoFiles F
none_in_two_files s es fair id one other h k =
    let m = run_many s es first_many in
    (always_held s es fair).one id one other (in_file s (m.consumers one) id h)
    (in_file s (m.consumers other) id k)
