-- Rounds one after the other, and their place in a worker's life.
use Rattle.std.proofs.Common.{sym, subst, inl, inr, List, ◌++◌, append_assoc, append-nil}
use Rattle.redis_connection.specs.Link.{Link}
use Rattle.model_server.specs.Group.Worker.{Id}
use Rattle.worker.specs.Gathered.{Doings}
use Rattle.worker.specs.Life.{Lives, goes_on, deleted_told, deleted_at}
use Rattle.worker.specs.Life as life
use Rattle.worker.specs.Session.{Standing}
use Rattle.worker.specs.declared.state.Settings.{Settings}
use Rattle.model_workers.specs.Loops.Loop.{Loops, Stops, Drains, ends, besides, turns, breaks, stops, fails}

-- ---- one after the other

pub loops_both : (settings : Settings) (l m n : Link) (v u y : Standing Doings) (a b : List Id) → Loops settings l v m u a
    → Loops settings m u n y b → Loops settings l v n y (a ++ b)
loops_both settings l m n v u y a b (ends k w) q = q
loops_both settings l m n v u y a b (besides k k' i w w' ids b' p) q =
    besides k k' n w y (ids ++ b) b' (loops_both settings k' i n w w' y ids b p q)
loops_both settings l m n v u y a b (turns k k' i w w' x asked ids t p) q =
    subst (λ (all : List Id). Loops settings k w n y all) (sym (append_assoc (deleted_told settings w t.turn.answer) ids b))
    (turns k k' n w w' y asked (ids ++ b) t (loops_both settings k' i n w' x y ids b p q))

pub loops_stop : (settings : Settings) (l m n : Link) (v u y : Standing Doings) (a b : List Id) → Loops settings l v m u a
    → Stops settings m u n y b → Stops settings l v n y (a ++ b)
loops_stop settings l m n v u y a b p (breaks k k' i w x ids q s) =
    breaks l k' i v x (a ++ ids) (loops_both settings l k k' v w x a ids p q) s
loops_stop settings l m n v u y a b p (stops k k' i j w w' x asked ids q t b') =
    subst (λ (all : List Id). Stops settings l v j x all) (append_assoc a ids (deleted_told settings w' t.turn.answer))
    (stops l k' i j v w' x asked (a ++ ids) (loops_both settings l k k' v w w' a ids p q) t b')
loops_stop settings l m n v u y a b p (fails k k' i j w w' x e ids q f left) =
    subst (λ (all : List Id). Stops settings l v j x all) (append_assoc a ids (deleted_at settings k' i w' x e f))
    (fails l k' i j v w' x e (a ++ ids) (loops_both settings l k k' v w w' a ids p q) f left)

-- ---- a life

loops_lived : (settings : Settings) (l n : Link) (v y : Standing Doings) (deleted gone : List Id)
    → Lives settings v deleted → Loops settings l v n y gone → Lives settings y (deleted ++ gone)
loops_lived settings l n v y deleted gone a (ends k w) =
    subst (λ (ids : List Id). Lives settings w ids) (sym (append-nil deleted)) a
loops_lived settings l n v y deleted gone a (besides k m i w x ids b p) =
    loops_lived settings m i w x deleted ids a p
loops_lived settings l n v y deleted gone a (turns k m i w u x asked ids t p) =
    let now : List Id = deleted_told settings w t.turn.answer in
    let here : Lives settings u (deleted ++ now) =
    subst (λ (s : Standing Doings). Lives settings s (deleted ++ now)) (sym t.stands) (goes_on w deleted t.turn a) in
    subst (λ (all : List Id). Lives settings x all) (append_assoc deleted now ids)
    (loops_lived settings m i u x (deleted ++ now) ids here p)

stops_lived : (settings : Settings) (l n : Link) (v y : Standing Doings) (deleted gone : List Id)
    → Lives settings v deleted → Stops settings l v n y gone → Lives settings y (deleted ++ gone)
stops_lived settings l n v y deleted gone a (breaks k m i w x ids p b) = loops_lived settings k m w x deleted ids a p
stops_lived settings l n v y deleted gone a (stops k m i j w u x asked ids p t b) =
    let now : List Id = deleted_told settings u t.turn.answer in
    subst (λ (all : List Id). Lives settings x all) (append_assoc deleted ids now)
    (subst (λ (s : Standing Doings). Lives settings s ((deleted ++ ids) ++ now)) (sym t.stands)
    (goes_on u (deleted ++ ids) t.turn (loops_lived settings k m w u deleted ids a p)))
stops_lived settings l n v y deleted gone a (fails k m i j w u x e ids p f left) =
    subst (λ (all : List Id). Lives settings x all) (append_assoc deleted ids (deleted_at settings m i u x e f))
    (life.fails u x (deleted ++ ids) m i e f (loops_lived settings k m w u deleted ids a p))

pub drains_lived : (settings : Settings) (old new : Link) (v y : Standing Doings) (deleted gone : List Id)
    → Lives settings v deleted → Drains settings old v new y gone → Lives settings y (deleted ++ gone)
drains_lived settings old new v y deleted gone a (inl p) = loops_lived settings old new v y deleted gone a p
drains_lived settings old new v y deleted gone a (inr p) = stops_lived settings old new v y deleted gone a p
