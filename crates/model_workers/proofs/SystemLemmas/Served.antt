-- What the server does follows `model_server::group`, and changes no worker.
use Rattle.std.proofs.Common.{◌≡◌, refl, ℕ, Bool, true, false, ◌&&◌, List, [], ◌∷◌, ◌++◌, Option, Some, None}
use Rattle.std.proofs.Common.{if◌then◌else◌}
use Rattle.model_server.specs.Group.Worker.{Id}
use Rattle.model_server.specs.Group.Group.{Name, Numbers, id_text, is_below, fits, listed, ids_of}
use Rattle.model_server.specs.Group.World.{World, Append, Delete, Read, Reread, Claim, Claim_ids, Ack_comes, item, ack_comes}
use Rattle.model_server.specs.Group.World.{log_of}
use Rattle.model_server.specs.Group.World as group
use Rattle.model_server.specs.Group.Law.{Among}
use Rattle.model_server.proofs.GroupLemmas.Among.{among_left}
use Rattle.model_server.specs.Group.Group.{passed}
use Rattle.worker_journal.specs.EntryLine.{Entry}
use Rattle.model_workers.specs.Files.Files.{Fields}
use Rattle.model_workers.specs.System.System.{server_of, world_with}

module _ (w : World Fields) where
  -- the event does to the server what it does to any world with this server, and changes no worker
  pub record IsServed (e : group.Event Fields) : Type 0 where
    pub server : server_of (group.happens w e) ≡ server_of (group.happens (world_with (server_of w)) e)
    pub workers : (n : Name) → (group.happens w e).workers n ≡ w.workers n
    pub loose : (n : Name) → (group.happens w e).loose n ≡ w.loose n
    pub committed : (group.happens w e).committed ≡ w.committed
    pub seen : (x : Entry) → Among x w.seen → Among x (group.happens w e).seen

  abbrev with_entry : World Fields → Numbers → Fields → Bool → World Fields
  with_entry v n fields b = if b then record v { fresh = v.fresh ++ (id_text n, fields) ∷ []; last = n } else v

  abbrev with_deleted : World Fields → Id → Bool → World Fields
  with_deleted v id b = if b then record v { deleted = id ∷ v.deleted } else v

  added_server : (n : Numbers) (fields : Fields) (b : Bool)
      → server_of (with_entry w n fields b) ≡ server_of (with_entry (world_with (server_of w)) n fields b)
  added_server n fields true = refl
  added_server n fields false = refl

  added_workers : (n : Numbers) (fields : Fields) (b : Bool) (c : Name)
      → (with_entry w n fields b).workers c ≡ w.workers c
  added_workers n fields true c = refl
  added_workers n fields false c = refl

  added_loose : (n : Numbers) (fields : Fields) (b : Bool) (c : Name) → (with_entry w n fields b).loose c ≡ w.loose c
  added_loose n fields true c = refl
  added_loose n fields false c = refl

  added_committed : (n : Numbers) (fields : Fields) (b : Bool) → (with_entry w n fields b).committed ≡ w.committed
  added_committed n fields true = refl
  added_committed n fields false = refl

  added_seen : (n : Numbers) (fields : Fields) (b : Bool) (x : Entry) → Among x w.seen
      → Among x (with_entry w n fields b).seen
  added_seen n fields true x h = h
  added_seen n fields false x h = h

  deleted_server : (id : Id) (b : Bool)
      → server_of (with_deleted w id b) ≡ server_of (with_deleted (world_with (server_of w)) id b)
  deleted_server id true = refl
  deleted_server id false = refl

  deleted_workers : (id : Id) (b : Bool) (c : Name) → (with_deleted w id b).workers c ≡ w.workers c
  deleted_workers id true c = refl
  deleted_workers id false c = refl

  deleted_loose : (id : Id) (b : Bool) (c : Name) → (with_deleted w id b).loose c ≡ w.loose c
  deleted_loose id true c = refl
  deleted_loose id false c = refl

  deleted_committed : (id : Id) (b : Bool) → (with_deleted w id b).committed ≡ w.committed
  deleted_committed id true = refl
  deleted_committed id false = refl

  deleted_seen : (id : Id) (b : Bool) (x : Entry) → Among x w.seen → Among x (with_deleted w id b).seen
  deleted_seen id true x h = h
  deleted_seen id false x h = h

  acked_server : (a : Option (Name × List Id))
      → server_of (ack_comes w a) ≡ server_of (ack_comes (world_with (server_of w)) a)
  acked_server None = refl
  acked_server (Some a) = refl

  acked_workers : (a : Option (Name × List Id)) (c : Name) → (ack_comes w a).workers c ≡ w.workers c
  acked_workers None c = refl
  acked_workers (Some a) c = refl

  acked_loose : (a : Option (Name × List Id)) (c : Name) → (ack_comes w a).loose c ≡ w.loose c
  acked_loose None c = refl
  acked_loose (Some a) c = refl

  acked_committed : (a : Option (Name × List Id)) → (ack_comes w a).committed ≡ w.committed
  acked_committed None = refl
  acked_committed (Some a) = refl

  acked_seen : (a : Option (Name × List Id)) (x : Entry) → Among x w.seen → Among x (ack_comes w a).seen
  acked_seen None x h = h
  acked_seen (Some a) x h = h

  pub append : (n : Numbers) (fields : Fields) → IsServed (Append n fields)
  append n fields =
      let b : Bool = is_below w.last n && fits n in
      record {
        server = added_server n fields b;
        workers = added_workers n fields b;
        loose = added_loose n fields b;
        committed = added_committed n fields b;
        seen = added_seen n fields b;
      }

  pub delete : (id : Id) → IsServed (Delete id)
  delete id =
      let b : Bool = listed (ids_of (log_of w)) id in
      record {
        server = deleted_server id b;
        workers = deleted_workers id b;
        loose = deleted_loose id b;
        committed = deleted_committed id b;
        seen = deleted_seen id b;
      }

  pub read : (c : Name) (n : ℕ) → IsServed (Read c n)
  read c n = record {
    server = refl;
    workers = λ m. refl;
    loose = λ m. refl;
    committed = refl;
    seen = λ x h. among_left x w.seen (passed w.deleted n w.fresh) h;
  }

  pub reread : (c : Name) (pick : Id → Bool) → IsServed (Reread c pick)
  reread c pick = record { server = refl; workers = λ m. refl; loose = λ m. refl; committed = refl; seen = λ x h. h }

  pub claim : (c : Name) (pick : Id → Bool) (next : Id) → IsServed (Claim c pick next)
  claim c pick next = record { server = refl; workers = λ m. refl; loose = λ m. refl; committed = refl; seen = λ x h. h }

  pub claim_ids : (c : Name) (pick : Id → Bool) → IsServed (Claim_ids c pick)
  claim_ids c pick = record { server = refl; workers = λ m. refl; loose = λ m. refl; committed = refl; seen = λ x h. h }

  pub ack_came : (k : ℕ) → IsServed (Ack_comes k)
  ack_came k = record {
    server = acked_server (item w.acks k);
    workers = acked_workers (item w.acks k);
    loose = acked_loose (item w.acks k);
    committed = acked_committed (item w.acks k);
    seen = acked_seen (item w.acks k);
  }
