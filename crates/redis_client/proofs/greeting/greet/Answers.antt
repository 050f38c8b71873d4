-- The first commands, and then the database.
use Rattle.std.proofs.Common.{◌≡◌, ◌++◌, sym, subst}
use Rattle.std.proofs.lemmas.Result.{err_from_is_err_and, IfOk-weaker, IfErr-weaker}
use Rattle.redis_client.specs.AddressMeaning.{meaning_of}
use Rattle.redis_client.specs.Asked.{AsksEach, BreaksOff}
use Rattle.redis_client.specs.Greeting.{beginning, greeting, login, naming, selection}
use Rattle.redis_client.specs.declared.address.Protocol.TheVariants.{Resp2, Resp3}
use Rattle.redis_client.proofs.AskedLemmas.{both, breaks_first, breaks_later}
use Rattle.redis_client.proofs.greeting.greet.Goals as goal
use Rattle.redis_client.proofs.greeting.greet.Goals.{in-Resp3+in_ok-ask_hello-in-Resp3, in-Resp2+in_ok-ask_login-in-Resp2+in_ok-ask_name-in-Resp2}

pub returns-in_err-ask_name-in-Resp2-clause-err : goal.returns-in_err-ask_name-in-Resp2-clause-err
returns-in_err-ask_name-in-Resp2-clause-err g c =
    let m = meaning_of c.args.address.now in
    let old = c.args.connection.now in
    let new = c.ask_name.new.connection in
    let e = c.in_err-ask_name-in-Resp2.field-0.0 in
    let p = err_from_is_err_and c.from_residual-in_err-ask_name-in-Resp2.result
    c.from_residual-in_err-ask_name-in-Resp2.ensures.1 in
    rw (p.1, p.2)
    (breaks_first (beginning m.protocol m) (selection m.database) old new e
    (subst (λ q. BreaksOff old new (beginning q m) e) (sym c.in-Resp2.is)
    (breaks_later (login m.login) (naming m.name) old c.ask_login.new.connection new e
    c.in_ok-ask_login-in-Resp2.ensures.ok c.in_err-ask_name-in-Resp2.ensures.err)))

pub returns-clause-ok : goal.returns-clause-ok
returns-clause-ok g c =
    let m = meaning_of c.args.address.now in
    let old = c.args.connection.now in
    let mid = c.match-address.connection in
    let new = c.ask_database.new.connection in
    let first : AsksEach old mid (beginning m.protocol m) = elim c.match-address.branch [
      | in-Resp3+in_ok-ask_hello-in-Resp3 w ↦
          subst (λ l. AsksEach old l (beginning m.protocol m)) (sym w.connection-is)
          (subst (λ q. AsksEach old w.ask_hello.new.connection (beginning q m)) (sym w.in-Resp3.is)
          w.in_ok-ask_hello-in-Resp3.ensures.ok)
      | in-Resp2+in_ok-ask_login-in-Resp2+in_ok-ask_name-in-Resp2 w ↦
          subst (λ l. AsksEach old l (beginning m.protocol m)) (sym w.connection-is)
          (subst (λ q. AsksEach old w.ask_name.new.connection (beginning q m)) (sym w.in-Resp2.is)
          (both (login m.login) (naming m.name) old w.ask_login.new.connection w.ask_name.new.connection
          w.in_ok-ask_login-in-Resp2.ensures.ok w.in_ok-ask_name-in-Resp2.ensures.ok))
    ] in
    IfOk-weaker c.ask_database.result (λ _. AsksEach mid new (selection m.database))
    (λ _. AsksEach old new (greeting m))
    (λ _ then. both (beginning m.protocol m) (selection m.database) old mid new first then)
    c.ask_database.ensures.ok

pub returns-clause-err : goal.returns-clause-err
returns-clause-err g c =
    let m = meaning_of c.args.address.now in
    let old = c.args.connection.now in
    let mid = c.match-address.connection in
    let new = c.ask_database.new.connection in
    let first : AsksEach old mid (beginning m.protocol m) = elim c.match-address.branch [
      | in-Resp3+in_ok-ask_hello-in-Resp3 w ↦
          subst (λ l. AsksEach old l (beginning m.protocol m)) (sym w.connection-is)
          (subst (λ q. AsksEach old w.ask_hello.new.connection (beginning q m)) (sym w.in-Resp3.is)
          w.in_ok-ask_hello-in-Resp3.ensures.ok)
      | in-Resp2+in_ok-ask_login-in-Resp2+in_ok-ask_name-in-Resp2 w ↦
          subst (λ l. AsksEach old l (beginning m.protocol m)) (sym w.connection-is)
          (subst (λ q. AsksEach old w.ask_name.new.connection (beginning q m)) (sym w.in-Resp2.is)
          (both (login m.login) (naming m.name) old w.ask_login.new.connection w.ask_name.new.connection
          w.in_ok-ask_login-in-Resp2.ensures.ok w.in_ok-ask_name-in-Resp2.ensures.ok))
    ] in
    IfErr-weaker c.ask_database.result (λ e. BreaksOff mid new (selection m.database) e)
    (λ e. BreaksOff old new (greeting m) e)
    (λ e breaks. breaks_later (beginning m.protocol m) (selection m.database) old mid new e first breaks)
    c.ask_database.ensures.err
