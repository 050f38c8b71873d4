use Rattle.worker.specs.DeadLetters.Dead.{claimer_of, letter_names}
use Rattle.worker.specs.Letters.{desk_of, names_of}
use Rattle.worker.proofs.DeadLettersLemmas.DeadLemmas.{delivered_some, err_too}
use Rattle.worker.proofs.dead_letters.search.DeadLetterSearch.give_up.Goals as goal

pub returns-clause-err : goal.returns-clause-err
returns-clause-err g c =
    let posts = c.in_ok-claim_and_queue_letters.ensures.ok in
    err_too c.deliver.result c.deliver.ensures.err (λ some.
    delivered_some (claimer_of c.args.self.now c.args.min_idle) (letter_names c.args.self.now)
    (names_of c.in_ok-desk.desk) (names_of c.claim_and_queue_letters.new.desk) c.args.entries.now posts.0 c.args.connection.now
    c.claim_and_queue_letters.new.connection c.deliver.new.connection (desk_of c.in_ok-desk.desk) (desk_of c.claim_and_queue_letters.new.desk)
    (desk_of c.deliver.new.desk) c.in_ok-desk.ensures.names c.in_ok-desk.ensures.waits c.in_ok-claim_and_queue_letters.ensures.names
    posts.1 some)
