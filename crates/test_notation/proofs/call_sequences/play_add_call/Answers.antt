use Rattle.test_notation.proofs.call_sequences.play_add_call.Goals as goal

pub returns-in-Nomkstream : goal.returns-in-Nomkstream
returns-in-Nomkstream c = rw c.in-Nomkstream.is c.nomkstream.ensures

pub returns-in-Trim : goal.returns-in-Trim
returns-in-Trim c = rw c.in-Trim.is c.trim.ensures

pub returns-in-Policy : goal.returns-in-Policy
returns-in-Policy c = rw c.in-Policy.is c.set_deletion_policy.ensures

pub returns-in-Idmp : goal.returns-in-Idmp
returns-in-Idmp c = rw c.in-Idmp.is c.idmp.ensures

pub returns-in-Idmpauto : goal.returns-in-Idmpauto
returns-in-Idmpauto c = rw c.in-Idmpauto.is c.idmpauto.ensures
