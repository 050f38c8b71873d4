-- The failures of the child.
use Rattle.stream_run.specs.declared.failure.Failure.{Failure}
use Rattle.stream_run.specs.declared.failure.Failure.TheVariants.{Child, Unopened, Round, Search, Outbox, Other}

-- the failure is one of the child
abbrev pub IsOfChild : Failure → Type 0
IsOfChild (Child e) = Unit {0}
IsOfChild (Unopened e) = Unit {0}
IsOfChild (Round e) = ⊥
IsOfChild (Search e) = ⊥
IsOfChild (Outbox e) = ⊥
IsOfChild (Other e) = ⊥
