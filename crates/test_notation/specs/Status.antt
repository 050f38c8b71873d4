-- How status codes are printed in a line.
use Rattle.std.specs.Prelude.{ℕ, List, codes}
use Rattle.redis_streams.specs.declared.status.XAckDelStatusCode.{XAckDelStatusCode}
use Rattle.redis_streams.specs.declared.status.XAckDelStatusCode.TheVariants as acknowledgement
use Rattle.redis_streams.specs.declared.status.XDelExStatusCode.{XDelExStatusCode}
use Rattle.redis_streams.specs.declared.status.XDelExStatusCode.TheVariants as deletion

-- the number of a code of XDELEX
abbrev pub deletion_form : XDelExStatusCode → List ℕ
deletion_form deletion.IdNotFound = codes "-1"
deletion_form deletion.Deleted = codes "1"
deletion_form deletion.NotDeletedUnacknowledgedOrStillReferenced = codes "2"

-- the number of a code of XACKDEL
abbrev pub acknowledgement_form : XAckDelStatusCode → List ℕ
acknowledgement_form acknowledgement.IdNotFound = codes "-1"
acknowledgement_form acknowledgement.AcknowledgedAndDeleted = codes "1"
acknowledgement_form acknowledgement.AcknowledgedNotDeletedStillReferenced = codes "2"
