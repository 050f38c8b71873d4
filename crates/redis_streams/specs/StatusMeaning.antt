-- The status codes of XDELEX and XACKDEL: each is a whole number, with no attribute around it.
use Rattle.std.specs.Prelude.{zero, suc, ℤ, pos, negsuc, Option, Some, None}
use Rattle.redis_resp.specs.Tree.{Tree, int}
use Rattle.redis_resp.specs.declared.value.error.ParsingError.{ParsingError}
use Rattle.redis_resp.specs.declared.value.error.ParsingError.TheVariants.{UnknownXDelEx, UnknownXAckDel, NotXDelEx}
use Rattle.redis_resp.specs.declared.value.error.ParsingError.TheVariants.{NotXAckDel}
use Rattle.redis_streams.specs.declared.status.XDelExStatusCode.{XDelExStatusCode}
use Rattle.redis_streams.specs.declared.status.XAckDelStatusCode.{XAckDelStatusCode}

-- the number of a status of XDELEX
abbrev pub xdelex_code : XDelExStatusCode → ℤ
xdelex_code XDelExStatusCode.IdNotFound = negsuc 0
xdelex_code XDelExStatusCode.Deleted = pos 1
xdelex_code XDelExStatusCode.NotDeletedUnacknowledgedOrStillReferenced = pos 2

-- the status of XDELEX with this number
abbrev pub xdelex_of_code : ℤ → Option XDelExStatusCode
xdelex_of_code (negsuc zero) = Some XDelExStatusCode.IdNotFound
xdelex_of_code (pos (suc zero)) = Some XDelExStatusCode.Deleted
xdelex_of_code (pos (suc (suc zero))) = Some XDelExStatusCode.NotDeletedUnacknowledgedOrStillReferenced
xdelex_of_code _ = None

-- a value read as a status of XDELEX
abbrev pub xdelex_reading : Tree → Option XDelExStatusCode
xdelex_reading (int z) = xdelex_of_code z
xdelex_reading _ = None

-- the error of a value that is no status of XDELEX: an unknown number, which the error carries, or no number at all
abbrev pub xdelex_refusal : Tree → ParsingError
xdelex_refusal (int z) = UnknownXDelEx z
xdelex_refusal _ = NotXDelEx

-- the number of a status of XACKDEL
abbrev pub xackdel_code : XAckDelStatusCode → ℤ
xackdel_code XAckDelStatusCode.IdNotFound = negsuc 0
xackdel_code XAckDelStatusCode.AcknowledgedAndDeleted = pos 1
xackdel_code XAckDelStatusCode.AcknowledgedNotDeletedStillReferenced = pos 2

-- the status of XACKDEL with this number
abbrev pub xackdel_of_code : ℤ → Option XAckDelStatusCode
xackdel_of_code (negsuc zero) = Some XAckDelStatusCode.IdNotFound
xackdel_of_code (pos (suc zero)) = Some XAckDelStatusCode.AcknowledgedAndDeleted
xackdel_of_code (pos (suc (suc zero))) = Some XAckDelStatusCode.AcknowledgedNotDeletedStillReferenced
xackdel_of_code _ = None

-- a value read as a status of XACKDEL
abbrev pub xackdel_reading : Tree → Option XAckDelStatusCode
xackdel_reading (int z) = xackdel_of_code z
xackdel_reading _ = None

-- the error of a value that is no status of XACKDEL: an unknown number, which the error carries, or no number at all
abbrev pub xackdel_refusal : Tree → ParsingError
xackdel_refusal (int z) = UnknownXAckDel z
xackdel_refusal _ = NotXAckDel
