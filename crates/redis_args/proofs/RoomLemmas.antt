-- A writer of a fixed size that has room for a list does not stop within it.
use Rattle.std.proofs.Common.{ℕ, inl, inr, List, ◌∷◌, ◌++◌, length, length-append, refl, arith, Result, Ok, Err}
use Rattle.std.specs.Prelude.{IsOk}
use Rattle.std.proofs.lemmas.List.Sums.{sum_by-append, sum_by-cons}
use Rattle.redis_args.specs.declared.writer.WriteError.{WriteError}
use Rattle.redis_args.specs.Room.{LacksRoom, MayRefuse, HasRoom}
use Rattle.redis_args.specs.Writer.{Wrote}

-- a prefix of the list leaves room for the next argument of it
lacks_none : (count size : ℕ) (old written rest : List (List ℕ)) (next : List ℕ)
    → HasRoom count size old (written ++ next ∷ rest) → LacksRoom count size (old ++ written) next → ⊥
lacks_none count size old written rest next room (inl full) =
    omega (arith, room.0, full, length-append old written, length-append written (next ∷ rest))
lacks_none count size old written rest next room (inr over) =
    omega (
      arith,
      room.1,
      over,
      sum_by-append length old written,
      sum_by-append length written (next ∷ rest),
      sum_by-cons length next rest,
    )

-- so writing a list for which there is room is Ok
pub room_is_enough : {T : Type 0} (count size : ℕ) (result : Result T WriteError) (old args new : List (List ℕ))
    → Wrote result old args new (MayRefuse count size new) → HasRoom count size old args → IsOk result
room_is_enough count size (Ok x) old args new wrote room = refl
room_is_enough count size (Err e) old args new stops room =
    absurd
    (lacks_none count size old stops.written stops.rest stops.next (rw stops.splits at room)
    (rw stops.holds at stops.refused.1))
