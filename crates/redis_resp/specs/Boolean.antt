-- What reads as a boolean.
use Rattle.std.specs.Prelude.{ℕ, pos, List, Bool, true, false, not, Option, Some, None, codes, if◌then◌else◌}
use Rattle.std.specs.Ordering.{int_eq}
use Rattle.std.specs.Str.{bytes_eq}
use Rattle.redis_resp.specs.Tree.{Tree, nil, int, bulk, simple, okay, boolean, plain}

-- `1` is true, `0` is false, and no other text is a boolean
abbrev pub truth_of_text : List ℕ → Option Bool
truth_of_text text = if bytes_eq text (codes "1") then Some true
    else (if bytes_eq text (codes "0") then Some false else None)

-- the boolean of a value with no attribute around it
abbrev pub truth_of_plain : Tree → Option Bool
truth_of_plain nil = Some false
truth_of_plain (int z) = Some (not (int_eq z (pos 0)))
truth_of_plain (bulk bytes) = truth_of_text bytes
truth_of_plain (simple text) = truth_of_text text
truth_of_plain okay = Some true
truth_of_plain (boolean b) = Some b
truth_of_plain _ = None

-- a boolean, a number (false if it is 0), `0` or `1` as a text, `OK` (true), nil (false)
abbrev pub truth_reading : Tree → Option Bool
truth_reading t = truth_of_plain (plain t)
