-- Which values can be read, without the result.
use Rattle.std.specs.Prelude.{◌&&◌, Bool, false}
use Rattle.std.specs.List.{list_all}
use Rattle.std.specs.Option.{is_some, option_map_or}
use Rattle.redis_resp.specs.Tree.{Tree, items, pairs_in}
use Rattle.redis_resp.specs.Text.{text_reading}

-- a pair of a text and a value that reads
abbrev pub pair_readable : (Tree → Bool) → Tree × Tree → Bool
pair_readable readable p = is_some (text_reading p.0) && readable p.1

-- a table whose values read
abbrev pub table_readable : (Tree → Bool) → Tree → Bool
table_readable readable t = option_map_or (list_all (pair_readable readable)) (pairs_in t) false

-- a list whose items read
abbrev pub list_readable : (Tree → Bool) → Tree → Bool
list_readable readable t = option_map_or (list_all readable) (items t) false
