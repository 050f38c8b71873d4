-- One call more in a list of calls.
use Rattle.std.proofs.Common.{◌≡◌, List, [], ◌∷◌, ◌++◌, map, ◌∙◌, ap}
use Rattle.std.proofs.lemmas.List.{map_push}
use Rattle.stream_options.specs.Add.{Add}
use Rattle.stream_options.specs.AddCalls.{AddCall, final_add, after_add}
use Rattle.stream_options.specs.Read.{Read}
use Rattle.stream_options.specs.ReadCalls.{ReadCall, final_read, after_read}
use Rattle.stream_options.proofs.CallLemmas as calls

-- one call more on the options of an addition
pub add_final_push : {C : Type 0} (start : Add) (of : C → AddCall) (before : List C) (c : C)
    → final_add start (map of (before ++ c ∷ [])) ≡ after_add (final_add start (map of before)) (of c)
add_final_push start of before c = ap (final_add start) (map_push of before c)
    ∙ calls.add_final_push start (map of before) (of c)

-- one call more on the options of a read
pub read_final_push : {C : Type 0} (start : Read) (of : C → ReadCall) (before : List C) (c : C)
    → final_read start (map of (before ++ c ∷ [])) ≡ after_read (final_read start (map of before)) (of c)
read_final_push start of before c = ap (final_read start) (map_push of before c)
    ∙ calls.read_final_push start (map of before) (of c)
