-- The text with the figures of streams, for each form.
use Rattle.std.specs.Prelude.{ℕ, List, [], ◌∷◌, ◌++◌}
use Rattle.json.specs.Print.{print}
use Rattle.stream_top.specs.Json.{document_tokens}
use Rattle.stream_top.specs.Metrics.{text_of_metrics}
use Rattle.stream_top.specs.declared.figures.StreamFigures.{StreamFigures}
use Rattle.stream_top.specs.declared.options.Form.{Form}
use Rattle.stream_top.specs.declared.options.Form.TheVariants.{Json, OpenMetrics}

-- the JSON document, as a line
abbrev pub json_line : List StreamFigures → List ℕ
json_line streams = print (document_tokens streams) ++ 10 ∷ []

-- the text in the form JSON or OpenMetrics
abbrev pub text_in : Form → List StreamFigures → List ℕ
text_in Json streams = json_line streams
text_in OpenMetrics streams = text_of_metrics streams
