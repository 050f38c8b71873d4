-- The text in the row of a config call.
use Rattle.std.specs.Prelude.{◌≡◌, ◌⊎◌, ℕ, List, ◌++◌, Result, Ok, Err, codes, decimal}
use Rattle.stream_options.specs.Config.{config_sentence}
use Rattle.stream_options.specs.declared.options.config.ConfigError.{ConfigError}
use Rattle.stream_options.specs.declared.options.config.ConfigError.TheVariants.{Seconds, Maxsize}
use Rattle.stream_options.specs.declared.options.config.StreamConfigOptions.{StreamConfigOptions}
use Rattle.test_notation.specs.Options.{sentence_form}

-- the text of a refusal
abbrev pub refusal_text : ConfigError → List ℕ
refusal_text (Seconds n) = codes "IDMP-DURATION must be between 1 and 86400 seconds, got: " ++ decimal n
refusal_text (Maxsize n) = codes "IDMP-MAXSIZE must be between 1 and 10000 entries, got: " ++ decimal n

-- the text of a refusal, with a remark if it prints another text
abbrev pub IsRefusalText : ConfigError → List ℕ → Type 0
IsRefusalText error text = (text ≡ refusal_text error)
    ⊎ (text ≡ refusal_text error ++ codes ", but another text is printed")

-- the arguments of the options that a call made, or the text of its refusal
abbrev pub IsConfigText : Result StreamConfigOptions ConfigError → List ℕ → Type 0
IsConfigText (Ok options) text = text ≡ sentence_form (config_sentence options)
IsConfigText (Err error) text = IsRefusalText error text
