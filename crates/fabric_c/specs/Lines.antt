-- Frames and records as lines: their bytes in digits, two a byte, and then what they are.
use Rattle.std.specs.Prelude.{ℕ, List, [], ◌∷◌, Option, option_map}
use Rattle.fabric_terms.specs.declared.message.Message.{Message}
use Rattle.fabric_terms.specs.declared.record.Record.{Record}
use Rattle.frame_format.specs.Kinds.{message_of}
use Rattle.hex.specs.Hex.{encode_lower}
use Rattle.keep_log.specs.Readings.{record_of}
use Rattle.text_fields.specs.Instances.{who_text}
use Rattle.text_fields.specs.Texts.{spaced}
use Rattle.fabric_c.specs.Names.{frame_name, record_name}

-- the name of the message, who sends it and to whom
abbrev pub frame_words : List ℕ → Message → List ℕ
frame_words bytes m = spaced (encode_lower bytes ∷ frame_name m.body ∷ who_text m.from ∷ who_text m.to ∷ [])

-- the line of a frame, where the bytes are one
abbrev pub frame_line : List ℕ → Option (List ℕ)
frame_line bytes = option_map (frame_words bytes) (message_of bytes)

abbrev pub record_words : List ℕ → List ℕ → List ℕ
record_words bytes name = spaced (encode_lower bytes ∷ name ∷ [])

-- the name of what was read as a record
abbrev pub named : Option Record → Option (List ℕ)
named kept = option_map record_name kept

-- the line of a record, where the bytes are one
abbrev pub record_line : List ℕ → Option (List ℕ)
record_line bytes = option_map (record_words bytes) (named (record_of bytes))
