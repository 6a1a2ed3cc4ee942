-- The line that names a status.
use Rattle.std.specs.Prelude.{ℕ, List, [], ◌∷◌, ◌++◌, codes, decimal}
use Rattle.fabric_config.specs.Words.{words_of}
use Rattle.text_fields.specs.Texts.{spaced}
use Rattle.fabric_status.specs.declared.status.Status.{Status}
use Rattle.fabric_status.specs.declared.status.Status.TheVariants as status

abbrev pub fault : List (List ℕ) → List ℕ
fault words = spaced (codes "fault" ∷ words) ++ codes "\n"

-- the last line at a status, where it has one
abbrev pub fault_line : Status → List ℕ
fault_line status.Ok = []
fault_line status.OutOfMemory = []
fault_line status.Usage = fault (codes "usage" ∷ [])
fault_line status.ReadFault = fault (codes "read" ∷ [])
fault_line status.WriteFault = []
fault_line (status.BadConfig e) = fault (codes "config" ∷ words_of e ∷ [])
fault_line (status.BadLine n) = fault (codes "line" ∷ decimal n ∷ [])
fault_line (status.DriftBroken n) = fault (codes "drift" ∷ decimal n ∷ [])
fault_line (status.NoSuch n) = fault (codes "nosuch" ∷ decimal n ∷ [])
fault_line (status.TooLarge n) = fault (codes "large" ∷ decimal n ∷ [])
fault_line status.KeepFault = fault (codes "keep" ∷ [])
fault_line status.LinkFault = fault (codes "link" ∷ [])
fault_line (status.ClockBack former latter) = fault (codes "clock" ∷ decimal former ∷ decimal latter ∷ [])
fault_line (status.Left why) = []
fault_line (status.BadKeep i) = fault (codes "record" ∷ decimal i ∷ [])
fault_line status.TableFull = fault (codes "table" ∷ [])
