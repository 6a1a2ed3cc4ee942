-- The place that frames are read into.
use Rattle.std.specs.Prelude.{Bool, true, false}
use Rattle.ring_rules.specs.declared.input.Input.{Input}
use Rattle.ring_rules.specs.declared.input.Input.TheVariants.{Fire, Frame, Do}

-- the input is a frame
abbrev pub holds_frame : Input → Bool
holds_frame Fire = false
holds_frame (Frame m) = true
holds_frame (Do d) = false
