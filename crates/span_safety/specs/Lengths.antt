-- What would give a node a link of another length than the configured one.
use Rattle.std.specs.Prelude.{◌≡◌, ℕ, Bool, true, false, ◌&&◌, ◌==◌, [], ◌∷◌, Option, Some, None}
use Rattle.fabric_terms.specs.declared.command.Command.{Command}
use Rattle.fabric_terms.specs.declared.command.Command.TheVariants.{LinkFor}
use Rattle.fabric_terms.specs.declared.config.FabricConfig.{FabricConfig}
use Rattle.fabric_terms.specs.declared.event.Event.{Event}
use Rattle.fabric_terms.specs.declared.event.Event.TheVariants as event
use Rattle.fabric_terms.specs.declared.message.Body.{Body}
use Rattle.fabric_terms.specs.declared.message.Body.TheVariants.{HelloFor, OfferFor}
use Rattle.fabric_terms.specs.declared.message.Message.{Message}
use Rattle.ring_rules.specs.declared.input.Input.{Input}
use Rattle.ring_rules.specs.declared.input.Input.TheVariants.{Fire, Frame, Do}
use Rattle.world_rules.specs.Uppers.{Upper}
use Rattle.world_rules.specs.Worlds.{World, frame_in}
use Rattle.cold_start.specs.Lives.{Lives, Comes, Again, lives_world}

-- a Hello or an Offer that names a length
abbrev pub names_length : Body → Bool
names_length (HelloFor mine length) = true
names_length (OfferFor mine yours length) = true
names_length _ = false

-- a link is commanded with a length
abbrev pub commands_length : Command → Bool
commands_length (LinkFor node length) = true
commands_length _ = false

abbrev pub gives_length : Input → Bool
gives_length Fire = false
gives_length (Frame m) = names_length m.body
gives_length (Do command) = commands_length command

-- such a frame comes to the node, or such a command

abbrev pub frame_brings : (node : ℕ) → Option Message → Bool
frame_brings node None = false
frame_brings node (Some m) = m.to.actor == node && names_length m.body

abbrev pub brings_length : {a : Upper} → World a → (node : ℕ) → Event → Bool
brings_length w node (event.Give frame) = frame_brings node (frame_in w frame)
brings_length w node (event.Do other command) = other == node && commands_length command
brings_length w node _ = false

abbrev pub begins : (node : ℕ) → Event → Bool
begins node (event.Start other (Some reading)) = other == node
begins node _ = false

-- Since the node's last start nothing came to it that names a length. So all links of its present instance have one length.

abbrev pub UnlessBegun : Bool → Type 0 → Type 0
UnlessBegun true Before = Unit {0}
UnlessBegun false Before = Before

abbrev pub OneLength : (a : Upper) → FabricConfig → (node : ℕ) → Lives → Type 0
OneLength a c node [] = Unit {0}
OneLength a c node ((line, Comes e) ∷ l) =
    UnlessBegun (begins node e) ((brings_length (lives_world a c l) node e ≡ false) × OneLength a c node l)
OneLength a c node ((line, Again whole) ∷ l) = OneLength a c node l
