-- The whole step of the ring at a node: whether it has left or must leave, and the row of the input.
use Rattle.std.specs.Prelude.{ℕ, Bool, true, false, min}
use Rattle.fabric_terms.specs.declared.command.Command.{Command}
use Rattle.fabric_terms.specs.declared.command.Command.TheVariants as command
use Rattle.fabric_terms.specs.declared.message.Message.{Message}
use Rattle.fabric_terms.specs.declared.report.Why.TheVariants.{Fence}
use Rattle.join_phases.specs.Phases.{is_left}
use Rattle.ring_rules.specs.declared.input.Input.{Input}
use Rattle.ring_rules.specs.declared.input.Input.TheVariants as input
use Rattle.ring_rules.specs.Rings.{Settings, Ring, Work, ◌▷◌}
use Rattle.ring_rules.specs.Slots.{fence_of, is_past}
use Rattle.ring_rules.specs.Deeds.{leave, counted}
use Rattle.ring_rules.specs.Commands.{link_commanded, part_commanded, give_commanded, join_commanded}
use Rattle.ring_rules.specs.Seeks.{find_commanded}
use Rattle.ring_rules.specs.Firing.{timer_fired}
use Rattle.ring_rules.specs.Starts.{begun}
use Rattle.ring_rules.specs.Frames.{passes, sender_heard, frame_received}

-- The row of a frame that passes.
abbrev pub frame_if : Settings → ℕ → Message → Work → Bool → Work
frame_if c now m w true = w ▷ sender_heard now m.from ▷ frame_received c now m.from m.body
frame_if c now m w false = w

-- The row of a command; another command is not the ring's.
abbrev pub command_row : Settings → ℕ → Command → Work → Work
command_row c now (command.Link node) w = link_commanded c now node 1 c.lease w
command_row c now (command.LinkFor node length) w = link_commanded c now node 2 (min length c.longest) w
command_row c now (command.Part node) w = part_commanded node w
command_row c now (command.GiveNear node) w = give_commanded false node w
command_row c now (command.GiveAll node) w = give_commanded true node w
command_row c now (command.Join node) w = join_commanded node w
command_row c now (command.Find key) w = find_commanded key w
command_row c now _ w = w

unfoldable pub command_received : Settings → ℕ → Command → Work → Work
command_received c now d w = counted w (command_row c now d w)

abbrev pub input_taken : Settings → ℕ → Input → Work → Work
input_taken c now input.Fire w = timer_fired c now w
input_taken c now (input.Frame m) w = frame_if c now m w (passes c w.ring m)
input_taken c now (input.Do d) w = command_received c now d w

-- A node that has left does nothing. One whose reading has reached its fence leaves, whatever comes.

abbrev pub before_fence : Settings → ℕ → Input → Work → Bool → Work
before_fence c now i w true = leave Fence w
before_fence c now i w false = input_taken c now i w

abbrev pub step_if : Settings → ℕ → Input → Work → Bool → Work
step_if c now i w true = w
step_if c now i w false = before_fence c now i w (is_past now (fence_of c.answer w.ring.slots))

unfoldable pub ring_step : Settings → ℕ → Input → Ring → Work
ring_step c now i r = step_if c now i (begun r) (is_left r.phase)
