-- An arbitrator's registers are what its records amount to, whatever it is asked.
use Rattle.std.specs.Prelude.{◌≡◌, refl, Bool, true, false, Option, Some, None, if◌then◌else◌}
use Rattle.ring_points.specs.declared.unit.Config.{Config}
use Rattle.ring_points.specs.declared.who.Who.{Who}
use Rattle.fabric_terms.specs.declared.message.Body.TheVariants as body
use Rattle.unit_rules.specs.Deeds.{records_of}
use Rattle.unit_rules.specs.Registers.{Registers, Reply, register_of, registers_after, is_above, is_below, is_prepared_for, vote_in, vote_settled, is_newer, prepare_received, vote_received, done_received, replied}
use Rattle.unit_rules.specs.Laws.{RegisterIsRecorded}

-- the registers after a reply are those after what was recorded with it
abbrev IsRecorded : Who → Registers → Reply → Type 0
IsRecorded asker rs r = (replied asker rs (Some r)).state ≡ registers_after rs (records_of (replied asker rs (Some r)).deeds)

-- of two replies, whichever is given
either :
    (asker : Who) (rs : Registers) (test : Bool) (a b : Reply)
    → IsRecorded asker rs a → IsRecorded asker rs b → IsRecorded asker rs (if test then a else b)
either asker rs true a b first second = first
either asker rs false a b first second = second

settled : (config : Config) (asker : Who) (rs : Registers) (vote : Option Config) → IsRecorded asker rs (vote_settled config vote)
settled config asker rs (Some first) = refl
settled config asker rs None = refl

pub registers_are_recorded : RegisterIsRecorded
unfolding prepare_received vote_received done_received
registers_are_recorded (body.Prepare partition epoch) asker rs =
    either asker rs (is_above (register_of partition rs).prepared epoch) _ _ refl
    (either asker rs (is_prepared_for (register_of partition rs).prepared epoch asker) _ _ refl refl)
registers_are_recorded (body.Vote config) asker rs =
    either asker rs (is_below (register_of config.partition rs).prepared config.epoch) _ _ refl
    (settled config asker rs (vote_in config.epoch (register_of config.partition rs).votes))
registers_are_recorded (body.DoneAsk config) asker rs =
    either asker rs (is_below (register_of config.partition rs).prepared config.epoch) _ _ refl
    (either asker rs (is_newer config.epoch (register_of config.partition rs).done) _ _ refl refl)
registers_are_recorded _ asker rs = refl
