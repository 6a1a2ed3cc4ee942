-- Each step of a ring, and its start, keeps it in range and sends frames in their format.
use Rattle.std.proofs.Common.{◌≡◌, ℕ, Bool, true, false, List, [], ◌∷◌, ◌++◌, None, IsTrue, refl, arith}
use Rattle.std.specs.Prelude.{All}
use Rattle.std.proofs.lemmas.Bool.{le-leb}
use Rattle.std.proofs.lemmas.List.Elements.{All-cons, All-nil}
use Rattle.world_rules.specs.Starts.{start_in}
use Rattle.fabric_terms.specs.declared.command.Command.{Command}
use Rattle.fabric_terms.specs.declared.config.FabricConfig.{FabricConfig}
use Rattle.fabric_terms.specs.declared.report.Report.TheVariants.{LeftRing, Own}
use Rattle.fabric_terms.specs.declared.report.Why.TheVariants.{Counters, Fence}
use Rattle.fabric_terms.specs.Sound.{IsSound}
use Rattle.join_phases.specs.declared.phases.Phase.{Phase}
use Rattle.join_phases.specs.Phases.{is_left, routing, seeking}
use Rattle.ring_points.specs.declared.interval.Interval.{Interval}
use Rattle.ring_points.specs.declared.who.Who.{Who}
use Rattle.ring_points.specs.Ranges.{fits, is_proper, whole_ring}
use Rattle.ring_points.specs.Whos.{same_who}
use Rattle.ring_rules.specs.declared.input.Input.{Input}
use Rattle.ring_rules.specs.declared.input.Input.TheVariants as input
use Rattle.ring_rules.specs.Frames.{passes}
use Rattle.ring_rules.specs.Owns.{own_of_ring}
use Rattle.ring_rules.specs.Rings.{Ring, Settings, Work, no_slots, settings_of}
use Rattle.ring_rules.specs.Slots.{fence_of, is_past}
use Rattle.ring_rules.specs.Starts.{begun, new_ring, node_started, start_first}
use Rattle.ring_rules.specs.Steps as rows
use Rattle.ring_rules.specs.Steps.{command_received, command_row, ring_step}
use Rattle.fabric_terms.specs.Fields.{is_stamp, is_who}
use Rattle.fabric_terms.specs.Ranges.{FitsCommand, IsNumber}
use Rattle.world_rules.specs.Schedules.{is_configured_node}
use Rattle.frames_fit.specs.Formats.{InputInFormat, ReportInRange, in_format}
use Rattle.frames_fit.specs.InRange.{IsInRange, KnownInRange}
use Rattle.frames_fit.proofs.Commands.{command_going}
use Rattle.frames_fit.proofs.Firing.{timer_done}
use Rattle.frames_fit.proofs.Frames.{frame_done}
use Rattle.frames_fit.proofs.Going.{Done, counts, leaves}
use Rattle.frames_fit.proofs.Places.{free_in_range}
use Rattle.frames_fit.proofs.Reporting.{own_fits}
use Rattle.frames_fit.proofs.Saying.{SettingsInRange}
use Rattle.frames_fit.proofs.Settled.{settings_in_range}

-- nothing sent yet
begins : (c : FabricConfig) (r : Ring) → IsInRange c r → Done c (begun r)
begins c r h = record { ring = h; sent = All-nil (λ m. IsTrue (in_format m)); told = All-nil ReportInRange }

module _ (c : FabricConfig) (sound : IsSound c) (set : Settings) (fine : SettingsInRange set) (now : ℕ) (reads : IsTrue (is_stamp now)) where
  command_done : (o : Command) → FitsCommand o → (w : Work) → Done c w → Done c (command_received set now o w)
  unfolding command_received
  command_done o h w d = counts c w (command_row set now o w) d (command_going c w (λ n. d) sound set fine now reads o h)

  input_done : (i : Input) → InputInFormat i → (w : Work) → Done c w → Done c (rows.input_taken set now i w)
  input_done input.Fire h w d = timer_done c sound set fine now reads w d
  input_done (input.Frame m) h w d = by_test (passes set w.ring m) refl
    where
      by_test : (b : Bool) → passes set w.ring m ≡ b → Done c (rows.frame_if set now m w b)
      by_test true e = frame_done c sound set fine now reads m h w d e
      by_test false e = d
  input_done (input.Do o) h w d = command_done o h w d

  step_done : (i : Input) → InputInFormat i → (r : Ring) → IsInRange c r → Done c (ring_step set now i r)
  unfolding ring_step
  step_done i h r k = by_left (is_left r.phase)
    where
      d : Done c (begun r)
      d = begins c r k

      by_fence : (b : Bool) → Done c (rows.before_fence set now i (begun r) b)
      by_fence true = leaves c (begun r) (λ n. d) Fence k.numbers
      by_fence false = input_done i h (begun r) d

      by_left : (b : Bool) → Done c (rows.step_if set now i (begun r) b)
      by_left true = d
      by_left false = by_fence (is_past now (fence_of set.answer r.slots))

pub ring_done : (c : FabricConfig) → IsSound c → (now : ℕ) → IsNumber now → (i : Input) → InputInFormat i → (r : Ring) → IsInRange c r →
    Done c (ring_step (settings_of c r.me.actor) now i r)
ring_done c sound now reads i h r k =
    step_done c sound (settings_of c r.me.actor) (settings_in_range c sound r.me.actor k.configured) now (le-leb now 1000000000000000 reads) i h r k

-- Its start.

new_in_range : (c : FabricConfig) (me : Who) (p : Phase) (ranges : List Interval) → IsTrue (is_who me) → is_configured_node c me.actor ≡ true →
    IsTrue (is_proper ranges) → IsTrue (fits ranges) → IsInRange c (new_ring c me p ranges)
new_in_range c me p ranges h k proper fit = record {
  me = h;
  configured = k;
  slots = free_in_range no_slots refl;
  numbers = refl;
  next_session = omega arith;
  next_flight = omega arith;
  token = record { ranges = proper; announced = fit; freeze = tt };
  frozen = refl;
  points = refl;
  known = All-nil KnownInRange;
  target = tt;
}

-- where an instance begins, whoever begins with the whole ring
pub started_in_range : (whole : Who) (c : FabricConfig) (me : Who) → IsTrue (is_who me) → is_configured_node c me.actor ≡ true →
    IsInRange c (start_in whole c me false).ring
started_in_range whole c me h k = by_first (same_who me whole)
  where
    by_first : (b : Bool) → IsInRange c (start_first c me b).ring
    by_first true = new_in_range c me routing whole_ring h k refl refl
    by_first false = new_in_range c me seeking [] h k refl refl

-- where all numbers of instances are spent, it has left
pub spent_left : (c : FabricConfig) (me : Who) → is_left (node_started c me true).ring.phase ≡ true
unfolding node_started
spent_left c me = refl

-- what is told at a start
pub started_told : (whole : Who) (c : FabricConfig) → IsSound c → (me : Who) (spent : Bool) → (spent ≡ false → IsTrue (is_who me)) →
    is_configured_node c me.actor ≡ true →
    All ReportInRange ((start_in whole c me spent).told ++ own_of_ring (settings_of c me.actor) (start_in whole c me spent).ring ∷ [])
unfolding node_started
started_told whole c sound me true h k =
    All-cons ReportInRange (LeftRing Counters) (Own [] None ∷ []) tt (All-cons ReportInRange (Own [] None) [] (refl, tt) (All-nil ReportInRange))
started_told whole c sound me false h k = by_first (same_who me whole)
  where
    one : (r : Ring) → IsInRange c r → All ReportInRange (own_of_ring (settings_of c me.actor) r ∷ [])
    one r m =
        All-cons ReportInRange (own_of_ring (settings_of c me.actor) r) [] (own_fits (settings_of c me.actor) sound.answer.to_high r m) (All-nil ReportInRange)

    by_first : (b : Bool) → All ReportInRange ((start_first c me b).told ++ own_of_ring (settings_of c me.actor) (start_first c me b).ring ∷ [])
    by_first true = one (new_ring c me routing whole_ring) (new_in_range c me routing whole_ring (h refl) k refl refl)
    by_first false = one (new_ring c me seeking []) (new_in_range c me seeking [] (h refl) k refl refl)
