-- A row above the ring that comes first is that of the whole step: the ring's own row of the same input changes nothing that
-- it reads, and makes the node leave exactly where it does not act any more.
use Rattle.std.proofs.Common.{◌≡◌, ℕ, Bool, true, false, not, ◌&&◌, refl, sym, ap, ◌∙◌}
use Rattle.std.specs.Prelude.{◌==◌, is_some}
use Rattle.std.proofs.lemmas.List.{append-nil}
use Rattle.fabric_terms.specs.declared.command.Command.{Command}
use Rattle.fabric_terms.specs.declared.command.Command.TheVariants as command
use Rattle.fabric_terms.specs.declared.message.Body.{Body}
use Rattle.fabric_terms.specs.declared.message.Body.TheVariants as body
use Rattle.fabric_terms.specs.declared.message.Message.{Message}
use Rattle.join_phases.specs.Phases.{is_left}
use Rattle.ring_points.specs.declared.who.Who.{Who}
use Rattle.ring_rules.specs.declared.input.Input.{Input}
use Rattle.ring_rules.specs.declared.input.Input.TheVariants as input
use Rattle.ring_rules.specs.Deeds.{has_numbers}
use Rattle.ring_rules.specs.Frames.{frame_received, heard_if, is_node, passes, sender_heard}
use Rattle.ring_rules.specs.Rings.{Ring, Settings, Work}
use Rattle.ring_rules.specs.Slots.{fence_of, is_past}
use Rattle.ring_rules.specs.Starts.{begun}
use Rattle.ring_rules.specs.Steps.{before_fence, command_received, frame_if, input_taken, ring_step, step_if}
use Rattle.ring_rules.proofs.Rows.{command_received-is, frame_received-is, ring_step-is}
use Rattle.world_rules.specs.Nodes.{comes_above}
use Rattle.reconfig_phases.specs.Answers.{answered_unit}
use Rattle.unit_desk.specs.UnitEffects.{Does}
use Rattle.unit_desk.specs.declared.unit_effects.UnitEffects.{UnitEffects}
use Rattle.unit_rules.specs.Deeds.{Acted, still}
use Rattle.unit_rules.specs.Loads.{Site}
use Rattle.unit_rules.specs.Steps.{Failover, command_row, failover_step, frame_row}
use Rattle.node_core.specs.UnitParts.{is_above, is_later, is_to_replica}
use Rattle.node_core.specs.Rows.{comes_first, row_if}

-- which inputs are above the ring at all

abbrev unit_command : Command → Bool
unit_command (command.Create partition count) = true
unit_command (command.Swap partition node) = true
unit_command (command.Heal partition count) = true
unit_command (command.Lose partition node) = true
unit_command (command.Write partition text) = true
unit_command (command.Units range) = true
unit_command (command.Resolve partition name) = true
unit_command (command.Names partition range) = true
unit_command _ = false

-- the ring has no row for them

command_idle : (c : Settings) (now : ℕ) (d : Command) (r : Ring) → has_numbers r ≡ true → unit_command d ≡ true → (command_received c now d (begun r)).ring ≡ r
command_idle c now (command.Create partition count) r n u = rw (command_received-is c now (command.Create partition count) (begun r), n) refl
command_idle c now (command.Swap partition node) r n u = rw (command_received-is c now (command.Swap partition node) (begun r), n) refl
command_idle c now (command.Heal partition count) r n u = rw (command_received-is c now (command.Heal partition count) (begun r), n) refl
command_idle c now (command.Lose partition node) r n u = rw (command_received-is c now (command.Lose partition node) (begun r), n) refl
command_idle c now (command.Write partition text) r n u = rw (command_received-is c now (command.Write partition text) (begun r), n) refl
command_idle c now (command.Units range) r n u = rw (command_received-is c now (command.Units range) (begun r), n) refl
command_idle c now (command.Resolve partition name) r n u = rw (command_received-is c now (command.Resolve partition name) (begun r), n) refl
command_idle c now (command.Names partition range) r n u = rw (command_received-is c now (command.Names partition range) (begun r), n) refl
command_idle c now d r n u = absurd (cc (u))

frame_idle : (c : Settings) (now : ℕ) (x : Who) (b : Body) (w : Work) → has_numbers w.ring ≡ true → is_to_replica b ≡ true → frame_received c now x b w ≡ w
frame_idle c now x (body.Promise partition epoch) w n u = rw (frame_received-is c now x (body.Promise partition epoch) w, n) refl
frame_idle c now x (body.Sync partition epoch origin last) w n u = rw (frame_received-is c now x (body.Sync partition epoch origin last) w, n) refl
frame_idle c now x (body.Fetch partition epoch lsn) w n u = rw (frame_received-is c now x (body.Fetch partition epoch lsn) w, n) refl
frame_idle c now x (body.Piece partition epoch lsn entry text) w n u = rw (frame_received-is c now x (body.Piece partition epoch lsn entry text) w, n) refl
frame_idle c now x (body.Activate config) w n u = rw (frame_received-is c now x (body.Activate config) w, n) refl
frame_idle c now x (body.Append partition epoch lsn text) w n u = rw (frame_received-is c now x (body.Append partition epoch lsn text) w, n) refl
frame_idle c now x (body.Appended partition epoch last) w n u = rw (frame_received-is c now x (body.Appended partition epoch last) w, n) refl
frame_idle c now x b w n u = absurd (cc (u))

-- who is heard changes of a ring only its routes
heard_numbers : (now : ℕ) (x : Who) (w : Work) (b : Bool) → has_numbers (heard_if now x w b).ring ≡ has_numbers w.ring
heard_numbers now x w true = refl
heard_numbers now x w false = refl

heard_phase : (now : ℕ) (x : Who) (w : Work) (b : Bool) → (heard_if now x w b).ring.phase ≡ w.ring.phase
heard_phase now x w true = refl
heard_phase now x w false = refl

heard_me : (now : ℕ) (x : Who) (w : Work) (b : Bool) → (heard_if now x w b).ring.me ≡ w.ring.me
heard_me now x w true = refl
heard_me now x w false = refl

-- What a row above the ring reads.

-- of another ring of the same node a row that is no answer makes the same
frame_same : (c : Site) (now : ℕ) (r q : Ring) (x : Who) (b : Body) (s : Failover) → is_some (answered_unit b) ≡ false → q.me ≡ r.me → frame_row c now q x b s ≡ frame_row c now r x b s
frame_same c now r q x (body.Sync partition epoch origin last) s a m = ap (λ (w : Who). frame_row c now (record r { me = w }) x (body.Sync partition epoch origin last) s) m
frame_same c now r q x (body.Activate config) s a m = ap (λ (w : Who). frame_row c now (record r { me = w }) x (body.Activate config) s) m
frame_same c now r q x (body.Prepared partition epoch old) s a m = absurd (cc (a))
frame_same c now r q x (body.NoPrepare partition epoch kept) s a m = absurd (cc (a))
frame_same c now r q x (body.Voted partition epoch first) s a m = absurd (cc (a))
frame_same c now r q x (body.NoVote partition epoch kept) s a m = absurd (cc (a))
frame_same c now r q x (body.DoneKept partition epoch) s a m = absurd (cc (a))
frame_same c now r q x (body.NoDone partition epoch kept) s a m = absurd (cc (a))
frame_same c now r q x (body.Promised partition epoch at last) s a m = absurd (cc (a))
frame_same c now r q x (body.Adopted partition epoch last) s a m = absurd (cc (a))
frame_same c now r q x (body.Activated partition epoch) s a m = absurd (cc (a))
frame_same c now r q x (body.Older partition epoch kept) s a m = absurd (cc (a))
frame_same c now r q x b s a m = refl

-- a frame of the ring is none of the rows above
frame_still : (c : Site) (now : ℕ) (r : Ring) (x : Who) (b : Body) (s : Failover) → is_some (answered_unit b) ≡ false → is_to_replica b ≡ false → frame_row c now r x b s ≡ still s
frame_still c now r x (body.Promise partition epoch) s a u = absurd (cc (u))
frame_still c now r x (body.Sync partition epoch origin last) s a u = absurd (cc (u))
frame_still c now r x (body.Fetch partition epoch lsn) s a u = absurd (cc (u))
frame_still c now r x (body.Piece partition epoch lsn entry_epoch text) s a u = absurd (cc (u))
frame_still c now r x (body.Activate config) s a u = absurd (cc (u))
frame_still c now r x (body.Append partition epoch lsn text) s a u = absurd (cc (u))
frame_still c now r x (body.Appended partition epoch last) s a u = absurd (cc (u))
frame_still c now r x (body.Prepared partition epoch old) s a u = absurd (cc (a))
frame_still c now r x (body.NoPrepare partition epoch kept) s a u = absurd (cc (a))
frame_still c now r x (body.Voted partition epoch first) s a u = absurd (cc (a))
frame_still c now r x (body.NoVote partition epoch kept) s a u = absurd (cc (a))
frame_still c now r x (body.DoneKept partition epoch) s a u = absurd (cc (a))
frame_still c now r x (body.NoDone partition epoch kept) s a u = absurd (cc (a))
frame_still c now r x (body.Promised partition epoch at last) s a u = absurd (cc (a))
frame_still c now r x (body.Adopted partition epoch last) s a u = absurd (cc (a))
frame_still c now r x (body.Activated partition epoch) s a u = absurd (cc (a))
frame_still c now r x (body.Older partition epoch kept) s a u = absurd (cc (a))
frame_still c now r x b s a u = refl

command_still : (c : Site) (now : ℕ) (r : Ring) (d : Command) (s : Failover) → unit_command d ≡ false → command_row c now r d s ≡ still s
command_still c now r (command.Create partition count) s u = absurd (cc (u))
command_still c now r (command.Swap partition node) s u = absurd (cc (u))
command_still c now r (command.Heal partition count) s u = absurd (cc (u))
command_still c now r (command.Lose partition node) s u = absurd (cc (u))
command_still c now r (command.Write partition text) s u = absurd (cc (u))
command_still c now r (command.Units range) s u = absurd (cc (u))
command_still c now r (command.Resolve partition name) s u = absurd (cc (u))
command_still c now r (command.Names partition range) s u = absurd (cc (u))
command_still c now r d s u = refl

-- whether it comes above or not

frame_still_if : (c : Site) (now : ℕ) (r : Ring) (m : Message) (s : Failover) (comes : Bool) → is_some (answered_unit m.body) ≡ false → is_to_replica m.body ≡ false → row_if comes c now r s (input.Frame m) ≡ still s
unfolding failover_step
frame_still_if c now r m s true a u = frame_still c now r m.from m.body s a u
frame_still_if c now r m s false a u = refl

-- an input that has no row above leaves what is there
pub nothing_above : (c : Site) (now : ℕ) (r : Ring) (s : Failover) (i : Input) (comes : Bool) → is_later i ≡ false → is_above i ≡ false → row_if comes c now r s i ≡ still s
nothing_above c now r s input.Fire comes a u = absurd (cc (a))
nothing_above c now r s (input.Frame m) comes a u = frame_still_if c now r m s comes a u
nothing_above c now r s (input.Do d) comes a u = absurd (cc (u))

-- one that the ring does not let come leaves it too
pub not_acting : (c : Site) (now : ℕ) (r : Ring) (s : Failover) (i : Input) (acts lets : Bool) → acts ≡ false → row_if (acts && lets) c now r s i ≡ still s
not_acting c now r s i acts lets e = ap (λ (b : Bool). row_if (b && lets) c now r s i) e

pub not_let : (c : Site) (now : ℕ) (r : Ring) (s : Failover) (i : Input) (acts lets : Bool) → lets ≡ false → row_if (acts && lets) c now r s i ≡ still s
not_let c now r s i true lets e = ap (λ (b : Bool). row_if b c now r s i) e
not_let c now r s i false lets e = refl

-- and nothing is left in the effects
pub leaves_none : (c : Site) (now : ℕ) (r : Ring) (s : Failover) (i : Input) (comes : Bool) (d : UnitEffects) → row_if comes c now r s i ≡ still s → Does (row_if comes c now r s i) s d d
leaves_none c now r s i comes d e = rw e (record { state = refl; left = record { records = sym (append-nil d.records); sent = sym (append-nil d.out); told = sym (append-nil d.told) } })

command_still_if : (c : Site) (now : ℕ) (r : Ring) (d : Command) (s : Failover) (comes : Bool) → unit_command d ≡ false → row_if comes c now r s (input.Do d) ≡ still s
unfolding failover_step
command_still_if c now r d s true u = command_still c now r d s u
command_still_if c now r d s false u = refl

frame_same_if : (c : Site) (now : ℕ) (r q : Ring) (m : Message) (s : Failover) (comes : Bool) → is_some (answered_unit m.body) ≡ false → q.me ≡ r.me → row_if comes c now q s (input.Frame m) ≡ row_if comes c now r s (input.Frame m)
unfolding failover_step
frame_same_if c now r q m s true a e = frame_same c now r q m.from m.body s a e
frame_same_if c now r q m s false a e = refl

-- The row of the whole step.

-- the row above after the ring's own, where that made this
abbrev row_after : Settings → Site → ℕ → Ring → Failover → Input → Work → Acted Failover
row_after c site now r s i k = row_if (not (is_left k.ring.phase) && comes_above c r i) site now k.ring s i

never : (c : Site) (now : ℕ) (r : Ring) (s : Failover) (i : Input) (b : Bool) → row_if (b && false) c now r s i ≡ still s
never c now r s i true = refl
never c now r s i false = refl

command_first : (c : Settings) (site : Site) (now : ℕ) (r : Ring) (s : Failover) (d : Command) (u : Bool) → unit_command d ≡ u → has_numbers r ≡ true → is_left r.phase ≡ false
    → row_after c site now r s (input.Do d) (command_received c now d (begun r)) ≡ row_if true site now r s (input.Do d)
command_first c site now r s d true e n l = rw (command_idle c now d r n e, l) refl
command_first c site now r s d false e n l =
    command_still_if site now (command_received c now d (begun r)).ring d s (not (is_left (command_received c now d (begun r)).ring.phase) && true) e
    ∙ sym (command_still_if site now r d s true e)

frame_first_if : (c : Settings) (site : Site) (now : ℕ) (r : Ring) (s : Failover) (m : Message) (u : Bool) → is_to_replica m.body ≡ u → is_some (answered_unit m.body) ≡ false → has_numbers r ≡ true → is_left r.phase ≡ false
    → (k : Work) → k ≡ frame_received c now m.from m.body (sender_heard now m.from (begun r))
    → row_if (not (is_left k.ring.phase) && true) site now k.ring s (input.Frame m) ≡ row_if true site now r s (input.Frame m)
frame_first_if c site now r s m true e a n l k is =
    let heard : Bool = is_node r m.from.actor && not (m.from.actor == r.me.actor) in
    let w : Work = sender_heard now m.from (begun r) in
    let idle : k ≡ w = is ∙ frame_idle c now m.from m.body w (heard_numbers now m.from (begun r) heard ∙ n) e in
    let stays : is_left k.ring.phase ≡ false = ap (λ (v : Work). is_left v.ring.phase) idle ∙ ap is_left (heard_phase now m.from (begun r) heard) ∙ l in
    let me : k.ring.me ≡ r.me = ap (λ (v : Work). v.ring.me) idle ∙ heard_me now m.from (begun r) heard in
    ap (λ (b : Bool). row_if (not b && true) site now k.ring s (input.Frame m)) stays ∙ frame_same_if site now r k.ring m s true a me
frame_first_if c site now r s m false e a n l k is =
    frame_still_if site now k.ring m s (not (is_left k.ring.phase) && true) a e ∙ sym (frame_still_if site now r m s true a e)

frame_first : (c : Settings) (site : Site) (now : ℕ) (r : Ring) (s : Failover) (m : Message) (comes : Bool) → is_some (answered_unit m.body) ≡ false → has_numbers r ≡ true → is_left r.phase ≡ false
    → row_if (not (is_left (frame_if c now m (begun r) comes).ring.phase) && comes) site now (frame_if c now m (begun r) comes).ring s (input.Frame m) ≡ row_if comes site now r s (input.Frame m)
frame_first c site now r s m true a n l = frame_first_if c site now r s m (is_to_replica m.body) refl a n l (frame_received c now m.from m.body (sender_heard now m.from (begun r))) refl
frame_first c site now r s m false a n l = never site now r s (input.Frame m) (not (is_left r.phase))

input_first : (c : Settings) (site : Site) (now : ℕ) (r : Ring) (s : Failover) (i : Input) → is_later i ≡ false → has_numbers r ≡ true → is_left r.phase ≡ false
    → row_after c site now r s i (input_taken c now i (begun r)) ≡ row_if (comes_above c r i) site now r s i
input_first c site now r s input.Fire a n l = absurd (cc (a))
input_first c site now r s (input.Frame m) a n l = frame_first c site now r s m (passes c r m) a n l
input_first c site now r s (input.Do d) a n l = command_first c site now r s d (unit_command d) refl n l

fence_first : (c : Settings) (site : Site) (now : ℕ) (r : Ring) (s : Failover) (i : Input) (past : Bool) → is_later i ≡ false → has_numbers r ≡ true → is_left r.phase ≡ false
    → row_after c site now r s i (before_fence c now i (begun r) past) ≡ row_if (not past && comes_above c r i) site now r s i
fence_first c site now r s i true a n l = refl
fence_first c site now r s i false a n l = input_first c site now r s i a n l

step_first : (c : Settings) (site : Site) (now : ℕ) (r : Ring) (s : Failover) (i : Input) (left : Bool) → is_left r.phase ≡ left → is_later i ≡ false → has_numbers r ≡ true
    → row_after c site now r s i (step_if c now i (begun r) left) ≡ row_if ((not left && not (is_past now (fence_of c.answer r.slots))) && comes_above c r i) site now r s i
step_first c site now r s i true l a n = rw (l) refl
step_first c site now r s i false l a n = fence_first c site now r s i (is_past now (fence_of c.answer r.slots)) a n l

-- a row that comes first is that of the step
pub row_first : (c : Settings) (site : Site) (now : ℕ) (r : Ring) (s : Failover) (i : Input) → is_later i ≡ false → has_numbers r ≡ true
    → row_after c site now r s i (ring_step c now i r) ≡ row_if (comes_first c now r i) site now r s i
row_first c site now r s i a n =
    ap (row_after c site now r s i) (ring_step-is c now i r) ∙ step_first c site now r s i (is_left r.phase) refl a n
