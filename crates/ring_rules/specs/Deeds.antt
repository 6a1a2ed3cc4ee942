-- What rows are made of.
use Rattle.std.specs.Prelude.{ℕ, ◌+◌, Bool, true, false, ◌&&◌, [], ◌∷◌, ◌++◌, Option, Some, None, ◌==◌, nat_le, slice_set}
use Rattle.ring_points.specs.declared.who.Who.{Who}
use Rattle.fabric_terms.specs.declared.message.Body.{Body}
use Rattle.fabric_terms.specs.declared.message.Body.TheVariants.{Gone}
use Rattle.fabric_terms.specs.declared.report.Report.{Report}
use Rattle.fabric_terms.specs.declared.report.Report.TheVariants.{LeftRing, Refused}
use Rattle.fabric_terms.specs.declared.report.Reason.{Reason}
use Rattle.fabric_terms.specs.declared.report.Verb.{Verb}
use Rattle.fabric_terms.specs.declared.report.Why.{Why}
use Rattle.fabric_terms.specs.declared.report.Why.TheVariants.{Counters}
use Rattle.join_phases.specs.declared.phases.Phase.{Phase}
use Rattle.join_phases.specs.Phases.{left, is_left}
use Rattle.token_core.specs.Tokens.{Freeze, Token, last_number, unfrozen}
use Rattle.ring_rules.specs.declared.link.Link.{Link}
use Rattle.ring_rules.specs.declared.link.LinkState.{LinkState}
use Rattle.ring_rules.specs.Rings.{Ring, Work, no_slots, ◌▷◌}
use Rattle.ring_rules.specs.Slots.{slot_at, slot_where, of_session}

-- a change of the ring alone
abbrev pub on_ring : (Ring → Ring) → Work → Work
on_ring change w = record w { ring = change w.ring }

-- the place has this link
abbrev pub put_slot : ℕ → Link → Work → Work
put_slot i l w = on_ring (λ r. record r { slots = slice_set r.slots i (Some l) }) w

-- the place is free
abbrev pub drop_slot : ℕ → Work → Work
drop_slot i w = on_ring (λ r. record r { slots = slice_set r.slots i None }) w

abbrev pub set_token : Token → Work → Work
set_token t w = on_ring (λ r. record r { token = t }) w

abbrev pub set_phase : (Phase → Phase) → Work → Work
set_phase next w = on_ring (λ r. record r { phase = next r.phase }) w

-- a frame is sent to this actor
abbrev pub send : Who → Body → Work → Work
send to b w = record w { sent = w.sent ++ (to, b) ∷ [] }

-- a report is made
abbrev pub tell : Report → Work → Work
tell r w = record w { told = w.told ++ r ∷ [] }

-- a command is refused
abbrev pub refuse : Verb → Reason → Work → Work
refuse verb reason w = tell (Refused verb reason) w

-- a freeze for the slot is undone

abbrev pub undone_if : Token → Bool → Token
undone_if t true = unfrozen t
undone_if t false = t

abbrev pub undone_at : ℕ → Token → Option Freeze → Token
undone_at i t None = t
undone_at i t (Some z) = undone_if t (z.slot == i)

abbrev pub undone : ℕ → Token → Token
undone i t = undone_at i t t.freeze

abbrev pub undo_freeze : ℕ → Work → Work
undo_freeze i w = set_token (undone i w.ring.token) w

-- A node that leaves owns nothing and has no links any more.
abbrev pub leave : Why → Work → Work
leave why w =
    w
    ▷ on_ring (λ r. record r { phase = left why; slots = no_slots; token = record r.token { ranges = []; freeze = None } })
    ▷ tell (LeftRing why)

-- what comes after in the step, where the node has not left
abbrev pub then_if : (Work → Work) → Work → Bool → Work
then_if next w true = w
then_if next w false = next w

abbrev pub then_unless_left : (Work → Work) → Work → Work
then_unless_left next w = then_if next w (is_left w.ring.phase)

-- The rule on counters: a row that would need a number past the last is not done at all, and the node leaves.

-- no version, session or flight has a number past the last
abbrev pub has_numbers : Ring → Bool
has_numbers r = nat_le r.token.version last_number && nat_le r.next_session (last_number + 1) && nat_le r.token.next_flight (last_number + 1)

abbrev pub counted_if : Work → Work → Bool → Work
counted_if old new true = new
counted_if old new false = leave Counters old

-- the step after a row, from the one before it
abbrev pub counted : Work → Work → Work
counted old new = counted_if old new (has_numbers new.ring)

-- The look-up of a session, once for all frames of sessions.

-- what a frame does in its session, by the place, the link and the link's state
abbrev pub SessionRow : Type 0
SessionRow = ℕ → Link → LinkState → Work → Work

abbrev pub in_slot : SessionRow → ℕ → Option Link → Work → Work
in_slot row i None w = w
in_slot row i (Some l) w = row i l l.state w

abbrev pub in_found : SessionRow → (Work → Work) → Option ℕ → Work → Work
in_found row none None w = none w
in_found row none (Some i) w = in_slot row i (slot_at i w.ring.slots) w

-- in the session of the sender in which its number is `theirs` and the own one is `own`; `none` is done where no slot has it
abbrev pub in_session : Who → ℕ → ℕ → SessionRow → (Work → Work) → Work → Work
in_session from theirs own row none w = in_found row none (slot_where (of_session from own theirs) w.ring.slots) w

-- the answer in no session
abbrev pub answer_unknown : Who → ℕ → ℕ → Work → Work
answer_unknown from theirs own w = send from (Gone own theirs 0 false) w

-- what a slot that parts says: it has no record, it took so much, and it is still bound
abbrev pub say_gone : Link → Work → Work
say_gone l w = send l.peer (Gone l.mine l.yours l.got true) w
