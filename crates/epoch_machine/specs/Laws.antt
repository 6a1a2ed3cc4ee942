-- The laws of the machine, over every valid history.
use Rattle.std.specs.Prelude.{◌≡◌, ℕ, ◌<◌, ◌≤◌, List, ◌∷◌, ◌++◌, length, take, Some}
use Rattle.fabric_lemmas.specs.Members.{IsMember}
use Rattle.epoch_machine.specs.Logs.{Entry}
use Rattle.epoch_machine.specs.Settings.{Settings, IsSound}
use Rattle.epoch_machine.specs.Plans.{Plan, Role}
use Rattle.epoch_machine.specs.World.{TellsPrimary, TellsCommitted, World}
use Rattle.epoch_machine.specs.Deeds.{Deed, BecomesPrimary, Commits}
use Rattle.epoch_machine.specs.Histories.{Valid, world_after}
use Rattle.epoch_machine.specs.SoundReports.{NoneOlder}
use Rattle.epoch_machine.specs.Invariant.{Invariant}

-- the fact holds of the world after every valid history
abbrev pub Always : (Settings → World → Type 0) → Type 0
Always Fact = (c : Settings) (deeds : List Deed) → IsSound c → Valid c deeds → Fact c (world_after deeds)

-- two reports IsPrimary of one epoch come from one node
abbrev pub OnePrimary : Type 0
OnePrimary = Always (λ c w. (x y e : ℕ) (l m : List Entry) → IsMember (TellsPrimary x e l) w.told → IsMember (TellsPrimary y e m) w.told → x ≡ y)

-- no node accepts in an epoch below one that it promised or accepted in before
abbrev pub NoOlder : Type 0
NoOlder = Always (λ c w. NoneOlder w.told)

-- what was reported committed stands in the log of each primary of a later epoch of the same data loss number, whichever
-- report is the earlier one
abbrev pub WritesKept : Type 0
WritesKept = Always (λ c w. (x y e f last : ℕ) (committed log : List Entry) →
    IsMember (TellsCommitted x e last committed) w.told → IsMember (TellsPrimary y f log) w.told →
    e < f → c.data_loss e ≡ c.data_loss f → (last ≤ length log) × (take last log ≡ take last committed))

-- the same of any two places of a history, with the logs as they are there
abbrev pub CommittedStands : Type 0
CommittedStands = (c : Settings) (deeds since before later earlier : List Deed) (x y last : ℕ) (r : Role) (p : Plan) → IsSound c → Valid c deeds →
    deeds ≡ since ++ (Commits x last r ∷ before) → deeds ≡ later ++ (BecomesPrimary y p ∷ earlier) →
    r.plan.epoch < p.epoch → c.data_loss r.plan.epoch ≡ c.data_loss p.epoch →
    let log = (world_after earlier).log y in
    (last ≤ length log) × (take last log ≡ take last ((world_after before).log x))

-- What a primary has reported committed since its activation, which is more than its log had then, begins with all that was
-- reported committed so far in epochs up to its own, of the same data loss number, by whichever node and instance.
abbrev pub AnswersCovered : Type 0
AnswersCovered = Always (λ c w. (node : ℕ) (r : Role) → w.role node ≡ Some r → 0 < r.reported →
    (r.floor < r.reported) × (r.reported ≤ length (w.log node)) ×
    ((x e last : ℕ) (committed : List Entry) →
    IsMember (TellsCommitted x e last committed) w.told → e ≤ r.plan.epoch → c.data_loss e ≡ c.data_loss r.plan.epoch →
    (last ≤ r.reported) × (take last (w.log node) ≡ take last committed)))

-- the invariant, from which all this follows
abbrev pub InvariantHolds : Type 0
InvariantHolds = Always Invariant
