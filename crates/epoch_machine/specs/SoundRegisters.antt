-- What holds of arbitrators: what they prepared, and what they keep as done.
use Rattle.std.specs.Prelude.{◌≡◌, ℕ, ◌<◌, ◌≤◌, List, Option, Some}
use Rattle.fabric_lemmas.specs.Members.{IsMember}
use Rattle.epoch_machine.specs.Plans.{Who, Plan, Attempt}
use Rattle.epoch_machine.specs.Messages.{Prepared, DoneKept}
use Rattle.epoch_machine.specs.Evidence.{AtLeast}

-- what arbitrators keep
pub record SoundRegisters (prepared : ℕ → ℕ) (preparer : ℕ → Who) (done : ℕ → Option Plan) (answers : List Prepared) (kept : List DoneKept) :
    Type 0 where
  -- the prepared epoch is the highest that was answered, and has one preparer
  pub below : (g : Prepared) → IsMember g answers → g.epoch ≤ prepared g.arbiter
  pub preparer_is : (g : Prepared) → IsMember g answers → g.epoch ≡ prepared g.arbiter → g.to ≡ preparer g.arbiter
  -- an arbitrator prepares an epoch for one Who
  pub once : (g h : Prepared) → IsMember g answers → IsMember h answers → g.arbiter ≡ h.arbiter → g.epoch ≡ h.epoch → g.to ≡ h.to
  -- a done configuration that was kept stays, or a higher one stands there
  pub kept_done : (k : DoneKept) → IsMember k kept → AtLeast k.epoch (done k.arbiter)
  -- and each answer for a higher epoch, of before or after, carries it or a higher one
  pub carried : (g : Prepared) (k : DoneKept) → IsMember g answers → IsMember k kept → g.arbiter ≡ k.arbiter → k.epoch < g.epoch → AtLeast k.epoch g.done

-- whatever is kept or carried as done was asked for
pub record AllAsked (done : ℕ → Option Plan) (answers : List Prepared) (attempts : List Attempt) (asked : List Plan) : Type 0 where
  pub done_asked : (a : ℕ) (p : Plan) → done a ≡ Some p → IsMember p asked
  pub answer_asked : (g : Prepared) (p : Plan) → IsMember g answers → g.done ≡ Some p → IsMember p asked
  pub prev_asked : (t : Attempt) (p : Plan) → IsMember t attempts → t.prev ≡ Some p → IsMember p asked
