-- A reconfiguration in its phases: what it asks shows what its phase has.
use Rattle.std.proofs.Common.{◌≡◌, ℕ, ◌<◌, true, List, [], ◌∷◌, refl, sym, subst, inl, ⊎_elim, arith}
use Rattle.ring_points.specs.declared.unit.Epoch.{Epoch}
use Rattle.ring_points.specs.declared.who.Who.{Who}
use Rattle.fabric_terms.specs.declared.message.Body.{Body}
use Rattle.epoch_machine.specs.Epochs.{number_of}
use Rattle.epoch_machine.specs.World.{World}
use Rattle.epoch_machine.specs.Invariant.{Invariant}
use Rattle.unit_rules.specs.Deeds.{Acted, send_all}
use Rattle.unit_rules.specs.Questions.{question, asks}
use Rattle.unit_rules.specs.Reconfigs.{Reconfig, Prepare, Phase0, Phase1, Decide, Phase2, Phase3, Phase4, Step, task_of}
use Rattle.epoch_refinement.specs.Epochs.{IsEpoch, settings_to}
use Rattle.epoch_refinement.specs.Reconfigs.{is_preparing, NoneAbove, ShowsPhase, ShowsReconfig, ShowsTask, ShowsStep, Went}
use Rattle.epoch_refinement.specs.Refined.{AllShown}
use Rattle.epoch_refinement.specs.Shown.{partition_of, Shown}
use Rattle.epoch_refinement.proofs.Lasting.{later_refl}

pub to_reconfig : {v : World} {k p n : ℕ} {x : Who} {h : Epoch} (r : Reconfig) → ShowsTask k p n (task_of r) → ShowsPhase v k p x n r → NoneAbove v x n →
    (is_preparing r ≡ true → NoneAbove v x (number_of h)) → ShowsReconfig v k p x h r
to_reconfig {n = n} r t phase below before = record {
  partition = t.partition;
  arbitrators = t.arbitrators;
  number = n;
  is = t.is;
  some = t.some;
  opens = t.opens;
  phase = phase;
  below = below;
  before = before;
}

pub task_shown : {v : World} {k p : ℕ} {x : Who} {h : Epoch} {r : Reconfig} (s : ShowsReconfig v k p x h r) → ShowsTask k p s.number (task_of r)
task_shown s = record { partition = s.partition; arbitrators = s.arbitrators; is = s.is; some = s.some; opens = s.opens }

-- the question of a phase
pub question_shown : (v : World) (k p n : ℕ) (x to : Who) (r : Reconfig) → 0 < x.instance → ShowsTask k p n (task_of r) → ShowsPhase v k p x n r →
    (partition_of (question r) ≡ p) × Shown v p x to (question r)
question_shown v k p n x to (Prepare q) me t s = (t.partition, (n, t.is, t.some, me))
question_shown v k p n x to (Phase0 q) me t s = (t.partition, (n, t.is, t.some))
question_shown v k p n x to (Phase1 q) me t s = (t.partition, (n, t.is, t.some))
question_shown v k p n x to (Decide q) me t s = let i = s.0.2 in let j = i.is in (j.partition, record { plan = s.0.0; planned = s.0.1; is = i.is })
question_shown v k p n x to (Phase2 q) me t s =
    let i = s.0.2 in (
      t.partition,
      record {
        plan = s.0.0;
        synced = s.0.1;
        epoch = subst (λ m. IsEpoch m q.task.epoch) (sym i.epoch_is) t.is;
        origin_is = i.origin_is;
        last_is = i.last_is;
        room = i.room;
      },
    )
question_shown v k p n x to (Phase3 q) me t s = let j = s.0.is in (j.partition, s.0)
question_shown v k p n x to (Phase4 q) me t s = let j = s.0.is in (j.partition, s.0)

all_asked : (v : World) (p : ℕ) (x : Who) (b : Body) → ((to : Who) → (partition_of b ≡ p) × Shown v p x to b) → (tos : List Who) →
    AllShown v p x (send_all tos b)
all_asked v p x b each [] = tt
all_asked v p x b each (to ∷ tos) = let e = each to in (e.0, e.1, all_asked v p x b each tos)

-- whoever is asked by it
pub asks_shown : (v : World) (k p n : ℕ) (x : Who) (r : Reconfig) → 0 < x.instance → ShowsTask k p n (task_of r) → ShowsPhase v k p x n r → (actors : List ℕ) →
    AllShown v p x (asks r actors)
asks_shown v k p n x r me t s actors =
    all_asked v p x (question r) (λ to. question_shown v k p n x to r me t s) _

-- what a step shows, with what is sent
abbrev pub ShowsActed : (k p : ℕ) → Who → Epoch → ℕ → Acted Step → World → Type 0
ShowsActed k p x h n a v = ShowsStep v k p x h n a.state × AllShown v p x a.deeds

-- the machine does nothing
pub still_went : {k : ℕ} {w : World} {x : Who} {n : ℕ} {Holds : World → Type 0} → Invariant (settings_to k) w → Holds w → Went k w x n Holds
still_went {w = w} inv holds = record {
  after = w;
  inv = inv;
  later = later_refl w;
  attempts = λ t m. inl m;
  plans = λ q m. inl m;
  holds = holds;
  told = refl;
}

pub went_map : {k : ℕ} {w : World} {x : Who} {n : ℕ} {P Q : World → Type 0} (g : Went k w x n P) → (P g.after → Q g.after) → Went k w x n Q
went_map g f =
    record { after = g.after; inv = g.inv; later = g.later; attempts = g.attempts; plans = g.plans; holds = f g.holds; told = g.told }

-- no attempt of x is above its epoch afterwards
pub still_none : {k : ℕ} {w : World} {x : Who} {n : ℕ} {P : World → Type 0} (g : Went k w x n P) → NoneAbove w x n → NoneAbove g.after x n
still_none g below = λ t m same. ⊎_elim (λ old. below t old same) (λ new. let e = new.1 in omega arith) (g.attempts t m)
