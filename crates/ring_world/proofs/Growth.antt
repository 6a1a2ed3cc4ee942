-- One more event, one more outcome: what stays as it was.
use Rattle.std.proofs.Common.{◌≡◌, ℕ, suc, ◌+◌, ◌<◌, Bool, true, false, cond, List, [], ◌∷◌, ◌++◌, Some, refl, sym, ap, subst, ◌∙◌, arith, length}
use Rattle.std.specs.Prelude.{◌==◌, unwrap_or, slice_get}
use Rattle.std.proofs.lemmas.List.{append-nil}
use Rattle.std.proofs.lemmas.Bool.{eqb-true}
use Rattle.std.proofs.lemmas.Bool.Decides.{nat_tests}
use Rattle.arbiter_core.specs.Arbiters.{restored}
use Rattle.fabric_terms.specs.declared.config.FabricConfig.{FabricConfig}
use Rattle.fabric_terms.specs.declared.message.Body.{Body}
use Rattle.fabric_terms.specs.declared.message.Message.{Message}
use Rattle.fabric_terms.specs.declared.record.Record.{Record}
use Rattle.fabric_terms.specs.Sent.{from_all}
use Rattle.ring_points.specs.Whos.{arbiter_actor}
use Rattle.ring_points.specs.declared.who.Who.{Who}
use Rattle.fabric_lemmas.specs.Maps.{at, put}
use Rattle.unit_rules.specs.Fabric.{fabric}
use Rattle.world_rules.specs.Worlds.{World as RuledWorld, kept_of, posted, numbers_of}
use Rattle.fabric_lemmas.proofs.Maps.{at-put}
use Rattle.ring_world.specs.Commits.{posted_all, numbers_after}
use Rattle.world_rules.specs.EventLimits.{most_events}
use Rattle.ring_world.specs.ConfiguredArbiters.{IsSeat}
use Rattle.ring_world.specs.Seen.{Seen}
use Rattle.ring_world.specs.declared.configured_arbiter.ConfiguredArbiter.{ConfiguredArbiter}
use Rattle.ring_world.specs.Stands.{SeenStands, ArbitersStand}

pub seat_later : (w : RuledWorld fabric) (events k : ℕ) (s : ConfiguredArbiter) → IsSeat w events k s → IsSeat w (events + 1) k s
seat_later w events k s h = record { running = h.running; kept = h.kept; few = omega (arith, h.few) }

-- arbitrators of whom nothing is recorded, while other actors act
pub arbiters_on : (a b : Seen) (w v : RuledWorld fabric) → ArbitersStand a w → v.arbiters ≡ w.arbiters → ((k : ℕ) → kept_of v (arbiter_actor k) ≡ kept_of w (arbiter_actor k))
    → b.seats ≡ a.seats → b.config ≡ a.config → b.events ≡ a.events + 1 → ArbitersStand b v
arbiters_on a b w v s tables kept seats config events = record {
  count = ap length seats ∙ (s.count ∙ ap (λ (c : FabricConfig). length c.arbiters) (sym config));
  seats = λ k q g.
      let old = s.seats k q (ap (λ ss. slice_get ss k) (sym seats) ∙ g) in
      record {
        running = old.running ∙ ap (λ ts. at (k + 1) ts) (sym tables);
        kept = old.kept ∙ ap (λ rs. restored (k + 1) rs) (sym (kept (k + 1)));
        few = omega (arith, old.few);
      };
  others = λ arbiter lt. ap (λ ts. at arbiter ts) tables ∙ s.others arbiter (subst (λ (n : ℕ). n < arbiter) (ap length seats) lt);
  from_one = ap (λ ts. at 0 ts) tables ∙ s.from_one;
}

-- an event that only counts
pub later : (a : Seen) (w : RuledWorld fabric) → SeenStands a w → a.events < most_events → SeenStands (record a { events = a.events + 1 }) w
later a w s lt = record {
  sound = s.sound;
  time = s.time;
  in_time = s.in_time;
  few_events = omega arith;
  nodes = record { rise = s.nodes.rise; running = s.nodes.running; clocks = s.nodes.clocks; few = omega (arith, s.nodes.few); kept = s.nodes.kept };
  arbiters = record { count = s.arbiters.count; seats = λ k q g. seat_later w a.events (k + 1) q (s.arbiters.seats k q g); others = s.arbiters.others; from_one = s.arbiters.from_one };
  frames = record { frames = s.frames.frames; counted = s.frames.counted; sent = s.frames.sent; few = s.frames.few };
}

-- what an actor is left with, where something is recorded at one

pub kept_here : (w : RuledWorld fabric) (actor : ℕ) (more : List Record) → unwrap_or (at actor (put actor (kept_of w actor ++ more) w.kept)) [] ≡ kept_of w actor ++ more
kept_here w actor more =
    ap (λ o. unwrap_or o []) (at-put actor (kept_of w actor ++ more) w.kept actor)
    ∙ (let same : (actor == actor) ≡ true = grind (arith, nat_tests) in ap (λ b. unwrap_or (cond b (Some (kept_of w actor ++ more)) (at actor w.kept)) []) same)

pub kept_there : (w : RuledWorld fabric) (actor q : ℕ) (more : List Record) → (actor == q) ≡ false → unwrap_or (at q (put actor (kept_of w actor ++ more) w.kept)) [] ≡ kept_of w q
kept_there w actor q more other =
    ap (λ o. unwrap_or o []) (at-put actor (kept_of w actor ++ more) w.kept q)
    ∙ ap (λ b. unwrap_or (cond b (Some (kept_of w actor ++ more)) (at q w.kept)) []) other

pub kept_same : (w : RuledWorld fabric) (actor q : ℕ) → unwrap_or (at q (put actor (kept_of w actor ++ []) w.kept)) [] ≡ kept_of w q
kept_same w actor q = by_test (actor == q) refl
  where
    by_test : (b : Bool) → (actor == q) ≡ b → unwrap_or (at q (put actor (kept_of w actor ++ []) w.kept)) [] ≡ kept_of w q
    by_test false e = kept_there w actor q [] e
    by_test true e =
        let same : actor ≡ q = eqb-true actor q e in
        subst (λ (n : ℕ). unwrap_or (at n (put actor (kept_of w actor ++ []) w.kept)) [] ≡ kept_of w n) same (kept_here w actor [] ∙ append-nil (kept_of w actor))

-- frames

pub posted_is : (who : Who) (sent : List (Who × Body)) (frames : List Message) → posted who sent frames ≡ posted_all (from_all who sent) frames
posted_is who [] frames = refl
posted_is who (m ∷ ms) frames = posted_is who ms (record { from = who; to = m.0; body = m.1 } ∷ frames)

pub posted-length : (who : Who) (sent : List (Who × Body)) (frames : List Message) → length (posted who sent frames) ≡ length frames + length sent
posted-length who [] frames = omega arith
posted-length who (m ∷ ms) frames = let again = posted-length who ms (record { from = who; to = m.0; body = m.1 } ∷ frames) in omega (arith, again)

pub from-length : (who : Who) (sent : List (Who × Body)) → length (from_all who sent) ≡ length sent
from-length who [] = refl
from-length who (m ∷ ms) = ap suc (from-length who ms)

pub numbers_are : (before : ℕ) (sent : List (Who × Body)) → numbers_of before sent ≡ numbers_after before (length sent)
numbers_are before [] = refl
numbers_are before (m ∷ ms) = let some : (suc (length ms) == 0) ≡ false = grind (arith, nat_tests) in sym (ap (λ b. cond b (0, 0) (before + 1, before + suc (length ms))) some)
