-- Who runs and has not left, and who owns a point by its reports: such a one has not left.
use Rattle.std.proofs.Common.{◌≡◌, ℕ, Bool, true, false, List, Option, Some, refl, sym, ap, ◌∙◌, subst}
use Rattle.std.proofs.lemmas.Bool.{both_ways}
use Rattle.cold_start.proofs.Facts.{orderly_lives, reads_lives}
use Rattle.cold_start.specs.Lives.{Lives, ValidLives, lives_run, lives_world}
use Rattle.fabric_lemmas.specs.Maps.{at}
use Rattle.fabric_terms.specs.declared.config.FabricConfig.{FabricConfig}
use Rattle.fabric_terms.specs.Places.{has_left}
use Rattle.fabric_terms.specs.Reports.{told}
use Rattle.fabric_terms.specs.Runs.{Owned, clocks_of, own_of, reading_of}
use Rattle.fabric_terms.specs.Sound.{IsSound}
use Rattle.join_phases.specs.Phases.{is_left}
use Rattle.ring_points.specs.declared.who.Who.{Who}
use Rattle.ring_points.specs.Ranges.{in_ranges}
use Rattle.ring_refinement.specs.Shown.{ShowsAs}
use Rattle.ring_rules.specs.Slots.{fence_of}
use Rattle.ring_safety.proofs.ActFollows.{Followed}
use Rattle.ring_safety.proofs.Followed.{followed}
use Rattle.ring_safety.proofs.Follows.{sound_machine}
use Rattle.ring_safety.proofs.Tales.{tale_of}
use Rattle.run_facts.proofs.Clocks.{Reads}
use Rattle.run_facts.proofs.Orderly.{Orderly}
use Rattle.run_facts.specs.Held.{owned_by}
use Rattle.world_rules.specs.Above.{StaysAbove}
use Rattle.world_rules.specs.Nodes.{boots_of}
use Rattle.world_rules.specs.Uppers.{Upper}
use Rattle.world_rules.specs.Worlds.{World, Running, kept_of}
use Rattle.span_safety.specs.Held.{Owns}

-- the instance under its node's number
pub record Stands {a : Upper} (c : FabricConfig) (w : World a) (x : Who) (reading : ℕ) (fence : Option ℕ) : Type 0 where
  pub state : Running a
  pub here : at x.actor w.nodes ≡ Some state
  pub name : state.node.ring.me ≡ x
  pub reads : state.reading ≡ reading
  pub fenced : fence_of c.answer state.node.ring.slots ≡ fence
  pub stays : is_left state.node.ring.phase ≡ false
  pub counted : x.instance ≡ boots_of (kept_of w x.actor)

pub standing : (a : Upper) → StaysAbove a → (is_frame : List ℕ → Bool) (c : FabricConfig) → IsSound c → (l : Lives) → ValidLives a is_frame c l →
    (x : Who) (p reading : ℕ) (fence : Option ℕ) → Owns (lives_run a c l) x p reading fence → Stands c (lives_world a c l) x reading fence
standing a stays is_frame c sound l valid x p reading fence o = record {
  state = r.state;
  here = subst (λ n. at n w.nodes ≡ Some r.state) number r.here;
  name = r.name;
  reads = r.reads;
  fenced = sym (ap (λ (z : Owned). z.fence) owned);
  stays = not_left (is_left r.state.node.ring.phase) (m.follows.shows r.number r.state r.here);
  counted = sym (ap (λ (z : Who). z.instance) r.name) ∙ (ap (λ (z : Who). z.instance) (k.name r.number r.state r.here) ∙ ap (λ n. boots_of (kept_of w n)) number);
}
  where
    w : World a
    w = lives_world a c l

    r : Reads (lives_world a c l).nodes x reading
    r = reads_lives a stays c l x reading o.runs

    k : Orderly c (lives_world a c l) (lives_run a c l)
    k = orderly_lives a stays c l

    m : Followed c (lives_world a c l) (tale_of a c l)
    m = followed a stays is_frame c (sound_machine c sound) l valid

    number : r.number ≡ x.actor
    number = sym (ap (λ (z : Who). z.actor) (k.name r.number r.state r.here)) ∙ ap (λ (z : Who). z.actor) r.name

    owned : record { ranges = o.ranges; fence = fence } ≡ owned_by c r.state.node.ring
    owned =
        let last : own_of x (lives_run a c l) ≡ Some (owned_by c r.state.node.ring) =
        subst (λ y. own_of y (lives_run a c l) ≡ Some (owned_by c r.state.node.ring)) r.name (k.own r.number r.state r.here) in
        let own = o.own in cc (own, last)

    -- who owns a point has not left
    not_left : (b : Bool) → ShowsAs c m.world r.state.node.ring.me r.state.node.ring b → b ≡ false
    not_left false i = refl
    not_left true i =
        let none : in_ranges p o.ranges ≡ false = ap (λ (z : Owned). in_ranges p z.ranges) owned ∙ ap (in_ranges p) i.ranges in
        absurd (both_ways (in_ranges p o.ranges) none o.has)

-- the same of an instance that has told no leave
pub running : (a : Upper) → StaysAbove a → (c : FabricConfig) (l : Lives) (x : Who) (reading : ℕ) →
    reading_of x (clocks_of (lives_run a c l)) ≡ Some reading → has_left x (told (lives_run a c l)) ≡ false →
    (fence : Option ℕ) × Stands c (lives_world a c l) x reading fence
running a stays c l x reading runs left = (
  fence_of c.answer r.state.node.ring.slots,
  record {
    state = r.state;
    here = subst (λ n. at n w.nodes ≡ Some r.state) number r.here;
    name = r.name;
    reads = r.reads;
    fenced = refl;
    stays = sym (k.left r.number r.state r.here) ∙ (ap (λ y. has_left y (told (lives_run a c l))) r.name ∙ left);
    counted = sym (ap (λ (z : Who). z.instance) r.name) ∙ (ap (λ (z : Who). z.instance) (k.name r.number r.state r.here) ∙ ap (λ n. boots_of (kept_of w n)) number);
  },
)
  where
    w : World a
    w = lives_world a c l

    r : Reads (lives_world a c l).nodes x reading
    r = reads_lives a stays c l x reading runs

    k : Orderly c (lives_world a c l) (lives_run a c l)
    k = orderly_lives a stays c l

    number : r.number ≡ x.actor
    number = sym (ap (λ (z : Who). z.actor) (k.name r.number r.state r.here)) ∙ ap (λ (z : Who). z.actor) r.name
