-- All links of an instance to which nothing came that names a length have one length.
use Rattle.std.proofs.Common.{◌≡◌, ℕ, ◌+◌, ◌≤◌, Bool, true, false, List, [], ◌∷◌, Some, refl, sym, ap, ◌∙◌, subst, arith}
use Rattle.fabric_lemmas.specs.Maps.{at}
use Rattle.fabric_terms.specs.declared.config.FabricConfig.{FabricConfig}
use Rattle.fabric_terms.specs.declared.event.Event.{Event}
use Rattle.fabric_terms.specs.declared.record.Record.{Record}
use Rattle.ring_points.specs.declared.who.Who.{Who}
use Rattle.ring_points.specs.Whos.{node_instance, same_who}
use Rattle.ring_rules.specs.declared.input.Input.{Input}
use Rattle.ring_rules.specs.Rings.{no_slots, settings_of}
use Rattle.ring_rules.specs.Starts.{node_started, start_first}
use Rattle.world_rules.specs.Nodes.{NodeState, instance_begun, is_spent, node_step}
use Rattle.world_rules.specs.Uppers.{Upper}
use Rattle.world_rules.specs.Worlds.{Running}
use Rattle.cold_start.specs.Lives.{Comes, Again, Lives, lives_world, whole_after}
use Rattle.world_rules.specs.Starts.{node_begun_in, started_in}
use Rattle.span_safety.specs.Lengths.{OneLength, UnlessBegun, begins, brings_length, gives_length}
use Rattle.span_safety.proofs.Lasting.{AllLast}
use Rattle.span_safety.proofs.FenceSteps.{step_lasts}
use Rattle.span_safety.proofs.Became.{Became, acted, became, began, showed, stayed}

-- a step of a whole node is its ring's
pub node_lasts : (a : Upper) (c : FabricConfig) (least now : ℕ) (i : Input) (s : NodeState a) → least ≤ now + c.lease + c.answer →
    gives_length i ≡ false → AllLast c.lease c.answer least s.ring.slots → AllLast c.lease c.answer least (node_step a c now i s).state.ring.slots
unfolding node_step
node_lasts a c least now i s soon plain all = step_lasts (settings_of c s.ring.me.actor) least now soon i s.ring plain all

-- a node starts without links

start_bare : (whole : Who) (c : FabricConfig) (me : Who) (spent : Bool) → (started_in whole c me spent).ring.slots ≡ no_slots
unfolding started_in node_started
start_bare whole c me true = refl
start_bare whole c me false = first (same_who me whole)
  where
    first : (b : Bool) → (start_first c me b).ring.slots ≡ no_slots
    first true = refl
    first false = refl

pub begun_bare : (a : Upper) (whole : Who) (c : FabricConfig) (node : ℕ) (records : List Record) →
    (node_begun_in a whole c node records).state.ring.slots ≡ no_slots
unfolding node_begun_in
begun_bare a whole c node records = start_bare whole c (node_instance node (instance_begun records)) (is_spent records)

-- what is known of the events since the node's last start, of the newest
pub since : (b : Bool) (Before : Type 0) → UnlessBegun b Before → b ≡ false → Before
since true Before k e = absurd (cc (e))
since false Before k e = k

module _ (a : Upper) (c : FabricConfig) (node : ℕ) where
  abbrev Level : Running a → Type 0
  Level s = AllLast c.lease c.answer 0 s.node.ring.slots

  abbrev pub Since : Lives → Event → Type 0
  Since l e = (brings_length (lives_world a c l) node e ≡ false) × OneLength a c node l

  pub level : (l : Lives) → OneLength a c node l → (s : Running a) → at node (lives_world a c l).nodes ≡ Some s → Level s
  level [] one s h = absurd (cc (h))
  level ((line, Again whole) ∷ l) one s h = level l one s h
  level ((line, Comes e) ∷ l) one s h = go (became a (whole_after c l) c (lives_world a c l) node e s h) (λ k. level l k)
    where
      go : Became a (whole_after c l) c (lives_world a c l) e node s → (OneLength a c node l → (r : Running a) → at node (lives_world a c l).nodes ≡ Some r → Level r) → Level s
      go (stayed other there) again = again (since (begins node e) (Since l e) one other).1 s there
      go (showed r time reading other there is) again = subst Level (sym is) (again (since (begins node e) (Since l e) one other).1 r there)
      go (acted i r other there calm does is) again =
          let k = since (begins node e) (Since l e) one other in
          subst Level (sym is) (node_lasts a c 0 r.reading i r.node (omega arith) (calm k.0) (again k.1 r there))
      go (began reading start is) again =
          let bare : s.node.ring.slots ≡ no_slots = ap (λ (z : Running a). z.node.ring.slots) is ∙ begun_bare a (whole_after c l) c node _ in
          subst (AllLast c.lease c.answer 0) (sym bare) tt
