-- A step and a start of a whole node, by its ring and what runs above it.
use Rattle.std.proofs.Common.{◌≡◌, ℕ, Bool, true, false, not, ◌&&◌, List, ◌++◌, refl, sym, ap, ◌∙◌}
use Rattle.std.proofs.lemmas.List.{map-append}
use Rattle.fabric_terms.specs.declared.config.FabricConfig.{FabricConfig}
use Rattle.fabric_terms.specs.declared.message.Body.{Body}
use Rattle.fabric_terms.specs.declared.message.Message.{Message}
use Rattle.fabric_terms.specs.declared.report.Report.{Report}
use Rattle.fabric_terms.specs.Sent.{from_all}
use Rattle.join_phases.specs.Phases.{is_left}
use Rattle.ring_node.specs.Nodes.{Node, Step, step}
use Rattle.ring_node.specs.Owned.{own_since, owned_of}
use Rattle.ring_node.specs.Steps.{taken}
use Rattle.ring_points.specs.declared.who.Who.{Who}
use Rattle.ring_rules.specs.declared.input.Input.{Input}
use Rattle.ring_rules.specs.declared.input.Input.TheVariants as input
use Rattle.ring_rules.specs.Deeds.{has_numbers}
use Rattle.ring_rules.specs.Frames.{passes}
use Rattle.ring_rules.specs.Owns.{own_after}
use Rattle.ring_rules.specs.Rings.{Ring, Settings, Work, settings_of}
use Rattle.ring_rules.specs.Steps.{ring_step}
use Rattle.run_facts.proofs.Steps.{ring_stepped}
use Rattle.unit_rules.specs.Deeds.{Acted, did, frames_of, records_of, reports_of}
use Rattle.unit_rules.specs.Loads.{Site, site_of}
use Rattle.unit_rules.specs.Steps.{Failover, failover_step}
use Rattle.node_core.specs.UnitParts.{Part, domains_of, is_later, site_at}
use Rattle.world_rules.specs.Nodes.{NodeState, above_acts, above_if, both_did, comes_above, node_step}
use Rattle.unit_rules.specs.Fabric.{fabric}
use Rattle.world_rules.specs.Uppers.{Did}
use Rattle.node_core.specs.declared.outcome.Outcome.{Outcome}
use Rattle.node_core.specs.Nodes.{Does, GoesBy, core_of}
use Rattle.node_core.specs.Rows.{comes_first, comes_later, row_if}
use Rattle.node_core.proofs.Aside.{row_first}

-- the name of a node stays
pub name_stays : (now : ℕ) (i : Input) (old new : Node) (sent : List (Who × Body)) (told : List Report) → step new sent told ≡ taken now i old → new.ring.me ≡ old.ring.me
name_stays now i old new sent told e = ap (λ (s : Step). s.work.ring.me) e ∙ (ring_stepped old.settings now i old.ring).name

pub settings_stay : (now : ℕ) (i : Input) (old new : Node) (sent : List (Who × Body)) (told : List Report) → step new sent told ≡ taken now i old → new.settings ≡ old.settings
settings_stay now i old new sent told e = ap (λ (s : Step). s.settings) e

-- what is owned is told last

own_told : (c : Settings) (old new : Node) → new.settings ≡ c → old.settings ≡ c → own_since (owned_of old) new ≡ own_after c old.ring new.ring
own_told c old new n o = rw (n, o) refl

-- what the rules say of a step whose ring made this, and above which this was done
abbrev done : Settings → Ring → Node → List (Who × Body) → List Report → Acted Failover → Did (NodeState fabric)
done c old new sent told a =
    record {
      state = record { ring = new.ring; above = a.state };
      records = records_of a.deeds;
      sent = sent ++ frames_of a.deeds;
      told = told ++ reports_of a.deeds ++ own_after c old new.ring;
    }

step_is : (c : FabricConfig) (now : ℕ) (i : Input) (n : Node) (p : Part) (new : Node) (sent : List (Who × Body)) (told : List Report) (a : Acted Failover) → GoesBy c (core_of n p)
    → step new sent told ≡ taken now i n → above_acts fabric c now i (core_of n p).state new.ring ≡ did a
    → node_step fabric c now i (core_of n p).state ≡ done (settings_of c n.ring.me.actor) n.ring new sent told a
unfolding node_step
step_is c now i n p new sent told a g e above =
    let w : Work = record { ring = new.ring; sent = sent; told = told } in
    let made : ring_step (settings_of c n.ring.me.actor) now i n.ring ≡ w = ap (λ (s : Settings). ring_step s now i n.ring) (sym g.settings) ∙ sym (ap (λ (s : Step). s.work) e) in
    ap (λ (k : Work). both_did fabric c n.ring k (above_acts fabric c now i (core_of n p).state k.ring)) made
    ∙ ap (both_did fabric c n.ring w) above

-- the step of a whole node, of which this is left
pub does_step : (c : FabricConfig) (now : ℕ) (i : Input) (n : Node) (p : Part) (new : Node) (q : Part) (sent : List (Who × Body)) (told : List Report) (o : Outcome) (a : Acted Failover)
    → GoesBy c (core_of n p) → step new sent told ≡ taken now i n → above_acts fabric c now i (core_of n p).state new.ring ≡ did a
    → q.state ≡ a.state → o.records ≡ records_of a.deeds → o.frames ≡ from_all new.ring.me sent ++ from_all new.ring.me (frames_of a.deeds)
    → o.reports ≡ (told ++ reports_of a.deeds) ++ own_since (owned_of n) new
    → Does (node_step fabric c now i (core_of n p).state) (core_of new q) o
does_step c now i n p new q sent told o a g e above state records frames reports = rw (step_is c now i n p new sent told a g e above) (record {
  state = ap (λ (s : Failover). record { ring = new.ring; above = s }) state;
  records = records;
  frames = frames ∙ sym (map-append _ sent (frames_of a.deeds));
  reports =
      reports
      ∙ ap (λ (rs : List Report). (told ++ reports_of a.deeds) ++ rs) (own_told (settings_of c n.ring.me.actor) n new (settings_stay now i n new sent told e ∙ g.settings) g.settings);
})

-- What is done above.

above_row : (c : FabricConfig) (now : ℕ) (r : Ring) (s : Failover) (i : Input) (b : Bool) → above_if fabric c now r s i b ≡ did (row_if b (site_of c r.me.actor) now r s i)
above_row c now r s i true = refl
above_row c now r s i false = refl

-- what its rows read is what the rules read of the configuration
site_is : (c : FabricConfig) (n : Node) (p : Part) (w : Who) → GoesBy c (core_of n p) → w ≡ n.ring.me → site_of c w.actor ≡ site_at n.settings p
site_is c n p w g e =
    ap (λ (x : Who). site_of c x.actor) e
    ∙ ap (λ (s : Settings). record { ring = s; domains = domains_of c }) (sym g.settings)
    ∙ ap (λ (ds : List (ℕ × ℕ)). record { ring = n.settings; domains = ds }) (sym g.domains)

above_is : (c : FabricConfig) (now : ℕ) (i : Input) (n : Node) (p : Part) (r : Ring) → GoesBy c (core_of n p) → r.me ≡ n.ring.me
    → above_acts fabric c now i (core_of n p).state r ≡ did (row_if (not (is_left r.phase) && comes_above n.settings n.ring i) (site_at n.settings p) now r p.state i)
above_is c now i n p r g e =
    above_row c now r p.state i (not (is_left r.phase) && comes_above (settings_of c n.ring.me.actor) n.ring i)
    ∙ ap (λ (s : Settings). did (row_if (not (is_left r.phase) && comes_above s n.ring i) (site_of c r.me.actor) now r p.state i)) (sym g.settings)
    ∙ ap (λ (x : Site). did (row_if (not (is_left r.phase) && comes_above n.settings n.ring i) x now r p.state i)) (site_is c n p r.me g e)

-- a row that comes first
pub first_above : (c : FabricConfig) (now : ℕ) (i : Input) (n : Node) (p : Part) (new : Node) (sent : List (Who × Body)) (told : List Report) → GoesBy c (core_of n p) → step new sent told ≡ taken now i n
    → is_later i ≡ false → has_numbers n.ring ≡ true
    → above_acts fabric c now i (core_of n p).state new.ring ≡ did (row_if (comes_first n.settings now n.ring i) (site_at n.settings p) now n.ring p.state i)
first_above c now i n p new sent told g e first numbers =
    let ring : new.ring ≡ (ring_step n.settings now i n.ring).ring = ap (λ (s : Step). s.work.ring) e in
    above_is c now i n p new.ring g (name_stays now i n new sent told e)
    ∙ ap (λ (r : Ring). did (row_if (not (is_left r.phase) && comes_above n.settings n.ring i) (site_at n.settings p) now r p.state i)) ring
    ∙ ap did (row_first n.settings (site_at n.settings p) now n.ring p.state i first numbers)

-- the row of an answer, which comes after the ring's
pub answer_above : (c : FabricConfig) (now : ℕ) (m : Message) (n : Node) (p : Part) (new : Node) (sent : List (Who × Body)) (told : List Report) → GoesBy c (core_of n p) → step new sent told ≡ taken now (input.Frame m) n
    → above_acts fabric c now (input.Frame m) (core_of n p).state new.ring ≡ did (row_if (comes_later (passes n.settings n.ring m) new.ring) (site_at new.settings p) now new.ring p.state (input.Frame m))
answer_above c now m n p new sent told g e =
    above_is c now (input.Frame m) n p new.ring g (name_stays now (input.Frame m) n new sent told e)
    ∙ ap (λ (s : Settings). did (row_if (comes_later (passes n.settings n.ring m) new.ring) (site_at s p) now new.ring p.state (input.Frame m))) (sym (settings_stay now (input.Frame m) n new sent told e))

-- a firing, which changes nothing above, and reads nothing of the ring

fire_reads : (c d : Site) (now later : ℕ) (r q : Ring) (s : Failover) (b : Bool) → row_if b c now r s input.Fire ≡ row_if b d later q s input.Fire
unfolding failover_step
fire_reads c d now later r q s true = refl
fire_reads c d now later r q s false = refl

pub fire_keeps : (c : Site) (now : ℕ) (r : Ring) (s : Failover) (b : Bool) → (row_if b c now r s input.Fire).state ≡ s
unfolding failover_step
fire_keeps c now r s true = refl
fire_keeps c now r s false = refl

and_true : (b : Bool) → (b && true) ≡ b
and_true true = refl
and_true false = refl

pub fire_above : (c : FabricConfig) (now : ℕ) (n : Node) (p : Part) (new : Node) (sent : List (Who × Body)) (told : List Report) (d : Site) → GoesBy c (core_of n p) → step new sent told ≡ taken now input.Fire n
    → above_acts fabric c now input.Fire (core_of n p).state new.ring ≡ did (row_if (not (is_left new.ring.phase)) d 0 new.ring p.state input.Fire)
fire_above c now n p new sent told d g e =
    above_is c now input.Fire n p new.ring g (name_stays now input.Fire n new sent told e)
    ∙ ap (λ (b : Bool). did (row_if b (site_at n.settings p) now new.ring p.state input.Fire)) (and_true (not (is_left new.ring.phase)))
    ∙ ap did (fire_reads (site_at n.settings p) d now 0 new.ring new.ring p.state (not (is_left new.ring.phase)))
