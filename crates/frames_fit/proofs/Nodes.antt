-- A whole node keeps to the ranges of frames, as long as it has not left; and then it does nothing.
use Rattle.std.proofs.Common.{◌≡◌, ℕ, ◌+◌, Bool, true, false, cond, not, ◌&&◌, List, [], ◌∷◌, ◌++◌, IsTrue, refl, sym, subst, arith}
use Rattle.std.specs.Prelude.{All}
use Rattle.std.proofs.lemmas.Bool.{and_from, leb-false}
use Rattle.std.proofs.lemmas.List.Elements.{All-append, All-cons, All-nil}
use Rattle.world_rules.proofs.Starts.{begun_first}
use Rattle.world_rules.specs.Starts.{first_whole, node_begun_in, start_in, started_in}
use Rattle.fabric_terms.specs.declared.config.FabricConfig.{FabricConfig}
use Rattle.fabric_terms.specs.declared.record.Record.{Record}
use Rattle.fabric_terms.specs.declared.record.Record.TheVariants.{Boot}
use Rattle.fabric_terms.specs.Sound.{IsSound}
use Rattle.join_phases.specs.Phases.{is_left}
use Rattle.ring_points.specs.declared.who.Who.{Who}
use Rattle.ring_points.specs.Whos.{node_instance}
use Rattle.ring_rules.specs.declared.input.Input.{Input}
use Rattle.ring_rules.specs.Owns.{is_same_own, own_after, own_of_ring, own_unless}
use Rattle.ring_rules.specs.Rings.{Settings, Work, settings_of}
use Rattle.ring_rules.specs.Starts.{begun, node_started}
use Rattle.ring_rules.specs.Steps.{ring_step, step_if}
use Rattle.fabric_terms.specs.Fields.{is_counted, is_node, is_who}
use Rattle.fabric_terms.specs.Ranges.{IsNumber}
use Rattle.token_core.specs.Tokens.{last_number}
use Rattle.world_rules.specs.Nodes.{NodeState, above_acts, above_if, boot_kept, boots_of, both_did, comes_above, instance_begun, is_spent, node_begun, node_step}
use Rattle.world_rules.specs.Schedules.{is_configured_node}
use Rattle.world_rules.specs.Uppers.{Upper, Did, idle}
use Rattle.frames_fit.specs.Above.{DidInFormat, SendsInFormat}
use Rattle.frames_fit.specs.Formats.{InputInFormat, ReportInRange, in_format}
use Rattle.frames_fit.specs.InRange.{IsInRange}
use Rattle.frames_fit.proofs.Facts.{counted_from, who_sends}
use Rattle.frames_fit.proofs.Going.{Done}
use Rattle.frames_fit.proofs.Posting.{ActsInFormat, KeptInRange, posted_sound}
use Rattle.frames_fit.proofs.Reporting.{own_fits, same_own}
use Rattle.frames_fit.proofs.Steps.{ring_done, spent_left, started_in_range, started_told}

pub record NodeInRange (a : Upper) (p : SendsInFormat a) (c : FabricConfig) (s : NodeState a) : Type 0 where
  pub ring : IsInRange c s.ring
  pub above : p.Above c s.above

-- what a node that has not left is
abbrev pub LiveInRange : (a : Upper) → SendsInFormat a → FabricConfig → NodeState a → Type 0
LiveInRange a p c s = is_left s.ring.phase ≡ false → NodeInRange a p c s

-- what it leaves in a step
pub record NodeActs (a : Upper) (p : SendsInFormat a) (c : FabricConfig) (d : Did (NodeState a)) : Type 0 where
  pub state : LiveInRange a p c d.state
  pub acts : ActsInFormat p d.state.ring.me d

module _ (a : Upper) (p : SendsInFormat a) (c : FabricConfig) (sound : IsSound c) where
  -- Its step.

  module _ (now : ℕ) (i : Input) (s : NodeState a) where
    -- where it has left before

    left_step : (set : Settings) → is_left s.ring.phase ≡ true → ring_step set now i s.ring ≡ begun s.ring
    unfolding ring_step
    left_step set e = by_left (is_left s.ring.phase) e
      where
        by_left : (b : Bool) → b ≡ true → step_if set now i (begun s.ring) b ≡ begun s.ring
        by_left true e = refl
        by_left false e = absurd (cc (e))

    left_idle : is_left s.ring.phase ≡ true → above_acts a c now i s s.ring ≡ idle s.above
    left_idle e = by_left (is_left s.ring.phase) e
      where
        by_left : (b : Bool) → b ≡ true → above_if a c now s.ring s.above i (not b && comes_above (settings_of c s.ring.me.actor) s.ring i) ≡ idle s.above
        by_left true e = refl
        by_left false e = absurd (cc (e))

    left_told : is_left s.ring.phase ≡ true → All ReportInRange (own_after (settings_of c s.ring.me.actor) s.ring s.ring)
    left_told e = subst (λ (b : Bool). All ReportInRange (own_unless (settings_of c s.ring.me.actor) s.ring b))
        (sym (same_own (settings_of c s.ring.me.actor) s.ring e)) (All-nil ReportInRange)

    left_acts : is_left s.ring.phase ≡ true → NodeActs a p c (both_did a c s.ring (begun s.ring) (idle s.above))
    left_acts e = record {
      state = λ f. absurd (cc (e, f));
      acts = record { records = All-nil (KeptInRange p); posts = λ frames h. h; told = left_told e };
    }

    -- where it goes on

    own_told : (k : Work) → IsInRange c k.ring → All ReportInRange (own_after (settings_of c s.ring.me.actor) s.ring k.ring)
    own_told k h = by_same (is_same_own (settings_of c s.ring.me.actor) s.ring k.ring)
      where
        by_same : (b : Bool) → All ReportInRange (own_unless (settings_of c s.ring.me.actor) k.ring b)
        by_same true = All-nil ReportInRange
        by_same false =
            All-cons ReportInRange (own_of_ring (settings_of c s.ring.me.actor) k.ring) []
            (own_fits (settings_of c s.ring.me.actor) sound.answer.to_high k.ring h) (All-nil ReportInRange)

    both_acts : (k : Work) (d : Did a.Above) → Done c k → DidInFormat (p.Above c) (KeptInRange p) d → NodeActs a p c (both_did a c s.ring k d)
    both_acts k d done above = record {
      state = λ f. record { ring = done.ring; above = above.state };
      acts = record {
        records = above.records;
        posts = λ frames h. posted_sound k.ring.me (k.sent ++ d.sent) frames (who_sends k.ring.me done.ring.me)
            (All-append (λ m. IsTrue (in_format m)) k.sent d.sent done.sent above.sent) h;
        told = All-append ReportInRange (k.told ++ d.told) (own_after (settings_of c s.ring.me.actor) s.ring k.ring)
            (All-append ReportInRange k.told d.told done.told above.told) (own_told k done.ring);
      };
    }

    goes_acts : IsNumber now → InputInFormat i → NodeInRange a p c s → (k : Work) → Done c k →
        NodeActs a p c (both_did a c s.ring k (above_acts a c now i s k.ring))
    goes_acts reads h r k done =
        both_acts k (above_acts a c now i s k.ring) done (by_test (not (is_left k.ring.phase) && comes_above (settings_of c s.ring.me.actor) s.ring i))
      where
        by_test : (b : Bool) → DidInFormat (p.Above c) (KeptInRange p) (above_if a c now k.ring s.above i b)
        by_test true = p.above_step c now k.ring s.above i sound reads done.ring r.above h
        by_test false = record { state = r.above; records = All-nil (KeptInRange p); sent = All-nil (λ m. IsTrue (in_format m)); told = All-nil ReportInRange }

    pub node_acts : IsNumber now → InputInFormat i → LiveInRange a p c s → NodeActs a p c (node_step a c now i s)
    unfolding node_step
    node_acts reads h live = by_left (is_left s.ring.phase) refl
      where
        did : Work → Did (NodeState a)
        did k = both_did a c s.ring k (above_acts a c now i s k.ring)

        by_left : (b : Bool) → is_left s.ring.phase ≡ b → NodeActs a p c (did (ring_step (settings_of c s.ring.me.actor) now i s.ring))
        by_left true e =
            subst (λ (k : Work). NodeActs a p c (did k)) (sym (left_step (settings_of c s.ring.me.actor) e))
            (subst (λ (d : Did a.Above). NodeActs a p c (both_did a c s.ring (begun s.ring) d)) (sym (left_idle e)) (left_acts e))
        by_left false e =
            let r = live e in
            goes_acts reads h r (ring_step (settings_of c s.ring.me.actor) now i s.ring) (ring_done c sound now reads i h s.ring r.ring)

  -- Its start.

  module _ (node : ℕ) (records : List Record) (named : IsTrue (is_node node)) (listed : is_configured_node c node ≡ true)
      (kept : All (KeptInRange p) records) where
    me : Who
    me = node_instance node (instance_begun records)

    -- instances are counted up to the last number
    counted : is_spent records ≡ false → IsTrue (is_counted (instance_begun records))
    counted e = by_spent (is_spent records) e
      where
        by_spent : (b : Bool) → b ≡ false → IsTrue (is_counted (cond b (boots_of records) (boots_of records + 1)))
        by_spent true f = absurd (cc (f))
        by_spent false f = let few = leb-false last_number (boots_of records) e in counted_from (boots_of records + 1) (omega arith) (omega arith)

    boot_recorded : All (KeptInRange p) (boot_kept records)
    boot_recorded = by_spent (is_spent records) refl
      where
        by_spent : (b : Bool) → is_spent records ≡ b → All (KeptInRange p) (cond b [] (Boot (instance_begun records) ∷ []))
        by_spent true e = All-nil (KeptInRange p)
        by_spent false e = All-cons (KeptInRange p) (Boot (instance_begun records)) [] (counted e) (All-nil (KeptInRange p))

    not_spent : (whole : Who) → is_left (start_in whole c (node_instance node (instance_begun records)) (is_spent records)).ring.phase ≡ false → is_spent records ≡ false
    not_spent whole = by_spent (is_spent records)
      where
        by_spent : (b : Bool) → is_left (start_in whole c (node_instance node (instance_begun records)) b).ring.phase ≡ false → b ≡ false
        by_spent true f = let left = spent_left c (node_instance node (instance_begun records)) in absurd (cc (left, f))
        by_spent false f = refl

    -- whoever begins with the whole ring
    pub node_begins_in : (whole : Who) → NodeActs a p c (node_begun_in a whole c node records)
    unfolding node_begun_in started_in
    node_begins_in whole = record {
      state = λ f.
          let x : Who = node_instance node (instance_begun records) in
          let unspent = not_spent whole f in
          let who : IsTrue (is_who x) = and_from (is_node node) (is_counted (instance_begun records)) named (counted unspent) in
          record {
            ring = subst (λ (b : Bool). IsInRange c (start_in whole c x b).ring) (sym unspent) (started_in_range whole c x who listed);
            above = p.above_begun c x records sound who kept;
          };
      acts = record {
        records = boot_recorded;
        posts = λ frames h. h;
        told = started_told whole c sound (node_instance node (instance_begun records)) (is_spent records) (λ e. and_from (is_node node) (is_counted (instance_begun records)) named (counted e)) listed;
      };
    }

    -- in the first life
    pub node_begins : NodeActs a p c (node_begun a c node records)
    node_begins = subst (λ (d : Did (NodeState a)). NodeActs a p c d) (begun_first a c node records) (node_begins_in (first_whole c))
