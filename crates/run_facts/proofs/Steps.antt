-- What a whole node records and tells in a step and at its start.
use Rattle.std.proofs.Common.{◌≡◌, ℕ, ◌+◌, Bool, true, false, cond, not, ◌&&◌, ◌||◌, ◌<◌, List, [], ◌∷◌, ◌++◌, Option, Some, None, refl, sym, ap, ◌∙◌, subst, arith}
use Rattle.std.specs.Prelude.{◌==◌}
use Rattle.std.specs.List.{list_any}
use Rattle.std.proofs.lemmas.Bool.{and_parts, eqb-true, leb-true}
use Rattle.token_core.specs.Tokens.{last_number}
use Rattle.std.proofs.lemmas.List.Folds.{list_any-append}
use Rattle.fabric_terms.specs.declared.config.FabricConfig.{FabricConfig}
use Rattle.fabric_terms.specs.declared.record.Record.{Record}
use Rattle.fabric_terms.specs.declared.record.Record.TheVariants.{Boot}
use Rattle.fabric_terms.specs.declared.report.Report.{Report}
use Rattle.fabric_terms.specs.declared.report.Report.TheVariants.{Own, Gave, Took, Returned, TookOver, LeftRing}
use Rattle.fabric_terms.specs.Places.{tells_leave}
use Rattle.fabric_terms.specs.Runs.{Owned, owned_after, last_own}
use Rattle.join_phases.specs.Phases.{is_left}
use Rattle.ring_points.specs.declared.interval.Interval.{Interval}
use Rattle.ring_points.specs.declared.who.Who.{Who}
use Rattle.ring_rules.specs.Arbiters.{Table, table_after}
use Rattle.ring_rules.specs.declared.input.Input.{Input}
use Rattle.ring_rules.specs.Owns.{own_after, own_unless, is_same_own, same_ranges, same_fence}
use Rattle.ring_rules.specs.Rings.{Ring, Settings, Work, settings_of}
use Rattle.ring_rules.specs.Slots.{fence_of}
use Rattle.ring_rules.specs.Starts.{begun, node_started, start_first}
use Rattle.ring_rules.specs.Steps.{ring_step, step_if}
use Rattle.ring_rules.proofs.Rows.{ring_step-is}
use Rattle.world_rules.specs.Nodes.{NodeState, node_begun, node_step, above_acts, above_if, boot_kept, boots_of, begun_as, instance_begun, is_spent}
use Rattle.world_rules.specs.Uppers.{Upper}
use Rattle.world_rules.specs.Above.{KeepsOut, StaysAbove, is_ring_report, is_ring_record}
use Rattle.run_facts.specs.Held.{owned_by}
use Rattle.run_facts.proofs.Said.{tells_own, or_false}
use Rattle.run_facts.proofs.Rows.{step_says}

-- lists of reports

pub last_own-append : (rs more : List Report) (before : Option Owned) → last_own (rs ++ more) before ≡ last_own more (last_own rs before)
last_own-append [] more before = refl
last_own-append (r ∷ rs) more before = last_own-append rs more (owned_after r before)

pub no_own : (rs : List Report) (before : Option Owned) → list_any tells_own rs ≡ false → last_own rs before ≡ before
no_own [] before h = refl
no_own (Own ranges fence ∷ rs) before h = absurd (cc (h))
no_own (r ∷ rs) before h = no_own rs before h

-- reports that are not the ring's
pub others_own : (rs : List Report) → list_any is_ring_report rs ≡ false → list_any tells_own rs ≡ false
others_own [] h = refl
others_own (Own ranges fence ∷ rs) h = absurd (cc (h))
others_own (Gave y number ranges ∷ rs) h = absurd (cc (h))
others_own (Took y number ranges ∷ rs) h = absurd (cc (h))
others_own (Returned y number ranges ∷ rs) h = absurd (cc (h))
others_own (TookOver v ranges ∷ rs) h = absurd (cc (h))
others_own (LeftRing why ∷ rs) h = absurd (cc (h))
others_own (r ∷ rs) h = others_own rs h

pub others_stay : (rs : List Report) → list_any is_ring_report rs ≡ false → list_any tells_leave rs ≡ false
others_stay [] h = refl
others_stay (Own ranges fence ∷ rs) h = absurd (cc (h))
others_stay (Gave y number ranges ∷ rs) h = absurd (cc (h))
others_stay (Took y number ranges ∷ rs) h = absurd (cc (h))
others_stay (Returned y number ranges ∷ rs) h = absurd (cc (h))
others_stay (TookOver v ranges ∷ rs) h = absurd (cc (h))
others_stay (LeftRing why ∷ rs) h = absurd (cc (h))
others_stay (r ∷ rs) h = others_stay rs h

-- what is owned is told where it differs

ranges_alike : (is js : List Interval) → same_ranges is js ≡ true → is ≡ js
ranges_alike [] [] h = refl
ranges_alike [] (j ∷ js) h = absurd (cc (h))
ranges_alike (i ∷ is) [] h = absurd (cc (h))
ranges_alike (i ∷ is) (j ∷ js) h =
    let both : ((i.lo == j.lo && i.hi == j.hi) ≡ true) × (same_ranges is js ≡ true) = and_parts (i.lo == j.lo && i.hi == j.hi) (same_ranges is js) h in
    let ends : (i.lo == j.lo ≡ true) × (i.hi == j.hi ≡ true) = and_parts (i.lo == j.lo) (i.hi == j.hi) both.0 in
    let rest : is ≡ js = ranges_alike is js both.1 in
    λ k. record { lo = eqb-true i.lo j.lo ends.0 k; hi = eqb-true i.hi j.hi ends.1 k } ∷ rest k

fences_alike : (m n : Option ℕ) → same_fence m n ≡ true → m ≡ n
fences_alike None None h = refl
fences_alike (Some m) (Some n) h = ap (λ v. Some v) (eqb-true m n h)
fences_alike None (Some n) h = absurd (cc (h))
fences_alike (Some m) None h = absurd (cc (h))

own_told : (c : FabricConfig) (node : ℕ) (old new : Ring) →
    last_own (own_after (settings_of c node) old new) (Some (owned_by c old)) ≡ Some (owned_by c new)
own_told c node old new = by_test (is_same_own (settings_of c node) old new) refl
  where
    by_test : (b : Bool) → is_same_own (settings_of c node) old new ≡ b →
        last_own (own_unless (settings_of c node) new b) (Some (owned_by c old)) ≡ Some (owned_by c new)
    by_test false h = refl
    by_test true h =
        let ranges : Bool = same_ranges old.token.ranges new.token.ranges in
        let fence : Bool = same_fence (fence_of c.answer old.slots) (fence_of c.answer new.slots) in
        let some = and_parts (ranges && fence) (is_left old.phase || not (is_left new.phase)) h in
        let both = and_parts ranges fence some.0 in
        λ k. Some (record {
          ranges = ranges_alike old.token.ranges new.token.ranges both.0 k;
          fence = fences_alike (fence_of c.answer old.slots) (fence_of c.answer new.slots) both.1 k;
        })

own_stays : (set : Settings) (old new : Ring) → list_any tells_leave (own_after set old new) ≡ false
own_stays set old new = by_test (is_same_own set old new)
  where
    by_test : (b : Bool) → list_any tells_leave (own_unless set new b) ≡ false
    by_test true = refl
    by_test false = refl

-- what runs above does nothing of the ring
pub acts_out : (a : Upper) → StaysAbove a → (c : FabricConfig) (now : ℕ) (i : Input) (s : NodeState a) (new : Ring) →
    KeepsOut (above_acts a c now i s new)
acts_out a stays c now i s new = by_test _
  where
    by_test : (b : Bool) → KeepsOut (above_if a c now new s.above i b)
    by_test true = stays.above c now new s.above i
    by_test false = record { sends = refl; records = refl; tells = refl }

-- what a step of the ring leaves
pub record Stepped (old : Ring) (new : Work) : Type 0 where
  pub name : new.ring.me ≡ old.me
  pub owns : list_any tells_own new.told ≡ false
  pub leaves : (list_any tells_leave new.told || is_left old.phase) ≡ is_left new.ring.phase

pub ring_stepped : (set : Settings) (now : ℕ) (i : Input) (r : Ring) → Stepped r (ring_step set now i r)
ring_stepped set now i r = by_left (is_left r.phase) refl
  where
    by_left : (b : Bool) → is_left r.phase ≡ b → Stepped r (ring_step set now i r)
    by_left true h = subst (Stepped r) (sym (ring_step-is set now i r)) (gone (is_left r.phase) h)
      where
        gone : (b : Bool) → b ≡ true → Stepped r (step_if set now i (begun r) b)
        gone true e = record { name = refl; owns = refl; leaves = refl }
        gone false e = absurd (cc (e))
    by_left false h =
        let says = step_says set now i r h in
        record { name = says.name; owns = says.owns; leaves = ap (λ b. list_any tells_leave (ring_step set now i r).told || b) h ∙ (or_false _ ∙ sym says.leaves) }

-- what a step of a whole node leaves
pub record Acted (c : FabricConfig) (old new : Ring) (records : List Record) (told : List Report) : Type 0 where
  pub name : new.me ≡ old.me
  pub own : last_own told (Some (owned_by c old)) ≡ Some (owned_by c new)
  pub leaves : (list_any tells_leave told || is_left old.phase) ≡ is_left new.phase
  pub apart : list_any is_ring_record records ≡ false

pub acted_told : (c : FabricConfig) (node : ℕ) (old : Ring) (k : Work) (more : List Report) (records : List Record) → Stepped old k →
    list_any is_ring_report more ≡ false → list_any is_ring_record records ≡ false →
    Acted c old k.ring records (k.told ++ more ++ own_after (settings_of c node) old k.ring)
acted_told c node old k more records step tells recs =
    with_last (own_after (settings_of c node) old k.ring) (own_told c node old k.ring) (own_stays (settings_of c node) old k.ring)
  where
    with_last : (last : List Report) → last_own last (Some (owned_by c old)) ≡ Some (owned_by c k.ring) → list_any tells_leave last ≡ false →
        Acted c old k.ring records (k.told ++ more ++ last)
    with_last last own stay = record {
      name = step.name;
      own =
          last_own-append (k.told ++ more) last (Some (owned_by c old))
          ∙ (ap (last_own last)
          (last_own-append k.told more (Some (owned_by c old))
          ∙ (ap (last_own more) (no_own k.told (Some (owned_by c old)) step.owns) ∙ no_own more (Some (owned_by c old)) (others_own more tells)))
          ∙ own);
      leaves = ap (λ b. b || is_left old.phase) silent ∙ step.leaves;
      apart = recs;
    }
      where
        silent : list_any tells_leave (k.told ++ more ++ last) ≡ list_any tells_leave k.told
        silent =
            list_any-append tells_leave (k.told ++ more) last
            ∙ ((λ i. rest i || stay i) ∙ or_false (list_any tells_leave k.told))
          where
            rest : list_any tells_leave (k.told ++ more) ≡ list_any tells_leave k.told
            rest =
                list_any-append tells_leave k.told more
                ∙ ((λ i. list_any tells_leave k.told || others_stay more tells i) ∙ or_false (list_any tells_leave k.told))

pub node_acted-told : (a : Upper) → StaysAbove a → (c : FabricConfig) (now : ℕ) (i : Input) (s : NodeState a) →
    Acted c s.ring (node_step a c now i s).state.ring (node_step a c now i s).records (node_step a c now i s).told
unfolding node_step
node_acted-told a stays c now i s =
    let k : Work = ring_step (settings_of c s.ring.me.actor) now i s.ring in
    let out = acts_out a stays c now i s k.ring in
    acted_told c s.ring.me.actor s.ring k (above_acts a c now i s k.ring).told (above_acts a c now i s k.ring).records
    (ring_stepped (settings_of c s.ring.me.actor) now i s.ring) out.tells out.records

-- what a start leaves
pub record Begun (c : FabricConfig) (me : Who) (new : Ring) (told : List Report) : Type 0 where
  pub name : new.me ≡ me
  pub own : (before : Option Owned) → last_own told before ≡ Some (owned_by c new)
  pub leaves : list_any tells_leave told ≡ is_left new.phase

pub started_as : (c : FabricConfig) (me : Who) (spent : Bool) →
    let k = node_started c me spent in (k.ring.me ≡ me) × (list_any tells_leave k.told ≡ is_left k.ring.phase)
unfolding node_started
started_as c me true = (refl, refl)
started_as c me false = by_first (me.actor == c.first && me.instance == 1)
  where
    by_first : (b : Bool) → let k = start_first c me b in (k.ring.me ≡ me) × (list_any tells_leave k.told ≡ is_left k.ring.phase)
    by_first true = (refl, refl)
    by_first false = (refl, refl)

-- where all numbers of instances are used up, it has left
started_spent : (c : FabricConfig) (me : Who) (spent : Bool) → spent ≡ true → list_any tells_leave (node_started c me spent).told ≡ true
unfolding node_started
started_spent c me true h = refl
started_spent c me false h = absurd (cc (h))

pub begun_told : (a : Upper) (c : FabricConfig) (me : Who) (records : List Record) (k : Work) → k.ring.me ≡ me →
    list_any tells_leave k.told ≡ is_left k.ring.phase →
    let d = begun_as a c me records k in Begun c me d.state.ring d.told
begun_told a c me records k name left = record {
  name = name;
  own = λ before. last_own-append k.told _ before;
  leaves = list_any-append tells_leave k.told _ ∙ (or_false _ ∙ left);
}

pub node_begun-told : (a : Upper) (c : FabricConfig) (node : ℕ) (records : List Record) →
    let d = node_begun a c node records in Begun c (record { actor = node; instance = instance_begun records }) d.state.ring d.told
unfolding node_begun
node_begun-told a c node records =
    let me : Who = record { actor = node; instance = instance_begun records } in
    let start = started_as c me (is_spent records) in
    begun_told a c me records (node_started c me (is_spent records)) start.0 start.1

pub begun_spent : (a : Upper) (c : FabricConfig) (node : ℕ) (records : List Record) → is_spent records ≡ true →
    list_any tells_leave (node_begun a c node records).told ≡ true
unfolding node_begun
begun_spent a c node records h =
    let me : Who = record { actor = node; instance = instance_begun records } in
    let k : Work = node_started c me (is_spent records) in
    list_any-append tells_leave k.told _ ∙ (or_false (list_any tells_leave k.told) ∙ started_spent c me (is_spent records) h)

-- the records of a start

pub begun_boots : (a : Upper) (c : FabricConfig) (node : ℕ) (records : List Record) →
    instance_begun records ≡ boots_of records + boots_of (node_begun a c node records).records
unfolding node_begun
begun_boots a c node records = go (is_spent records) refl
  where
    go : (b : Bool) → is_spent records ≡ b → instance_begun records ≡ boots_of records + boots_of (boot_kept records)
    go true h = by_spent (is_spent records) h
      where
        by_spent : (b : Bool) → b ≡ true →
            cond b (boots_of records) (boots_of records + 1) ≡ boots_of records + boots_of (cond b [] (Boot (instance_begun records) ∷ []))
        by_spent true e = omega arith
        by_spent false e = absurd (cc (e))
    go false h = by_spent (is_spent records) h
      where
        by_spent : (b : Bool) → b ≡ false →
            cond b (boots_of records) (boots_of records + 1) ≡ boots_of records + boots_of (cond b [] (Boot (instance_begun records) ∷ []))
        by_spent false e = refl
        by_spent true e = absurd (cc (e))

-- instances are counted from 1
pub begun_positive : (records : List Record) → 0 < instance_begun records
begun_positive records = go (is_spent records) refl
  where
    go : (b : Bool) → is_spent records ≡ b → 0 < cond b (boots_of records) (boots_of records + 1)
    go true h = let le = leb-true last_number (boots_of records) h in omega arith
    go false h = omega arith

pub begun_accuses : (a : Upper) (c : FabricConfig) (node : ℕ) (records : List Record) (table : Table) →
    table_after table (node_begun a c node records).records ≡ table
unfolding node_begun
begun_accuses a c node records table = go (is_spent records)
  where
    go : (b : Bool) → table_after table (cond b [] (Boot (instance_begun records) ∷ [])) ≡ table
    go true = refl
    go false = refl
