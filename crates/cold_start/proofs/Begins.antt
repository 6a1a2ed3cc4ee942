-- Who begins with the whole ring, and that it does so once.
use Rattle.std.proofs.Common.{◌≡◌, ◌+◌, Bool, true, false, cond, not, ◌&&◌, List, [], ◌++◌, ◌⊎◌, refl, sym, ap, ◌∙◌, inl, inr, arith}
use Rattle.std.proofs.lemmas.Bool.{and_parts}
use Rattle.fabric_terms.specs.declared.config.FabricConfig.{FabricConfig}
use Rattle.fabric_terms.specs.declared.record.Record.{Record}
use Rattle.ring_points.proofs.Whos.{same_who-true}
use Rattle.ring_points.specs.declared.who.Who.{Who}
use Rattle.ring_points.specs.Ranges.{whole_ring}
use Rattle.ring_points.specs.Whos.{node_instance, same_who}
use Rattle.ring_rules.specs.Starts.{node_started, start_first}
use Rattle.run_facts.proofs.Kept.{boots_append}
use Rattle.world_rules.specs.Nodes.{boots_of, instance_begun, is_spent}
use Rattle.world_rules.specs.Uppers.{Upper}
use Rattle.cold_start.specs.Laws.{BeginsOnce, NextMayBeAgain, OneBeginsWithTheRing, OneLifeIsASchedule, PastMayNot, begins_with}
use Rattle.world_rules.specs.Starts.{node_begun_in, start_in}
use Rattle.cold_start.proofs.OneLife.{life_one, run_one, valid_one, whole_one, world_one}
use Rattle.world_rules.proofs.Starts.{node_begun_in-is, started_in-is}
use Rattle.run_facts.proofs.Starts.{begun_in_boots}

pub one_life_lem : (a : Upper) → OneLifeIsASchedule a
one_life_lem a c h = record {
  world = world_one a c h;
  run = run_one a c h;
  life = life_one a c h;
  whole = whole_one a c h;
  valid = λ is_frame valid. valid_one a c is_frame h valid;
}

start_ranges : (whole : Who) (c : FabricConfig) (me : Who) (spent : Bool) →
    (start_in whole c me spent).ring.token.ranges ≡ cond (not spent && same_who me whole) whole_ring []
unfolding node_started
start_ranges whole c me true = refl
start_ranges whole c me false = go (same_who me whole)
  where
    go : (b : Bool) → (start_first c me b).ring.token.ranges ≡ cond b whole_ring []
    go true = refl
    go false = refl

pub one_begins_lem : (a : Upper) → OneBeginsWithTheRing a
one_begins_lem a whole c node records =
    let me : Who = node_instance node (instance_begun records) in
    (λ i. (node_begun_in-is a whole c node records i).state.ring.token.ranges)
    ∙ ((λ i. (started_in-is whole c me (is_spent records) i).ring.token.ranges) ∙ start_ranges whole c me (is_spent records))

-- the number of an instance that begins, where numbers are left
begun_number : (records : List Record) → is_spent records ≡ false → instance_begun records ≡ boots_of records + 1
begun_number records h = ap (λ s. cond s (boots_of records) (boots_of records + 1)) h

pub begins_once_lem : (a : Upper) → BeginsOnce a
begins_once_lem a whole c node records more = go (not (is_spent records) && same_who (node_instance node (instance_begun records)) whole) refl
  where
    later : List Record
    later = records ++ (node_begun_in a whole c node records).records ++ more

    -- the later one is another instance
    apart : (not (is_spent records) && same_who (node_instance node (instance_begun records)) whole) ≡ true →
        (not (is_spent later) && same_who (node_instance node (instance_begun later)) whole) ≡ true → ⊥
    apart h k =
        let first = and_parts (not (is_spent records)) (same_who (node_instance node (instance_begun records)) whole) h in
        let then = and_parts (not (is_spent later)) (same_who (node_instance node (instance_begun later)) whole) k in
        let one = begun_number records (spent_not (is_spent records) first.0) in
        let two = begun_number later (spent_not (is_spent later) then.0) in
        let same : instance_begun records ≡ instance_begun later =
        ap (λ (x : Who). x.instance) (same_who-true (node_instance node (instance_begun records)) whole first.1)
        ∙ sym (ap (λ (x : Who). x.instance) (same_who-true (node_instance node (instance_begun later)) whole then.1)) in
        let boots = begun_in_boots a whole c node records in
        let new : List Record = (node_begun_in a whole c node records).records in
        let sum : boots_of later ≡ (boots_of records + boots_of new) + boots_of more =
        boots_append (records ++ new) more ∙ (λ i. boots_append records new i + boots_of more) in
        omega arith
      where
        spent_not : (b : Bool) → not b ≡ true → b ≡ false
        spent_not true e = absurd (cc (e))
        spent_not false e = refl

    go : (b : Bool) → (not (is_spent records) && same_who (node_instance node (instance_begun records)) whole) ≡ b →
        (begins_with a whole c node records ≡ []) ⊎ (begins_with a whole c node later ≡ [])
    go false h = inl (one_begins_lem a whole c node records ∙ ap (λ b. cond b whole_ring []) h)
    go true h = inr (by_later (not (is_spent later) && same_who (node_instance node (instance_begun later)) whole) refl)
      where
        by_later : (b : Bool) → (not (is_spent later) && same_who (node_instance node (instance_begun later)) whole) ≡ b → begins_with a whole c node later ≡ []
        by_later false k = one_begins_lem a whole c node later ∙ ap (λ b. cond b whole_ring []) k
        by_later true k = absurd (apart h k)

pub next_may_lem : (a : Upper) → NextMayBeAgain a
next_may_lem a w node none = record { over = none; new = omega arith }

pub past_may_not_lem : (a : Upper) → PastMayNot a
past_may_not_lem a w whole ran may = ran may.new
