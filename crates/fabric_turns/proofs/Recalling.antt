-- How the records of all actors are read.
use Rattle.std.proofs.Common.{arith, ◌≡◌, ◌<◌, ◌+◌, ℕ, zero, suc, Bool, true, List, [], ◌∷◌, ◌++◌, length, map, Option, Some, None, Ok, Err, refl, ap, sym, subst, ◌∙◌, inl, inr, ⊎_elim}
use Rattle.std.specs.Prelude.{◌⊎◌, slice_get, slice_index_or, slice_set}
use Rattle.std.proofs.lemmas.Option.{get_or_from_slice_get}
use Rattle.std.proofs.lemmas.List.{length-append, length-map}
use Rattle.edge_io.specs.Edge.{Tells}
use Rattle.edge_io.specs.declared.endpoint.Endpoint.{Endpoint}
use Rattle.fabric_terms.specs.declared.record.Record.{Record}
use Rattle.fabric_turns.proofs.RecordKinds.{count_test, kind_from}
use Rattle.fabric_turns.proofs.Starting.{end_here, end_cases}
use Rattle.fabric_turns.specs.Opening.{OnlyRecalled, ReadsFor, RecallsAll, RecallsOne}
use Rattle.fabric_turns.specs.Runs.{AreKept, IsKeptAt}
use Rattle.arbiter_tables.specs.Registers.{are_placed}
use Rattle.keep_log.specs.Amounts.{nothing}
use Rattle.keep_log.specs.Outcomes.{AmountsTo}
use Rattle.keep_log.specs.Places.{Follows, is_once}
use Rattle.keep_log.specs.Spellings.{spelling}
use Rattle.keep_log.specs.declared.kept.Kept.{Kept}
use Rattle.edge_io.specs.Told.{Told}
use Rattle.ring_rules.specs.Arbiters.{no_table}
use Rattle.turn_members.specs.Members.{IsKept}
use Rattle.turn_rules.specs.Plans.{Plan}
use Rattle.turn_rules.specs.Recalled.{IsBadFor, IsBadKeep, IsGoodFor, Recalled}
use Rattle.turn_rules.specs.Whole.{Untouched}
use Rattle.turn_rules.specs.declared.stop_cause.StopCause.{StopCause}
use Rattle.turn_rules.specs.declared.stop_cause.StopCause.TheVariants as stop
use Rattle.world_rules.specs.Events.{is_arbiter_actor}

counted : (lists : List (List ℕ)) (records : List Record) (count : ℕ) → Follows nothing lists records → count ≡ length lists → count ≡ length records
counted lists records count f e = e ∙ ap (λ (ls : List (List ℕ)). length ls) f.spelled ∙ length-map records spelling

pub read_good : (actor : ℕ) (lists : List (List ℕ)) (kept : Kept) (count : ℕ) (test : Bool) → count ≡ length lists → AmountsTo lists kept → is_once no_table kept.arbiter ≡ true → are_placed [] kept.arbiter ≡ true
    → test ≡ count_test (is_arbiter_actor actor) kept.arbiter count → test ≡ true → ReadsFor actor lists (Ok kept)
read_good actor lists kept count test e k once placed t holds = (
  k.0,
  (
    k.1.0,
    record {
      good = record {
        in_place = k.1.0.in_place;
        kind = kind_from (is_arbiter_actor actor) k.0 kept.arbiter count k.1.1.arbiter (counted lists k.0 count k.1.0 e) (sym t ∙ holds);
      };
      holds = k.1.1;
      once = once;
      placed = placed;
    },
  ),
)

-- One list more.

pub record SoFar (plan : Plan) (a : Told) (place : ℕ) (kept : List (Option Kept)) (b : Told) : Type 0 where
  pub list : List (List Record)
  pub recalled : Recalled plan.actors a list
  pub read : length list ≡ place
  pub many : length kept ≡ place
  pub each : (j : ℕ) (records : List Record) → slice_get list j ≡ Some records → (k : Kept) × ((slice_get kept j ≡ Some (Some k)) × IsKeptAt plan j records k)
  pub only : OnlyRecalled a b

pub so_far_none : (plan : Plan) (a : Told) (kept : List (Option Kept)) → kept ≡ [] → SoFar plan a 0 kept a
so_far_none plan a kept none = record {
  list = [];
  recalled = record {
    told = λ place e records here there. let wrong : None ≡ Some records = there in cc;
    good = λ place e records here there. let wrong : None ≡ Some records = there in cc;
  };
  read = refl;
  many = ap (λ (ks : List (Option Kept)). length ks) none;
  each = λ j records there. let wrong : None ≡ Some records = there in cc;
  only = only_here a;
}
  where
    only_here : (t : Told) → OnlyRecalled t t
    only_here t = record {
      untouched = record {
        loans = refl;
        held = refl;
        kept = λ actor. refl;
        sent = refl;
        arrivals = λ actor. refl;
        readings = refl;
        keeper = omega arith;
        links = omega arith;
        sink = refl;
        falls = refl;
        last = refl;
      };
      opened = refl;
    }

pub untouched_on : (a b c : Told) → Untouched a b → Untouched b c → Untouched a c
untouched_on a b c p q = record {
  loans = q.loans ∙ p.loans;
  held = q.held ∙ p.held;
  kept = λ actor. q.kept actor ∙ p.kept actor;
  sent = q.sent ∙ p.sent;
  arrivals = λ actor. q.arrivals actor ∙ p.arrivals actor;
  readings = q.readings ∙ p.readings;
  keeper = omega (arith, p.keeper, q.keeper);
  links = omega (arith, p.links, q.links);
  sink = q.sink ∙ p.sink;
  falls = q.falls ∙ p.falls;
  last = q.last ∙ p.last;
}

only_on : (a b c : Told) → OnlyRecalled a b → OnlyRecalled b c → OnlyRecalled a c
only_on a b c p q = record { untouched = untouched_on a b c p.untouched q.untouched; opened = q.opened ∙ p.opened }

-- what is told of an actor's records does not change meanwhile
told_before : (actor : ℕ) (lists : List (List ℕ)) (a b : Told) → OnlyRecalled a b → Tells (b.kept actor) lists → Tells (a.kept actor) lists
told_before actor lists a b o t = subst (λ (x : Option (List (List ℕ))). Tells x lists) (o.untouched.kept actor) t

pub so_far_more : (plan : Plan) (a b c : Told) (place actor : ℕ) (e : Endpoint) (kept new : List (Option Kept)) (k : Kept) → SoFar plan a place kept b → slice_get plan.actors place ≡ Some e → actor ≡ e.actor
    → RecallsOne actor b (Ok k) c → new ≡ kept ++ Some k ∷ [] → SoFar plan a (place + 1) new c
so_far_more plan a b c place actor e kept new k s here name r is =
    let records : List Record = r.1.1.0 in
    let follows : Follows nothing r.0 records = r.1.1.1.0 in
    let good : IsKept e.actor records k = subst (λ (n : ℕ). IsKept n records k) name r.1.1.1.1 in
    let told : Tells (a.kept e.actor) (map spelling records) =
    subst (λ (ls : List (List ℕ)). Tells (a.kept e.actor) ls) follows.spelled (subst (λ (n : ℕ). Tells (a.kept n) r.0) name (told_before actor r.0 a b s.only r.1.0)) in
    record {
      list = s.list ++ records ∷ [];
      recalled = record {
        told = λ j f rs at there. told_at j f rs at records told (end_cases s.list records rs j there);
        good = λ j f rs at there. good_at j f rs at records good.good (end_cases s.list records rs j there);
      };
      read = length-append s.list (records ∷ []) ∙ ap (λ (n : ℕ). n + 1) s.read;
      many = ap (λ (ks : List (Option Kept)). length ks) is ∙ length-append kept (Some k ∷ []) ∙ ap (λ (n : ℕ). n + 1) s.many;
      each = λ j rs there. each_at j rs records good (end_cases s.list records rs j there);
      only = only_on a b c s.only r.1.2;
    }
  where
    same_end : (j : ℕ) (f : Endpoint) → slice_get plan.actors j ≡ Some f → j ≡ length s.list → f ≡ e
    same_end j f at last = let g : Some f ≡ Some e = sym at ∙ ap (λ (n : ℕ). slice_get plan.actors n) (last ∙ s.read) ∙ here in cc

    told_at : (j : ℕ) (f : Endpoint) (rs : List Record) → slice_get plan.actors j ≡ Some f → (records : List Record) → Tells (a.kept e.actor) (map spelling records)
        → (slice_get s.list j ≡ Some rs) ⊎ ((j ≡ length s.list) × (rs ≡ records)) → Tells (a.kept f.actor) (map spelling rs)
    told_at j f rs at records told which = ⊎_elim
        (λ there. s.recalled.told j f rs at there)
        (λ (last : (j ≡ length s.list) × (rs ≡ records)).
        subst (λ (x : Endpoint). Tells (a.kept x.actor) (map spelling rs)) (sym (same_end j f at last.0)) (subst (λ (x : List Record). Tells (a.kept e.actor) (map spelling x)) (sym last.1) told))
        which

    good_at : (j : ℕ) (f : Endpoint) (rs : List Record) → slice_get plan.actors j ≡ Some f → (records : List Record) → IsGoodFor e.actor records
        → (slice_get s.list j ≡ Some rs) ⊎ ((j ≡ length s.list) × (rs ≡ records)) → IsGoodFor f.actor rs
    good_at j f rs at records good which = ⊎_elim
        (λ there. s.recalled.good j f rs at there)
        (λ (last : (j ≡ length s.list) × (rs ≡ records)).
        subst (λ (x : Endpoint). IsGoodFor x.actor rs) (sym (same_end j f at last.0)) (subst (λ (x : List Record). IsGoodFor e.actor x) (sym last.1) good))
        which

    front : (j : ℕ) (m : Option Kept) → slice_get kept j ≡ Some m → slice_get (kept ++ Some k ∷ []) j ≡ Some m
    front j m at = at_front kept j at
      where
        at_front : (ks : List (Option Kept)) (i : ℕ) → slice_get ks i ≡ Some m → slice_get (ks ++ Some k ∷ []) i ≡ Some m
        at_front [] i f = cc
        at_front (x ∷ xs) zero f = f
        at_front (x ∷ xs) (suc i) f = at_front xs i f

    each_at : (j : ℕ) (rs : List Record) (records : List Record) → IsKept e.actor records k → (slice_get s.list j ≡ Some rs) ⊎ ((j ≡ length s.list) × (rs ≡ records))
        → (m : Kept) × ((slice_get new j ≡ Some (Some m)) × IsKeptAt plan j rs m)
    each_at j rs records good which = ⊎_elim
        (λ there. let old = s.each j rs there in (old.0, (ap (λ (ks : List (Option Kept)). slice_get ks j) is ∙ front j (Some old.0) old.1.0, old.1.1)))
        (λ (last : (j ≡ length s.list) × (rs ≡ records)).
        let at : j ≡ length kept = last.0 ∙ s.read ∙ sym s.many in (
          k,
          (
            ap (λ (ks : List (Option Kept)). slice_get ks j) is ∙ ap (slice_get (kept ++ Some k ∷ [])) at ∙ end_here kept (Some k),
            record {
              endpoint = e;
              named = ap (λ (n : ℕ). slice_get plan.actors n) (last.0 ∙ s.read) ∙ here;
              is = subst (λ (x : List Record). IsKept e.actor x k) (sym last.1) good;
            },
          ),
        ))
        which

pub recalled_bad : (plan : Plan) (a b c : Told) (place actor : ℕ) (e : Endpoint) (kept : List (Option Kept)) (i : ℕ) → SoFar plan a place kept b → slice_get plan.actors place ≡ Some e → actor ≡ e.actor
    → RecallsOne actor b (Err (stop.BadKeep i)) c → IsBadKeep plan a i × OnlyRecalled a c
recalled_bad plan a b c place actor e kept i s here name r = (
  record {
    kept = s.list;
    before = s.recalled;
    actor = e;
    here = ap (λ (n : ℕ). slice_get plan.actors n) s.read ∙ here;
    lists = r.0;
    told = subst (λ (n : ℕ). Tells (a.kept n) r.0) name (told_before actor r.0 a b s.only r.1.0);
    bad = subst (λ (n : ℕ). IsBadFor n r.0 i) name r.1.1;
  },
  only_on a b c s.only r.1.2,
)

-- What is kept of the actor at a place, and of those after it.

item_at : {X : Type 0} (xs : List X) (i : ℕ) → i < length xs → (x : X) × (slice_get xs i ≡ Some x)
item_at [] i h = absurd (omega arith)
item_at (x ∷ xs) zero h = (x, refl)
item_at (x ∷ xs) (suc i) h = item_at xs i (omega arith)

pub record KeptHere (plan : Plan) (place : ℕ) (list : List (List Record)) (kept : List (Option Kept)) : Type 0 where
  pub records : List Record
  pub there : slice_get list place ≡ Some records
  pub k : Kept
  pub here : slice_get kept place ≡ Some (Some k)
  pub is : IsKeptAt plan place records k

pub kept_here : (plan : Plan) (place : ℕ) (list : List (List Record)) (kept : List (Option Kept)) → place < length plan.actors → AreKept plan place list kept → KeptHere plan place list kept
kept_here plan place list kept h a =
    let one = item_at list place (omega (arith, a.all)) in
    let k = a.each place one.0 (omega arith) one.1 in
    record { records = one.0; there = one.1; k = k.0; here = k.1.0; is = k.1.1 }

set_other : {X : Type 0} (xs : List X) (i j : ℕ) (y : X) → i < j → slice_get (slice_set xs i y) j ≡ slice_get xs j
set_other [] i j y h = refl
set_other (x ∷ xs) zero zero y h = absurd (omega arith)
set_other (x ∷ xs) zero (suc j) y h = refl
set_other (x ∷ xs) (suc i) zero y h = refl
set_other (x ∷ xs) (suc i) (suc j) y h = set_other xs i j y (omega arith)

set_long : {X : Type 0} (xs : List X) (i : ℕ) (y : X) → length (slice_set xs i y) ≡ length xs
set_long [] i y = refl
set_long (x ∷ xs) zero y = refl
set_long (x ∷ xs) (suc i) y = ap suc (set_long xs i y)

pub kept_next : (plan : Plan) (place : ℕ) (list : List (List Record)) (old new : List (Option Kept)) (y : Option Kept) → new ≡ slice_set old place y → AreKept plan place list old → AreKept plan (place + 1) list new
kept_next plan place list old new y e a = record {
  all = a.all;
  many = ap (λ (ks : List (Option Kept)). length ks) e ∙ set_long old place y ∙ a.many;
  each = λ j records low there.
      let k = a.each j records (omega arith) there in
      (k.0, (ap (λ (ks : List (Option Kept)). slice_get ks j) e ∙ set_other old place j y (omega arith) ∙ k.1.0, k.1.1));
}

-- the list of the next actor could not be read
pub recalled_err : (plan : Plan) (a b c : Told) (place actor : ℕ) (e : Endpoint) (kept : List (Option Kept)) (r : StopCause) → SoFar plan a place kept b → slice_get plan.actors place ≡ Some e → actor ≡ e.actor
    → RecallsOne actor b (Err r) c → RecallsAll plan a (Err r) c
recalled_err plan a b c place actor e kept stop.OutOfMemory s here name r = only_on a b c s.only r
recalled_err plan a b c place actor e kept stop.KeepFault s here name r = (
  only_on a b c s.only r.0,
  ⊎_elim (λ (h : b.keep_faults < c.keep_faults). inl (omega (arith, s.only.untouched.keeper))) (λ full. inr full) r.1,
)
recalled_err plan a b c place actor e kept (stop.BadKeep i) s here name r = recalled_bad plan a b c place actor e kept i s here name r
recalled_err plan a b c place actor e kept stop.WriteFault s here name r = absurd r
recalled_err plan a b c place actor e kept stop.LinkFault s here name r = absurd r
recalled_err plan a b c place actor e kept (stop.ClockBack x y) s here name r = absurd r
recalled_err plan a b c place actor e kept (stop.Left why) s here name r = absurd r
recalled_err plan a b c place actor e kept stop.TableFull s here name r = absurd r

-- what was taken is what was there
pub kept_taken : (plan : Plan) (place : ℕ) (list : List (List Record)) (xs : List (Option Kept)) (x : Option Kept) (k : Kept) → place < length plan.actors → x ≡ slice_index_or xs place x → x ≡ Some k → (are : AreKept plan place list xs)
    → (h : KeptHere plan place list xs) → IsKeptAt plan place h.records k
kept_taken plan place list xs x k low value is are h =
    let same : Some h.k ≡ Some k = sym (get_or_from_slice_get xs place (Some h.k) x h.here) ∙ sym value ∙ is in
    let one : h.k ≡ k = cc in
    subst (λ (y : Kept). IsKeptAt plan place h.records y) one h.is
