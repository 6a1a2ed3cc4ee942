-- Where a record is bad, a run ends with it, and opens no endpoint.
use Rattle.std.proofs.Common.{arith, ◌≡◌, ◌<◌, ◌+◌, ℕ, zero, suc, Bool, true, false, List, [], ◌∷◌, length, map, Some, Result, Ok, Err, refl, ap, sym, subst, ◌∙◌, inl, inr, ⊎_elim}
use Rattle.std.specs.Prelude.{nat_lt, slice_get}
use Rattle.std.proofs.lemmas.Bool.{ltb-false, ltb-true}
use Rattle.std.proofs.lemmas.List.{append-nil}
use Rattle.std.proofs.lemmas.Option.{slice_get_within}
use Rattle.edge_io.specs.Edge.{Tells}
use Rattle.edge_io.specs.declared.endpoint.Endpoint.{Endpoint}
use Rattle.fabric_status.specs.declared.status.Status.{Status}
use Rattle.fabric_terms.specs.declared.record.Record.{Record}
use Rattle.keep_log.specs.Amounts.{Amount, nothing, with_record}
use Rattle.keep_log.specs.Places.{Follows, IsBadAfter, Stands}
use Rattle.keep_log.specs.Spellings.{spelling}
use Rattle.keep_log.proofs.Lists.{all_decided}
use Rattle.keep_log.proofs.Spelled.{one_spelling}
use Rattle.edge_io.specs.Told.{Told}
use Rattle.turn_rules.specs.Laws.{BadRecordsBar}
use Rattle.turn_rules.specs.Plans.{Plan}
use Rattle.turn_rules.specs.Recalled.{AreOf, IsBadFor, IsBadKeep, IsGoodFor, Recalled, TellsKept}
use Rattle.turn_rules.specs.Whole.{Bars, Ends, Finishes, IsBadEnd, OpenedOnly, Opening, StoppedRun, status_of}
use Rattle.turn_rules.specs.declared.stop_cause.StopCause.{StopCause}
use Rattle.turn_rules.specs.declared.stop_cause.StopCause.TheVariants as stop
use Rattle.world_rules.specs.Events.{is_arbiter_actor}

-- A list is good or bad, and its first bad record is one.

one_bad : (before : Amount) (lists : List (List ℕ)) (n m : ℕ) → IsBadAfter before lists n → IsBadAfter before lists m → n ≡ m
one_bad before [] n m f g = absurd f
one_bad before (bytes ∷ rest) zero zero f g = refl
one_bad before (bytes ∷ rest) zero (suc m) f g = absurd (f g.0 g.1.0)
one_bad before (bytes ∷ rest) (suc n) zero f g = absurd (g f.0 f.1.0)
one_bad before (bytes ∷ rest) (suc n) (suc m) f g =
    let a : Stands before f.0 bytes = f.1.0 in
    let b : Stands before g.0 bytes = g.1.0 in
    let same : g.0 ≡ f.0 = one_spelling g.0 f.0 b.sound a.sound (sym b.spelled ∙ a.spelled) in
    ap suc (one_bad (with_record before f.0) rest n m f.1.1 (subst (λ (r : Record). IsBadAfter (with_record before r) rest m) same g.1.1))

good_not_bad : (actor : ℕ) (lists : List (List ℕ)) (records : List Record) (i : ℕ) → Follows nothing lists records → AreOf (is_arbiter_actor actor) records → IsBadFor actor lists i → ⊥
good_not_bad actor lists records i follows kind bad =
    let decided = all_decided lists in
    ⊎_elim
    (λ (from : (n : ℕ) × ((i ≡ n + 1) × IsBadAfter nothing lists n)). decided.bad from.0 from.1.1 (record { records = records; follows = follows }))
    (λ (other : (rs : List Record) × ((i ≡ 1) × Follows nothing lists rs × (¬ AreOf (is_arbiter_actor actor) rs))).
    other.1.2 (subst (AreOf (is_arbiter_actor actor)) (decided.one records other.0 follows other.1.1) kind))
    bad

one_bad_for : (actor : ℕ) (lists : List (List ℕ)) (i j : ℕ) → IsBadFor actor lists i → IsBadFor actor lists j → j ≡ i
one_bad_for actor lists i j (inl f) (inl g) = g.1.0 ∙ ap (λ (n : ℕ). n + 1) (one_bad nothing lists g.0 f.0 g.1.1 f.1.1) ∙ sym f.1.0
one_bad_for actor lists i j (inl f) (inr g) = absurd ((all_decided lists).bad f.0 f.1.1 (record { records = g.0; follows = g.1.1 }))
one_bad_for actor lists i j (inr f) (inl g) = absurd ((all_decided lists).bad g.0 g.1.1 (record { records = f.0; follows = f.1.1 }))
one_bad_for actor lists i j (inr f) (inr g) = g.1.0 ∙ sym f.1.0

item_at : {X : Type 0} (xs : List X) (i : ℕ) → i < length xs → (x : X) × (slice_get xs i ≡ Some x)
item_at [] i low = absurd (omega arith)
item_at (x ∷ xs) zero low = (x, refl)
item_at (x ∷ xs) (suc i) low = item_at xs i (omega arith)

module _ (plan : Plan) (a : Told) (tells : TellsKept plan.actors a) where
  -- an actor whose list is bad is not among those whose records are good
  not_recalled : (i : ℕ) (k : IsBadKeep plan a i) (kept : List (List Record)) → Recalled plan.actors a kept → length k.kept < length kept → ⊥
  not_recalled i k kept r low =
      let one = item_at kept (length k.kept) low in
      let all = tells (length k.kept) k.actor k.here in
      let good : IsGoodFor k.actor.actor one.0 = r.good (length k.kept) k.actor one.0 k.here one.1 in
      let told : Tells (a.kept k.actor.actor) (map spelling one.0) = r.told (length k.kept) k.actor one.0 k.here one.1 in
      let spelled : k.lists ≡ map spelling one.0 = k.told all.0 all.1 ∙ sym (told all.0 all.1) in
      good_not_bad k.actor.actor k.lists one.0 i (record { spelled = spelled; in_place = good.in_place }) good.kind k.bad

  not_all : (i : ℕ) → IsBadKeep plan a i → (kept : List (List Record)) → Recalled plan.actors a kept → length kept ≡ length plan.actors → ⊥
  not_all i k kept r all = not_recalled i k kept r (omega (arith, all, slice_get_within plan.actors (length k.kept) k.actor k.here))

  bad_here : (i j : ℕ) (k : IsBadKeep plan a i) (l : IsBadKeep plan a j) → length k.kept ≡ length l.kept → j ≡ i
  bad_here i j k l same =
      let actors : Some l.actor ≡ Some k.actor = sym l.here ∙ ap (slice_get plan.actors) (sym same) ∙ k.here in
      let actor : l.actor ≡ k.actor = cc in
      let all = tells (length k.kept) k.actor k.here in
      let told : Tells (a.kept k.actor.actor) l.lists = subst (λ (e : Endpoint). Tells (a.kept e.actor) l.lists) actor l.told in
      let lists : l.lists ≡ k.lists = told all.0 all.1 ∙ sym (k.told all.0 all.1) in
      let bad : IsBadFor k.actor.actor l.lists j = subst (λ (e : Endpoint). IsBadFor e.actor l.lists j) actor l.bad in
      one_bad_for k.actor.actor k.lists i j k.bad (subst (λ (ls : List (List ℕ)). IsBadFor k.actor.actor ls j) lists bad)

  -- the first bad record of all is one
  first_bad : (i j : ℕ) → IsBadKeep plan a i → IsBadKeep plan a j → j ≡ i
  first_bad i j k l = by_order (nat_lt (length k.kept) (length l.kept)) (nat_lt (length l.kept) (length k.kept)) refl refl
    where
      by_order : (less more : Bool) → nat_lt (length k.kept) (length l.kept) ≡ less → nat_lt (length l.kept) (length k.kept) ≡ more → j ≡ i
      by_order true more e f = absurd (not_recalled i k l.kept l.before (ltb-true (length k.kept) (length l.kept) e))
      by_order false true e f = absurd (not_recalled j l k.kept k.before (ltb-true (length l.kept) (length k.kept) f))
      by_order false false e f = bad_here i j k l (omega (arith, ltb-false (length k.kept) (length l.kept) e, ltb-false (length l.kept) (length k.kept) f))

  module _ (i : ℕ) (k : IsBadKeep plan a i) where
    none_opened : (b : Told) → OpenedOnly plan 0 a b → b.opened ≡ a.opened
    none_opened b o = o.opened ∙ append-nil a.opened

    no_run : (b : Told) (r : StopCause) → StoppedRun plan a b r → ⊥
    no_run b r s = not_all i k s.0 s.1.0 s.1.1

    no_opening : (b : Told) (n : ℕ) → Opening plan n a b → ⊥
    no_opening b n o = not_all i k o.kept o.recalled o.all

    -- how the run ends before its last line
    ends : (b : Told) (r : Result (Unit {0}) StopCause) → Ends plan a r b → IsBadEnd i (status_of r) × (b.opened ≡ a.opened)
    ends b (Ok done) e = absurd (not_all i k e.0 e.1.0 e.1.1)
    ends b (Err stop.OutOfMemory) (inl o) = (tt, none_opened b o)
    ends b (Err stop.OutOfMemory) (inr (inl o)) = absurd (no_opening b o.0 o.1)
    ends b (Err stop.OutOfMemory) (inr (inr s)) = absurd (no_run b stop.OutOfMemory s)
    ends b (Err stop.KeepFault) (inl o) = (tt, none_opened b o.0)
    ends b (Err stop.KeepFault) (inr s) = absurd (no_run b stop.KeepFault s)
    ends b (Err stop.LinkFault) o = absurd (no_opening b o.0 o.1.1)
    ends b (Err (stop.BadKeep j)) o = (first_bad i j k o.0, none_opened b o.1)
    ends b (Err stop.WriteFault) s = absurd (no_run b stop.WriteFault s)
    ends b (Err (stop.ClockBack former latter)) s = absurd (no_run b (stop.ClockBack former latter) s)
    ends b (Err (stop.Left why)) s = absurd (no_run b (stop.Left why) s)
    ends b (Err stop.TableFull) s = absurd (no_run b stop.TableFull s)

    -- and with it
    finishes : (b : Told) (r : Result (Unit {0}) StopCause) (ended : Status) (c : Told) → Ends plan a r b → Finishes plan.turns r b ended c → IsBadEnd i ended × (c.opened ≡ a.opened)
    finishes b r ended c e (inl whole) =
        (subst (IsBadEnd i) (sym whole.0) (ends b r e).0, ap (λ (t : Told). t.opened) whole.1.rest ∙ (ends b r e).1)
    finishes b r ended c e (inr (inl memory)) =
        (subst (IsBadEnd i) (sym memory.0) tt, ap (λ (t : Told). t.opened) memory.1.1.rest ∙ (ends b r e).1)
    finishes b r ended c e (inr (inr failed)) =
        (subst (IsBadEnd i) (sym failed.0) tt, ap (λ (t : Told). t.opened) failed.1.1.0.rest ∙ (ends b r e).1)

-- what is said of a bad record holds of every run
pub barred : (plan : Plan) (a b : Told) (r : Result (Unit {0}) StopCause) (ended : Status) (c : Told) → Ends plan a r b → Finishes plan.turns r b ended c → Bars plan a ended c
barred plan a b r ended c e f = λ tells i k. finishes plan a tells i k b r ended c e f

pub bad_records_bar : BadRecordsBar
bad_records_bar plan a ended c r = barred plan a r.before_last r.result ended c r.ends r.finishes
