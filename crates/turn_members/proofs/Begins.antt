-- The start of an arbitrator.
use Rattle.std.proofs.Common.{◌≡◌, ℕ, Bool, true, false, cond, List, [], Option, None, refl, sym, ap, subst, ◌∙◌}
use Rattle.std.specs.Prelude.{Err, Ok, nat_lt}
use Rattle.arbiter_core.specs.Arbiters.{Arbiter, entries, most_entries, restore_call, restored}
use Rattle.arbiter_core.specs.declared.answer.ArbiterError.{ArbiterError}
use Rattle.arbiter_core.specs.declared.answer.ArbiterError.TheVariants.{TableFull}
use Rattle.unit_rules.specs.Fabric.{fabric}
use Rattle.fabric_terms.specs.declared.config.FabricConfig.{FabricConfig}
use Rattle.fabric_terms.specs.declared.record.Record.{Record}
use Rattle.fabric_terms.specs.declared.command.Command.{Command}
use Rattle.ring_points.specs.declared.who.Who.{Who}
use Rattle.ring_rules.specs.declared.input.Input.{Input}
use Rattle.ring_rules.specs.declared.input.Input.TheVariants as input
use Rattle.turn_members.specs.Members.{Does, state_of}
use Rattle.turn_members.specs.declared.deed.Deed.{Deed}
use Rattle.turn_rules.specs.Steps.{Arbiter as Running, Member, arbiter_stepped, begun, begun_as, exceeds, stepped}
use Rattle.world_rules.proofs.Rows.{arbiter_begun-is}
use Rattle.world_rules.specs.Arbiters.{ArbiterState, arbiter_begun}
use Rattle.world_rules.specs.Events.{is_arbiter_actor}
use Rattle.world_rules.specs.Uppers.{idle}
use Rattle.world_rules.specs.Worlds.{arbiter_who}

-- by the kind of actor
pub begun_does : (c : FabricConfig) (whole : Who) (turn : ℕ) (last : Option ℕ) (actor : ℕ) (records : List Record) (b : Bool) (new : Member) (deed : Deed) → is_arbiter_actor actor ≡ b → Does (begun_as c whole turn last actor records b) new deed → Does (begun c whole turn last actor records) new deed
unfolding begun
begun_does c whole turn last actor records b new deed e k = subst (λ (t : Bool). Does (begun_as c whole turn last actor records t) new deed) (sym e) k

pub begun_full : (c : FabricConfig) (whole : Who) (turn : ℕ) (last : Option ℕ) (actor : ℕ) (records : List Record) (b : Bool) → is_arbiter_actor actor ≡ b → exceeds (begun_as c whole turn last actor records b).member ≡ true → exceeds (begun c whole turn last actor records).member ≡ true
unfolding begun
begun_full c whole turn last actor records b e k = subst (λ (t : Bool). exceeds (begun_as c whole turn last actor records t).member ≡ true) (sym e) k

-- the arbitrator that its records make
state_begun : (c : FabricConfig) (number : ℕ) (records : List Record) → state_of (restored number records) ≡ arbiter_begun fabric c number records
state_begun c number records = sym (arbiter_begun-is fabric c number records)

exceeds_is : (number : ℕ) (records : List Record) → exceeds (Running number (state_of (restored number records))) ≡ nat_lt most_entries (entries (restored number records))
unfolding exceeds
exceeds_is number records = refl

full_from : (test : Bool) (a : Arbiter) (e : ArbiterError) → cond test (Err TableFull) (Ok a) ≡ Err e → test ≡ true
full_from true a e h = refl
full_from false a e h = absurd (cc)

pub restored_full : (c : FabricConfig) (number : ℕ) (rs records : List Record) (e : ArbiterError) → rs ≡ records → restore_call number rs ≡ Err e → exceeds (Running number (arbiter_begun fabric c number records)) ≡ true
restored_full c number rs records e same h =
    let call : restore_call number records ≡ Err e = ap (restore_call number) (sym same) ∙ h in
    ap (λ (s : ArbiterState fabric). exceeds (Running number s)) (sym (state_begun c number records)) ∙ exceeds_is number records
    ∙ full_from (nat_lt most_entries (entries (restored number records))) (restored number records) e call

record IsRestored (test : Bool) (a b : Arbiter) : Type 0 where
  pub room : test ≡ false
  pub is : b ≡ a

restored_from : (test : Bool) (a b : Arbiter) → cond test (Err TableFull) (Ok a) ≡ Ok b → IsRestored test a b
restored_from true a b h = absurd (cc)
restored_from false a b h = record { room = refl; is = cc }

pub restored_does : (c : FabricConfig) (number : ℕ) (rs records : List Record) (a : Arbiter) (deed : Deed) → rs ≡ records → restore_call number rs ≡ Ok a
    → deed.head ≡ record { line = 0; time = None; who = arbiter_who number; reading = None } → deed.outcome.records ≡ [] → deed.outcome.frames ≡ [] → deed.outcome.reports ≡ []
    → Does (arbiter_stepped 0 number (idle (arbiter_begun fabric c number records))) (Running a.number (state_of a)) deed
restored_does c number rs records a deed same h head kept frames reports =
    let call : restore_call number records ≡ Ok a = ap (restore_call number) (sym same) ∙ h in
    let k = restored_from (nat_lt most_entries (entries (restored number records))) (restored number records) a call in
    record {
      makes = record {
        member = ap (λ (x : Arbiter). Running x.number (state_of x)) k.is ∙ ap (λ (s : ArbiterState fabric). Running number s) (state_begun c number records);
        head = head;
        records = kept;
        frames = frames;
        reports = reports;
      };
      room = ap (λ (s : ArbiterState fabric). exceeds (Running number s)) (sym (state_begun c number records)) ∙ exceeds_is number records ∙ k.room;
    }

-- an arbitrator that hears nothing

still_does : (turn : ℕ) (a : Arbiter) (deed : Deed) → exceeds (Running a.number (state_of a)) ≡ false → deed.head ≡ record { line = turn; time = None; who = arbiter_who a.number; reading = None }
    → deed.outcome.records ≡ [] → deed.outcome.frames ≡ [] → deed.outcome.reports ≡ [] → Does (arbiter_stepped turn a.number (idle (state_of a))) (Running a.number (state_of a)) deed
still_does turn a deed room head kept frames reports = record {
  makes = record { member = refl; head = head; records = kept; frames = frames; reports = reports };
  room = room;
}

pub fire_does : (c : FabricConfig) (turn : ℕ) (last : Option ℕ) (i : Input) (a : Arbiter) (deed : Deed) → i ≡ input.Fire → exceeds (Running a.number (state_of a)) ≡ false
    → deed.head ≡ record { line = turn; time = None; who = arbiter_who a.number; reading = None } → deed.outcome.records ≡ [] → deed.outcome.frames ≡ [] → deed.outcome.reports ≡ []
    → Does (stepped c turn last i (Running a.number (state_of a))) (Running a.number (state_of a)) deed
unfolding stepped
fire_does c turn last i a deed is room head kept frames reports =
    subst (λ (x : Input). Does (stepped c turn last x (Running a.number (state_of a))) (Running a.number (state_of a)) deed) (sym is) (still_does turn a deed room head kept frames reports)

pub bid_does : (c : FabricConfig) (turn : ℕ) (last : Option ℕ) (i : Input) (command : Command) (a : Arbiter) (deed : Deed) → i ≡ input.Do command → exceeds (Running a.number (state_of a)) ≡ false
    → deed.head ≡ record { line = turn; time = None; who = arbiter_who a.number; reading = None } → deed.outcome.records ≡ [] → deed.outcome.frames ≡ [] → deed.outcome.reports ≡ []
    → Does (stepped c turn last i (Running a.number (state_of a))) (Running a.number (state_of a)) deed
unfolding stepped
bid_does c turn last i command a deed is room head kept frames reports =
    subst (λ (x : Input). Does (stepped c turn last x (Running a.number (state_of a))) (Running a.number (state_of a)) deed) (sym is) (still_does turn a deed room head kept frames reports)
