-- Whatever has come to an actor, what it records and sends has a spelling.
use Rattle.std.proofs.Common.{◌≡◌, ℕ, Bool, true, false, List, [], ◌∷◌, Option, Some, IsTrue, refl, sym, ap, subst, ◌∙◌, arith}
use Rattle.arbiter_core.specs.declared.answer.ArbiterError.{ArbiterError}
use Rattle.std.specs.Prelude.{All, Err, IfOk, Ok, OnErr, Result, nat_lt}
use Rattle.std.proofs.lemmas.Bool.Decides.{nat_tests}
use Rattle.std.proofs.lemmas.List.Elements.{All-cons, All-head, All-nil, All-tail}
use Rattle.unit_rules.specs.Fabric.{fabric}
use Rattle.run_facts.proofs.Starts.{begun_in_told}
use Rattle.world_rules.specs.Starts.{node_begun_in}
use Rattle.fabric_terms.specs.Messages.{is_sound as is_sound_frame}
use Rattle.fabric_terms.specs.Ranges.{IsNumber}
use Rattle.fabric_terms.specs.Sent.{from_all}
use Rattle.fabric_terms.specs.Sound.{IsSound}
use Rattle.fabric_terms.specs.declared.config.FabricConfig.{FabricConfig}
use Rattle.fabric_terms.specs.declared.message.Message.{Message}
use Rattle.fabric_terms.specs.declared.record.Record.{Record}
use Rattle.fabric_terms.specs.declared.report.Head.{Head}
use Rattle.fabric_fit.specs.Records.{KeptRecord}
use Rattle.fabric_fit.specs.Steps.{ArbiterInRange, LiveInRange, NodeDoes, StepInFormat}
use Rattle.fabric_fit.proofs.Steps.{arbiters_begin, arbiters_stay, nodes_begin, nodes_stay}
use Rattle.frames_fit.specs.Formats.{InputInFormat}
use Rattle.keep_log.specs.Amounts.{nothing}
use Rattle.node_core.specs.Nodes.{FitsInput}
use Rattle.ring_points.specs.Whos.{arbiter_actor, node_instance}
use Rattle.ring_points.specs.declared.who.Who.{Who}
use Rattle.ring_rules.specs.Rings.{settings_of}
use Rattle.ring_rules.specs.declared.input.Input.{Input}
use Rattle.ring_rules.specs.declared.input.Input.TheVariants as input
use Rattle.run_facts.proofs.Steps.{ring_stepped}
use Rattle.turn_members.proofs.Records.{Spelled, arbiter_spelled, boot_spelled, kept_in_range, node_spelled}
use Rattle.turn_members.specs.Lives.{Came, FitsCame, Lives, member_after}
use Rattle.turn_members.specs.Members.{Does, GoesOn, IsDeedOf, IsOf, Makes, seen}
use Rattle.turn_members.specs.declared.deed.Deed.{Deed}
use Rattle.turn_members.specs.declared.member.Member.{Member as Running}
use Rattle.turn_rules.specs.Plans.{IsConfigured}
use Rattle.turn_rules.specs.Recalled.{IsGoodFor}
use Rattle.turn_rules.specs.Steps.{Member, Node, Arbiter, Step, Stepped, begun, begun_as, exceeds, node_stepped, arbiter_stepped, present, stepped}
use Rattle.world_rules.specs.Arbiters.{ArbiterState, arbiter_step}
use Rattle.world_rules.specs.Events.{arbiter_number, is_arbiter_actor}
use Rattle.world_rules.specs.Nodes.{NodeState, instance_begun, node_step}
use Rattle.world_rules.specs.Schedules.{is_configured_node}
use Rattle.world_rules.specs.Uppers.{Did}
use Rattle.world_rules.specs.Worlds.{arbiter_who}

abbrev Sendable : Message → Type 0
Sendable m = IsTrue (is_sound_frame m)

-- a member in its ranges, under its number
abbrev InRange : FabricConfig → Member → Type 0
InRange c (Node s) = LiveInRange c s
InRange c (Arbiter number s) = ArbiterInRange s

abbrev Named : ℕ → Member → Type 0
Named actor (Node s) = s.ring.me.actor ≡ actor
Named actor (Arbiter number s) = arbiter_actor number ≡ actor

record Fine (c : FabricConfig) (actor : ℕ) (m : Member) : Type 0 where
  range : InRange c m
  name : Named actor m

-- what it does has a spelling
record Writable (actor : ℕ) (s : Step) : Type 0 where
  whose : s.who.actor ≡ actor
  records : All Spelled s.records
  frames : All Sendable (from_all s.who s.sent)

record Goes (c : FabricConfig) (actor : ℕ) (d : Stepped) : Type 0 where
  fine : Fine c actor d.member
  step : Writable actor d.step

-- Names.

step_named : (c : FabricConfig) (now : ℕ) (i : Input) (s : NodeState fabric) → (node_step fabric c now i s).state.ring.me ≡ s.ring.me
unfolding node_step
step_named c now i s = (ring_stepped (settings_of c s.ring.me.actor) now i s.ring).name

start_named : (whole : Who) (c : FabricConfig) (node : ℕ) (records : List Record) → (node_begun_in fabric whole c node records).state.ring.me ≡ node_instance node (instance_begun records)
start_named whole c node records = (begun_in_told fabric whole c node records).name

-- what a node's start records

start_spelled : (whole : Who) (c : FabricConfig) (node : ℕ) (records : List Record) → All KeptRecord (node_begun_in fabric whole c node records).records → All Spelled (node_begun_in fabric whole c node records).records
unfolding node_begun_in
start_spelled whole c node records k = boot_spelled records k

-- an arbitrator's actor and its number
high_is : (actor : ℕ) → is_arbiter_actor actor ≡ true → arbiter_actor (arbiter_number actor) ≡ actor
high_is actor e = let h : nat_lt 32768 actor ≡ true = e in grind (arith, nat_tests, h)

module _ (c : FabricConfig) (sound : IsSound c) (actor : ℕ) where
  -- Starts.

  module _ (configured : IsConfigured c actor) (whole : Who) (turn : ℕ) (last : Option ℕ) (records : List Record) (good : IsGoodFor actor records) where
    node_goes : is_arbiter_actor actor ≡ false → Goes c actor (node_stepped turn (present last) (node_begun_in fabric whole c actor records))
    node_goes e =
        let listed : is_configured_node c actor ≡ true = configured e in
        let does : NodeDoes c (node_begun_in fabric whole c actor records) = nodes_begin whole c actor records sound listed (kept_in_range nothing records good.in_place) in
        let name : (node_begun_in fabric whole c actor records).state.ring.me.actor ≡ actor = ap (λ (w : Who). w.actor) (start_named whole c actor records) in
        record {
          fine = record { range = does.state; name = name };
          step = record { whose = name; records = start_spelled whole c actor records does.records; frames = does.frames };
        }

    arbiter_goes : is_arbiter_actor actor ≡ true → Goes c actor (begun_as c whole turn last actor records true)
    arbiter_goes e = record {
      fine = record { range = arbiters_begin c (arbiter_number actor) records sound (kept_in_range nothing records good.in_place); name = high_is actor e };
      step = record { whose = high_is actor e; records = All-nil Spelled; frames = All-nil Sendable };
    }

    begun_goes : Goes c actor (begun c whole turn last actor records)
    unfolding begun
    begun_goes = by (is_arbiter_actor actor) refl
      where
        by : (b : Bool) → is_arbiter_actor actor ≡ b → Goes c actor (begun_as c whole turn last actor records b)
        by true e = arbiter_goes e
        by false e = node_goes e

  -- Steps.

  module _ (turn : ℕ) (last : Option ℕ) (i : Input) (reads : IsNumber (present last)) (fits : InputInFormat i) where
    node_goes_on : (s : NodeState fabric) → Fine c actor (Node s) → Goes c actor (node_stepped turn (present last) (node_step fabric c (present last) i s))
    node_goes_on s f =
        let d : Did (NodeState fabric) = node_step fabric c (present last) i s in
        let does : NodeDoes c d = nodes_stay c (present last) i s sound reads fits f.range in
        let name : d.state.ring.me.actor ≡ actor = ap (λ (w : Who). w.actor) (step_named c (present last) i s) ∙ f.name in
        record {
          fine = record { range = does.state; name = name };
          step = record { whose = name; records = node_spelled c (present last) i s does.records; frames = does.frames };
        }

  arbiter_hears : (turn number : ℕ) (m : Message) → Sendable m → (s : ArbiterState fabric) → Fine c actor (Arbiter number s) → Goes c actor (arbiter_stepped turn number (arbiter_step fabric c number m s))
  arbiter_hears turn number m h s f =
      let does : StepInFormat ArbiterInRange (arbiter_who number) (arbiter_step fabric c number m s) = arbiters_stay c number m s sound h f.range in
      record {
        fine = record { range = does.state; name = f.name };
        step = record { whose = f.name; records = arbiter_spelled c number m h s; frames = does.frames };
      }

  stepped_goes : (turn : ℕ) (last : Option ℕ) (i : Input) → IsNumber (present last) → InputInFormat i → (m : Member) → Fine c actor m → Goes c actor (stepped c turn last i m)
  unfolding stepped
  stepped_goes turn last i reads fits (Node s) f = node_goes_on turn last i reads fits s f
  stepped_goes turn last (input.Frame m) reads fits (Arbiter number s) f = arbiter_hears turn number m fits s f
  stepped_goes turn last input.Fire reads fits (Arbiter number s) f = record { fine = f; step = record { whose = f.name; records = All-nil Spelled; frames = All-nil Sendable } }
  stepped_goes turn last (input.Do command) reads fits (Arbiter number s) f = record { fine = f; step = record { whose = f.name; records = All-nil Spelled; frames = All-nil Sendable } }

  -- Whatever has come.

  after_fine : (m : Member) (xs : List Came) → Fine c actor m → All FitsCame xs → Fine c actor (member_after c m xs)
  after_fine m [] f h = f
  after_fine m (x ∷ xs) f h =
      let fits = All-head FitsCame x xs h in
      (stepped_goes x.turn x.last x.input fits.reading fits.input (member_after c m xs) (after_fine m xs f (All-tail FitsCame x xs h))).fine

  lives_fine : IsConfigured c actor → (m : Member) → Lives c actor m → Fine c actor m
  lives_fine configured m l =
      subst (λ (n : Member). Fine c actor n) (sym l.is)
      (after_fine (begun c l.whole l.turn l.last actor l.records).member l.came (begun_goes configured l.whole l.turn l.last l.records l.good).fine l.fits)

-- What the code's calls leave.

fits_as : (i : Input) → FitsInput i → InputInFormat i
fits_as input.Fire h = h
fits_as (input.Frame m) h = h
fits_as (input.Do d) h = h

deed_from : (actor : ℕ) (d : Stepped) (new : Member) (deed : Deed) → Writable actor d.step → Makes d new deed → IsDeedOf actor deed
deed_from actor d new deed w k = record {
  whose = ap (λ (h : Head). h.who.actor) k.head ∙ w.whose;
  records = subst (λ (rs : List Record). All Spelled rs) (sym k.records) w.records;
  frames = subst (λ (ms : List Message). All Sendable ms) (sym k.frames) w.frames;
}

pub step_deed : (c : FabricConfig) (actor turn : ℕ) (last : Option ℕ) (i : Input) (old : Running) (new : Member) (deed : Deed) → IsOf c actor old → IsNumber (present last) → FitsInput i
    → Makes (stepped c turn last i (seen old)) new deed → IsDeedOf actor deed
step_deed c actor turn last i old new deed of reads fits k =
    deed_from actor (stepped c turn last i (seen old)) new deed
    (stepped_goes c of.sound actor turn last i reads (fits_as i fits) (seen old) (lives_fine c of.sound actor of.configured (seen old) of.lives)).step k

pub lives_on : (c : FabricConfig) (actor turn : ℕ) (last : Option ℕ) (i : Input) (old : Running) (new : Running) (deed : Deed) → IsOf c actor old → IsNumber (present last) → FitsInput i
    → Does (stepped c turn last i (seen old)) (seen new) deed → GoesOn c new → IsOf c actor new
lives_on c actor turn last i old new deed of reads fits k on =
    let l = of.lives in
    let x : Came = record { turn = turn; last = last; input = i } in
    record {
      sound = of.sound;
      configured = of.configured;
      goes_on = on;
      lives = record {
        whole = l.whole;
        turn = l.turn;
        last = l.last;
        records = l.records;
        good = l.good;
        came = x ∷ l.came;
        fits = All-cons FitsCame x l.came (record { reading = reads; input = fits_as i fits }) l.fits;
        is = k.makes.member ∙ ap (λ (m : Member). (stepped c turn last i m).member) l.is;
      };
      room = ap exceeds k.makes.member ∙ k.room;
    }

pub start_deed : (c : FabricConfig) (whole : Who) (actor : ℕ) (last : Option ℕ) (records : List Record) (new : Member) (deed : Deed) → IsSound c → IsConfigured c actor → IsGoodFor actor records
    → Makes (begun c whole 0 last actor records) new deed → IsDeedOf actor deed
start_deed c whole actor last records new deed sound configured good k =
    deed_from actor (begun c whole 0 last actor records) new deed (begun_goes c sound actor configured whole 0 last records good).step k

pub lives_first : (c : FabricConfig) (whole : Who) (actor : ℕ) (last : Option ℕ) (records : List Record) (new : Running) (deed : Deed) → IsSound c → IsConfigured c actor → IsGoodFor actor records
    → Does (begun c whole 0 last actor records) (seen new) deed → GoesOn c new → IsOf c actor new
lives_first c whole actor last records new deed sound configured good k on = record {
  sound = sound;
  configured = configured;
  goes_on = on;
  lives = record { whole = whole; turn = 0; last = last; records = records; good = good; came = []; fits = All-nil FitsCame; is = k.makes.member };
  room = ap exceeds k.makes.member ∙ k.room;
}

-- by what a call answers

pub ok_map : {T E : Type 0} {P Q : T → Type 0} (r : Result T E) → ((x : T) → P x → Q x) → IfOk r P → IfOk r Q
ok_map (Ok x) f h = f x h
ok_map (Err e) f h = h

pub runs_by : {T : Type 0} (deed : T → Deed) (c : FabricConfig) (actor turn now : ℕ) (i : Input) (old new : Running) (r : Result T ArbiterError) → IsNumber now → FitsInput i
    → IfOk r (λ x. (f : FabricConfig) (last : Option ℕ) → GoesOn f old → present last ≡ now → Does (stepped f turn last i (seen old)) (seen new) (deed x))
    → OnErr r (new ≡ old) → GoesOn c new → IsOf c actor old → IsOf c actor new
runs_by deed c actor turn now i old new (Ok x) reads fits k same on of = lives_on c actor turn (Some now) i old new (deed x) of reads fits (k c (Some now) of.goes_on refl) on
runs_by deed c actor turn now i old new (Err e) reads fits k same on of = subst (λ (m : Running). IsOf c actor m) (sym same) of

pub both_map : {T E : Type 0} {P R Q : T → Type 0} (r : Result T E) → ((x : T) → P x → R x → Q x) → IfOk r P → IfOk r R → IfOk r Q
both_map (Ok x) f h k = f x h k
both_map (Err e) f h k = h

pub begun_writes : (c : FabricConfig) (whole : Who) (actor now : ℕ) (records : List Record) (new : Running) (deed : Deed) → IsSound c → IsConfigured c actor → IsGoodFor actor records → Does (begun c whole 0 (Some now) actor records) (seen new) deed → IsDeedOf actor deed
begun_writes c whole actor now records new deed sound configured good k = start_deed c whole actor (Some now) records (seen new) deed sound configured good k.makes

pub begun_runs : (c : FabricConfig) (whole : Who) (actor now : ℕ) (records : List Record) (new : Running) (deed : Deed) → IsSound c → IsConfigured c actor → IsGoodFor actor records → Does (begun c whole 0 (Some now) actor records) (seen new) deed → GoesOn c new → IsOf c actor new
begun_runs c whole actor now records new deed sound configured good k on = lives_first c whole actor (Some now) records new deed sound configured good k on
