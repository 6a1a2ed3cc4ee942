-- What an arbitrator's call answers is what the rules say.
use Rattle.std.proofs.Common.{◌≡◌, ◌≤◌, ◌<◌, Bool, true, false, List, [], ◌∷◌, Option, Some, None, refl, sym, ap, subst, ◌∙◌, arith, length}
use Rattle.std.specs.Prelude.{nat_lt, Ok, Err}
use Rattle.std.specs.Option.{option_to_list}
use Rattle.std.proofs.lemmas.Bool.Decides.{nat_tests}
use Rattle.arbiter_core.specs.Arbiters.{Arbiter, Outcome, entries, frame_call, is_full_for, most_entries, taken, with_kept}
use Rattle.arbiter_core.specs.declared.answer.Answer.{Answer}
use Rattle.arbiter_core.specs.declared.answer.Answer.TheVariants.{Reply, Nothing}
use Rattle.arbiter_core.specs.declared.answer.ArbiterError.{ArbiterError}
use Rattle.arbiter_core.proofs.Calls.{Agreed, Agrees, accuse_agrees, claim_agrees, nothing_agrees, question_agrees}
use Rattle.fabric_lemmas.specs.Maps.{rises}
use Rattle.fabric_terms.specs.declared.config.FabricConfig.{FabricConfig}
use Rattle.fabric_terms.specs.declared.message.Body.{Body}
use Rattle.fabric_terms.specs.declared.message.Body.TheVariants as body
use Rattle.fabric_terms.specs.declared.message.Message.{Message}
use Rattle.fabric_terms.specs.declared.record.Record.{Record}
use Rattle.ring_points.specs.declared.who.Who.{Who}
use Rattle.ring_rules.specs.Arbiters.{takes_frame}
use Rattle.world_rules.specs.Arbiters.{ArbiterState, arbiter_takes}
use Rattle.unit_rules.specs.Fabric.{fabric}
use Rattle.world_rules.specs.Uppers.{Did}
use Rattle.world_rules.proofs.Rows.{arbiter_step-is}
use Rattle.ring_world.specs.Rulings.{Hears, ruled_by}
use Rattle.ring_world.specs.ConfiguredArbiters.{state_of}
use Rattle.ring_world.specs.declared.configured_arbiter.ConfiguredArbiter.{ConfiguredArbiter}
use Rattle.ring_world.proofs.Entries.{few_entries}
use Rattle.arbiter_core.proofs.Steps.{is_ruling}

-- the call answers what was done
abbrev AgreesOn : Arbiter → Did (ArbiterState fabric) → Outcome Answer → Type 0
AgreesOn a d o = Agrees a d.records d.sent o

module _ (c : FabricConfig) (m : Message) (a : Arbiter) where
  by_body : (said : Body) → m.body ≡ said → (b : Bool) → AgreesOn a (arbiter_takes fabric c a.number m (state_of a) said b) (taken b said m.from a)
  by_body said e false = nothing_agrees a
  by_body (body.Accuse victim) e true = accuse_agrees m.from a victim
  by_body (body.Claim victim round) e true = claim_agrees m.from a victim round
  by_body said e true = question_agrees m.from a m.body said e

  agrees : (o : Outcome Answer) → frame_call m a ≡ o → AgreesOn a (ruled_by c m a) o
  agrees o call =
      subst (λ (x : Outcome Answer). AgreesOn a (ruled_by c m a) x) call
      (subst (λ (d : Did (ArbiterState fabric)). AgreesOn a d (frame_call m a)) (sym (arbiter_step-is fabric c a.number m (state_of a))) (by_body m.body refl (takes_frame a.number m)))

-- by what the call has answered, the seat that keeps it

pub hears_nothing : (c : FabricConfig) (m : Message) (old : ConfiguredArbiter) (n : Arbiter) (answer : Answer) → frame_call m old.arbiter ≡ (Ok answer, n) → answer ≡ Nothing
    → Hears c m old (record old { arbiter = n }) None
hears_nothing c m old n answer e is =
    let d : Did (ArbiterState fabric) = ruled_by c m old.arbiter in
    let h : Agreed old.arbiter d.records d.sent [] [] n = agrees c m old.arbiter (Ok Nothing, n) (e ∙ ap (λ (x : Answer). (Ok x, n)) is) in
    record { runs = refl; arbiter = h.now; sent = h.sent }

pub hears_reply : (c : FabricConfig) (m : Message) (old : ConfiguredArbiter) (n : Arbiter) (answer : Answer) (kept : Option Record) (to : Who) (said : Body)
    → frame_call m old.arbiter ≡ (Ok answer, n) → answer ≡ Reply kept to said → Hears c m old (record old { arbiter = n }) (Some (to, said))
hears_reply c m old n answer kept to said e is =
    let d : Did (ArbiterState fabric) = ruled_by c m old.arbiter in
    let h : Agreed old.arbiter d.records d.sent (option_to_list kept) ((to, said) ∷ []) n =
    agrees c m old.arbiter (Ok (Reply kept to said), n) (e ∙ ap (λ (x : Answer). (Ok x, n)) is) in
    record { runs = refl; arbiter = h.now; sent = h.sent }

-- an arbitrator of few entries is not full
no_config : FabricConfig
no_config = record { first = 0; near = 0; rounds = 0; lease = 0; answer = 0; bound = record { d = 0; grain = 0 }; nodes = []; arbiters = [] }

full_is : (records : List Record) (a : Arbiter) → rises a.registers ≡ true → length records ≤ 1 → is_full_for records a ≡ true → most_entries ≤ entries a
full_is [] a up few e = absurd (cc)
full_is (r ∷ rs) a up few e =
    let h : nat_lt most_entries (entries (with_kept (r ∷ rs) a)) ≡ true = e in
    grind (arith, nat_tests, h, few, few_entries (r ∷ rs) a up)

pub not_full : (m : Message) (a n : Arbiter) (e : ArbiterError) → rises a.registers ≡ true → entries a < most_entries → frame_call m a ≡ (Err e, n) → ⊥
not_full m a n e up few h =
    let d : Did (ArbiterState fabric) = ruled_by no_config m a in
    let full : is_full_for d.records a ≡ true = agrees no_config m a (Err e, n) h in
    let le : most_entries ≤ entries a = full_is d.records a up (is_ruling no_config a.number m (state_of a)).few full in
    absurd (omega arith)
