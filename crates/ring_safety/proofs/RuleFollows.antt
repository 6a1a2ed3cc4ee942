-- The machine follows what an arbitrator answers.
use Rattle.std.proofs.Common.{◌≡◌, ℕ, Bool, true, false, Option, Some, None, refl, sym, subst}
use Rattle.fabric_terms.specs.declared.config.FabricConfig.{FabricConfig}
use Rattle.fabric_terms.specs.declared.message.Body.{Body}
use Rattle.fabric_terms.specs.declared.message.Body.TheVariants as body
use Rattle.fabric_terms.specs.declared.message.Message.{Message}
use Rattle.ring_points.specs.declared.who.Who.{Who}
use Rattle.ring_points.specs.Whos.{arbiter_actor}
use Rattle.ring_machine.specs.Arbitration.{ruled, claimed}
use Rattle.ring_machine.specs.Events as events
use Rattle.fabric_lemmas.specs.Members.{IsMember}
use Rattle.ring_machine.specs.World as machine
use Rattle.ring_refinement.specs.Images.{machine_of}
use Rattle.ring_rules.specs.Arbiters.{accusation_kept, accusation_ruled, claim_kept, claim_settled, first_accuser, takes_frame}
use Rattle.world_rules.specs.Arbiters.{ArbiterState, arbiter_step, arbiter_takes, accused_by, claimed_by, beside_did}
use Rattle.world_rules.specs.Uppers.{Upper, Did, idle}
use Rattle.world_rules.specs.Worlds.{World, arbiter_acted}
use Rattle.world_rules.proofs.Rows.{arbiter_step-is}
use Rattle.world_rules.specs.Above.{StaysAbove}
use Rattle.ring_safety.proofs.ActFollows.{Followed}
use Rattle.ring_safety.proofs.Follows.{Follows}
use Rattle.run_facts.proofs.Tables.{table_of}
use Rattle.ring_safety.proofs.Rules.{Rule, rule_follows, aside, beside}
use Rattle.ring_safety.proofs.AccuseFollows.{answered}
use Rattle.ring_safety.proofs.ClaimFollows.{ignored, answered_claim}
use Rattle.ring_safety.proofs.Tales.{Tale, tale_in}

module _ (a : Upper) (c : FabricConfig) (w : World a) (t : Tale) (m : machine.World) (f : Follows c w t m) (arbiter : ℕ) (g : Message)
    (s : ArbiterState a) (sent_was : IsMember g w.frames) (kept : s.table ≡ table_of w (arbiter_actor arbiter)) where
  abbrev FollowedAs : Did (ArbiterState a) → Type 0
  FollowedAs d = Followed c (arbiter_acted a w arbiter d).world (tale_in (arbiter_acted a w arbiter d).entry t)

  pub rules_follow : StaysAbove a → events.IsSound (machine_of c) → FollowedAs (arbiter_step a c arbiter g s)
  rules_follow stays sound = subst FollowedAs (sym (arbiter_step-is a c arbiter g s)) (taken g.body refl (takes_frame arbiter g))
    where
      by : (v : machine.World) (d : Did (ArbiterState a)) → Rule c w m v arbiter d → FollowedAs d
      by v d rule = record { world = v; follows = rule_follows c w t m v arbiter d f rule }

      beside_follows : FollowedAs (beside_did a s (a.beside_step c arbiter s.beside g))
      beside_follows = by m (beside_did a s (a.beside_step c arbiter s.beside g)) (beside a c w t m f arbiter g s stays)

      claim_follows : (y : Who) (round : ℕ) → g.body ≡ body.Claim y round →
          FollowedAs (claimed_by a s g.from y round (claim_settled s.table g.from y round) (claim_kept s.table g.from y round))
      claim_follows y round h = go (first_accuser y (table_of w (arbiter_actor arbiter)).accusations) refl
        where
          go : (o : Option Who) → first_accuser y (table_of w (arbiter_actor arbiter)).accusations ≡ o →
              FollowedAs (claimed_by a s g.from y round (claim_settled s.table g.from y round) (claim_kept s.table g.from y round))
          go None e =
              by m (claimed_by a s g.from y round (claim_settled s.table g.from y round) (claim_kept s.table g.from y round)) (ignored a c w t m f arbiter g s sent_was kept y round h e)
          go (Some first) e =
              by (claimed m arbiter g.from y round)
              (claimed_by a s g.from y round (claim_settled s.table g.from y round) (claim_kept s.table g.from y round))
              (answered_claim a c w t m f arbiter g s sent_was kept y round h first e sound)

      taken : (b : Body) → g.body ≡ b → (takes : Bool) → FollowedAs (arbiter_takes a c arbiter g s b takes)
      taken b h false = by m (idle s) (aside a c w t m f arbiter g s (idle s) refl refl (λ z. refl) (λ q k. absurd k))
      taken (body.Accuse y) h true =
          by (ruled m arbiter g.from y) (accused_by a s g.from y (accusation_ruled s.table.accusations g.from y) (accusation_kept s.table.accusations g.from y))
          (answered a c w t m f arbiter g s sent_was kept y h sound)
      taken (body.Claim y round) h true = claim_follows y round h
      taken b h true = beside_follows
