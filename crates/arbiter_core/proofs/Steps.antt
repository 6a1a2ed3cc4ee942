-- What an arbitrator's step leaves, and how little it does.
use Rattle.std.proofs.Common.{◌≡◌, ℕ, ◌≤◌, Bool, true, false, List, [], refl, sym, ap, subst, ◌∙◌, arith, length}
use Rattle.arbiter_core.proofs.FewRecords.{accused_apart, accused_few, claimed_apart, claimed_few}
use Rattle.arbiter_core.proofs.RegisterReplies.{question_keeps}
use Rattle.unit_rules.specs.Fabric.{fabric}
use Rattle.fabric_terms.specs.declared.config.FabricConfig.{FabricConfig}
use Rattle.fabric_terms.specs.declared.message.Body.{Body}
use Rattle.fabric_terms.specs.declared.message.Body.TheVariants as body
use Rattle.fabric_terms.specs.declared.message.Message.{Message}
use Rattle.fabric_terms.specs.declared.record.Record.{Record}
use Rattle.ring_rules.specs.Arbiters.{Table, accusation_kept, claim_kept, table_after, takes_frame}
use Rattle.unit_rules.specs.Deeds.{records_of}
use Rattle.unit_rules.specs.Registers.{Registers, question_received, registers_after}
use Rattle.world_rules.specs.Arbiters.{ArbiterState, arbiter_step, arbiter_takes}
use Rattle.world_rules.specs.Uppers.{Did}
use Rattle.world_rules.proofs.Rows.{arbiter_step-is}

-- with these records kept
abbrev pub kept_state : List Record → ArbiterState fabric → ArbiterState fabric
kept_state records s = record { table = table_after s.table records; beside = registers_after s.beside records }

-- a step leaves what it records, and does little
pub record IsRuling (s : ArbiterState fabric) (d : Did (ArbiterState fabric)) : Type 0 where
  pub state : d.state ≡ kept_state d.records s
  pub few : length d.records ≤ 1
  pub told : d.told ≡ []

module _ (c : FabricConfig) (arbiter : ℕ) (m : Message) (s : ArbiterState fabric) where
  -- the table is kept by its records, and the registers beside it stay
  apart : (records : List Record) → registers_after s.beside records ≡ s.beside → record s { table = table_after s.table records } ≡ kept_state records s
  apart records stays = ap (λ (rs : Registers). record s { table = table_after s.table records; beside = rs }) (sym stays)

  by_body : (said : Body) (b : Bool) → IsRuling s (arbiter_takes fabric c arbiter m s said b)
  by_body said false = record { state = refl; few = omega arith; told = refl }
  by_body (body.Accuse victim) true = record {
    state = apart (accusation_kept s.table.accusations m.from victim) (accused_apart s.table m.from victim s.beside);
    few = accused_few s.table m.from victim;
    told = refl;
  }
  by_body (body.Claim victim round) true = record {
    state = apart (claim_kept s.table m.from victim round) (claimed_apart s.table m.from victim round s.beside);
    few = claimed_few s.table m.from victim round;
    told = refl;
  }
  by_body _ true =
      let keeps = question_keeps m.body m.from s.beside in
      let recorded : List Record = records_of (question_received m.body m.from s.beside).deeds in
      record {
        state = ap (λ (rs : Registers). record s { beside = rs }) keeps.state
            ∙ ap (λ (t : Table). record s { table = t; beside = registers_after s.beside recorded }) (sym (keeps.apart s.table));
        few = keeps.few;
        told = refl;
      }

  pub is_ruling : IsRuling s (arbiter_step fabric c arbiter m s)
  is_ruling = subst (λ (d : Did (ArbiterState fabric)). IsRuling s d) (sym (arbiter_step-is fabric c arbiter m s)) (by_body m.body (takes_frame arbiter m))
