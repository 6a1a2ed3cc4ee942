-- What a whole arbitrator records and tells in a step.
use Rattle.std.proofs.Common.{◌≡◌, ℕ, ◌==◌, Bool, true, false, List, [], Option, Some, None, refl, sym}
use Rattle.fabric_terms.specs.declared.config.FabricConfig.{FabricConfig}
use Rattle.fabric_terms.specs.declared.message.Body.{Body}
use Rattle.fabric_terms.specs.declared.message.Body.TheVariants as body
use Rattle.fabric_terms.specs.declared.message.Message.{Message}
use Rattle.fabric_terms.specs.declared.record.Record.{Record}
use Rattle.fabric_terms.specs.declared.report.Report.{Report}
use Rattle.ring_points.specs.declared.who.Who.{Who}
use Rattle.ring_rules.specs.Arbiters.{Accusations, Table, accusation_kept, claim_kept, claimer_kept, table_after, first_accuser, first_claimer, first_kept, takes_frame}
use Rattle.world_rules.specs.Arbiters.{ArbiterState, arbiter_step, arbiter_takes}
use Rattle.world_rules.specs.Nodes.{boots_of}
use Rattle.world_rules.specs.Uppers.{Upper}
use Rattle.world_rules.specs.Above.{StaysAbove}
use Rattle.run_facts.proofs.Kept.{no_boots, no_entries}

pub record Answered (old new : Table) (records : List Record) (told : List Report) : Type 0 where
  pub silent : told ≡ []
  pub boots : boots_of records ≡ 0
  pub table : new ≡ table_after old records

first_boots : (accuser victim : Who) (about about_victim : Option Who) → boots_of (first_kept accuser victim about about_victim) ≡ 0
first_boots accuser victim None None = refl
first_boots accuser victim None (Some z) = refl
first_boots accuser victim (Some z) o = refl

pub kept_boots : (table : Accusations) (accuser victim : Who) → boots_of (accusation_kept table accuser victim) ≡ 0
unfolding accusation_kept
kept_boots table accuser victim = first_boots accuser victim (first_accuser accuser table) (first_accuser victim table)

claimer_boots : (claimer victim : Who) (round : ℕ) (about claimed : Option Who) (is_first : Bool) → boots_of (claimer_kept claimer victim round about claimed is_first) ≡ 0
claimer_boots claimer victim round None claimed is_first = refl
claimer_boots claimer victim round (Some first) (Some z) is_first = refl
claimer_boots claimer victim round (Some first) None true = refl
claimer_boots claimer victim round (Some first) None false = refl

pub claim_boots : (table : Table) (claimer victim : Who) (round : ℕ) → boots_of (claim_kept table claimer victim round) ≡ 0
unfolding claim_kept
claim_boots table claimer victim round =
    claimer_boots claimer victim round (first_accuser victim table.accusations) (first_claimer victim round table.claims) (round == 1)

module _ (a : Upper) (stays : StaysAbove a) (c : FabricConfig) (arbiter : ℕ) (m : Message) (s : ArbiterState a) where
  aside : Answered s.table s.table (a.beside_step c arbiter s.beside m).records []
  aside =
      let out = stays.beside c arbiter s.beside m in
      record {
        silent = refl;
        boots = no_boots (a.beside_step c arbiter s.beside m).records out.records;
        table = sym (no_entries s.table (a.beside_step c arbiter s.beside m).records out.records);
      }

  taken : (b : Body) (takes : Bool) → let d = arbiter_takes a c arbiter m s b takes in Answered s.table d.state.table d.records d.told
  taken b false = record { silent = refl; boots = refl; table = refl }
  taken (body.Accuse victim) true = record { silent = refl; boots = kept_boots s.table.accusations m.from victim; table = refl }
  taken (body.Claim victim round) true = record { silent = refl; boots = claim_boots s.table m.from victim round; table = refl }
  taken b true = aside

  pub arbiter_stepped : let d = arbiter_step a c arbiter m s in Answered s.table d.state.table d.records d.told
  unfolding arbiter_step
  arbiter_stepped = taken m.body (takes_frame arbiter m)
