-- A whole arbitrator: its table of accusations and claims, and what runs beside it.
use Rattle.std.specs.Prelude.{ℕ, Bool, true, false, List, [], ◌∷◌, Option}
use Rattle.ring_points.specs.declared.who.Ruling.{Ruling}
use Rattle.ring_points.specs.declared.who.Who.{Who}
use Rattle.fabric_terms.specs.declared.config.FabricConfig.{FabricConfig}
use Rattle.fabric_terms.specs.declared.message.Body.{Body}
use Rattle.fabric_terms.specs.declared.message.Body.TheVariants as body
use Rattle.fabric_terms.specs.declared.message.Message.{Message}
use Rattle.fabric_terms.specs.declared.record.Record.{Record}
use Rattle.ring_rules.specs.Arbiters.{Table, no_table, accusation_kept, accusation_ruled, claim_kept, claim_settled, claim_answer, table_after, takes_frame}
use Rattle.world_rules.specs.Uppers.{Upper, Did, idle}

pub record ArbiterState (a : Upper) : Type 0 where
  pub table : Table
  pub beside : a.Beside

-- its start, from its kept records
unfoldable pub arbiter_begun : (a : Upper) → FabricConfig → ℕ → List Record → ArbiterState a
arbiter_begun a c arbiter records = record { table = table_after no_table records; beside = a.beside_begun c arbiter records }

-- an accusation is recorded, then answered to the accuser
abbrev pub accused_by : (a : Upper) → ArbiterState a → Who → Who → Ruling → List Record → Did (ArbiterState a)
accused_by a s accuser victim ruling records =
    record {
      state = record s { table = table_after s.table records };
      records = records;
      sent = (accuser, body.Ruled victim ruling) ∷ [];
      told = [];
    }

-- a claim is recorded, where it is the first of its round, then answered to the claimer, where somebody is kept
abbrev pub claimed_by : (a : Upper) → ArbiterState a → Who → Who → ℕ → Option Who → List Record → Did (ArbiterState a)
claimed_by a s claimer victim round kept records =
    record {
      state = record s { table = table_after s.table records };
      records = records;
      sent = claim_answer claimer victim round kept;
      told = [];
    }

abbrev pub beside_did : (a : Upper) → ArbiterState a → Did a.Beside → Did (ArbiterState a)
beside_did a s d = record { state = record s { beside = d.state }; records = d.records; sent = d.sent; told = [] }

-- its step: an accusation and a claim are the table's, and every other frame goes beside
abbrev pub arbiter_takes : (a : Upper) → FabricConfig → ℕ → Message → ArbiterState a → Body → Bool → Did (ArbiterState a)
arbiter_takes a c arbiter m s b false = idle s
arbiter_takes a c arbiter m s (body.Accuse victim) true = accused_by a s m.from victim (accusation_ruled s.table.accusations m.from victim) (accusation_kept s.table.accusations m.from victim)
arbiter_takes a c arbiter m s (body.Claim victim round) true =
    claimed_by a s m.from victim round (claim_settled s.table m.from victim round) (claim_kept s.table m.from victim round)
arbiter_takes a c arbiter m s _ true = beside_did a s (a.beside_step c arbiter s.beside m)

unfoldable pub arbiter_step : (a : Upper) → FabricConfig → ℕ → Message → ArbiterState a → Did (ArbiterState a)
arbiter_step a c arbiter m s = arbiter_takes a c arbiter m s m.body (takes_frame arbiter m)
