-- What a register answers and records is what a row of partitions may do, and the table of accusations and claims stays.
use Rattle.std.proofs.Common.{◌≡◌, ℕ, ◌≤◌, Bool, true, false, [], ◌∷◌, Option, Some, None, refl, sym, ap, ◌∙◌, arith, length}
use Rattle.std.specs.Prelude.{if◌then◌else◌}
use Rattle.fabric_terms.specs.declared.message.Body.{Body}
use Rattle.fabric_terms.specs.declared.message.Body.TheVariants as body
use Rattle.fabric_terms.specs.declared.record.Record.{Record}
use Rattle.ring_points.specs.declared.unit.Config.{Config}
use Rattle.ring_points.specs.declared.unit.Epoch.{Epoch}
use Rattle.ring_points.specs.declared.who.Who.{Who}
use Rattle.ring_rules.specs.Arbiters.{Table, table_after, table_with}
use Rattle.unit_rules.specs.Deeds.{Acted, Keep, Send, frames_of, records_of}
use Rattle.unit_rules.specs.Registers.{Register, Registers, Reply, done_received, is_above, is_below, is_newer, is_prepared_for, prepare_received, question_answered, question_received, register_of, registers_after, replied, vote_in, vote_received, vote_settled}

-- a record that a row of partitions may keep, and that leaves the table of accusations and claims
abbrev pub LeavesTable : Option Record → Type 0
LeavesTable None = Unit {0}
LeavesTable (Some r) = (records_of (Keep r ∷ []) ≡ r ∷ []) × ((table : Table) → table_with table r ≡ table)

pub record IsRegisters (r : Reply) : Type 0 where
  pub body : (to : Who) → frames_of (Send to r.body ∷ []) ≡ (to, r.body) ∷ []
  pub kept : LeavesTable r.kept

abbrev pub AnswersSo : Option Reply → Type 0
AnswersSo None = Unit {0}
AnswersSo (Some r) = IsRegisters r

either : (test : Bool) (a b : Reply) → IsRegisters a → IsRegisters b → IsRegisters (if test then a else b)
either true a b h k = h
either false a b h k = k

prepare_so : (partition : ℕ) (epoch : Epoch) (asker : Who) (r : Register) → IsRegisters (prepare_received partition epoch asker r)
unfolding prepare_received
prepare_so partition epoch asker r =
    either (is_above r.prepared epoch) _ _ (record { body = λ to. refl; kept = (refl, λ table. refl) })
    (either (is_prepared_for r.prepared epoch asker) _ _ (record { body = λ to. refl; kept = tt }) (record { body = λ to. refl; kept = tt }))

settled_so : (config : Config) (o : Option Config) → IsRegisters (vote_settled config o)
settled_so config None = record { body = λ to. refl; kept = (refl, λ table. refl) }
settled_so config (Some first) = record { body = λ to. refl; kept = tt }

vote_so : (config : Config) (r : Register) → IsRegisters (vote_received config r)
unfolding vote_received
vote_so config r = either (is_below r.prepared config.epoch) _ _ (record { body = λ to. refl; kept = tt }) (settled_so config (vote_in config.epoch r.votes))

done_so : (config : Config) (r : Register) → IsRegisters (done_received config r)
unfolding done_received
done_so config r =
    either (is_below r.prepared config.epoch) _ _ (record { body = λ to. refl; kept = tt })
    (either (is_newer config.epoch r.done) _ _ (record { body = λ to. refl; kept = (refl, λ table. refl) }) (record { body = λ to. refl; kept = tt }))

pub answers_so : (said : Body) (asker : Who) (rs : Registers) → AnswersSo (question_answered said asker rs)
answers_so (body.Prepare partition epoch) asker rs = prepare_so partition epoch asker (register_of partition rs)
answers_so (body.Vote config) asker rs = vote_so config (register_of config.partition rs)
answers_so (body.DoneAsk config) asker rs = done_so config (register_of config.partition rs)
answers_so _ asker rs = tt

-- what is recorded in a row of the registers is one record at most; it makes them what they are, and leaves the table
pub record KeepsRegisters (rs : Registers) (a : Acted Registers) : Type 0 where
  pub state : a.state ≡ registers_after rs (records_of a.deeds)
  pub apart : (table : Table) → table_after table (records_of a.deeds) ≡ table
  pub few : length (records_of a.deeds) ≤ 1

replied_by : (asker : Who) (rs : Registers) (kept : Option Record) (said : Body) → LeavesTable kept → KeepsRegisters rs (replied asker rs (Some (record { kept = kept; body = said })))
replied_by asker rs None said h = record { state = refl; apart = λ table. refl; few = omega arith }
replied_by asker rs (Some r) said h = record {
  state = ap (registers_after rs) (sym h.0);
  apart = λ table. ap (table_after table) h.0 ∙ h.1 table;
  few = omega (arith, ap length h.0);
}

replied_so : (asker : Who) (rs : Registers) (o : Option Reply) → AnswersSo o → KeepsRegisters rs (replied asker rs o)
replied_so asker rs None h = record { state = refl; apart = λ table. refl; few = omega arith }
replied_so asker rs (Some r) h = replied_by asker rs r.kept r.body h.kept

pub question_keeps : (said : Body) (asker : Who) (rs : Registers) → KeepsRegisters rs (question_received said asker rs)
question_keeps said asker rs = replied_so asker rs (question_answered said asker rs) (answers_so said asker rs)
