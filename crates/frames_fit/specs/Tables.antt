-- An arbitrator's table, and kept records, whose numbers and names a frame can carry.
use Rattle.std.specs.Prelude.{ℕ, ◌&&◌, All, IsTrue}
use Rattle.fabric_terms.specs.declared.record.Record.{Record}
use Rattle.fabric_terms.specs.declared.record.Record.TheVariants.{AccusedBy, Boot, ClaimedBy}
use Rattle.fabric_terms.specs.Fields.{is_counted, is_round, is_who}
use Rattle.ring_points.specs.declared.who.Who.{Who}
use Rattle.ring_rules.specs.Arbiters.{Table}

-- an accused instance and its first accuser
abbrev pub AccusationInRange : Who × Who → Type 0
AccusationInRange a = IsTrue (is_who a.0 && is_who a.1)

-- an accused instance, a round about it, and who claimed it first
abbrev pub ClaimInRange : Who × ℕ × Who → Type 0
ClaimInRange c = IsTrue (is_who c.0 && is_round c.1 && is_who c.2)

pub record TableInRange (t : Table) : Type 0 where
  pub accusations : All AccusationInRange t.accusations
  pub claims : All ClaimInRange t.claims

-- A record of an instance, an accusation or a claim is in range by what it says, and another one by what whoever keeps
-- it asks of it.
abbrev pub RecordInRange : (Record → Type 0) → Record → Type 0
RecordInRange Other (Boot instance) = IsTrue (is_counted instance)
RecordInRange Other (AccusedBy victim first) = AccusationInRange (victim, first)
RecordInRange Other (ClaimedBy victim round claimer) = ClaimInRange (victim, round, claimer)
RecordInRange Other r = Other r
