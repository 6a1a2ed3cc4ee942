-- The accusations at an arbitrator, and the claims of rounds.
use Rattle.std.specs.Prelude.{ℕ, Bool, true, false, not, ◌&&◌, ◌==◌, nat_lt, List, [], ◌∷◌, ◌++◌, Option, Some, None, if◌then◌else◌}
use Rattle.ring_points.specs.declared.who.Ruling.{Ruling}
use Rattle.ring_points.specs.declared.who.Ruling.TheVariants.{Granted, Taken, Refused}
use Rattle.ring_points.specs.declared.who.Who.{Who}
use Rattle.ring_points.specs.Whos.{same_who, arbiter_actor}
use Rattle.fabric_terms.specs.declared.message.Body.{Body}
use Rattle.fabric_terms.specs.declared.message.Body.TheVariants.{Kept}
use Rattle.fabric_terms.specs.declared.message.Message.{Message}
use Rattle.fabric_terms.specs.declared.record.Record.{Record}
use Rattle.fabric_terms.specs.declared.record.Record.TheVariants.{AccusedBy, ClaimedBy}

-- each accused instance with its first accuser, in the order of the accusations
abbrev pub Accusations : Type 0
Accusations = List (Who × Who)

abbrev pub first_accuser : Who → Accusations → Option Who
first_accuser victim [] = None
first_accuser victim (a ∷ rest) = if same_who a.0 victim then Some a.1 else first_accuser victim rest

-- what the arbitrator rules on the accuser, by who accused the accuser and who accused the victim first
abbrev pub ruling_by : Who → Option Who → Option Who → Ruling
ruling_by accuser (Some other) about_victim = Refused
ruling_by accuser None None = Granted
ruling_by accuser None (Some first) = if same_who first accuser then Granted else Taken

-- a first accuser, of whom none was accused, is recorded
abbrev pub first_kept : Who → Who → Option Who → Option Who → List Record
first_kept accuser victim None None = AccusedBy victim accuser ∷ []
first_kept accuser victim _ _ = []

-- what is answered to an accusation
unfoldable pub accusation_ruled : Accusations → Who → Who → Ruling
accusation_ruled table accuser victim = ruling_by accuser (first_accuser accuser table) (first_accuser victim table)

-- what is recorded of it before the answer leaves
unfoldable pub accusation_kept : Accusations → Who → Who → List Record
accusation_kept table accuser victim = first_kept accuser victim (first_accuser accuser table) (first_accuser victim table)

-- the first claimer of each later round about a victim, in the order of the claims
abbrev pub RoundClaims : Type 0
RoundClaims = List (Who × ℕ × Who)

abbrev pub is_round_of : Who → ℕ → Who × ℕ × Who → Bool
is_round_of victim round c = same_who c.0 victim && c.1 == round

abbrev pub first_claimer : Who → ℕ → RoundClaims → Option Who
first_claimer victim round [] = None
first_claimer victim round (c ∷ rest) = if is_round_of victim round c then Some c.2 else first_claimer victim round rest

-- what an arbitrator keeps of the ring
pub record Table : Type 0 where
  pub accusations : Accusations
  pub claims : RoundClaims

abbrev pub no_table : Table
no_table = record { accusations = []; claims = [] }

-- the same after a record
abbrev pub table_with : Table → Record → Table
table_with table (AccusedBy victim first) = record table { accusations = table.accusations ++ (victim, first) ∷ [] }
table_with table (ClaimedBy victim round claimer) = record table { claims = table.claims ++ (victim, round, claimer) ∷ [] }
table_with table _ = table

-- the same after these records, in their order
abbrev pub table_after : Table → List Record → Table
table_after table [] = table
table_after table (r ∷ rs) = table_after (table_with table r) rs

-- whom the arbitrator keeps of a round after a claim, by who accused the victim first and who claimed the round first:
-- nobody, where nobody accused the victim, and of the first round the first accuser
abbrev pub kept_by : Who → Option Who → Option Who → (is_first : Bool) → Option Who
kept_by claimer None claimed is_first = None
kept_by claimer (Some first) claimed true = Some first
kept_by claimer (Some first) (Some other) false = Some other
kept_by claimer (Some first) None false = Some claimer

-- the first claimer of a later round is recorded
abbrev pub claimer_kept : Who → Who → ℕ → Option Who → Option Who → (is_first : Bool) → List Record
claimer_kept claimer victim round (Some first) None false = ClaimedBy victim round claimer ∷ []
claimer_kept claimer victim round _ _ is_first = []

-- whom the arbitrator keeps of the round after this claim
unfoldable pub claim_settled : Table → Who → Who → ℕ → Option Who
claim_settled table claimer victim round =
    kept_by claimer (first_accuser victim table.accusations) (first_claimer victim round table.claims) (round == 1)

-- what is recorded of it before the answer leaves
unfoldable pub claim_kept : Table → Who → Who → ℕ → List Record
claim_kept table claimer victim round =
    claimer_kept claimer victim round (first_accuser victim table.accusations) (first_claimer victim round table.claims) (round == 1)

-- what is answered, where somebody is kept
abbrev pub claim_answer : Who → Who → ℕ → Option Who → List (Who × Body)
claim_answer claimer victim round None = []
claim_answer claimer victim round (Some kept) = (claimer, Kept victim round kept) ∷ []

-- an arbitrator takes frames of nodes to itself alone
abbrev pub takes_frame : ℕ → Message → Bool
takes_frame arbiter m = m.to.actor == arbiter_actor arbiter && not (nat_lt (arbiter_actor 0) m.from.actor)
