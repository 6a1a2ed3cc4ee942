-- An arbitrator as a value, and what each call answers and makes of it.
use Rattle.std.specs.Prelude.{◌≡◌, ◌≢◌, ℕ, ◌+◌, Bool, true, false, nat_lt, List, [], ◌∷◌, Option, Some, None, Result, Ok, Err, if◌then◌else◌}
use Rattle.std.specs.Option.{option_to_list}
use Rattle.ring_points.specs.declared.who.Who.{Who}
use Rattle.fabric_terms.specs.declared.message.Body.{Body}
use Rattle.fabric_terms.specs.declared.message.Body.TheVariants as body
use Rattle.fabric_terms.specs.declared.message.Message.{Message}
use Rattle.fabric_terms.specs.declared.record.Record.{Record}
use Rattle.fabric_terms.specs.declared.record.Record.TheVariants.{AccusedBy, ClaimedBy, PreparedBy, VotedFor, DoneFor}
use Rattle.ring_rules.specs.Arbiters.{Table, no_table, accusation_kept, accusation_ruled, claim_kept, claim_settled, table_after, takes_frame}
use Rattle.unit_rules.specs.Registers.{Registers, Reply as UnitReply, registers_after, question_answered}
use Rattle.arbiter_tables.specs.Registers.{registered}
use Rattle.arbiter_tables.specs.Tables.{entries_of}
use Rattle.arbiter_core.specs.declared.answer.Answer.{Answer}
use Rattle.arbiter_core.specs.declared.answer.Answer.TheVariants.{Reply, Nothing}
use Rattle.arbiter_core.specs.declared.answer.ArbiterError.{ArbiterError}
use Rattle.arbiter_core.specs.declared.answer.ArbiterError.TheVariants.{OutOfMemory, TableFull}

pub record Arbiter : Type 0 where
  pub number : ℕ
  pub table : Table
  pub registers : Registers

-- an entry is an accused instance, the claimer of a later round, a prepared epoch, a vote, or a done configuration
abbrev pub entries : Arbiter → ℕ
entries a = entries_of a.table + registered a.registers

-- an arbitrator has no more entries than this
abbrev pub most_entries : ℕ
most_entries = 1000000

-- with these records kept
abbrev pub with_kept : List Record → Arbiter → Arbiter
with_kept records a = record a { table = table_after a.table records; registers = registers_after a.registers records }

-- the answer of a call, and the arbitrator after it
abbrev pub Outcome : Type 0 → Type 0
Outcome A = Result A ArbiterError × Arbiter

-- what is recorded would make an entry too many
abbrev pub is_full_for : List Record → Arbiter → Bool
is_full_for [] a = false
is_full_for (r ∷ rs) a = nat_lt most_entries (entries (with_kept (r ∷ rs) a))

-- these records are kept and this is answered, where there is a place for them
abbrev pub kept_where_full : {A : Type 0} → Bool → List Record → A → Arbiter → Outcome A
kept_where_full true records answer a = (Err TableFull, a)
kept_where_full false records answer a = (Ok answer, with_kept records a)

abbrev pub keep_call : {A : Type 0} → List Record → A → Arbiter → Outcome A
keep_call records answer a = kept_where_full (is_full_for records a) records answer a

-- a record that an arbitrator keeps
abbrev pub arbiter_records : Record → List Record
arbiter_records (AccusedBy victim first) = AccusedBy victim first ∷ []
arbiter_records (ClaimedBy victim round claimer) = ClaimedBy victim round claimer ∷ []
arbiter_records (PreparedBy partition epoch preparer) = PreparedBy partition epoch preparer ∷ []
arbiter_records (VotedFor config) = VotedFor config ∷ []
arbiter_records (DoneFor config) = DoneFor config ∷ []
arbiter_records _ = []

-- what a record says is kept again
abbrev pub remember_call : Record → Arbiter → Outcome (Unit {0})
remember_call r a = keep_call (arbiter_records r) tt a

abbrev pub first_of : List Record → Option Record
first_of [] = None
first_of (r ∷ rs) = Some r

-- an accusation is ruled on, and a first one is recorded
abbrev pub accuse_call : Who → Who → Arbiter → Outcome Answer
accuse_call accuser victim a =
    let records = accusation_kept a.table.accusations accuser victim in
    let ruling = accusation_ruled a.table.accusations accuser victim in
    keep_call records (Reply (first_of records) accuser (body.Ruled victim ruling)) a

-- what a claimer is told, where somebody is kept
abbrev pub claim_told : Option Record → Who → Who → ℕ → Option Who → Answer
claim_told item claimer victim round None = Nothing
claim_told item claimer victim round (Some kept) = Reply item claimer (body.Kept victim round kept)

-- a claim is answered by whom the arbitrator keeps of the round, and the first of a later round is recorded
abbrev pub claim_call : Who → Who → ℕ → Arbiter → Outcome Answer
claim_call claimer victim round a =
    let records = claim_kept a.table claimer victim round in
    keep_call records (claim_told (first_of records) claimer victim round (claim_settled a.table claimer victim round)) a

-- what its partition's register says is recorded, and then answered
abbrev pub reply_call : Who → UnitReply → Arbiter → Outcome Answer
reply_call asker reply a = keep_call (option_to_list reply.kept) (Reply reply.kept asker reply.body) a

-- a question about a partition is answered by the registers, and another message not at all
abbrev pub question_call : Who → Option UnitReply → Arbiter → Outcome Answer
question_call asker None a = (Ok Nothing, a)
question_call asker (Some reply) a = reply_call asker reply a

-- only what the arbitrator takes is answered: an accusation, a claim, or a question about a partition
abbrev pub taken : Bool → Body → Who → Arbiter → Outcome Answer
taken false said from a = (Ok Nothing, a)
taken true (body.Accuse victim) from a = accuse_call from victim a
taken true (body.Claim victim round) from a = claim_call from victim round a
taken true said from a = question_call from (question_answered said from a.registers) a

abbrev pub frame_call : Message → Arbiter → Outcome Answer
frame_call m a = taken (takes_frame a.number m) m.body m.from a

-- the outcome is the one that is defined, but for want of memory; a refusal changes nothing
abbrev pub Answers : {A : Type 0} → Outcome A → Arbiter → Arbiter → Result A ArbiterError → Type 0
Answers defined old new (Ok answer) = defined ≡ (Ok answer, new)
Answers defined old new (Err e) = (new ≡ old) × (e ≢ OutOfMemory → defined ≡ (Err e, old))

-- an arbitrator that has recorded nothing
abbrev pub fresh : ℕ → Arbiter
fresh number = record { number = number; table = no_table; registers = [] }

-- the arbitrator that made these records
abbrev pub restored : ℕ → List Record → Arbiter
restored number records = with_kept records (fresh number)

abbrev pub restore_call : ℕ → List Record → Result Arbiter ArbiterError
restore_call number records =
    if nat_lt most_entries (entries (restored number records)) then Err TableFull else Ok (restored number records)

-- the result is the one that is defined, but for want of memory
abbrev pub Gives : Result Arbiter ArbiterError → Result Arbiter ArbiterError → Type 0
Gives defined (Ok a) = defined ≡ Ok a
Gives defined (Err e) = e ≢ OutOfMemory → defined ≡ Err e
