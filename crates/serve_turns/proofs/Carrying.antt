-- Records kept and frames sent, and nothing written, since the sink tells nothing.
use Rattle.std.proofs.Common.{arith, ◌≡◌, ℕ, List, [], map, Option, None, Result, Ok, Err, refl, ap, sym, subst, ◌∙◌}
use Rattle.edge_io.specs.declared.datagram.Datagram.{Datagram}
use Rattle.edge_io.specs.Edge.{Grew}
use Rattle.edge_io.specs.Told.{Told}
use Rattle.fabric_terms.specs.declared.config.FabricConfig.{FabricConfig}
use Rattle.fabric_terms.specs.declared.message.Message.{Message}
use Rattle.fabric_terms.specs.declared.record.Record.{Record}
use Rattle.fabric_turns.specs.Steps.{work_in}
use Rattle.keep_log.specs.Spellings.{spelling as record_spelling}
use Rattle.serve_turns.specs.Steps.{CarriesAll}
use Rattle.turn_effects.proofs.Carrying.{carried, ended_keeping, ended_sending}
use Rattle.turn_effects.proofs.Sending.{nothing_sent}
use Rattle.turn_effects.specs.Carried.{KeepsAll, KeptMore, SendsAll, SentMore}
use Rattle.turn_members.specs.declared.deed.Deed.{Deed}
use Rattle.turn_rules.specs.Effects.{WroteMore, own_sends, sent_by}
use Rattle.turn_rules.specs.Works.{Work, posts_of}
use Rattle.turn_rules.specs.declared.stop_cause.StopCause.{StopCause}
use Rattle.turn_rules.specs.declared.stop_cause.StopCause.TheVariants as stop

-- Where the sink tells nothing, it goes on telling nothing.

pub kept_silent : (actor : ℕ) (records : List (List ℕ)) (a b : Told) (r : Result (Unit {0}) StopCause) → KeepsAll actor records a b r → a.held ≡ None → b.held ≡ None
kept_silent actor records a b (Ok done) k silent = ap (λ (t : Told). t.held) k.rest ∙ silent
kept_silent actor records a b (Err stop.OutOfMemory) k silent = ap (λ (t : Told). t.held) k.1.rest ∙ silent
kept_silent actor records a b (Err stop.KeepFault) k silent = ap (λ (t : Told). t.held) k.1.0.rest ∙ silent
kept_silent actor records a b (Err stop.WriteFault) k silent = absurd k
kept_silent actor records a b (Err stop.LinkFault) k silent = absurd k
kept_silent actor records a b (Err (stop.ClockBack x y)) k silent = absurd k
kept_silent actor records a b (Err (stop.Left why)) k silent = absurd k
kept_silent actor records a b (Err (stop.BadKeep i)) k silent = absurd k
kept_silent actor records a b (Err stop.TableFull) k silent = absurd k

pub sent_silent : (all : List Datagram) (a b : Told) (r : Result (Unit {0}) StopCause) → SendsAll all a b r → a.held ≡ None → b.held ≡ None
sent_silent all a b (Ok done) p silent = ap (λ (t : Told). t.held) p.rest ∙ silent
sent_silent all a b (Err stop.OutOfMemory) p silent = ap (λ (t : Told). t.held) p.1.rest ∙ silent
sent_silent all a b (Err stop.KeepFault) p silent = absurd p
sent_silent all a b (Err stop.WriteFault) p silent = absurd p
sent_silent all a b (Err stop.LinkFault) p silent = absurd p
sent_silent all a b (Err (stop.ClockBack x y)) p silent = absurd p
sent_silent all a b (Err (stop.Left why)) p silent = absurd p
sent_silent all a b (Err (stop.BadKeep i)) p silent = absurd p
sent_silent all a b (Err stop.TableFull) p silent = absurd p

grew_silent : {A : Type 0} (x y : Option (List A)) (more : List A) → x ≡ None → Grew x y more
grew_silent {A} x y more silent held e = cc

wrote_silent : (a : Told) (text : List ℕ) → a.held ≡ None → WroteMore text a a
wrote_silent a text silent = record { held = grew_silent a.held a.held text silent; later = omega arith; rest = refl }

-- it ended at the records
pub ended_at_records : (s : Work) (a b : Told) (r : StopCause) → KeepsAll s.actor s.records a b (Err r) → CarriesAll s a b (Err r)
ended_at_records s a b stop.OutOfMemory k = ended_keeping s a b stop.OutOfMemory k
ended_at_records s a b stop.KeepFault k = ended_keeping s a b stop.KeepFault k
ended_at_records s a b stop.WriteFault k = absurd k
ended_at_records s a b stop.LinkFault k = absurd k
ended_at_records s a b (stop.ClockBack x y) k = absurd k
ended_at_records s a b (stop.Left why) k = absurd k
ended_at_records s a b (stop.BadKeep i) k = absurd k
ended_at_records s a b stop.TableFull k = absurd k

-- it ended at the frames, or behind them
pub ended_at_frames : (s : Work) (a b c : Told) (r : Result (Unit {0}) StopCause) → KeptMore s.actor s.records a b → SendsAll (own_sends s) b c r → b.held ≡ None → CarriesAll s a c r
ended_at_frames s a b c (Ok done) k p silent = carried s.actor s.records s.posts s.lines a b c c k p (wrote_silent c s.lines (ap (λ (t : Told). t.held) p.rest ∙ silent))
ended_at_frames s a b c (Err stop.OutOfMemory) k p silent = ended_sending s a b c stop.OutOfMemory k p
ended_at_frames s a b c (Err stop.KeepFault) k p silent = absurd p
ended_at_frames s a b c (Err stop.WriteFault) k p silent = absurd p
ended_at_frames s a b c (Err stop.LinkFault) k p silent = absurd p
ended_at_frames s a b c (Err (stop.ClockBack x y)) k p silent = absurd p
ended_at_frames s a b c (Err (stop.Left why)) k p silent = absurd p
ended_at_frames s a b c (Err (stop.BadKeep i)) k p silent = absurd p
ended_at_frames s a b c (Err stop.TableFull) k p silent = absurd p

-- memory was short when it was handed over, which changes nothing that the devices tell
pub hands_nothing : (all : List Datagram) (a b : Told) → b ≡ a → SendsAll all a b (Err stop.OutOfMemory)
hands_nothing all a b same = (0, subst (λ (t : Told). SentMore [] a t) (sym same) (nothing_sent a))

-- the endpoints stay open
pub all_opened : (s : Work) (a b : Told) (r : Result (Unit {0}) StopCause) → CarriesAll s a b r → b.opened ≡ a.opened
all_opened s a b (Ok done) k = k.stays.opened
all_opened s a b (Err stop.OutOfMemory) k = k.1.1.stays.opened
all_opened s a b (Err stop.KeepFault) k = k.1.1.stays.opened
all_opened s a b (Err stop.WriteFault) k = absurd k
all_opened s a b (Err stop.LinkFault) k = absurd k
all_opened s a b (Err (stop.ClockBack x y)) k = absurd k
all_opened s a b (Err (stop.Left why)) k = absurd k
all_opened s a b (Err (stop.BadKeep i)) k = absurd k
all_opened s a b (Err stop.TableFull) k = absurd k

-- What was kept and sent of a deed.

pub kept_of : (c : FabricConfig) (deed : Deed) (records : List Record) (a b : Told) (r : Result (Unit {0}) StopCause) → records ≡ deed.outcome.records → KeepsAll deed.head.who.actor (map record_spelling records) a b r
    → KeepsAll (work_in c deed).actor (work_in c deed).records a b r
kept_of c deed records a b r same k = subst (λ (rs : List Record). KeepsAll deed.head.who.actor (map record_spelling rs) a b r) same k

pub sent_of : (c c' : FabricConfig) (deed : Deed) (frames : List Message) (a b : Told) (r : Result (Unit {0}) StopCause) → c' ≡ c → frames ≡ deed.outcome.frames → SendsAll (map (sent_by deed.head.who.actor) (posts_of c' frames)) a b r
    → SendsAll (own_sends (work_in c deed)) a b r
sent_of c c' deed frames a b r config same k =
    subst (λ (ms : List Message). SendsAll (map (sent_by deed.head.who.actor) (posts_of c ms)) a b r) same (subst (λ (f : FabricConfig). SendsAll (map (sent_by deed.head.who.actor) (posts_of f frames)) a b r) config k)
