-- How long the lines of a transcript are, and that none has a line feed within.
use Rattle.std.proofs.Common.{◌≡◌, ℕ, ◌+◌, ◌*◌, ◌≤◌, ◌<◌, ◌^◌, true, false, List, [], ◌∷◌, ◌++◌, length, Option, None, Some, inl, arith, refl}
use Rattle.std.specs.Prelude.{◌==◌, All, codes, decimal}
use Rattle.std.proofs.lemmas.Bool.Decides.{nat_tests}
use Rattle.std.proofs.lemmas.List.Elements.{All-head, All-tail, All-weaker}
use Rattle.fabric_terms.specs.declared.report.Head.{Head}
use Rattle.fabric_terms.specs.declared.report.Reason.{Reason}
use Rattle.fabric_terms.specs.declared.report.Reason.TheVariants as reason
use Rattle.fabric_terms.specs.declared.report.Report.{Report}
use Rattle.fabric_terms.specs.declared.report.Report.TheVariants.{Own, Accused, Discharged, Heir, TookOver, Gave, Took, Returned, LeftRing, Stopped, Found, Nowhere, Promised, Adopted, Accepted, IsPrimary, Committed, Configured, Superseded, UnitList, Resolved, Unresolved, NameList, Refused}
use Rattle.fabric_terms.specs.declared.report.Verb.{Verb}
use Rattle.fabric_terms.specs.declared.report.Verb.TheVariants as verb
use Rattle.fabric_terms.specs.declared.report.Why.{Why}
use Rattle.fabric_terms.specs.declared.report.Why.TheVariants as why
use Rattle.fabric_terms.specs.Ranges.{AreRanges, FitsHead, FitsReading, FitsReason, IsEpoch, IsName, IsNameByte, IsNameValue, IsOptional, IsPartition, IsWho, IsWord}
use Rattle.fabric_terms.specs.Runs.{Clocks}
use Rattle.frames_fit.specs.Formats.{ReportInRange}
use Rattle.ring_points.specs.declared.interval.Interval.{Interval}
use Rattle.ring_points.specs.declared.unit.Epoch.{Epoch}
use Rattle.ring_points.specs.declared.who.Who.{Who}
use Rattle.schedule_rules.specs.Traces.{clock_word, clock_words}
use Rattle.line_format.specs.Heads.{head_text}
use Rattle.line_format.specs.Lists.{names_text, partitions_text}
use Rattle.line_format.specs.Names.{as_they_are}
use Rattle.line_format.specs.Refusals.{reason_text, verb_text, why_text}
use Rattle.line_format.specs.Reports.{report_text, report_words}
use Rattle.text_fields.specs.Epochs.{epoch_text}
use Rattle.text_fields.specs.Instances.{who_text}
use Rattle.text_fields.specs.Intervals.{ranges_text}
use Rattle.text_fields.specs.Numbers.{optional_text}
use Rattle.text_fields.specs.Points.{point_text}
use Rattle.trace_audit.specs.Recordings.{ClocksRise}
use Rattle.trace_audit.proofs.Lines.{inked}
use Rattle.trace_audit.proofs.Pieces.{Piece, epoch_piece, joined, list_piece, literal, longer, number_piece, optional_piece, partition_piece, point_piece, ranges_piece, total_fives, total_names, who_piece, within, word_piece}
use Rattle.trace_audit.proofs.Saying.{clocks_text, sent_words}

-- a word and what follows it
behind : {n : ℕ} (word text : List ℕ) → inked word ≡ true → Piece n text → Piece (length word + n) (word ++ text)
behind word text h k = joined word text (literal word h) k

-- two pieces with a blank between
two : {m n : ℕ} (a b : List ℕ) → Piece m a → Piece n b → Piece (m + (1 + n)) (a ++ (codes " " ++ b))
two a b h k = joined a (codes " " ++ b) h (behind (codes " ") b refl k)

-- Texts.

ink_bytes : (P : ℕ → Type 0) → ((b : ℕ) → P b → (b == 10) ≡ false) → (bytes : List ℕ) → All P bytes → inked bytes ≡ true
ink_bytes P each [] h = refl
ink_bytes P each (b ∷ bs) h = rw (each b (All-head P b bs h)) (ink_bytes P each bs (All-tail P b bs h))

name_piece : (name : List ℕ) → IsName name → Piece 64 name
name_piece name h = record { few = h.1; ink = ink_bytes IsNameByte (λ b k. let low = k.0 in grind (arith, nat_tests)) name h.2 }

value_piece : (value : List ℕ) → IsNameValue value → Piece 400 value
value_piece value h =
    record { few = h.1; ink = ink_bytes (λ b. (32 ≤ b) × (b ≤ 126)) (λ b k. let low = k.0 in grind (arith, nat_tests)) value h.2 }

names_piece : (names : List (List ℕ)) → length names ≤ 64 → All IsName names → Piece 4162 (names_text names)
names_piece [] few h = within 4162 [] refl (literal [] refl)
names_piece (n ∷ ns) few h =
    let long = total_names (n ∷ ns) in
    longer 4162 (names_text (n ∷ ns)) (omega arith)
    (behind (codes " ") _ refl (list_piece as_they_are 64 (n ∷ ns) (All-weaker IsName (λ y. Piece 64 (as_they_are y)) (λ y k. name_piece y k) (n ∷ ns) h)))

why_piece : (w : Why) → Piece 10 (why_text w)
why_piece why.Fence = within 10 _ refl (literal (codes "fence") refl)
why_piece why.Lost = within 10 _ refl (literal (codes "lost") refl)
why_piece why.Counters = within 10 _ refl (literal (codes "counters") refl)
why_piece why.AccusedFull = within 10 _ refl (literal (codes "accused") refl)

verb_piece : (v : Verb) → Piece 10 (verb_text v)
verb_piece verb.Link = within 10 _ refl (literal (codes "link") refl)
verb_piece verb.Part = within 10 _ refl (literal (codes "part") refl)
verb_piece verb.Give = within 10 _ refl (literal (codes "give") refl)
verb_piece verb.Join = within 10 _ refl (literal (codes "join") refl)
verb_piece verb.Create = within 10 _ refl (literal (codes "create") refl)
verb_piece verb.Swap = within 10 _ refl (literal (codes "swap") refl)
verb_piece verb.Heal = within 10 _ refl (literal (codes "heal") refl)
verb_piece verb.Lose = within 10 _ refl (literal (codes "lose") refl)
verb_piece verb.Write = within 10 _ refl (literal (codes "write") refl)
verb_piece verb.Resolve = within 10 _ refl (literal (codes "resolve") refl)
verb_piece verb.Names = within 10 _ refl (literal (codes "names") refl)

reason_piece : (r : Reason) → FitsReason r → Piece 30 (reason_text r)
reason_piece (reason.TooFew n) h = within 30 _ refl (behind (codes "toofew ") (decimal n) refl (number_piece n (omega arith)))
reason_piece reason.NotRouting h = within 30 _ refl (literal (codes "notrouting") refl)
reason_piece reason.Full h = within 30 _ refl (literal (codes "full") refl)
reason_piece reason.Linked h = within 30 _ refl (literal (codes "linked") refl)
reason_piece reason.NotLinked h = within 30 _ refl (literal (codes "notlinked") refl)
reason_piece reason.Busy h = within 30 _ refl (literal (codes "busy") refl)
reason_piece reason.TooMany h = within 30 _ refl (literal (codes "toomany") refl)
reason_piece reason.Empty h = within 30 _ refl (literal (codes "empty") refl)
reason_piece reason.NotManager h = within 30 _ refl (literal (codes "notmanager") refl)
reason_piece reason.Exists h = within 30 _ refl (literal (codes "exists") refl)
reason_piece reason.NoUnit h = within 30 _ refl (literal (codes "nounit") refl)
reason_piece reason.NotMember h = within 30 _ refl (literal (codes "notmember") refl)
reason_piece reason.NotPrimary h = within 30 _ refl (literal (codes "notprimary") refl)
reason_piece reason.NotReady h = within 30 _ refl (literal (codes "notready") refl)
reason_piece reason.Counters h = within 30 _ refl (literal (codes "counters") refl)

units_piece : (partitions : List ℕ) → All IsPartition partitions → length partitions ≤ 4096 → Piece 24577 (partitions_text partitions)
units_piece partitions h few =
    let long = total_fives partitions in
    longer 24577 (partitions_text partitions) (omega arith)
    (list_piece decimal 5 partitions (All-weaker IsPartition (λ p. Piece 5 (decimal p)) (λ p k. partition_piece p k) partitions h))

-- Reports.

in_epoch_piece : (p : ℕ) (e : Epoch) → IsPartition p → IsEpoch e → Piece 47 (decimal p ++ (codes " " ++ epoch_text e))
in_epoch_piece p e h k = within 47 _ refl (two (decimal p) (epoch_text e) (partition_piece p h) (epoch_piece e k))

entry_piece : (p : ℕ) (e : Epoch) (n : ℕ) → IsPartition p → IsEpoch e → IsWord n → Piece 68 (decimal p ++ (codes " " ++ (epoch_text e ++ (codes " " ++ decimal n))))
entry_piece p e n h k m =
    within 68 _ refl (two (decimal p) (epoch_text e ++ (codes " " ++ decimal n)) (partition_piece p h) (two (epoch_text e) (decimal n) (epoch_piece e k) (word_piece n m)))

flight_piece : (w : Who) (n : ℕ) (ranges : List Interval) → IsWho w → IsWord n → AreRanges ranges → Piece 1152 (who_text w ++ (codes " " ++ (decimal n ++ (codes " " ++ ranges_text ranges))))
flight_piece w n ranges h k m =
    within 1152 _ refl (two (who_text w) (decimal n ++ (codes " " ++ ranges_text ranges)) (who_piece w h) (two (decimal n) (ranges_text ranges) (word_piece n k) (ranges_piece ranges m)))

pub report_piece : (r : Report) → ReportInRange r → Piece 30000 (report_text r)
report_piece (Own ranges fence) h = within 30000 _ refl (behind (codes "own ") _ refl (two (ranges_text ranges) (optional_text fence) (ranges_piece ranges h.0) (optional_piece fence h.1)))
report_piece (Accused who) h = within 30000 _ refl (behind (codes "accused ") _ refl (who_piece who h))
report_piece (Discharged who) h = within 30000 _ refl (behind (codes "discharged ") _ refl (who_piece who h))
report_piece (Heir who ripe) h = within 30000 _ refl (behind (codes "heir ") _ refl (two (who_text who) (decimal ripe) (who_piece who h.0) (number_piece ripe h.1)))
report_piece (TookOver who ranges) h = within 30000 _ refl (behind (codes "tookover ") _ refl (two (who_text who) (ranges_text ranges) (who_piece who h.0) (ranges_piece ranges h.1)))
report_piece (Gave who n ranges) h = within 30000 _ refl (behind (codes "gave ") _ refl (flight_piece who n ranges h.0 h.1 h.2))
report_piece (Took who n ranges) h = within 30000 _ refl (behind (codes "took ") _ refl (flight_piece who n ranges h.0 h.1 h.2))
report_piece (Returned who n ranges) h = within 30000 _ refl (behind (codes "returned ") _ refl (flight_piece who n ranges h.0 h.1 h.2))
report_piece (LeftRing w) h = within 30000 _ refl (behind (codes "left ") _ refl (why_piece w))
report_piece Stopped h = within 30000 _ refl (literal (codes "stopped") refl)
report_piece (Found key who) h = within 30000 _ refl (behind (codes "found ") _ refl (two (point_text key.0) (who_text who) (point_piece key.0) (who_piece who h.1)))
report_piece (Nowhere key) h = within 30000 _ refl (behind (codes "nowhere ") _ refl (point_piece key.0))
report_piece (Promised p e) h = within 30000 _ refl (behind (codes "promised ") _ refl (in_epoch_piece p e h.0 h.1))
report_piece (Adopted p e n) h = within 30000 _ refl (behind (codes "adopted ") _ refl (entry_piece p e n h.0 h.1 h.2))
report_piece (Accepted p e n) h = within 30000 _ refl (behind (codes "accepted ") _ refl (entry_piece p e n h.0 h.1 h.2))
report_piece (IsPrimary p e) h = within 30000 _ refl (behind (codes "primary ") _ refl (in_epoch_piece p e h.0 h.1))
report_piece (Committed p e n) h = within 30000 _ refl (behind (codes "committed ") _ refl (entry_piece p e n h.0 h.1 h.2))
report_piece (Configured p e) h = within 30000 _ refl (behind (codes "configured ") _ refl (in_epoch_piece p e h.0 h.1))
report_piece (Superseded p e) h = within 30000 _ refl (behind (codes "superseded ") _ refl (in_epoch_piece p e h.0 h.1))
report_piece (UnitList partitions) h = within 30000 _ refl (behind (codes "units ") _ refl (units_piece partitions h.0 h.1))
report_piece (Resolved p name value) h =
    within 30000 _ refl (behind (codes "resolved ") _ refl (two (decimal p) (name ++ (codes " " ++ value)) (partition_piece p h.0) (two name value (name_piece name h.1) (value_piece value h.2))))
report_piece (Unresolved p name) h = within 30000 _ refl (behind (codes "unresolved ") _ refl (two (decimal p) name (partition_piece p h.0) (name_piece name h.1)))
report_piece (NameList p names) h = within 30000 _ refl (behind (codes "names ") _ refl (joined (decimal p) (names_text names) (partition_piece p h.0) (names_piece names h.1 h.2)))
report_piece (Refused v r) h = within 30000 _ refl (behind (codes "refused ") _ refl (two (verb_text v) (reason_text r) (verb_piece v) (reason_piece r h)))

-- Lines.

head_piece : (head : Head) → FitsHead head → Piece 104 (head_text head)
head_piece head h =
    within 104 _ refl (two (decimal head.line) _ (number_piece head.line h.0) (two (optional_text head.time) _ (optional_piece head.time h.1)
    (two (who_text head.who) (optional_text head.reading) (who_piece head.who h.2) (optional_piece head.reading (by_reading head.reading h.3)))))
  where
    by_reading : (o : Option ℕ) → FitsReading head.who o → IsOptional o
    by_reading None k = tt
    by_reading (Some n) k = k.1

pub report_line_piece : (head : Head) (r : Report) → FitsHead head → ReportInRange r → Piece 65536 (report_words head r)
report_line_piece head r h k = within 65536 _ refl (two (head_text head) (report_text r) (head_piece head h) (report_piece r k))

pub sent_line_piece : (head : Head) (sent : ℕ × ℕ) → FitsHead head → sent.0 ≤ sent.1 → IsWord sent.1 → Piece 65536 (sent_words head sent)
sent_line_piece head sent h k m =
    within 65536 _ refl (joined (head_text head) (codes " sent " ++ (decimal sent.0 ++ (codes "-" ++ decimal sent.1))) (head_piece head h)
    (behind (codes " sent ") _ refl (joined (decimal sent.0) (codes "-" ++ decimal sent.1) (number_piece sent.0 (omega arith)) (behind (codes "-") _ refl (word_piece sent.1 m)))))

clock_piece : (c : Who × ℕ) → IsWho c.0 → c.1 < 2 ^ 64 → Piece 63 (clock_word c)
clock_piece c h k =
    within 63 _ refl (behind (codes " ") _ refl (joined (who_text c.0) (codes ":" ++ decimal c.1) (who_piece c.0 h) (behind (codes ":") _ refl (number_piece c.1 k))))

clocks_piece : (above : Option Who) (cs : Clocks) → ClocksRise above cs → Piece (63 * length cs) (clock_words cs)
clocks_piece above [] h = record { few = omega arith; ink = refl }
clocks_piece above (c ∷ cs) h =
    longer (63 * length (c ∷ cs)) _ (omega arith) (joined (clock_word c) (clock_words cs) (clock_piece c (inl h.1) h.2) (clocks_piece (Some c.0) cs h.3))

pub clocks_line_piece : (line : ℕ) (cs : Clocks) → line < 2 ^ 64 → ClocksRise None cs → length cs ≤ 64 → Piece 65536 (clocks_text line cs)
clocks_line_piece line cs h k few =
    within 65536 _ refl (joined (decimal line) (codes " clocks" ++ clock_words cs) (number_piece line h)
    (behind (codes " clocks") (clock_words cs) refl (longer 4032 (clock_words cs) (omega arith) (clocks_piece None cs k))))
