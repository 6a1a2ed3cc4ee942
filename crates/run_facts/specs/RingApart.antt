-- What the ring keeps out of: frames of partitions, and reports of what replicas and primaries do.
use Rattle.std.specs.Prelude.{◌≡◌, Bool, true, false, List}
use Rattle.std.specs.List.{list_any}
use Rattle.fabric_terms.specs.declared.message.Body.{Body}
use Rattle.fabric_terms.specs.declared.message.Body.TheVariants as body
use Rattle.fabric_terms.specs.declared.report.Report.{Report}
use Rattle.fabric_terms.specs.declared.report.Report.TheVariants as report
use Rattle.ring_points.specs.declared.who.Who.{Who}
use Rattle.ring_rules.specs.Rings.{Work}

-- a question or an answer about a partition
abbrev pub is_unit_frame : Body → Bool
is_unit_frame (body.Prepare p epoch) = true
is_unit_frame (body.Prepared p epoch old) = true
is_unit_frame (body.NoPrepare p epoch kept) = true
is_unit_frame (body.Vote config) = true
is_unit_frame (body.Voted p epoch first) = true
is_unit_frame (body.NoVote p epoch kept) = true
is_unit_frame (body.DoneAsk config) = true
is_unit_frame (body.DoneKept p epoch) = true
is_unit_frame (body.NoDone p epoch kept) = true
is_unit_frame (body.Promise p epoch) = true
is_unit_frame (body.Promised p epoch at last) = true
is_unit_frame (body.Sync p epoch origin last) = true
is_unit_frame (body.Fetch p epoch lsn) = true
is_unit_frame (body.Piece p epoch lsn entry_epoch text) = true
is_unit_frame (body.Adopted p epoch last) = true
is_unit_frame (body.Activate config) = true
is_unit_frame (body.Activated p epoch) = true
is_unit_frame (body.Append p epoch lsn text) = true
is_unit_frame (body.Appended p epoch last) = true
is_unit_frame (body.Older p epoch kept) = true
is_unit_frame _ = false

-- what a replica promises or accepts, or a primary begins, commits or answers
abbrev pub is_unit_report : Report → Bool
is_unit_report (report.Promised p epoch) = true
is_unit_report (report.Accepted p epoch lsn) = true
is_unit_report (report.IsPrimary p epoch) = true
is_unit_report (report.Committed p epoch lsn) = true
is_unit_report (report.Resolved p name value) = true
is_unit_report (report.Unresolved p name) = true
is_unit_report (report.NameList p names) = true
is_unit_report _ = false

-- nothing of partitions is sent or told
pub record Apart (sent : List (Who × Body)) (told : List Report) : Type 0 where
  pub sends : list_any (λ m. is_unit_frame m.1) sent ≡ false
  pub tells : list_any is_unit_report told ≡ false

-- so in a step of the ring
abbrev pub StaysApart : Work → Type 0
StaysApart w = Apart w.sent w.told
