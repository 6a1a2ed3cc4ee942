-- A book that is fed with what an actor did, from the logs of the running node, has what is committed with it.
use Rattle.std.proofs.Common.{◌≡◌, ℕ, ◌≤◌, List, [], ◌∷◌, ◌++◌, length, take, None, Some, refl, sym, ap, ◌∙◌, subst}
use Rattle.std.specs.Prelude.{Contains}
use Rattle.std.proofs.lemmas.List.{append-nil, append_assoc}
use Rattle.std.proofs.lemmas.List.Elements.{Contains-append_right}
use Rattle.fabric_terms.specs.declared.config.FabricConfig.{FabricConfig}
use Rattle.fabric_terms.specs.declared.event.Event.{Event}
use Rattle.fabric_terms.specs.declared.report.Report.{Report}
use Rattle.fabric_terms.specs.declared.report.Report.TheVariants.{Committed}
use Rattle.fabric_terms.specs.Runs as runs
use Rattle.fabric_terms.specs.Sound.{IsSound}
use Rattle.replica_core.specs.declared.entry.Entry.{Entry}
use Rattle.ring_points.specs.declared.unit.Epoch.{Epoch}
use Rattle.unit_rules.specs.Units.{units}
use Rattle.world_rules.specs.Events.{world_step}
use Rattle.world_rules.specs.Runs.{History, world_after}
use Rattle.world_rules.specs.Schedules.{Valid}
use Rattle.run_promises.specs.Reports.{IsAmong, log_in}
use Rattle.ring_world.specs.Answers.{Takes}
use Rattle.frame_format.specs.Kinds.{is_frame}
use Rattle.ring_world.specs.declared.world.Acted.{Acted}
use Rattle.ring_world.specs.declared.world.World.{World}
use Rattle.write_safety.specs.Books.{Agree, Commits, KeptLog, entries_of}
use Rattle.write_safety.specs.Committed.{commits_among, commits_in, commits_of}
use Rattle.write_safety.specs.Fed.{FedBy, FedByAll, HasCommitted, HasCommittedWith, MayFeed}
use Rattle.write_safety.specs.Greatest.{longest}
use Rattle.write_safety.proofs.Feeding.{reports_feed_lem}
use Rattle.write_safety.proofs.Reporting.{contains_first}
use Rattle.write_safety.proofs.Standing.{logs_beside_lem}
use Rattle.schedule_writes.specs.Feeding.{MayFeedAll, running_logs}

-- what an actor did in the last event of a valid history
module _ (c : FabricConfig) (h : History) (line : ℕ) (e : Event) (sound : IsSound c) (valid : Valid units is_frame c ((line, e) ∷ h))
    (x : runs.Entry) (did : (world_step units c (world_after units c h) e).entry ≡ Some x) where
  abbrev logs : ℕ → List Entry
  logs p = log_in (world_step units c (world_after units c h) e).world x.who.actor p

  abbrev running : ℕ → List Entry
  running p = running_logs c ((line, e) ∷ h) x.who.actor p

  -- the log of who reports a commit is that of its running replica
  beside : (p last : ℕ) (ep : Epoch) → Contains x.reports (Committed p ep last) → logs p ≡ running p
  beside p last ep there =
      logs_beside_lem is_frame c ((line, e) ∷ h) sound valid x.who p ep last (subst (λ o. IsAmong o x.who (Committed p ep last)) (sym did) (refl, there))

  may : (r : Report) (book : List KeptLog) → Contains x.reports r → MayFeed logs r book → MayFeed running r book
  may (Committed p ep last) book there m =
      subst (λ (log : List Entry). (last ≤ length log) × Agree (take last log) (entries_of p ep.data_loss book)) (beside p last ep there) m
  may r book there m = tt

  by_logs : (r : Report) (old new : List KeptLog) → Contains x.reports r → FedBy running r old new → FedBy logs r old new
  by_logs (Committed p ep last) old new there by =
      subst (λ (log : List Entry). Commits p ep.data_loss (take last log) old new) (sym (beside p last ep there)) by
  by_logs r old new there by = by

  among : (before after : List Report) (r : Report) → x.reports ≡ before ++ (r ∷ after) → Contains x.reports r
  among before after r split = subst (λ rs. Contains rs r) (sym split) (Contains-append_right before (r ∷ after) r (contains_first r after))

  -- report by report: the next one may be fed, and so all later ones, and then all that is reported is committed
  pub record Goes (before rest : List Report) (book : List KeptLog) : Type 0 where
    pub may_all : MayFeedAll running rest book
    pub has_all : (new : List KeptLog) → FedByAll running rest book new → HasCommittedWith c h logs x.reports new

  goes : (before rest : List Report) (book : List KeptLog) → x.reports ≡ before ++ rest → HasCommittedWith c h logs before book → Goes before rest book
  goes before [] book split has = record {
    may_all = tt;
    has_all = λ new by p d.
        ap (entries_of p d) by
        ∙ (has p d ∙ ap (λ rs. longest (commits_of c h p d ++ commits_among p d (logs p) rs)) (sym (split ∙ append-nil before)));
  }
  goes before (r ∷ rest) book split has =
      let there = among before rest r split in
      let next = reports_feed_lem is_frame c ((line, e) ∷ h) sound valid (line, e) h x before rest r book refl did split has in
      let on : (new : List KeptLog) → FedBy running r book new → Goes (before ++ (r ∷ [])) rest new = λ new by. goes (before ++ (r ∷ [])) rest new (split ∙ sym (append_assoc before (r ∷ []) rest)) (next.1 new (by_logs r book new there by)) in
      record {
        may_all = (may r book there next.0, λ new by. (on new by).may_all);
        has_all = λ new by. (on by.0 by.1).has_all new by.2;
      }

  pub goes_on : (book : List KeptLog) → HasCommitted c h book → Goes [] x.reports book
  goes_on book has = goes [] x.reports book refl (λ p d. has p d ∙ ap longest (sym (append-nil (commits_of c h p d))))

  pub committed_with : (new : List KeptLog) → HasCommittedWith c h logs x.reports new → HasCommitted c ((line, e) ∷ h) new
  committed_with new has = λ p d.
      has p d ∙ ap (λ o. longest (commits_of c h p d ++ commits_in p d (world_step units c (world_after units c h) e).world o)) (sym did)

-- what the world of the code answers to an event

pub may_feed : (a : World) (c : FabricConfig) (h : History) (line : ℕ) (e : Event) (acted : Acted) (book : List KeptLog) → Takes a c h line e (Some acted) → HasCommitted c h book
    → MayFeedAll (running_logs c ((line, e) ∷ h) acted.who.actor) acted.reports book
may_feed a c h line e acted book takes has =
    (goes_on c h line e takes.stands.sound takes.stands.valid _ (sym takes.entry) book has).may_all

pub has_more : (a : World) (c : FabricConfig) (h : History) (line : ℕ) (e : Event) (acted : Acted) (book new : List KeptLog) → Takes a c h line e (Some acted) → HasCommitted c h book
    → FedByAll (running_logs c ((line, e) ∷ h) acted.who.actor) acted.reports book new → HasCommitted c ((line, e) ∷ h) new
has_more a c h line e acted book new takes has by =
    committed_with c h line e takes.stands.sound takes.stands.valid _ (sym takes.entry) new
    ((goes_on c h line e takes.stands.sound takes.stands.valid _ (sym takes.entry) book has).has_all new by)

-- nobody acted
pub has_still : (a : World) (c : FabricConfig) (h : History) (line : ℕ) (e : Event) (book : List KeptLog) → Takes a c h line e None → HasCommitted c h book → HasCommitted c ((line, e) ∷ h) book
has_still a c h line e book takes has = λ p d.
    has p d
    ∙ (ap longest (sym (append-nil (commits_of c h p d)))
    ∙ ap (λ o. longest (commits_of c h p d ++ commits_in p d (world_step units c (world_after units c h) e).world o)) takes.entry)
