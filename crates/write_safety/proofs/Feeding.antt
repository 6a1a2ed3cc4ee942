-- A book that is fed with the reports of a valid run has exactly its committed logs.
use Rattle.std.proofs.Common.{◌≡◌, ℕ, ◌≤◌, Bool, true, false, cond, ◌&&◌, ◌==◌, List, [], ◌∷◌, ◌++◌, length, Option, None, Some, refl, sym, ap, ◌∙◌, subst, inl, inr, arith}
use Rattle.std.proofs.lemmas.Bool.{and_parts, eqb-true}
use Rattle.std.proofs.lemmas.Bool.Decides.{nat_tests}
use Rattle.std.proofs.lemmas.List.{append-nil, append_assoc}
use Rattle.fabric_lemmas.specs.Members.{IsMember}
use Rattle.fabric_terms.specs.declared.config.FabricConfig.{FabricConfig}
use Rattle.fabric_terms.specs.declared.event.Event.{Event}
use Rattle.fabric_terms.specs.declared.report.Report.{Report}
use Rattle.fabric_terms.specs.declared.report.Report.TheVariants as report
use Rattle.fabric_terms.specs.Runs as runs
use Rattle.fabric_terms.specs.Sound.{IsSound}
use Rattle.replica_core.specs.declared.entry.Entry.{Entry}
use Rattle.ring_points.specs.declared.unit.Epoch.{Epoch}
use Rattle.unit_rules.specs.Units.{units}
use Rattle.world_rules.specs.Events.{world_step}
use Rattle.world_rules.specs.Runs.{History, world_after}
use Rattle.world_rules.specs.Schedules.{Valid}
use Rattle.world_rules.specs.Worlds.{World}
use Rattle.run_promises.specs.Reports.{log_in}
use Rattle.run_promises.specs.Writes.{CommitsAgree}
use Rattle.write_safety.specs.Books.{Agree, KeptLog, entries_of, longer}
use Rattle.write_safety.specs.Committed.{commit_of, commits_among, commits_in, commits_of}
use Rattle.write_safety.specs.Fed.{FedBy, FedByAll, FedIn, HasCommitted, HasCommittedWith, MayFeed}
use Rattle.write_safety.specs.Greatest.{Commit, entries_in, longest}
use Rattle.write_safety.specs.Laws.{FedBooksHaveCommitted, ReportsFeedBooks}
use Rattle.write_safety.proofs.Agreed.{agrees, commits_agree_lem, within}
use Rattle.write_safety.proofs.Growing.{Agrees, IsWithin, longest_agrees, longest_more}
use Rattle.write_safety.proofs.Orders.{key_itself}
use Rattle.write_safety.proofs.Reporting.{IsReported, is_reported}

among_join : (p d : ℕ) (log : List Entry) (rs more : List Report) → commits_among p d log (rs ++ more) ≡ commits_among p d log rs ++ commits_among p d log more
among_join p d log [] more = refl
among_join p d log (r ∷ rs) more =
    ap (λ ks. commit_of p d log r ++ ks) (among_join p d log rs more) ∙ sym (append_assoc (commit_of p d log r) (commits_among p d log rs) (commits_among p d log more))

member_left : {A : Type 0} (xs ys : List A) (x : A) → IsMember x xs → IsMember x (xs ++ ys)
member_left [] ys x m = absurd m
member_left (y ∷ xs) ys x (inl e) = inl e
member_left (y ∷ xs) ys x (inr m) = inr (member_left xs ys x m)

member_right : {A : Type 0} (xs ys : List A) (x : A) → IsMember x ys → IsMember x (xs ++ ys)
member_right [] ys x m = m
member_right (y ∷ xs) ys x m = inr (member_right xs ys x m)

-- What has been reported so far, and one more report.
module _ (so_far : ℕ → ℕ → List Commit) (logs : ℕ → List Entry) where
  abbrev Has : List KeptLog → Type 0
  Has book = (p d : ℕ) → entries_of p d book ≡ longest (so_far p d)

  -- the commits so far of a report's partition and data loss number, and that of the report itself, agree
  record AllAgree (p d last : ℕ) : Type 0 where
    pub within : (k : Commit) → IsMember k (so_far p d) → IsWithin k
    pub now : last ≤ length (logs p)
    pub agrees : (k : Commit) → IsMember k (so_far p d) → Agrees (record { last = last; log = logs p }) k

  module _ (book : List KeptLog) (p last : ℕ) (e : Epoch) (has : Has book) (all : AllAgree p e.data_loss last) where
    abbrev n : Commit
    n = record { last = last; log = logs p }

    may_feed : MayFeed logs (report.Committed p e last) book
    may_feed = (
      all.now,
      subst (Agree (entries_in n)) (sym (has p e.data_loss))
          (longest_agrees (so_far p e.data_loss) n (λ k m. (all.within k m, all.agrees k m)) all.now),
    )

    fed : (new : List KeptLog) → FedBy logs (report.Committed p e last) book new → (q d : ℕ) →
        entries_of q d new ≡ longest (so_far q d ++ commits_among q d (logs q) (report.Committed p e last ∷ []))
    fed new by q d = go (p == q && e.data_loss == d) refl
      where
        here : p ≡ q → e.data_loss ≡ d → entries_of q d new ≡ longest (so_far q d ++ (record { last = last; log = logs q } ∷ []))
        here same loss =
            subst (λ q. entries_of q d new ≡ longest (so_far q d ++ (record { last = last; log = logs q } ∷ []))) same
            (subst (λ d. entries_of p d new ≡ longest (so_far p d ++ (n ∷ []))) loss
            (by.here ∙ (ap (longer (entries_in n)) (has p e.data_loss) ∙ sym (longest_more (so_far p e.data_loss) n all.within all.now))))

        go : (b : Bool) → (p == q && e.data_loss == d) ≡ b →
            entries_of q d new ≡ longest (so_far q d ++ (cond b (record { last = last; log = logs q } ∷ []) [] ++ []))
        go true h = let both = and_parts (p == q) (e.data_loss == d) h in here (eqb-true p q both.0) (eqb-true e.data_loss d both.1)
        go false h =
            let other : (q == p && d == e.data_loss) ≡ false = grind (arith, nat_tests) in
            by.others q d other ∙ (has q d ∙ ap longest (sym (append-nil (so_far q d))))

  -- the same of every report
  abbrev AgreesWith : Report → Type 0
  AgreesWith (report.Committed p e last) = AllAgree p e.data_loss last
  AgreesWith r = Unit {0}

  abbrev Feeds : List KeptLog → Report → Type 0
  Feeds book r =
      MayFeed logs r book
      × ((new : List KeptLog) → FedBy logs r book new → (q d : ℕ) →
      entries_of q d new ≡ longest (so_far q d ++ commits_among q d (logs q) (r ∷ [])))

  feeds : (book : List KeptLog) (r : Report) → Has book → AgreesWith r → Feeds book r
  feeds book (report.Committed p e last) has all = (may_feed book p last e has all, fed book p last e has all)
  feeds book r has all = (tt, λ new by q d. ap (entries_of q d) by ∙ (has q d ∙ ap longest (sym (append-nil (so_far q d)))))

-- A valid run.
module _ (is_frame : List ℕ → Bool) (c : FabricConfig) (h : History) (sound : IsSound c) (valid : Valid units is_frame c h) where
  -- the next report of what an actor did in the last event
  module _ (now : ℕ × Event) (earlier : History) (e : runs.Entry) (before after : List Report) (r : Report) (is : h ≡ now ∷ earlier)
      (did : (world_step units c (world_after units c earlier) now.1).entry ≡ Some e) (reports : e.reports ≡ before ++ (r ∷ after)) where
    abbrev w : World units
    w = (world_step units c (world_after units c earlier) now.1).world

    abbrev logs : ℕ → List Entry
    logs p = log_in w e.who.actor p

    abbrev so_far : ℕ → ℕ → List Commit
    so_far p d = commits_of c earlier p d ++ commits_among p d (logs p) before

    whole : (p d : ℕ) → commits_of c h p d ≡ so_far p d ++ commits_among p d (logs p) (r ∷ after)
    whole p d =
        ap (λ (z : History). commits_of c z p d) is
        ∙ (ap (λ o. commits_of c earlier p d ++ commits_in p d w o) did
        ∙ (ap (λ rs. commits_of c earlier p d ++ commits_among p d (logs p) rs) reports
        ∙ (ap (λ ks. commits_of c earlier p d ++ ks) (among_join p d (logs p) before (r ∷ after))
        ∙ sym (append_assoc (commits_of c earlier p d) (commits_among p d (logs p) before) (commits_among p d (logs p) (r ∷ after))))))

    reported : (p d : ℕ) (k : Commit) → IsMember k (so_far p d) → IsReported c h p d k
    reported p d k m = is_reported c h p d k (subst (IsMember k) (sym (whole p d)) (member_left (so_far p d) (commits_among p d (logs p) (r ∷ after)) k m))

    agree : CommitsAgree c h
    agree = commits_agree_lem is_frame c h sound valid

    all_agree : (p last : ℕ) (ep : Epoch) → r ≡ report.Committed p ep last → AllAgree so_far logs p ep.data_loss last
    all_agree p last ep same =
        let d = ep.data_loss in
        let n : Commit = record { last = last; log = logs p } in
        let among : IsMember n (commits_among p d (logs p) (r ∷ after)) =
        subst (λ (r : Report). IsMember n (commits_among p d (logs p) (r ∷ after))) (sym same)
        (subst (λ b. IsMember n (cond b (n ∷ []) [] ++ commits_among p d (logs p) after)) (sym (key_itself p d)) (inl refl)) in
        let here : IsReported c h p d n =
        is_reported c h p d n (subst (IsMember n) (sym (whole p d)) (member_right (so_far p d) (commits_among p d (logs p) (r ∷ after)) n among)) in
        record {
          within = λ k m. within c h agree p d k (reported p d k m);
          now = within c h agree p d n here;
          agrees = λ k m. agrees c h agree p d n k here (reported p d k m);
        }

    agrees_with : (s : Report) → r ≡ s → AgreesWith so_far logs s
    agrees_with (report.Committed p ep last) same = all_agree p last ep same
    agrees_with s same = tt

    pub fed_report : (book : List KeptLog) → HasCommittedWith c earlier logs before book →
        MayFeed logs r book × ((new : List KeptLog) → FedBy logs r book new → HasCommittedWith c earlier logs (before ++ (r ∷ [])) new)
    fed_report book has =
        let f = feeds so_far logs book r has (agrees_with r refl) in (
          f.0,
          λ new by p d.
              f.1 new by p d
              ∙ ap longest
              (append_assoc (commits_of c earlier p d) (commits_among p d (logs p) before) (commits_among p d (logs p) (r ∷ []))
              ∙ ap (λ ks. commits_of c earlier p d ++ ks) (sym (among_join p d (logs p) before (r ∷ [])))),
        )

  -- all reports of what an actor did in the last event
  module _ (now : ℕ × Event) (earlier : History) (e : runs.Entry) (is : h ≡ now ∷ earlier)
      (did : (world_step units c (world_after units c earlier) now.1).entry ≡ Some e) where
    abbrev logs_of : ℕ → List Entry
    logs_of p = log_in (world_step units c (world_after units c earlier) now.1).world e.who.actor p

    pub fed_reports : (before rest : List Report) (book new : List KeptLog) → e.reports ≡ before ++ rest →
        HasCommittedWith c earlier logs_of before book → FedByAll logs_of rest book new → HasCommittedWith c earlier logs_of e.reports new
    fed_reports before [] book new reports has by =
        λ p d. ap (entries_of p d) by
        ∙ (has p d ∙ ap (λ rs. longest (commits_of c earlier p d ++ commits_among p d (logs_of p) rs)) (sym (reports ∙ append-nil before)))
    fed_reports before (r ∷ rest) book new reports has by =
        let f = fed_report now earlier e before rest r is did reports book has in
        fed_reports (before ++ (r ∷ [])) rest by.0 new (reports ∙ sym (append_assoc before (r ∷ []) rest)) (f.1 by.0 by.1) by.2

pub reports_feed_lem : ReportsFeedBooks
reports_feed_lem is_frame c h sound valid now earlier e before after r book is did reports has =
    fed_report is_frame c h sound valid now earlier e before after r is did reports book has

pub fed_books_lem : FedBooksHaveCommitted
fed_books_lem is_frame c [] sound valid book h = λ p d. ap (entries_of p d) h
fed_books_lem is_frame c (e ∷ es) sound valid book h =
    go (world_step units c (world_after units c es) e.1).entry refl h.2 (fed_books_lem is_frame c es sound valid.0 h.0 h.1)
  where
    go : (o : Option runs.Entry) → (world_step units c (world_after units c es) e.1).entry ≡ o →
        FedIn (world_step units c (world_after units c es) e.1).world o h.0 book → HasCommitted c es h.0 →
        (p d : ℕ) →
        entries_of p d book ≡ longest (commits_of c es p d ++ commits_in p d (world_step units c (world_after units c es) e.1).world o)
    go None did by before p d = ap (entries_of p d) by ∙ (before p d ∙ ap longest (sym (append-nil (commits_of c es p d))))
    go (Some x) did by before p d =
        fed_reports is_frame c (e ∷ es) sound valid e es x refl did [] x.reports h.0 book refl
        (λ p d. before p d ∙ ap longest (sym (append-nil (commits_of c es p d)))) by p d
