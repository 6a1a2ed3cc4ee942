-- Deeds one after another, and what comes after them.
use Rattle.std.proofs.Common.{◌≡◌, ℕ, Bool, true, false, ◌&&◌, List, [], ◌∷◌, ◌++◌, Option, None, Some, refl, sym, subst, ◌∙◌}
use Rattle.std.proofs.lemmas.Bool.{and_left}
use Rattle.std.specs.Prelude.{if◌then◌else◌, not}
use Rattle.ring_points.specs.declared.who.Who.{Who}
use Rattle.ring_points.specs.Epochs.{is_older}
use Rattle.epoch_machine.specs.Logs.{Entry}
use Rattle.epoch_machine.specs.Settings.{Settings}
use Rattle.epoch_machine.specs.World.{World}
use Rattle.epoch_machine.specs.World as machine
use Rattle.epoch_machine.specs.Invariant.{Invariant}
use Rattle.fabric_terms.specs.declared.report.Report.{Report}
use Rattle.fabric_terms.specs.declared.report.Report.TheVariants as report
use Rattle.unit_rules.specs.Answers.{OnlyAnswers, is_answer}
use Rattle.unit_rules.specs.Deeds.{Deed, Keep, Send, Tell, Acted, after_deeds, still}
use Rattle.unit_rules.specs.Progress.{is_primary, progress_of}
use Rattle.unit_rules.specs.ReplicaStates.{ReplicationProgress, ReplicaState}
use Rattle.epoch_refinement.specs.Facts.{of_node, Later}
use Rattle.epoch_refinement.specs.Refined.{AllShown, Refined}
use Rattle.epoch_refinement.specs.ReplicaStates.{ShowsReplicaState}
use Rattle.epoch_refinement.specs.Told.{tells_all, tells, IsOf}
use Rattle.epoch_refinement.proofs.Lasting.{later_refl, later_trans, all_shown_later}

pub shown_append : (w : World) (p : ℕ) (me : Who) (ds es : List Deed) → AllShown w p me ds → AllShown w p me es → AllShown w p me (ds ++ es)
shown_append w p me [] es a b = b
shown_append w p me (Keep r ∷ ds) es a b = shown_append w p me ds es a b
shown_append w p me (Send to x ∷ ds) es a b = (a.0, a.1, shown_append w p me ds es a.2 b)
shown_append w p me (Tell r ∷ ds) es a b = (a.0, shown_append w p me ds es a.1 b)

pub tells_append : (node : ℕ) (log : List Entry) (ds es : List Deed) (before : List machine.Report) →
    tells_all node log (ds ++ es) before ≡ tells_all node log es (tells_all node log ds before)
tells_append node log [] es before = refl
tells_append node log (Keep r ∷ ds) es before = tells_append node log ds es before
tells_append node log (Send to x ∷ ds) es before = tells_append node log ds es before
tells_append node log (Tell r ∷ ds) es before = tells_append node log ds es (tells node log r before)

-- a row that comes after deeds, the world having come so far
pub after_refined : {c : Settings} {w v : World} {p : ℕ} {me : Who} {a : Acted ReplicaState} → Later (of_node me.actor) w v → (before : List Deed) →
    AllShown v p me before → ((log : List Entry) → v.told ≡ tells_all me.actor log before w.told) → Refined c v p me a →
    Refined c w p me (after_deeds before a)
after_refined {w = w} {v = v} {p = p} {me = me} {a = a} later before shown told r = record {
  after = r.after;
  inv = r.inv;
  later = later_trans later r.later;
  shows = r.shows;
  sent = shown_append r.after p me before a.deeds (all_shown_later r.later p me before shown) r.sent;
  told =
      r.told ∙ (λ i. tells_all me.actor a.state.replica.log a.deeds (told a.state.replica.log i)) ∙
      sym (tells_append me.actor a.state.replica.log before a.deeds w.told);
}

-- nothing is done
pub nothing_refined : {c : Settings} {w : World} {p : ℕ} {me : Who} {s : ReplicaState} → Invariant c w → ShowsReplicaState w p me.actor s → Refined c w p me (still s)
nothing_refined {w = w} inv shows = record { after = w; inv = inv; later = later_refl w; shows = shows; sent = tt; told = refl }

-- An answer about names tells the machine nothing.

answer_of : (p : ℕ) (r : Report) → is_answer r ≡ true → IsOf p r
answer_of p (report.Promised q e) h = absurd (cc (h))
answer_of p (report.Accepted q e lsn) h = absurd (cc (h))
answer_of p (report.IsPrimary q e) h = absurd (cc (h))
answer_of p (report.Committed q e lsn) h = absurd (cc (h))
answer_of p r h = tt

answer_tells : (node : ℕ) (log : List Entry) (r : Report) → is_answer r ≡ true → (before : List machine.Report) → tells node log r before ≡ before
answer_tells node log (report.Promised q e) h before = absurd (cc (h))
answer_tells node log (report.Accepted q e lsn) h before = absurd (cc (h))
answer_tells node log (report.IsPrimary q e) h before = absurd (cc (h))
answer_tells node log (report.Committed q e lsn) h before = absurd (cc (h))
answer_tells node log r h before = refl

pub answer_refined : {c : Settings} {w : World} {p : ℕ} {me : Who} {s : ReplicaState} → Invariant c w → ShowsReplicaState w p me.actor s → (a : Acted ReplicaState) → OnlyAnswers s a →
    Refined c w p me a
answer_refined {c = c} {w = w} {p = p} {me = me} {s = s} inv shows a h = subst (Refined c w p me) (sym h.is) (record {
  after = w;
  inv = inv;
  later = later_refl w;
  shows = shows;
  sent = (answer_of p h.told h.answers, tt);
  told = sym (answer_tells me.actor s.replica.log h.told h.answers w.told);
})

-- who is no primary, or has promised more, does not lead

no_progress_by : (a b : Bool) (x : Option ReplicationProgress) (l : ReplicationProgress) → (a && b) ≡ false → (if a && b then x else None) ≡ Some l → ⊥
no_progress_by true true x l none h = cc (none)
no_progress_by true false x l none h = cc (h)
no_progress_by false b x l none h = cc (h)

pub not_primary : (s : ReplicaState) (l : ReplicationProgress) → is_primary s.replica.role ≡ false → progress_of s ≡ Some l → ⊥
not_primary s l isnt h =
    no_progress_by (is_primary s.replica.role) (not (is_older s.replica.at s.replica.promised)) s.progress l
    (and_left (is_primary s.replica.role) (not (is_older s.replica.at s.replica.promised)) isnt) h

-- who leads is a primary
pub leads : (s : ReplicaState) (l : ReplicationProgress) → progress_of s ≡ Some l → (is_primary s.replica.role ≡ true) × (is_older s.replica.at s.replica.promised ≡ false)
leads s l h = go (is_primary s.replica.role) (is_older s.replica.at s.replica.promised) h
  where
    go : (a b : Bool) → (if a && not b then s.progress else None) ≡ Some l → (a ≡ true) × (b ≡ false)
    go true false h = (refl, refl)
    go true true h = absurd (cc (h))
    go false b h = absurd (cc (h))
