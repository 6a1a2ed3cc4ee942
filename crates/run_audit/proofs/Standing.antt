-- What the auditor stands for, as a moment comes.
use Rattle.std.proofs.Common.{◌≡◌, ◌≢◌, ℕ, ◌<◌, Bool, true, false, List, ◌∷◌, length, get_or, Option, Some, None, Contains, refl, sym, ap, ◌∙◌, subst}
use Rattle.std.proofs.lemmas.List.{get_or_default}
use Rattle.std.proofs.lemmas.Option.{same_Some}
use Rattle.std.specs.Global.{Vec}
use Rattle.std.specs.Prelude.{All, option_map, is_some}
use Rattle.ring_points.specs.declared.who.Who.{Who}
use Rattle.ring_points.specs.Ranges.{in_ranges}
use Rattle.ring_points.specs.Whos.{same_who}
use Rattle.fabric_terms.specs.declared.report.Report.{Report}
use Rattle.fabric_terms.specs.Primaries.{Safe}
use Rattle.fabric_terms.specs.Reports.{told}
use Rattle.fabric_terms.specs.Runs as runs
use Rattle.fabric_terms.specs.Runs.{Clocks, Run, Entry, Owned, Holds, own_of, own_in}
use Rattle.run_audit.specs.declared.auditor.Auditor.{Auditor}
use Rattle.run_audit.specs.declared.breach.Breach.{Breach}
use Rattle.run_audit.specs.declared.moment.Moment.{Moment}
use Rattle.run_audit.specs.declared.overlap.LiveHolder.{LiveHolder}
use Rattle.run_audit.specs.declared.owners.Owners.{Owners}
use Rattle.run_audit.specs.declared.finding.Findings.{Findings}
use Rattle.run_audit.specs.Auditing.{StandsFor, IsUpToDate, IsSame, HasHeard, seen, entry_of}
use Rattle.run_audit.specs.Breaches.{IsVerdict}
use Rattle.run_audit.specs.Findings.{Finds}
use Rattle.run_audit.specs.Clocks.{HoldsNow, AreRows}
use Rattle.run_audit.specs.Overlaps.{Rises}
use Rattle.run_audit.specs.Owners.{own_at, taken_at}
use Rattle.run_audit.specs.Standing.{AreHolders, IsLive}
use Rattle.run_audit.specs.Tables.{Keeps, KeepsBounds, epoch_key, replica_key}
use Rattle.run_audit.proofs.Verdicts.{verdict_on, verdict_stays}
use Rattle.run_audit.proofs.Readings.{read_there, same_who-true}

-- the same tables stand for the same run
pub up_to_date-same : (old new : Auditor) (run : Run) → IsSame old new → IsUpToDate old run → IsUpToDate new run
up_to_date-same old new run same up = record {
  knows = record {
    owned = λ w. same.owned w ∙ up.knows.owned w;
    primaries = record { primaries = λ partition epoch. same.primaries (epoch_key partition epoch) ∙ up.knows.primaries.primaries partition epoch };
    bounds = record { bounds = λ node partition. same.bounds (replica_key node partition) ∙ up.knows.bounds.bounds node partition };
  };
  taken = λ v. same.taken v ∙ up.taken v;
  live = λ w has. up.live w (subst (λ l. Contains l w) same.live has);
}

pub stands-same : (old new : Auditor) (run : Run) → IsSame old new → StandsFor old run → StandsFor new run
stands-same old new run same stands = record {
  verdict = subst (λ b. IsVerdict run b) (sym same.breach) stands.verdict;
  tables = λ none. up_to_date-same old new run same (stands.tables (sym same.breach ∙ none));
}

-- who told nothing owns what it owned
pub own_in-other : (w : Who) (e : Option Entry) (before : Option Owned) → option_map (λ (x : Entry). x.who) e ≢ Some w → own_in w e before ≡ before
own_in-other w None before other = refl
own_in-other w (Some e) before other = by (same_who e.who w) refl
  where
    by : (t : Bool) → same_who e.who w ≡ t → own_in w (Some e) before ≡ before
    by true h = absurd (other (ap (λ x. Some x) (same_who-true e.who w h)))
    by false h = rw h refl

module _ (owners : Owners) (m : runs.Moment) (ms : Run) (lived : List Who) (actor : Option Who) (hs : List LiveHolder)
    (owned : (w : Who) → own_at w owners ≡ own_of w (m ∷ ms))
    (acts : actor ≡ option_map (λ (e : Entry). e.who) m.entry)
    (lives : (w : Who) → Contains lived w → IsLive ms w)
    (rows : AreRows owners m.clocks m.clocks lived actor hs) where
  rows_hold : (h : LiveHolder) (p : ℕ) → Contains hs h → in_ranges p h.ranges.now ≡ true → Holds (m ∷ ms) h.who p
  rows_hold h p has at =
      let now = rows.each h has in
      record {
        reading = now.reading;
        owned = now.holds.owned;
        runs = now.runs;
        own = sym (owned h.who) ∙ now.holds.own;
        has = subst (λ l. in_ranges p l ≡ true) now.holds.ranges at;
        below = now.holds.below;
      }

  pub rows_live : (h : LiveHolder) → Contains hs h → IsLive (m ∷ ms) h.who
  rows_live h has =
      let now = rows.each h has in
      record { reading = now.reading; owned = now.holds.owned; runs = now.runs; own = sym (owned h.who) ∙ now.holds.own; below = now.holds.below }

  rows_found : (w : Who) (p : ℕ) → Holds (m ∷ ms) w p → (h : LiveHolder) × Contains hs h × (h.who ≡ w) × (in_ranges p h.ranges.now ≡ true)
  rows_found w p holds = (found.0, found.1, found.2, has)
    where
      found : (h : LiveHolder) × Contains hs h × (h.who ≡ w)
      found = rows.all w holds.reading (read_there m.clocks w holds.reading holds.runs) (record {
        reading = holds.reading;
        runs = holds.runs;
        owned = holds.owned;
        own = owned w ∙ holds.own;
        below = holds.below;
      })

      now : HoldsNow owners m.clocks found.0
      now = rows.each found.0 found.1

      has : in_ranges p found.0.ranges.now ≡ true
      has =
          let mine : own_at w owners ≡ Some now.holds.owned = subst (λ x. own_at x owners ≡ Some now.holds.owned) found.2 now.holds.own in
          let same : ◌≡◌ {A = Option Owned} (Some now.holds.owned) (Some holds.owned) = sym mine ∙ owned w ∙ holds.own in
          let ranges : now.holds.owned.ranges ≡ holds.owned.ranges = ap (λ (o : Owned). o.ranges) (same_Some now.holds.owned holds.owned same) in
          subst (λ l. in_ranges p l ≡ true) (sym (now.holds.ranges ∙ ranges)) holds.has

  -- one that is not fresh held them a moment ago
  rows_held : (h : LiveHolder) (p : ℕ) → Contains hs h → h.fresh ≡ false → in_ranges p h.ranges.now ≡ true → Holds ms h.who p
  rows_held h p has stale at = record {
    reading = live.reading;
    owned = live.owned;
    runs = live.runs;
    own = live.own;
    has = subst (λ l. in_ranges p l ≡ true) (now.holds.ranges ∙ ap (λ (o : Owned). o.ranges) same) at;
    below = live.below;
  }
    where
      was : Contains lived h.who × (actor ≢ Some h.who)
      was = rows.stale h has stale

      live : IsLive ms h.who
      live = lives h.who was.0

      now : HoldsNow owners m.clocks h
      now = rows.each h has

      still : own_of h.who (m ∷ ms) ≡ own_of h.who ms
      still = own_in-other h.who m.entry (own_of h.who ms) (λ e. was.1 (acts ∙ e))

      same : now.holds.owned ≡ live.owned
      same = same_Some now.holds.owned live.owned (sym now.holds.own ∙ owned h.who ∙ still ∙ live.own)

  pub are_holders : AreHolders ms (m ∷ ms) hs
  are_holders = record {
    rise = λ k d h. (rows.each (get_or hs k d) (k, h, get_or-any k d h)).holds.rises;
    hold = rows_hold;
    all = rows_found;
    held = rows_held;
  }
    where
      get_or-any : (k : ℕ) (d : LiveHolder) → k < length hs → get_or hs k (get_or hs k d) ≡ get_or hs k d
      get_or-any k d h = get_or_default hs k (get_or hs k d) d h

-- a breach that was found stays the verdict
pub stands-still : (a : Auditor) (m : runs.Moment) (run : Run) → is_some a.breach ≡ true → StandsFor a run → IsVerdict (m ∷ run) a.breach × StandsFor a (m ∷ run)
stands-still a m run some stands = (verdict, record { verdict = verdict; tables = λ none. absurd (never none) })
  where
    never : a.breach ≡ None → ⊥
    never none = let e : is_some a.breach ≡ false = ap is_some none in absurd (cc (e, some))

    by : (o : Option Breach) → a.breach ≡ o → IsVerdict run o → is_some o ≡ true → IsVerdict (m ∷ run) o
    by None e v s = absurd (cc (s))
    by (Some b) e v s = verdict_stays m run b v

    verdict : IsVerdict (m ∷ run) a.breach
    verdict = by a.breach refl stands.verdict some

pub rows_rise : (owners : Owners) (clocks walked : Clocks) (lived : List Who) (actor : Option Who) (hs : List LiveHolder) → AreRows owners clocks walked lived actor hs → All Rises hs
rows_rise owners clocks walked lived actor hs rows k d h = (rows.each (get_or hs k d) (k, h, get_or_default hs k (get_or hs k d) d h)).holds.rises

pub none_yet : {X : Type 0} (o : Option X) → is_some o ≡ false → o ≡ None
none_yet None e = refl
none_yet (Some x) e = absurd (cc (e))

-- what a moment makes of the auditor
module _ (old kept heard new : Auditor) (m : Moment) (findings : Findings) (clocks : Clocks) (lived : List Who) (actor : Option Who) (hs found_in kept_from : List LiveHolder) (b : Option Breach)
    (none : old.breach ≡ None) (same : IsSame old kept)
    (hears : (run : Run) → Safe run → IsUpToDate kept run → HasHeard heard (seen m ∷ run) findings)
    (ticks : clocks ≡ m.clocks.items) (live : lived ≡ kept.live.items) (told_by : actor ≡ option_map (λ e. e.0) m.entry)
    (rows : AreRows heard.owners clocks clocks lived actor hs)
    (first : found_in ≡ hs) (second : kept_from ≡ hs)
    (finds : Finds m.line found_in heard.taken findings b)
    (owners : new.owners ≡ heard.owners) (taken : new.taken ≡ heard.taken) (primaries : new.primaries ≡ heard.primaries) (bounds : new.bounds ≡ heard.bounds)
    (keeps : (w : Who) → Contains new.live.items w → (h : LiveHolder) × Contains kept_from h × (h.who ≡ w))
    (breach : new.breach ≡ b) where
  acts : (e : Option (Who × Vec Report)) → option_map (λ x. x.0) e ≡ option_map (λ (x : Entry). x.who) (entry_of e)
  acts None = refl
  acts (Some e) = refl

  by_entry : actor ≡ option_map (λ (x : Entry). x.who) (seen m).entry
  by_entry = told_by ∙ acts m.entry

  by_clocks : AreRows heard.owners (seen m).clocks (seen m).clocks lived actor hs
  by_clocks = subst (λ l. AreRows heard.owners l l lived actor hs) ticks rows

  module _ (run : Run) (stands : StandsFor old run) where
    safe : Safe run
    safe = subst (λ x. IsVerdict run x) none stands.verdict

    up : IsUpToDate kept run
    up = up_to_date-same old kept run same (stands.tables none)

    now : HasHeard heard (seen m ∷ run) findings
    now = hears run safe up

    lives : (w : Who) → Contains lived w → IsLive run w
    lives w has = up.live w (subst (λ l. Contains l w) live has)

    are : AreHolders run (seen m ∷ run) hs
    are = are_holders heard.owners (seen m) run lived actor hs now.knows.owned by_entry lives by_clocks

    pub judged : IsVerdict (seen m ∷ run) b
    judged = verdict_on (seen m) run b safe (finds (seen m) run refl safe (subst (λ l. AreHolders run (seen m ∷ run) l) (sym first) are) now.taken now.found)

    alive : (w : Who) → Contains new.live.items w → IsLive (seen m ∷ run) w
    alive w has =
        let h = keeps w has in
        subst (λ x. IsLive (seen m ∷ run) x) h.2
        (rows_live heard.owners (seen m) run lived actor hs now.knows.owned by_entry lives by_clocks h.0 (subst (λ l. Contains l h.0) second h.1))

    pub stands-on : StandsFor new (seen m ∷ run)
    stands-on = record {
      verdict = subst (λ x. IsVerdict (seen m ∷ run) x) (sym breach) judged;
      tables = λ yet. record {
        knows = record {
          owned = λ w. ap (own_at w) owners ∙ now.knows.owned w;
          primaries = subst (λ p. Keeps p (told (seen m ∷ run))) (sym primaries) now.knows.primaries;
          bounds = subst (λ p. KeepsBounds p (told (seen m ∷ run))) (sym bounds) now.knows.bounds;
        };
        taken = λ v. ap (taken_at v) taken ∙ now.taken v;
        live = alive;
      };
    }
