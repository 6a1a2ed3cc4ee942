-- Rulings keep a ring in range.
use Rattle.std.proofs.Common.{◌≡◌, ℕ, ◌-◌, Bool, true, false, not, ◌||◌, Some, IsTrue, refl}
use Rattle.arbiter_quorum.specs.declared.verdict.Verdict.{Verdict}
use Rattle.arbiter_quorum.specs.declared.verdict.Verdict.TheVariants as verdict
use Rattle.arbiter_quorum.specs.Tallies.{Tally, noted}
use Rattle.fabric_terms.specs.declared.config.FabricConfig.{FabricConfig}
use Rattle.fabric_terms.specs.declared.report.Report.TheVariants as report
use Rattle.fabric_terms.specs.declared.report.Why.TheVariants.{Lost}
use Rattle.fabric_terms.specs.Fields.{is_stamp}
use Rattle.ring_points.specs.declared.who.Ruling.{Ruling}
use Rattle.ring_points.specs.declared.who.Who.{Who}
use Rattle.ring_points.specs.Whos.{arbiter_actor}
use Rattle.ring_rules.specs.declared.link.Link.{Link}
use Rattle.ring_rules.specs.declared.link.LinkState.{LinkState}
use Rattle.ring_rules.specs.declared.link.LinkState.TheVariants as state
use Rattle.ring_rules.specs.Deeds.{drop_slot, put_slot, tell}
use Rattle.ring_rules.specs.Links.{is_bare}
use Rattle.ring_rules.specs.Rings.{Settings, Work}
use Rattle.ring_rules.specs.Rulings as rows
use Rattle.ring_rules.specs.Rulings.{becomes_heir, may_succeed, ripe_at, ruling_received}
use Rattle.ring_rules.specs.Slots.{is_bound, is_hello, of_instance, slot_at, slot_where}
use Rattle.frames_fit.specs.InRange.{IsInRange, LinkInRange}
use Rattle.frames_fit.proofs.Going.{Going, drops, leaves, puts, tells}
use Rattle.frames_fit.proofs.Places.{set_at}
use Rattle.frames_fit.proofs.Reporting.{peer_fits, ripe_fits}
use Rattle.frames_fit.proofs.Saying.{SettingsInRange, found, link_in_range, moved_in_range, not_frozen, still_bound, unbound_at}

module _ (c : FabricConfig) (w : Work) (a : Going c w) (i : ℕ) (l : Link) (e : slot_at i w.ring.slots ≡ Some l) (idle : is_bound l.state ≡ false) where
  -- another link takes the place of one that is not bound, or none
  pub moves : (k : Link) → (IsInRange c w.ring → LinkInRange k) → Going c (put_slot i k w)
  moves k fine = puts c w a i k fine (λ r z. let bound : is_bound l.state ≡ true = still_bound i l e r z in absurd (cc (bound, idle)))

  pub goes : Going c (drop_slot i w)
  goes = drops c w a i (λ r. not_frozen i (unbound_at w.ring.slots i l e idle) r)

  -- it becomes heir
  pub becomes : (set : Settings) → SettingsInRange set → (now : ℕ) → IsTrue (is_stamp now) → (k : Link) → (IsInRange c w.ring → LinkInRange k) →
      is_hello k.state ≡ false → Going c (becomes_heir set now i k w)
  becomes set sound now reads k fine met =
      let heir : Link = record k { state = state.Heir; ripe = ripe_at set now k } in
      let put : Work = put_slot i heir w in
      let puts_it : Going c put = moves heir (λ r. moved_in_range k (fine r) met state.Heir refl (ripe_at set now k) k.tally) in
      tells c put puts_it (report.Heir k.peer (ripe_at set now k))
      (λ r. let m = link_in_range i heir (set_at w.ring.slots i l (Some heir) e) r in (peer_fits heir m refl, ripe_fits set sound now reads heir m))

  -- its peer is told to have discharged it
  discharges : (k : Link) → (IsInRange c w.ring → LinkInRange k) → is_hello k.state ≡ false → Going c (tell (report.Discharged k.peer) w)
  discharges k fine met = tells c w a (report.Discharged k.peer) (λ r. peer_fits k (fine r) met)

  -- it goes, or is kept to wait for the rounds
  keeps : (k : Link) → (IsInRange c w.ring → LinkInRange k) → is_hello k.state ≡ false → (b : Bool) → Going c (rows.kept_discharged i k w b)
  keeps k fine met true = goes
  keeps k fine met false = moves (record k { state = state.Discharged }) (λ r. moved_in_range k (fine r) met state.Discharged refl k.ripe k.tally)

module _ (c : FabricConfig) (w : Work) (a : Going c w) (i : ℕ) (l : Link) (e : slot_at i w.ring.slots ≡ Some l) (idle : is_bound l.state ≡ false)
    (set : Settings) (sound : SettingsInRange set) (now : ℕ) (reads : IsTrue (is_stamp now)) where
  -- what the verdict makes of it
  judges : (k : Link) (before : LinkState) → (IsInRange c w.ring → LinkInRange k) → is_hello k.state ≡ false → (v : Verdict) →
      Going c (rows.judged set now i k before v w)
  judges k before fine met verdict.Heir = heir (is_bare k)
    where
      heir : (b : Bool) → Going c (rows.made_heir set now i k w b)
      heir true = goes c (tell (report.Discharged k.peer) w) (discharges c w a i l e idle k fine met) i l e idle
      heir false = becomes c w a i l e idle set sound now reads k fine met
  judges k before fine met verdict.Discharged = told before
    where
      told : (st : LinkState) → Going c (rows.kept_discharged i k (rows.tell_discharge st k w) (is_bare k || not (may_succeed set k)))
      told state.Accused =
          keeps c (tell (report.Discharged k.peer) w) (discharges c w a i l e idle k fine met) i l e idle k fine met (is_bare k || not (may_succeed set k))
      told st = keeps c w a i l e idle k fine met (is_bare k || not (may_succeed set k))
  judges k before fine met verdict.Lost = leaves c w a Lost
  judges k before fine met verdict.Open = moves c w a i l e idle k fine

module _ (c : FabricConfig) (w : Work) (a : Going c w) where
  pub ruling_going : (set : Settings) → SettingsInRange set → (now : ℕ) → IsTrue (is_stamp now) → (from victim : Who) (ruling : Ruling) →
      Going c (ruling_received set now from victim ruling w)
  unfolding ruling_received
  ruling_going set sound now reads from victim ruling =
      found c w a (rows.ruling_seen set now (from.actor - arbiter_actor 0) ruling) (λ v. v) (slot_where (of_instance victim) w.ring.slots) inside a
    where
      tally_after : Link → Tally
      tally_after l = noted l.tally (from.actor - arbiter_actor 0) ruling

      noting : (i : ℕ) (l : Link) → slot_at i w.ring.slots ≡ Some l → is_hello l.state ≡ false → is_bound l.state ≡ false → (before : LinkState) →
          Going c (rows.ruling_noted set now i (record l { tally = tally_after l }) before w)
      noting i l e met idle before =
          judges c w a i l e idle set sound now reads (record l { tally = tally_after l }) before
          (λ r. moved_in_range l (link_in_range i l e r) met l.state met l.ripe (tally_after l)) met _

      inside : (i : ℕ) (l : Link) (st : LinkState) → slot_at i w.ring.slots ≡ Some l → l.state ≡ st →
          Going c (rows.ruling_seen set now (from.actor - arbiter_actor 0) ruling i l st w)
      inside i l state.Accused e f = noting i l e (λ j. is_hello (f j)) (λ j. is_bound (f j)) state.Accused
      inside i l state.Discharged e f = noting i l e (λ j. is_hello (f j)) (λ j. is_bound (f j)) state.Discharged
      inside i l st e f = a
