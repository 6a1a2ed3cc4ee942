-- A node that leaves, and what a row comes to: it goes on, or it has left.
use Rattle.std.proofs.Common.{◌≡◌, ℕ, Bool, true, false, [], ◌∷◌, ◌++◌, refl, sym, ap, ◌∙◌, subst}
use Rattle.ring_points.specs.declared.who.Who.{Who}
use Rattle.fabric_terms.specs.declared.config.FabricConfig.{FabricConfig}
use Rattle.fabric_terms.specs.declared.report.Report.TheVariants as report
use Rattle.fabric_terms.specs.declared.report.Why.{Why}
use Rattle.fabric_terms.specs.declared.report.Why.TheVariants.{Counters}
use Rattle.join_phases.specs.Phases.{is_left}
use Rattle.ring_rules.specs.Rings.{Work}
use Rattle.ring_rules.specs.Deeds.{leave, then_if, then_unless_left, has_numbers, counted_if, counted}
use Rattle.ring_machine.specs.World.{Instance, World, Left, Dead}
use Rattle.ring_machine.specs.Events.{IsSound, Leaves, in_phase}
use Rattle.ring_machine.specs.Invariant.{Invariant}
use Rattle.ring_machine.proofs.Histories.{event_done, EventDone}
use Rattle.ring_points.proofs.Whos.{same_who-false}
use Rattle.ring_machine.proofs.Whos.{updated_cases}
use Rattle.ring_refinement.specs.Images.{machine_of}
use Rattle.ring_refinement.specs.Shown.{ShowsAs, ShowsInstance}
use Rattle.ring_refinement.specs.Moves.{places_of, MovedBy, AreOver}
use Rattle.ring_refinement.specs.Refined.{AllSaid, Beside, Refined}
use Rattle.ring_refinement.proofs.Telling.{moved_and, over_and, over_later}
use Rattle.ring_refinement.proofs.Going.{Going, beside_then}
use Rattle.ring_machine.specs.Tokens.{Token}

module _ {c : FabricConfig} {m : World} {x : Who} {now : ℕ} {w : Work} (sound : IsSound (machine_of c)) (g : Going c m x now w) where
  abbrev v : World
  v = g.after

  abbrev first : Who
  first = v.whole

  -- as it stands
  pub still_refined : Refined c m x w
  still_refined = record {
    after = v;
    inv = g.inv;
    beside = g.beside;
    dies = g.dies;
    live = λ h. g.live;
    shows = subst (λ (b : Bool). ShowsAs c v x w.ring b) (sym g.stays) g.shows;
    sent = g.sent;
    moved = subst (λ (n : ℕ). MovedBy x w.told (m.instance x).token.next_flight (places_of first m) n (places_of first v))
        (sym (ap (λ (t : Token). t.next_flight) g.shows.token)) g.moved;
    over = g.over;
  }

-- x in a world that shows the work so far, below its fence or not
pub record Standing (c : FabricConfig) (m : World) (x : Who) (w : Work) : Type 0 where
  pub after : World
  pub inv : Invariant (machine_of c) after
  pub beside : Beside m x after
  pub dies : (y : Who) → Dead (machine_of c) (m.instance y) → Dead (machine_of c) (after.instance y)
  pub shows : ShowsInstance c x after.sent (after.instance x) w.ring
  pub sent : AllSaid c.lease after.sent x w.sent
  pub moved :
      MovedBy x w.told (m.instance x).token.next_flight (places_of after.whole m) w.ring.token.next_flight
      (places_of after.whole after)
  pub over : AreOver (machine_of c) after w.told

pub going_stands : {c : FabricConfig} {m : World} {x : Who} {now : ℕ} {w : Work} → Going c m x now w → Standing c m x w
going_stands g = record { after = g.after; inv = g.inv; beside = g.beside; dies = g.dies; shows = g.shows; sent = g.sent; moved = g.moved; over = g.over }

module _ {c : FabricConfig} {m : World} {x : Who} {w : Work} (sound : IsSound (machine_of c)) (s : Standing c m x w) where
  abbrev first_one : Who
  first_one = s.after.whole

  -- it leaves
  pub leave_refined : (why : Why) → Refined c m x (leave why w)
  leave_refined why = record {
    after = u;
    inv = done.inv;
    beside = beside_then m s.after u x s.beside (record {
      time = refl;
      starts = refl;
      whole = refl;
      first_accuser = refl;
      first_claimer = refl;
      reading = ap (λ (i : Instance). i.reading) own;
      pairs = ap (λ (i : Instance). i.pairs) own;
      others = λ y n. updated_cases (λ i. i ≡ s.after.instance y) s.after.instance x y out (λ e. absurd (same_who-false x y n e)) (λ e. refl);
      sent = λ f h. h;
    });
    dies = λ y h. done.later.dies y (s.dies y h);
    live = λ h. absurd (cc (h));
    shows = record {
      me = s.shows.me;
      ranges = refl;
      freeze = refl;
      slots = refl;
      stands_still = λ h. let p = ap (λ (i : Instance). i.phase) own in cc (p, h);
    };
    sent = s.sent;
    moved = subst (λ (n : ℕ). MovedBy x (w.told ++ report.LeftRing why ∷ []) (m.instance x).token.next_flight (places_of first_one m) n (places_of first_one s.after))
        (sym (ap (λ (i : Instance). i.token.next_flight) own ∙ ap (λ (t : Token). t.next_flight) s.shows.token))
        (moved_and x w.told (m.instance x).token.next_flight w.ring.token.next_flight (places_of first_one m) (places_of first_one s.after)
        (report.LeftRing why) s.moved tt tt);
    over = over_and (machine_of c) u w.told (report.LeftRing why) (over_later (machine_of c) s.after u w.told (λ y h. done.later.dies y h) s.over) tt;
  }
    where
      out : Instance
      out = record (s.after.instance x) { phase = Left }

      u : World
      u = in_phase s.after x Left

      own : (in_phase s.after x Left).instance x ≡ record (s.after.instance x) { phase = Left }
      own = updated_cases (λ i. i ≡ record (s.after.instance x) { phase = Left }) s.after.instance x x (record (s.after.instance x) { phase = Left }) (λ e. refl)
          (λ a. absurd (same_who-false x x a refl))

      done : EventDone (machine_of c) s.after (in_phase s.after x Left)
      done = event_done sound s.inv (Leaves x) s.shows.running

-- what a row comes to
pub data Went (c : FabricConfig) (m : World) (x : Who) (now : ℕ) (w : Work) : Type 0 where
  on : Going c m x now w → Went c m x now w
  off : is_left w.ring.phase ≡ true → Refined c m x w → Went c m x now w

pub went_refined : {c : FabricConfig} {m : World} {x : Who} {now : ℕ} {w : Work} → IsSound (machine_of c) → Went c m x now w → Refined c m x w
went_refined sound (on g) = still_refined sound g
went_refined sound (off h r) = r

pub left_went : {c : FabricConfig} {m : World} {x : Who} {now : ℕ} {w : Work} → IsSound (machine_of c) → Going c m x now w → (why : Why) → Went c m x now (leave why w)
left_went sound g why = off refl (leave_refined sound (going_stands g) why)

-- a row that needs a number past the last is not done
pub counted_went : {c : FabricConfig} {m : World} {x : Who} {now : ℕ} {old new : Work} → IsSound (machine_of c) → Going c m x now old → Went c m x now new →
    Went c m x now (counted old new)
counted_went {c = c} {m = m} {x = x} {now = now} {old = old} {new = new} sound g n = go (has_numbers new.ring)
  where
    go : (q : Bool) → Went c m x now (counted_if old new q)
    go true = n
    go false = left_went sound g Counters

-- what comes after, unless the node has left
pub then_went : {c : FabricConfig} {m : World} {x : Who} {now : ℕ} {w : Work} → (next : Work → Work) → Went c m x now w → (Going c m x now w → Went c m x now (next w)) →
    Went c m x now (then_unless_left next w)
then_went {c = c} {m = m} {x = x} {now = now} {w = w} next (on g) more = subst (λ (q : Bool). Went c m x now (then_if next w q)) (sym g.stays) (more g)
then_went {c = c} {m = m} {x = x} {now = now} {w = w} next (off h r) more = subst (λ (q : Bool). Went c m x now (then_if next w q)) (sym h) (off h r)
