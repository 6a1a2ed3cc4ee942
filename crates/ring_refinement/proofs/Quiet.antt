-- What the machine does not see: reports that move nothing, messages that it does not know, and the rest of a ring.
use Rattle.std.proofs.Common.{◌≡◌, ℕ, Bool, true, false, [], ◌∷◌, ◌++◌, Option, Some, None, refl, sym, subst}
use Rattle.ring_points.specs.declared.point.Point.{Point}
use Rattle.ring_points.specs.declared.who.Who.{Who}
use Rattle.ring_points.specs.Whos.{node_instance}
use Rattle.fabric_terms.specs.declared.config.FabricConfig.{FabricConfig}
use Rattle.fabric_terms.specs.declared.message.Body.TheVariants as body
use Rattle.fabric_terms.specs.declared.report.Reason.{Reason}
use Rattle.fabric_terms.specs.declared.report.Report.{Report}
use Rattle.fabric_terms.specs.declared.report.Report.TheVariants as report
use Rattle.fabric_terms.specs.declared.report.Verb.{Verb}
use Rattle.fabric_terms.specs.Places.{Place, TakesFrom, place_after}
use Rattle.join_phases.specs.Phases.{is_routing}
use Rattle.ring_route.specs.Routes.{Routes}
use Rattle.ring_route.specs.declared.hop.Hop.{Hop}
use Rattle.ring_route.specs.declared.hop.Hop.TheVariants as hop
use Rattle.ring_rules.specs.Commands.{seek_place, join_unless, join_commanded}
use Rattle.ring_rules.specs.Deeds.{send, tell, refuse}
use Rattle.ring_rules.specs.Rings.{Work, settings_of}
use Rattle.ring_rules.specs.Seeks.{hop_from, find_by, find_commanded, seek_on, seek_received, greet_holder, found_received, seeks_own}
use Rattle.ring_rules.proofs.Rows.{join_commanded-is, find_commanded-is, seek_received-is, found_received-is}
use Rattle.ring_machine.specs.World.{World}
use Rattle.ring_machine.specs.Events.{IsSound}
use Rattle.ring_refinement.specs.Images.{machine_of}
use Rattle.ring_refinement.specs.Moves.{places_of, next_after, IsNext, IsOver, MovedBy}
use Rattle.ring_refinement.proofs.Telling.{moved_and, over_and}
use Rattle.ring_refinement.proofs.Going.{Going, sends}
use Rattle.ring_refinement.proofs.Greetings.{greet_plainly_going}

module _ {c : FabricConfig} {m : World} {x : Who} {now : ℕ} {w : Work} (sound : IsSound (machine_of c)) (g : Going c m x now w) where
  abbrev v : World
  v = g.after

  abbrev first : Who
  first = v.whole

  -- a report that moves no point
  pub tells : (r : Report) → TakesFrom x r (places_of first v) → IsNext r w.ring.token.next_flight → next_after r w.ring.token.next_flight ≡ w.ring.token.next_flight →
      ◌≡◌ {A = ℕ → Place} (λ p. place_after x r p (places_of first v p)) (places_of first v) → IsOver (machine_of c) v r → Going c m x now (tell r w)
  tells r from next same_next same_places over = record {
    after = v;
    inv = g.inv;
    live = g.live;
    beside = g.beside;
    dies = g.dies;
    reading = g.reading;
    stays = g.stays;
    shows = g.shows;
    sent = g.sent;
    moved =
        subst (λ (Q : ℕ → Place). MovedBy x (w.told ++ r ∷ []) (m.instance x).token.next_flight (places_of first m) w.ring.token.next_flight Q) same_places
        (subst (λ (n : ℕ). MovedBy x (w.told ++ r ∷ []) (m.instance x).token.next_flight (places_of first m) n (λ p. place_after x r p (places_of first v p))) same_next
        (moved_and x w.told (m.instance x).token.next_flight w.ring.token.next_flight (places_of first m) (places_of first v) r g.moved from next));
    over = over_and (machine_of c) v w.told r g.over over;
  }

  pub refuses : (verb : Verb) (reason : Reason) → Going c m x now (refuse verb reason w)
  refuses verb reason = tells (report.Refused verb reason) tt tt refl refl tt

  -- whom it knows, and by whom it joins
  pub knows : (routes : Routes) (target : Option ℕ) → Going c m x now (record w { ring = record w.ring { routes = routes; target = target } })
  knows routes target = record {
    after = v;
    inv = g.inv;
    live = g.live;
    beside = g.beside;
    dies = g.dies;
    reading = g.reading;
    stays = g.stays;
    shows = let s = g.shows in record {
      me = s.me;
      running = s.running;
      token = s.token;
      next = s.next;
      slots = s.slots;
      accused = s.accused;
      rises = s.rises;
      frozen = s.frozen;
    };
    sent = g.sent;
    moved = g.moved;
    over = g.over;
  }

  pub seek_going : (to origin : Who) (key : Point) (hops : ℕ) → Going c m x now (send to (body.Seek origin key hops) w)
  seek_going to origin key hops = sends sound g to (body.Seek origin key hops) (record { image = tt; rises = refl; no_ruling = refl })

  pub seek_place_going : (member : ℕ) → Going c m x now (seek_place member w)
  seek_place_going member = seek_going (node_instance member 0) w.ring.me _ 0

  found_going : (to : Who) (key : Point) (holder : Who) → Going c m x now (send to (body.Found key holder) w)
  found_going to key holder = sends sound g to (body.Found key holder) (record { image = tt; rises = refl; no_ruling = refl })

module _ {c : FabricConfig} {m : World} {x : Who} {now : ℕ} {w : Work} (sound : IsSound (machine_of c)) (g : Going c m x now w) where
  pub join_going : (member : ℕ) → Going c m x now (join_commanded member w)
  join_going member = subst (λ (u : Work). Going c m x now u) (sym (join_commanded-is member w)) (go (is_routing w.ring.phase))
    where
      go : (q : Bool) → Going c m x now (join_unless member w q)
      go true = refuses sound g _ _
      go false = seek_place_going sound (knows sound g w.ring.routes (Some member)) member

  pub find_going : (key : Point) → Going c m x now (find_commanded key w)
  find_going key = subst (λ (u : Work). Going c m x now u) (sym (find_commanded-is key w)) (go (hop_from w.ring key None))
    where
      go : (h : Hop) → Going c m x now (find_by key h w)
      go hop.Here = tells sound g (report.Found key w.ring.me) tt tt refl refl tt
      go (hop.To next) = seek_going sound g next w.ring.me key 1
      go hop.Nowhere = tells sound g (report.Nowhere key) tt tt refl refl tt

  pub seek_received_going : (origin : Who) (key : Point) (hops : ℕ) → Going c m x now (seek_received origin key hops w)
  seek_received_going origin key hops = subst (λ (u : Work). Going c m x now u) (sym (seek_received-is origin key hops w)) (go (hop_from w.ring key (Some origin.actor)) _)
    where
      go : (h : Hop) (q : Bool) → Going c m x now (seek_on origin key hops h q w)
      go hop.Here q = found_going sound g origin key w.ring.me
      go (hop.To next) false = g
      go hop.Nowhere false = g
      go (hop.To next) true = seek_going sound g next origin key _
      go hop.Nowhere true = tells sound g (report.Nowhere key) tt tt refl refl tt

  pub found_received_going : (node : ℕ) (key : Point) (holder : Who) → Going c m x now (found_received (settings_of c node) now key holder w)
  found_received_going node key holder =
      subst (λ (u : Work). Going c m x now u) (sym (found_received-is (settings_of c node) now key holder w)) (go (seeks_own w.ring key))
    where
      told : Going c m x now (tell (report.Found key holder) w)
      told = tells sound g (report.Found key holder) tt tt refl refl tt

      go : (q : Bool) → Going c m x now (greet_holder (settings_of c node) now holder (tell (report.Found key holder) w) q)
      go false = told
      go true = greet_plainly_going sound node (knows sound told w.ring.routes None) holder.actor
