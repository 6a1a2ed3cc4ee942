-- The search for a point keeps a ring in range.
use Rattle.std.proofs.Common.{◌≡◌, ℕ, ◌+◌, ◌<◌, Bool, true, false, List, Option, Some, None, IsTrue, refl, sym, subst, arith}
use Rattle.std.specs.Prelude.{nat_lt}
use Rattle.std.proofs.lemmas.Bool.{le-leb, ltb-true}
use Rattle.fabric_terms.specs.declared.config.FabricConfig.{FabricConfig}
use Rattle.fabric_terms.specs.declared.message.Body.TheVariants as body
use Rattle.fabric_terms.specs.declared.report.Report.TheVariants as report
use Rattle.fabric_terms.specs.Sound.{IsSound}
use Rattle.ring_points.specs.declared.point.Point.{Point}
use Rattle.ring_points.specs.declared.who.Who.{Who}
use Rattle.ring_points.specs.Ranges.{in_ranges}
use Rattle.ring_points.specs.Whos.{node_instance}
use Rattle.ring_route.specs.declared.hop.Hop.{Hop}
use Rattle.ring_route.specs.declared.hop.Hop.TheVariants as hop
use Rattle.ring_route.specs.Routes.{point_of}
use Rattle.ring_rules.specs.Commands.{seek_place}
use Rattle.ring_rules.specs.Deeds.{on_ring, tell}
use Rattle.ring_rules.specs.Rings.{Settings, Work, hop_limit}
use Rattle.ring_rules.specs.Seeks as rows
use Rattle.ring_rules.specs.Seeks.{find_commanded, found_received, hop_from, seek_received, seeks_own}
use Rattle.fabric_terms.specs.Fields.{is_long, is_node, is_stamp, is_who}
use Rattle.frames_fit.specs.InRange.{IsInRange}
use Rattle.frames_fit.proofs.Facts.{found_format, node_addressed, seek_format, who_addressed, who_parts}
use Rattle.frames_fit.proofs.Going.{Going, routes, sends, tells}
use Rattle.frames_fit.proofs.Greetings.{greets_plainly}
use Rattle.frames_fit.proofs.Routes.{HopInRange, next_hop_in_range}
use Rattle.frames_fit.proofs.Reporting.{long_fits, who_fits}
use Rattle.frames_fit.proofs.Saying.{SettingsInRange}
use Rattle.frames_fit.proofs.Settled.{point_long}

module _ (c : FabricConfig) (w : Work) (a : Going c w) where
  -- the hop goes to a node in range
  hop_in_range : (key : Point) (skip : Option ℕ) (h : Hop) → hop_from w.ring key skip ≡ h → IsInRange c w.ring → HopInRange h
  hop_in_range key skip h e r =
      subst HopInRange e (next_hop_in_range w.ring.routes key.0 (in_ranges key.0 w.ring.token.ranges) skip w.ring.accused r.known)

  pub find_going : (key : Point) → IsTrue (is_long key.0) → Going c (find_commanded key w)
  unfolding find_commanded
  find_going key long = by_hop (hop_from w.ring key None) refl
    where
      by_hop : (h : Hop) → hop_from w.ring key None ≡ h → Going c (rows.find_by key h w)
      by_hop hop.Here e = tells c w a (report.Found key w.ring.me) (λ r. (long_fits key.0 long, who_fits w.ring.me r.me))
      by_hop (hop.To next) e = sends c w a next (body.Seek w.ring.me key 1)
          (λ r. seek_format next (who_addressed next (hop_in_range key None (hop.To next) e r)) w.ring.me key 1 r.me long refl)
      by_hop hop.Nowhere e = tells c w a (report.Nowhere key) (λ r. long_fits key.0 long)

  pub seek_going : (origin : Who) (key : Point) (hops : ℕ) → IsTrue (is_who origin) → IsTrue (is_long key.0) → Going c (seek_received origin key hops w)
  unfolding seek_received
  seek_going origin key hops named long = by_hop (hop_from w.ring key (Some origin.actor)) refl (nat_lt hops hop_limit) refl
    where
      by_hop : (h : Hop) → hop_from w.ring key (Some origin.actor) ≡ h → (b : Bool) → nat_lt hops hop_limit ≡ b → Going c (rows.seek_on origin key hops h b w)
      by_hop hop.Here e b f = sends c w a origin (body.Found key w.ring.me) (λ r. found_format origin (who_addressed origin named) key w.ring.me long r.me)
      by_hop (hop.To next) e true f =
          let few : hops < 64 = ltb-true hops 64 f in
          sends c w a next (body.Seek origin key (hops + 1))
          (λ r. seek_format next (who_addressed next (hop_in_range key (Some origin.actor) (hop.To next) e r)) origin key (hops + 1) named long
          (le-leb (hops + 1) 64 (omega arith)))
      by_hop (hop.To next) e false f = a
      by_hop hop.Nowhere e true f = tells c w a (report.Nowhere key) (λ r. long_fits key.0 long)
      by_hop hop.Nowhere e false f = a

  pub found_going : (set : Settings) → SettingsInRange set → (now : ℕ) → IsTrue (is_stamp now) → (key : Point) (holder : Who) → IsTrue (is_long key.0) →
      IsTrue (is_who holder) → Going c (found_received set now key holder w)
  unfolding found_received
  found_going set fine now reads key holder long named = holds (seeks_own w.ring key)
    where
      told : Going c (tell (report.Found key holder) w)
      told = tells c w a (report.Found key holder) (λ r. (long_fits key.0 long, who_fits holder named))

      over : Going c (on_ring (λ r. record r { target = None }) (tell (report.Found key holder) w))
      over = routes c (tell (report.Found key holder) w) told w.ring.routes.known None (λ r. r.known) (λ r. tt)

      holds : (b : Bool) → Going c (rows.greet_holder set now holder (tell (report.Found key holder) w) b)
      holds true = greets_plainly c (on_ring (λ r. record r { target = None }) (tell (report.Found key holder) w)) over set fine now reads holder.actor
          (who_parts holder named).node
      holds false = told

  pub seek_place_going : IsSound c → (member : ℕ) → IsTrue (is_node member) → Going c (seek_place member w)
  seek_place_going sound member h =
      let key : Point = record { 0 = point_of w.ring.me.actor w.ring.routes.points } in
      sends c w a (node_instance member 0) (body.Seek w.ring.me key 0)
      (λ r. seek_format (node_instance member 0) (node_addressed (node_instance member 0) h refl) w.ring.me key 0 r.me
      (subst (λ (ps : List (ℕ × ℕ)). IsTrue (is_long (point_of w.ring.me.actor ps))) (sym r.points) (point_long c sound w.ring.me.actor)) refl)
