-- The clocks of a moment, as the auditor walks over them.
use Rattle.std.specs.Prelude.{◌≡◌, ◌≢◌, ℕ, Bool, true, false, ◌&&◌, if◌then◌else◌, List, [], ◌∷◌, map, Option, Some, None, Contains}
use Rattle.std.specs.List.{list_all}
use Rattle.ring_points.specs.declared.who.Who.{Who}
use Rattle.ring_points.specs.Whos.{same_who}
use Rattle.fabric_terms.specs.Runs.{Clocks, Owned, IsBelow, reading_of}
use Rattle.run_audit.specs.declared.overlap.LiveHolder.{LiveHolder}
use Rattle.run_audit.specs.declared.owners.Owners.{Owners}
use Rattle.run_audit.specs.Breaches.{is_below}
use Rattle.run_audit.specs.Owners.{own_at}
use Rattle.run_audit.specs.Standing.{HoldsAt}

-- each clock tells the reading of its instance
abbrev pub EachIsFirst : Clocks → Type 0
EachIsFirst clocks = (w : Who) (reading : ℕ) → Contains clocks (w, reading) → reading_of w clocks ≡ Some reading

-- w comes after the last, if there is one
abbrev pub comes_after : Option Who → Who → Bool
comes_after None w = true
comes_after (Some last) w = is_below last w

-- an instance of these clocks with its present reading, which owned this last and is below its fence
pub record Owns (owners : Owners) (clocks : Clocks) (w : Who) : Type 0 where
  pub reading : ℕ
  pub runs : reading_of w clocks ≡ Some reading
  pub owned : Owned
  pub own : own_at w owners ≡ Some owned
  pub below : IsBelow reading owned.fence

-- h holds what its instance owned last, at the present reading
pub record HoldsNow (owners : Owners) (clocks : Clocks) (h : LiveHolder) : Type 0 where
  pub reading : ℕ
  pub runs : reading_of h.who clocks ≡ Some reading
  pub holds : HoldsAt owners h.who reading h

-- These are the holders of the walk over the first clocks. One that is not fresh is among those that lived, and is not
-- the actor.
pub record AreRows (owners : Owners) (clocks walked : Clocks) (lived : List Who) (actor : Option Who) (hs : List LiveHolder) : Type 0 where
  pub each : (h : LiveHolder) → Contains hs h → HoldsNow owners clocks h
  pub all : (w : Who) (reading : ℕ) → Contains walked (w, reading) → Owns owners clocks w → (h : LiveHolder) × Contains hs h × (h.who ≡ w)
  pub stale : (h : LiveHolder) → Contains hs h → h.fresh ≡ false → Contains lived h.who × (actor ≢ Some h.who)

-- each is below all later ones
abbrev pub whos_rise : List Who → Bool
whos_rise [] = true
whos_rise (w ∷ ws) = list_all (is_below w) ws && whos_rise ws

abbrev pub whos_of : Clocks → List Who
whos_of clocks = map (λ c. c.0) clocks

-- what is left behind those at the front that are below v
abbrev pub from_who : Who → List Who → List Who
from_who v [] = []
from_who v (w ∷ ws) = if is_below w v then from_who v ws else w ∷ ws

abbrev pub begins_with : Who → List Who → Bool
begins_with v [] = false
begins_with v (w ∷ ws) = same_who w v

-- one that lived and is not the actor is not fresh
abbrev pub AreKnown : List Who → Option Who → List LiveHolder → Type 0
AreKnown lived actor hs = (h : LiveHolder) → Contains hs h → Contains lived h.who → actor ≢ Some h.who → h.fresh ≡ false
