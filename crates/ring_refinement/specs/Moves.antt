-- The machine's places against what is told.
use Rattle.std.specs.Prelude.{◌≡◌, ℕ, ◌+◌, List, [], ◌∷◌}
use Rattle.ring_points.specs.declared.who.Who.{Who}
use Rattle.fabric_terms.specs.declared.report.Report.{Report}
use Rattle.fabric_terms.specs.declared.report.Report.TheVariants.{Gave, TookOver}
use Rattle.fabric_terms.specs.Places.{Place, With, Flying, place_after, TakesFrom}
use Rattle.ring_machine.specs.World as machine

-- a point that is none of the ring is told to be with the first instance
abbrev pub place_of : Who → machine.Place → Place
place_of first (machine.At who) = With who
place_of first (machine.InFlight giver receiver number) = Flying giver.who number receiver.who
place_of first machine.Outside = With first

-- where the points of the world are, as they are told
abbrev pub places_of : Who → machine.World → ℕ → Place
places_of first w p = place_of first (w.place p)

-- the number of the next flight after a report
abbrev pub next_after : Report → ℕ → ℕ
next_after (Gave y number ranges) next = next + 1
next_after _ next = next

-- a flight that is given has the next number
abbrev pub IsNext : Report → ℕ → Type 0
IsNext (Gave y number ranges) next = number ≡ next
IsNext _ next = Unit {0}

-- From these places and this next number of a flight, what x tells leads to those: each report takes its points from where
-- they are then.
abbrev pub MovedBy : Who → List Report → ℕ → (ℕ → Place) → ℕ → (ℕ → Place) → Type 0
MovedBy x [] next places next_then places_then = (next ≡ next_then) × (places ≡ places_then)
MovedBy x (r ∷ rs) next places next_then places_then =
    TakesFrom x r places × IsNext r next × MovedBy x rs (next_after r next) (λ p. place_after x r p (places p)) next_then places_then

-- who is told to be taken over holds nothing from then on
abbrev pub IsOver : machine.Settings → machine.World → Report → Type 0
IsOver k w (TookOver v ranges) = machine.Dead k (w.instance v)
IsOver k w _ = Unit {0}

abbrev pub AreOver : machine.Settings → machine.World → List Report → Type 0
AreOver k w [] = Unit {0}
AreOver k w (r ∷ rs) = IsOver k w r × AreOver k w rs
