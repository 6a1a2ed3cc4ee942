-- What a ring in range tells is in the ranges of reports.
use Rattle.std.proofs.Common.{◌≡◌, ℕ, ◌+◌, ◌*◌, ◌-◌, ◌≤◌, ◌<◌, ◌^◌, Bool, true, false, List, [], ◌∷◌, Option, Some, None, IsTrue, inl, refl, arith}
use Rattle.std.specs.Prelude.{All, nat_le}
use Rattle.std.specs.Int.{div_ceil}
use Rattle.std.proofs.lemmas.Bool.{and_parts, eq-eqb, leb-true, ltb-true}
use Rattle.std.proofs.lemmas.List.Elements.{All-head, All-tail}
use Rattle.std.proofs.lemmas.Nat.{mul-le}
use Rattle.std.proofs.Math.Nat.{div-le_self}
use Rattle.fabric_terms.specs.declared.config.FabricConfig.{FabricConfig}
use Rattle.fabric_terms.specs.Fields.{is_counted, is_long, is_node, is_part, is_stamp, is_who, is_word}
use Rattle.fabric_terms.specs.Ranges.{AreRanges, IsLong, IsOptional, IsWho, IsWord}
use Rattle.ring_points.specs.declared.interval.Interval.{Interval}
use Rattle.ring_points.specs.declared.who.Who.{Who}
use Rattle.ring_points.specs.Ranges.{is_proper}
use Rattle.ring_rules.specs.declared.link.Link.{Link}
use Rattle.join_phases.specs.Phases.{is_left}
use Rattle.ring_rules.specs.Owns.{is_same_own, own_of_ring, same_fence, same_ranges}
use Rattle.ring_rules.specs.Rings.{Ring, Settings, Slots}
use Rattle.ring_rules.specs.Rulings.{ripe_at}
use Rattle.ring_rules.specs.Slots.{fence_if, fence_of, guards, is_hello}
use Rattle.frames_fit.specs.Formats.{ReportInRange}
use Rattle.frames_fit.specs.InRange.{IsInRange, LinkInRange, SlotInRange}
use Rattle.frames_fit.proofs.Facts.{within_parts}
use Rattle.frames_fit.proofs.Saying.{SettingsInRange, in_session_of}

-- Names, numbers and ranges, as frames and as reports have them.

pub who_fits : (w : Who) → IsTrue (is_who w) → IsWho w
who_fits w h =
    let parts = and_parts (is_node w.actor) (is_counted w.instance) h in
    let node = within_parts 1 999 w.actor parts.0 in
    let counted = and_parts (nat_le 1 w.instance) (is_word w.instance) parts.1 in
    inl (node, leb-true 1 w.instance counted.0, ltb-true w.instance 4294967296 counted.1)

pub counted_fits : (n : ℕ) → IsTrue (is_counted n) → IsWord n
counted_fits n h = ltb-true n 4294967296 (and_parts (nat_le 1 n) (is_word n) h).1

pub long_fits : (n : ℕ) → IsTrue (is_long n) → IsLong n
long_fits n h = ltb-true n 18446744073709551616 h

pub part_fits : (part : List Interval) → IsTrue (is_part part) → AreRanges part
part_fits part h = (and_parts (is_proper part) _ h).0

-- the peer of a link in a session
pub peer_fits : (l : Link) → LinkInRange l → is_hello l.state ≡ false → IsWho l.peer
peer_fits l h met = who_fits l.peer (in_session_of l h met).peer

-- When an heir may take over.

ceil_small : (a b : ℕ) → div_ceil a b ≤ a + 1
ceil_small a b = let part = div-le_self a b in omega arith

pub ripe_fits : (set : Settings) → SettingsInRange set → (now : ℕ) → IsTrue (is_stamp now) → (l : Link) → LinkInRange l → IsLong (ripe_at set now l)
ripe_fits set fine now reads l h =
    let last = leb-true now 1000000000000000 reads in
    let long = (within_parts 10 1000000000 l.len h.length).1 in
    let answer = fine.answer in
    let drift = fine.drift in
    let grain = fine.grain in
    let time : ℕ = l.len + set.answer + set.bound.grain in
    let fast : ℕ = 1000 + set.bound.d in
    let most : time * fast ≤ 2001000000 * 1100 = mul-le time fast 2001000000 1100 (omega arith) (omega arith) in
    let ceil = ceil_small (time * fast) (1000 - set.bound.d) in
    omega arith

-- What is owned, and the fence.

fence_small : (answer : ℕ) → answer ≤ 1000000000 → (slots : Slots) → All SlotInRange slots → IsOptional (fence_of answer slots)
fence_small answer few [] h = tt
fence_small answer few (None ∷ ss) h = fence_small answer few ss (All-tail SlotInRange None ss h)
fence_small answer few (Some l ∷ ss) h = by_state (guards l.state) (fence_of answer ss) (fence_small answer few ss (All-tail SlotInRange (Some l) ss h))
  where
    early : l.until + answer < 2 ^ 64
    early = let e = (All-head SlotInRange (Some l) ss h).until in omega arith

    by_state : (b : Bool) (o : Option ℕ) → IsOptional o → IsOptional (fence_if b (l.until + answer) o)
    by_state false o k = k
    by_state true None k = early
    by_state true (Some other) k = let one = early in let two : other < 2 ^ 64 = k in omega arith

-- the same ring owns the same, where the node has left

same_ranges_again : (is : List Interval) → same_ranges is is ≡ true
same_ranges_again [] = refl
same_ranges_again (i ∷ is) = rw (eq-eqb i.lo i.lo refl) (rw (eq-eqb i.hi i.hi refl) (same_ranges_again is))

same_fence_again : (o : Option ℕ) → same_fence o o ≡ true
same_fence_again None = refl
same_fence_again (Some n) = eq-eqb n n refl

pub same_own : (set : Settings) (r : Ring) → is_left r.phase ≡ true → is_same_own set r r ≡ true
same_own set r e =
    let ranges = same_ranges_again r.token.ranges in
    let fence = same_fence_again (fence_of set.answer r.slots) in
    rw ranges (rw fence (rw e refl))

pub own_fits : {c : FabricConfig} (set : Settings) → set.answer ≤ 1000000000 → (r : Ring) → IsInRange c r → ReportInRange (own_of_ring set r)
own_fits set few r h = (h.token.ranges, fence_small set.answer few r.slots h.slots)
