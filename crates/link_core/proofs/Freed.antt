-- A table with a place that was made free has a free place.
use Rattle.std.proofs.Common.{◌≡◌, ℕ, zero, suc, ◌+◌, ◌<◌, true, List, [], ◌∷◌, length, Some, None, refl, sym, arith, slice_set}
use Rattle.std.proofs.lemmas.List.{append-nil}
use Rattle.std.specs.List.{position_from}
use Rattle.ring_points.specs.declared.who.Who.{Who}
use Rattle.fabric_terms.specs.declared.message.Body.{Body}
use Rattle.fabric_terms.specs.declared.report.Why.TheVariants.{Counters}
use Rattle.ring_rules.specs.declared.link.Link.{Link}
use Rattle.ring_rules.specs.Rings.{Slots}
use Rattle.ring_rules.specs.Slots.{is_free}
use Rattle.link_core.specs.declared.notes.LinkNote.{LinkNote}
use Rattle.link_core.specs.declared.notes.LinkNote.TheVariants.{Leave}
use Rattle.link_core.specs.Links.{Links, did, did_after, is_spent, no_number, with_slot}
use Rattle.link_core.specs.Handshakes.{accept}

pub free_from : (s : Slots) (i n : ℕ) → i < length s → (j : ℕ) × (position_from is_free n (slice_set s i None) ≡ Some j)
free_from [] i n h = absurd (omega arith)
free_from (None ∷ ss) zero n h = (n, refl)
free_from (None ∷ ss) (suc i) n h = (n, refl)
free_from (Some l ∷ ss) zero n h = (n, refl)
free_from (Some l ∷ ss) (suc i) n h = free_from ss i (n + 1) (omega arith)

pub accept_spent : (k : Links) (i : ℕ) (l : Link) → i < length k.slots → is_spent k ≡ true → accept k (with_slot i None k) l ≡ no_number k
accept_spent k i l h e = let f = free_from k.slots i 0 h in rw (f.1, e) refl

pub cross_spent : (k : Links) (i : ℕ) (l : Link) (before : List (Who × Body)) (notes : List LinkNote) → i < length k.slots → true ≡ is_spent k → notes ≡ Leave Counters ∷ [] → did k before notes ≡ did_after before (accept k (with_slot i None k) l)
cross_spent k i l before notes h e f = let a = accept_spent k i l h (sym e) in rw (a, f, append-nil) refl
