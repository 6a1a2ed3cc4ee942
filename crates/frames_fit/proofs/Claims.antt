-- Whom arbitrators keep of a round keeps a ring in range.
use Rattle.std.proofs.Common.{◌≡◌, ℕ, ◌+◌, ◌-◌, Bool, true, false, Some, IsTrue, refl, arith}
use Rattle.std.specs.Prelude.{if◌then◌else◌, nat_le}
use Rattle.std.proofs.lemmas.Bool.{leb-false}
use Rattle.arbiter_quorum.specs.Tallies.{with_answer}
use Rattle.fabric_terms.specs.declared.config.FabricConfig.{FabricConfig}
use Rattle.fabric_terms.specs.Fields.{is_round, is_stamp}
use Rattle.heir_rounds.specs.declared.verdict.RoundVerdict.{RoundVerdict}
use Rattle.heir_rounds.specs.declared.verdict.RoundVerdict.TheVariants as verdict
use Rattle.heir_rounds.specs.Rounds.{RoundTally, after_split, counts_in, gone_on, has_majority, is_won, one_may_win, round_counted, round_noted, round_verdict}
use Rattle.ring_points.specs.declared.who.Who.{Who}
use Rattle.ring_points.specs.Whos.{arbiter_actor}
use Rattle.ring_rules.specs.declared.link.Link.{Link}
use Rattle.ring_rules.specs.declared.link.LinkState.{LinkState}
use Rattle.ring_rules.specs.declared.link.LinkState.TheVariants as state
use Rattle.ring_rules.specs.Claims as rows
use Rattle.ring_rules.specs.Claims.{kept_received}
use Rattle.ring_rules.specs.Deeds.{put_slot}
use Rattle.ring_rules.specs.Rings.{Settings, Work}
use Rattle.ring_rules.specs.Rulings.{has_rounds}
use Rattle.ring_rules.specs.Slots.{is_bound, is_hello, of_instance, slot_at, slot_where}
use Rattle.frames_fit.specs.InRange.{IsInRange, LinkInRange, RoundsInRange}
use Rattle.frames_fit.proofs.Asking.{claims}
use Rattle.frames_fit.proofs.Facts.{within_from, within_parts}
use Rattle.frames_fit.proofs.Going.{Going}
use Rattle.frames_fit.proofs.Places.{set_at}
use Rattle.frames_fit.proofs.Rulings.{becomes, goes, moves}
use Rattle.frames_fit.proofs.Saying.{SettingsInRange, found, link_in_range}

-- An answer is counted, and no round comes after the last.

counted_in_range : (t : RoundTally) (round a : ℕ) (kept : Who) → RoundsInRange t → RoundsInRange (round_counted t round a kept)
counted_in_range t round a kept h = by_test (counts_in t round)
  where
    by_test : (b : Bool) → RoundsInRange (if b then record t { answers = with_answer a kept t.answers } else t)
    by_test true = record { round = h.round; limit = h.limit }
    by_test false = h

next_in_range : (t : RoundTally) → RoundsInRange t → nat_le t.limit t.round ≡ false → IsTrue (is_round (t.round + 1))
next_in_range t h e =
    let below = leb-false t.limit t.round e in
    let last = (within_parts 1 8 t.limit h.limit).1 in
    within_from 1 8 (t.round + 1) (omega arith) (omega arith)

split_in_range : (t : RoundTally) → RoundsInRange t → RoundsInRange (gone_on t (after_split t))
split_in_range t h = by_test (nat_le t.limit t.round) refl
  where
    by_test : (last : Bool) → nat_le t.limit t.round ≡ last → RoundsInRange (gone_on t (if last then verdict.Over else verdict.Next (t.round + 1)))
    by_test true e = h
    by_test false e = record { round = next_in_range t h e; limit = h.limit }

gone_in_range : (t : RoundTally) → RoundsInRange t → (won lost may : Bool) →
    RoundsInRange (gone_on t (if won then verdict.Won else (if lost then verdict.Over else (if may then verdict.Open else after_split t))))
gone_in_range t h true lost may = h
gone_in_range t h false true may = h
gone_in_range t h false false true = h
gone_in_range t h false false false = split_in_range t h

noted_in_range : (t : RoundTally) (round a : ℕ) (kept : Who) → RoundsInRange t → RoundsInRange (round_noted t round a kept)
noted_in_range t round a kept h =
    let u : RoundTally = round_counted t round a kept in
    gone_in_range u (counted_in_range t round a kept h) (has_majority u u.me) (is_won u) (one_may_win u)

-- What is made of it.

module _ (c : FabricConfig) (w : Work) (a : Going c w) (set : Settings) (fine : SettingsInRange set) (now : ℕ) (reads : IsTrue (is_stamp now)) where
  judges : (i : ℕ) (l : Link) (e : slot_at i w.ring.slots ≡ Some l) → is_bound l.state ≡ false → (k : Link) → (IsInRange c w.ring → LinkInRange k) →
      is_hello k.state ≡ false → (v : RoundVerdict) → Going c (rows.round_judged set now i k v w)
  judges i l e idle k kept met verdict.Won = becomes c w a i l e idle set fine now reads k kept met
  judges i l e idle k kept met (verdict.Next round) =
      claims c set fine k met (put_slot i k w) (λ r. link_in_range i k (set_at w.ring.slots i l (Some k) e) r) (moves c w a i l e idle k kept)
  judges i l e idle k kept met verdict.Over = goes c w a i l e idle
  judges i l e idle k kept met verdict.Open = moves c w a i l e idle k kept

  pub kept_going : (from victim : Who) (round : ℕ) (claimer : Who) → Going c (kept_received set now from victim round claimer w)
  unfolding kept_received
  kept_going from victim round claimer = where_rounds (has_rounds set)
    where
      arbiter : ℕ
      arbiter = from.actor - arbiter_actor 0

      rounds_after : Link → RoundTally
      rounds_after l = round_noted l.rounds round arbiter claimer

      noted : (l : Link) → LinkInRange l → LinkInRange (record l { rounds = rounds_after l })
      noted l m = record {
        names = m.names;
        mine = m.mine;
        length = m.length;
        until = m.until;
        held = m.held;
        got = m.got;
        flight = m.flight;
        rounds = noted_in_range l.rounds round arbiter claimer m.rounds;
      }

      inside : (i : ℕ) (l : Link) (st : LinkState) → slot_at i w.ring.slots ≡ Some l → l.state ≡ st →
          Going c (rows.kept_seen set now arbiter round claimer i l st w)
      inside i l state.Discharged e f =
          judges i l e (λ j. is_bound (f j)) (record l { rounds = rounds_after l }) (λ r. noted l (link_in_range i l e r)) (λ j. is_hello (f j))
          (round_verdict l.rounds round arbiter claimer)
      inside i l st e f = a

      where_rounds : (b : Bool) → Going c (rows.kept_where set now arbiter victim round claimer w b)
      where_rounds false = a
      where_rounds true = found c w a (rows.kept_seen set now arbiter round claimer) (λ v. v) (slot_where (of_instance victim) w.ring.slots) inside a
