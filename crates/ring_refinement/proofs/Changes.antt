-- A table of which one place changes, against the slots of which one number changes.
use Rattle.std.proofs.Common.{◌≡◌, ℕ, ◌<◌, ◌≤◌, ◌||◌, Bool, true, false, List, length, Option, Some, None, ◌⊎◌, refl, sym, ◌∙◌, subst, inl, inr, ⊎_elim, arith}
use Rattle.std.specs.Prelude.{slice_set}
use Rattle.std.proofs.lemmas.Bool.{both_ways}
use Rattle.ring_points.specs.declared.who.Who.{Who}
use Rattle.fabric_terms.specs.declared.config.FabricConfig.{FabricConfig}
use Rattle.ring_rules.specs.declared.link.Link.{Link}
use Rattle.ring_rules.specs.declared.link.LinkState.{LinkState}
use Rattle.ring_rules.specs.declared.link.LinkState.TheVariants as state
use Rattle.ring_rules.specs.Rings.{Slots}
use Rattle.ring_rules.specs.Slots.{slot_at, guards, is_hello, bars_link}
use Rattle.fabric_lemmas.specs.Members.{IsMember}
use Rattle.ring_machine.specs.Ends.{replaced}
use Rattle.ring_machine.specs.Slots as machine
use Rattle.ring_machine.specs.Slots.{Slot, State, Unused, Abandoned, Parted, Ended}
use Rattle.ring_machine.specs.Frames.{Frame}
use Rattle.ring_machine.proofs.Whos.{replaced_cases}
use Rattle.ring_refinement.specs.Images.{machine_of, state_of, slot_of}
use Rattle.ring_refinement.specs.Tables.{is_over, SoundTally, SoundRounds, SoundLink, Has, ShowsSlots}
use Rattle.ring_refinement.proofs.Places.{set_cases, set_same, set_other}
use Rattle.arbiter_quorum.specs.Tallies.{Tally}
use Rattle.heir_rounds.specs.Rounds.{RoundTally}
use Rattle.ring_machine.proofs.Later.{open_more}

-- beside the link at place i no greeting meets a link that bars it
pub record StandsAlone (slots : Slots) (i : ℕ) (k : Link) : Type 0 where
  pub greets : is_hello k.state ≡ true → (j : ℕ) (l : Link) → slot_at j slots ≡ Some l → bars_link l.state ≡ true → k.peer.actor ≡ l.peer.actor → i ≡ j
  pub bars : bars_link k.state ≡ true → (j : ℕ) (l : Link) → slot_at j slots ≡ Some l → is_hello l.state ≡ true → l.peer.actor ≡ k.peer.actor → j ≡ i

-- the slot t shows this link of number n at place i
pub record Stays (c : FabricConfig) (x : Who) (sent : List Frame) (slots : Slots) (i n next : ℕ) (t : Slot) (k : Link) : Type 0 where
  pub numbered : k.mine ≡ n
  pub below : n < next
  pub shown : t ≡ slot_of k
  pub sound : SoundLink c x sent k
  pub alone : StandsAlone slots i k

-- what place i holds then: a link that t shows, or none
pub data NewAt (c : FabricConfig) (x : Who) (sent : List Frame) (slots : Slots) (i n next : ℕ) (t : Slot) (o : Option Link) : Type 0 where
  stays : (k : Link) → o ≡ Some k → Stays c x sent slots i n next t k → NewAt c x sent slots i n next t o
  goes : o ≡ None → is_over t.state ≡ true → NewAt c x sent slots i n next t o

pub tally_later : (c : FabricConfig) (x victim : Who) (sent more : List Frame) (t : Tally) →
    ((g : Frame) → IsMember g sent → IsMember g more) → SoundTally c x victim sent t → SoundTally c x victim more t
tally_later c x victim sent more t later h = record { arbitrators = h.arbitrators; counted = h.counted; each = λ a ruling m. later _ (h.each a ruling m) }

pub rounds_later : (c : FabricConfig) (x victim : Who) (sent more : List Frame) (t : RoundTally) →
    ((g : Frame) → IsMember g sent → IsMember g more) → SoundRounds c x victim sent t → SoundRounds c x victim more t
rounds_later c x victim sent more t later h = record {
  me = h.me;
  arbitrators = h.arbitrators;
  counted = h.counted;
  each = λ a z m. later _ (h.each a z m);
  is_open = open_more (machine_of c) sent more later victim t.round h.is_open;
}

pub sound_later : (c : FabricConfig) (x : Who) (sent more : List Frame) (l : Link) → ((g : Frame) → IsMember g sent → IsMember g more) →
    SoundLink c x sent l → SoundLink c x more l
sound_later c x sent more l later h = record {
  held = h.held;
  part = h.part;
  length = h.length;
  tally = λ s. tally_later c x l.peer sent more l.tally later (h.tally s);
  rounds = λ s. rounds_later c x l.peer sent more l.rounds later (h.rounds s);
}

-- a link guards as its slot does
pub guards_shown : (s : LinkState) → machine.guards (state_of s) ≡ true → guards s ≡ true
guards_shown state.Hello h = absurd (cc (h))
guards_shown state.Offered h = refl
guards_shown state.Bound h = refl
guards_shown state.Parting h = refl
guards_shown state.Accused h = refl
guards_shown state.Discharged h = absurd (cc (h))
guards_shown state.Heir h = absurd (cc (h))

-- a state that is over passes
abbrev pub over_states : (State → Bool) → Bool
over_states test = test Unused || (test Abandoned || (test Parted || test Ended))

or_none : (a b : Bool) → a || b ≡ false → (a ≡ false) × (b ≡ false)
or_none true b h = absurd (cc (h))
or_none false b h = (refl, h)

-- no state that is over passes
over_idle : (test : State → Bool) → over_states test ≡ false → (s : State) → is_over s ≡ true → test s ≡ true → ⊥
over_idle test none s = go s
  where
    one : (test Unused ≡ false) × ((test Abandoned || (test Parted || test Ended)) ≡ false)
    one = or_none (test Unused) (test Abandoned || (test Parted || test Ended)) none

    two : (test Abandoned ≡ false) × ((test Parted || test Ended) ≡ false)
    two = or_none (test Abandoned) (test Parted || test Ended) one.1

    three : (test Parted ≡ false) × (test Ended ≡ false)
    three = or_none (test Parted) (test Ended) two.1

    go : (s : State) → is_over s ≡ true → test s ≡ true → ⊥
    go Unused h = both_ways (test Unused) one.0
    go Abandoned h = both_ways (test Abandoned) two.0
    go Parted h = both_ways (test Parted) three.0
    go Ended h = both_ways (test Ended) three.1
    go s h = absurd (cc (h))

module _ {c : FabricConfig} {x : Who} {sent : List Frame} {slots : Slots} {next : ℕ} {f : ℕ → Slot} (h : ShowsSlots c x sent slots next f) where
  -- more was sent
  pub shows_later : (more : List Frame) → ((g : Frame) → IsMember g sent → IsMember g more) → ShowsSlots c x more slots next f
  shows_later more later = record {
    kept = h.kept;
    below = h.below;
    once = h.once;
    over = h.over;
    alone = h.alone;
    sound = λ i l at. sound_later c x sent more l later (h.sound i l at);
  }

  -- place i, which had number n or none, holds o
  pub slots_changed : (more : List Frame) → ((g : Frame) → IsMember g sent → IsMember g more) → (i n then : ℕ) (t : Slot) (o : Option Link) →
      i < length slots → next ≤ then → ((l : Link) → slot_at i slots ≡ Some l → l.mine ≡ n) →
      ((j : ℕ) (l : Link) → slot_at j slots ≡ Some l → l.mine ≡ n → i ≡ j) → NewAt c x more slots i n then t o →
      ShowsSlots c x more (slice_set slots i o) then (replaced f n t)
  slots_changed more later i n then t o lt rises old apart new = record {
    kept = λ j k. set_cases (λ j p. p ≡ Some k → replaced f n t k.mine ≡ slot_of k) slots i o j lt
        (λ a. let s = new_is k a in replaced_cases (λ v. v ≡ slot_of k) f n k.mine t (λ e. s.shown) (λ ne. absurd (ne (sym s.numbered))))
        (λ ne a. replaced_cases (λ v. v ≡ slot_of k) f n k.mine t (λ e. absurd (ne (apart j k a (sym e)))) (λ e. h.kept j k a));
    below = λ j k. set_cases (λ j p. p ≡ Some k → k.mine < then) slots i o j lt
        (λ a. let s = new_is k a in let e = s.numbered in let b = s.below in omega arith)
        (λ ne a. let b = h.below j k a in omega arith);
    once = λ j1 j2 k1 k2. set_cases (λ j1 p1. p1 ≡ Some k1 → slot_at j2 (slice_set slots i o) ≡ Some k2 → k1.mine ≡ k2.mine → j1 ≡ j2) slots i o j1 lt
        (λ a1. let s1 = new_is k1 a1 in set_cases (λ j2 p2. p2 ≡ Some k2 → k1.mine ≡ k2.mine → i ≡ j2) slots i o j2 lt (λ a2 e. refl)
        (λ ne a2 e. apart j2 k2 a2 (sym e ∙ s1.numbered)))
        (λ ne1 a1. set_cases (λ j2 p2. p2 ≡ Some k2 → k1.mine ≡ k2.mine → j1 ≡ j2) slots i o j2 lt
        (λ a2 e. let s2 = new_is k2 a2 in sym (apart j1 k1 a1 (e ∙ s2.numbered))) (λ ne a2 e. h.once j1 j2 k1 k2 a1 a2 e));
    over = λ number. replaced_cases (λ v. (is_over v.state ≡ true) ⊎ Has (slice_set slots i o) number) f n number t (λ e. here number e new) (λ ne. there number ne (h.over number));
    alone = λ j1 j2 k1 k2. set_cases (λ j1 p1. p1 ≡ Some k1 → slot_at j2 (slice_set slots i o) ≡ Some k2 → is_hello k1.state ≡ true → bars_link k2.state ≡ true →
        k1.peer.actor ≡ k2.peer.actor → j1 ≡ j2) slots i o j1 lt
        (λ a1. let s1 = new_is k1 a1 in set_cases (λ j2 p2. p2 ≡ Some k2 → is_hello k1.state ≡ true → bars_link k2.state ≡ true → k1.peer.actor ≡ k2.peer.actor → i ≡ j2)
        slots i o j2 lt (λ a2 g b e. refl) (λ ne a2 g b e. s1.alone.greets g j2 k2 a2 b e))
        (λ ne1 a1. set_cases (λ j2 p2. p2 ≡ Some k2 → is_hello k1.state ≡ true → bars_link k2.state ≡ true → k1.peer.actor ≡ k2.peer.actor → j1 ≡ j2)
        slots i o j2 lt (λ a2 g b e. let s2 = new_is k2 a2 in s2.alone.bars b j1 k1 a1 g e) (λ ne a2 g b e. h.alone j1 j2 k1 k2 a1 a2 g b e));
    sound = λ j k. set_cases (λ j p. p ≡ Some k → SoundLink c x more k) slots i o j lt (λ a. (new_is k a).sound) (λ ne a. sound_later c x sent more k later (h.sound j k a));
  }
    where
      new_is : (k : Link) → o ≡ Some k → Stays c x more slots i n then t k
      new_is k a = go new
        where
          go : NewAt c x more slots i n then t o → Stays c x more slots i n then t k
          go (stays l b s) = let same : l ≡ k = cc (a, b) in subst (Stays c x more slots i n then t) same s
          go (goes b v) = absurd (cc (a, b))

      here : (number : ℕ) → n ≡ number → NewAt c x more slots i n then t o → (is_over t.state ≡ true) ⊎ Has (slice_set slots i o) number
      here number e (stays k b s) = inr (record { place = i; link = k; at = set_same slots i o lt ∙ b; numbered = s.numbered ∙ e })
      here number e (goes b v) = inl v

      there : (number : ℕ) → (n ≡ number → ⊥) → (is_over (f number).state ≡ true) ⊎ Has slots number →
          (is_over (f number).state ≡ true) ⊎ Has (slice_set slots i o) number
      there number ne (inl v) = inl v
      there number ne (inr g) = inr (record {
        place = g.place;
        link = g.link;
        at = set_other slots i o g.place (λ e. ne (sym (old g.link (subst (λ (j : ℕ). slot_at j slots ≡ Some g.link) (sym e) g.at)) ∙ g.numbered)) ∙ g.at;
        numbered = g.numbered;
      })

  -- the slot of a number that the table has
  pub kept_at : (number : ℕ) → (e : Has slots number) → f number ≡ slot_of e.link
  kept_at number e = subst (λ (n : ℕ). f n ≡ slot_of e.link) e.numbered (h.kept e.place e.link e.at)

  -- what holds of each open slot in the table holds of each open slot
  pub open_shown : (open_in : State → Bool) → over_states open_in ≡ false → (P : Slot → Type 0) →
      ((i : ℕ) (l : Link) → slot_at i slots ≡ Some l → open_in (state_of l.state) ≡ true → P (slot_of l)) → (number : ℕ) → open_in (f number).state ≡ true → P (f number)
  open_shown open_in idle P shown number is = ⊎_elim (λ e. absurd (over_idle open_in idle (f number).state e is)) (λ e. there e) (h.over number)
    where
      there : Has slots number → P (f number)
      there e =
          let kept = kept_at number e in
          subst P (sym kept) (shown e.place e.link e.at (subst (λ (s : Slot). open_in s.state ≡ true) kept is))

  -- the number of a place is of no other place
  pub only_at : (i : ℕ) (l : Link) → slot_at i slots ≡ Some l → (j : ℕ) (k : Link) → slot_at j slots ≡ Some k → k.mine ≡ l.mine → i ≡ j
  only_at i l at j k b e = h.once i j l k at b (sym e)

  pub same_link : (i : ℕ) (l k : Link) → slot_at i slots ≡ Some l → slot_at i slots ≡ Some k → k ≡ l
  same_link i l k a b = cc (a, b)

  -- a link that takes the place of another of its node, and bars and greets no more than that did
  pub stays_alone : (i : ℕ) (l k : Link) → slot_at i slots ≡ Some l → k.peer.actor ≡ l.peer.actor → (is_hello k.state ≡ true → is_hello l.state ≡ true) →
      (bars_link k.state ≡ true → bars_link l.state ≡ true) → StandsAlone slots i k
  stays_alone i l k at actor greets bars = record {
    greets = λ g j m b v e. h.alone i j l m at b (greets g) v (sym actor ∙ e);
    bars = λ v j m b g e. h.alone j i m l b at g (bars v) (e ∙ actor);
  }
