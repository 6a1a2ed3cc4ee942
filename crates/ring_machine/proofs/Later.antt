-- What only grows from one world to a later one, and the facts that therefore last.
use Rattle.std.proofs.Common.{◌≡◌, ℕ, ◌≤◌, true, false, List, ◌⊎◌, refl, sym, ap, ◌∙◌, inl, inr, ⊎_elim, arith}
use Rattle.std.proofs.lemmas.Bool.{both_ways, false_from_ne_true}
use Rattle.ring_points.specs.declared.who.Who.{Who}
use Rattle.fabric_lemmas.specs.Members.{IsMember}
use Rattle.ring_machine.specs.Ends.{End}
use Rattle.ring_machine.specs.Slots.{Slot, Asking, is_used, is_settled, is_engaged, is_willing}
use Rattle.ring_machine.specs.Frames.{Frame}
use Rattle.ring_machine.specs.World.{Settings, World, At, Dead, slot}
use Rattle.ring_machine.specs.Arbitration.{Answered, AnsweredBy, Tells, by_kept, by_grant, HeirBy, IsOpen}
use Rattle.ring_machine.specs.Sessions.{Tied, BothTied, Quiet, Closed, elsewhere, over}
use Rattle.ring_machine.specs.Claims.{Barred, other_heir, discharged, Backed, claimant_dead, barred, of_owner}
use Rattle.ring_machine.specs.Leases.{Rests, Leased}
use Rattle.ring_machine.specs.SoundSlots.{Freed, by_answers, by_closing}
use Rattle.ring_machine.specs.SoundFrames.{SoundHello, SoundOffer, SoundRenew, SoundAck, SoundGone}
use Rattle.ring_machine.proofs.States.{implied}

-- a slot that asks now asked the same before
pub record AskedBefore (before now : Slot) : Type 0 where
  pub asking : before.state ≡ Asking
  pub far : now.far ≡ before.far
  pub len : now.len ≡ before.len

pub record Later (c : Settings) (w v : World) : Type 0 where
  pub time : w.time ≤ v.time
  pub sent : (f : Frame) → IsMember f w.sent → IsMember f v.sent
  pub pairs : (x : Who) (q : ℕ × ℕ) → IsMember q (w.instance x).pairs → IsMember q (v.instance x).pairs
  -- the dead stay dead, and versions and flight numbers rise
  pub dies : (x : Who) → Dead c (w.instance x) → Dead c (v.instance x)
  pub versions : (x : Who) → (w.instance x).token.version ≤ (v.instance x).token.version
  pub next_flights : (x : Who) → (w.instance x).token.next_flight ≤ (v.instance x).token.next_flight
  -- a used slot stays used and begins to ask but once, an engaged one stays engaged, a settled one keeps its far end and its length
  pub uses : (e : End) → is_used (slot w e).state ≡ true → is_used (slot v e).state ≡ true
  pub asks : (e : End) → is_used (slot w e).state ≡ true → (slot v e).state ≡ Asking → AskedBefore (slot w e) (slot v e)
  pub engages : (e : End) → is_engaged (slot w e).state ≡ true → is_engaged (slot v e).state ≡ true
  pub settles : (e : End) → is_settled (slot w e).state ≡ true → is_settled (slot v e).state ≡ true
  pub far : (e : End) → is_settled (slot w e).state ≡ true → (slot v e).far ≡ (slot w e).far
  pub len : (e : End) → is_settled (slot w e).state ≡ true → (slot v e).len ≡ (slot w e).len
  -- a settled slot does not become willing, a quiet one stays quiet, and one that is not willing takes no flight
  pub willing : (e : End) → is_settled (slot w e).state ≡ true → is_willing (slot v e).state ≡ true → is_willing (slot w e).state ≡ true
  pub quiets : (e : End) → is_settled (slot w e).state ≡ true → Quiet (slot w e).state (slot w e).held (slot w e).flight →
      Quiet (slot v e).state (slot v e).held (slot v e).flight
  pub still : (e : End) → is_settled (slot w e).state ≡ true → is_willing (slot w e).state ≡ false → (slot v e).got ≡ (slot w e).got
  pub held_versions : (e : End) → (slot w e).held_version ≤ (slot v e).held_version
  pub gots : (e : End) → (slot w e).got ≤ (slot v e).got

pub later_refl : (c : Settings) (w : World) → Later c w w
later_refl c w = record {
  time = omega arith;
  sent = λ f m. m;
  pairs = λ x q m. m;
  dies = λ x d. d;
  versions = λ x. omega arith;
  next_flights = λ x. omega arith;
  uses = λ e h. h;
  asks = λ e h a. record { asking = a; far = refl; len = refl };
  engages = λ e h. h;
  settles = λ e h. h;
  far = λ e h. refl;
  len = λ e h. refl;
  willing = λ e h a. a;
  quiets = λ e h q. q;
  still = λ e h n. refl;
  held_versions = λ e. omega arith;
  gots = λ e. omega arith;
}

pub later_trans : {c : Settings} {w v u : World} → Later c w v → Later c v u → Later c w u
later_trans {w = w} {v = v} a b = record {
  time = let m = a.time in let n = b.time in omega arith;
  sent = λ f m. b.sent f (a.sent f m);
  pairs = λ x q m. b.pairs x q (a.pairs x q m);
  dies = λ x d. b.dies x (a.dies x d);
  versions = λ x. let m = a.versions x in let n = b.versions x in omega arith;
  next_flights = λ x. let m = a.next_flights x in let n = b.next_flights x in omega arith;
  uses = λ e h. b.uses e (a.uses e h);
  asks = λ e h i. let k = b.asks e (a.uses e h) i in let j = a.asks e h k.asking in record { asking = j.asking; far = k.far ∙ j.far; len = k.len ∙ j.len };
  engages = λ e h. b.engages e (a.engages e h);
  settles = λ e h. b.settles e (a.settles e h);
  far = λ e h. b.far e (a.settles e h) ∙ a.far e h;
  len = λ e h. b.len e (a.settles e h) ∙ a.len e h;
  willing = λ e h i. a.willing e h (b.willing e (a.settles e h) i);
  quiets = λ e h q. b.quiets e (a.settles e h) (a.quiets e h q);
  still = λ e h n.
      b.still e (a.settles e h)
      (false_from_ne_true (is_willing (slot v e).state) (λ i. both_ways (is_willing (slot w e).state) n (a.willing e h i))) ∙ a.still e
      h n;
  held_versions = λ e. let m = a.held_versions e in let n = b.held_versions e in omega arith;
  gots = λ e. let m = a.gots e in let n = b.gots e in omega arith;
}

-- what arbitrators told, they told where more is sent
tells_more : (sent more : List Frame) → ((f : Frame) → IsMember f sent → IsMember f more) → (a : ℕ) (y : Who) (round : ℕ) (x : Who) →
    Tells sent a y round x → Tells more a y round x
tells_more sent more keeps a y round x (by_kept m) = by_kept (keeps _ m)
tells_more sent more keeps a y round x (by_grant one m) = by_grant one (keeps _ m)

pub open_more : (c : Settings) (sent more : List Frame) → ((f : Frame) → IsMember f sent → IsMember f more) → (y : Who) (round : ℕ) →
    IsOpen c sent y round → IsOpen c more y round
open_more c sent more keeps y round o = record {
  counted = o.counted;
  before = λ r pos lt.
      let s = o.before r pos lt in record { told = s.told; tells = λ a z e. tells_more sent more keeps a y r z (s.tells a z e); none = s.none };
}

module _ {c : Settings} {w v : World} (l : Later c w v) where
  pub tied_later : (e f : End) → Tied w e f → Tied v e f
  tied_later e f t = record { engaged = l.engages e t.engaged; far = l.far e (implied is_engaged is_settled refl (slot w e).state t.engaged) ∙ t.far }

  pub both_tied_later : (e f : End) → BothTied w e f → BothTied v e f
  both_tied_later e f t = record { mine = tied_later e f t.mine; theirs = tied_later f e t.theirs }

  pub closed_later : (f e : End) → Closed w f e → Closed v f e
  closed_later f e (elsewhere s n) = elsewhere (l.settles f s) (λ h. n (sym (l.far f s) ∙ h))
  closed_later f e (over s q) = over (l.settles f s) (l.quiets f s q)

  pub heir_by_later : (x y : Who) → HeirBy c w.sent x y → HeirBy c v.sent x y
  heir_by_later x y g = record {
    round = g.round;
    kept = record { by = g.kept.by; tells = λ a h. tells_more w.sent v.sent l.sent a y g.round x (g.kept.tells a h); most = g.kept.most };
  }

  pub open_later : (y : Who) (round : ℕ) → IsOpen c w.sent y round → IsOpen c v.sent y round
  open_later y round o = open_more c w.sent v.sent l.sent y round o

  pub answered_later : (a : ℕ) (x y : Who) → Answered w.sent a x y → Answered v.sent a x y
  answered_later a x y (inl m) = inl (l.sent _ m)
  answered_later a x y (inr m) = inr (l.sent _ m)

  pub answered_by_later : (x y : Who) → AnsweredBy c w.sent x y → AnsweredBy c v.sent x y
  answered_by_later x y g = record { by = g.by; answers = λ a h. answered_later a x y (g.answers a h); most = g.most }

  pub barred_later : (x y : Who) → Barred c w.sent x y → Barred c v.sent x y
  barred_later x y (other_heir z n g) = other_heir z n (heir_by_later z y g)
  barred_later x y (discharged g) = discharged (answered_by_later y x g)

  -- the point stays where it is, or it does not matter to x
  pub backed_later : (x y : Who) (p : ℕ) → (w.place p ≡ At y → (v.place p ≡ At y) ⊎ Barred c w.sent x y) → Backed c w x y p → Backed c v x y p
  backed_later x y p stays (claimant_dead d) = claimant_dead (l.dies x d)
  backed_later x y p stays (barred b) = barred (barred_later x y b)
  backed_later x y p stays (of_owner o) = ⊎_elim (λ e. of_owner e) (λ b. barred (barred_later x y b)) (stays o)

  pub freed_later : (e far : End) → Freed c w e far → Freed c v e far
  freed_later e far (by_answers a) = by_answers (answered_by_later e.who far.who a)
  freed_later e far (by_closing a) = by_closing (closed_later far e a)

  pub rests_later : (x : Who) (moment later stamp : ℕ) → moment ≤ later → Rests (w.instance x).pairs moment stamp → Rests (v.instance x).pairs later stamp
  rests_later x moment later stamp le r = record { taken = r.taken; reading = l.pairs x (r.taken, stamp) r.reading; no_later = omega arith }

  pub leased_later : (x : Who) (moment later until len : ℕ) → moment ≤ later → Leased (w.instance x).pairs moment until len →
      Leased (v.instance x).pairs later until len
  leased_later x moment later until len le r = record { stamp = r.stamp; rests = rests_later x moment later r.stamp le r.rests; within = r.within }

  pub hello_later : (e : End) (node len : ℕ) → SoundHello w e node len → SoundHello v e node len
  hello_later e node len h = record {
    used = l.uses e h.used;
    asks_node = λ a. let b = l.asks e h.used a in ap (λ (f : End). f.who.actor) b.far ∙ h.asks_node b.asking;
    asks_length = λ a. let b = l.asks e h.used a in b.len ∙ h.asks_length b.asking;
  }

  pub offer_later : (f e : End) (len : ℕ) → SoundOffer w f e len → SoundOffer v f e len
  offer_later f e len h = record {
    tied = tied_later f e h.tied;
    length = l.len f (implied is_engaged is_settled refl (slot w f).state h.tied.engaged) ∙ h.length;
  }

  pub renew_later : (f e : End) (stamp version got : ℕ) → SoundRenew w f e stamp version got → SoundRenew v f e stamp version got
  renew_later f e stamp version got r = record {
    tied = both_tied_later f e r.tied;
    rests = rests_later f.who w.time v.time stamp l.time r.rests;
    announced = let a = l.versions f.who in let b = r.announced in omega arith;
    took = let a = l.gots f in let b = r.took in omega arith;
  }

  pub ack_later : (e f : End) (stamp version : ℕ) → SoundAck w e f stamp version → SoundAck v e f stamp version
  ack_later e f stamp version r = record {
    tied = both_tied_later e f r.tied;
    rests = rests_later f.who w.time v.time stamp l.time r.rests;
    recorded = let a = l.held_versions e in let b = r.recorded in omega arith;
  }

  -- what is over stays over, and takes no flight
  pub gone_later : (e f : End) (got : ℕ) → SoundGone w e f got → SoundGone v e f got
  gone_later e f got r = record {
    closed = closed_later e f r.closed;
    took = ⊎_elim (λ h. inl (go r.closed h)) (λ h. inr (closed_later f e h)) r.took;
    used = l.uses f r.used;
  }
    where
      go : Closed w e f → ((slot w e).far ≡ f → (slot w e).got ≤ got) → (slot v e).far ≡ f → (slot v e).got ≤ got
      go (elsewhere s n) h i = absurd (n (sym (l.far e s) ∙ i))
      go (over s q) h i = let a = h (sym (l.far e s) ∙ i) in let b = l.still e s q.deaf in omega arith
