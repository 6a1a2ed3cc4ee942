-- A world of the machine that follows the real one, and what of it stays while others act.
use Rattle.std.proofs.Common.{◌≡◌, ℕ, ◌<◌, Bool, true, false, ◌||◌, List, [], ◌∷◌, Option, Some, None, refl, sym, ap, ◌∙◌, subst, ◌⊎◌, inl, inr, ⊎_elim}
use Rattle.std.specs.Prelude.{length, ◌==◌}
use Rattle.std.specs.List.{list_any}
use Rattle.std.proofs.lemmas.Bool.{both_ways}
use Rattle.fabric_terms.specs.declared.config.FabricConfig.{FabricConfig}
use Rattle.fabric_terms.specs.declared.message.Body.{Body}
use Rattle.fabric_terms.specs.declared.message.Body.TheVariants as body
use Rattle.fabric_terms.specs.declared.message.Message.{Message}
use Rattle.fabric_terms.specs.Places.{Place, place_of}
use Rattle.fabric_terms.specs.Sound as fabric
use Rattle.fabric_terms.specs.TakeOvers.{was_taken_over}
use Rattle.join_phases.specs.Phases.{is_left}
use Rattle.ring_points.specs.declared.who.Who.{Who}
use Rattle.ring_points.specs.Whos.{arbiter_actor}
use Rattle.ring_machine.specs.Frames.{Frame}
use Rattle.fabric_lemmas.specs.Members.{IsMember}
use Rattle.ring_machine.specs.World as machine
use Rattle.ring_machine.specs.World.{Instance, Running, Dead}
use Rattle.ring_machine.specs.Events as events
use Rattle.ring_machine.specs.Invariant.{Invariant}
use Rattle.ring_refinement.specs.Images.{machine_of, Posted, IsSent, frame_of, is_ruling}
use Rattle.ring_refinement.specs.Moves.{places_of}
use Rattle.ring_refinement.specs.Refined.{Said, AllSaid}
use Rattle.ring_refinement.specs.Shown.{Shows, ShowsAs, ShowsInstance}
use Rattle.ring_refinement.proofs.Changes.{shows_later}
use Rattle.ring_rules.specs.Arbiters.{Table, first_accuser, first_claimer}
use Rattle.ring_rules.specs.Rings.{Ring}
use Rattle.fabric_lemmas.specs.Maps.{at}
use Rattle.world_rules.specs.Nodes.{boots_of}
use Rattle.world_rules.specs.Uppers.{Upper}
use Rattle.world_rules.specs.Worlds as real
use Rattle.world_rules.specs.Worlds.{World, kept_of, posted}
use Rattle.world_rules.specs.Above.{is_ring_frame}
use Rattle.ring_safety.proofs.Moves.{AllMoved, AllNew, has_given}
use Rattle.run_facts.proofs.Tables.{table_of}
use Rattle.ring_safety.proofs.Tales.{Tale}

-- where the points of a world of the machine are, as they are told
abbrev pub places_in : Tale → machine.World → ℕ → Place
places_in t m = places_of t.whole m

-- the number of an instance's next flight
abbrev pub next_of : machine.World → Who → ℕ
next_of m x = (m.instance x).token.next_flight

-- a sound configuration makes a sound machine
pub sound_machine : (c : FabricConfig) → fabric.IsSound c → events.IsSound (machine_of c)
sound_machine c s = record { drift = s.drift.to_high; answer = s.answer.from_low }

-- x runs and has not left
pub record Runs {a : Upper} (w : World a) (x : Who) : Type 0 where
  pub state : real.Running a
  pub here : at x.actor w.nodes ≡ Some state
  pub name : state.node.ring.me ≡ x
  pub stays : is_left state.node.ring.phase ≡ false

-- the clock of an instance
pub record ShowsClock (i : Instance) (reading : ℕ) (pairs : List (ℕ × ℕ)) : Type 0 where
  pub reads : i.reading ≡ reading
  pub read : i.pairs ≡ pairs

abbrev pub is_accusation : Body → Bool
is_accusation (body.Accuse victim) = true
is_accusation _ = false

-- what is known of a frame that was sent
pub record Known (lease : ℕ) (sent : List Frame) (f : Message) : Type 0 where
  pub posted : Posted lease sent f.from f.to f.body
  pub by_instance : is_accusation f.body ≡ true → f.from.instance ≡ 0 → ⊥

-- the machine's tables of arbitrators are these; of the first round no claimer is kept
pub record ShowsTables (accuser : ℕ → Who → Option Who) (claimer : ℕ → Who → ℕ → Option Who) (table : ℕ → Table) : Type 0 where
  pub accusers : (arbiter : ℕ) (victim : Who) → accuser arbiter victim ≡ first_accuser victim (table arbiter).accusations
  pub claimers : (arbiter : ℕ) (victim : Who) (round : ℕ) → (round == 1) ≡ false →
      claimer arbiter victim round ≡ first_claimer victim round (table arbiter).claims

-- m follows the world w in which this was told
pub record Follows {a : Upper} (c : FabricConfig) (w : World a) (t : Tale) (m : machine.World) : Type 0 where
  pub inv : Invariant (machine_of c) m
  pub time : m.time ≡ w.time
  pub starts : (node : ℕ) → m.starts node ≡ boots_of (kept_of w node)
  pub whole : m.whole ≡ t.whole
  pub shows : (node : ℕ) (s : real.Running a) → at node w.nodes ≡ Some s → Shows c m s.node.ring.me s.node.ring
  pub clock : (node : ℕ) (s : real.Running a) → at node w.nodes ≡ Some s → is_left s.node.ring.phase ≡ false →
      ShowsClock (m.instance s.node.ring.me) s.reading s.pairs
  pub runs : (x : Who) → (m.instance x).phase ≡ Running → Runs w x
  pub tables : ShowsTables m.first_accuser m.first_claimer (λ arbiter. table_of w (arbiter_actor arbiter))
  pub frames : (f : Message) → IsMember f w.frames → Known c.lease m.sent f
  -- what was told in this life
  pub placed : (p : ℕ) → place_of t.whole t.life p ≡ places_in t m p
  pub moved : AllMoved t.whole t.life
  pub new : AllNew t.life
  pub below : (x : Who) (number : ℕ) → has_given x number t.life ≡ true → number < (next_of m x)
  -- and in all
  pub over : (v : Who) → was_taken_over v t.all ≡ true → Dead (machine_of c) (m.instance v)

-- what is shown stays shown while the instance stays and more is sent
module _ (c : FabricConfig) (m v : machine.World) (later : (f : Frame) → IsMember f m.sent → IsMember f v.sent) where
  pub shows_still : (x : Who) (r : Ring) → v.instance x ≡ m.instance x → Shows c m x r → Shows c v x r
  shows_still x r same h = go (is_left r.phase) h
    where
      go : (b : Bool) → ShowsAs c m x r b → ShowsAs c v x r b
      go true s = record {
        me = s.me;
        ranges = s.ranges;
        freeze = s.freeze;
        slots = s.slots;
        stands_still = λ runs. s.stands_still (sym (ap (λ (i : Instance). i.phase) same) ∙ runs);
      }
      go false s = subst (λ i. ShowsInstance c x v.sent i r) (sym same) (record {
        me = s.me;
        running = s.running;
        token = s.token;
        next = s.next;
        slots = shows_later s.slots v.sent later;
        accused = s.accused;
        rises = s.rises;
        frozen = s.frozen;
      })

  sent_still : (o : Option Frame) → IsSent m.sent o → IsSent v.sent o
  sent_still None h = tt
  sent_still (Some f) h = later f h

  pub known_still : (lease : ℕ) (f : Message) → Known lease m.sent f → Known lease v.sent f
  known_still lease f k = record {
    posted = record { image = sent_still (frame_of lease f.from f.to f.body) k.posted.image; rises = k.posted.rises; to_one = k.posted.to_one };
    by_instance = k.by_instance;
  }

-- a clock stays with its instance
pub clock_still : (i j : Instance) (reading : ℕ) (pairs : List (ℕ × ℕ)) → j ≡ i → ShowsClock i reading pairs → ShowsClock j reading pairs
clock_still i j reading pairs same k = subst (λ z. ShowsClock z reading pairs) (sym same) k

-- a frame that was posted now or before

pub posted_cases : (from : Who) (ms : List (Who × Body)) (frames : List Message) (f : Message) → IsMember f (posted from ms frames) →
    IsMember f frames ⊎ ((z : Who × Body) × IsMember z ms × (f ≡ record { from = from; to = z.0; body = z.1 }))
posted_cases from [] frames f m = inl m
posted_cases from (s ∷ ms) frames f m = ⊎_elim now (λ g. inr (g.0, inr g.1, g.2)) (posted_cases from ms (record { from = from; to = s.0; body = s.1 } ∷ frames) f m)
  where
    now : IsMember f (record { from = from; to = s.0; body = s.1 } ∷ frames) →
        IsMember f frames ⊎ ((z : Who × Body) × IsMember z (s ∷ ms) × (f ≡ record { from = from; to = z.0; body = z.1 }))
    now (inl e) = inr (s, inl refl, e)
    now (inr g) = inl g

-- a frame that a node's ring says, or that is not the ring's

pub known_said : (lease : ℕ) (sent : List Frame) (from to : Who) (b : Body) → (from.instance ≡ 0 → ⊥) → Said lease sent from to b →
    Known lease sent (record { from = from; to = to; body = b })
known_said lease sent from to b one s = record {
  posted = record { image = s.image; rises = s.rises; to_one = λ h. absurd (both_ways (is_ruling b) s.no_ruling h) };
  by_instance = λ h. one;
}

pub known_other : (lease : ℕ) (sent : List Frame) (from to : Who) (b : Body) → is_ring_frame b ≡ false →
    Known lease sent (record { from = from; to = to; body = b })
known_other lease sent from to b h = record { posted = go b h; by_instance = λ e. absurd (both_ways (is_ring_frame b) h (ring b e)) }
  where
    go : (b : Body) → is_ring_frame b ≡ false → Posted lease sent from to b
    go (body.Hello mine) e = absurd (cc (e))
    go (body.HelloFor mine length) e = absurd (cc (e))
    go (body.Offer mine yours) e = absurd (cc (e))
    go (body.OfferFor mine yours length) e = absurd (cc (e))
    go (body.Take mine yours) e = absurd (cc (e))
    go (body.Renew mine yours stamp version got want ranges) e = absurd (cc (e))
    go (body.RenewAck mine yours stamp version) e = absurd (cc (e))
    go (body.Transfer mine yours flight ranges) e = absurd (cc (e))
    go (body.Gone mine yours got bound) e = absurd (cc (e))
    go (body.Accuse victim) e = absurd (cc (e))
    go (body.Ruled victim ruling) e = absurd (cc (e))
    go (body.Claim victim round) e = absurd (cc (e))
    go (body.Kept victim round claimer) e = absurd (cc (e))
    go b e = record { image = tt; rises = refl; to_one = λ i. absurd (cc (i)) }

    ring : (b : Body) → is_accusation b ≡ true → is_ring_frame b ≡ true
    ring (body.Accuse victim) e = refl
    ring b e = absurd (cc (e))

pub all_said : (lease : ℕ) (sent : List Frame) (from : Who) (ms : List (Who × Body)) (s : Who × Body) → AllSaid lease sent from ms → IsMember s ms →
    Said lease sent from s.0 s.1
all_said lease sent from [] s a m = absurd m
all_said lease sent from (z ∷ ms) s a (inl e) = subst (λ (z : Who × Body). Said lease sent from z.0 z.1) (sym e) a.0
all_said lease sent from (z ∷ ms) s a (inr m) = all_said lease sent from ms s a.1 m

-- an element does not pass a test that none passes
pub none_passes : {X : Type 0} (test : X → Bool) (xs : List X) (x : X) → list_any test xs ≡ false → IsMember x xs → test x ≡ false
none_passes test [] x h m = absurd m
none_passes test (y ∷ ys) x h m = go (test y) refl (list_any test ys) refl h m (λ f n. none_passes test ys x f n)
  where
    go : (b : Bool) → test y ≡ b → (d : Bool) → list_any test ys ≡ d → (b || d) ≡ false → (x ≡ y) ⊎ IsMember x ys →
        (list_any test ys ≡ false → IsMember x ys → test x ≡ false) → test x ≡ false
    go true e d f g n again = absurd (cc (g))
    go false e true f g n again = absurd (cc (g))
    go false e false f g (inl n) again = ap test n ∙ e
    go false e false f g (inr n) again = again f n
