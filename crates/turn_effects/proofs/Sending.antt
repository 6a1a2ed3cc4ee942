-- Datagrams that are sent, one after another.
use Rattle.std.proofs.Common.{arith, ◌≡◌, ◌≤◌, ◌<◌, ◌+◌, ◌^◌, ℕ, true, false, List, [], ◌∷◌, ◌++◌, length, take, map, Option, Some, Result, Ok, Err, refl, ap, sym, subst, ◌∙◌, inl, inr, ⊎_elim, append_assoc}
use Rattle.std.specs.Prelude.{◌⊎◌, slice_index_or}
use Rattle.std.proofs.lemmas.List.{append-nil, map-append}
use Rattle.edge_io.specs.Edge.{Grew}
use Rattle.edge_io.specs.declared.datagram.Datagram.{Datagram}
use Rattle.edge_io.specs.declared.refusal.EdgeRefusal.{EdgeRefusal}
use Rattle.edge_io.specs.declared.refusal.EdgeRefusal.TheVariants as refusal
use Rattle.fabric_terms.specs.declared.config.FabricConfig.{FabricConfig}
use Rattle.fabric_terms.specs.declared.message.Message.{Message}
use Rattle.edge_io.specs.Told.{Told, Sends}
use Rattle.turn_effects.specs.Carried.{SentMore, SendsAll}
use Rattle.turn_rules.specs.Effects.{Try, went, lost, FailedSince, Sent, sent_by}
use Rattle.frame_format.specs.Frames.{spelling}
use Rattle.turn_rules.specs.Works.{Post, address_of, post_at, post_of, posts_of}
use Rattle.turn_rules.specs.declared.stop_cause.StopCause.{StopCause}
use Rattle.turn_rules.specs.declared.stop_cause.StopCause.TheVariants as stop
use Rattle.turn_effects.proofs.Growing.{grew_on, grew_none, made_next, made_part}

went-append : (ts us : List Try) → went (ts ++ us) ≡ went ts ++ went us
went-append [] us = refl
went-append ((d, true) ∷ ts) us = ap (λ (ds : List Datagram). d ∷ ds) (went-append ts us)
went-append ((d, false) ∷ ts) us = went-append ts us

lost-append : (ts us : List Try) → lost (ts ++ us) ≡ lost ts + lost us
lost-append [] us = omega arith
lost-append ((d, true) ∷ ts) us = lost-append ts us
lost-append ((d, false) ∷ ts) us = omega (arith, lost-append ts us)

-- all of these were sent or failed, and then all of those
pub sent_on : (all more : List Datagram) (m n : ℕ) (a b c : Told) → Sent all m a b → Sent more n b c → Sent (all ++ more) (m + n) a c
sent_on all more m n a b c p q = record {
  tries = p.tries ++ q.tries;
  whole = map-append (λ (t : Try). t.0) p.tries q.tries ∙ ap (λ (ds : List Datagram). ds ++ map (λ (t : Try). t.0) q.tries) p.whole ∙ ap (λ (ds : List Datagram). all ++ ds) q.whole;
  sent = subst (λ (ds : List Datagram). Grew a.sent c.sent ds) (sym (went-append p.tries q.tries)) (grew_on a.sent b.sent c.sent (went p.tries) (went q.tries) p.sent q.sent);
  failed = subst (λ (k : ℕ). FailedSince (k + (m + n)) a.link_faults c.link_faults) (sym (lost-append p.tries q.tries)) (counted (lost p.tries) (lost q.tries) p.failed q.failed);
}
  where
    counted : (x y : ℕ) → FailedSince (x + m) a.link_faults b.link_faults → FailedSince (y + n) b.link_faults c.link_faults → FailedSince (x + y + (m + n)) a.link_faults c.link_faults
    counted x y f g = record {
      later = omega (arith, f.later, g.later);
      count = ⊎_elim
          (λ (fc : a.link_faults + (x + m) ≤ b.link_faults). ⊎_elim
          (λ (gc : b.link_faults + (y + n) ≤ c.link_faults). inl (omega arith))
          (λ full. inr full)
          g.count)
          (λ (full : 2 ^ 64 ≤ b.link_faults + 1). inr (omega (arith, g.later)))
          f.count;
    }

-- one datagram was sent, or failed
pub sent_one : (from : ℕ) (to bytes : List ℕ) (a : Told) (r : Result (Unit {0}) EdgeRefusal) (b : Told) → Sends from to bytes a r b → (r ≡ Ok tt) ⊎ (r ≡ Err refusal.Failed) → Sent (record { from = from; to = to; bytes = bytes } ∷ []) 0 a b
sent_one from to bytes a (Ok done) b s which = record {
  tries = (record { from = from; to = to; bytes = bytes }, true) ∷ [];
  whole = refl;
  sent = s.ok;
  failed = record { later = s.cause.later; count = inl (omega (arith, s.cause.later)) };
}
sent_one from to bytes a (Err refusal.Failed) b s which = record {
  tries = (record { from = from; to = to; bytes = bytes }, false) ∷ [];
  whole = refl;
  sent = grew_none a.sent b.sent s.err;
  failed = record { later = s.cause.later; count = ⊎_elim (λ (h : a.link_faults < b.link_faults). inl (omega arith)) (λ full. inr full) (s.cause.failed refl) };
}
sent_one from to bytes a (Err refusal.OutOfMemory) b s which = absurd (⊎_elim (λ e. cc) (λ e. cc) which)

pub sent_none : (a : Told) → Sent [] 0 a a
sent_none a = record {
  tries = [];
  whole = refl;
  sent = grew_none a.sent a.sent refl;
  failed = record { later = omega arith; count = inl (omega arith) };
}

-- where nothing of the links is other than it was
pub sent_along : (all : List Datagram) (n : ℕ) (a b c d : Told) → a.sent ≡ b.sent → a.link_faults ≡ b.link_faults → c.sent ≡ d.sent → c.link_faults ≡ d.link_faults → Sent all n b c → Sent all n a d
sent_along all n a b c d e f g h s = record {
  tries = s.tries;
  whole = s.whole;
  sent = subst (λ (x : Option (List Datagram)). Grew x d.sent (went s.tries)) (sym e) (subst (λ (y : Option (List Datagram)). Grew b.sent y (went s.tries)) g s.sent);
  failed = subst (λ (x : ℕ). FailedSince (lost s.tries + n) x d.link_faults) (sym f) (subst (λ (y : ℕ). FailedSince (lost s.tries + n) b.link_faults y) h s.failed);
}

sent_rest : (a b c : Told) → b ≡ record a { opened = b.opened; arrivals = b.arrivals; sent = b.sent; link_faults = b.link_faults } → c ≡ record b { opened = c.opened; arrivals = c.arrivals; sent = c.sent; link_faults = c.link_faults } → c ≡ record a { opened = c.opened; arrivals = c.arrivals; sent = c.sent; link_faults = c.link_faults }
sent_rest a b c p q = q ∙ ap (λ (t : Told). record t { opened = c.opened; arrivals = c.arrivals; sent = c.sent; link_faults = c.link_faults }) p

-- one datagram
pub tried : (from : ℕ) (to bytes : List ℕ) (a : Told) (r : Result (Unit {0}) EdgeRefusal) (b : Told) → Sends from to bytes a r b → (r ≡ Ok tt) ⊎ (r ≡ Err refusal.Failed) → SentMore (record { from = from; to = to; bytes = bytes } ∷ []) a b
tried from to bytes a r b s which = record { sent = sent_one from to bytes a r b s which; opened = s.opened; arrivals = s.arrivals; rest = s.rest }

pub sent_then : (all more : List Datagram) (a b c : Told) → SentMore all a b → SentMore more b c → SentMore (all ++ more) a c
sent_then all more a b c p q = record {
  sent = sent_on all more 0 0 a b c p.sent q.sent;
  opened = q.opened ∙ p.opened;
  arrivals = λ any. q.arrivals any ∙ p.arrivals any;
  rest = sent_rest a b c p.rest q.rest;
}

pub nothing_sent : (a : Told) → SentMore [] a a
nothing_sent a = record { sent = sent_none a; opened = refl; arrivals = λ any. refl; rest = refl }

-- What is sent of a frame.

abbrev pub datagrams_of : FabricConfig → ℕ → List Message → List Datagram
datagrams_of c actor ms = map (sent_by actor) (posts_of c ms)

pub none_to_send : (c : FabricConfig) (actor : ℕ) (ms : List Message) (a : Told) → length ms ≡ 0 → SentMore (datagrams_of c actor ms) a a
none_to_send c actor [] a e = nothing_sent a
none_to_send c actor (m ∷ ms) a e = absurd (omega arith)

posts-append : (c : FabricConfig) (ms ns : List Message) → posts_of c (ms ++ ns) ≡ posts_of c ms ++ posts_of c ns
posts-append c [] ns = refl
posts-append c (m ∷ ms) ns =
    ap (λ (ps : List Post). post_of c m ++ ps) (posts-append c ms ns) ∙ sym (append_assoc (post_of c m) (posts_of c ms) (posts_of c ns))

datagrams-append : (c : FabricConfig) (actor : ℕ) (ms ns : List Message) → datagrams_of c actor (ms ++ ns) ≡ datagrams_of c actor ms ++ datagrams_of c actor ns
datagrams-append c actor ms ns = ap (map (sent_by actor)) (posts-append c ms ns) ∙ map-append (sent_by actor) (posts_of c ms) (posts_of c ns)

datagrams-one : (c : FabricConfig) (actor : ℕ) (m : Message) → datagrams_of c actor (m ∷ []) ≡ map (sent_by actor) (post_of c m)
datagrams-one c actor m = ap (map (sent_by actor)) (append-nil (post_of c m))

-- One of these more.

module _ (c : FabricConfig) (actor : ℕ) (xs : List Message) (i : ℕ) (x : Message) (a b d : Told) (h : i < length xs) (e : x ≡ slice_index_or xs i x)
    (p : SentMore (datagrams_of c actor (take i xs)) a b) where
  pub sent_item : SentMore (map (sent_by actor) (post_of c x)) b d → SentMore (datagrams_of c actor (take (i + 1) xs)) a d
  sent_item q =
      subst (λ (l : List Datagram). SentMore l a d) (sym (made_next (datagrams_of c actor) (datagrams-append c actor) xs i x h e))
      (sent_then (datagrams_of c actor (take i xs)) (datagrams_of c actor (x ∷ [])) a b d p (rw (datagrams-one c actor x) q))

  front : (n : ℕ) → SentMore (take n (map (sent_by actor) (post_of c x))) b d → (m : ℕ) × SentMore (take m (datagrams_of c actor xs)) a d
  front n q =
      let k = made_part (datagrams_of c actor) (datagrams-append c actor) xs i x h e n in
      let one : SentMore (take n (datagrams_of c actor (x ∷ []))) b d = subst (λ (l : List Datagram). SentMore (take n l) b d) (sym (datagrams-one c actor x)) q in
      (k.0, subst (λ (l : List Datagram). SentMore l a d) (sym k.1) (sent_then (datagrams_of c actor (take i xs)) (take n (datagrams_of c actor (x ∷ []))) a b d p one))

  -- and then memory was short
  pub sent_until : (r : StopCause) → SendsAll (map (sent_by actor) (post_of c x)) b d (Err r) → SendsAll (datagrams_of c actor xs) a d (Err r)
  sent_until stop.OutOfMemory q = front q.0 q.1
  sent_until stop.WriteFault q = absurd q
  sent_until stop.KeepFault q = absurd q
  sent_until stop.LinkFault q = absurd q
  sent_until (stop.ClockBack y z) q = absurd q
  sent_until (stop.Left why) q = absurd q
  sent_until (stop.BadKeep y) q = absurd q
  sent_until stop.TableFull q = absurd q

-- a frame to an actor that has an address
pub posted_to : (c : FabricConfig) (actor : ℕ) (m : Message) (to bytes : List ℕ) (a b : Told) (r : Result (Unit {0}) StopCause) → address_of c m.to.actor ≡ Some to → bytes ≡ spelling m
    → SendsAll (record { from = actor; to = to; bytes = bytes } ∷ []) a b r → SendsAll (map (sent_by actor) (post_of c m)) a b r
posted_to c actor m to bytes a b r e f k =
    let posts : post_of c m ≡ record { to = to; bytes = spelling m } ∷ [] = ap (post_at m) e in
    subst (λ (ps : List Post). SendsAll (map (sent_by actor) ps) a b r) (sym posts) (subst (λ (bs : List ℕ). SendsAll (record { from = actor; to = to; bytes = bs } ∷ []) a b r) f k)
