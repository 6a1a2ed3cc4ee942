-- How a peer is accused, and how the arbitrators are asked about it.
use Rattle.std.proofs.Common.{◌≡◌, ℕ, zero, suc, nat_lt, Bool, true, false, List, [], ◌∷◌, ◌++◌, length, Some, refl, sym, ap, ◌∙◌, subst, inl}
use Rattle.std.specs.Prelude.{slice_set}
use Rattle.std.proofs.lemmas.List.{append-nil, append_assoc}
use Rattle.ring_points.specs.declared.who.Who.{Who}
use Rattle.ring_points.specs.Whos.{node_instance, arbiter_actor}
use Rattle.fabric_terms.specs.declared.config.FabricConfig.{FabricConfig}
use Rattle.fabric_terms.specs.declared.message.Body.{Body}
use Rattle.fabric_terms.specs.declared.message.Body.TheVariants as body
use Rattle.fabric_terms.specs.declared.report.Report.TheVariants as report
use Rattle.fabric_terms.specs.declared.report.Why.TheVariants.{AccusedFull}
use Rattle.arbiter_quorum.specs.Tallies.{has_answered}
use Rattle.ring_rules.specs.declared.link.Link.{Link}
use Rattle.ring_rules.specs.Deeds as rows
use Rattle.ring_rules.specs.Deeds.{send}
use Rattle.ring_rules.specs.Firing.{ask_if, ask_first, ask_arbiters, accuse_at, accuse_if, peer_accused}
use Rattle.ring_rules.specs.Links.{accused_link}
use Rattle.ring_rules.specs.Rings.{Work, settings_of, accused_limit}
use Rattle.ring_rules.specs.Slots.{slot_at, bars_link}
use Rattle.ring_rules.proofs.Rows.{peer_accused-is}
use Rattle.fabric_lemmas.specs.Members.{IsMember}
use Rattle.ring_machine.specs.Slots.{stands, is_tallying}
use Rattle.ring_machine.specs.Frames.{Frame, Accuse}
use Rattle.ring_machine.specs.World.{World}
use Rattle.ring_machine.specs.Deeds.{PeerAccused, AccuseAgain}
use Rattle.ring_machine.specs.Events.{IsSound}
use Rattle.ring_machine.proofs.Exclusions.{first_open}
use Rattle.ring_machine.proofs.Lists.{IsMember-append_left, IsMember-append_right}
use Rattle.ring_refinement.specs.Images.{machine_of, state_of, slot_of}
use Rattle.ring_refinement.specs.Refined.{AllSaid}
use Rattle.ring_refinement.proofs.Changes.{stays, stays_alone}
use Rattle.ring_refinement.proofs.Telling.{moved_and, over_and, all_said_both}
use Rattle.ring_refinement.proofs.Going.{Going, says}
use Rattle.ring_refinement.proofs.Leaving.{Went, on, left_went}
use Rattle.ring_refinement.proofs.TokenRows.{undoes}

-- the arbitrators are asked: all messages have one image
pub record Asked (lease : ℕ) (sent : List Frame) (x : Who) (n : ℕ) (l : Link) (w : Work) : Type 0 where
  pub messages : List (Who × Body)
  pub is : ask_first n l w ≡ record w { sent = w.sent ++ messages }
  pub said : AllSaid lease sent x messages

-- one more, if it has not answered
record AskedBy (lease : ℕ) (sent : List Frame) (x : Who) (n : ℕ) (l : Link) (w : Work) (q : Bool) : Type 0 where
  messages : List (Who × Body)
  is : ask_if (suc n) l (ask_first n l w) q ≡ record w { sent = w.sent ++ messages }
  said : AllSaid lease sent x messages

pub asked : (lease : ℕ) (sent : List Frame) (x : Who) (l : Link) (w : Work) → IsMember (Accuse x l.peer) sent → (n : ℕ) → Asked lease sent x n l w
asked lease sent x l w h zero = record { messages = []; is = (λ j. record w { sent = sym (append-nil w.sent) j }); said = tt }
asked lease sent x l w h (suc n) =
    let a = one (has_answered (suc n) l.tally.answers) (asked lease sent x l w h n) in
    record { messages = a.messages; is = a.is; said = a.said }
  where
    one : (q : Bool) → Asked lease sent x n l w → AskedBy lease sent x n l w q
    one true a = record { messages = a.messages; is = a.is; said = a.said }
    one false a = record {
      messages = a.messages ++ (node_instance (arbiter_actor (suc n)) 0, body.Accuse l.peer) ∷ [];
      is = ap (λ (u : Work). send (node_instance (arbiter_actor (suc n)) 0) (body.Accuse l.peer) u) a.is ∙
          (λ j. record w { sent = append_assoc w.sent a.messages ((node_instance (arbiter_actor (suc n)) 0, body.Accuse l.peer) ∷ []) j });
      said = all_said_both lease sent x a.messages ((node_instance (arbiter_actor (suc n)) 0, body.Accuse l.peer) ∷ []) a.said
          (record { image = h; rises = refl; no_ruling = refl }, tt);
    }

-- what is asked leaves the ring
pub ask_ring : (n : ℕ) (l : Link) (w : Work) → (ask_first n l w).ring ≡ w.ring
ask_ring zero l w = refl
ask_ring (suc n) l w = one (has_answered (suc n) l.tally.answers) (ask_ring n l w)
  where
    one : (q : Bool) → (ask_first n l w).ring ≡ w.ring → (ask_if (suc n) l (ask_first n l w) q).ring ≡ w.ring
    one true e = e
    one false e = e

module _ {c : FabricConfig} {m : World} {x : Who} {now : ℕ} {w : Work} (sound : IsSound (machine_of c)) (node : ℕ) (g : Going c m x now w) where
  abbrev v : World
  v = g.after

  -- the arbitrators are asked again
  pub asks_going : (i : ℕ) (l : Link) → slot_at i w.ring.slots ≡ Some l → is_tallying (state_of l.state) ≡ true →
      Going c m x now (ask_arbiters (settings_of c node) l w)
  asks_going i l at tallies =
      let a = asked c.lease (Accuse x l.peer ∷ v.sent) x l w (inl refl) (length c.arbiters) in
      subst (λ (u : Work). Going c m x now u) (sym a.is) (says sound g i l at AccuseAgain tallies (Accuse x l.peer ∷ []) refl a.messages a.said)

  -- the peer is accused
  accused_going : (i : ℕ) (l : Link) → slot_at i w.ring.slots ≡ Some l → stands (state_of l.state) ≡ true → bars_link l.state ≡ true →
      Going c m x now (accuse_at (settings_of c node) i l w)
  accused_going i l at standing bars =
      subst (λ (u : Work). Going c m x now u) (sym a.is)
      (undoes sound g i l at PeerAccused standing w.ring.token g.shows.rises refl (slot_of k) (Some k) (Accuse x l.peer ∷ []) v.place refl
      (stays k refl (record {
        numbered = refl;
        below = g.shows.slots.below i l at;
        shown = refl;
        sound = let s = g.shows.slots.sound i l at in record {
          held = s.held;
          part = s.part;
          length = λ p. absurd (cc (p));
          tally = λ h. record { arbitrators = refl; counted = refl; each = λ b r n. absurd n };
          rounds = λ h. record {
            me = g.shows.me;
            arbitrators = refl;
            counted = refl;
            each = λ b z n. absurd n;
            is_open = first_open (machine_of c) (Accuse x l.peer ∷ v.sent) l.peer;
          };
        };
        alone = stays_alone g.shows.slots i l k at refl (λ h. absurd (cc (h))) (λ h. bars);
      }))
      (w.ring.accused ++ l.peer ∷ []) (λ y h. IsMember-append_left y w.ring.accused (l.peer ∷ []) h)
      (λ h. IsMember-append_right l.peer w.ring.accused (l.peer ∷ []) (inl refl)) (w.sent ++ a.messages)
      (λ h. all_said_both c.lease (Accuse x l.peer ∷ v.sent) x w.sent a.messages h a.said) (w.told ++ report.Accused l.peer ∷ [])
      (λ n P h. moved_and x w.told n w.ring.token.next_flight P _ (report.Accused l.peer) h tt tt)
      (λ h. over_and (machine_of c) v w.told (report.Accused l.peer) h tt))
    where
      k : Link
      k = accused_link (settings_of c node) w.ring.me l

      u : Work
      u = record {
        ring = record w.ring { slots = slice_set w.ring.slots i (Some k); token = rows.undone i w.ring.token; accused = w.ring.accused ++ l.peer ∷ [] };
        sent = w.sent;
        told = w.told ++ report.Accused l.peer ∷ [];
      }

      a : Asked c.lease (Accuse x l.peer ∷ v.sent) x (length c.arbiters) (accused_link (settings_of c node) w.ring.me l) (record {
        ring = record w.ring {
          slots = slice_set w.ring.slots i (Some (accused_link (settings_of c node) w.ring.me l));
          token = rows.undone i w.ring.token;
          accused = w.ring.accused ++ l.peer ∷ [];
        };
        sent = w.sent;
        told = w.told ++ report.Accused l.peer ∷ [];
      })
      a = asked c.lease (Accuse x l.peer ∷ v.sent) x (accused_link (settings_of c node) w.ring.me l) u (inl refl) (length c.arbiters)

  pub peer_accused_went : (i : ℕ) (l : Link) → slot_at i w.ring.slots ≡ Some l → stands (state_of l.state) ≡ true → bars_link l.state ≡ true →
      Went c m x now (peer_accused (settings_of c node) i l w)
  peer_accused_went i l at standing bars =
      subst (λ (u : Work). Went c m x now u) (sym (peer_accused-is (settings_of c node) i l w)) (go (nat_lt (length w.ring.accused) accused_limit))
    where
      go : (q : Bool) → Went c m x now (accuse_if (settings_of c node) i l w q)
      go true = on (accused_going i l at standing bars)
      go false = left_went sound g AccusedFull
