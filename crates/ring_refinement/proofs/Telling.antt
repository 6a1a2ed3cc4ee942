-- What a step has told and sent, with one more.
use Rattle.std.proofs.Common.{ℕ, List, [], ◌∷◌, ◌++◌, sym, ap, subst}
use Rattle.ring_points.specs.declared.who.Who.{Who}
use Rattle.fabric_terms.specs.declared.message.Body.{Body}
use Rattle.fabric_terms.specs.declared.report.Report.{Report}
use Rattle.fabric_terms.specs.Places.{Place, place_after, TakesFrom}
use Rattle.fabric_lemmas.specs.Members.{IsMember}
use Rattle.ring_machine.specs.Frames.{Frame}
use Rattle.ring_machine.specs.World.{Settings, World, Dead}
use Rattle.ring_refinement.specs.Images.{IsSent, frame_of}
use Rattle.ring_refinement.specs.Moves.{next_after, IsNext, MovedBy, IsOver, AreOver}
use Rattle.ring_refinement.specs.Refined.{Said, AllSaid}
use Rattle.fabric_terms.specs.declared.report.Report.TheVariants.{TookOver}
use Rattle.std.specs.Prelude.{Option, None, Some}

-- one report more
pub moved_and : (x : Who) (rs : List Report) (n m : ℕ) (P Q : ℕ → Place) (r : Report) → MovedBy x rs n P m Q → TakesFrom x r Q → IsNext r m →
    MovedBy x (rs ++ r ∷ []) n P (next_after r m) (λ p. place_after x r p (Q p))
moved_and x [] n m P Q r h from next = (
  subst (λ (Z : ℕ → Place). TakesFrom x r Z) (sym h.1) from,
  subst (λ (k : ℕ). IsNext r k) (sym h.0) next,
  (ap (next_after r) h.0, λ j p. place_after x r p (h.1 j p)),
)
moved_and x (s ∷ rs) n m P Q r h from next = (h.0, h.1, moved_and x rs (next_after s n) m (λ p. place_after x s p (P p)) Q r h.2 from next)

pub over_and : (k : Settings) (w : World) (rs : List Report) (r : Report) → AreOver k w rs → IsOver k w r → AreOver k w (rs ++ r ∷ [])
over_and k w [] r h o = (o, tt)
over_and k w (s ∷ rs) r h o = (h.0, over_and k w rs r h.1 o)

is_over_later : (k : Settings) (w v : World) (r : Report) → ((y : Who) → Dead k (w.instance y) → Dead k (v.instance y)) → IsOver k w r → IsOver k v r
is_over_later k w v (TookOver y ranges) dies h = dies y h
is_over_later k w v r dies h = tt

-- the dead stay dead
pub over_later : (k : Settings) (w v : World) (rs : List Report) → ((y : Who) → Dead k (w.instance y) → Dead k (v.instance y)) → AreOver k w rs → AreOver k v rs
over_later k w v [] dies h = tt
over_later k w v (r ∷ rs) dies h = (is_over_later k w v r dies h.0, over_later k w v rs dies h.1)

pub is_sent_later : (sent more : List Frame) (o : Option Frame) → ((g : Frame) → IsMember g sent → IsMember g more) → IsSent sent o → IsSent more o
is_sent_later sent more None later h = tt
is_sent_later sent more (Some f) later h = later f h

pub said_later : (lease : ℕ) (sent more : List Frame) (from to : Who) (b : Body) → ((g : Frame) → IsMember g sent → IsMember g more) →
    Said lease sent from to b → Said lease more from to b
said_later lease sent more from to b later h = record { image = is_sent_later sent more (frame_of lease from to b) later h.image; rises = h.rises; no_ruling = h.no_ruling }

pub all_said_later : (lease : ℕ) (sent more : List Frame) (from : Who) (ss : List (Who × Body)) → ((g : Frame) → IsMember g sent → IsMember g more) →
    AllSaid lease sent from ss → AllSaid lease more from ss
all_said_later lease sent more from [] later h = tt
all_said_later lease sent more from (s ∷ ss) later h = (said_later lease sent more from s.0 s.1 later h.0, all_said_later lease sent more from ss later h.1)

pub all_said_both : (lease : ℕ) (sent : List Frame) (from : Who) (ss ts : List (Who × Body)) → AllSaid lease sent from ss → AllSaid lease sent from ts →
    AllSaid lease sent from (ss ++ ts)
all_said_both lease sent from [] ts h k = k
all_said_both lease sent from (s ∷ ss) ts h k = (h.0, all_said_both lease sent from ss ts h.1 k)
