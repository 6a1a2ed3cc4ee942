-- What was done, and one step more.
use Rattle.std.proofs.Common.{arith, ◌≡◌, ◌≤◌, ◌<◌, ◌+◌, ℕ, Bool, true, false, List, [], ◌∷◌, ◌++◌, refl, subst, ◌∙◌, inl, inr, ⊎_elim}
use Rattle.std.specs.Prelude.{◌==◌, if◌then◌else◌}
use Rattle.std.proofs.lemmas.List.{append-nil}
use Rattle.edge_io.specs.Edge.{HasRisen}
use Rattle.edge_io.specs.Told.{Told}
use Rattle.turn_effects.proofs.Growing.{grew_on}
use Rattle.turn_effects.proofs.Sending.{sent_on}
use Rattle.turn_rules.specs.Effects.{Sent, Did, Stays, records_of, sends_of, lines_of, own_records, own_sends}
use Rattle.turn_rules.specs.Handed.{Handed}
use Rattle.turn_rules.specs.Happenings.{History}
use Rattle.turn_rules.specs.Plans.{Plan}
use Rattle.turn_rules.specs.Works.{Work}

pub did_on : (ss : List Work) (s : Work) (n : ℕ) (a b c : Told) → Did ss n a b → Did (s ∷ []) 0 b c → Did (s ∷ ss) n a c
did_on ss s n a b c p q = record {
  kept = λ actor. grew_on (a.kept actor) (b.kept actor) (c.kept actor) (records_of actor ss) (own_records actor s) (p.kept actor) (q.kept actor);
  sent = let e : n + 0 ≡ n = omega arith in subst (λ (k : ℕ). Sent (sends_of ss ++ own_sends s) k a c) e (sent_on (sends_of ss) (own_sends s) n 0 a b c p.sent q.sent);
  lines = grew_on a.held b.held c.held (lines_of ss) s.lines p.lines q.lines;
}

pub stays_on : (a b c : Told) → Stays a b → Stays b c → Stays a c
stays_on a b c p q = record {
  loans = q.loans ∙ p.loans;
  opened = q.opened ∙ p.opened;
  keeper = omega (arith, p.keeper, q.keeper);
  sink = omega (arith, p.sink, q.sink);
  clock = omega (arith, p.clock, q.clock);
}

-- what is handed in stays with what is told of it
pub handed_along : (plan : Plan) (h : History) (a b c : Told) → ((any : ℕ) → c.arrivals any ≡ b.arrivals any) → c.readings ≡ b.readings → Handed plan h a b → Handed plan h a c
handed_along plan h a b c e f k = record {
  read = λ all told. rw f (k.read all told);
  heard = λ actor all told. rw (e actor) (k.heard actor all told);
}

-- nothing at all
abbrev pub nothing : Work
nothing = record { actor = 0; records = []; posts = []; lines = [] }

own_nothing : (actor : ℕ) (b : Bool) → (if b then nothing.records else []) ≡ []
own_nothing actor true = refl
own_nothing actor false = refl

pub did_nothing : (ss : List Work) (n : ℕ) (a b : Told) → Did ss n a b → Did (nothing ∷ ss) n a b
did_nothing ss n a b d = record {
  kept = λ actor. rw (own_nothing actor (0 == actor)) (rw append-nil (d.kept actor));
  sent = rw append-nil d.sent;
  lines = rw append-nil d.lines;
}

pub risen_from : (x y z : ℕ) → x ≤ y → HasRisen y z → HasRisen x z
risen_from x y z le r = ⊎_elim (λ (h : y < z). inl (omega arith)) (λ full. inr full) r
