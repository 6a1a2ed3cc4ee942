-- What has come at the door and what was said, summed up.
use Rattle.std.proofs.Common.{◌≡◌, List, [], ◌∷◌, ◌++◌, Option, refl, ap, sym, subst, ◌∙◌, append_assoc}
use Rattle.std.proofs.lemmas.List.{append-nil}
use Rattle.client_sessions.specs.Utterances.{InTurn, Uttered, Utterance, Utters}
use Rattle.client_sessions.specs.Utterances as says
use Rattle.door_io.specs.Clients.{Asks, ClientsTold}
use Rattle.door_io.specs.Doors.{Arrived, GivesFirst}
use Rattle.serve_rules.specs.Said.{SaidAll, SaysNothing, Serves}

nothing : (a : ClientsTold) → SaysNothing a a
nothing a = record { answered = λ any. refl; dropped = λ any. refl; logged = refl; lost = refl }

nothing_on : (a b c : ClientsTold) → SaysNothing a b → SaysNothing b c → SaysNothing a c
nothing_on a b c p q = record {
  answered = λ any. q.answered any ∙ p.answered any;
  dropped = λ any. q.dropped any ∙ p.dropped any;
  logged = q.logged ∙ p.logged;
  lost = q.lost ∙ p.lost;
}

-- What comes at the door.

gives_on : (x y z : Option (List Arrived)) (these more : List Arrived) → GivesFirst x these y → GivesFirst y more z → GivesFirst x (these ++ more) z
gives_on x y z these more p q all told =
    let first = p all told in
    let next = q first.0 first.2 in
    (next.0, first.1 ∙ ap (λ (rest : List Arrived). these ++ rest) next.1 ∙ sym (append_assoc these more next.0), next.2)

gives_none : (x y : Option (List Arrived)) → y ≡ x → GivesFirst x [] y
gives_none x y same all told = (all, refl, same ∙ told)

-- What is said.

quiet : (us : List Utterance) (a b c : ClientsTold) → SaidAll us a b → SaysNothing b c → SaidAll us a c
quiet [] a b c p q = nothing_on a b c p q
quiet (u ∷ us) a b c p q = (p.0, p.1, (p.2.0, p.2.1, quiet us p.1 b c p.2.2 q))

begins_quiet : (us : List Utterance) (a b c : ClientsTold) → SaysNothing a b → SaidAll us b c → SaidAll us a c
begins_quiet [] a b c p q = nothing_on a b c p q
begins_quiet (u ∷ us) a b c p q = (q.0, q.1, (nothing_on a b q.0 p q.2.0, q.2.1, q.2.2))

said_on : (us vs : List Utterance) (a b c : ClientsTold) → SaidAll us a b → SaidAll vs b c → SaidAll (us ++ vs) a c
said_on [] vs a b c p q = begins_quiet vs a b c p q
said_on (u ∷ us) vs a b c p q = (p.0, p.1, (p.2.0, p.2.1, said_on us vs p.1 b c p.2.2 q))

said_in_turn : (us : List Utterance) (a b : ClientsTold) → InTurn us a b → SaidAll us a b
said_in_turn [] a b same = subst (λ (c : ClientsTold). SaysNothing a c) same (nothing a)
said_in_turn (u ∷ us) a b says = (a, says.0, (nothing a, says.1.0, said_in_turn us says.0 b says.1.1))

utters_no_asking : (u : Utterance) (a b : ClientsTold) → Utters u a b → b.asked ≡ a.asked
utters_no_asking (says.Reply client text) a b p = p.asked
utters_no_asking (says.Line text) a b p = p.asked

asks_not : (us : List Utterance) (a b : ClientsTold) → InTurn us a b → b.asked ≡ a.asked
asks_not [] a b same = ap (λ (c : ClientsTold). c.asked) (sym same)
asks_not (u ∷ us) a b says = asks_not us says.0 b says.1.1 ∙ utters_no_asking u a says.0 says.1.0

-- Sums.

-- nothing has come and nothing was said
pub serves_nothing : (a : ClientsTold) → Serves [] [] a a
serves_nothing a = record { came = gives_none a.asked a.asked refl; said = nothing a }

-- and then this came
pub serves_asks : (these more : List Arrived) (said : List Utterance) (a b c : ClientsTold) → Serves these said a b → Asks more b c → Serves (these ++ more) said a c
serves_asks these more said a b c p q = record {
  came = gives_on a.asked b.asked c.asked these more p.came q.first;
  said = quiet said a b c p.said (record { answered = q.answered; dropped = q.dropped; logged = q.logged; lost = q.lost });
}

-- and then this was said
pub serves_uttered : (these : List Arrived) (said us : List Utterance) (a b c : ClientsTold) → Serves these said a b → Uttered us b c → Serves these (said ++ us) a c
serves_uttered these said us a b c p q = record {
  came = subst (λ (l : List Arrived). GivesFirst a.asked l c.asked) (append-nil these)
      (gives_on a.asked b.asked c.asked these [] p.came (gives_none b.asked c.asked (asks_not us b c q.in_turn)));
  said = said_on said us a b c p.said (said_in_turn us b c q.in_turn);
}

-- the same by other names of what came and was said
pub serves_as : (these these' : List Arrived) (said said' : List Utterance) (a b : ClientsTold) → these ≡ these' → said ≡ said' → Serves these said a b → Serves these' said' a b
serves_as these these' said said' a b e f p = subst (λ (l : List Arrived). Serves l said' a b) e (subst (λ (us : List Utterance). Serves these us a b) f p)
