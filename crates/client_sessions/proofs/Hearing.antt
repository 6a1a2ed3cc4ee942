-- A client that is not dropped has heard the texts for it.
use Rattle.std.proofs.Common.{◌≡◌, ℕ, true, false, List, [], ◌∷◌, ◌++◌, Some, append_assoc, ap, subst, sym, ◌∙◌, inl, inr}
use Rattle.std.proofs.lemmas.List.{append-nil}
use Rattle.std.proofs.lemmas.Bool.{cases_Bool, eqb-true, eqb-false, false≢true}
use Rattle.std.specs.Prelude.{◌==◌}
use Rattle.edge_io.specs.Edge.{Grew}
use Rattle.door_io.specs.Clients.{ClientsTold, Says}
use Rattle.client_sessions.specs.Utterances.{EachHearsItsReplies, InTurn, Line, Reply, Utterance, Utters, replies_to, reply_to}

-- who is dropped stays so

said_stays : (other : ℕ) (text : List ℕ) (a m : ClientsTold) → Says other text a m → (client : ℕ) → a.dropped client ≡ true → m.dropped client ≡ true
said_stays other text a m says client is = elim (cases_Bool (other == client)) [
  | inl same ↦ let e : other ≡ client = eqb-true other client same in
      subst (λ n. m.dropped n ≡ true) e (says.said.stays (subst (λ n. a.dropped n ≡ true) (sym e) is))
  | inr apart ↦ (says.said.others client (λ e. eqb-false other client apart (sym e))).1 ∙ is
]

one_stays : (u : Utterance) (a m : ClientsTold) → Utters u a m → (client : ℕ) → a.dropped client ≡ true → m.dropped client ≡ true
one_stays (Reply other text) a m says client is = said_stays other text a m says client is
one_stays (Line text) a m logs client is = logs.dropped client ∙ is

all_stay : (us : List Utterance) (a b : ClientsTold) → InTurn us a b → (client : ℕ) → a.dropped client ≡ true → b.dropped client ≡ true
all_stay [] a b said client is = subst (λ (m : ClientsTold). m.dropped client ≡ true) said is
all_stay (u ∷ us) a b said client is = all_stay us said.0 b said.1.1 client (one_stays u a said.0 said.1.0 client is)

-- what one text or one line makes of what was said to a client

said_hears : (other : ℕ) (text : List ℕ) (a m : ClientsTold) → Says other text a m → (client : ℕ) → m.dropped client ≡ false → Grew (a.answered client) (m.answered client) (reply_to client (Reply other text))
said_hears other text a m says client heard held is = elim (cases_Bool (other == client)) [
  | inl same ↦ let e : other ≡ client = eqb-true other client same in
      rw same (subst (λ n. m.answered n ≡ Some (held ++ text)) e (says.said.whole (subst (λ n. m.dropped n ≡ false) (sym e) heard) held (subst (λ n. a.answered n ≡ Some held) (sym e) is)))
  | inr apart ↦ rw apart ((says.said.others client (λ e. eqb-false other client apart (sym e))).0 ∙ is ∙ ap Some (sym (append-nil held)))
]

one_hears : (u : Utterance) (a m : ClientsTold) → Utters u a m → (client : ℕ) → m.dropped client ≡ false → Grew (a.answered client) (m.answered client) (reply_to client u)
one_hears (Reply other text) a m says client heard held is = said_hears other text a m says client heard held is
one_hears (Line text) a m logs client heard held is = logs.answered client ∙ is ∙ ap Some (sym (append-nil held))

hears_in_turn : (us : List Utterance) (a b : ClientsTold) → InTurn us a b → (client : ℕ) → b.dropped client ≡ false → Grew (a.answered client) (b.answered client) (replies_to client us)
hears_in_turn [] a b said client heard held is =
    subst (λ (m : ClientsTold). m.answered client ≡ Some (held ++ [])) said (is ∙ ap Some (sym (append-nil held)))
hears_in_turn (u ∷ us) a b said client heard held is = elim (cases_Bool (said.0.dropped client)) [
  | inl dropped ↦ absurd (false≢true (sym heard ∙ all_stay us said.0 b said.1.1 client dropped))
  | inr open_still ↦
      hears_in_turn us said.0 b said.1.1 client heard (held ++ reply_to client u) (one_hears u a said.0 said.1.0 client open_still held is)
      ∙ ap Some (append_assoc held (reply_to client u) (replies_to client us))
]

pub each_hears : EachHearsItsReplies
each_hears us a b said client heard held is = hears_in_turn us a b said.in_turn client heard held is
