-- The log has its lines, but for those that are counted as lost.
use Rattle.std.proofs.Common.{◌≡◌, ℕ, true, false, List, [], ◌∷◌, ◌++◌, Some, append_assoc, ap, arith, refl, subst, sym, ◌∙◌, inl, inr}
use Rattle.std.proofs.lemmas.List.{append-nil}
use Rattle.door_io.specs.Clients.{ClientsTold, Logs, Says}
use Rattle.client_sessions.specs.Utterances.{InTurn, Line, LogHas, Reply, TheLogHasItsLines, Utterance, kept_of, lines_of, lost_after}

nothing_more : (a b : ClientsTold) → a ≡ b → LogHas [] a b
nothing_more a b same = subst (LogHas [] a) same (record {
  fates = [];
  each = refl;
  has = λ held is. is ∙ ap Some (sym (append-nil held));
  lost = refl;
})

-- a text for a client leaves the log
past_reply : (client : ℕ) (text : List ℕ) (lines : List (List ℕ)) (a m b : ClientsTold) → Says client text a m → LogHas lines m b → LogHas lines a b
past_reply client text lines a m b says rest = record {
  fates = rest.fates;
  each = rest.each;
  has = λ held is. rest.has held (says.logged ∙ is);
  lost = rest.lost ∙ ap (lost_after rest.fates) says.lost;
}

-- a line is in the log, or counted as lost
past_line : (line : List ℕ) (lines : List (List ℕ)) (a m b : ClientsTold) → Logs line a m → LogHas lines m b → LogHas (line ∷ lines) a b
past_line line lines a m b logs rest = elim logs.logged [
  | inl kept ↦ record {
    fates = true ∷ rest.fates;
    each = omega (arith, rest.each);
    has = λ held is. rest.has (held ++ line ∷ []) (kept.0 held is) ∙ ap Some (append_assoc held (line ∷ []) (kept_of rest.fates lines));
    lost = rest.lost ∙ ap (lost_after rest.fates) kept.1;
  }
  | inr lost ↦ record {
    fates = false ∷ rest.fates;
    each = omega (arith, rest.each);
    has = λ held is. rest.has held (lost.0 ∙ is);
    lost = rest.lost ∙ ap (lost_after rest.fates) lost.1;
  }
]

log_in_turn : (us : List Utterance) (a b : ClientsTold) → InTurn us a b → LogHas (lines_of us) a b
log_in_turn [] a b said = nothing_more a b said
log_in_turn (Reply client text ∷ us) a b said = past_reply client text (lines_of us) a said.0 b said.1.0 (log_in_turn us said.0 b said.1.1)
log_in_turn (Line line ∷ us) a b said = past_line line (lines_of us) a said.0 b said.1.0 (log_in_turn us said.0 b said.1.1)

pub the_log_has : TheLogHasItsLines
the_log_has us a b said = log_in_turn us a b said.in_turn
