-- Polls stay in range: of whom they ask, and of what was answered.
use Rattle.std.proofs.Common.{◌≡◌, ℕ, Bool, true, ◌&&◌, List, [], ◌∷◌, Option, Some, None, IsTrue, refl}
use Rattle.std.specs.Prelude.{◌==◌, All, filter, is_some, not, unwrap_or}
use Rattle.std.proofs.lemmas.Bool.{and_from, and_parts, cond_both}
use Rattle.std.proofs.lemmas.List.Elements.{All-cons, All-filter, All-head, All-map, All-nil, All-tail, All-weaker}
use Rattle.unit_rules.specs.Polls.{Poll, answered, answers_in, poll_of, waiting}
use Rattle.fabric_fit.specs.Managers.{PollInRange, answer_fits}

module _ {A : Type 0} (asked : ℕ → Bool) (fits : A → Bool) where
  abbrev Polled : ℕ × Option A → Type 0
  Polled e = IsTrue (asked e.0 && answer_fits fits e.1)

  -- an answer, with who gave it
  abbrev pub Gave : ℕ × A → Type 0
  Gave a = IsTrue (asked a.0 && fits a.1)

  pub poll_of_in_range : (actors : List ℕ) → All (λ n. IsTrue (asked n)) actors → PollInRange asked fits (poll_of actors)
  poll_of_in_range actors h =
      All-map Polled (λ actor. (actor, None)) actors
      (All-weaker (λ n. IsTrue (asked n)) (λ n. Polled (n, None)) (λ n k. and_from (asked n) true k refl) actors h)

  pub answered_in_range : (actor : ℕ) (x : A) (poll : Poll A) → IsTrue (fits x) → PollInRange asked fits poll → PollInRange asked fits (answered actor x poll)
  answered_in_range actor x [] h k = k
  answered_in_range actor x (e ∷ es) h k =
      let parts = and_parts (asked e.0) (answer_fits fits e.1) (All-head Polled e es k) in
      cond_both (e.0 == actor) ((e.0, Some (unwrap_or e.1 x)) ∷ es) (e ∷ answered actor x es) (All Polled)
      (λ f. All-cons Polled (e.0, Some (unwrap_or e.1 x)) es (and_from (asked e.0) (fits (unwrap_or e.1 x)) parts.0 (first e.1 parts.1)) (All-tail Polled e es k))
      (λ f. All-cons Polled e (answered actor x es) (All-head Polled e es k) (answered_in_range actor x es h (All-tail Polled e es k)))
    where
      first : (o : Option A) → answer_fits fits o ≡ true → fits (unwrap_or o x) ≡ true
      first None f = h
      first (Some y) f = f

  pub waiting_in_range : (poll : Poll A) → PollInRange asked fits poll → All (λ n. IsTrue (asked n)) (waiting poll)
  waiting_in_range poll h =
      All-map (λ n. IsTrue (asked n)) (λ e. e.0) (filter (λ e. not (is_some e.1)) poll)
      (All-weaker Polled (λ e. IsTrue (asked e.0)) (λ e k. (and_parts (asked e.0) (answer_fits fits e.1) k).0) (filter (λ e. not (is_some e.1)) poll)
      (All-filter (λ e. not (is_some e.1)) Polled poll h))

  pub answers_in_range : (poll : Poll A) → PollInRange asked fits poll → All Gave (answers_in poll)
  answers_in_range [] h = All-nil Gave
  answers_in_range ((actor, None) ∷ es) h = answers_in_range es (All-tail Polled (actor, None) es h)
  answers_in_range ((actor, Some x) ∷ es) h =
      All-cons Gave (actor, x) (answers_in es) (All-head Polled (actor, Some x) es h) (answers_in_range es (All-tail Polled (actor, Some x) es h))
