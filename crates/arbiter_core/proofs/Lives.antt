-- An arbitrator is at every moment what its records amount to.
use Rattle.std.proofs.Common.{◌≡◌, ℕ, Bool, true, false, List, [], ◌∷◌, ◌++◌, Option, Some, None, Ok, Err, refl, sym, ap, ◌∙◌}
use Rattle.std.specs.Option.{option_to_list}
use Rattle.std.specs.Prelude.{◌==◌}
use Rattle.ring_points.specs.declared.who.Who.{Who}
use Rattle.fabric_terms.specs.declared.message.Body.{Body}
use Rattle.fabric_terms.specs.declared.message.Body.TheVariants as body
use Rattle.fabric_terms.specs.declared.message.Message.{Message}
use Rattle.fabric_terms.specs.declared.record.Record.{Record}
use Rattle.ring_rules.specs.Arbiters.{accusation_kept, accusation_ruled, claim_kept, claim_settled, claimer_kept, first_accuser, first_claimer, first_kept, kept_by, takes_frame}
use Rattle.unit_rules.specs.Registers.{Reply as UnitReply, question_answered}
use Rattle.arbiter_core.specs.Arbiters.{Arbiter, Outcome, claim_told, first_of, frame_call, fresh, is_full_for, keep_call, kept_where_full, question_call, restored, taken, with_kept}
use Rattle.arbiter_core.specs.Lives.{Comes, Restarts, Life, life, life_with}
use Rattle.arbiter_core.specs.RegisterLaws.{IsItsRecords}
use Rattle.arbiter_core.specs.declared.answer.Answer.{Answer}
use Rattle.arbiter_core.specs.declared.answer.Answer.TheVariants.{Reply, Nothing}

-- a call leaves what it records
abbrev pub Leaves : Arbiter → Outcome Answer → Type 0
Leaves a (Ok (Reply kept to said), n) = n ≡ with_kept (option_to_list kept) a
Leaves a (Ok Nothing, n) = n ≡ a
Leaves a (Err e, n) = Unit {0}

module _ (a : Arbiter) where
  -- what is replied with its record
  replied : (kept : Option Record) (to : Who) (said : Body) → Leaves a (keep_call (option_to_list kept) (Reply kept to said) a)
  replied kept to said = by (is_full_for (option_to_list kept) a)
    where
      by : (b : Bool) → Leaves a (kept_where_full b (option_to_list kept) (Reply kept to said) a)
      by true = tt
      by false = refl

  accused : (accuser victim : Who) → Leaves a (taken true (body.Accuse victim) accuser a)
  unfolding accusation_kept
  accused accuser victim = by (first_accuser accuser a.table.accusations) (first_accuser victim a.table.accusations)
    where
      said : Body
      said = body.Ruled victim (accusation_ruled a.table.accusations accuser victim)

      by : (x y : Option Who) → Leaves a (keep_call (first_kept accuser victim x y) (Reply (first_of (first_kept accuser victim x y)) accuser said) a)
      by None None = replied (first_of (first_kept accuser victim None None)) accuser said
      by None (Some y) = replied None accuser said
      by (Some x) y = replied None accuser said

  claimed : (claimer victim : Who) (round : ℕ) → Leaves a (taken true (body.Claim victim round) claimer a)
  unfolding claim_kept claim_settled
  claimed claimer victim round = by (first_accuser victim a.table.accusations) (first_claimer victim round a.table.claims) (round == 1)
    where
      by : (x y : Option Who) (first : Bool)
          → Leaves a (keep_call (claimer_kept claimer victim round x y first)
          (claim_told (first_of (claimer_kept claimer victim round x y first)) claimer victim round (kept_by claimer x y first)) a)
      by None y first = refl
      by (Some x) None true = refl
      by (Some x) (Some y) true = refl
      by (Some x) (Some y) false = refl
      by (Some x) None false = replied (first_of (claimer_kept claimer victim round (Some x) None false)) claimer (body.Kept victim round claimer)

  questioned : (asker : Who) (o : Option UnitReply) → Leaves a (question_call asker o a)
  questioned asker None = refl
  questioned asker (Some r) = replied r.kept asker r.body

  by_body : (said : Body) (from : Who) (b : Bool) → Leaves a (taken b said from a)
  by_body said from false = refl
  by_body (body.Accuse victim) from true = accused from victim
  by_body (body.Claim victim round) from true = claimed from victim round
  by_body said from true = questioned from (question_answered said from a.registers)

  pub leaves : (m : Message) → Leaves a (frame_call m a)
  leaves m = by_body m.body m.from (takes_frame a.number m)

kept_more : (a : Arbiter) (records more : List Record) → with_kept (records ++ more) a ≡ with_kept more (with_kept records a)
kept_more a [] more = refl
kept_more a (r ∷ rs) more = kept_more (with_kept (r ∷ []) a) rs more

life_more : (number : ℕ) (l : Life) (o : Outcome Answer) → Leaves l.arbiter o → l.arbiter ≡ restored number l.records
    → (life_with l o).arbiter ≡ restored number (life_with l o).records
life_more number l (Ok (Reply kept to said), n) left is =
    left ∙ ap (λ (a : Arbiter). with_kept (option_to_list kept) a) is ∙ sym (kept_more (fresh number) l.records (option_to_list kept))
life_more number l (Ok Nothing, n) left is = left ∙ is
life_more number l (Err e, n) left is = is

pub is_its_records : IsItsRecords
is_its_records number [] = refl
is_its_records number (Comes m ∷ hs) =
    life_more number (life number hs) (frame_call m (life number hs).arbiter) (leaves (life number hs).arbiter m) (is_its_records number hs)
is_its_records number (Restarts ∷ hs) = refl
