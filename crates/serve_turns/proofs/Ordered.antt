-- What a turn says of how the life goes on.
use Rattle.std.proofs.Common.{◌≡◌, Bool, true, false, List, Ok, inl, inr, refl, sym, ◌∙◌}
use Rattle.std.specs.Prelude.{◌||◌}
use Rattle.edge_io.specs.Told.{Told}
use Rattle.serve_rules.specs.Events.{Event}
use Rattle.serve_turns.specs.Live.{Around, At, Beginning, Live}
use Rattle.serve_turns.specs.Steps.{CanGoOn}
use Rattle.serve_turns.specs.Turns.{CanTurnOn, GoesOnTo, WasTold}
use Rattle.turn_rules.specs.Order.{TurnPosition}
use Rattle.turn_rules.specs.Plans.{Plan}

module _ (plan : Plan) (o : Beginning) (b : Around) (l : Live) (p : TurnPosition) where
  pub told_when : (told : Bool) → told ≡ true → GoesOnTo plan o b l p (Ok told) → WasTold plan o b l
  told_when true e k = k
  told_when false e k = cc

  pub goes_when : (told : Bool) → told ≡ false → GoesOnTo plan o b l p (Ok told) → (es : List Event) × At plan o b l es p
  goes_when true e k = cc
  goes_when false e k = k

  -- a client has told it to end, or to leave

  pub ends_at : (es : List Event) → l.ending ≡ true → At plan o b l es p → WasTold plan o b l
  ends_at es ending t = record { events = es; place = p; at = t; told = inl (t.keeps.ending ∙ ending) }

  pub leaves_at : (es : List Event) → l.leaving ≡ true → At plan o b l es p → WasTold plan o b l
  leaves_at es leaving t = record { events = es; place = p; at = t; told = inr (t.keeps.leaving ∙ leaving) }

  pub told_at : (es : List Event) (ending leaving : Bool) → ending ≡ l.ending → leaving ≡ l.leaving → (ending || leaving) ≡ true → At plan o b l es p → WasTold plan o b l
  told_at es true leaving e f is t = ends_at es (sym e) t
  told_at es false true e f is t = leaves_at es (sym f) t
  told_at es false false e f is t = cc

  -- the policy is done
  pub gone_at : (es : List Event) (leaving : Bool) → leaving ≡ l.leaving → At plan o b l es p → GoesOnTo plan o b l p (Ok leaving)
  gone_at es false e t = (es, t)
  gone_at es true e t = leaves_at es (sym e) t

pub not_ending : (ending leaving : Bool) → (ending || leaving) ≡ false → ending ≡ false
not_ending true leaving e = cc
not_ending false leaving e = refl

pub can_turn : (plan : Plan) (l : Live) (b : Told) (told : Bool) → CanGoOn plan l b → CanTurnOn plan l b (Ok told)
can_turn plan l b true k = tt
can_turn plan l b false k = k

pub can_when : (plan : Plan) (l : Live) (b : Told) (told : Bool) → told ≡ false → CanTurnOn plan l b (Ok told) → CanGoOn plan l b
can_when plan l b true e k = cc
can_when plan l b false e k = k
