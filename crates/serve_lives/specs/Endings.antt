-- How a served process ends by its last life.
use Rattle.std.specs.Prelude.{Bool, true, false}
use Rattle.serve_lives.specs.declared.ending.ServeEnd.{ServeEnd}
use Rattle.serve_lives.specs.declared.ending.ServeEnd.TheVariants as serve
use Rattle.serve_turns.specs.declared.life.LifeEnd.{LifeEnd}
use Rattle.serve_turns.specs.declared.life.LifeEnd.TheVariants as life
use Rattle.turn_rules.specs.declared.stop_cause.StopCause.TheVariants as stop

-- the instance has left
abbrev pub has_left : LifeEnd → Bool
has_left (life.Stopped (stop.Left why)) = true
has_left _ = false

-- an instance that left, after the process was told to leave, has ended it as it was told
abbrev pub end_of : LifeEnd → (leaving : Bool) → ServeEnd
end_of life.Told leaving = serve.Told
end_of life.Spent leaving = serve.Spent
end_of (life.Stopped (stop.Left why)) true = serve.Told
end_of (life.Stopped cause) leaving = serve.Stopped cause
