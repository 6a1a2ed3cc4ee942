-- Each loss of a step opens the next number.
use Rattle.std.proofs.Common.{◌≡◌, ℕ, ◌+◌, List, [], ◌∷◌, ◌++◌, Option, Some, None, refl, ap}
use Rattle.fabric_terms.specs.declared.report.Report.{Report}
use Rattle.frame_hold.specs.Losses.{Had, gives_up, loss_at, losses_from}
use Rattle.frame_hold.specs.declared.holding.Owed.{Owed}
use Rattle.frame_hold.specs.declared.losses.GivesUp.{GivesUp}
use Rattle.parent_hold.specs.Laws.{numbered}
use Rattle.parent_hold.specs.Lines.{Telling, after_report, owed_at, step_owed}

-- the reports behind one that gives this up, if anything
behind : (had : Had) (told : List Report) (now place : ℕ) (t : Telling) (r : Report) (rs : List Report) (what : Option GivesUp) →
    ((later : Telling) → step_owed had told now later rs ≡ numbered later.next now (losses_from had told (place + 1) rs)) →
    owed_at what t.next now ++ step_owed had told now (after_report what t r) rs ≡ numbered t.next now (loss_at place what ++ losses_from had told (place + 1) rs)
behind had told now place t r rs None rest = rest (after_report None t r)
behind had told now place t r rs (Some what) rest =
    let first : Owed = record { number = t.next; what = what; since = now } in
    ap (λ (others : List Owed). first ∷ others) (rest (after_report (Some what) t r))

pub from_here : (had : Had) (told : List Report) (now place : ℕ) (t : Telling) (rs : List Report) → step_owed had told now t rs ≡ numbered t.next now (losses_from had told place rs)
from_here had told now place t [] = refl
from_here had told now place t (r ∷ rs) =
    behind had told now place t r rs (gives_up had told r) (λ later. from_here had told now (place + 1) later rs)
