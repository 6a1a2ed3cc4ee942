-- Commands that are done, and commands that are refused.
use Rattle.std.proofs.Common.{◌≡◌, ℕ, false, List, [], ◌∷◌, ◌++◌, Some, refl, sym, ap, ◌∙◌}
use Rattle.fabric_terms.specs.declared.message.Body.{Body}
use Rattle.fabric_terms.specs.declared.report.Reason.{Reason}
use Rattle.fabric_terms.specs.declared.report.Report.{Report}
use Rattle.fabric_terms.specs.declared.report.Report.TheVariants.{Refused}
use Rattle.fabric_terms.specs.declared.report.Verb.{Verb}
use Rattle.join_phases.specs.Phases.{is_routing}
use Rattle.ring_node.specs.Nodes.{Node, by, step}
use Rattle.ring_points.specs.declared.who.Who.{Who}
use Rattle.ring_rules.specs.Commands.{join_commanded, seek_place}
use Rattle.ring_rules.specs.Deeds.{refuse}
use Rattle.ring_rules.specs.Rings.{Settings, Work}
use Rattle.ring_node.proofs.Stays.{landed}

-- the member is asked
pub joined : (member : ℕ) (n m : Node) (out sent : List (Who × Body)) (told : List Report) → is_routing n.ring.phase ≡ false → m ≡ record n { ring = record n.ring { target = Some member } } → ((t : List Report) → step m sent t ≡ by (λ c. seek_place member) (step m out t)) → step m sent told ≡ by (λ c. join_commanded member) (step n out told)
unfolding join_commanded
joined member n m out sent told h e s = s told ∙ ap (λ (x : Node). by (λ c. seek_place member) (step x out told)) e ∙ rw h refl

-- a refusal is told
pub refused_told : (row : Settings → Work → Work) (verb : Verb) (reason : Reason) (old new : Node) (out sent : List (Who × Body)) (told made : List Report) → new ≡ old → sent ≡ out → made ≡ told ++ Refused verb reason ∷ [] → row old.settings (step old out told).work ≡ refuse verb reason (step old out told).work → step new sent made ≡ by row (step old out told)
refused_told row verb reason old new out sent told made a b d h =
    landed new old sent out made (told ++ Refused verb reason ∷ []) a b d ∙ ap (λ (w : Work). record (step old out told) { work = w }) (sym h)
