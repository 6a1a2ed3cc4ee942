use Rattle.std.proofs.Common.{rules, ◌≡◌, ◌<◌, Some, length, sym, subst}
use Rattle.std.specs.Prelude.{slice_get}
use Rattle.fabric_turns.proofs.Stepping.{made_step, refused_step, slice_here}
use Rattle.fabric_turns.proofs.run.Run.step.Goals as goal
use Rattle.fabric_turns.specs.Runs.{Run}
use Rattle.turn_rules.specs.Steps.{present}

pub returns-clause-does : goal.returns-clause-does
returns-clause-does c =
    let view : c.args.self.now ≡ record { members = c.self.inside.members.items; last = c.self.inside.last } = sym c.self.view_is in
    let low : c.args.place < length c.self.inside.members.items = subst (λ (r : Run). c.args.place < length r.members) view c.requires.place in
    let here : slice_get c.self.inside.members.items c.args.place ≡ Some c.index_mut.result.now = slice_here _ _ _ low c.index_mut.ensures.value in
    let same : present c.args.self.now.last ≡ c.present-now.result = search rules in
    made_step c.args.turn c.args.place c.present-now.result c.args.input.now c.args.self.now c.self.inside.members.items c.self.inside.last c.index_mut.result.now c.step.new.self view same here (λ deed. deed) c.step.result c.step.ensures.does c.step.ensures.deed c.step.ensures.runs

pub returns-clause-full : goal.returns-clause-full
returns-clause-full c =
    let view : c.args.self.now ≡ record { members = c.self.inside.members.items; last = c.self.inside.last } = sym c.self.view_is in
    let low : c.args.place < length c.self.inside.members.items = subst (λ (r : Run). c.args.place < length r.members) view c.requires.place in
    let here : slice_get c.self.inside.members.items c.args.place ≡ Some c.index_mut.result.now = slice_here _ _ _ low c.index_mut.ensures.value in
    let same : present c.args.self.now.last ≡ c.present-now.result = search rules in
    refused_step c.args.turn c.args.place c.present-now.result c.args.input.now c.args.self.now c.self.inside.members.items c.self.inside.last c.index_mut.result.now c.step.new.self view same here c.step.result c.step.ensures.full
