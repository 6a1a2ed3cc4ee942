use Rattle.std.proofs.Common.{◌≡◌, ◌≢◌, None, map, refl, sym, string_bytes, ◌∙◌}
use Rattle.fabric_top.specs.Forms.{form_of}
use Rattle.edge_io.specs.Told.{Loans}
use Rattle.fabric_top.proofs.NoMemory.{no_memory}
use Rattle.fabric_top.proofs.Safe.{accepted_is_safe}
use Rattle.fabric_top.proofs.top.fabric_main.Goals as goal

pub returns-in-Ok-Some-clause-safe : goal.returns-in-Ok-Some-clause-safe
returns-in-Ok-Some-clause-safe g c bytes e = accepted_is_safe bytes

pub returns-in-Ok-None-clause-safe : goal.returns-in-Ok-None-clause-safe
returns-in-Ok-None-clause-safe g c bytes e = accepted_is_safe bytes

pub returns-in-Err-clause-safe : goal.returns-in-Err-clause-safe
returns-in-Err-clause-safe g c bytes e = accepted_is_safe bytes

pub returns-in-Ok-None-clause-does : goal.returns-in-Ok-None-clause-does
returns-in-Ok-None-clause-does g c =
    let loans : Loans = record { sink = c.args.sink.ghost_name; links = c.args.links.ghost_name; keeps = c.args.keeps.ghost_name; clock = c.args.clock.ghost_name } in
    let none : form_of (map string_bytes c.args.words.now) ≡ None = sym c.in-Ok-None.ensures.form ∙ c.in-Ok-None.field-0-is in
    (loans, rw none (record { written = c.usage.ensures; rest = refl }))

pub returns-in-Err-clause-does : goal.returns-in-Err-clause-does
returns-in-Err-clause-does g c =
    let loans : Loans = record { sink = c.args.sink.ghost_name; links = c.args.links.ghost_name; keeps = c.args.keeps.ghost_name; clock = c.args.clock.ghost_name } in
    let form : form_of (map string_bytes c.args.words.now) ≢ None = λ none. let is = c.read_form.ensures.none none in cc in
    (loans, no_memory _ _ form)
