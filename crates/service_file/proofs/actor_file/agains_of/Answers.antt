use Rattle.std.proofs.Common.{◌≡◌, ◌-◌, ◌<◌, List, [], ◌∷◌, length, None, Some, ap, arith, rules, subst, sym, ◌∙◌}
use Rattle.std.proofs.lemmas.Bool.Decides.{nat_tests}
use Rattle.std.proofs.lemmas.List.{length-append}
use Rattle.service_file.specs.declared.settings.Again.{Again}
use Rattle.service_file.specs.ActorFiles.{agains_in, agains_of}
use Rattle.service_file.proofs.AgainLines.{after, all_read, line_read, line_refused, line_shortens}
use Rattle.service_file.proofs.actor_file.agains_of.Goals as goal

pub loop-rest-smaller : goal.loop-rest-smaller
loop-rest-smaller c =
    line_shortens c.loop-rest.rest.now (c.in_ok-again.again, c.in_ok-again.more.now) c.in_ok-again.ensures

pub loop-rest-preserved : goal.loop-rest-preserved
loop-rest-preserved c =
    let bytes = c.args.bytes.now in
    let done = c.loop-rest.entries.items in
    let more = c.in_ok-again.more.now in
    let read = c.in_ok-again.ensures in
    let shorter = line_shortens c.loop-rest.rest.now (c.in_ok-again.again, more) read in
    let within : length done < length bytes = omega (arith, shorter, c.loop-rest.invariant.room) in
    let P : List Again → Type 0 = λ xs. after xs (agains_in (length bytes - length xs) more) ≡ agains_in (length bytes) bytes in
    let size = length-append done (c.in_ok-again.again ∷ []) in
    record {
      so_far =
          subst P (sym c.in_ok-push.ensures.items)
          (rw size (sym (line_read (length bytes) (length done) done c.loop-rest.rest.now (c.in_ok-again.again, more) within read) ∙ c.loop-rest.invariant.so_far));
      room = omega (arith, shorter, c.loop-rest.invariant.room, ap length c.in_ok-push.ensures.items, size);
    }

pub returns-in_err-again : goal.returns-in_err-again
returns-in_err-again c =
    let rest = c.loop-rest.rest.now in
    let some : 0 < length rest = grind (arith, nat_tests, c.loop-rest-test.true, c.is_empty.ensures) in
    let none : agains_of c.args.bytes.now ≡ None =
    sym c.loop-rest.invariant.so_far
    ∙ line_refused (length c.args.bytes.now - length c.loop-rest.entries.items) c.loop-rest.entries.items rest some c.in_err-again.ensures in
    search (rules, none)

pub returns : goal.returns
returns c =
    let rest = c.loop-rest.rest.now in
    let zero : length rest ≡ 0 = grind (arith, nat_tests, c.loop-rest-test.false, c.is_empty.ensures) in
    sym c.loop-rest.invariant.so_far
    ∙ (all_read (length c.args.bytes.now - length c.loop-rest.entries.items) c.loop-rest.entries.items rest zero ∙ ap Some (sym c.new.ensures))
