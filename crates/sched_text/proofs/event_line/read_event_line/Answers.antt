use Rattle.std.proofs.Common.{◌≡◌, ◌≢◌, Option, arith, sym, subst, ◌∙◌}
use Rattle.std.proofs.lemmas.Bool.Decides.{nat_tests}
use Rattle.fabric_terms.specs.declared.event.Event.{Event}
use Rattle.sched_text.specs.EventLines.{Tells, third_byte}
use Rattle.sched_text.proofs.FirstWords.{at_start, at_stop, at_tick, at_fire, at_give, at_do, at_junk, no_word}
use Rattle.sched_text.proofs.event_line.read_event_line.Goals as goal

pub returns-in-97 : goal.returns-in-97
returns-in-97 c =
    let line = c.args.line.now in
    let third : third_byte line ≡ 97 = sym c.third_byte.ensures ∙ c.in-97.is in
    subst (λ (e : Option Event). Tells c.args.readings.now.items c.start_line.result e) (sym (at_start line third)) (c.start_line.ensures c.args.readings.now.items)

pub returns-in-111 : goal.returns-in-111
returns-in-111 c =
    let line = c.args.line.now in
    let third : third_byte line ≡ 111 = sym c.third_byte.ensures ∙ c.in-111.is in
    subst (λ (e : Option Event). Tells c.args.readings.now.items c.stop_line.result e) (sym (at_stop line third)) (c.stop_line.ensures c.args.readings.now.items)

pub returns-in-99 : goal.returns-in-99
returns-in-99 c =
    let line = c.args.line.now in
    let third : third_byte line ≡ 99 = sym c.third_byte.ensures ∙ c.in-99.is in
    subst (λ (e : Option Event). Tells c.tick_line.new.readings.items c.tick_line.result e) (sym (at_tick line third)) c.tick_line.ensures

pub returns-in-114 : goal.returns-in-114
returns-in-114 c =
    let line = c.args.line.now in
    let third : third_byte line ≡ 114 = sym c.third_byte.ensures ∙ c.in-114.is in
    subst (λ (e : Option Event). Tells c.args.readings.now.items c.fire_line.result e) (sym (at_fire line third)) (c.fire_line.ensures c.args.readings.now.items)

pub returns-in-118 : goal.returns-in-118
returns-in-118 c =
    let line = c.args.line.now in
    let third : third_byte line ≡ 118 = sym c.third_byte.ensures ∙ c.in-118.is in
    subst (λ (e : Option Event). Tells c.args.readings.now.items c.give_line.result e) (sym (at_give line third)) (c.give_line.ensures c.args.readings.now.items)

pub returns-in-32 : goal.returns-in-32
returns-in-32 c =
    let line = c.args.line.now in
    let third : third_byte line ≡ 32 = sym c.third_byte.ensures ∙ c.in-32.is in
    subst (λ (e : Option Event). Tells c.args.readings.now.items c.do_line.result e) (sym (at_do line third)) (c.do_line.ensures c.args.readings.now.items)

pub returns-in-110 : goal.returns-in-110
returns-in-110 c =
    let line = c.args.line.now in
    let third : third_byte line ≡ 110 = sym c.third_byte.ensures ∙ c.in-110.is in
    subst (λ (e : Option Event). Tells c.args.readings.now.items c.junk_line.result e) (sym (at_junk line third)) (c.junk_line.ensures c.args.readings.now.items)

pub returns-in_default : goal.returns-in_default
returns-in_default c =
    let line = c.args.line.now in
    let start : third_byte line ≢ 97 = grind (arith, nat_tests) in
    let stop : third_byte line ≢ 111 = grind (arith, nat_tests) in
    let tick : third_byte line ≢ 99 = grind (arith, nat_tests) in
    let fire : third_byte line ≢ 114 = grind (arith, nat_tests) in
    let give : third_byte line ≢ 118 = grind (arith, nat_tests) in
    let command : third_byte line ≢ 32 = grind (arith, nat_tests) in
    let junk : third_byte line ≢ 110 = grind (arith, nat_tests) in
    no_word line start stop tick fire give command junk
