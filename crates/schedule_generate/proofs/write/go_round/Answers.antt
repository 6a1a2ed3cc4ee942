use Rattle.std.proofs.Common.{◌≡◌, true, false, Ok, Err, sym, ◌∙◌}
use Rattle.edge_io.specs.declared.refusal.EdgeRefusal.TheVariants as refusal
use Rattle.schedule_generate.specs.Course.{is_full, round}
use Rattle.schedule_generate.specs.Settings.{generated_config}
use Rattle.schedule_generate.proofs.Loops.{full_round, no_failure, own_number, round_halted, round_sent}
use Rattle.schedule_generate.proofs.write.go_round.Goals as goal

pub round-requires-clause-room : goal.round-requires-clause-room
round-requires-clause-room g c n k goes = sym (c.is_full.ensures n k goes) ∙ c.if-is_full.false

pub returns-then-is_full-clause-went : goal.returns-then-is_full-clause-went
returns-then-is_full-clause-went g c k sent at =
    let n = c.args.generator.now.nodes in
    let full : is_full (generated_config n) k ≡ true = sym (c.is_full.ensures n k at.goes) ∙ c.if-is_full.true in
    full_round g.L.CourseObserver.writing (g.L.CourseObserver.knows c.args.listener.now) n c.args.generator.now c.args.text.now.items k sent (g.K.Sink.held c.args.sink.now) tt (is_full (generated_config n) k) full at

pub returns-in-Ok-send_full-clause-went : goal.returns-in-Ok-send_full-clause-went
returns-in-Ok-send_full-clause-went g c k sent at =
    let n = c.args.generator.now.nodes in
    let open_still : is_full (generated_config n) k ≡ false = sym (c.is_full.ensures n k at.goes) ∙ c.if-is_full.false in
    round_sent g.L.CourseObserver.writing (g.L.CourseObserver.knows c.round.new.listener) n (Ok tt) c.round.new.self c.round.new.text.items c.send_full.new.text.items k sent (g.K.Sink.held c.args.sink.now) (g.K.Sink.held c.send_full.new.sink) (is_full (generated_config n) k) open_still
    (c.in-Ok.ensures.went k sent at) c.in-Ok-send_full.ensures.sent

pub returns-in-Err-Failed-clause-went : goal.returns-in-Err-Failed-clause-went
returns-in-Err-Failed-clause-went g c k sent at =
    let n = c.args.generator.now.nodes in
    let open_still : is_full (generated_config n) k ≡ false = sym (c.is_full.ensures n k at.goes) ∙ c.if-is_full.false in
    round_sent g.L.CourseObserver.writing (g.L.CourseObserver.knows c.round.new.listener) n (Err refusal.Failed) c.round.new.self c.round.new.text.items c.send_full.new.text.items k sent (g.K.Sink.held c.args.sink.now) (g.K.Sink.held c.send_full.new.sink) (is_full (generated_config n) k) open_still
    (c.in-Ok.ensures.went k sent at) c.in-Err-Failed.ensures.sent

pub returns-in-Err-OutOfMemory-clause-went : goal.returns-in-Err-OutOfMemory-clause-went
returns-in-Err-OutOfMemory-clause-went g c k sent at =
    let n = c.args.generator.now.nodes in
    let open_still : is_full (generated_config n) k ≡ false = sym (c.is_full.ensures n k at.goes) ∙ c.if-is_full.false in
    round_sent g.L.CourseObserver.writing (g.L.CourseObserver.knows c.round.new.listener) n (Err refusal.OutOfMemory) c.round.new.self c.round.new.text.items c.send_full.new.text.items k sent (g.K.Sink.held c.args.sink.now) (g.K.Sink.held c.send_full.new.sink) (is_full (generated_config n) k) open_still
    (c.in-Ok.ensures.went k sent at) c.in-Err-OutOfMemory.ensures.sent

pub returns-in-Err-clause-went : goal.returns-in-Err-clause-went
returns-in-Err-clause-went g c k sent at =
    let n = c.args.generator.now.nodes in
    let open_still : is_full (generated_config n) k ≡ false = sym (c.is_full.ensures n k at.goes) ∙ c.if-is_full.false in
    round_halted g.L.CourseObserver.writing (g.L.CourseObserver.knows c.round.new.listener) (g.L.CourseObserver.knows c.round.new.listener) n c.in-Err.halt c.round.new.self c.round.new.text.items k sent (g.K.Sink.held c.args.sink.now) (is_full (generated_config n) k) open_still (c.in-Err.ensures.went k sent at)

pub returns-in-Err-clause-failed : goal.returns-in-Err-clause-failed
returns-in-Err-clause-failed g c is =
    let n = c.args.generator.now.nodes in
    let own = own_number g.L.CourseObserver.writing (g.L.CourseObserver.knows c.args.listener.now) c.args.generator.now c.args.text.now.items c.requires.at in
    absurd (no_failure g.L.CourseObserver.writing (g.L.CourseObserver.knows c.round.new.listener) n c.in-Err.halt c.round.new.self c.round.new.text.items (round (generated_config n) n own.0) own.1 is (c.in-Err.ensures.went own.0 own.1 own.2))
