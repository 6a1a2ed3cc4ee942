use Rattle.std.proofs.Common.{◌≡◌, ◌++◌, Some, take, drop, arith, ap, sym, ◌∙◌}
use Rattle.std.specs.List.{position}
use Rattle.source_lines.specs.Feeds.{HasNoFeed}
use Rattle.source_lines.proofs.Cuts.{is_feed}
use Rattle.source_lines.proofs.Pieces.{read_more, feed_behind, none_behind}
use Rattle.source_lines.proofs.piece.read_on.Goals as goal

pub returns-in-Some-clause-bytes : goal.returns-in-Some-clause-bytes
returns-in-Some-clause-bytes g c bytes e =
    let left = c.loop-end.invariant.bytes bytes e in
    let read = c.in_ok-count.ensures.bytes left.0 left.1 in
    (drop c.in_ok-count.count left.0, read.1, read_more _ _ left.0 _ c.in_ok-count.count read.0 left.2, λ f. cc)

pub returns-in-Some-clause-stop : goal.returns-in-Some-clause-stop
returns-in-Some-clause-stop g c =
    let none : HasNoFeed (take c.loop-end.end c.read_behind.new.room) = ap (position is_feed) c.in_ok-count.ensures.front ∙ c.loop-end.invariant.no_feed in
    let found : position is_feed (take c.in_ok-count.count (drop c.loop-end.end c.read_behind.new.room)) ≡ Some c.in-Some.i =
    ap (λ k. position is_feed (take k (drop c.loop-end.end c.read_behind.new.room))) (omega arith) ∙ sym c.in-Some.ensures in
    feed_behind c.loop-end.end c.in_ok-count.count c.in-Some.i c.read_behind.new.room (omega (arith, c.read_behind.auto.room)) none found

pub returns-then-count-eq0-clause-bytes : goal.returns-then-count-eq0-clause-bytes
returns-then-count-eq0-clause-bytes g c bytes e =
    let left = c.loop-end.invariant.bytes bytes e in
    let read = c.in_ok-count.ensures.bytes left.0 left.1 in
    let none = read.2 c.if-count-eq0.true in
    (left.0, read.1 ∙ ap (λ n. Some (drop n left.0)) c.if-count-eq0.true, ap (λ t. t ++ left.0) c.in_ok-count.ensures.front ∙ left.2, λ f. none)

pub loop-end-preserved : goal.loop-end-preserved
loop-end-preserved g c =
    let none : HasNoFeed (take c.loop-end.end c.read_behind.new.room) = ap (position is_feed) c.in_ok-count.ensures.front ∙ c.loop-end.invariant.no_feed in
    let more : HasNoFeed (take c.in_ok-count.count (drop c.loop-end.end c.read_behind.new.room)) =
    ap (λ k. position is_feed (take k (drop c.loop-end.end c.read_behind.new.room))) (omega arith) ∙ sym c.in-None.ensures in
    record {
      same = omega (arith, c.read_behind.auto.room);
      within = omega (arith, c.read_behind.auto.room, c.in_ok-count.ensures.count);
      no_feed = none_behind c.loop-end.end c.in_ok-count.count c.read_behind.new.room none more;
      bytes = λ bytes e.
          let left = c.loop-end.invariant.bytes bytes e in
          let read = c.in_ok-count.ensures.bytes left.0 left.1 in
          (drop c.in_ok-count.count left.0, read.1, read_more _ _ left.0 _ c.in_ok-count.count read.0 left.2);
      later = omega (arith, c.read_behind.ensures.cause.later);
    }
