use Rattle.std.proofs.Common.{Ok, ap, ◌∙◌}
use Rattle.source_lines.proofs.Taking.{line_last, line_to, taken_to, taken_last, taken_none}
use Rattle.source_lines.proofs.Wholes.{whole_last, whole_to}
use Rattle.source_lines.proofs.reader.LineReader.read_next.Goals as goal

pub returns-in-Feed-clause-taken : goal.returns-in-Feed-clause-taken
returns-in-Feed-clause-taken g c bytes e =
    let read = c.read_pieces.ensures.bytes bytes e in
    let stop = rw c.in-Feed.is at c.in_ok-i.ensures.stop in (
      read.0,
      read.1,
      taken_to c.take_to.result c.in-Feed.i c.args.most _ c.read_pieces.new.self c.take_to.new.self read.0 stop c.take_to.ensures read.2,
      whole_to c.take_to.result c.in-Feed.i c.args.most _ c.read_pieces.new.self c.take_to.new.self read.0 stop c.take_to.ensures read.2,
    )

pub returns-in-Ended-clause-taken : goal.returns-in-Ended-clause-taken
returns-in-Ended-clause-taken g c bytes e =
    let read = c.read_pieces.ensures.bytes bytes e in
    let stop = rw c.in-Ended.is at c.in_ok-i.ensures.stop in
    let ended = read.3 (c.in_ok-i.was ∙ ap Ok c.in-Ended.is) in (
      read.0,
      read.1,
      taken_last c.take_last.result c.args.most _ c.read_pieces.new.self c.take_last.new.self read.0 stop.0 stop.1 ended c.take_last.ensures read.2,
      whole_last c.take_last.result _ c.read_pieces.new.self c.take_last.new.self read.0 ended c.take_last.ensures read.2,
    )

pub returns-in-Full-clause-taken : goal.returns-in-Full-clause-taken
returns-in-Full-clause-taken g c bytes e =
    let read = c.read_pieces.ensures.bytes bytes e in
    let stop = rw c.in-Full.is at c.in_ok-i.ensures.stop in
    (read.0, read.1, taken_none c.args.most _ c.read_pieces.new.self read.0 stop.0 stop.1 read.2, tt)

pub returns-in-Feed-clause-line : goal.returns-in-Feed-clause-line
returns-in-Feed-clause-line g c =
    line_to c.take_to.result c.in-Feed.i c.args.most c.read_pieces.new.self c.take_to.new.self (rw c.in-Feed.is at c.in_ok-i.ensures.stop) c.take_to.ensures

pub returns-in-Ended-clause-line : goal.returns-in-Ended-clause-line
returns-in-Ended-clause-line g c =
    let stop = rw c.in-Ended.is at c.in_ok-i.ensures.stop in
    line_last c.take_last.result c.args.most c.read_pieces.new.self c.take_last.new.self stop.0 stop.1 c.take_last.ensures
