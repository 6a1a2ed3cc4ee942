use Rattle.write_safety.proofs.Feeding.{reports_feed_lem}
use Rattle.write_safety.proofs.laws.reports_feed_books.Goals as goal

pub returns : goal.returns
returns c = reports_feed_lem
