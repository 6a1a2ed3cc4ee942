use Rattle.serve_lives.proofs.Going.{reads_more, reads_once, reads_same}
use Rattle.serve_lives.proofs.pausing.pass_time.Goals as goal

pub loop-look-init : goal.loop-look-init
loop-look-init g c = reads_once _ _ _ c.now-begun.ensures

pub loop-look-preserved : goal.loop-look-preserved
loop-look-preserved g c = reads_same _ _ _ (reads_more _ _ _ _ c.loop-look.invariant c.now-reading.ensures) c.settle.ensures.told
