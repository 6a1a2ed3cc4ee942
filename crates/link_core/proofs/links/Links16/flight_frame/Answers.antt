use Rattle.link_core.proofs.links.Links16.flight_frame.Goals as goal

pub returns-in-Transfer : goal.returns-in-Transfer
returns-in-Transfer c = rw c.in-Transfer.is (rw c.new.ensures at c.hear_transfer.ensures)

pub returns-in-Gone : goal.returns-in-Gone
returns-in-Gone c = rw c.in-Gone.is (rw c.new-in-Gone.ensures at c.hear_gone.ensures)
