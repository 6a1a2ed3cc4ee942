use Rattle.link_core.proofs.links.Links16.frame.Goals as goal

pub returns-in-Offer : goal.returns-in-Offer
returns-in-Offer c = rw (c.in-Offer.is, ← c.hear_offer.view_is) (rw (c.new.ensures, ← c.hear_offer.view_is) at c.hear_offer-in-Offer.ensures)

pub returns-in-OfferFor : goal.returns-in-OfferFor
returns-in-OfferFor c = rw c.in-OfferFor.is (rw c.new-in-OfferFor.ensures at c.hear_offer-in-OfferFor.ensures)

pub returns-in-Take : goal.returns-in-Take
returns-in-Take c = rw c.in-Take.is (rw c.new-in-Take.ensures at c.hear_take.ensures)
