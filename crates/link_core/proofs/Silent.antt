-- A row that sends nothing leaves what was sent before.
use Rattle.std.proofs.Common.{◌≡◌, List, [], refl}
use Rattle.std.proofs.lemmas.List.{append-nil}
use Rattle.ring_points.specs.declared.who.Who.{Who}
use Rattle.fabric_terms.specs.declared.message.Body.{Body}
use Rattle.link_core.specs.declared.notes.LinkNote.{LinkNote}
use Rattle.link_core.specs.Links.{Links, Did, did, did_after}

pub silent_row : (k : Links) (d : Did) (before : List (Who × Body)) (notes : List LinkNote) → did k [] [] ≡ d → notes ≡ [] → did k before notes ≡ did_after before d
silent_row k d before notes e f = rw (← e, f, append-nil) refl
