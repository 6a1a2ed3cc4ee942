-- What a sink has more where pieces are written one after another.
use Rattle.std.proofs.Common.{◌≡◌, ℕ, List, [], ◌++◌, length, take, drop, Option, Some, ap, sym, ◌∙◌, append_assoc}
use Rattle.std.proofs.lemmas.List.{append-nil, take-append-drop}
use Rattle.std.proofs.Math.Seq.{take-append_seam}
use Rattle.edge_io.specs.Edge.{Grew, GrewByFront}
use Rattle.schedule_rules.specs.Halts.{Wrote}

pub grew_none : (held : Option (List ℕ)) → Grew held held []
grew_none held = λ bytes e. e ∙ ap Some (sym (append-nil bytes))

pub grew_more : (old mid new : Option (List ℕ)) (sent more : List ℕ) → Grew old mid sent → Grew mid new more → Grew old new (sent ++ more)
grew_more old mid new sent more first second = λ held e. second (held ++ sent) (first held e) ∙ ap Some (append_assoc held sent more)

pub grew_as : (old new : Option (List ℕ)) (sent other : List ℕ) → sent ≡ other → Grew old new sent → Grew old new other
grew_as old new sent other same grew = λ held e. grew held e ∙ ap (λ t. Some (held ++ t)) same

-- what was sent is a front of what it goes on to
pub front_of : (old new : Option (List ℕ)) (sent rest all : List ℕ) → sent ++ rest ≡ all → Grew old new sent → GrewByFront old new all
front_of old new sent rest all same grew =
    (length sent, grew_as old new sent (take (length sent) all) (sym (ap (take (length sent)) (sym same) ∙ take-append_seam sent rest)) grew)

-- a front of the text, behind what was sent
pub front_behind : (old mid new : Option (List ℕ)) (sent text rest all : List ℕ) → sent ++ (text ++ rest) ≡ all → Grew old mid sent → GrewByFront mid new text → GrewByFront old new all
front_behind old mid new sent text rest all same first second =
    front_of old new (sent ++ take second.0 text) (drop second.0 text ++ rest) all
    (append_assoc sent (take second.0 text) (drop second.0 text ++ rest)
    ∙ (ap (λ t. sent ++ t) (sym (append_assoc (take second.0 text) (drop second.0 text) rest) ∙ ap (λ t. t ++ rest) (take-append-drop second.0 text))
    ∙ same))
    (grew_more old mid new sent (take second.0 text) first second.1)

-- some text more waits
pub wrote_more : (old new : Option (List ℕ)) (text more now lines all : List ℕ) → now ≡ text ++ more → all ≡ lines ++ more → Wrote old new text lines → Wrote old new now all
wrote_more old new text more now lines all is goes wrote =
    (wrote.0, wrote.1, ap (λ t. wrote.0 ++ t) is ∙ (sym (append_assoc wrote.0 text more) ∙ (ap (λ t. t ++ more) wrote.2 ∙ sym goes)))

pub wrote_as : (old new : Option (List ℕ)) (text now lines all : List ℕ) → now ≡ text → lines ≡ all → Wrote old new text lines → Wrote old new now all
wrote_as old new text now lines all is same wrote = (wrote.0, wrote.1, ap (λ t. wrote.0 ++ t) is ∙ (wrote.2 ∙ same))

-- a part of the text is sent
pub wrote_sent : (old mid new : Option (List ℕ)) (text now lines : List ℕ) → Wrote old mid text lines → Wrote mid new now text → Wrote old new now lines
wrote_sent old mid new text now lines wrote sent =
    (wrote.0 ++ sent.0, grew_more old mid new wrote.0 sent.0 wrote.1 sent.1, append_assoc wrote.0 sent.0 now ∙ (ap (λ t. wrote.0 ++ t) sent.2 ∙ wrote.2))
