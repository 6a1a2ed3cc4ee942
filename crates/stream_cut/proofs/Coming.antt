-- What came out and what is still inside, where more comes in or a line is cut.
use Rattle.std.proofs.Common.{◌≡◌, ℕ, List, [], ◌++◌, ap, sym, ◌∙◌, append_assoc, Some}
use Rattle.stream_cut.specs.Cuts.{Came, Gives, Piece, Stream, begun, cuts, cuts_with, piece_of}
use Rattle.stream_cut.specs.declared.cut.Cut.{Cut}

pub came_more : (bytes piece line : List ℕ) (out : List Piece) (old : Stream) → Came bytes out old → Came (bytes ++ piece) out (record old { waiting = old.waiting ++ piece; line = line })
came_more bytes piece line out old came = λ more.
    ap (cuts old.most (Some [])) (append_assoc bytes piece more) ∙ came (piece ++ more)
    ∙ ap (λ (rest : List ℕ). out ++ cuts old.most (begun old.skips) rest) (sym (append_assoc old.waiting piece more))

pub came_out : (cut : Cut) (bytes : List ℕ) (out : List Piece) (old new : Stream) → Gives cut old new → new.most ≡ old.most → Came bytes out old → Came bytes (out ++ piece_of cut new.line) new
came_out cut bytes out old new gives most came = λ more.
    ap (λ (m : ℕ). cuts m (Some []) (bytes ++ more)) most ∙ came more ∙ ap (λ (rest : List Piece). out ++ rest) (gives more)
    ∙ sym (append_assoc out (piece_of cut new.line) (cuts_with new more))
