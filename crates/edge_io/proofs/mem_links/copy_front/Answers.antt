use Rattle.std.proofs.Common.{arith, ◌≡◌, ℕ, List, length, take, ◌++◌, min, ap, sym, ◌∙◌}
use Rattle.std.proofs.lemmas.List.{length-take, take_min, take_all, take-append-le}
use Rattle.edge_io.specs.Limits.{most_datagram}
use Rattle.edge_io.proofs.mem_links.copy_front.Goals as goal

-- the front of a list that begins with the first bytes of another
front_is : (bytes into rest : List ℕ) (n : ℕ) → n ≡ min most_datagram (length bytes) → into ≡ take n bytes → take n (into ++ rest) ≡ take most_datagram bytes
front_is bytes into rest n is copied =
    let fits : length into ≡ n = ap length copied ∙ omega (arith, length-take n bytes) in
    take-append-le n into rest (omega arith)
    ∙ take_all n into (omega arith)
    ∙ copied
    ∙ ap (λ k. take k bytes) is
    ∙ take_min most_datagram bytes

pub returns-clause-count : goal.returns-clause-count
returns-clause-count c = c.min-count.ensures ∙ sym (length-take most_datagram c.args.bytes.now)

pub returns-clause-copied : goal.returns-clause-copied
returns-clause-copied c = front_is c.args.bytes.now _ _ _ c.min-count.ensures c.copy_from_slice.ensures.after
