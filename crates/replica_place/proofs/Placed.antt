-- What is placed once all the candidates that are asked for are gone over.
use Rattle.std.proofs.Common.{◌≡◌, ℕ, ◌≤◌, false, nat_lt, List, length, map, take, Ok, ap, sym, ◌∙◌, arith, take_all}
use Rattle.std.proofs.lemmas.Bool.Decides.{nat_tests}
use Rattle.replica_place.specs.declared.load.NodeLoad.{NodeLoad}
use Rattle.replica_place.specs.declared.candidate.Candidate.{Candidate}
use Rattle.replica_place.specs.Placement.{least_nodes, domains_up, in_order, chosen, placement}
use Rattle.replica_place.specs.Candidates.{candidate_of}
use Rattle.replica_place.proofs.InOrder.{numbers_of_candidates}

pub all_placed : (nodes : List NodeLoad) (count index : ℕ) (candidates : List Candidate) (placed : List ℕ)
    → candidates ≡ map candidate_of (in_order (least_nodes nodes))
    → placed ≡ map (λ c. c.node) (take index (take count candidates))
    → length (take count candidates) ≤ index → count ≤ domains_up nodes
    → placement nodes count ≡ Ok placed
all_placed nodes count index candidates placed are so_far end enough =
    let domains : nat_lt (domains_up nodes) count ≡ false = grind (arith, nat_tests, enough) in
    let all : placed ≡ map (λ n. n.node) (chosen nodes count) =
    so_far ∙ ap (map (λ c. c.node)) (take_all index (take count candidates) end)
    ∙ ap (λ cs. map (λ c. c.node) (take count cs)) are ∙ numbers_of_candidates count (in_order (least_nodes nodes)) in
    rw domains (ap Ok (sym all))
