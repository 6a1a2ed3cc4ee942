use Rattle.std.proofs.Common.{ℕ, List, None, map, option_map, subst}
use Rattle.fabric_terms.specs.declared.config.NodeEntry.{NodeEntry}
use Rattle.serve_top.specs.Addresses.{FindsBad}
use Rattle.serve_top.proofs.Finding.{found_right}
use Rattle.serve_top.proofs.addresses.bad_address.Goals as goal

pub returns-in-None : goal.returns-in-None
returns-in-None c =
    let found = option_map (λ s. s.now) c.bad_arbiter.result in
    found_right (map (λ n. n.at) c.args.config.now.nodes) (map (λ a. a.1) c.args.config.now.arbiters)
    (subst (λ (ns : List NodeEntry). FindsBad (map (λ n. n.at) ns) None) c.as_slice.ensures c.in-None.ensures) found
    (subst (λ (xs : List (ℕ × List ℕ)). FindsBad (map (λ a. a.1) xs) found) c.as_slice-in-None.ensures c.bad_arbiter.ensures)
