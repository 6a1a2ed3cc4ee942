-- The search for a node that repeats an earlier one, one step on.
use Rattle.std.proofs.Common.{◌≡◌, ℕ, ◌+◌, ◌<◌, List, [], ◌∷◌, ◌++◌, length, drop, take, get_or, true, false, Some, refl, ap, sym, ◌∙◌}
use Rattle.std.specs.List.{list_any}
use Rattle.std.proofs.lemmas.List.{take_more}
use Rattle.fabric_terms.specs.declared.config.NodeEntry.{NodeEntry}
use Rattle.fabric_config.specs.Nodes.{repeats, first_repeated}
use Rattle.fabric_config.proofs.Lists.{front_of}

pub none_here : (nodes : List NodeEntry) (i : ℕ) (node : NodeEntry)
    → i < length nodes → node ≡ get_or nodes i node → list_any (λ a. repeats a node) (take i nodes) ≡ false
    → first_repeated (take i nodes) (drop i nodes) ≡ first_repeated (take (i + 1) nodes) (drop (i + 1) nodes)
none_here nodes i node within is none =
    let longer : take (i + 1) nodes ≡ take i nodes ++ node ∷ [] =
    take_more nodes i node within ∙ ap (λ y. take i nodes ++ y ∷ []) (sym is) in
    rw (front_of nodes i node within is, none, longer) refl

pub repeated_here : (nodes : List NodeEntry) (i : ℕ) (node : NodeEntry)
    → i < length nodes → node ≡ get_or nodes i node → list_any (λ a. repeats a node) (take i nodes) ≡ true
    → first_repeated (take i nodes) (drop i nodes) ≡ Some node.node
repeated_here nodes i node within is some = rw (front_of nodes i node within is, some) refl

pub ruleset search_for_one = (none_here, repeated_here)
