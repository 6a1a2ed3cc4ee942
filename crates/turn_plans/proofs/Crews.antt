-- The actors of a crew, one number after another.
use Rattle.std.proofs.Common.{◌≡◌, ℕ, ◌+◌, List, [], ◌∷◌, ◌++◌, add-one, append_assoc, refl, ap, sym, ◌∙◌}
use Rattle.edge_io.specs.declared.endpoint.Endpoint.{Endpoint}
use Rattle.fabric_terms.specs.declared.config.FabricConfig.{FabricConfig}
use Rattle.turn_plans.specs.Crews.{arbiter_at, arbiters_to, node_at, nodes_to}

with_none : (xs : List Endpoint) → xs ≡ xs ++ []
with_none [] = refl
with_none (x ∷ xs) = ap (λ ys. x ∷ ys) (with_none xs)

more_nodes : (c : FabricConfig) (n : ℕ) → nodes_to c (n + 1) ≡ nodes_to c n ++ node_at c (n + 1)
unfolding nodes_to
more_nodes c n = rw add-one refl

more_arbiters : (c : FabricConfig) (n : ℕ) → arbiters_to c (n + 1) ≡ arbiters_to c n ++ arbiter_at c (n + 1)
unfolding arbiters_to
more_arbiters c n = rw add-one refl

pub no_node_yet : (c : FabricConfig) (xs : List Endpoint) → xs ≡ xs ++ nodes_to c 0
unfolding nodes_to
no_node_yet c xs = with_none xs

pub next_node : (c : FabricConfig) (n : ℕ) (first now then : List Endpoint) → now ≡ first ++ nodes_to c n → then ≡ now ++ node_at c (n + 1) → then ≡ first ++ nodes_to c (n + 1)
next_node c n first now then so_far more =
    more ∙ ap (λ es. es ++ node_at c (n + 1)) so_far ∙ append_assoc first (nodes_to c n) (node_at c (n + 1))
    ∙ ap (λ es. first ++ es) (sym (more_nodes c n))

pub no_arbiter_yet : (c : FabricConfig) (xs : List Endpoint) → xs ≡ xs ++ arbiters_to c 0
unfolding arbiters_to
no_arbiter_yet c xs = with_none xs

pub next_arbiter : (c : FabricConfig) (n : ℕ) (first now then : List Endpoint) → now ≡ first ++ arbiters_to c n → then ≡ now ++ arbiter_at c (n + 1) → then ≡ first ++ arbiters_to c (n + 1)
next_arbiter c n first now then so_far more =
    more ∙ ap (λ es. es ++ arbiter_at c (n + 1)) so_far ∙ append_assoc first (arbiters_to c n) (arbiter_at c (n + 1))
    ∙ ap (λ es. first ++ es) (sym (more_arbiters c n))
