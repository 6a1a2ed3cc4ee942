-- The least nodes of the first domains.
use Rattle.std.proofs.Common.{◌≡◌, ℕ, suc, zero, ◌+◌, List, [], ◌∷◌, ◌++◌, map, filter_map, Option, Some, None, refl, ap, sym, ◌∙◌, arith, add-one, option_map, option_to_list}
use Rattle.std.specs.List.{range_with_len}
use Rattle.std.proofs.lemmas.List.{append-nil, map-append}
use Rattle.std.proofs.lemmas.List.Elements.{filter_map-append}
use Rattle.replica_place.specs.declared.load.NodeLoad.{NodeLoad}
use Rattle.replica_place.specs.declared.candidate.Candidate.{Candidate}
use Rattle.replica_place.specs.Placement.{least_in, least_nodes}
use Rattle.replica_place.specs.Candidates.{candidate_of}

abbrev pub least_upto : List NodeLoad → ℕ → List NodeLoad
least_upto nodes n = filter_map (least_in nodes) (range_with_len 1 n)

pub range-more : (a n : ℕ) → range_with_len a (suc n) ≡ range_with_len a n ++ (a + n) ∷ []
range-more a zero = ap (λ k. k ∷ []) (omega arith)
range-more a (suc n) =
    let end : a + 1 + n ≡ a + suc n = omega arith in
    ap (λ ks. a ∷ ks) (range-more (a + 1) n ∙ ap (λ k. range_with_len (a + 1) n ++ k ∷ []) end)

pub one_domain_more : (nodes : List NodeLoad) (n : ℕ)
    → least_upto nodes (n + 1) ≡ least_upto nodes n ++ filter_map (least_in nodes) ((n + 1) ∷ [])
one_domain_more nodes n =
    let next : 1 + n ≡ n + 1 = omega arith in
    ap (λ k. filter_map (least_in nodes) (range_with_len 1 k)) (add-one n)
    ∙ ap (filter_map (least_in nodes)) (range-more 1 n ∙ ap (λ k. range_with_len 1 n ++ k ∷ []) next)
    ∙ filter_map-append (least_in nodes) (range_with_len 1 n) ((n + 1) ∷ [])

-- the next domain has no up node
pub none_more : (nodes : List NodeLoad) (n : ℕ) → least_in nodes (n + 1) ≡ None → least_upto nodes (n + 1) ≡ least_upto nodes n
none_more nodes n none = one_domain_more nodes n ∙ rw none (append-nil (least_upto nodes n))

-- the next domain has one
pub one_more : (nodes : List NodeLoad) (n : ℕ) (least : NodeLoad) → least_in nodes (n + 1) ≡ Some least
    → least_upto nodes (n + 1) ≡ least_upto nodes n ++ least ∷ []
one_more nodes n least some = one_domain_more nodes n ∙ rw some refl

-- the same of the candidates, by what was found
pub candidates_more : (nodes : List NodeLoad) (n : ℕ) (found : Option Candidate) → found ≡ option_map candidate_of (least_in nodes (n + 1))
    → map candidate_of (least_upto nodes (n + 1)) ≡ map candidate_of (least_upto nodes n) ++ option_to_list found
candidates_more nodes n found is = by (least_in nodes (n + 1)) refl
  where
    by : (o : Option NodeLoad) → least_in nodes (n + 1) ≡ o
        → map candidate_of (least_upto nodes (n + 1)) ≡ map candidate_of (least_upto nodes n) ++ option_to_list found
    by None e =
        let nothing : found ≡ None = is ∙ ap (option_map candidate_of) e in
        rw (none_more nodes n e, nothing) (sym (append-nil (map candidate_of (least_upto nodes n))))
    by (Some least) e =
        let this : found ≡ Some (candidate_of least) = is ∙ ap (option_map candidate_of) e in
        rw (one_more nodes n least e, this) (map-append candidate_of (least_upto nodes n) (least ∷ []))

pub all_domains : (nodes : List NodeLoad) (n : ℕ) → n ≡ 64 → least_upto nodes n ≡ least_nodes nodes
unfolding least_nodes
all_domains nodes n is = rw is refl
