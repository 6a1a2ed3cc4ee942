-- What a search of the votes finds is what the definitions find of their pairs.
use Rattle.std.proofs.Common.{◌≡◌, ◌∙◌, ℕ, Bool, false, List, Option, Some, None, refl, sym, ap, ◌||◌}
use Rattle.std.specs.List.{find, list_any}
use Rattle.std.specs.Prelude.{option_map}
use Rattle.ring_points.specs.declared.unit.Config.{Config}
use Rattle.arbiter_quorum.specs.declared.votes.Vote.{Vote}
use Rattle.arbiter_quorum.specs.Tallies.{is_majority}
use Rattle.arbiter_quorum.specs.Kept.{pair, pairs}
use Rattle.arbiter_quorum.specs.Votes.{VoteTally, has_majority, may_win, unanswered, decided_of, verdict_by, one_may_win, vote_verdict_of}
use Rattle.arbiter_quorum.proofs.Mapped.{find_map, list_any_map}

kept_of : (r : Option Vote) → option_map (λ answer. answer.1) (option_map pair r) ≡ option_map (λ (vote : Vote). vote.kept) r
kept_of None = refl
kept_of (Some vote) = refl

found_kept : (q : Config → Bool) (answers : List (ℕ × Config)) (votes : List Vote) → answers ≡ pairs votes → option_map (λ answer. answer.1) (find (λ answer. q answer.1) answers) ≡ option_map (λ (vote : Vote). vote.kept) (find (λ (vote : Vote). q vote.kept) votes)
found_kept q answers votes e =
    ap (λ (xs : List (ℕ × Config)). option_map (λ answer. answer.1) (find (λ answer. q answer.1) xs)) e
    ∙ ap (option_map (λ (answer : ℕ × Config). answer.1)) (find_map (λ (answer : ℕ × Config). q answer.1) pair votes)
    ∙ kept_of (find (λ (vote : Vote). q vote.kept) votes)

any_kept : (q : Config → Bool) (answers : List (ℕ × Config)) (votes : List Vote) → answers ≡ pairs votes → list_any (λ answer. q answer.1) answers ≡ list_any (λ (vote : Vote). q vote.kept) votes
any_kept q answers votes e =
    ap (list_any (λ (answer : ℕ × Config). q answer.1)) e ∙ list_any_map (λ (answer : ℕ × Config). q answer.1) pair votes

pub verdict_is : (t : VoteTally) (seen votes : List Vote) → seen ≡ votes → t.answers ≡ pairs votes → (r : Option Vote) → r ≡ find (λ (vote : Vote). has_majority t vote.kept) seen → verdict_by (option_map (λ (vote : Vote). vote.kept) r) (one_may_win t) ≡ vote_verdict_of t
verdict_is t seen votes same e r found =
    let decided : decided_of t ≡ option_map (λ (vote : Vote). vote.kept) r =
    found_kept (has_majority t) t.answers votes e ∙ ap (option_map (λ (vote : Vote). vote.kept)) (sym (found ∙ ap (find (λ (vote : Vote). has_majority t vote.kept)) same)) in
    ap (λ (d : Option Config). verdict_by d (one_may_win t)) (sym decided)

or_right : (a b : Bool) → false ≡ a → b ≡ (a || b)
or_right a b e = cc

pub one_may_win_is : (t : VoteTally) (seen votes : List Vote) (n k : ℕ) (r : Bool) → seen ≡ votes → t.answers ≡ pairs votes → n ≡ t.arbitrators → k ≡ unanswered t → false ≡ is_majority n k → r ≡ list_any (λ (vote : Vote). may_win t vote.kept) seen → r ≡ one_may_win t
one_may_win_is t seen votes n k r same e n-is k-is none found =
    let some : r ≡ list_any (λ answer. may_win t answer.1) t.answers =
    found ∙ ap (list_any (λ (vote : Vote). may_win t vote.kept)) same ∙ sym (any_kept (may_win t) t.answers votes e) in
    let no : false ≡ is_majority t.arbitrators (unanswered t) =
    none ∙ ap (λ (m : ℕ). is_majority m k) n-is ∙ ap (is_majority t.arbitrators) k-is in
    some ∙ or_right (is_majority t.arbitrators (unanswered t)) (list_any (λ answer. may_win t answer.1) t.answers) no
