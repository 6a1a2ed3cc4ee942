-- What arrives over links of one length.
use Rattle.std.proofs.Common.{◌≡◌, ℕ, true, false, List, [], ◌∷◌, length, take, drop, Option, Some, None, option_map, refl, ap, sym, subst, ◌∙◌}
use Rattle.std.proofs.lemmas.List.{drop-map}
use Rattle.edge_io.specs.Arrivals.{Hands, Receives, next_arrival}
use Rattle.frame_hold.specs.OneLength.{heard, heard_all, names_length}

next_over : (arrivals : List (Option (List ℕ))) → next_arrival (heard_all arrivals) ≡ option_map heard (next_arrival arrivals)
unfolding heard_all
next_over [] = refl
next_over (first ∷ rest) = refl

rest_over : (arrivals : List (Option (List ℕ))) → drop 1 (heard_all arrivals) ≡ heard_all (drop 1 arrivals)
unfolding heard_all
rest_over arrivals = drop-map (option_map heard) 1 arrivals

-- what was handed over by the links below, and what is handed over of it
abbrev HandsOver : Option ℕ → Option ℕ → List ℕ → Type 0
HandsOver below answer into = (next : Option (List ℕ)) → Hands next below into → Hands (option_map heard next) answer into

received_over : (old new : Option (List (Option (List ℕ)))) (below answer : Option ℕ) (into : List ℕ) →
    HandsOver below answer into → Receives old below into new → Receives (option_map heard_all old) answer into (option_map heard_all new)
received_over None new below answer into over received arrivals told = cc
received_over (Some all) new below answer into over received arrivals told =
    let here : heard_all all ≡ arrivals = cc in
    let took : Hands (next_arrival all) below into × (new ≡ Some (drop 1 all)) = received all refl in
    let next : option_map heard (next_arrival all) ≡ next_arrival arrivals = sym (next_over all) ∙ ap next_arrival here in
    let P : Option (List ℕ) → Type 0 = λ next. Hands next answer into in (
      subst P next (over (next_arrival all) took.0),
      ap (option_map heard_all) took.1 ∙ ap (λ (l : List (Option (List ℕ))). Some l) (sym (rest_over all) ∙ ap (drop 1) here),
    )

none_over : (into : List ℕ) → HandsOver None None into
none_over into None hands = refl
none_over into (Some bytes) hands = cc (hands.0)

-- a greeting with a length is handed over as an empty datagram
length_over : (count : ℕ) (into : List ℕ) → names_length (take count into) ≡ true → HandsOver (Some count) (Some 0) into
unfolding heard
length_over count into names None hands = cc hands
length_over count into names (Some bytes) hands =
    let many : count ≡ length bytes = cc (hands.0) in
    let same : take count into ≡ bytes = ap (λ n. take n into) many ∙ hands.1 in
    let here : names_length bytes ≡ true = sym (ap names_length same) ∙ names in
    let empty : heard bytes ≡ [] = rw here refl in
    (ap (λ (l : List ℕ). Some (length l)) (sym empty), ap (λ (l : List ℕ). take (length l) into) empty ∙ sym empty)

-- another datagram is handed over as it is
other_over : (count : ℕ) (into : List ℕ) → names_length (take count into) ≡ false → HandsOver (Some count) (Some count) into
unfolding heard
other_over count into names None hands = cc hands
other_over count into names (Some bytes) hands =
    let many : count ≡ length bytes = cc (hands.0) in
    let same : take count into ≡ bytes = ap (λ n. take n into) many ∙ hands.1 in
    let here : names_length bytes ≡ false = sym (ap names_length same) ∙ names in
    let whole : heard bytes ≡ bytes = rw here refl in
    (hands.0 ∙ ap (λ (l : List ℕ). Some (length l)) (sym whole), ap (λ (l : List ℕ). take (length l) into) whole ∙ hands.1 ∙ sym whole)

pub none_received : (old new : Option (List (Option (List ℕ)))) (into : List ℕ) → Receives old None into new → Receives (option_map heard_all old) None into (option_map heard_all new)
none_received old new into received = received_over old new None None into (none_over into) received

pub length_received : (old new : Option (List (Option (List ℕ)))) (count : ℕ) (into : List ℕ) → names_length (take count into) ≡ true → Receives old (Some count) into new →
    Receives (option_map heard_all old) (Some 0) into (option_map heard_all new)
length_received old new count into names received = received_over old new (Some count) (Some 0) into (length_over count into names) received

pub other_received : (old new : Option (List (Option (List ℕ)))) (count : ℕ) (into : List ℕ) → names_length (take count into) ≡ false → Receives old (Some count) into new →
    Receives (option_map heard_all old) (Some count) into (option_map heard_all new)
other_received old new count into names received = received_over old new (Some count) (Some count) into (other_over count into names) received
