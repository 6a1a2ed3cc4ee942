-- What links over links tell, after what the links below were asked.
use Rattle.std.proofs.Common.{◌≡◌, ◌≤◌, ℕ, List, [], ◌∷◌, ◌++◌, length, map, take, drop, Option, Some, None, option_map, Result, Ok, Err, arith, refl, ap, sym, subst, ◌∙◌}
use Rattle.std.proofs.lemmas.List.{map-append, drop-map}
use Rattle.edge_io.specs.Arrivals.{Hands, Receives, next_arrival}
use Rattle.edge_io.specs.Edge.{Grew}
use Rattle.edge_io.specs.declared.datagram.Datagram.{Datagram}
use Rattle.edge_io.specs.declared.refusal.EdgeRefusal.{EdgeRefusal}
use Rattle.std.specs.Result.{OnOk}
use Rattle.frame_seal.specs.LinksOver.{taken, taken_all, unsealed, unsealed_all}
use Rattle.frame_seal.specs.Seals.{Key, behind_seal, opened, receiver_of, sealed, sender_of}
use Rattle.frame_seal.proofs.Opening.{opened_sealed, sealed_opens}
use Rattle.frame_seal.proofs.Sealed.{behind, length-sealed}

-- a frame is not longer than the datagram that it was opened of
pub opened_within : (key : Key) (actor : ℕ) (bytes frame : List ℕ) → opened key actor bytes ≡ Some frame → length frame ≤ length bytes
opened_within key actor bytes frame e = omega (arith, ap length (opened_sealed key actor bytes frame e), length-sealed key (sender_of frame) actor frame)

-- what is sealed for the receiver that it names is taken whole
sealed_taken : (key : Key) (frame : List ℕ) → taken key (receiver_of (behind_seal (sealed key (sender_of frame) (receiver_of frame) frame))) (sealed key (sender_of frame) (receiver_of frame) frame) ≡ frame
unfolding taken
sealed_taken key frame =
    let to : ℕ = receiver_of frame in
    rw (behind key (sender_of frame) to frame, sealed_opens key to frame) refl

pub sent_over : (key : Key) (old new : Option (List Datagram)) (from : ℕ) (to bytes : List ℕ) →
    Grew old new (record { from = from; to = to; bytes = sealed key (sender_of bytes) (receiver_of bytes) bytes } ∷ []) →
    Grew (option_map (unsealed_all key) old) (option_map (unsealed_all key) new) (record { from = from; to = to; bytes = bytes } ∷ [])
unfolding unsealed unsealed_all
sent_over key None new from to bytes grew held told = cc
sent_over key (Some sent) new from to bytes grew held told =
    let more : List Datagram = record { from = from; to = to; bytes = sealed key (sender_of bytes) (receiver_of bytes) bytes } ∷ [] in
    let here : map (unsealed key) sent ≡ held = cc in
    let last : map (unsealed key) more ≡ record { from = from; to = to; bytes = bytes } ∷ [] = rw (sealed_taken key bytes) refl in
    ap (option_map (map (unsealed key))) (grew sent refl) ∙ ap (λ (l : List Datagram). Some l) (map-append (unsealed key) sent more ∙ ap (λ (l : List Datagram). l ++ map (unsealed key) more) here ∙ ap (λ (l : List Datagram). held ++ l) last)

-- what an actor takes of what is next
abbrev pub taken_next : Key → ℕ → Option (List ℕ) → Option (List ℕ)
taken_next key actor next = option_map (taken key actor) next

next_over : (key : Key) (actor : ℕ) (arrivals : List (Option (List ℕ))) → next_arrival (taken_all key actor arrivals) ≡ taken_next key actor (next_arrival arrivals)
unfolding taken_all
next_over key actor [] = refl
next_over key actor (first ∷ rest) = refl

rest_over : (key : Key) (actor : ℕ) (arrivals : List (Option (List ℕ))) → drop 1 (taken_all key actor arrivals) ≡ taken_all key actor (drop 1 arrivals)
unfolding taken_all
rest_over key actor arrivals = drop-map (option_map (taken key actor)) 1 arrivals

-- what was handed over by the links below, and what is handed over of it
abbrev HandsOver : Key → ℕ → Option ℕ → List ℕ → Option ℕ → List ℕ → Type 0
HandsOver key actor below from answer into = (next : Option (List ℕ)) → Hands next below from → Hands (taken_next key actor next) answer into

received_over : (key : Key) (actor : ℕ) (old new : Option (List (Option (List ℕ)))) (below answer : Option ℕ) (from into : List ℕ) →
    HandsOver key actor below from answer into → Receives old below from new →
    Receives (option_map (taken_all key actor) old) answer into (option_map (taken_all key actor) new)
received_over key actor None new below answer from into over received arrivals told = cc
received_over key actor (Some all) new below answer from into over received arrivals told =
    let here : taken_all key actor all ≡ arrivals = cc in
    let took : Hands (next_arrival all) below from × (new ≡ Some (drop 1 all)) = received all refl in
    let next : taken_next key actor (next_arrival all) ≡ next_arrival arrivals = sym (next_over key actor all) ∙ ap next_arrival here in
    let P : Option (List ℕ) → Type 0 = λ next. Hands next answer into in (
      subst P next (over (next_arrival all) took.0),
      ap (option_map (taken_all key actor)) took.1 ∙ ap (λ (l : List (Option (List ℕ))). Some l) (sym (rest_over key actor all) ∙ ap (drop 1) here),
    )

none_over : (key : Key) (actor : ℕ) (from into : List ℕ) → HandsOver key actor None from None into
none_over key actor from into None hands = refl
none_over key actor from into (Some bytes) hands = cc (hands.0)

some_over : (key : Key) (actor count result : ℕ) (from into : List ℕ) → result ≡ length (taken key actor (take count from)) →
    take result into ≡ taken key actor (take count from) → HandsOver key actor (Some count) from (Some result) into
some_over key actor count result from into long is None hands = cc hands
some_over key actor count result from into long is (Some bytes) hands =
    let many : count ≡ length bytes = cc (hands.0) in
    let same : take count from ≡ bytes = ap (λ n. take n from) many ∙ hands.1 in
    let long' : result ≡ length (taken key actor bytes) = long ∙ ap (λ (l : List ℕ). length (taken key actor l)) same in
    (ap (λ n. Some n) long', ap (λ n. take n into) (sym long') ∙ is ∙ ap (taken key actor) same)

pub none_received : (key : Key) (actor : ℕ) (old new : Option (List (Option (List ℕ)))) (from into : List ℕ) →
    Receives old None from new → Receives (option_map (taken_all key actor) old) None into (option_map (taken_all key actor) new)
none_received key actor old new from into received = received_over key actor old new None None from into (none_over key actor from into) received

pub some_received : (key : Key) (actor : ℕ) (old new : Option (List (Option (List ℕ)))) (count result : ℕ) (from into : List ℕ) →
    result ≡ length (taken key actor (take count from)) → take result into ≡ taken key actor (take count from) →
    Receives old (Some count) from new → Receives (option_map (taken_all key actor) old) (Some result) into (option_map (taken_all key actor) new)
some_received key actor old new count result from into long is received = received_over key actor old new (Some count) (Some result) from into (some_over key actor count result from into long is) received

-- where the links below were given the datagram sealed, the links above have sent it
pub sent_where_ok : (key : Key) (old new : Option (List Datagram)) (from : ℕ) (to bytes datagram : List ℕ) (result : Result (Unit {0}) EdgeRefusal) →
    datagram ≡ sealed key (sender_of bytes) (receiver_of bytes) bytes →
    OnOk result (Grew old new (record { from = from; to = to; bytes = datagram } ∷ [])) →
    OnOk result (Grew (option_map (unsealed_all key) old) (option_map (unsealed_all key) new) (record { from = from; to = to; bytes = bytes } ∷ []))
sent_where_ok key old new from to bytes datagram (Ok done) is grew =
    let P : List ℕ → Type 0 = λ d. Grew old new (record { from = from; to = to; bytes = d } ∷ []) in
    sent_over key old new from to bytes (subst P is grew)
sent_where_ok key old new from to bytes datagram (Err error) is grew = tt
