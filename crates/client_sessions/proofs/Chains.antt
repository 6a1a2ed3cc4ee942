-- What is said one after another.
use Rattle.std.proofs.Common.{ℕ, ◌+◌, ◌<◌, List, [], ◌∷◌, ◌++◌, ap, get_or, length, map, refl, subst, sym, take, ◌∙◌}
use Rattle.std.proofs.lemmas.List.{append-nil, map_more, take_more}
use Rattle.std.proofs.lemmas.List.Concat.{flat_map-append}
use Rattle.std.specs.Prelude.{flat_map}
use Rattle.door_io.specs.Clients.{ClientsTold}
use Rattle.client_sessions.specs.Utterances.{InTurn, Uttered, Utterance, Utters}

-- nothing was said
pub uttered_none : (a : ClientsTold) → Uttered [] a a
uttered_none a = record { in_turn = refl }

-- one thing was said
pub uttered_one : (u : Utterance) (a b : ClientsTold) → Utters u a b → Uttered (u ∷ []) a b
uttered_one u a b says = record { in_turn = (b, (says, refl)) }

in_turn_on : (us vs : List Utterance) (a m b : ClientsTold) → InTurn us a m → InTurn vs m b → InTurn (us ++ vs) a b
in_turn_on [] vs a m b first second = rw first second
in_turn_on (u ∷ us) vs a m b first second = (first.0, (first.1.0, in_turn_on us vs first.0 m b first.1.1 second))

-- and then more
pub uttered_on : {us vs : List Utterance} {a m b : ClientsTold} → Uttered us a m → Uttered vs m b → Uttered (us ++ vs) a b
uttered_on {us} {vs} {a} {m} {b} first second = record { in_turn = in_turn_on us vs a m b first.in_turn second.in_turn }

-- One item more of a list: what is said of the items before it, and then of this one.

pub each_more : {X : Type 0} (f : X → List Utterance) (xs : List X) (i : ℕ) (d : X) (a m b : ClientsTold) → i < length xs → Uttered (flat_map f (take i xs)) a m → Uttered (f (get_or xs i d)) m b → Uttered (flat_map f (take (i + 1) xs)) a b
each_more f xs i d a m b within before here =
    subst (λ us. Uttered us a b) (sym (ap (flat_map f) (take_more xs i d within) ∙ flat_map-append f (take i xs) (get_or xs i d ∷ []) ∙ ap (λ us. flat_map f (take i xs) ++ us) (append-nil (f (get_or xs i d))))) (uttered_on before here)

pub one_each_more : {X : Type 0} (f : X → Utterance) (xs : List X) (i : ℕ) (d : X) (a m b : ClientsTold) → i < length xs → Uttered (map f (take i xs)) a m → Uttered (f (get_or xs i d) ∷ []) m b → Uttered (map f (take (i + 1) xs)) a b
one_each_more f xs i d a m b within before here =
    subst (λ us. Uttered us a b) (sym (map_more f xs i d within)) (uttered_on before here)
