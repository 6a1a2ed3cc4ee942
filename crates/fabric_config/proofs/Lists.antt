-- Reading a list entry by entry: the entries so far, and what the rest of the list gives.
use Rattle.std.proofs.Common.{◌≡◌, ℕ, ◌+◌, ◌<◌, List, [], ◌∷◌, ◌++◌, length, map, drop, get_or, Result, Ok, Err, refl, ap, sym, ◌∙◌, append_assoc}
use Rattle.std.proofs.lemmas.List.{append-nil, drop_more}
use Rattle.serde_json.specs.View.{view}
use Rattle.serde_json.specs.declared.value.Value.{Value}
use Rattle.fabric_terms.specs.declared.config.NodeEntry.{NodeEntry}
use Rattle.fabric_config.specs.declared.error.ConfigError.{ConfigError}
use Rattle.fabric_config.specs.Checks.{◌>>=◌}
use Rattle.fabric_config.specs.Nodes as nodes
use Rattle.fabric_config.specs.Arbiters as arbiters

-- the entries so far, and behind them those of the rest
abbrev pub after : {A : Type 0} → List A → Result (List A) ConfigError → Result (List A) ConfigError
after done rest = rest >>= λ xs. Ok (done ++ xs)

pub after_more : {A : Type 0} (done : List A) (x : A) (rest : Result (List A) ConfigError)
    → after done (rest >>= λ xs. Ok (x ∷ xs)) ≡ after (done ++ x ∷ []) rest
after_more done x (Ok xs) = ap Ok (sym (append_assoc done (x ∷ []) xs))
after_more done x (Err e) = refl

pub after_none : {A : Type 0} (done : List A) → after done (Ok []) ≡ Ok done
after_none done = ap Ok (append-nil done)

pub nothing_before : {A : Type 0} (rest : Result (List A) ConfigError) → after [] rest ≡ rest
nothing_before (Ok xs) = refl
nothing_before (Err e) = refl

-- what is left at i begins with the item there
pub front_of : {X : Type 0} (xs : List X) (i : ℕ) (x : X)
    → i < length xs → x ≡ get_or xs i x → drop i xs ≡ x ∷ drop (i + 1) xs
front_of xs i x within is = drop_more xs i x within ∙ ap (λ y. y ∷ drop (i + 1) xs) (sym is)

pub node_more : (lease : ℕ) (values : List Value) (i : ℕ) (value : Value) (done : List NodeEntry) (node : NodeEntry)
    → i < length values → value ≡ get_or values i value → nodes.node_of lease (view value) ≡ Ok node
    → after done (nodes.entries_of lease (map view (drop i values)))
    ≡ after (done ++ node ∷ []) (nodes.entries_of lease (map view (drop (i + 1) values)))
node_more lease values i value done node within is read =
    rw (front_of values i value within is, read)
    (after_more done node (nodes.entries_of lease (map view (drop (i + 1) values))))

pub node_refused : (lease : ℕ) (values : List Value) (i : ℕ) (value : Value) (done : List NodeEntry) (e : ConfigError)
    → i < length values → value ≡ get_or values i value → nodes.node_of lease (view value) ≡ Err e
    → after done (nodes.entries_of lease (map view (drop i values))) ≡ Err e
node_refused lease values i value done e within is read =
    rw (front_of values i value within is, read) refl

pub arbiter_more : (place : ℕ) (values : List Value) (i : ℕ) (value : Value) (done : List (ℕ × List ℕ)) (arbiter : ℕ × List ℕ)
    → i < length values → value ≡ get_or values i value → arbiters.arbiter_of place (view value) ≡ Ok arbiter
    → after done (arbiters.entries_of place (map view (drop i values)))
    ≡ after (done ++ arbiter ∷ []) (arbiters.entries_of (place + 1) (map view (drop (i + 1) values)))
arbiter_more place values i value done arbiter within is read =
    rw (front_of values i value within is, read)
    (after_more done arbiter (arbiters.entries_of (place + 1) (map view (drop (i + 1) values))))

pub arbiter_refused : (place : ℕ) (values : List Value) (i : ℕ) (value : Value) (done : List (ℕ × List ℕ)) (e : ConfigError)
    → i < length values → value ≡ get_or values i value → arbiters.arbiter_of place (view value) ≡ Err e
    → after done (arbiters.entries_of place (map view (drop i values))) ≡ Err e
arbiter_refused place values i value done e within is read =
    rw (front_of values i value within is, read) refl

pub ruleset nodes_in_turn = (node_more, node_refused, after_none, nothing_before)

pub ruleset arbiters_in_turn = (arbiter_more, arbiter_refused, after_none, nothing_before)
