-- The promised epoch only rises, and the log of an epoch only grows.
use Rattle.std.proofs.Common.{◌≡◌, ◌⊎◌, inl, inr, true, false, List, [], ◌∷◌, ◌++◌, append_assoc, refl, sym, ◌∙◌, ap, subst}
use Rattle.std.proofs.lemmas.List.{append-nil}
use Rattle.ring_points.specs.declared.unit.Epoch.{Epoch}
use Rattle.ring_points.specs.Epochs.{is_older}
use Rattle.replica_core.specs.declared.entry.Entry.{Entry}
use Rattle.replica_core.specs.Replicas.{Replica}
use Rattle.replica_core.specs.Histories.{Call, after, after_all}
use Rattle.replica_core.specs.Laws.{IsNotAhead, NeverFalling, StayingBehind, OnlyGrowing}
use Rattle.replica_core.proofs.Orders.{not_itself, none_falls, is_above, older_than_older}
use Rattle.replica_core.proofs.Ways.{ways}

not_fallen : (call : Call) (s : Replica) → is_older (after call s).promised s.promised ≡ false
not_fallen call s =
    let P : Epoch → Epoch → List Entry → Type 0 = λ promised at log. is_older promised s.promised ≡ false in
    ways P s (record {
      stays = not_itself s.promised;
      raises = λ e ok. ok;
      writes = λ entry. not_itself s.promised;
      adopts = λ e log ok other. ok;
    }) call

pub never_falling : NeverFalling
never_falling [] s = not_itself s.promised
never_falling (call ∷ calls) s = none_falls s.promised (after call s).promised (after_all calls (after call s)).promised (not_fallen call s) (never_falling calls (after call s))

behind : (call : Call) (s : Replica) → IsNotAhead s → IsNotAhead (after call s)
behind call s ok =
    let P : Epoch → Epoch → List Entry → Type 0 = λ promised at log. is_older promised at ≡ false in
    ways P s (record {
      stays = ok;
      raises = λ e above. none_falls s.at s.promised e ok above;
      writes = λ entry. ok;
      adopts = λ e log above other. not_itself e;
    }) call

pub staying_behind : StayingBehind
staying_behind [] s ok = ok
staying_behind (call ∷ calls) s ok = staying_behind calls (after call s) (behind call s ok)

-- the log has grown, or is of a greater epoch
Grown : Epoch → List Entry → Epoch → List Entry → Type 0
Grown at log at' log' = ((at' ≡ at) × ((more : List Entry) × (log' ≡ log ++ more))) ⊎ (is_older at at' ≡ true)

grown : (call : Call) (s : Replica) → IsNotAhead s → Grown s.at s.log (after call s).at (after call s).log
unfolding Grown
grown call s ok =
    let P : Epoch → Epoch → List Entry → Type 0 = λ promised at log. Grown s.at s.log at log in
    ways P s (record {
      stays = inl (refl, ([], sym (append-nil s.log)));
      raises = λ e above. inl (refl, ([], sym (append-nil s.log)));
      writes = λ entry. inl (refl, (entry ∷ [], refl));
      adopts = λ e log above other. inr (is_above s.at s.promised e ok above other);
    }) call

further : (at at' at'' : Epoch) (log log' log'' : List Entry) → Grown at log at' log' → Grown at' log' at'' log'' → Grown at log at'' log''
unfolding Grown
further at at' at'' log log' log'' (inl (same, more)) (inl (same', more')) =
    inl (same' ∙ same, (more.0 ++ more'.0, more'.1 ∙ ap (λ l. l ++ more'.0) more.1 ∙ append_assoc log more.0 more'.0))
further at at' at'' log log' log'' (inl (same, more)) (inr above) = let P : Epoch → Type 0 = λ e. is_older e at'' ≡ true in inr (subst P same above)
further at at' at'' log log' log'' (inr above) (inl (same', more')) = let P : Epoch → Type 0 = λ e. is_older at e ≡ true in inr (subst P (sym same') above)
further at at' at'' log log' log'' (inr above) (inr above') = inr (older_than_older at at' at'' above above')

all_grown : (calls : List Call) (s : Replica) → IsNotAhead s → Grown s.at s.log (after_all calls s).at (after_all calls s).log
unfolding Grown
all_grown [] s ok = inl (refl, ([], sym (append-nil s.log)))
all_grown (call ∷ calls) s ok =
    further s.at (after call s).at (after_all calls (after call s)).at s.log (after call s).log (after_all calls (after call s)).log
    (grown call s ok) (all_grown calls (after call s) (behind call s ok))

pub only_growing : OnlyGrowing
unfolding Grown
only_growing calls s ok same = by (all_grown calls s ok)
  where
    by : Grown s.at s.log (after_all calls s).at (after_all calls s).log → (more : List Entry) × ((after_all calls s).log ≡ s.log ++ more)
    by (inl (_, more)) = more
    by (inr above) =
        let P : Epoch → Type 0 = λ e. is_older s.at e ≡ true in
        let own : is_older s.at s.at ≡ true = subst P same above in
        let not_own : is_older s.at s.at ≡ false = not_itself s.at in
        absurd (cc)
