-- What a step sends: what the ring sends is no frame of a partition, and what deeds send is shown.
use Rattle.std.proofs.Common.{◌≡◌, Bool, true, false, cond, ◌||◌, List, [], ◌∷◌, ◌++◌, refl, sym, ap, ◌∙◌, subst, ◌⊎◌, inl, inr, ⊎_elim, ℕ}
use Rattle.std.specs.List.{list_any}
use Rattle.fabric_lemmas.specs.Members.{IsMember}
use Rattle.fabric_terms.specs.declared.message.Body.{Body}
use Rattle.fabric_terms.specs.declared.message.Body.TheVariants as body
use Rattle.ring_points.specs.declared.who.Who.{Who}
use Rattle.epoch_machine.specs.World.{World}
use Rattle.unit_rules.specs.Deeds.{Deed, Keep, Send, Tell, frames_of}
use Rattle.world_rules.specs.Above.{is_ring_frame}
use Rattle.epoch_refinement.specs.Nodes.{Machines, AllSent}
use Rattle.epoch_refinement.specs.Shown.{partition_of, Shown}
use Rattle.run_facts.specs.RingApart.{is_unit_frame}

pub append_cases : {X : Type 0} (x : X) (xs ys : List X) → IsMember x (xs ++ ys) → IsMember x xs ⊎ IsMember x ys
append_cases x [] ys m = inr m
append_cases x (z ∷ xs) ys (inl e) = inl (inl e)
append_cases x (z ∷ xs) ys (inr m) = ⊎_elim (λ a. inl (inr a)) (λ b. inr b) (append_cases x xs ys m)

-- a member does not pass a test that none passes
pub none_passes : {X : Type 0} (test : X → Bool) (xs : List X) (x : X) → list_any test xs ≡ false → IsMember x xs → test x ≡ false
none_passes test [] x h m = absurd m
none_passes test (y ∷ ys) x h m = go (test y) refl (list_any test ys) refl h m (λ f n. none_passes test ys x f n)
  where
    go : (b : Bool) → test y ≡ b → (d : Bool) → list_any test ys ≡ d → (b || d) ≡ false → (x ≡ y) ⊎ IsMember x ys →
        (list_any test ys ≡ false → IsMember x ys → test x ≡ false) → test x ≡ false
    go true e d f g n again = absurd (cc (g))
    go false e true f g n again = absurd (cc (g))
    go false e false f g (inl n) again = ap test n ∙ e
    go false e false f g (inr n) again = again f n

-- a frame of no partition shows nothing
pub shown_apart : (w : World) (p : ℕ) (from to : Who) (b : Body) → is_unit_frame b ≡ false → Shown w p from to b
shown_apart w p from to (body.Prepare q e) h = absurd (cc (h))
shown_apart w p from to (body.Prepared q e old) h = absurd (cc (h))
shown_apart w p from to (body.NoPrepare q e kept) h = absurd (cc (h))
shown_apart w p from to (body.Vote config) h = absurd (cc (h))
shown_apart w p from to (body.Voted q e first) h = absurd (cc (h))
shown_apart w p from to (body.NoVote q e kept) h = absurd (cc (h))
shown_apart w p from to (body.DoneAsk config) h = absurd (cc (h))
shown_apart w p from to (body.DoneKept q e) h = absurd (cc (h))
shown_apart w p from to (body.NoDone q e kept) h = absurd (cc (h))
shown_apart w p from to (body.Promise q e) h = absurd (cc (h))
shown_apart w p from to (body.Promised q e at last) h = absurd (cc (h))
shown_apart w p from to (body.Sync q e origin last) h = absurd (cc (h))
shown_apart w p from to (body.Fetch q e lsn) h = absurd (cc (h))
shown_apart w p from to (body.Piece q e lsn entry_epoch text) h = absurd (cc (h))
shown_apart w p from to (body.Adopted q e last) h = absurd (cc (h))
shown_apart w p from to (body.Activate config) h = absurd (cc (h))
shown_apart w p from to (body.Activated q e) h = absurd (cc (h))
shown_apart w p from to (body.Append q e lsn text) h = absurd (cc (h))
shown_apart w p from to (body.Appended q e last) h = absurd (cc (h))
shown_apart w p from to (body.Older q e kept) h = absurd (cc (h))
shown_apart w p from to b h = tt

-- each frame that deeds send
pub frames_shown : (m : Machines) (from : Who) (ds : List Deed) (z : Who × Body) → AllSent m from ds → IsMember z (frames_of ds) →
    Shown (m (partition_of z.1)) (partition_of z.1) from z.0 z.1
frames_shown m from [] z a k = absurd k
frames_shown m from (Keep r ∷ ds) z a k = frames_shown m from ds z a k
frames_shown m from (Tell r ∷ ds) z a k = frames_shown m from ds z a k
frames_shown m from (Send to b ∷ ds) z a k = go (is_ring_frame b) k (λ n. frames_shown m from ds z a.1 n)
  where
    go : (t : Bool) → IsMember z (cond t (frames_of ds) ((to, b) ∷ frames_of ds)) →
        (IsMember z (frames_of ds) → Shown (m (partition_of z.1)) (partition_of z.1) from z.0 z.1) →
        Shown (m (partition_of z.1)) (partition_of z.1) from z.0 z.1
    go true n again = again n
    go false (inl e) again = subst (λ (z : Who × Body). Shown (m (partition_of z.1)) (partition_of z.1) from z.0 z.1) (sym e) a.0
    go false (inr n) again = again n
