-- An arbitrator answers a claim of a round, and the invariant is kept.
use Rattle.std.proofs.Common.{◌≡◌, ℕ, ◌==◌, Bool, true, false, cond, Option, Some, None, refl, sym, ap, ◌∙◌, subst, inl, inr, ⊎_elim}
use Rattle.ring_points.specs.declared.who.Who.{Who}
use Rattle.ring_points.specs.declared.who.Ruling.TheVariants.{Granted, Taken}
use Rattle.fabric_lemmas.specs.Members.{IsMember}
use Rattle.ring_machine.specs.Ends.{updated, replaced}
use Rattle.ring_machine.specs.Frames.{Frame, Ruled, Kept}
use Rattle.ring_machine.specs.World.{Settings, World}
use Rattle.ring_machine.specs.Arbitration.{kept_of, kept_after, kept_answer, claimed, Answered, IsOpen}
use Rattle.ring_machine.specs.SoundFrames.{SoundRuling, SoundFrame}
use Rattle.ring_machine.specs.Invariant.{Invariant}
use Rattle.ring_machine.proofs.Lists.{IsMember-append_cases}
use Rattle.ring_points.proofs.Whos.{same_who-false}
use Rattle.ring_machine.proofs.Whos.{updated_cases, replaced_cases}
use Rattle.ring_machine.proofs.Later.{Later, open_later}
use Rattle.ring_machine.proofs.Arbitrated.{is_answer, arbitrated_later, arbitrated_keeps}

-- who is kept of a round stays
kept_stays : (first : Bool) (o : Option Who) (x u : Who) → o ≡ Some u → kept_after first o x ≡ Some u
kept_stays first (Some z) x u h = h
kept_stays first None x u h = absurd (cc (h))

-- of the first round nobody is kept by a claim
first_kept : (o : Option Who) (x u : Who) → kept_after true o x ≡ Some u → o ≡ Some u
first_kept (Some z) x u h = h
first_kept None x u h = absurd (cc (h))

-- the answer says who is kept
answer_is : (a : ℕ) (y : Who) (round : ℕ) (o : Option Who) (f : Frame) → IsMember f (kept_answer a y round o) → (u : Who) × (o ≡ Some u) × (f ≡ Kept a y round u)
answer_is a y round None f m = absurd m
answer_is a y round (Some u) f (inl e) = (u, refl, e)
answer_is a y round (Some u) f (inr m) = absurd m

module _ {c : Settings} {w : World} (inv : Invariant c w) (a : ℕ) (x y : Who) (round : ℕ) where
  abbrev kept : Option Who
  kept = kept_after (round == 1) (kept_of w a y round) x

  abbrev after : World
  after = claimed w a x y round

  are_answers : (f : Frame) → IsMember f (kept_answer a y round kept) → is_answer f ≡ true
  are_answers f m = let k = answer_is a y round kept f m in ap is_answer k.2

  pub claimed_later : Later c w after
  claimed_later = arbitrated_later inv w.first_accuser after.first_claimer (kept_answer a y round kept) are_answers

  -- what holds of a claimer of a later round
  claimer_cases : (P : ℕ → Who → ℕ → Option Who → Type 0) → P a y round kept → ((b : ℕ) (z : Who) (r : ℕ) → P b z r (w.first_claimer b z r)) →
      (b : ℕ) (z : Who) (r : ℕ) → P b z r (after.first_claimer b z r)
  claimer_cases P here old b z r =
      replaced_cases (λ table. P b z r (table z r)) w.first_claimer a b (updated (w.first_claimer a) y (replaced (w.first_claimer a y) round kept))
      (λ ab.
      updated_cases (λ row. P b z r (row r)) (w.first_claimer a) y z (replaced (w.first_claimer a y) round kept)
      (λ yz.
      replaced_cases (P b z r) (w.first_claimer a y) round r kept
      (λ e. subst (λ (q : ℕ × Who × ℕ). P q.0 q.1 q.2 kept) (λ i. (ab i, yz i, e i)) here)
      (λ n. subst (λ (q : ℕ × Who). P b z r (w.first_claimer q.0 q.1 r)) (λ i. (sym ab i, sym yz i)) (old b z r)))
      (λ n. subst (λ (q : ℕ). P b z r (w.first_claimer q z r)) (sym ab) (old b z r)))
      (λ n. old b z r)

  -- who is kept of a round is kept still
  kept_still : (b : ℕ) (z : Who) (r : ℕ) (u : Who) → kept_of w b z r ≡ Some u → kept_of after b z r ≡ Some u
  kept_still b z r u h = go (r == 1) refl h
    where
      later_round : (b : ℕ) (z : Who) (r : ℕ) → r == 1 ≡ false → w.first_claimer b z r ≡ Some u → after.first_claimer b z r ≡ Some u
      later_round =
          claimer_cases (λ b z r o. r == 1 ≡ false → w.first_claimer b z r ≡ Some u → o ≡ Some u)
          (λ e k. kept_stays (round == 1) (kept_of w a y round) x u (subst (λ (q : Bool). cond q (w.first_accuser a y) (w.first_claimer a y round) ≡ Some u) (sym e) k))
          (λ b z r e k. k)

      go : (q : Bool) → r == 1 ≡ q → cond q (w.first_accuser b z) (w.first_claimer b z r) ≡ Some u →
          cond q (w.first_accuser b z) (after.first_claimer b z r) ≡ Some u
      go true e k = k
      go false e k = later_round b z r e k

  -- and the answer says so
  now_kept : (u : Who) → kept ≡ Some u → kept_of after a y round ≡ Some u
  now_kept u h = go (round == 1) refl h
    where
      here : after.first_claimer a y round ≡ kept
      here =
          replaced_cases (λ table. table y round ≡ kept) w.first_claimer a a (updated (w.first_claimer a) y (replaced (w.first_claimer a y) round kept))
          (λ e.
          updated_cases (λ row. row round ≡ kept) (w.first_claimer a) y y (replaced (w.first_claimer a y) round kept)
          (λ f. replaced_cases (λ o. o ≡ kept) (w.first_claimer a y) round round kept (λ g. refl) (λ n. absurd (n refl)))
          (λ n. absurd (same_who-false y y n refl)))
          (λ n. absurd (n refl))

      go : (q : Bool) → round == 1 ≡ q → kept_after q (cond q (w.first_accuser a y) (w.first_claimer a y round)) x ≡ Some u →
          cond q (w.first_accuser a y) (after.first_claimer a y round) ≡ Some u
      go true e k = first_kept (w.first_accuser a y) x u k
      go false e k = here ∙ h

  -- a claim is answered by no ruling
  before : (f : Frame) → ((v : Who) → f ≡ Kept a y round v → ⊥) → IsMember f after.sent → IsMember f w.sent
  before f n m = ⊎_elim (λ k. absurd (let i = answer_is a y round kept f k in n i.0 i.2)) (λ o. o) (IsMember-append_cases f (kept_answer a y round kept) w.sent m)

  not_ruled : (b : ℕ) (z u : Who) → Answered after.sent b z u → Answered w.sent b z u
  not_ruled b z u (inl m) = inl (before (Ruled b z u Granted) (λ v k. cc (k)) m)
  not_ruled b z u (inr m) = inr (before (Ruled b z u Taken) (λ v k. cc (k)) m)

  ruling_still : (b : ℕ) (z u v : Who) → SoundRuling w b z u v → SoundRuling after b z u v
  ruling_still b z u v h = record { kept = h.kept; no_cross = λ k. h.no_cross (not_ruled b u z k) }

  -- the round that is claimed is open
  new_frame : IsOpen c w.sent y round → (f : Frame) → IsMember f (kept_answer a y round kept) → SoundFrame c after f
  new_frame opened f m =
      let k = answer_is a y round kept f m in
      subst (SoundFrame c after) (sym k.2) (record { kept = now_kept k.0 k.1; is_open = open_later claimed_later y round opened })

  pub claimed_keeps : IsOpen c w.sent y round → Invariant c after
  claimed_keeps opened =
      arbitrated_keeps inv w.first_accuser after.first_claimer (kept_answer a y round kept) are_answers (record {
        granted = λ b u z h. ruling_still b u z u h;
        taken = λ b u z t h. ruling_still b u z t h;
        kept = λ b z r u h. record { kept = kept_still b z r u h.kept; is_open = open_later claimed_later z r h.is_open };
      })
      (new_frame opened)
