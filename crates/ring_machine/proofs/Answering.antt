-- An arbitrator answers, and the invariant is kept.
use Rattle.std.proofs.Common.{◌≡◌, ℕ, ◌==◌, Bool, true, false, cond, [], ◌∷◌, Option, Some, None, refl, sym, ap, ◌∙◌, subst, inl, inr, ⊎_elim}
use Rattle.ring_points.specs.declared.who.Who.{Who}
use Rattle.ring_points.specs.declared.who.Ruling.{Ruling}
use Rattle.ring_points.specs.declared.who.Ruling.TheVariants.{Granted, Taken, Refused}
use Rattle.ring_points.specs.Whos.{same_who}
use Rattle.fabric_lemmas.specs.Members.{IsMember}
use Rattle.ring_machine.specs.Ends.{updated}
use Rattle.ring_machine.specs.Frames.{Frame, Ruled}
use Rattle.ring_machine.specs.World.{Settings, World}
use Rattle.ring_machine.specs.Arbitration.{ruling_of, first_after, ruled, Answered, kept_of}
use Rattle.ring_machine.specs.SoundFrames.{SoundRuling, SoundFrame}
use Rattle.ring_machine.specs.Invariant.{Invariant}
use Rattle.ring_points.proofs.Whos.{same_who-true, same_who-false}
use Rattle.ring_machine.proofs.Whos.{updated_cases, replaced_cases}
use Rattle.ring_machine.proofs.Later.{Later, open_later}
use Rattle.ring_machine.proofs.Arbitrated.{is_answer, arbitrated_later, arbitrated_keeps}

-- a first accuser stays
first_stays : (accused first : Option Who) (x z : Who) → first ≡ Some z → first_after (ruling_of accused first x) first x ≡ Some z
first_stays (Some u) first x z h = h
first_stays None None x z h = absurd (cc)
first_stays None (Some u) x z h = go (same_who u x) refl
  where
    go : (b : Bool) → same_who u x ≡ b → first_after (cond b Granted Taken) (Some u) x ≡ Some z
    go true k = ap Some (sym (same_who-true u x k)) ∙ h
    go false k = h

-- who is granted is accused by nobody, and is the first accuser then
when_granted : (accused first : Option Who) (x : Who) → ruling_of accused first x ≡ Granted →
    (accused ≡ None) × (first_after (ruling_of accused first x) first x ≡ Some x)
when_granted (Some u) first x h = absurd (cc)
when_granted None None x h = (refl, refl)
when_granted None (Some u) x h = (refl, ap (λ r. first_after r (Some u) x) h)

-- who is told of another is accused by nobody
when_taken : (accused first : Option Who) (x : Who) → ruling_of accused first x ≡ Taken →
    (accused ≡ None) × ((z : Who) × (first_after (ruling_of accused first x) first x ≡ Some z))
when_taken (Some u) first x h = absurd (cc)
when_taken None None x h = absurd (cc)
when_taken None (Some u) x h = (refl, (u, ap (λ r. first_after r (Some u) x) h))

module _ {c : Settings} {w : World} (inv : Invariant c w) (a : ℕ) (x y : Who) (apart : same_who x y ≡ false) where
  abbrev ruling : Ruling
  ruling = ruling_of (w.first_accuser a x) (w.first_accuser a y) x

  abbrev answered : World
  answered = ruled w a x y

  one_answer : (f : Frame) → IsMember f (Ruled a x y ruling ∷ []) → is_answer f ≡ true
  one_answer f (inl e) = ap is_answer e
  one_answer f (inr m) = absurd m

  pub answered_world_later : Later c w answered
  answered_world_later = arbitrated_later inv answered.first_accuser w.first_claimer (Ruled a x y ruling ∷ []) one_answer

  -- each first accuser stays, at each arbitrator
  tables_stay : (b : ℕ) (z u : Who) → w.first_accuser b z ≡ Some u → answered.first_accuser b z ≡ Some u
  tables_stay b z u h =
      replaced_cases (λ table. table z ≡ Some u) w.first_accuser a b
      (updated (w.first_accuser a) y (first_after ruling (w.first_accuser a y) x))
      (λ ab. updated_cases (λ o. o ≡ Some u) (w.first_accuser a) y z (first_after ruling (w.first_accuser a y) x)
      (λ k. first_stays (w.first_accuser a x) (w.first_accuser a y) x u (ap (w.first_accuser a) k ∙ (ap (λ n. w.first_accuser n z) ab ∙ h)))
      (λ k. ap (λ n. w.first_accuser n z) ab ∙ h))
      (λ n. h)

  now_first : answered.first_accuser a y ≡ first_after ruling (w.first_accuser a y) x
  now_first =
      replaced_cases (λ table. table y ≡ first_after ruling (w.first_accuser a y) x) w.first_accuser a a
      (updated (w.first_accuser a) y (first_after ruling (w.first_accuser a y) x))
      (λ h.
      updated_cases (λ o. o ≡ first_after ruling (w.first_accuser a y) x) (w.first_accuser a) y y
      (first_after ruling (w.first_accuser a y) x) (λ k. refl) (λ k. absurd (same_who-false y y k refl)))
      (λ n. absurd (n refl))

  -- the new answer crosses none of before: its accuser is accused by nobody there
  not_crossed : (b : ℕ) (u z s : Who) → w.first_accuser b z ≡ Some s → (Answered w.sent b z u → ⊥) → Answered answered.sent b z u → ⊥
  not_crossed b u z s kept none (inl m) = ⊎_elim
      (λ (k : Ruled b z u Granted ≡ Ruled a x y ruling).
      let g : ruling ≡ Granted = cc in let free = (when_granted (w.first_accuser a x) (w.first_accuser a y) x g).0 in cc)
      (λ k. none (inl k)) m
  not_crossed b u z s kept none (inr m) = ⊎_elim
      (λ (k : Ruled b z u Taken ≡ Ruled a x y ruling).
      let g : ruling ≡ Taken = cc in let free = (when_taken (w.first_accuser a x) (w.first_accuser a y) x g).0 in cc)
      (λ k. none (inr k)) m

  -- where x is accused by nobody, no answer to y about x stands
  none_crosses : w.first_accuser a x ≡ None → Answered answered.sent a y x → ⊥
  none_crosses free (inl m) = ⊎_elim
      (λ (k : Ruled a y x Granted ≡ Ruled a x y ruling). let same : x ≡ y = cc in same_who-false x y apart same)
      (λ k. let r : SoundRuling w a y x y = inv.frames (Ruled a y x Granted) k in let kept = r.kept in cc) m
  none_crosses free (inr m) = ⊎_elim
      (λ (k : Ruled a y x Taken ≡ Ruled a x y ruling). let same : x ≡ y = cc in same_who-false x y apart same)
      (λ k. let r : (z : Who) × SoundRuling w a y x z = inv.frames (Ruled a y x Taken) k in let kept = r.1.kept in cc) m

  new_frame : (r : Ruling) → ruling ≡ r → SoundFrame c answered (Ruled a x y r)
  new_frame Granted h = let k = when_granted (w.first_accuser a x) (w.first_accuser a y) x h in record { kept = now_first ∙ k.1; no_cross = none_crosses k.0 }
  new_frame Taken h =
      let k = when_taken (w.first_accuser a x) (w.first_accuser a y) x h in
      (k.1.0, record { kept = now_first ∙ k.1.1; no_cross = none_crosses k.0 })
  new_frame Refused h = tt

  kept_still : (b : ℕ) (z : Who) (round : ℕ) (u : Who) → kept_of w b z round ≡ Some u → kept_of answered b z round ≡ Some u
  kept_still b z round u = go (round == 1)
    where
      go : (q : Bool) → cond q (w.first_accuser b z) (w.first_claimer b z round) ≡ Some u →
          cond q (answered.first_accuser b z) (w.first_claimer b z round) ≡ Some u
      go true h = tables_stay b z u h
      go false h = h

  pub answered_keeps : Invariant c answered
  answered_keeps =
      arbitrated_keeps inv answered.first_accuser w.first_claimer (Ruled a x y ruling ∷ []) one_answer (record {
        granted = λ b u z h. record { kept = tables_stay b z u h.kept; no_cross = not_crossed b u z u h.kept h.no_cross };
        taken = λ b u z t h. record { kept = tables_stay b z t h.kept; no_cross = not_crossed b u z t h.kept h.no_cross };
        kept = λ b z round u h. record { kept = kept_still b z round u h.kept; is_open = open_later answered_world_later z round h.is_open };
      })
      (λ f m. ⊎_elim (λ e. subst (SoundFrame c answered) (sym e) (new_frame ruling refl)) (λ n. absurd n) m)
