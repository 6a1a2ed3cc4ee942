-- No two heirs of one instance, whatever the rounds, and no answers of majorities that cross.
use Rattle.std.proofs.Common.{◌≡◌, ℕ, ◌<◌, true, List, Option, None, Some, refl, sym, ◌∙◌, subst, inl, inr, ⊎_elim, arith}
use Rattle.std.proofs.lemmas.Bool.{both_ways, cases_order}
use Rattle.ring_points.specs.declared.who.Who.{Who}
use Rattle.ring_points.specs.declared.who.Ruling.TheVariants.{Granted, Taken}
use Rattle.ring_points.specs.Whos.{same_who}
use Rattle.ring_machine.specs.Frames.{Frame, Ruled, Kept}
use Rattle.ring_machine.specs.World.{Settings, World}
use Rattle.ring_machine.specs.Arbitration.{Answered, AnsweredBy, Tells, by_kept, by_grant, KeptIn, HeirBy, may_keep, IsSplit, IsOpen, kept_of}
use Rattle.ring_machine.specs.SoundFrames.{SoundRuling, SoundKept}
use Rattle.ring_machine.specs.Invariant.{Invariant}
use Rattle.ring_points.proofs.Whos.{same_who-refl}
use Rattle.ring_machine.proofs.Majorities.{majorities_meet, majority_more}

-- the first round may always be claimed
pub first_open : (c : Settings) (sent : List Frame) (y : Who) → IsOpen c sent y 1
first_open c sent y = record { counted = omega arith; before = λ r pos lt. absurd (omega arith) }

module _ {c : Settings} {w : World} (inv : Invariant c w) where
  -- whom an arbitrator told, it keeps
  pub told_kept : (a : ℕ) (y : Who) (round : ℕ) (x : Who) → Tells w.sent a y round x → kept_of w a y round ≡ Some x
  told_kept a y round x (by_kept m) = let k : SoundKept c w a y round x = inv.frames (Kept a y round x) m in k.kept
  told_kept a y round x (by_grant one m) =
      let r : SoundRuling w a x y x = inv.frames (Ruled a x y Granted) m in
      subst (λ n. kept_of w a y n ≡ Some x) (sym one) r.kept

  -- and the round may be claimed
  told_open : (a : ℕ) (y : Who) (round : ℕ) (x : Who) → Tells w.sent a y round x → IsOpen c w.sent y round
  told_open a y round x (by_kept m) = let k : SoundKept c w a y round x = inv.frames (Kept a y round x) m in k.is_open
  told_open a y round x (by_grant one m) = subst (λ n. IsOpen c w.sent y n) (sym one) (first_open c w.sent y)

  -- in a round that is split nobody has a majority
  none_kept : (y : Who) (round : ℕ) (x : Who) → KeptIn c w.sent y round x → IsSplit c w.sent y round → ⊥
  none_kept y round x k s =
      both_ways _ (s.none x) (majority_more c k.by (λ a. may_keep x (s.told a)) (λ a h. may a (k.tells a h) (s.told a) refl) k.most)
    where
      may : (a : ℕ) → Tells w.sent a y round x → (o : Option Who) → s.told a ≡ o → may_keep x o ≡ true
      may a t None e = refl
      may a t (Some z) e =
          let kept = told_kept a y round x t in
          let other = told_kept a y round z (s.tells a z e) in
          let same : Some z ≡ Some x = sym other ∙ kept in
          let alike : z ≡ x = cc in
          subst (λ u. same_who u x ≡ true) (sym alike) (same_who-refl x)

  -- a round with a majority is before no round with one
  never_before : (z : Who) (r s : ℕ) (x y : Who) → KeptIn c w.sent z r x → KeptIn c w.sent z s y → r < s → ⊥
  never_before z r s x y g h lt =
      let one = majorities_meet c h.by h.by h.most h.most in
      let other = majorities_meet c g.by g.by g.most g.most in
      let opened = told_open one.0 z s y (h.tells one.0 one.1) in
      let counted = (told_open other.0 z r x (g.tells other.0 other.1)).counted in
      none_kept z r x g (opened.before r counted lt)

  -- of one round
  one_kept : (z : Who) (round : ℕ) (x y : Who) → KeptIn c w.sent z round x → KeptIn c w.sent z round y → x ≡ y
  one_kept z round x y g h =
      let both = majorities_meet c g.by h.by g.most h.most in
      let mine = told_kept both.0 z round x (g.tells both.0 both.1) in
      let other = told_kept both.0 z round y (h.tells both.0 both.2) in
      let same : Some x ≡ Some y = sym mine ∙ other in
      cc

  pub one_heir : (x y z : Who) → HeirBy c w.sent x z → HeirBy c w.sent y z → x ≡ y
  one_heir x y z g h = ⊎_elim (λ (same : g.round ≡ h.round). one_kept z h.round x y (subst (λ n. KeptIn c w.sent z n x) same g.kept) h.kept)
      (λ o. ⊎_elim (λ lt. absurd (never_before z g.round h.round x y g.kept h.kept lt)) (λ lt. absurd (never_before z h.round g.round y x h.kept g.kept lt)) o)
      (cases_order g.round h.round)

  answers_apart : (a : ℕ) (x y : Who) → Answered w.sent a x y → Answered w.sent a y x → ⊥
  answers_apart a x y (inl m) k = let r : SoundRuling w a x y x = inv.frames (Ruled a x y Granted) m in r.no_cross k
  answers_apart a x y (inr m) k = let r : (z : Who) × SoundRuling w a x y z = inv.frames (Ruled a x y Taken) m in r.1.no_cross k

  pub no_crossing : (x y : Who) → AnsweredBy c w.sent x y → AnsweredBy c w.sent y x → ⊥
  no_crossing x y g h =
      let both = majorities_meet c g.by h.by g.most h.most in
      answers_apart both.0 x y (g.answers both.0 both.1) (h.answers both.0 both.2)
