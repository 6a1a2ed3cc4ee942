-- A log with one more entry, of a replica that has adopted in the epoch that it promised.
use Rattle.std.proofs.Common.{◌≡◌, ℕ, ◌+◌, ◌<◌, List, [], ◌∷◌, ◌++◌, length, ◌⊎◌, refl, sym, ap, subst, inl, inr, arith, ◌≤◌, ◌∙◌, Some, ⊎_elim}
use Rattle.std.proofs.lemmas.List.{length-append}
use Rattle.fabric_lemmas.specs.Members.{IsMember}
use Rattle.epoch_machine.specs.Logs.{Entry}
use Rattle.epoch_machine.specs.Settings.{Settings}
use Rattle.epoch_machine.specs.Plans.{Role}
use Rattle.epoch_machine.specs.Messages.{Promised, Appended}
use Rattle.epoch_machine.specs.World.{World, replaced, TellsPromised, TellsAccepted}
use Rattle.epoch_machine.specs.Guards.{HasAdopted}
use Rattle.epoch_machine.specs.SoundSayings.{Reached}
use Rattle.epoch_machine.specs.SoundRoles.{SoundRole, SoundRoles}
use Rattle.epoch_machine.specs.SoundReports.{NoneOlder}
use Rattle.epoch_machine.specs.Invariant.{Invariant}
use Rattle.epoch_machine.proofs.Replaced.{put_cases}
use Rattle.epoch_machine.proofs.Reporting.{role_told}

module _ {c : Settings} {w : World} (inv : Invariant c w) where
  module _ (node : ℕ) (x : Entry) (stands : HasAdopted w node) where
    abbrev longer_log : ℕ → List Entry
    longer_log = replaced w.log node (w.log node ++ (x ∷ []))

    longer_length : length (w.log node ++ (x ∷ [])) ≡ length (w.log node) + 1
    longer_length = length-append (w.log node) (x ∷ [])

    pub longer_frozen : (r : Promised) → IsMember r w.promises → w.promised r.node ≡ r.epoch → w.joined r.node < r.epoch → longer_log r.node ≡ r.log
    longer_frozen r m h lt =
        put_cases (λ n l. r.node ≡ n → l ≡ r.log) w.log node (w.log node ++ (x ∷ []))
        (λ is. absurd (let a = ap w.promised is in let b = ap w.joined is in omega arith))
        (λ n d is. ap w.log (sym is) ∙ inv.promises.frozen r m h lt) r.node refl

    pub longer_appended : (d : Appended) → IsMember d w.appended → Reached d.epoch d.last (w.joined d.node) (longer_log d.node)
    longer_appended d m =
        put_cases (λ n l. d.node ≡ n → Reached d.epoch d.last (w.joined d.node) l) w.log node (w.log node ++ (x ∷ []))
        (λ is. ⊎_elim (λ lt. inl lt) (λ h. inr (h.0, let n = longer_length in let le = h.1 in omega arith))
        (subst (λ n. Reached d.epoch d.last (w.joined d.node) (w.log n)) is (inv.sayings.appended_now d m)))
        (λ n d' is. subst (λ n. Reached d.epoch d.last (w.joined d.node) (w.log n)) is (inv.sayings.appended_now d m)) d.node refl

    pub longer_roles : (e : ℕ) → SoundRoles w.promised w.joined longer_log w.active w.role (TellsAccepted node e ∷ w.told)
    longer_roles e =
        put_cases
        (λ n l. (r : Role) → w.role n ≡ Some r → SoundRole w.active (TellsAccepted node e ∷ w.told) n (w.promised n) (w.joined n) l r) w.log node
        (w.log node ++ (x ∷ []))
        (λ r h.
        let s = role_told (TellsAccepted node e) (λ y f k l i. cc (i)) (inv.roles node r h) in
        let n = longer_length in record {
          activated = s.activated;
          primary = s.primary;
          promised_is = s.promised_is;
          joined_is = s.joined_is;
          base = s.base;
          floor = let le = s.floor in omega arith;
          reported = s.reported;
          within = let le = s.within in omega arith;
          covers = s.covers;
        })
        (λ n d r h. role_told (TellsAccepted node e) (λ y f k l i. cc (i)) (inv.roles n r h))

    pub accepted_below : (e : ℕ) → w.joined node ≡ e → (n f : ℕ) →
        IsMember (TellsPromised n f) (TellsAccepted node e ∷ w.told) ⊎ IsMember (TellsAccepted n f) (TellsAccepted node e ∷ w.told) → f ≤ w.promised n
    accepted_below e is n f (inl (inl same)) = absurd cc
    accepted_below e is n f (inl (inr m)) = inv.reports.below n f (inl m)
    accepted_below e is n f (inr (inl same)) =
        let here : n ≡ node = cc in
        let fe : f ≡ e = cc in
        let there = ap w.promised here in omega arith
    accepted_below e is n f (inr (inr m)) = inv.reports.below n f (inr m)

    pub accepted_last : (e : ℕ) → w.joined node ≡ e → NoneOlder (TellsAccepted node e ∷ w.told)
    accepted_last e is = (λ f m. let le = inv.reports.below node f m in omega arith, inv.reports.none_older)
