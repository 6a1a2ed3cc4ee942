-- A run that differs from a safe one by lines, and by moments at which nothing is told, is safe too.
use Rattle.std.proofs.Common.{arith, ◌≡◌, ◌≤◌, ℕ, zero, suc, Bool, true, false, [], ◌∷◌, drop, Option, Some, None, refl, ap, sym, subst, ◌∙◌}
use Rattle.std.specs.Prelude.{Contains, if◌then◌else◌}
use Rattle.ring_points.specs.Whos.{same_who}
use Rattle.ring_points.specs.declared.who.Who.{Who}
use Rattle.fabric_terms.specs.Primaries.{Safe, OnePrimary, NoOlder}
use Rattle.fabric_terms.specs.declared.report.Report.TheVariants.{IsPrimary}
use Rattle.fabric_terms.specs.Reports.{Told, told, told_in}
use Rattle.fabric_terms.specs.Runs.{Clocks, Entry, Holds, IsBelow, Moment, Owned, RingSafe, Run, clocks_of, own_in, own_of, reading_of}
use Rattle.fabric_terms.specs.TakeOvers.{TakenAfterLeave, was_taken_over}

-- the instance has a reading there, and none that is later
pub record HadReading (clocks : Clocks) (w : Who) (reading : ℕ) : Type 0 where
  pub earlier : ℕ
  pub le : earlier ≤ reading
  pub there : reading_of w clocks ≡ Some earlier

-- who has a reading has one in the other run, which is no later; and the same was told
pub record SeenAs (m n : Run) : Type 0 where
  pub reads : (w : Who) (reading : ℕ) → reading_of w (clocks_of m) ≡ Some reading → HadReading (clocks_of n) w reading
  pub own : (w : Who) → own_of w m ≡ own_of w n
  pub told_same : told m ≡ told n

pub record Found (m n : Run) (ago : ℕ) : Type 0 where
  pub back : ℕ
  pub same : SeenAs (drop ago m) (drop back n)

-- so it is at the end of the run, and at each moment before
pub record Shows (m n : Run) : Type 0 where
  pub now : SeenAs m n
  pub each : (ago : ℕ) → Found m n ago

none_before : (ago : ℕ) → drop {A = Moment} ago [] ≡ []
none_before zero = refl
none_before (suc ago) = refl

nothing_seen : SeenAs [] []
nothing_seen = record { reads = λ w reading h. cc; own = λ w. refl; told_same = refl }

pub shows_nothing : Shows [] []
shows_nothing = record {
  now = nothing_seen;
  each = λ ago. record { back = 0; same = subst (λ (r : Run). SeenAs r []) (sym (none_before ago)) nothing_seen };
}

-- Both have one moment more.
pub shows_both : (k l : Moment) (m n : Run) → Shows m n → k.clocks ≡ l.clocks → k.entry ≡ l.entry → Shows (k ∷ m) (l ∷ n)
shows_both k l m n s clocks entry = record { now = now; each = each }
  where
    now : SeenAs (k ∷ m) (l ∷ n)
    now = record {
      reads = λ w reading h. record { earlier = reading; le = omega arith; there = ap (reading_of w) (sym clocks) ∙ h };
      own = λ w i. own_in w (entry i) (s.now.own w i);
      told_same = λ i. told_in (entry i) (s.now.told_same i);
    }

    each : (ago : ℕ) → Found (k ∷ m) (l ∷ n) ago
    each zero = record { back = 0; same = now }
    each (suc ago) = let f = s.each ago in record { back = suc f.back; same = f.same }

-- The one has a moment more, at which nothing is told.

silent_own : (w : Who) (e : Entry) (before : Option Owned) → e.reports ≡ [] → own_in w (Some e) before ≡ before
silent_own w e before h = rw h (by_test (same_who e.who w))
  where
    by_test : (b : Bool) → (if b then before else before) ≡ before
    by_test true = refl
    by_test false = refl

silent_told : (e : Entry) (before : Told) → e.reports ≡ [] → told_in (Some e) before ≡ before
silent_told e before h = rw h refl

pub shows_silent : (k : Moment) (e : Entry) (m n : Run) → Shows m n → k.entry ≡ Some e → e.reports ≡ [] →
    ((w : Who) (reading : ℕ) → reading_of w k.clocks ≡ Some reading → HadReading (clocks_of n) w reading) → Shows (k ∷ m) n
shows_silent k e m n s entry silent reads = record { now = now; each = each }
  where
    now : SeenAs (k ∷ m) n
    now = record {
      reads = reads;
      own = λ w. ap (λ (x : Option Entry). own_in w x (own_of w m)) entry ∙ silent_own w e (own_of w m) silent ∙ s.now.own w;
      told_same = ap (λ (x : Option Entry). told_in x (told m)) entry ∙ silent_told e (told m) silent ∙ s.now.told_same;
    }

    each : (ago : ℕ) → Found (k ∷ m) n ago
    each zero = record { back = 0; same = now }
    each (suc ago) = let f = s.each ago in record { back = f.back; same = f.same }

-- Safety.

below_earlier : (earlier reading : ℕ) (fence : Option ℕ) → earlier ≤ reading → IsBelow reading fence → IsBelow earlier fence
below_earlier earlier reading None le h = tt
below_earlier earlier reading (Some fence) le h = omega (arith, h)

held : (m n : Run) (w : Who) (p : ℕ) → SeenAs m n → Holds m w p → Holds n w p
held m n w p s h =
    let r = s.reads w h.reading h.runs in
    record { reading = r.earlier; owned = h.owned; runs = r.there; own = sym (s.own w) ∙ h.own; has = h.has; below = below_earlier r.earlier h.reading h.owned.fence r.le h.below }

ring_shown : (m n : Run) → Shows m n → RingSafe n → RingSafe m
ring_shown m n s safe = record {
  one_holder = λ ago p v w hv hw. let f = s.each ago in safe.one_holder f.back p v w (held (drop ago m) (drop f.back n) v p f.same hv) (held (drop ago m) (drop f.back n) w p f.same hw);
}

taken_shown : (m n : Run) → Shows m n → TakenAfterLeave n → TakenAfterLeave m
taken_shown m n s safe = record {
  holds_nothing = λ ago p v was h. let f = s.each ago in
      safe.holds_nothing f.back p v (ap (was_taken_over v) (sym f.same.told_same) ∙ was) (held (drop ago m) (drop f.back n) v p f.same h);
}

primaries_shown : (m n : Run) → told m ≡ told n → OnePrimary n → OnePrimary m
primaries_shown m n e safe = record {
  one = λ partition epoch v w hv hw. safe.one partition epoch v w (subst (λ (t : Told). Contains t (v, IsPrimary partition epoch)) e hv) (subst (λ (t : Told). Contains t (w, IsPrimary partition epoch)) e hw);
}

older_shown : (m n : Run) → told m ≡ told n → NoOlder n → NoOlder m
older_shown m n e safe = record {
  not_older = λ newer partition lsn epoch earlier v w before r h. safe.not_older newer partition lsn epoch earlier v w before r (ap (drop newer) (sym e) ∙ h);
}

-- what is told decides these two
pub tells_alike : (m n : Run) → told m ≡ told n → RingSafe m → TakenAfterLeave m → Safe n → Safe m
tells_alike m n e ring taken safe = record { ring = ring; take_overs = taken; primaries = primaries_shown m n e safe.primaries; epochs = older_shown m n e safe.epochs }

pub safe_shown : (m n : Run) → Shows m n → Safe n → Safe m
safe_shown m n s safe = tells_alike m n s.now.told_same (ring_shown m n s safe.ring) (taken_shown m n s safe.take_overs) safe
