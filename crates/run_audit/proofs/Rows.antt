-- The holders by the clocks of a moment, as a walk over them goes on.
use Rattle.std.proofs.Common.{◌≡◌, ◌≢◌, ℕ, ◌+◌, ◌<◌, ◌≤◌, false, List, [], ◌∷◌, ◌++◌, length, take, get_or, Option, Some, None, Contains, inl, inr, sym, ap, ◌∙◌, subst}
use Rattle.std.specs.Prelude.{IsOk, is_ok, Result, Ok, Err, if◌then◌else◌}
use Rattle.std.proofs.lemmas.List.{take_all, take_more}
use Rattle.std.proofs.lemmas.List.Elements.{Contains-push, Contains-push_cases, Contains-append_left}
use Rattle.std.proofs.lemmas.Option.{same_Some}
use Rattle.ring_points.specs.declared.who.Who.{Who}
use Rattle.fabric_terms.specs.Runs.{Clocks, IsBelow, reading_of}
use Rattle.run_audit.specs.declared.overlap.LiveHolder.{LiveHolder}
use Rattle.run_audit.specs.declared.owners.Owners.{Owners}
use Rattle.run_audit.specs.Clocks.{EachIsFirst, Owns, HoldsNow, AreRows}
use Rattle.run_audit.specs.Standing.{HoldsAt, HoldsNothingAt}
use Rattle.run_audit.proofs.Readings.{reads}
use Rattle.run_audit.proofs.Members.{Contains-empty}

-- the reading at a clock
pub read_first : (clocks : Clocks) (c : Who × ℕ) → Contains clocks c → EachIsFirst clocks → reading_of c.0 clocks ≡ Some c.1
read_first clocks c has first = first c.0 c.1 has

pub read_some : (clocks : Clocks) (c : Who × ℕ) (o : Option ℕ) → Contains clocks c → o ≡ reading_of c.0 clocks → o ≢ None
read_some clocks c o has e none =
    let r = reads clocks c.0 c.1 has in
    let bad : None ≡ Some r.reading = sym none ∙ e ∙ r.is in
    absurd (cc (bad))

pub ruleset readings = (read_first, read_some)

pub item_there : {X : Type 0} (xs : List X) (i : ℕ) (x : X) → i < length xs → x ≡ get_or xs i x → Contains xs x
item_there xs i x h is = (i, h, sym is)

module _ (owners : Owners) (clocks : Clocks) (lived : List Who) (actor : Option Who) where
  pub no_rows : AreRows owners clocks [] lived actor []
  no_rows = record {
    each = λ h has. Contains-empty h has;
    all = λ w r has owns. Contains-empty (w, r) has;
    stale = λ h has. Contains-empty h has;
  }

  -- the next clock
  next : (i : ℕ) (c : Who × ℕ) → i < length clocks → c ≡ get_or clocks i c → take (i + 1) clocks ≡ take i clocks ++ c ∷ []
  next i c h is = take_more clocks i c h ∙ ap (λ x. take i clocks ++ x ∷ []) (sym is)

  pub row_none : (i : ℕ) (c : Who × ℕ) (reading : ℕ) (hs : List LiveHolder) → i < length clocks → c ≡ get_or clocks i c → reading_of c.0 clocks ≡ Some reading
      → AreRows owners clocks (take i clocks) lived actor hs → HoldsNothingAt owners c.0 reading → AreRows owners clocks (take (i + 1) clocks) lived actor hs
  row_none i c reading hs h is runs rows none =
      subst (λ l. AreRows owners clocks l lived actor hs) (sym (next i c h is)) (record { each = rows.each; all = all; stale = rows.stale })
    where
      nothing : Owns owners clocks c.0 → ⊥
      nothing owns =
          let same : owns.reading ≡ reading = same_Some owns.reading reading (sym owns.runs ∙ runs) in
          none owns.owned owns.own (subst (λ r. IsBelow r owns.owned.fence) same owns.below)

      all : (w : Who) (r : ℕ) → Contains (take i clocks ++ c ∷ []) (w, r) → Owns owners clocks w → (h : LiveHolder) × Contains hs h × (h.who ≡ w)
      all w r has owns = elim (Contains-push_cases (take i clocks) c (w, r) has) as (λ _. (h : LiveHolder) × Contains hs h × (h.who ≡ w)) [
        | inl k ↦ rows.all w r k owns
        | inr e ↦ let who : c.0 ≡ w = ap (λ (x : Who × ℕ). x.0) e in absurd (nothing (subst (λ x. Owns owners clocks x) (sym who) owns))
      ]

  pub row_some : (i : ℕ) (c : Who × ℕ) (reading : ℕ) (hs : List LiveHolder) (x : LiveHolder) → i < length clocks → c ≡ get_or clocks i c → reading_of c.0 clocks ≡ Some reading
      → AreRows owners clocks (take i clocks) lived actor hs → HoldsAt owners c.0 reading x → (x.fresh ≡ false → Contains lived c.0 × (actor ≢ Some c.0))
      → AreRows owners clocks (take (i + 1) clocks) lived actor (hs ++ x ∷ [])
  row_some i c reading hs x h is runs rows at old =
      subst (λ l. AreRows owners clocks l lived actor (hs ++ x ∷ [])) (sym (next i c h is)) (record { each = each; all = all; stale = lives })
    where
      holds : HoldsNow owners clocks x
      holds = record {
        reading = reading;
        runs = subst (λ w. reading_of w clocks ≡ Some reading) (sym at.is) runs;
        holds = subst (λ w. HoldsAt owners w reading x) (sym at.is) at;
      }

      each : (h : LiveHolder) → Contains (hs ++ x ∷ []) h → HoldsNow owners clocks h
      each h has = elim (Contains-push_cases hs x h has) as (λ _. HoldsNow owners clocks h) [
        | inl k ↦ rows.each h k
        | inr e ↦ subst (λ y. HoldsNow owners clocks y) e holds
      ]

      all : (w : Who) (r : ℕ) → Contains (take i clocks ++ c ∷ []) (w, r) → Owns owners clocks w → (h : LiveHolder) × Contains (hs ++ x ∷ []) h × (h.who ≡ w)
      all w r has owns = elim (Contains-push_cases (take i clocks) c (w, r) has) as (λ _. (h : LiveHolder) × Contains (hs ++ x ∷ []) h × (h.who ≡ w)) [
        | inl k ↦ let found = rows.all w r k owns in (found.0, Contains-append_left hs (x ∷ []) found.0 found.1, found.2)
        | inr e ↦ let who : c.0 ≡ w = ap (λ (y : Who × ℕ). y.0) e in (x, Contains-push hs x, at.is ∙ who)
      ]

      lives : (h : LiveHolder) → Contains (hs ++ x ∷ []) h → h.fresh ≡ false → Contains lived h.who × (actor ≢ Some h.who)
      lives h has = elim (Contains-push_cases hs x h has) as (λ _. h.fresh ≡ false → Contains lived h.who × (actor ≢ Some h.who)) [
        | inl k ↦ rows.stale h k
        | inr e ↦ λ stale.
            let who : h.who ≡ c.0 = ap (λ (y : LiveHolder). y.who) (sym e) ∙ at.is in
            let was = old (ap (λ (y : LiveHolder). y.fresh) e ∙ stale) in (
              subst (λ w. Contains lived w) (sym who) was.0,
              subst (λ w. actor ≢ Some w) (sym who) was.1,
            )
      ]

  pub rows_all : (i : ℕ) (hs : List LiveHolder) → length clocks ≤ i → AreRows owners clocks (take i clocks) lived actor hs → AreRows owners clocks clocks lived actor hs
  rows_all i hs h rows = subst (λ l. AreRows owners clocks l lived actor hs) (take_all i clocks h) rows

-- what a push that succeeds leaves
pub pushed_items : {E : Type 0} (r : Result (Unit {0}) E) (xs ys : List LiveHolder) {zs : List LiveHolder} → IsOk r → zs ≡ (if is_ok r then xs else ys) → zs ≡ xs
pushed_items (Ok u) xs ys is e = e
pushed_items (Err x) xs ys is e = absurd (cc (is))
