-- The synced records of an actor, and what stands in a map after a change.
use Rattle.std.proofs.Common.{◌≡◌, ℕ, ◌+◌, Bool, true, false, cond, ◌||◌, List, [], ◌∷◌, ◌++◌, Some, None, refl, sym, ap, ◌∙◌, subst, arith}
use Rattle.std.specs.Prelude.{◌==◌, unwrap_or}
use Rattle.std.specs.List.{list_any}
use Rattle.std.proofs.lemmas.Bool.{eqb-true, eq-eqb}
use Rattle.std.proofs.lemmas.List.Sums.{sum_by-append, sum_by-cons}
use Rattle.fabric_terms.specs.declared.message.Body.{Body}
use Rattle.fabric_terms.specs.declared.record.Record.{Record}
use Rattle.fabric_terms.specs.declared.record.Record.TheVariants as kept
use Rattle.ring_points.specs.declared.who.Who.{Who}
use Rattle.ring_rules.specs.Arbiters.{Table, table_after, table_with}
use Rattle.fabric_lemmas.specs.Maps.{at, put, without}
use Rattle.world_rules.specs.Nodes.{is_boot, boots_of}
use Rattle.world_rules.specs.Uppers.{Upper}
use Rattle.world_rules.specs.Worlds.{World, kept_of, with_outcome}
use Rattle.fabric_lemmas.proofs.Maps.{at-put, at-without}
use Rattle.world_rules.specs.Above.{is_ring_record}

-- what stands at a number, by cases

pub put_cases : {X : Type 0} (P : X → Type 0) (k : ℕ) (x : X) (es : List (ℕ × X)) (q : ℕ) (y : X) → at q (put k x es) ≡ Some y →
    (k ≡ q → P x) → ((k == q) ≡ false → at q es ≡ Some y → P y) → P y
put_cases {X = X} P k x es q y h here there = go (k == q) refl (sym (at-put k x es q) ∙ h)
  where
    go : (b : Bool) → (k == q) ≡ b → cond b (Some x) (at q es) ≡ Some y → P y
    go true e g = let same : x ≡ y = cc (g) in subst P same (here (eqb-true k q e))
    go false e g = there e g

pub without_cases : {X : Type 0} (k : ℕ) (es : List (ℕ × X)) (q : ℕ) (y : X) → at q (without k es) ≡ Some y → ((k == q) ≡ false) × (at q es ≡ Some y)
without_cases {X = X} k es q y h = go (k == q) refl (sym (at-without k es q) ∙ h)
  where
    go : (b : Bool) → (k == q) ≡ b → cond b None (at q es) ≡ Some y → ((k == q) ≡ false) × (at q es ≡ Some y)
    go true e g = absurd (cc (g))
    go false e g = (e, g)

pub at_put_same : {X : Type 0} (k : ℕ) (x : X) (es : List (ℕ × X)) → at k (put k x es) ≡ Some x
at_put_same k x es = at-put k x es k ∙ ap (λ b. cond b (Some x) (at k es)) (eq-eqb k k refl)

pub at_put_other : {X : Type 0} (k : ℕ) (x : X) (es : List (ℕ × X)) (q : ℕ) → (k == q) ≡ false → at q (put k x es) ≡ at q es
at_put_other k x es q h = at-put k x es q ∙ ap (λ b. cond b (Some x) (at q es)) h

pub at_without_other : {X : Type 0} (k : ℕ) (es : List (ℕ × X)) (q : ℕ) → (k == q) ≡ false → at q (without k es) ≡ at q es
at_without_other k es q h = at-without k es q ∙ ap (λ b. cond b None (at q es)) h

-- the records after an outcome
pub kept_after : {a : Upper} (w : World a) (who : Who) (records : List Record) (sent : List (Who × Body)) (q : ℕ) →
    kept_of (with_outcome w who records sent) q ≡ cond (who.actor == q) (kept_of w who.actor ++ records) (kept_of w q)
kept_after w who records sent q = ap (λ o. unwrap_or o []) (at-put who.actor (kept_of w who.actor ++ records) w.kept q) ∙ go (who.actor == q)
  where
    go : (b : Bool) → unwrap_or (cond b (Some (kept_of w who.actor ++ records)) (at q w.kept)) [] ≡ cond b (kept_of w who.actor ++ records) (kept_of w q)
    go true = refl
    go false = refl

pub kept_here : {a : Upper} (w : World a) (who : Who) (records : List Record) (sent : List (Who × Body)) →
    kept_of (with_outcome w who records sent) who.actor ≡ kept_of w who.actor ++ records
kept_here w who records sent = kept_after w who records sent who.actor ∙ ap (λ b. cond b (kept_of w who.actor ++ records) (kept_of w who.actor)) (eq-eqb who.actor who.actor refl)

pub kept_there : {a : Upper} (w : World a) (who : Who) (records : List Record) (sent : List (Who × Body)) (q : ℕ) → (who.actor == q) ≡ false →
    kept_of (with_outcome w who records sent) q ≡ kept_of w q
kept_there w who records sent q h = kept_after w who records sent q ∙ ap (λ b. cond b (kept_of w who.actor ++ records) (kept_of w q)) h

-- starts among records

pub boots_append : (rs more : List Record) → boots_of (rs ++ more) ≡ boots_of rs + boots_of more
boots_append rs more = sum_by-append (λ r. cond (is_boot r) 1 0) rs more

-- records without a start leave the starts of an actor
pub boots_still : {a : Upper} (w : World a) (who : Who) (records : List Record) (sent : List (Who × Body)) → boots_of records ≡ 0 → (q : ℕ) →
    boots_of (kept_of (with_outcome w who records sent) q) ≡ boots_of (kept_of w q)
boots_still w who records sent none q = go (who.actor == q) refl
  where
    go : (b : Bool) → (who.actor == q) ≡ b → boots_of (kept_of (with_outcome w who records sent) q) ≡ boots_of (kept_of w q)
    go true h =
        subst (λ q. boots_of (kept_of (with_outcome w who records sent) q) ≡ boots_of (kept_of w q)) (eqb-true who.actor q h)
        (ap boots_of (kept_here w who records sent) ∙ (let sum = boots_append (kept_of w who.actor) records in let e = none in omega arith))
    go false h = ap boots_of (kept_there w who records sent q h)

-- records that are not the ring's count no start and keep no accusation

not_ring : (r : Record) (rs : List Record) → list_any is_ring_record (r ∷ rs) ≡ false →
    (is_ring_record r ≡ false) × (list_any is_ring_record rs ≡ false)
not_ring r rs h = go (is_ring_record r) (list_any is_ring_record rs) refl refl h
  where
    go : (a b : Bool) → is_ring_record r ≡ a → list_any is_ring_record rs ≡ b → (a || b) ≡ false →
        (is_ring_record r ≡ false) × (list_any is_ring_record rs ≡ false)
    go true b e f g = absurd (cc (g))
    go false true e f g = absurd (cc (g))
    go false false e f g = (e, f)

no_boot : (r : Record) → is_ring_record r ≡ false → is_boot r ≡ false
no_boot (kept.Boot instance) h = absurd (cc (h))
no_boot r h = refl

pub no_boots : (rs : List Record) → list_any is_ring_record rs ≡ false → boots_of rs ≡ 0
no_boots [] h = refl
no_boots (r ∷ rs) h =
    let parts = not_ring r rs h in
    let rest = no_boots rs parts.1 in
    let sum = sum_by-cons (λ r. cond (is_boot r) 1 0) r rs in
    sum ∙ go (is_boot r) (no_boot r parts.0) rest
  where
    go : (b : Bool) → b ≡ false → boots_of rs ≡ 0 → cond b 1 0 + boots_of rs ≡ 0
    go true e f = absurd (cc (e))
    go false e f = omega arith

no_entry : (table : Table) (r : Record) → is_ring_record r ≡ false → table_with table r ≡ table
no_entry table (kept.AccusedBy victim first) h = absurd (cc (h))
no_entry table (kept.ClaimedBy victim round claimer) h = absurd (cc (h))
no_entry table r h = refl

pub no_entries : (table : Table) (rs : List Record) → list_any is_ring_record rs ≡ false → table_after table rs ≡ table
no_entries table [] h = refl
no_entries table (r ∷ rs) h =
    let parts = not_ring r rs h in
    ap (λ t. table_after t rs) (no_entry table r parts.0) ∙ no_entries table rs parts.1

pub table_append : (table : Table) (rs more : List Record) →
    table_after table (rs ++ more) ≡ table_after (table_after table rs) more
table_append table [] more = refl
table_append table (r ∷ rs) more = table_append (table_with table r) rs more
