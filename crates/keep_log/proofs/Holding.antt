-- What the records of a list amount to, by one fold each.
use Rattle.std.proofs.Common.{◌≡◌, ℕ, ◌+◌, Bool, true, false, cond, List, [], ◌∷◌, ◌++◌, refl, sym, ap, ◌∙◌, arith, append_assoc}
use Rattle.std.specs.Prelude.{filter}
use Rattle.std.specs.Map.{values_of}
use Rattle.std.proofs.lemmas.List.{append-nil}
use Rattle.std.proofs.lemmas.List.Sums.{sum_by-cons}
use Rattle.fabric_terms.specs.declared.record.Record.{Record}
use Rattle.fabric_terms.specs.declared.record.Record.TheVariants.{Boot, AccusedBy, PreparedBy, VotedFor, DoneFor, PromisedAt, Wrote, Incoming, AdoptedAt, ClaimedBy}
use Rattle.world_rules.specs.Nodes.{boots_of, is_boot}
use Rattle.unit_rules.specs.Starts.{replicas_after_all}
use Rattle.keep_log.specs.declared.kept.Kept.{Kept}
use Rattle.keep_log.specs.Amounts.{Amount, Holds, boots_with, is_arbiters, nothing, with_record, with_records}

boots_more : (boots : ℕ) (r : Record) → boots_with boots r ≡ boots + cond (is_boot r) 1 0
boots_more boots (Boot instance) = refl
boots_more boots (AccusedBy victim first) = omega arith
boots_more boots (PreparedBy partition epoch preparer) = omega arith
boots_more boots (VotedFor config) = omega arith
boots_more boots (DoneFor config) = omega arith
boots_more boots (PromisedAt partition epoch) = omega arith
boots_more boots (Wrote partition epoch lsn text) = omega arith
boots_more boots (Incoming partition epoch lsn entry_epoch text) = omega arith
boots_more boots (AdoptedAt partition epoch last is_own) = omega arith
boots_more boots (ClaimedBy victim round claimer) = omega arith

boots_in : (a : Amount) (rs : List Record) → (with_records a rs).boots ≡ a.boots + boots_of rs
boots_in a [] = omega arith
boots_in a (r ∷ rs) =
    let behind = boots_in (with_record a r) rs in
    let here = boots_more a.boots r in
    let all = sum_by-cons (λ (x : Record). cond (is_boot x) 1 0) r rs in
    omega arith

arbiter_more : (b : Bool) (before : List Record) (r : Record) (rest : List Record) → cond b (before ++ r ∷ []) before ++ rest ≡ before ++ cond b (r ∷ rest) rest
arbiter_more true before r rest = append_assoc before (r ∷ []) rest
arbiter_more false before r rest = refl

arbiter_in : (a : Amount) (rs : List Record) → (with_records a rs).arbiter ≡ a.arbiter ++ filter is_arbiters rs
arbiter_in a [] = sym (append-nil a.arbiter)
arbiter_in a (r ∷ rs) = arbiter_in (with_record a r) rs ∙ arbiter_more (is_arbiters r) a.arbiter r (filter is_arbiters rs)

replicas_in : (a : Amount) (rs : List Record) → (with_records a rs).replicas ≡ replicas_after_all a.replicas rs
replicas_in a [] = refl
replicas_in a (r ∷ rs) = replicas_in (with_record a r) rs

pub holds : (rs : List Record) (kept : Kept) (a : Amount) → with_records nothing rs ≡ a
    → kept ≡ record { boots = a.boots; arbiter = a.arbiter; replicas = values_of a.replicas } → Holds rs kept
holds rs kept a amounts is = record {
  boots =
      (let counted = boots_in nothing rs in
      let of = ap (λ (x : Amount). x.boots) amounts in
      let kept_are = ap (λ (k : Kept). k.boots) is in
      omega arith);
  arbiter = ap (λ (k : Kept). k.arbiter) is ∙ (sym (ap (λ (x : Amount). x.arbiter) amounts) ∙ arbiter_in nothing rs);
  replicas = ap (λ (k : Kept). k.replicas) is ∙ ap values_of (sym (ap (λ (x : Amount). x.replicas) amounts) ∙ replicas_in nothing rs);
}
