-- What `==` says of declared partitions.
use Rattle.std.proofs.Common.{◌≡◌, ◌==◌, ◌&&◌, Bool, true, Decides, List, ap, eqb-true, eq-eqb}
use Rattle.std.proofs.lemmas.Bool.{and_parts, and_from}
use Rattle.std.proofs.lemmas.Slice.Eq.{slice_eq-Decides}
use Rattle.std.specs.Cmp.Lexicographic.{pointwise}
use Rattle.service_file.specs.declared.settings.Declared.{Declared}

declared_decides : (a b : Declared) → Decides ((a.partition == b.partition) && (a.replicas == b.replicas)) (a ≡ b)
declared_decides a b = (same, tested)
  where
    same : ((a.partition == b.partition) && (a.replicas == b.replicas)) ≡ true → a ≡ b
    same t =
        let parts = and_parts (a.partition == b.partition) (a.replicas == b.replicas) t in
        let partition = eqb-true a.partition b.partition parts.0 in
        let replicas = eqb-true a.replicas b.replicas parts.1 in
        λ i. record { partition = partition i; replicas = replicas i }

    tested : a ≡ b → ((a.partition == b.partition) && (a.replicas == b.replicas)) ≡ true
    tested e = and_from (a.partition == b.partition) (a.replicas == b.replicas)
        (eq-eqb a.partition b.partition (ap (λ (d : Declared). d.partition) e))
        (eq-eqb a.replicas b.replicas (ap (λ (d : Declared). d.replicas) e))

-- lists of them are the same exactly if the test of them says so
pub same_list : (xs ys : List Declared) (r : Bool) → r ≡ pointwise (λ a b. (a.partition == b.partition) && (a.replicas == b.replicas)) xs ys
    → Decides r (xs ≡ ys)
same_list xs ys r e = slice_eq-Decides declared_decides xs ys r e
