-- An instance that has begun passes `again`.
use Rattle.std.proofs.Common.{◌≡◌, ℕ, ◌+◌, ◌≤◌, ◌==◌, nat_le, Bool, true, false, Some, refl, arith}
use Rattle.std.proofs.lemmas.Bool.Decides.{nat_tests}
use Rattle.service_file.specs.declared.actor_file.ActorFile.{ActorFile}
use Rattle.service_file.specs.declared.beginning.Beginning.TheVariants.{Passed}
use Rattle.service_file.specs.declared.settings.Again.{Again}
use Rattle.service_file.specs.Beginnings.{begins_by}

same : (m n : ℕ) → m ≡ n → (m == n) ≡ true
same m n e = grind (arith, nat_tests)

above : (m n : ℕ) → n ≤ m → (m + 1 == n) ≡ false
above m n h = grind (arith, nat_tests)

not_above : (m n : ℕ) → m ≤ n → nat_le m n ≡ true
not_above m n h = grind (arith, nat_tests)

pub passed : (f : ActorFile) (last : ℕ) (a : Again) → a.node ≡ f.actor → a.instance ≤ last → begins_by f (Some last) (Some a) ≡ Passed
unfolding begins_by
passed f last a own begun = by f.has_begun refl
  where
    by : (b : Bool) → f.has_begun ≡ b → begins_by f (Some last) (Some a) ≡ Passed
    by true e = rw (e, same a.node f.actor own, above last a.instance begun, not_above a.instance last begun) refl
    by false e = rw (e, same a.node f.actor own, above last a.instance begun, not_above a.instance last begun) refl
