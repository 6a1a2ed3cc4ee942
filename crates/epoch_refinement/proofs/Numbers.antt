-- The order of epochs is that of their numbers.
use Rattle.std.proofs.Common.{◌≡◌, ℕ, ◌<◌, ◌≤◌, Bool, true, false, ◌&&◌, ◌==◌, nat_lt, refl, ⊎_elim, arith}
use Rattle.std.proofs.lemmas.Bool.{eqb-true, eqb-false, ltb-true, ltb-false, and_parts, and_cases, or_cases, or_parts}
use Rattle.std.proofs.lemmas.Bool.Decides.{nat_tests}
use Rattle.ring_points.specs.declared.unit.Epoch.{Epoch}
use Rattle.ring_points.specs.Epochs.{is_older, same_epoch}
use Rattle.epoch_refinement.specs.Epochs.{IsNumber, IsEpoch, IsReal}

-- a test is true or false, with the equation
pub test : {X : Type 0} (b : Bool) → (b ≡ true → X) → (b ≡ false → X) → X
test true on off = on refl
test false on off = off refl

module _ {m n : ℕ} (a b : Epoch) (x : IsNumber m a) (y : IsNumber n b) where
  pub number_older_below : is_older a b ≡ true → m < n
  number_older_below h =
      let i = x.is in let j = y.is in let k = x.small in
      ⊎_elim (λ lt. let l = ltb-true a.data_loss b.data_loss lt in omega arith)
      (λ both.
      let parts = and_parts (a.data_loss == b.data_loss) (nat_lt a.configuration b.configuration) both in
      let e = eqb-true a.data_loss b.data_loss parts.0 in
      let l = ltb-true a.configuration b.configuration parts.1 in omega arith)
      (or_cases (nat_lt a.data_loss b.data_loss) (a.data_loss == b.data_loss && nat_lt a.configuration b.configuration) h)

  pub number_older_not : is_older a b ≡ false → n ≤ m
  number_older_not h =
      let i = x.is in let j = y.is in let k = y.small in
      let parts = or_parts (nat_lt a.data_loss b.data_loss) (a.data_loss == b.data_loss && nat_lt a.configuration b.configuration) h in
      let le = ltb-false a.data_loss b.data_loss parts.0 in
      ⊎_elim (λ no. let d = eqb-false a.data_loss b.data_loss no in omega arith)
      (λ no. let l = ltb-false a.configuration b.configuration no in omega arith)
      (and_cases (a.data_loss == b.data_loss) (nat_lt a.configuration b.configuration) parts.1)

  pub number_same_not : same_epoch a b ≡ false → m ≡ n → ⊥
  number_same_not h e =
      let i = x.is in let j = y.is in let k = x.small in let l = y.small in
      ⊎_elim (λ no. let d = eqb-false a.data_loss b.data_loss no in omega arith)
      (λ no. let d = eqb-false a.configuration b.configuration no in omega arith)
      (and_cases (a.data_loss == b.data_loss) (a.configuration == b.configuration) h)

  -- what is below by number is older
  pub number_below_older : m < n → is_older a b ≡ true
  number_below_older lt = test (is_older a b) (λ h. h) (λ h. absurd (let le = number_older_not h in omega arith))

module _ {m n : ℕ} (a b : Epoch) (x : IsEpoch m a) (y : IsEpoch n b) where
  pub older_below : is_older a b ≡ true → m < n
  older_below = number_older_below a b x.number y.number

  pub older_not : is_older a b ≡ false → n ≤ m
  older_not = number_older_not a b x.number y.number

  pub same_not : same_epoch a b ≡ false → m ≡ n → ⊥
  same_not = number_same_not a b x.number y.number

  pub below_older : m < n → is_older a b ≡ true
  below_older = number_below_older a b x.number y.number

pub real : (n : ℕ) (e : Epoch) → IsEpoch n e → 0 < n → IsReal e
real n e is lt = record { small = is.small; some = is.some lt }

pub same_epoch-true : (a b : Epoch) → same_epoch a b ≡ true → a ≡ b
same_epoch-true a b h =
    let parts = and_parts (a.data_loss == b.data_loss) (a.configuration == b.configuration) h in
    λ i. record { data_loss = eqb-true a.data_loss b.data_loss parts.0 i; configuration = eqb-true a.configuration b.configuration parts.1 i }

pub same_self : (e : Epoch) → same_epoch e e ≡ true
same_self e = grind (arith, nat_tests)

-- epochs of one number are one
pub one_epoch : (a b : Epoch) (n : ℕ) → IsNumber n a → IsNumber n b → a ≡ b
one_epoch a b n x y =
    let i = x.is in let j = y.is in let k = x.small in let l = y.small in
    let d : a.data_loss ≡ b.data_loss = omega arith in
    let f : a.configuration ≡ b.configuration = omega arith in
    λ t. record { data_loss = d t; configuration = f t }
