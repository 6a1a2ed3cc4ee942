-- Which epochs are past their end.
use Rattle.std.proofs.Common.{◌≡◌, ◌+◌, ◌≤◌, Bool, true, false, ◌||◌, nat_lt, refl, arith}
use Rattle.std.proofs.lemmas.Bool.Decides.{nat_tests}
use Rattle.ring_points.specs.Limits.{most_counter}
use Rattle.ring_points.specs.declared.unit.Epoch.{Epoch}
use Rattle.unit_rules.specs.Epochs.{epoch_after_loss, is_past_end, next_epoch}

past_either : (a b : Bool) → b ≡ true → (a || b) ≡ true
past_either true b is = refl
past_either false b is = is

pub past_next : (e : Epoch) → e.configuration ≡ most_counter → is_past_end (next_epoch e) ≡ true
past_next e last =
    let past : nat_lt most_counter (e.configuration + 1) ≡ true = grind (arith, nat_tests, last) in
    past_either (nat_lt most_counter e.data_loss) (nat_lt most_counter (e.configuration + 1)) past

pub next_inside : (e : Epoch) → e.data_loss ≤ most_counter → e.configuration + 1 ≤ most_counter → is_past_end (next_epoch e) ≡ false
next_inside e loss configuration =
    let a : nat_lt most_counter e.data_loss ≡ false = grind (arith, nat_tests, loss) in
    let b : nat_lt most_counter (e.configuration + 1) ≡ false = grind (arith, nat_tests, configuration) in
    rw (a, b) refl

pub past_loss : (e : Epoch) → e.data_loss ≡ most_counter → is_past_end (epoch_after_loss e) ≡ true
past_loss e last =
    let past : nat_lt most_counter (e.data_loss + 1) ≡ true = grind (arith, nat_tests, last) in
    rw past refl

pub loss_inside : (e : Epoch) → e.data_loss + 1 ≤ most_counter → is_past_end (epoch_after_loss e) ≡ false
loss_inside e loss =
    let a : nat_lt most_counter (e.data_loss + 1) ≡ false = grind (arith, nat_tests, loss) in
    rw a refl
