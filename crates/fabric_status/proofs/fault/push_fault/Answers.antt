use Rattle.std.proofs.Common.{◌≡◌, ℕ, ◌++◌, ap, sym, subst}
use Rattle.std.specs.Prelude.{decimal, codes, OnOk}
use Rattle.std.proofs.lemmas.List.{append_assoc}
use Rattle.fabric_status.specs.Faults.{fault_line}
use Rattle.fabric_status.specs.declared.status.Status.TheVariants.{ClockBack}
use Rattle.fabric_status.proofs.fault.push_fault.Goals as goal

clock_text : (former latter : ℕ) → codes "fault clock " ++ (decimal former ++ (codes " " ++ (decimal latter ++ codes "\n"))) ≡ fault_line (ClockBack former latter)
clock_text former latter = ap (λ t. codes "fault clock " ++ t) (sym (append_assoc (decimal former) (codes " " ++ decimal latter) (codes "\n")))

pub returns-in-ClockBack-clause-ok : goal.returns-in-ClockBack-clause-ok
returns-in-ClockBack-clause-ok c =
    subst (λ s. OnOk c.push_two.result (c.push_two.new.text.items ≡ c.args.text.now.items ++ fault_line s)) (sym c.in-ClockBack.is)
    (subst (λ t. OnOk c.push_two.result (c.push_two.new.text.items ≡ c.args.text.now.items ++ t)) (clock_text c.in-ClockBack.former c.in-ClockBack.latter) c.push_two.ensures.ok)
