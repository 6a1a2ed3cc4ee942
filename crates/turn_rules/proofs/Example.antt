-- The examples, thing by thing.
use Rattle.std.proofs.Common.{ℕ, List, [], ◌∷◌, refl}
use Rattle.fabric_terms.specs.declared.command.Command.TheVariants.{Join}
use Rattle.fabric_terms.specs.declared.config.FabricConfig.{FabricConfig}
use Rattle.turn_rules.specs.Laws.{ServedExample, example, example_plan, served_example, served_plan}
use Rattle.turn_rules.specs.Order.{Busy, Firing, IsInOrder, IsServedOrder, arrive}
use Rattle.turn_rules.proofs.Served.{never_rests}

pub in_order : (c : FabricConfig) (bytes : List ℕ) → IsInOrder (example_plan c) (example bytes) (arrive (example_plan c) 2 0)
in_order c bytes = (
  arrive (example_plan c) 1 1,
  (
    (
      record { turn = 1; at = 0; doing = Firing },
      (
        (
          record { turn = 1; at = 0; doing = Busy [] 1 },
          (
            (
              record { turn = 1; at = 0; doing = Busy [] 0 },
              (
                (
                  record { turn = 1; at = 0; doing = Busy (Join 2 ∷ []) 0 },
                  (
                    (
                      arrive (example_plan c) 1 0,
                      (
                        (
                          arrive (example_plan c) 0 1,
                          (
                            (
                              arrive (example_plan c) 0 0,
                              (refl, record { turn = refl; place = refl; goes = (refl, refl) }),
                            ),
                            record { turn = refl; place = refl; goes = (refl, refl) },
                          ),
                        ),
                        record { turn = refl; place = refl; goes = refl },
                      ),
                    ),
                    record { turn = refl; place = refl; goes = (refl, refl) },
                  ),
                ),
                record { turn = refl; place = refl; goes = refl },
              ),
            ),
            record { turn = refl; place = refl; goes = refl },
          ),
        ),
        record { turn = refl; place = refl; goes = refl },
      ),
    ),
    record { turn = refl; place = refl; goes = refl },
  ),
)

in_served_order : (c : FabricConfig) (bytes : List ℕ) → IsServedOrder (served_plan c) (served_example bytes) (arrive (served_plan c) 3 0)
in_served_order c bytes = (record { turn = 2; at = 0; doing = Firing }, ((record { turn = 2; at = 0; doing = Busy [] 1 }, ((record { turn = 2; at = 0; doing = Busy [] 1 }, ((record { turn = 2; at = 0; doing = Busy [] 0 }, ((arrive (served_plan c) 2 0, ((record { turn = 1; at = 0; doing = Firing }, ((record { turn = 1; at = 0; doing = Busy [] 0 }, ((arrive (served_plan c) 1 0, ((arrive (served_plan c) 0 0, (refl, record { turn = refl; place = refl; goes = (refl, refl) })), record { turn = refl; place = refl; goes = refl })), record { turn = refl; place = refl; goes = refl })), record { turn = refl; place = refl; goes = refl })), record { turn = refl; place = refl; goes = refl })), record { turn = refl; place = refl; goes = refl })), record { turn = refl; place = refl; goes = (refl, λ e here. refl, refl) })), record { turn = refl; place = refl; goes = refl })), record { turn = refl; place = refl; goes = refl }))

-- the first turn ends without a firing
pub served_in_order : ServedExample
served_in_order c bytes = (
  in_served_order c bytes,
  λ p o. let rest = o.1.0.1.0.1.0.1.0.1.0 in let before = rest.0 in never_rests (served_plan c) before.turn before.at before.doing o.1.0.1.0.1.0.1.0.0 rest.1.1.goes,
)
