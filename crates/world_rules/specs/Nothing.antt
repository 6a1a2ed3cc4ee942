-- Nothing above the ring, and nothing beside the accusations; that does nothing of the ring.
use Rattle.std.specs.Prelude.{refl}
use Rattle.world_rules.specs.Above.{StaysAbove}
use Rattle.world_rules.specs.Uppers.{Upper, idle}

abbrev pub nothing : Upper
nothing = record {
  Above = Unit {0};
  Beside = Unit {0};
  above_begun = λ c me records. tt;
  above_step = λ c now r s i. idle s;
  beside_begun = λ c arbiter records. tt;
  beside_step = λ c arbiter s m. idle s;
}

pub nothing_stays : StaysAbove nothing
nothing_stays = record {
  above = λ c now r s i. record { sends = refl; records = refl; tells = refl };
  beside = λ c arbiter s m. record { sends = refl; records = refl; tells = refl };
}
