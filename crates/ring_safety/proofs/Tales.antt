-- What was told in the present life, and in all.
use Rattle.std.specs.Prelude.{List, Option, None, Some}
use Rattle.fabric_terms.specs.declared.report.Report.{Report}
use Rattle.fabric_terms.specs.Reports.{Told, told, told_on}
use Rattle.fabric_terms.specs.Runs.{Entry}
use Rattle.fabric_terms.specs.declared.config.FabricConfig.{FabricConfig}
use Rattle.ring_points.specs.declared.who.Who.{Who}
use Rattle.world_rules.specs.Uppers.{Upper}
use Rattle.cold_start.specs.Lives.{Lives, lives_run, this_life, whole_after}

-- whole is the instance that begins with the whole ring in the present life
pub record Tale : Type 0 where
  pub whole : Who
  pub life : Told
  pub all : Told

-- more is told
abbrev pub tale_on : Who → List Report → Tale → Tale
tale_on who rs t = record { whole = t.whole; life = told_on who rs t.life; all = told_on who rs t.all }

abbrev pub tale_in : Option Entry → Tale → Tale
tale_in None t = t
tale_in (Some e) t = tale_on e.who e.reports t

abbrev pub tale_of : (a : Upper) → FabricConfig → Lives → Tale
tale_of a c l = record { whole = whole_after c l; life = told (this_life a c l); all = told (lives_run a c l) }
