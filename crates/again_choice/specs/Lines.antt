-- The line 2 that keeps what was chosen.
use Rattle.std.specs.Prelude.{ℕ, List, codes, map}
use Rattle.serde_json.specs.Data.{Data, array, number, object, string, unsigned, member, no_members}
use Rattle.serde_json.specs.View.{items_of}
use Rattle.serde_json.specs.Written.{compact_text}
use Rattle.service_file.specs.declared.settings.Again.{Again}
use Rattle.service_file.specs.declared.settings.Declared.{Declared}
use Rattle.service_file.specs.declared.settings.LineChoice.{LineChoice}
use Rattle.service_file.specs.declared.settings.LineChoice.TheVariants.{SomeLines, AllLines}
use Rattle.service_file.specs.declared.settings.ServiceSettings.{ServiceSettings}
use Rattle.again_choice.specs.declared.choice.Choice.{Choice}

abbrev pub whole : ℕ → Data
whole n = number (unsigned n)

abbrev pub choice_word : LineChoice → List ℕ
choice_word SomeLines = codes "some"
choice_word AllLines = codes "all"

abbrev pub declared_data : Declared → Data
declared_data d =
    object (member (codes "partition") (whole d.partition) (member (codes "replicas") (whole d.replicas) no_members))

abbrev pub again_data : Again → Data
again_data a = object (member (codes "instance") (whole a.instance) (member (codes "node") (whole a.node) no_members))

-- what was chosen, and of the settings what it leaves: an object with its fields in the order of their names
abbrev pub line_data : ServiceSettings → Choice → Data
line_data settings choice =
    object (member (codes "again") (again_data choice.again)
    (member (codes "heal_after") (whole settings.heal_after)
    (member (codes "join") (array (items_of (map whole settings.join)))
    (member (codes "lines") (string (choice_word settings.lines))
    (member (codes "partitions") (array (items_of (map declared_data choice.partitions))) no_members)))))

-- its bytes
abbrev pub line_text : ServiceSettings → Choice → List ℕ
line_text settings choice = compact_text (line_data settings choice)
