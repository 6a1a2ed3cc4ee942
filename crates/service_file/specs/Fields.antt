-- The words of the checks. Those of a field are its key.
use Rattle.std.specs.Prelude.{ℕ, List, codes, Option}
use Rattle.serde_json.specs.Data.{Data}
use Rattle.serde_json.specs.Find.{get}
use Rattle.service_file.specs.declared.field.ServiceField.{ServiceField}
use Rattle.service_file.specs.declared.field.ServiceField.TheVariants.{Json, Unknown, Join, Partitions, Partition, Replicas, HealAfter, Lines, Again, Node, Instance}

abbrev pub words_of : ServiceField → List ℕ
words_of Json = codes "json"
words_of Unknown = codes "unknown"
words_of Join = codes "join"
words_of Partitions = codes "partitions"
words_of Partition = codes "partition"
words_of Replicas = codes "replicas"
words_of HealAfter = codes "heal_after"
words_of Lines = codes "lines"
words_of Again = codes "again"
words_of Node = codes "node"
words_of Instance = codes "instance"

-- what an object has at the key of the field
abbrev pub given : ServiceField → Data → Option Data
given field d = get (words_of field) d
