-- The partitions that arbitrators keep as done.
use Rattle.std.specs.Prelude.{ℕ, ◌==◌, List, [], length, fold, insert, nat_lt, slice_get, slice_set, take_while, Option, Some, None, if◌then◌else◌}
use Rattle.ring_points.specs.declared.unit.Config.{Config}
use Rattle.ring_points.specs.Epochs.{is_older}
use Rattle.fabric_terms.specs.declared.record.Record.{Record}
use Rattle.fabric_terms.specs.declared.record.Record.TheVariants.{DoneFor}
use Rattle.service_file.specs.declared.settings.Declared.{Declared}
use Rattle.service_file.specs.Entries.{most_declared}
use Rattle.again_choice.specs.declared.done.Done.{Done}
use Rattle.again_choice.specs.declared.folder.Found.{Found}
use Rattle.again_choice.specs.declared.folder.Found.TheVariants.{Read}

abbrev pub newer : Done → Done → Done
newer a b = if is_older a.epoch b.epoch then b else a

-- how many of these are of a lesser partition
abbrev pub below : ℕ → List Done → ℕ
below partition list = length (take_while (λ done. nat_lt done.partition partition) list)

abbrev pub put_at : List Done → ℕ → Done → Option Done → List Done
put_at list place done None = insert list place done
put_at list place done (Some there) =
    if there.partition == done.partition then slice_set list place (newer there done) else insert list place done

abbrev pub placed_at : List Done → ℕ → Done → List Done
placed_at list place done = put_at list place done (slice_get list place)

-- in a list that rises by partition, of each partition the newest; more than a line declares are not counted
abbrev pub with_done : List Done → Done → List Done
with_done list done =
    if nat_lt most_declared (length list) then list else placed_at list (below done.partition list) done

abbrev pub done_as : Config → Done
done_as c = record { partition = c.partition; epoch = c.epoch; members = length c.members }

abbrev pub done_with_record : List Done → Record → List Done
done_with_record list (DoneFor config) = with_done list (done_as config)
done_with_record list _ = list

abbrev pub done_with_folder : List Done → Found → List Done
done_with_folder list (Read f) = fold done_with_record list f.kept.arbiter
done_with_folder list _ = list

-- what the arbitrators keep as done
abbrev pub done_of : List Found → List Done
done_of folders = fold done_with_folder [] folders

abbrev pub declared_of : Done → Declared
declared_of done = record { partition = done.partition; replicas = done.members }
