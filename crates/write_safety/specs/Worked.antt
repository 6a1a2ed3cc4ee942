-- A worked book: a partition before and after a loss of data, and reports of commits.
use Rattle.std.specs.Prelude.{List, [], ◌∷◌, codes}
use Rattle.replica_core.specs.declared.entry.Entry.{Entry}
use Rattle.write_safety.specs.Books.{KeptLog}
use Rattle.write_safety.specs.Greatest.{Commit}

abbrev pub hello : Entry
hello = record { epoch = record { data_loss = 0; configuration = 1 }; lsn = 1; bytes = codes "hello" }

abbrev pub again : Entry
again = record { epoch = record { data_loss = 1; configuration = 1 }; lsn = 2; bytes = codes "again" }

abbrev pub two_logs : List KeptLog
two_logs = record { partition = 1; data_loss = 0; entries = hello ∷ [] } ∷ record { partition = 1; data_loss = 1; entries = hello ∷ again ∷ [] } ∷ []

-- up to the first entry, twice up to the second, and up to the first again, by a node with entries that are not committed
abbrev pub four_commits : List Commit
four_commits =
    record { last = 1; log = hello ∷ [] }
    ∷ record { last = 2; log = hello ∷ again ∷ hello ∷ [] }
    ∷ record { last = 2; log = hello ∷ again ∷ [] }
    ∷ record { last = 1; log = hello ∷ again ∷ [] } ∷ []
