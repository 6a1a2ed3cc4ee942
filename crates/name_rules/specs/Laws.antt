-- What holds of the names of every log.
use Rattle.std.specs.Prelude.{◌≡◌, ◌∷◌, ◌++◌, [], ℕ, List, Option, Some, None, true, if◌then◌else◌}
use Rattle.std.specs.FinMap.{get}
use Rattle.std.specs.Ordering.{eq_by_cmp}
use Rattle.replica_core.specs.declared.entry.Entry.{Entry}
use Rattle.name_rules.specs.Grammar.{Change, Sets, Deletes, change_of, change_text, is_name, is_value}
use Rattle.name_rules.specs.Names.{name_cmp, names_of}

-- what an entry says of a name: nothing, or its value, which is none where the name is deleted
abbrev pub said_by : List ℕ → Option Change → Option (List ℕ) → Option (List ℕ)
said_by name None before = before
said_by name (Some (Sets other value)) before = if eq_by_cmp name_cmp name other then Some value else before
said_by name (Some (Deletes other)) before = if eq_by_cmp name_cmp name other then None else before

-- the last entry about a name says its value
abbrev pub LastOneSays : Type 0
LastOneSays = (entries : List Entry) (e : Entry) (name : List ℕ) →
    get (names_of (entries ++ e ∷ [])) name ≡ said_by name (change_of e.bytes) (get (names_of entries) name)

-- only one name is at its place in the order
abbrev pub OneName : Type 0
OneName = (a b : List ℕ) → eq_by_cmp name_cmp a b ≡ true → a ≡ b

-- a change in its ranges
abbrev pub IsChange : Change → Type 0
IsChange (Sets name value) = (is_name name ≡ true) × (is_value value ≡ true)
IsChange (Deletes name) = is_name name ≡ true

-- what is read is spelled so, and what is spelled so is read
abbrev pub OneSpelling : Type 0
OneSpelling = (bytes : List ℕ) (c : Change) → (change_of bytes ≡ Some c → IsChange c × (bytes ≡ change_text c)) × (IsChange c → bytes ≡ change_text c → change_of bytes ≡ Some c)
