-- Which line 2 the folders of a ring lead to, and what is said where they lead to none.
use Rattle.std.specs.Prelude.{◌≡◌, ◌≢◌, ℕ, ◌==◌, ◌&&◌, Bool, not, List, ◌++◌, Option, Some, None, Ok, Err, codes, decimal, length, nat_le, nat_lt, slice_get, if◌then◌else◌}
use Rattle.std.specs.List.{list_all}
use Rattle.again_choice.specs.Choices.{choice_of, settings_with}
use Rattle.again_choice.specs.Lines.{line_text}
use Rattle.again_choice.specs.declared.choice.Choice.{Choice}
use Rattle.again_choice.specs.declared.folder.Found.{Found}
use Rattle.again_choice.specs.declared.refusal.AgainRefusal.{AgainRefusal}
use Rattle.again_choice.specs.declared.refusal.AgainRefusal.TheVariants as refusal
use Rattle.service_file.specs.Settings.{service_of}
use Rattle.serve_top.specs.Addresses.{short}
use Rattle.serve_top.specs.declared.end.End.{End}
use Rattle.serve_top.specs.declared.end.End.TheVariants as end
use Rattle.serve_top.specs.declared.setup.Setup.{Setup}

-- a byte that is no control sign
abbrev pub is_plain_sign : ℕ → Bool
is_plain_sign b = nat_le 32 b && not (b == 127)

-- the name of a folder as a line shows it
abbrev pub shown_folder : List ℕ → List ℕ
shown_folder name = if nat_lt 0 (length name) && list_all is_plain_sign name then name else codes "-"

abbrev pub shown_if : Option (List ℕ) → List ℕ
shown_if None = codes "-"
shown_if (Some name) = shown_folder name

abbrev pub folder_at : ℕ → List (List ℕ) → List ℕ
folder_at place names = shown_if (slice_get names place)

-- why folders of these names do not lead to a line, and which of them it is, or which actor has none
abbrev pub again_words : AgainRefusal → List (List ℕ) → List ℕ
again_words (refusal.Running place) names = codes "running " ++ folder_at place names
again_words (refusal.Read place) names = codes "read " ++ folder_at place names
again_words (refusal.Other place) names = codes "other " ++ folder_at place names
again_words (refusal.Twice place) names = codes "twice " ++ folder_at place names
again_words (refusal.MissingNode node) names = codes "missing " ++ decimal node
again_words (refusal.MissingArbiter arbiter) names = codes "missing a" ++ decimal arbiter
again_words refusal.NoNode names = codes "none -"
again_words refusal.Many names = codes "many -"
again_words refusal.Unread names = codes "unread -"
again_words refusal.OutOfMemory names = codes "memory -"

-- the end at a refusal; memory for its words may be short
abbrev pub RefusesAgain : AgainRefusal → List (List ℕ) → End → Type 0
RefusesAgain why names (end.Again words) = (why ≢ refusal.OutOfMemory) × (words.items ≡ again_words why names)
RefusesAgain why names e = e ≡ short

-- the line of this choice would be read as it
abbrev pub IsReadBack : Setup → Choice → Type 0
IsReadBack s choice = service_of s.config (line_text s.settings choice) ≡ Ok (settings_with s.settings choice)

-- the folders are refused; or the line would not be read as what was chosen; or memory was short
pub data IsRefusedAgain (s : Setup) (folders : List Found) (names : List (List ℕ)) (e : End) : Type 0 where
  folders : (why : AgainRefusal) → choice_of s.config s.checksum folders ≡ Err why → RefusesAgain why names e → IsRefusedAgain s folders names e
  unread : (choice : Choice) → choice_of s.config s.checksum folders ≡ Ok choice → ¬ (IsReadBack s choice) → RefusesAgain refusal.Unread names e → IsRefusedAgain s folders names e
  memory : e ≡ short → IsRefusedAgain s folders names e

-- the line of what the folders lead to, with its line feed
pub record IsAgainLine (s : Setup) (folders : List Found) (line : List ℕ) : Type 0 where
  pub choice : Choice
  pub chosen : choice_of s.config s.checksum folders ≡ Ok choice
  pub text : line ≡ line_text s.settings choice ++ codes "\n"
  pub read : IsReadBack s choice
