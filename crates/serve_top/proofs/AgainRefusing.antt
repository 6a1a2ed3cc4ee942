-- Why the folders of a ring do not lead to a line.
use Rattle.std.proofs.Common.{◌≡◌, ◌≢◌, List, ℕ, subst}
use Rattle.std.specs.Prelude.{Err, Ok}
use Rattle.again_choice.specs.Choices.{Chooses, choice_of}
use Rattle.again_choice.specs.declared.choice.Choice.{Choice}
use Rattle.again_choice.specs.declared.folder.Found.{Found}
use Rattle.again_choice.specs.declared.refusal.AgainRefusal.{AgainRefusal}
use Rattle.again_choice.specs.declared.refusal.AgainRefusal.TheVariants as refusal
use Rattle.serve_top.specs.Agains.{IsReadBack, IsRefusedAgain, RefusesAgain, folders, memory, unread}
use Rattle.serve_top.specs.declared.end.End.{End}
use Rattle.serve_top.specs.declared.end.End.TheVariants as end
use Rattle.serve_top.specs.declared.setup.Setup.{Setup}

-- the folders are refused
pub refused_folders : (s : Setup) (fs : List Found) (names : List (List ℕ)) (why : AgainRefusal) (e : End)
    → Chooses (choice_of s.config s.checksum fs) (Err why) → RefusesAgain why names e → IsRefusedAgain s fs names e
refused_folders s fs names why (end.Again words) chooses refuses = folders why (chooses refuses.0) refuses
refused_folders s fs names why (end.As status) chooses refuses = memory refuses
refused_folders s fs names why (end.Start fault) chooses refuses = memory refuses
refused_folders s fs names why (end.Service field) chooses refuses = memory refuses
refused_folders s fs names why (end.Address text) chooses refuses = memory refuses
refused_folders s fs names why (end.Folder fault) chooses refuses = memory refuses
refused_folders s fs names why end.Silent chooses refuses = memory refuses
refused_folders s fs names why end.Undone chooses refuses = memory refuses
refused_folders s fs names why end.NoDoor chooses refuses = memory refuses

-- the line of the choice is refused
pub refused_line : (s : Setup) (fs : List Found) (names : List (List ℕ)) (choice : Choice) (why : AgainRefusal) (e : End)
    → choice_of s.config s.checksum fs ≡ Ok choice → (why ≢ refusal.OutOfMemory → why ≡ refusal.Unread) → (why ≡ refusal.Unread → ¬ (IsReadBack s choice))
    → RefusesAgain why names e → IsRefusedAgain s fs names e
refused_line s fs names choice why (end.Again words) chosen either not_read refuses =
    let is = either refuses.0 in
    unread choice chosen (not_read is) (subst (λ w. RefusesAgain w names (end.Again words)) is refuses)
refused_line s fs names choice why (end.As status) chosen either not_read refuses = memory refuses
refused_line s fs names choice why (end.Start fault) chosen either not_read refuses = memory refuses
refused_line s fs names choice why (end.Service field) chosen either not_read refuses = memory refuses
refused_line s fs names choice why (end.Address text) chosen either not_read refuses = memory refuses
refused_line s fs names choice why (end.Folder fault) chosen either not_read refuses = memory refuses
refused_line s fs names choice why end.Silent chosen either not_read refuses = memory refuses
refused_line s fs names choice why end.Undone chosen either not_read refuses = memory refuses
refused_line s fs names choice why end.NoDoor chosen either not_read refuses = memory refuses
