-- What bytes are read as, by whether they are UTF-8.
use Rattle.std.proofs.Common.{◌≡◌, ℕ, List, Bool, true, false, IsUtf8, Some, None, is_some, Ok, Err, refl}
use Rattle.std.specs.Str.{is_utf8}
use Rattle.std.proofs.lemmas.Str.{IsUtf8-from_is_utf8, is_utf8-from_IsUtf8}
use Rattle.serde_json.specs.Data.{Data}
use Rattle.serde_json.specs.Read.{read}
use Rattle.serde_json.specs.Find.{as_object}
use Rattle.service_file.specs.declared.field.ServiceField.{ServiceField}
use Rattle.service_file.specs.declared.error.ServiceError.TheVariants.{Bad}
use Rattle.service_file.specs.Settings.{document_of}

pub document_read : (line : List ℕ) (d : Data) → IsUtf8 line → read line ≡ Some d → is_some (as_object d) ≡ true
    → document_of line ≡ Ok d
unfolding document_of
document_read line d text is in_braces = rw (is_utf8-from_IsUtf8 line text, is, in_braces) refl

pub document_of_another_kind : (line : List ℕ) (d : Data) → IsUtf8 line → read line ≡ Some d → is_some (as_object d) ≡ false
    → document_of line ≡ Err (Bad ServiceField.Json)
unfolding document_of
document_of_another_kind line d text is other = rw (is_utf8-from_IsUtf8 line text, is, other) refl

pub document_refused : (line : List ℕ) → (IsUtf8 line → read line ≡ None) → document_of line ≡ Err (Bad ServiceField.Json)
unfolding document_of
document_refused line refused = by (is_utf8 line) refl
  where
    by : (b : Bool) → is_utf8 line ≡ b → document_of line ≡ Err (Bad ServiceField.Json)
    by true e = rw (e, refused (IsUtf8-from_is_utf8 line e)) refl
    by false e = rw e refl

pub ruleset documents = (document_read, document_of_another_kind, document_refused)
