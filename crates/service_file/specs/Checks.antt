-- What a check answers, and checks one after another.
use Rattle.std.specs.Prelude.{◌≡◌, ◌≢◌, Bool, Option, Some, None, Result, Ok, Err, if◌then◌else◌}
use Rattle.service_file.specs.declared.error.ServiceError.{ServiceError}
use Rattle.service_file.specs.declared.error.ServiceError.TheVariants.{Bad, OutOfMemory}
use Rattle.service_file.specs.declared.field.ServiceField.{ServiceField}

-- the first check that fails is the answer
infixl 10 ◌>>=◌
abbrev pub ◌>>=◌ : {A B : Type 0} → Result A ServiceError → (A → Result B ServiceError) → Result B ServiceError
(Ok x) >>= f = f x
(Err e) >>= f = Err e

-- a value that this check needs
abbrev pub or_bad : {A : Type 0} → ServiceField → Option A → Result A ServiceError
or_bad field None = Err (Bad field)
or_bad field (Some x) = Ok x

-- the value, if it passes this check
abbrev pub checked : {A : Type 0} → ServiceField → Bool → A → Result A ServiceError
checked field test x = if test then Ok x else Err (Bad field)

-- the answer, seen so, is the one that is defined, but for want of memory
abbrev pub ReadsAs : {A B : Type 0} → (B → A) → Result A ServiceError → Result B ServiceError → Type 0
ReadsAs seen defined (Ok x) = defined ≡ Ok (seen x)
ReadsAs seen defined (Err e) = e ≢ OutOfMemory → defined ≡ Err e

-- the answer is the one that is defined, but for want of memory
abbrev pub Reads : {A : Type 0} → Result A ServiceError → Result A ServiceError → Type 0
Reads defined answer = ReadsAs (λ x. x) defined answer
