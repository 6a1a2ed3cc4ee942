-- What holds of whatever the first rule gives that applies.
use Rattle.std.proofs.Common.{◌≡◌, Bool, true, false, cond, List, [], ◌∷◌, Option, Some, None, map, refl}
use Rattle.std.specs.Prelude.{IfSome, find, option_map, ⊤}
use Rattle.fabric_steward.specs.Rules.{first_some}

-- each item has the property
abbrev pub AllOf : {X : Type 0} → (X → Type 0) → List X → Type 0
AllOf P [] = ⊤
AllOf P (x ∷ xs) = P x × AllOf P xs

-- a list that is mapped has a property of its items' images
pub mapped_all : {X Y : Type 0} (P : X → Type 0) (Q : Y → Type 0) (f : X → Y) → ((x : X) → P x → Q (f x)) → (xs : List X) → AllOf P xs → AllOf Q (map f xs)
mapped_all P Q f step [] all = tt
mapped_all P Q f step (x ∷ xs) all = (step x all.0, mapped_all P Q f step xs all.1)

found_in : {X : Type 0} (Q : X → Type 0) (x : X) (rest : Option X) (b : Bool) → (b ≡ true → Q x) → IfSome rest Q → IfSome (cond b (Some x) rest) Q
found_in Q x rest true here later = here refl
found_in Q x rest false here later = later

-- what is found has the property of the list and passes the test
pub found : {X : Type 0} (P Q : X → Type 0) (test : X → Bool) → ((x : X) → P x → test x ≡ true → Q x) → (xs : List X) → AllOf P xs → IfSome (find test xs) Q
found P Q test step [] all = tt
found P Q test step (x ∷ xs) all = found_in Q x (find test xs) (test x) (step x all.0) (found P Q test step xs all.1)

-- one of two, by a test
pub either : {X : Type 0} (P : X → Type 0) (b : Bool) (x y : X) → P x → P y → P (cond b x y)
either P true x y one other = one
either P false x y one other = other

pub either_some : {X : Type 0} (P : X → Type 0) (b : Bool) (x : X) (rest : Option X) → P x → IfSome rest P → IfSome (cond b (Some x) rest) P
either_some P true x rest one other = one
either_some P false x rest one other = other

-- a rule whose condition fails gives nothing
pub if_given : {A : Type 0} (Q : A → Type 0) (b : Bool) (o : Option A) → IfSome o Q → IfSome (cond b o None) Q
if_given Q true o given = given
if_given Q false o given = tt

pub map_given : {X A : Type 0} (Q : A → Type 0) (g : X → A) (o : Option X) → IfSome o (λ x. Q (g x)) → IfSome (option_map g o) Q
map_given Q g None given = tt
map_given Q g (Some x) given = given

-- each option that is there has the property
abbrev pub AllGiven : {A : Type 0} → (A → Type 0) → List (Option A) → Type 0
AllGiven Q [] = ⊤
AllGiven Q (o ∷ os) = IfSome o Q × AllGiven Q os

pub first_given : {A : Type 0} (Q : A → Type 0) (os : List (Option A)) → AllGiven Q os → IfSome (first_some os) Q
first_given Q [] all = tt
first_given Q (Some x ∷ os) all = all.0
first_given Q (None ∷ os) all = first_given Q os all.1
