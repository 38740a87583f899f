-- Files that are named one after another.
use Rattle.std.proofs.Common.{◌≡◌, List, [], ◌∷◌, ◌++◌, map, refl, ap}

pub one_more_file : {A B : Type 0} (f : A → B) (xs : List A) (x : A) → map f (xs ++ x ∷ []) ≡ map f xs ++ f x ∷ []
one_more_file f [] x = refl
one_more_file f (y ∷ xs) x = ap (λ files. f y ∷ files) (one_more_file f xs x)
